-- What stands in a draft has its targets around it, and what is around it there.
use Rattle.std.proofs.Common.{◌≡◌, refl, sym, ap, ◌∙◌, subst, ℕ, ◌+◌, ◌≤◌, ◌<◌, arith, List, [], ◌∷◌, ◌++◌, Option, Some, None, Bool, true, false}
use Rattle.std.specs.Prelude.{IsTrue, ◌==◌, ◌||◌, if◌then◌else◌, bytes_eq}
use Rattle.std.specs.List.{list_any}
use Rattle.std.specs.Option.{option_or}
use Rattle.std.proofs.lemmas.Bool.Decides.{Decides-eqb}
use Rattle.ceu_base.specs.declared.kinds.Ty.{Ty}
use Rattle.ceu_base.specs.declared.kinds.Ty.TheVariants as ty
use Rattle.ceu_base.specs.declared.kinds.Pos.{Pos}
use Rattle.ceu_tree.specs.declared.source.Ident.{Ident}
use Rattle.ceu_tree.specs.declared.source.Label.{Label}
use Rattle.ceu_tree.specs.declared.source.Label.TheVariants as label
use Rattle.ceu_tree.specs.declared.kernel.Loc.{Loc}
use Rattle.ceu_tree.specs.declared.kernel.KNode.{KNode}
use Rattle.ceu_tree.specs.declared.kernel.KDecl.{KDecl}
use Rattle.ceu_tree.specs.declared.kernel.KKind.{KKind}
use Rattle.ceu_tree.specs.declared.kernel.KArm.{KArm}
use Rattle.ceu_tree.specs.declared.kernel.ParKind.{ParKind}
use Rattle.ceu_tree.specs.declared.kernel.KBlock.{KBlock, roll-KBlock, Row_of-KNode, end_of-KNode, more_of-KNode, items-the_row-KNode, items_hidden-the_row-KNode-2}
use Rattle.ceu_tree.specs.declared.kernel.KStmt as kernel
use Rattle.ceu_tree.specs.declared.kernel.KStmt.{KStmt, Row_of-KArm, end_of-KArm, more_of-KArm, items-the_row-KArm, items_hidden-the_row-KArm-0, items_hidden-the_row-KBlock-1, Row_of-KBlock, end_of-KBlock, more_of-KBlock, items-the_row-KBlock}
use Rattle.ceu_tree.specs.declared.kernel.KStmt.TheBlock.{hidden-the_row-KArm-0, hidden-the_row-KBlock-1, hidden-the_row-KNode-2}
use Rattle.ceu_tree.specs.Proper.{Aim, DoAim, BodyAim, LoopAim, Where, InsideAsync, InFinalizer, is_trail, outside_finalizers}
use Rattle.ceu_scopes.specs.declared.known.Scopes.{Scopes}
use Rattle.ceu_types.specs.declared.found.Found.{Found}
use Rattle.ceu_types.specs.declared.found.LabelTarget.{LabelTarget}
use Rattle.ceu_types.specs.declared.around.Around as types_around
use Rattle.ceu_types.specs.Around as types
use Rattle.ceu_types.specs.Around.{label_takes, takes_if_named, loop_around, do_around, async_around}
use Rattle.ceu_expand.specs.declared.around.Around as draft_around
use Rattle.ceu_expand.specs.declared.draft.Draft.{Draft}
use Rattle.ceu_expand.specs.declared.draft.LabelNode.{LabelNode}
use Rattle.ceu_expand.specs.Draft as draft
use Rattle.ceu_expand.specs.Draft.{in_loop, in_do, begun, placed, declared, outside, opened, written, closed, block_of, around_block}
use Rattle.ceu_expand.specs.Uses.{node_or, label_node}
use Rattle.laws_kernel_shape.specs.Shaped.{AllOf}
use Rattle.laws_kernel_shape.proofs.Good.{all_append}
use Rattle.laws_kernel_shape.specs.Exits.{taken_at, is_loop, aim_of, DeclStands, StmtStands, BlockStands, ArmStands, NodesStand, ArmsStand, BlocksStand}
use Rattle.laws_kernel_shape.proofs.Beside.{Level, Step}
use denote.Hole.Carrier

abbrev pub NodeStands : Where → List Aim → KNode → Type 0
NodeStands place aims x = StmtStands place aims x.node x.stmt

pub record Holds (place : Where) (aims : List Aim) (d : Draft) : Type 0 where
  pub decls : AllOf (DeclStands place) d.parts.decls
  pub list : AllOf (NodeStands place aims) d.parts.list

module _ (place : Where) (aims : List Aim) where
  -- ---- lists of a kernel

  nodes_row : {n : _} (r : Row_of-KNode n) → AllOf (NodeStands place aims) (items-the_row-KNode n r) → NodesStand place aims r
  unfolding StmtStands
  nodes_row end_of-KNode h = tt
  nodes_row (more_of-KNode n p s rest) h = (h.0, nodes_row rest h.1)

  arms_row : {n : _} (r : Row_of-KArm n) → AllOf (ArmStands place aims) (items-the_row-KArm n r) → ArmsStand place aims r
  unfolding StmtStands
  arms_row end_of-KArm h = tt
  arms_row (more_of-KArm a rest) h = (h.0, arms_row rest h.1)

  blocks_row : {n : _} (r : Row_of-KBlock n) → AllOf (BlockStands place aims) (items-the_row-KBlock n r) → BlocksStand place aims r
  unfolding StmtStands
  blocks_row end_of-KBlock h = tt
  blocks_row (more_of-KBlock b rest) h = (h.0, blocks_row rest h.1)

  pub rolled_stands : (n : ℕ) (ds : List KDecl) (list : List KNode) → AllOf (DeclStands place) ds → AllOf (NodeStands place aims) list → BlockStands place aims (roll-KBlock (record { node = n; decls = ds; list = list }))
  unfolding StmtStands roll-KBlock Carrier.roll
  rolled_stands n ds list h k = (h, nodes_row (hidden-the_row-KNode-2 list) (subst (AllOf (NodeStands place aims)) (sym (items_hidden-the_row-KNode-2 list)) k))

  pub if_stands : (n : ℕ) (arms : List KArm) (last : KBlock) → IsTrue (outside_finalizers place) → AllOf (ArmStands place aims) arms → BlockStands place aims last → StmtStands place aims n (kernel.If arms last)
  unfolding StmtStands
  if_stands n arms last o h k = (o, arms_row (hidden-the_row-KArm-0 arms) (subst (AllOf (ArmStands place aims)) (sym (items_hidden-the_row-KArm-0 arms)) h), k)

  pub par_stands : (n : ℕ) (kind : ParKind) (slot : ℕ) (bs : List KBlock) → IsTrue (is_trail place) → AllOf (BlockStands place aims) bs → StmtStands place aims n (kernel.Par kind slot bs)
  unfolding StmtStands
  par_stands n kind slot bs o h = (o, blocks_row (hidden-the_row-KBlock-1 bs) (subst (AllOf (BlockStands place aims)) (sym (items_hidden-the_row-KBlock-1 bs)) h))

  -- ---- drafts

  pub holds_as : (d e : Draft) → e.parts ≡ d.parts → Holds place aims d → Holds place aims e
  holds_as d e same h =
      record {
        decls = subst (λ ps. AllOf (DeclStands place) ps) (sym (ap (λ p. p.decls) same)) h.decls;
        list = subst (λ ps. AllOf (NodeStands place aims) ps) (sym (ap (λ p. p.list) same)) h.list;
      }

  pub holds_placed : (n : ℕ) (p : Pos) (st : KStmt) (d e : Draft) → e.parts ≡ d.parts → StmtStands place aims n st → Holds place aims d → Holds place aims (placed n p st e)
  unfolding placed
  holds_placed n p st d e same k h =
      let g : Holds place aims e = holds_as d e same h in
      record { decls = g.decls; list = all_append (NodeStands place aims) e.parts.list _ g.list k }

  pub holds_declared : (k : KKind) (x : Ident) (d : Draft) → DeclStands place (record { slot = d.parts.slot; kind = k; name = x.name; pos = x.pos }) → Holds place aims d → Holds place aims (declared k x d)
  unfolding declared
  holds_declared k x d o h = record { decls = all_append (DeclStands place) d.parts.decls _ h.decls o; list = h.list }

  pub holds_opened : (n : ℕ) (d : Draft) → Holds place aims (opened n d)
  unfolding opened
  holds_opened n d = record { decls = tt; list = tt }

  pub holds_block : (n : ℕ) (f : Draft → Draft) (d : Draft) → Holds place aims (f (opened n d)) → BlockStands place aims (block_of n f d)
  unfolding outside written
  holds_block n f d h = rolled_stands d.node (f (opened n d)).parts.decls (f (opened n d)).parts.list h.decls h.list

pub around_parts : (n : ℕ) (f : Draft → Draft) (d : Draft) → (around_block n f d).parts ≡ d.parts
unfolding outside closed
around_parts n f d = refl

-- ---- targets by their nodes

abbrev pub AimBelow : ℕ → Aim → Type 0
AimBelow k (DoAim m t) = m < k
AimBelow k (BodyAim m t) = m < k
AimBelow k (LoopAim m) = m < k

below_up : (j k : ℕ) → j ≤ k → (a : Aim) → AimBelow j a → AimBelow k a
below_up j k le (DoAim m t) h = omega (arith, le, h)
below_up j k le (BodyAim m t) h = omega (arith, le, h)
below_up j k le (LoopAim m) h = omega (arith, le, h)

pub all_up : (j k : ℕ) → j ≤ k → (aims : List Aim) → AllOf (AimBelow j) aims → AllOf (AimBelow k) aims
all_up j k le [] h = tt
all_up j k le (a ∷ aims) h = (below_up j k le a h.0, all_up j k le aims h.1)

at_node : (b : Bool) (m n k : ℕ) (u : Ty) (rest : Option Ty) (t : Ty) → (b ≡ true → m ≡ n) → m < k → (rest ≡ Some t → n < k) → (if b then Some u else rest) ≡ Some t → n < k
at_node true m n k u rest t same le further h = let e = same refl in omega (arith, e, le)
at_node false m n k u rest t same le further h = further h

-- a target has one of the nodes so far
pub taken_below : (n k : ℕ) (t : Ty) (aims : List Aim) → AllOf (AimBelow k) aims → taken_at n aims ≡ Some t → n < k
taken_below n k t [] b h = absurd (cc)
taken_below n k t (DoAim m None ∷ aims) b h = at_node (m == n) m n k ty.None (taken_at n aims) t (Decides-eqb m n).0 b.0 (taken_below n k t aims b.1) h
taken_below n k t (DoAim m (Some u) ∷ aims) b h = at_node (m == n) m n k u (taken_at n aims) t (Decides-eqb m n).0 b.0 (taken_below n k t aims b.1) h
taken_below n k t (BodyAim m u ∷ aims) b h = at_node (m == n) m n k u (taken_at n aims) t (Decides-eqb m n).0 b.0 (taken_below n k t aims b.1) h
taken_below n k t (LoopAim m ∷ aims) b h = taken_below n k t aims b.1 h

differs : (m n : ℕ) → n < m → (m == n) ≡ false
differs m n h = by_test (m == n) (Decides-eqb m n).0
  where
    by_test : (b : Bool) → (b ≡ true → m ≡ n) → b ≡ false
    by_test false same = refl
    by_test true same = let e = same refl in absurd (omega (arith, e, h))

further_on : (b : Bool) (u : Ty) (rest r : Option Ty) → b ≡ false → rest ≡ r → (if b then Some u else rest) ≡ r
further_on false u rest r e h = h
further_on true u rest r e h = absurd (cc)

here : (b : Bool) (u : Ty) (rest : Option Ty) → b ≡ true → (if b then Some u else rest) ≡ Some u
here true u rest e = refl
here false u rest e = absurd (cc)

abbrev pub value_of : Option Loc → Ty
value_of None = ty.None
value_of (Some l) = l.ty

-- an older target stays where it was, behind a new one
taken_behind : (n m : ℕ) (into : Option Loc) (t : Ty) (aims : List Aim) → n < m → taken_at n aims ≡ Some t → taken_at n (aim_of m into ∷ aims) ≡ Some t
taken_behind n m None t aims lt h = further_on (m == n) ty.None (taken_at n aims) (Some t) (differs m n lt) h
taken_behind n m (Some l) t aims lt h = further_on (m == n) l.ty (taken_at n aims) (Some t) (differs m n lt) h

taken_here : (m : ℕ) (into : Option Loc) (aims : List Aim) → taken_at m (aim_of m into ∷ aims) ≡ Some (value_of into)
taken_here m None aims = here (m == m) ty.None (taken_at m aims) ((Decides-eqb m m).1 refl)
taken_here m (Some l) aims = here (m == m) l.ty (taken_at m aims) ((Decides-eqb m m).1 refl)

any_behind : (p : Aim → Bool) (a : Aim) (aims : List Aim) → list_any p aims ≡ true → list_any p (a ∷ aims) ≡ true
any_behind p a aims h = or_right (p a) (list_any p aims) h
  where
    or_right : (b c : Bool) → c ≡ true → (b || c) ≡ true
    or_right true c h = refl
    or_right false c h = h

any_here : (p : Aim → Bool) (a : Aim) (aims : List Aim) → p a ≡ true → list_any p (a ∷ aims) ≡ true
any_here p a aims h = or_left (p a) (list_any p aims) h
  where
    or_left : (b c : Bool) → b ≡ true → (b || c) ≡ true
    or_left true c h = refl
    or_left false c h = absurd (cc)

-- ---- labels

takes_last : (ls : List LabelTarget) (l : LabelTarget) (x : List ℕ) → label_takes (ls ++ l ∷ []) x ≡ option_or (takes_if_named l x) (label_takes ls x)
unfolding label_takes
takes_last [] l x = by_name (takes_if_named l x)
  where
    by_name : (r : Option Ty) → option_or None r ≡ option_or r None
    by_name None = refl
    by_name (Some t) = refl
takes_last (m ∷ ls) l x = ap (λ r. option_or r (takes_if_named m x)) (takes_last ls l x) ∙ by_parts (takes_if_named l x) (label_takes ls x) (takes_if_named m x)
  where
    by_parts : (a b c : Option Ty) → option_or (option_or a b) c ≡ option_or a (option_or b c)
    by_parts None b c = refl
    by_parts (Some t) b c = refl

node_last : (ls : List LabelNode) (l : LabelNode) (x : List ℕ) (n : ℕ) → label_node (ls ++ l ∷ []) x n ≡ node_or l x (label_node ls x n)
unfolding label_node
node_last [] l x n = refl
node_last (m ∷ ls) l x n = node_last ls l x (node_or m x n)

pub dropped_target : (ls : List LabelTarget) (l : LabelTarget) → types.all_but_last (ls ++ l ∷ []) ≡ ls
dropped_target [] l = refl
dropped_target (m ∷ []) l = refl
dropped_target (m ∷ k ∷ ls) l = ap (λ r. m ∷ r) (dropped_target (k ∷ ls) l)

pub dropped_node : (ls : List LabelNode) (l : LabelNode) → draft.all_but_last (ls ++ l ∷ []) ≡ ls
dropped_node [] l = refl
dropped_node (m ∷ []) l = refl
dropped_node (m ∷ k ∷ ls) l = ap (λ r. m ∷ r) (dropped_node (k ∷ ls) l)

-- ---- what is around a statement, in the text and in its kernel

module _ (s : Scopes) where
  pub record Rel (place : Where) (aims : List Aim) (a : types_around.Around) (b : draft_around.Around) (f : Found) (d : Draft) : Type 0 where
    pub level : Level s f d
    pub plain : outside_finalizers place ≡ true → (t : Ty) → a.plain ≡ Some t → taken_at b.plain aims ≡ Some t
    pub turns : outside_finalizers place ≡ true → a.in_loop ≡ true → list_any (is_loop b.turns) aims ≡ true
    pub labels : outside_finalizers place ≡ true → (x : List ℕ) (t : Ty) → label_takes f.labels x ≡ Some t → taken_at (label_node d.labels x 0) aims ≡ Some t
    pub fresh : AllOf (AimBelow d.node) aims

  module _ (place : Where) (aims : List Aim) (a : types_around.Around) (b : draft_around.Around) where
    pub rel_step : (f g : Found) (d e : Draft) → Step s f d g e → Rel place aims a b f d → Rel place aims a b g e
    rel_step f g d e step h =
        record {
          level = step.level h.level;
          plain = h.plain;
          turns = h.turns;
          labels = λ o x t k.
              subst (λ ls. taken_at (label_node ls x 0) aims ≡ Some t) (sym step.node_labels) (h.labels o x t (subst (λ ls. label_takes ls x ≡ Some t) step.labels k));
          fresh = all_up d.node e.node step.up aims h.fresh;
        }

    -- ---- inside a loop

    pub rel_loop : (f : Found) (d : Draft) → Rel place aims a b f d → Rel place (LoopAim d.node ∷ aims) (loop_around a) (in_loop d.node b) f (begun d)
    unfolding in_loop begun
    rel_loop f d h =
        record {
          level = h.level;
          plain = h.plain;
          turns = λ o i. any_here (is_loop d.node) (LoopAim d.node) aims ((Decides-eqb d.node d.node).1 refl);
          labels = h.labels;
          fresh = (omega arith, all_up d.node (d.node + 1) (omega arith) aims h.fresh);
        }

    -- ---- inside a `do`

    do_fresh : (into : Option Loc) (k : ℕ) → AllOf (AimBelow k) aims → AllOf (AimBelow (k + 1)) (aim_of k into ∷ aims)
    do_fresh None k h = (omega arith, all_up k (k + 1) (omega arith) aims h)
    do_fresh (Some l) k h = (omega arith, all_up k (k + 1) (omega arith) aims h)

    named_at : (same : Bool) (k m : ℕ) (into : Option Loc) (older : Option Ty) (t : Ty) → AllOf (AimBelow k) aims → (older ≡ Some t → taken_at m aims ≡ Some t) →
        option_or (if same then Some (value_of into) else None) older ≡ Some t → taken_at (if same then k else m) (aim_of k into ∷ aims) ≡ Some t
    named_at true k m into older t fresh r h = taken_here k into aims ∙ h
    named_at false k m into older t fresh r h = taken_behind m k into t aims (taken_below m k t aims fresh (r h)) (r h)

    pub rel_do : (l : Label) (into : Option Loc) (u : Ty) → u ≡ value_of into → (f : Found) (d : Draft) → Rel place aims a b f d →
        Rel place (aim_of d.node into ∷ aims) (do_around l u a) (in_do l d.node b) (types.labelled l u f) (draft.labelled l d.node (begun d))
    unfolding do_around in_do types.labelled draft.labelled begun node_or
    rel_do label.Plain into u same f d h =
        record {
          level = h.level;
          plain = λ o t k. taken_here d.node into aims ∙ ap Some (sym same) ∙ k;
          turns = λ o i. any_behind (is_loop b.turns) (aim_of d.node into) aims (h.turns o i);
          labels = λ o x t k. taken_behind (label_node d.labels x 0) d.node into t aims (taken_below (label_node d.labels x 0) d.node t aims h.fresh (h.labels o x t k)) (h.labels o x t k);
          fresh = do_fresh into d.node h.fresh;
        }
    rel_do label.Under into u same f d h =
        record {
          level = h.level;
          plain = λ o t k. taken_behind b.plain d.node into t aims (taken_below b.plain d.node t aims h.fresh (h.plain o t k)) (h.plain o t k);
          turns = λ o i. any_behind (is_loop b.turns) (aim_of d.node into) aims (h.turns o i);
          labels = λ o x t k. taken_behind (label_node d.labels x 0) d.node into t aims (taken_below (label_node d.labels x 0) d.node t aims h.fresh (h.labels o x t k)) (h.labels o x t k);
          fresh = do_fresh into d.node h.fresh;
        }
    rel_do (label.Named l) into u same f d h =
        record {
          level = h.level;
          plain = λ o t k. taken_behind b.plain d.node into t aims (taken_below b.plain d.node t aims h.fresh (h.plain o t k)) (h.plain o t k);
          turns = λ o i. any_behind (is_loop b.turns) (aim_of d.node into) aims (h.turns o i);
          labels = λ o x t k.
              let new : LabelTarget = record { name = l.name; takes = u } in
              let node : LabelNode = record { name = l.name; node = d.node } in
              let now : option_or (if bytes_eq l.name x then Some (value_of into) else None) (label_takes f.labels x) ≡ Some t =
              ap (λ v. option_or (if bytes_eq l.name x then Some v else None) (label_takes f.labels x)) (sym same) ∙ sym (takes_last f.labels new x) ∙ k in
              subst (λ n. taken_at n (aim_of d.node into ∷ aims) ≡ Some t) (sym (node_last d.labels node x 0))
              (named_at (bytes_eq l.name x) d.node (label_node d.labels x 0) into (label_takes f.labels x) t h.fresh (h.labels o x t) now);
          fresh = do_fresh into d.node h.fresh;
        }

  -- ---- inside an async, a finalizer

  pub rel_async : (b : draft_around.Around) (f : Found) (d : Draft) → f.labels ≡ [] → Level s f d → Rel InsideAsync [] async_around b f d
  unfolding label_takes
  rel_async b f d none level =
      record {
        level = level;
        plain = λ o t k. absurd (cc);
        turns = λ o i. absurd (cc);
        labels = λ o x t k. let e : label_takes [] x ≡ Some t = subst (λ ls. label_takes ls x ≡ Some t) none k in absurd (cc);
        fresh = tt;
      }

  pub rel_finalizer : (a : types_around.Around) (b : draft_around.Around) (f : Found) (d : Draft) → Level s f d → Rel InFinalizer [] a b f d
  rel_finalizer a b f d level =
      record { level = level; plain = λ o t k. absurd (cc); turns = λ o i. absurd (cc); labels = λ o x t k. absurd (cc); fresh = tt }
