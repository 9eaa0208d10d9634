-- What the statements of a proper kernel name is there, in a plan that fits it.
use Rattle.std.proofs.Common.{◌≡◌, refl, sym, ap, ◌∙◌, subst, ℕ, zero, suc, ◌+◌, ◌<◌, ◌≤◌, ◌^◌, Bool, true, false, not, ◌&&◌, ◌==◌, if◌then◌else◌, List, [], ◌∷◌, ◌++◌, length, Option, Some, None, arith}
use Rattle.std.specs.Prelude.{nat_le}
use Rattle.std.specs.List.{list_all, list_any}
use Rattle.std.proofs.lemmas.Bool.{and_parts, false≢true, leb-true, ltb-true}
use Rattle.ceu_base.specs.declared.kinds.Ty.{Ty}
use Rattle.ceu_base.specs.declared.kinds.Ty.TheVariants as ty
use Rattle.ceu_tree.specs.declared.kernel.Kernel.{Kernel}
use Rattle.ceu_tree.specs.declared.kernel.KCode.{KCode}
use Rattle.ceu_tree.specs.declared.kernel.KExp.{KExp}
use Rattle.ceu_tree.specs.declared.kernel.KLoop.{KLoop}
use Rattle.ceu_tree.specs.declared.kernel.KLoop.TheVariants as turns
use Rattle.ceu_tree.specs.declared.kernel.Loc.{Loc}
use Rattle.ceu_tree.specs.declared.kernel.ParKind.{ParKind}
use Rattle.ceu_tree.specs.declared.kernel.ParKind.TheVariants as par
use Rattle.ceu_tree.specs.declared.kernel.KBlock.{KBlock, KBlock', Row_of-KNode, end_of-KNode, more_of-KNode}
use Rattle.ceu_tree.specs.declared.kernel.KArm.{KArm, KArm'}
use Rattle.ceu_tree.specs.declared.kernel.KStmt.{KStmt, Row_of-KArm, end_of-KArm, more_of-KArm, Row_of-KBlock, end_of-KBlock, more_of-KBlock, Nothing, Assign, Out, Emit, AwaitIn, AwaitTime, AwaitEvent, Forever, AwaitCode, Spawn, Kill, Unset, Async, Finalize, Do, Escape, Break, Continue, If', Loop, Par'}
use Rattle.ceu_tree.specs.Mentions.{all_set}
use Rattle.ceu_tree.specs.Needs.{finalizers, nodes_finalizers, pools_gates, block_gates}
use Rattle.ceu_tree.specs.Numbering.{stmt_nodes, block_nodes, arm_nodes, list_nodes, arms_nodes, blocks_nodes, decl_slots, loop_slots, par_slots, range_of, row_length, stmt_slots, block_slots, arm_slots, list_slots, arms_slots, blocks_slots}
use Rattle.ceu_tree.specs.Proper.{Proper, Scope, Aim, DoAim, BodyAim, LoopAim, find, with_decls, with_aim, with_turns, do_aim, in_async, in_finalizer, pools_seen, pool_slots, decl_ok, takes, takes_if, gives, gives_if, gives_all, reads, asks, time_ok, loop_ok, par_ok, is_trail, outside_asyncs, outside_finalizers, is_alias, is_pool_of, escape_ok, is_loop_aim, on_ty, port_ty, event_at, event_seen, on_code, stmt_ok, block_ok, arm_ok, nodes_ok, arms_ok, blocks_ok}
use Rattle.ceu_tree.specs.Typing.{typed, same_ty, is_amount}
use Rattle.ceu_gates.specs.declared.ranges.GateRange.{GateRange}
use Rattle.ceu_gates.specs.Ranges.{starts, stmt_ranges, block_ranges, arm_ranges, nodes_ranges, arms_ranges, blocks_ranges}
use Rattle.ceu_slots.specs.Law.{StmtSized, BlockSized, ArmSized, NodesSized, ArmsSized, BlocksSized}
use Rattle.ceu_shape.specs.Plans.{Plan}
use Rattle.ceu_shape.specs.Searches.{ty_or_none, ty_of_event, ty_of_result, escape_target, pool_size}
use Rattle.laws_code_placed.specs.Fits.{PlanFits, slot_count, node_count}
use Rattle.laws_code_placed.specs.There.{IsSome, SlotThere, TargetThere, KeptThere, ExpThere, TurnsThere, LoopThere, BranchesThere, OwnThere, PartsThere, BlockThere, ArmThere, NodesThere, ArmsThere, BlocksThere}
use Rattle.laws_code_placed.proofs.Slots.{all_split}
use Rattle.laws_code_placed.proofs.Typed.{exp_there}
use Rattle.laws_code_placed.proofs.Scopes.{AllSeen, OuterFine, SlotsThere, reads_there, asks_there, alias_there, pool_there, taken_alias_there, takes_there, takes_if_there, gives_there, gives_if_there, gives_all_there, declared_fine, port_there, event_there, code_there}
use Rattle.laws_code_placed.proofs.GateTables.{Kept, AllKept}
use Rattle.laws_code_placed.proofs.Grounds.{Ground, ground_head, ground_append, block_ground, AimsWithin, escape_within, loop_within, do_within, turns_within}
use Rattle.laws_code_placed.proofs.Declared.{trail_outside, BodiesThere, decls_there, Tables, own_gates_few}
use Rattle.laws_code_placed.proofs.Searched.{turns_seen, turns_place}

module _ (P : Plan) (K : Kernel) (fits : PlanFits P K) (proper : Proper K) (outer : OuterFine P K) (bodies : BodiesThere P K fits proper) (names : List (List ℕ))
    (targets : (node : ℕ) → TargetThere P K (escape_target K node)) (pools : (slot : ℕ) → pool_size K slot ≤ 65535) (table : List ℕ) (code : Option ℕ) (tables : Tables P K fits proper table code) where
  -- a place of this body
  pub record Standing (sc : Scope) : Type 0 where
    pub aims : AimsWithin (node_count K) sc.aims
    pub seen : AllSeen P K sc.seen
    pub code_is : sc.code ≡ code

  -- the numbers of a part
  pub record Part (first : ℕ) (ns ss : List ℕ) (rs : List GateRange) : Type 0 where
    pub nodes : Ground (node_count K) first ns
    pub slots : SlotsThere P K ss
    pub ranges : AllKept P K fits rs

  both_parts : (k : ℕ) (a b c d : List ℕ) (r q : List GateRange) → Part k (a ++ b) (c ++ d) (r ++ q) → Part k a c r × Part (k + length a) b d q
  both_parts k a b c d r q p =
      let n = ground_append (node_count K) k a b p.nodes in
      let s = all_split (SlotThere P K) c d p.slots in
      let g = all_split (Kept P K fits) r q p.ranges in
      (record { nodes = n.0; slots = s.0; ranges = g.0 }, record { nodes = n.1; slots = s.1; ranges = g.1 })

  abbrev InPlace : Scope → Type 0 → Type 0
  InPlace sc X = outside_finalizers sc.place ≡ true → X

  -- ---- a statement without its parts

  abbrev Both : KStmt → Type 0
  Both s = OwnThere P K s × PartsThere P K s

  time_there : (sc : Scope) (e : KExp) (u : _) → AllSeen P K sc.seen → time_ok K sc e u ≡ true → ExpThere P K e
  time_there sc e u h ok =
      (exp_there P K (reads K sc) (asks K sc) (reads_there P K outer sc h) (asks_there P K outer sc h) e (and_parts (typed (reads K sc) (asks K sc) e) (is_amount e.ty) (and_parts (typed (reads K sc) (asks K sc) e && is_amount e.ty) _ ok).0).0).0

  target_of_kept : (t : Option Loc) → KeptThere P K ty.S32 t → TargetThere P K t
  target_of_kept None h = tt
  target_of_kept (Some l) h = h.1

  here_or : (sc : Scope) (m n : ℕ) (t : Ty) (e : KExp) (rest : Bool) → AllSeen P K sc.seen → (rest ≡ true → ExpThere P K e × IsSome e.ty) → (if n == m then gives_if K sc t (Some e) else rest) ≡ true → ExpThere P K e × IsSome e.ty
  here_or sc m n t e rest h more ok = go (n == m) ok
    where
      go : (b : Bool) → (if b then gives_if K sc t (Some e) else rest) ≡ true → ExpThere P K e × IsSome e.ty
      go true ok = gives_there P K outer sc h t e (and_parts (not (same_ty t ty.None)) (gives K sc t e) ok).1
      go false ok = more ok

  -- an escape to something around gives a value that is typed
  escape_typed : (sc : Scope) (m : ℕ) (e : KExp) (aims : List Aim) → AllSeen P K sc.seen → escape_ok K sc m (Some e) aims ≡ true → ExpThere P K e × IsSome e.ty
  escape_typed sc m e [] h ok = absurd (false≢true ok)
  escape_typed sc m e (DoAim n None ∷ aims) h ok = here_or sc m n ty.None e (escape_ok K sc m (Some e) aims) h (λ more. escape_typed sc m e aims h more) ok
  escape_typed sc m e (DoAim n (Some t) ∷ aims) h ok = here_or sc m n t e (escape_ok K sc m (Some e) aims) h (λ more. escape_typed sc m e aims h more) ok
  escape_typed sc m e (BodyAim n t ∷ aims) h ok = here_or sc m n t e (escape_ok K sc m (Some e) aims) h (λ more. escape_typed sc m e aims h more) ok
  escape_typed sc m e (LoopAim n ∷ aims) h ok = escape_typed sc m e aims h ok

  escape_there : (e : KExp) (target : Option Loc) → TargetThere P K target → IsSome e.ty → KeptThere P K e.ty target
  escape_there e None h some = tt
  escape_there e (Some l) h some = (some, h)

  -- the slots of the branches of a par/and
  range_there : (slot n : ℕ) → SlotsThere P K (range_of slot n) → 0 < n → slot + n ≤ slot_count K
  range_there slot zero h some = absurd (omega arith)
  range_there slot (suc zero) h some = omega (arith, h.0)
  range_there slot (suc (suc n)) h some = let more = range_there (slot + 1) (suc n) h.1 (omega arith) in omega (arith, more)

  branches_there : (k : ParKind) (slot n : ℕ) → par_ok K k slot n ≡ true → SlotsThere P K (par_slots k slot n) → BranchesThere P K k slot n
  branches_there par.Never slot n ok h = tt
  branches_there par.Or slot n ok h = tt
  branches_there par.And slot zero ok h = absurd (false≢true ok)
  branches_there par.And slot (suc n) ok h = range_there slot (suc n) h (omega arith)

  two_branches : (k : ParKind) (slot n : ℕ) → par_ok K k slot n ≡ true → 2 ≤ n
  two_branches par.Never slot n ok = leb-true 2 n (and_parts (nat_le 2 n) (slot == 0) ok).0
  two_branches par.Or slot n ok = leb-true 2 n (and_parts (nat_le 2 n) (slot == 0) ok).0
  two_branches par.And slot n ok = leb-true 2 n ok

  loop_there : (sc : Scope) (k : KLoop) → AllSeen P K sc.seen → SlotsThere P K (loop_slots k) → loop_ok K sc k ≡ true → LoopThere P K k × TurnsThere P K k
  loop_there sc turns.Free seen h ok = (tt, tt)
  loop_there sc (turns.Times slot n) seen h ok = ((h.0, ltb-true n (2 ^ 32) ok), tt)
  loop_there sc (turns.Range i next end open_a a b open_b) seen h ok =
      let x = and_parts (gives K sc ty.S32 a) (gives K sc ty.S32 b) ok in
      ((h.0, (h.1.0, h.1.1.0)), ((gives_there P K outer sc seen ty.S32 a x.0).0, (gives_there P K outer sc seen ty.S32 b x.1).0))

  do_target : (sc : Scope) (t : Option Loc) → AllSeen P K sc.seen → (elim t [ None ↦ true | Some l ↦ takes K sc l.ty l ]) ≡ true → TargetThere P K t
  do_target sc None h ok = tt
  do_target sc (Some l) h ok = (takes_there P K outer sc h l.ty l ok).1

  turns_code : (k : KLoop) (sc : Scope) → (with_turns K k sc).code ≡ sc.code
  turns_code turns.Free sc = refl
  turns_code (turns.Times slot n) sc = refl
  turns_code (turns.Range i next end open_a a b open_b) sc = refl

  mutual
    unfolding stmt_ok PartsThere stmt_nodes stmt_slots stmt_ranges StmtSized block_gates

    stmt_there : (sc : Scope) (n g : ℕ) (s : KStmt) → Standing sc → n < node_count K → Part (n + 1) (stmt_nodes s) (stmt_slots s) (stmt_ranges table g s) → InPlace sc (StmtSized P.offset fits.size P.frame s) → stmt_ok K names sc n s ≡ true → Both s
    stmt_there sc n g Nothing at own part sized ok = (tt, tt)
    stmt_there sc n g (Assign l e) at own part sized ok =
        let x = and_parts (takes K sc l.ty l) (gives K sc l.ty e) ok in
        ((takes_there P K outer sc at.seen l.ty l x.0).1, (gives_there P K outer sc at.seen l.ty e x.1).0)
    stmt_there sc n g (Out k e) at own part sized ok =
        let x = and_parts (outside_asyncs sc.place) (on_ty K (port_ty K k K.outputs) (λ t. gives_if K sc t e)) ok in
        let p = port_there P K k K.outputs (λ t. gives_if K sc t e) x.1 in
        (p.0, gives_if_there P K outer sc at.seen (ty_or_none (port_ty K k K.outputs)) e p.1)
    stmt_there sc n g (Emit k e) at own part sized ok =
        let x = and_parts (is_trail sc.place) (on_ty K (event_seen K sc (event_at K k K.events)) (λ t. gives_if K sc t e)) ok in
        let p = event_there P K sc k K.events (λ t. gives_if K sc t e) x.1 in
        (p.0, gives_if_there P K outer sc at.seen (ty_of_event (event_at K k K.events)) e p.1)
    stmt_there sc n g (AwaitIn k t) at own part sized ok =
        let x = and_parts (is_trail sc.place) (on_ty K (port_ty K k K.inputs) (λ u. takes_if K sc u t)) ok in
        let p = port_there P K k K.inputs (λ u. takes_if K sc u t) x.1 in
        ((p.0, takes_if_there P K outer sc at.seen (ty_or_none (port_ty K k K.inputs)) t p.1), tt)
    stmt_there sc n g (AwaitTime e u t) at own part sized ok =
        let x = and_parts (is_trail sc.place && time_ok K sc e u) (takes_if K sc ty.S32 t) ok in
        let y = and_parts (is_trail sc.place) (time_ok K sc e u) x.0 in
        (target_of_kept t (takes_if_there P K outer sc at.seen ty.S32 t x.1), time_there sc e u at.seen y.1)
    stmt_there sc n g (AwaitEvent k t) at own part sized ok =
        let x = and_parts (is_trail sc.place) (on_ty K (event_seen K sc (event_at K k K.events)) (λ u. takes_if K sc u t)) ok in
        let p = event_there P K sc k K.events (λ u. takes_if K sc u t) x.1 in
        ((p.0, takes_if_there P K outer sc at.seen (ty_of_event (event_at K k K.events)) t p.1), tt)
    stmt_there sc n g Forever at own part sized ok = (tt, tt)
    stmt_there sc n g (AwaitCode c es f t) at own part sized ok =
        let test : KCode → Bool = λ (k : KCode). gives_all K sc k.params es && takes_if K sc k.result t in
        let there = code_there P K sc c test (and_parts (is_trail sc.place) (on_code K sc c test) ok).1 in
        let y = and_parts (gives_all K sc there.code.params es) (takes_if K sc there.code.result t) there.holds in
        let kept = takes_if_there P K outer sc at.seen there.code.result t y.1 in
        ((there.within, (part.slots.0, subst (λ (o : Option KCode). KeptThere P K (ty_of_result o) t) (sym there.is) kept)), gives_all_there P K outer sc at.seen there.code.params es y.0)
    stmt_there sc n g (Spawn c es q a) at own part sized ok =
        let test : KCode → Bool = λ (k : KCode). gives_all K sc k.params es in
        let x = and_parts (is_trail sc.place && on_code K sc c test && is_pool_of c (find q sc.seen)) _ ok in
        let y = and_parts (is_trail sc.place && on_code K sc c test) (is_pool_of c (find q sc.seen)) x.0 in
        let there = code_there P K sc c test (and_parts (is_trail sc.place) (on_code K sc c test) y.0).1 in
        ((there.within, (pool_there P K outer sc at.seen c q y.1, (pools q, taken_alias_there P K outer sc at.seen c q a x.1))), gives_all_there P K outer sc at.seen there.code.params es there.holds)
    stmt_there sc n g (Kill c) at own part sized ok = (alias_there P K outer sc at.seen c (and_parts (is_trail sc.place) (is_alias (find c sc.seen)) ok).1, tt)
    stmt_there sc n g (Unset c) at own part sized ok = (alias_there P K outer sc at.seen c (and_parts (is_trail sc.place) (is_alias (find c sc.seen)) ok).1, tt)
    stmt_there sc n g (Async b) at own part sized ok =
        let x = and_parts (is_trail sc.place) (block_ok K names (in_async K sc) b) ok in
        (tt, block_there (in_async K sc) (n + 1) g b (record { aims = tt; seen = at.seen; code_is = at.code_is }) part (λ e. sized (trail_outside sc.place x.0)) x.1)
    stmt_there sc n g (Finalize b) at own part sized ok =
        let x = and_parts (is_trail sc.place) (block_ok K names (in_finalizer K sc) b) ok in
        (tt, block_there (in_finalizer K sc) (n + 1) g b (record { aims = tt; seen = at.seen; code_is = at.code_is }) part (λ e. absurd (false≢true e)) x.1)
    stmt_there sc n g (Do t b) at own part sized ok =
        let x = and_parts _ (block_ok K names (with_aim (do_aim K n t) sc) b) ok in
        let y = and_parts (outside_finalizers sc.place) (elim t [ None ↦ true | Some l ↦ takes K sc l.ty l ]) x.0 in
        (do_target sc t at.seen y.1, block_there (with_aim (do_aim K n t) sc) (n + 1) g b (record { aims = (do_within (node_count K) K n t own, at.aims); seen = at.seen; code_is = at.code_is }) part sized x.1)
    stmt_there sc n g (Escape m None) at own part sized ok =
        let x = and_parts (outside_finalizers sc.place) (escape_ok K sc m None sc.aims) ok in
        ((escape_within (node_count K) K sc m None sc.aims at.aims x.1, (targets m, tt)), tt)
    stmt_there sc n g (Escape m (Some e)) at own part sized ok =
        let x = and_parts (outside_finalizers sc.place) (escape_ok K sc m (Some e) sc.aims) ok in
        let v = escape_typed sc m e sc.aims at.seen x.1 in
        ((escape_within (node_count K) K sc m (Some e) sc.aims at.aims x.1, (targets m, escape_there e (escape_target K m) (targets m) v.1)), v.0)
    stmt_there sc n g (Break m) at own part sized ok =
        let h = loop_within (node_count K) K m sc.aims at.aims (and_parts (outside_finalizers sc.place) (list_any (is_loop_aim K m) sc.aims) ok).1 in
        (omega (arith, h), tt)
    stmt_there sc n g (Continue m) at own part sized ok =
        let h = loop_within (node_count K) K m sc.aims at.aims (and_parts (outside_finalizers sc.place) (list_any (is_loop_aim K m) sc.aims) ok).1 in
        (omega (arith, h), tt)
    stmt_there sc n g (If' _ arms last) at own part sized ok =
        let x = and_parts (outside_finalizers sc.place && arms_ok K names sc arms) (block_ok K names sc last) ok in
        let y = and_parts (outside_finalizers sc.place) (arms_ok K names sc arms) x.0 in
        let parts = both_parts (n + 1) (arms_nodes arms) (block_nodes last) (arms_slots arms) (block_slots last) (arms_ranges table g arms) (block_ranges table g last) part in
        (tt, (arms_there sc (n + 1) g arms at parts.0 (λ e. (sized e).0) y.1, block_there sc (n + 1 + length (arms_nodes arms)) g last at parts.1 (λ e. (sized e).1) x.1))
    stmt_there sc n g (Loop k b) at own part sized ok =
        let inner : Scope = with_aim (LoopAim n) (with_turns K k sc) in
        let x = and_parts (outside_finalizers sc.place && loop_ok K sc k) (block_ok K names inner b) ok in
        let y = and_parts (outside_finalizers sc.place) (loop_ok K sc k) x.0 in
        let s = all_split (SlotThere P K) (loop_slots k) (block_slots b) part.slots in
        let mine = loop_there sc k at.seen s.0 y.1 in
        let head = block_ground (node_count K) (n + 1) b part.nodes in
        let behind : Standing inner = record {
          aims = (omega (arith, head.0, head.1), turns_within (node_count K) K k sc at.aims);
          seen = turns_seen P K fits proper outer bodies names k sc at.seen s.0;
          code_is = turns_code k sc ∙ at.code_is;
        } in (
          mine.0,
          (
            mine.1,
            block_there inner (n + 1) g b behind (record { nodes = part.nodes; slots = s.1; ranges = part.ranges })
                (λ e. (sized (ap outside_finalizers (sym (turns_place P K fits proper outer bodies names k sc)) ∙ e)).1) x.1,
          ),
        )
    stmt_there sc n g (Par' k slot _ bs) at own part sized ok =
        let x = and_parts (is_trail sc.place && par_ok K k slot (row_length bs)) (blocks_ok K names sc bs) ok in
        let s = all_split (SlotThere P K) (par_slots k slot (row_length bs)) (blocks_slots bs) part.slots in
        let test = (and_parts (is_trail sc.place) (par_ok K k slot (row_length bs)) x.0).1 in (
          (two_branches k slot (row_length bs) test, branches_there k slot (row_length bs) test s.0),
          blocks_there sc (n + 1) g bs at (record { nodes = part.nodes; slots = s.1; ranges = part.ranges }) (λ e. (sized e).1) x.1,
        )

    block_there : (sc : Scope) (k g : ℕ) (b : KBlock) → Standing sc → Part k (block_nodes b) (block_slots b) (block_ranges table g b) → InPlace sc (BlockSized P.offset fits.size P.frame b) → block_ok K names sc b ≡ true → BlockThere P K b
    block_there sc k g (KBlock' n ds x list) at part sized ok =
        let y = and_parts (list_all (decl_ok K sc) ds && all_set names ds list) (nodes_ok K names (with_decls ds sc) list) ok in
        let decls = (and_parts (list_all (decl_ok K sc) ds) (all_set names ds list) y.0).0 in
        let head = ground_head (node_count K) k n (list_nodes list) part.nodes in
        let s = all_split (SlotThere P K) (decl_slots ds) (list_slots list) part.slots in
        let here : Tables P K fits proper table sc.code = subst (λ (o : Option ℕ). Tables P K fits proper table o) (sym at.code_is) tables in
        let first : ℕ = g + (nodes_finalizers list + pools_gates table ds) in (
          record { here = head.1.0; decls = decls_there P K fits proper sc ds bodies s.0 decls (λ e. (sized e).0); gates = own_gates_few P K fits proper table sc g n ds list here decls part.ranges.0 },
          nodes_there (with_decls ds sc) (k + 1) g first list (record { aims = at.aims; seen = declared_fine P K sc (pool_slots ds ++ pools_seen sc.seen) ds sc.seen decls s.0 at.seen; code_is = at.code_is })
              (record { nodes = head.1.1; slots = s.1; ranges = part.ranges.1 }) (λ e. (sized e).1) y.1,
        )

    arm_there : (sc : Scope) (k g : ℕ) (a : KArm) → Standing sc → Part k (arm_nodes a) (arm_slots a) (arm_ranges table g a) → InPlace sc (ArmSized P.offset fits.size P.frame a) → arm_ok K names sc a ≡ true → ArmThere P K a
    arm_there sc k g (KArm' c b) at part sized ok =
        let x = and_parts (gives K sc ty.Bool c) (block_ok K names sc b) ok in
        ((gives_there P K outer sc at.seen ty.Bool c x.0).0, block_there sc k g b at part sized x.1)

    nodes_there : {n : _} (sc : Scope) (k f g : ℕ) (rows : Row_of-KNode n) → Standing sc → Part k (list_nodes rows) (list_slots rows) (nodes_ranges table f g rows) → InPlace sc (NodesSized P.offset fits.size P.frame rows) → nodes_ok K names sc rows ≡ true → NodesThere P K rows
    nodes_there sc k f g end_of-KNode at part sized ok = tt
    nodes_there sc k f g (more_of-KNode n p s rest) at part sized ok =
        let x = and_parts _ (nodes_ok K names sc rest) ok in
        let head = ground_head (node_count K) k n (stmt_nodes s ++ list_nodes rest) part.nodes in
        let behind : Part (k + 1) (stmt_nodes s ++ list_nodes rest) (stmt_slots s ++ list_slots rest) (stmt_ranges table (starts f g s) s ++ nodes_ranges table (f + finalizers s) g rest) =
        record { nodes = head.1.1; slots = part.slots; ranges = part.ranges.1 } in
        let parts = both_parts (k + 1) (stmt_nodes s) (list_nodes rest) (stmt_slots s) (list_slots rest) (stmt_ranges table (starts f g s) s) (nodes_ranges table (f + finalizers s) g rest) behind in
        let mine : Part (n + 1) (stmt_nodes s) (stmt_slots s) (stmt_ranges table (starts f g s) s) = subst (λ (j : ℕ). Part (j + 1) (stmt_nodes s) (stmt_slots s) (stmt_ranges table (starts f g s) s)) (sym head.0) parts.0 in
        let both = stmt_there sc n (starts f g s) s at head.1.0 mine (λ e. (sized e).0) (and_parts _ (stmt_ok K names sc n s) x.0).1 in
        ((head.1.0, (both.0, both.1)), nodes_there sc (k + 1 + length (stmt_nodes s)) (f + finalizers s) g rest at parts.1 (λ e. (sized e).1) x.1)

    arms_there : {n : _} (sc : Scope) (k g : ℕ) (rows : Row_of-KArm n) → Standing sc → Part k (arms_nodes rows) (arms_slots rows) (arms_ranges table g rows) → InPlace sc (ArmsSized P.offset fits.size P.frame rows) → arms_ok K names sc rows ≡ true → ArmsThere P K rows
    arms_there sc k g end_of-KArm at part sized ok = tt
    arms_there sc k g (more_of-KArm a rest) at part sized ok =
        let x = and_parts (arm_ok K names sc a) (arms_ok K names sc rest) ok in
        let parts = both_parts k (arm_nodes a) (arms_nodes rest) (arm_slots a) (arms_slots rest) (arm_ranges table g a) (arms_ranges table g rest) part in
        (arm_there sc k g a at parts.0 (λ e. (sized e).0) x.0, arms_there sc (k + length (arm_nodes a)) g rest at parts.1 (λ e. (sized e).1) x.1)

    blocks_there : {n : _} (sc : Scope) (k g : ℕ) (rows : Row_of-KBlock n) → Standing sc → Part k (blocks_nodes rows) (blocks_slots rows) (blocks_ranges table g rows) → InPlace sc (BlocksSized P.offset fits.size P.frame rows) → blocks_ok K names sc rows ≡ true → BlocksThere P K rows
    blocks_there sc k g end_of-KBlock at part sized ok = tt
    blocks_there sc k g (more_of-KBlock b rest) at part sized ok =
        let x = and_parts (block_ok K names sc b) (blocks_ok K names sc rest) ok in
        let parts = both_parts k (block_nodes b) (blocks_nodes rest) (block_slots b) (blocks_slots rest) (block_ranges table g b) (blocks_ranges table (g + block_gates table b) rest) part in
        (block_there sc k g b at parts.0 (λ e. (sized e).0) x.0, blocks_there sc (k + length (block_nodes b)) (g + block_gates table b) rest at parts.1 (λ e. (sized e).1) x.1)

  pub body_there : (sc : Scope) (k g : ℕ) (b : KBlock) → Standing sc → Part k (block_nodes b) (block_slots b) (block_ranges table g b) → InPlace sc (BlockSized P.offset fits.size P.frame b) → block_ok K names sc b ≡ true → BlockThere P K b
  body_there sc k g b at part sized ok = block_there sc k g b at part sized ok
