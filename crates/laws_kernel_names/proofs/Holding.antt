-- A step of the walk and the draft by which the block around names what is visible.
use Rattle.std.proofs.Common.{◌≡◌, refl, sym, ap, subst, ℕ, ◌+◌, arith, List, Result, Ok}
use Rattle.std.specs.Prelude.{⊤}
use Rattle.ceu_base.specs.declared.kinds.Pos.{Pos}
use Rattle.ceu_tree.specs.declared.kernel.KNode.{KNode}
use Rattle.ceu_tree.specs.declared.kernel.KDecl.{KDecl}
use Rattle.ceu_tree.specs.declared.kernel.KArm.{KArm}
use Rattle.ceu_tree.specs.declared.kernel.ParKind.{ParKind}
use Rattle.ceu_tree.specs.declared.kernel.KBlock.{KBlock, roll-KBlock, Row_of-KNode, end_of-KNode, more_of-KNode, items-the_row-KNode, items_hidden-the_row-KNode-2}
use Rattle.ceu_tree.specs.declared.kernel.KStmt as kernel
use Rattle.ceu_tree.specs.declared.kernel.KStmt.{KStmt, Row_of-KArm, end_of-KArm, more_of-KArm, items-the_row-KArm, items_hidden-the_row-KArm-0, items_hidden-the_row-KBlock-1, Row_of-KBlock, end_of-KBlock, more_of-KBlock, items-the_row-KBlock}
use Rattle.ceu_tree.specs.declared.kernel.KStmt.TheBlock.{hidden-the_row-KArm-0, hidden-the_row-KBlock-1, hidden-the_row-KNode-2}
use Rattle.ceu_scopes.specs.declared.known.Scopes.{Scopes}
use Rattle.ceu_scopes.specs.declared.walk.Walk.{Walk}
use Rattle.ceu_scopes.specs.Walk.{Broken, ◌>>=◌}
use Rattle.ceu_types.specs.declared.typing.Types.{Types}
use Rattle.ceu_expand.specs.declared.draft.Draft.{Draft}
use Rattle.ceu_expand.specs.Draft as draft
use Rattle.ceu_expand.specs.Draft.{in_loop, in_do, begun, hidden, placed, outside, written, block_of, around_block, standing, event_declared, input_declared, output_declared, own}
use Rattle.ceu_expand.specs.Parts.{simple}
use Rattle.laws_kernel_shape.specs.Shaped.{AllOf}
use Rattle.laws_kernel_shape.proofs.Good.{all_append}
use Rattle.laws_kernel_shape.proofs.Steps.{Always, always_then}
use denote.Hole.Carrier
use Rattle.ceu_tree.specs.Proper.{Seen}
use Rattle.laws_kernel_shape.proofs.Frames.{frame}
use Rattle.laws_kernel_names.specs.Sees.{seen_with, StmtSeen, BlockSeen, ArmSeen, NodesSeen, ArmsSeen, BlocksSeen}
use Rattle.laws_kernel_names.proofs.Seeing.{Fits, Begun, Both, Step, step_then, Goes, calm_step}
use Rattle.laws_kernel_names.proofs.Looking.{Gives, still, still_made}

-- ---- kernels

abbrev pub NodeIs : List Seen → KNode → Type 0
NodeIs view x = StmtSeen view x.stmt

abbrev pub Holds : List Seen → Draft → Type 0
Holds view d = AllOf (NodeIs view) d.parts.list

module _ (view : List Seen) where
  pub nodes_row : {n : _} (r : Row_of-KNode n) → AllOf (NodeIs view) (items-the_row-KNode n r) → NodesSeen view r
  unfolding StmtSeen
  nodes_row end_of-KNode h = tt
  nodes_row (more_of-KNode n p s rest) h = (h.0, nodes_row rest h.1)

  arms_row : {n : _} (r : Row_of-KArm n) → AllOf (ArmSeen view) (items-the_row-KArm n r) → ArmsSeen view r
  unfolding StmtSeen
  arms_row end_of-KArm h = tt
  arms_row (more_of-KArm a rest) h = (h.0, arms_row rest h.1)

  blocks_row : {n : _} (r : Row_of-KBlock n) → AllOf (BlockSeen view) (items-the_row-KBlock n r) → BlocksSeen view r
  unfolding StmtSeen
  blocks_row end_of-KBlock h = tt
  blocks_row (more_of-KBlock b rest) h = (h.0, blocks_row rest h.1)

  pub if_seen : (arms : List KArm) (last : KBlock) → AllOf (ArmSeen view) arms → BlockSeen view last → StmtSeen view (kernel.If arms last)
  unfolding StmtSeen
  if_seen arms last h k = (arms_row (hidden-the_row-KArm-0 arms) (subst (AllOf (ArmSeen view)) (sym (items_hidden-the_row-KArm-0 arms)) h), k)

  pub par_seen : (kind : ParKind) (slot : ℕ) (bs : List KBlock) → AllOf (BlockSeen view) bs → StmtSeen view (kernel.Par kind slot bs)
  unfolding StmtSeen
  par_seen kind slot bs h = blocks_row (hidden-the_row-KBlock-1 bs) (subst (AllOf (BlockSeen view)) (sym (items_hidden-the_row-KBlock-1 bs)) h)

  holds_placed : (n : ℕ) (p : Pos) (st : KStmt) (d e : Draft) → e.parts ≡ d.parts → StmtSeen view st → Holds view d → Holds view (placed n p st e)
  unfolding placed
  holds_placed n p st d e same k h = all_append (NodeIs view) e.parts.list _ (subst (λ ps. AllOf (NodeIs view) ps) (sym (ap (λ p. p.list) same)) h) k

  pub holds_as : (d e : Draft) → e.parts.list ≡ d.parts.list → Holds view d → Holds view e
  holds_as d e same h = subst (λ ps. AllOf (NodeIs view) ps) (sym same) h

rolled_seen : (view : List Seen) (n : ℕ) (ds : List KDecl) (list : List KNode) → AllOf (NodeIs (seen_with ds view)) list → BlockSeen view (roll-KBlock (record { node = n; decls = ds; list = list }))
unfolding StmtSeen roll-KBlock Carrier.roll
rolled_seen view n ds list k = nodes_row (seen_with ds view) (hidden-the_row-KNode-2 list) (subst (AllOf (NodeIs (seen_with ds view))) (sym (items_hidden-the_row-KNode-2 list)) k)

pub holds_block : (view : List Seen) (n : ℕ) (f : Draft → Draft) (d : Draft) → Holds (seen_with (f (draft.opened n d)).parts.decls view) (f (draft.opened n d)) → BlockSeen view (block_of n f d)
unfolding outside written
holds_block view n f d h = rolled_seen view d.node (f (draft.opened n d)).parts.decls (f (draft.opened n d)).parts.list h

pub holds_opened : (view : List Seen) (n : ℕ) (d : Draft) → Holds view (draft.opened n d)
unfolding draft.opened
holds_opened view n d = tt

pub parts_of : (d e : Draft) → frame e ≡ frame d → e.parts ≡ d.parts
parts_of d e h = ap (λ (x : Draft). x.parts) h

pub slot_of : (d e : Draft) → frame e ≡ frame d → e.slot ≡ d.slot
slot_of d e h = ap (λ (x : Draft). x.slot) h

pub parts_hid : (n : ℕ) (d : Draft) → (hidden n d).parts ≡ d.parts
unfolding hidden
parts_hid n d = refl

pub always_map : {A : Type 0} (P Q : A → Type 0) (x : Result A Broken) → ((a : A) → P a → Q a) → Always P x → Always Q x
always_map P Q x f h a e = f a (h a e)

pub parts_begun : (d : Draft) → (begun d).parts ≡ d.parts
unfolding begun
parts_begun d = refl

pub around_parts : (n : ℕ) (f : Draft → Draft) (d : Draft) → (around_block n f d).parts ≡ d.parts
unfolding outside draft.closed
around_parts n f d = refl

-- what a block leaves
pub record Left (n : ℕ) (f : Draft → Draft) (d : Draft) : Type 0 where
  pub uses : (around_block n f d).uses ≡ (f (draft.opened n d)).uses
  pub numbers : (around_block n f d).numbers ≡ (f (draft.opened n d)).numbers
  pub slot : (around_block n f d).slot ≡ (f (draft.opened n d)).slot

pub left_by : (n : ℕ) (f : Draft → Draft) (d : Draft) → Left n f d
unfolding outside draft.closed
left_by n f d = record { uses = refl; numbers = refl; slot = refl }

pub record Starts (n : ℕ) (d : Draft) : Type 0 where
  pub uses : (draft.opened n d).uses ≡ d.uses
  pub numbers : (draft.opened n d).numbers ≡ d.numbers
  pub slot : (draft.opened n d).slot ≡ d.slot + n

pub starts : (n : ℕ) (d : Draft) → Starts n d
unfolding draft.opened
starts n d = record { uses = refl; numbers = refl; slot = refl }

module _ (s : Scopes) (t : Types) where
  module _ (view : List Seen) (ds : List KDecl) (base : ℕ) where
    -- a step of both, by which the block around names what is visible
    pub record Part (w : Walk) (d : Draft) (v : Walk) (e : Draft) : Type 0 where
      pub step : Step s view ds base w d v e
      pub sees : Fits s v → Begun ds e → Both s view base w d → Holds view d → Holds view e

    -- the same, where this is so of what is set
    pub record PartIf (M : Type 0) (w : Walk) (d : Draft) (v : Walk) (e : Draft) : Type 0 where
      pub step : Step s view ds base w d v e
      pub sees : M → Fits s v → Begun ds e → Both s view base w d → Holds view d → Holds view e

    pub if_part : (M : Type 0) {w v : Walk} {d e : Draft} → M → PartIf M w d v e → Part w d v e
    if_part M m h = record { step = h.step; sees = h.sees m }

    pub part_if : (M : Type 0) {w v : Walk} {d e : Draft} → Part w d v e → PartIf M w d v e
    part_if M h = record { step = h.step; sees = λ m. h.sees }

    abbrev pub PartsIf : Type 0 → Walk → Draft → Result Walk Broken → Draft → Type 0
    PartsIf M w d x e = Always (λ v. PartIf M w d v e) x

    abbrev pub Parts : Walk → Draft → Result Walk Broken → Draft → Type 0
    Parts w d x e = Always (λ v. Part w d v e) x

    pub part_then : {w v u : Walk} {d e c : Draft} → Part w d v e → Part v e u c → Part w d u c
    part_then a b =
        record {
          step = step_then s view ds base a.step b.step;
          sees = λ fits begun both h. b.sees fits begun (a.step.both (b.step.fits fits) (b.step.begun begun) both) (a.sees (b.step.fits fits) (b.step.begun begun) both h);
        }

    pub parts_then : (w : Walk) (d e c : Draft) (x : Result Walk Broken) (f : Walk → Result Walk Broken) → Parts w d x e → ((v : Walk) → Parts v e (f v) c) → Parts w d (x >>= f) c
    parts_then w d e c x f a b = always_then (λ v. Part w d v e) (λ v. Part w d v c) x f a (λ v k u h. part_then k (b v u h))

    pub same_parts : (w : Walk) (d e : Draft) (x : Result Walk Broken) → e.parts.list ≡ d.parts.list → Goes s view ds base w d x e → Parts w d x e
    same_parts w d e x same h v k = record { step = h v k; sees = λ fits begun both held. holds_as view d e same held }

    begun_step : (w : Walk) (d : Draft) → Step s view ds base w d w (begun d)
    unfolding begun
    begun_step w d = calm_step s view ds base w d _ refl refl (omega arith) refl

    placed_step : (n : ℕ) (p : Pos) (st : KStmt) (w : Walk) (d : Draft) → Step s view ds base w d w (placed n p st d)
    unfolding placed
    placed_step n p st w d = calm_step s view ds base w d _ refl refl (omega arith) refl

    pub hidden_step : (n : ℕ) (w : Walk) (d : Draft) → Step s view ds base w d w (hidden n d)
    unfolding hidden
    hidden_step n w d = calm_step s view ds base w d _ refl refl (omega arith) refl

    -- a statement of the kernel, whose parts give this
    pub of_made : (p : Pos) (st : KStmt) (U : Type 0) (w : Walk) (d c : Draft) (x : Result Walk Broken) → c.parts ≡ d.parts → (U → StmtSeen view st) → Gives s t view ds base w (begun d) x c U → Parts w d x (placed d.node p st c)
    of_made p st U w d c x same stands h v k =
        let m = h v k in
        record {
          step = step_then s view ds base (begun_step w d) (step_then s view ds base m.step (placed_step d.node p st v c));
          sees = λ fits begun both held.
              holds_placed view d.node p st d c same (stands (m.so fits ((placed_step d.node p st v c).begun begun) ((begun_step w d).both (m.step.fits fits) (m.step.begun ((placed_step d.node p st v c).begun begun)) both))) held;
        }

    pub of_made_if : (M : Type 0) (p : Pos) (st : KStmt) (U : Type 0) (w : Walk) (d c : Draft) (x : Result Walk Broken) → c.parts ≡ d.parts → (M → U → StmtSeen view st) → Gives s t view ds base w (begun d) x c U → PartsIf M w d x (placed d.node p st c)
    of_made_if M p st U w d c x same stands h v k =
        let m = h v k in
        record {
          step = step_then s view ds base (begun_step w d) (step_then s view ds base m.step (placed_step d.node p st v c));
          sees = λ q fits begun both held.
              holds_placed view d.node p st d c same (stands q (m.so fits ((placed_step d.node p st v c).begun begun) ((begun_step w d).both (m.step.fits fits) (m.step.begun ((placed_step d.node p st v c).begun begun)) both))) held;
        }

    pub simple_parts : (p : Pos) (st : KStmt) (w : Walk) (d : Draft) → StmtSeen view st → Parts w d (Ok w) (simple p st d)
    simple_parts p st w d u = of_made p st ⊤ w d (begun d) (Ok w) (parts_begun d) (λ k. u) (still_made s t view ds base ⊤ w (begun d) (begun d) (still s t view ds base w (begun d)) tt)
