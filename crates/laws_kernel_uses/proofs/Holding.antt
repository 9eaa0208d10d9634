-- A step of the walk and the draft by which the block around names what is there.
use Rattle.std.proofs.Common.{◌≡◌, refl, sym, ap, subst, ℕ, arith, List, Result, Ok}
use Rattle.std.specs.Prelude.{⊤}
use Rattle.ceu_base.specs.declared.kinds.Pos.{Pos}
use Rattle.ceu_tree.specs.declared.kernel.Kernel.{Kernel}
use Rattle.ceu_tree.specs.declared.kernel.KNode.{KNode}
use Rattle.ceu_tree.specs.declared.kernel.KDecl.{KDecl}
use Rattle.ceu_tree.specs.declared.kernel.KArm.{KArm}
use Rattle.ceu_tree.specs.declared.kernel.ParKind.{ParKind}
use Rattle.ceu_tree.specs.declared.kernel.KBlock.{KBlock, roll-KBlock, Row_of-KNode, end_of-KNode, more_of-KNode, items-the_row-KNode, items_hidden-the_row-KNode-2}
use Rattle.ceu_tree.specs.declared.kernel.KStmt as kernel
use Rattle.ceu_tree.specs.declared.kernel.KStmt.{KStmt, Row_of-KArm, end_of-KArm, more_of-KArm, items-the_row-KArm, items_hidden-the_row-KArm-0, items_hidden-the_row-KBlock-1, Row_of-KBlock, end_of-KBlock, more_of-KBlock, items-the_row-KBlock}
use Rattle.ceu_tree.specs.declared.kernel.KStmt.TheBlock.{hidden-the_row-KArm-0, hidden-the_row-KBlock-1, hidden-the_row-KNode-2}
use Rattle.ceu_scopes.specs.declared.known.Scopes.{Scopes}
use Rattle.ceu_scopes.specs.declared.walk.Walk.{Walk}
use Rattle.ceu_scopes.specs.Walk.{Broken, ◌>>=◌}
use Rattle.ceu_types.specs.declared.typing.Types.{Types}
use Rattle.ceu_expand.specs.declared.draft.Draft.{Draft}
use Rattle.ceu_expand.specs.Draft as draft
use Rattle.ceu_expand.specs.Draft.{begun, hidden, placed, outside, written, block_of, around_block}
use Rattle.ceu_expand.specs.Parts.{simple}
use Rattle.laws_kernel_shape.specs.Shaped.{AllOf}
use Rattle.laws_kernel_shape.proofs.Good.{all_append}
use Rattle.laws_kernel_shape.proofs.Steps.{Always, always_then}
use denote.Hole.Carrier
use Rattle.laws_kernel_names.proofs.Seeing.{Fits}
use Rattle.laws_kernel_names.proofs.Holding.{parts_begun}
use Rattle.laws_kernel_uses.proofs.Sites.{Site, site_with, StmtHeld, BlockHeld, ArmHeld, NodesHeld, ArmsHeld, BlocksHeld}
use Rattle.laws_kernel_uses.proofs.Walking.{Ground, Begun, Both, Step, step_then, Goes, calm_step}
use Rattle.laws_kernel_uses.proofs.Exps.{Gives, still, still_made}

-- ---- kernels

module _ (K : Kernel) where
  abbrev pub NodeIs : Site → KNode → Type 0
  NodeIs v x = StmtHeld K v x.stmt

abbrev pub Holds : Kernel → Site → Draft → Type 0
Holds K v d = AllOf (NodeIs K v) d.parts.list

module _ (K : Kernel) (v : Site) where
  pub nodes_row : {n : _} (r : Row_of-KNode n) → AllOf (NodeIs K v) (items-the_row-KNode n r) → NodesHeld K v r
  unfolding StmtHeld
  nodes_row end_of-KNode h = tt
  nodes_row (more_of-KNode n p s rest) h = (h.0, nodes_row rest h.1)

  arms_row : {n : _} (r : Row_of-KArm n) → AllOf (ArmHeld K v) (items-the_row-KArm n r) → ArmsHeld K v r
  unfolding StmtHeld
  arms_row end_of-KArm h = tt
  arms_row (more_of-KArm a rest) h = (h.0, arms_row rest h.1)

  blocks_row : {n : _} (r : Row_of-KBlock n) → AllOf (BlockHeld K v) (items-the_row-KBlock n r) → BlocksHeld K v r
  unfolding StmtHeld
  blocks_row end_of-KBlock h = tt
  blocks_row (more_of-KBlock b rest) h = (h.0, blocks_row rest h.1)

  pub if_held : (arms : List KArm) (last : KBlock) → AllOf (ArmHeld K v) arms → BlockHeld K v last → StmtHeld K v (kernel.If arms last)
  unfolding StmtHeld
  if_held arms last h k = (arms_row (hidden-the_row-KArm-0 arms) (subst (AllOf (ArmHeld K v)) (sym (items_hidden-the_row-KArm-0 arms)) h), k)

  pub par_held : (kind : ParKind) (slot : ℕ) (bs : List KBlock) → AllOf (BlockHeld K v) bs → StmtHeld K v (kernel.Par kind slot bs)
  unfolding StmtHeld
  par_held kind slot bs h = blocks_row (hidden-the_row-KBlock-1 bs) (subst (AllOf (BlockHeld K v)) (sym (items_hidden-the_row-KBlock-1 bs)) h)

  holds_placed : (n : ℕ) (p : Pos) (st : KStmt) (d e : Draft) → e.parts ≡ d.parts → StmtHeld K v st → Holds K v d → Holds K v (placed n p st e)
  unfolding placed
  holds_placed n p st d e same k h = all_append (NodeIs K v) e.parts.list _ (subst (λ ps. AllOf (NodeIs K v) ps) (sym (ap (λ p. p.list) same)) h) k

  pub holds_as : (d e : Draft) → e.parts.list ≡ d.parts.list → Holds K v d → Holds K v e
  holds_as d e same h = subst (λ ps. AllOf (NodeIs K v) ps) (sym same) h

rolled_held : (K : Kernel) (v : Site) (n : ℕ) (ds : List KDecl) (list : List KNode) → AllOf (NodeIs K (site_with ds v)) list → BlockHeld K v (roll-KBlock (record { node = n; decls = ds; list = list }))
unfolding StmtHeld roll-KBlock Carrier.roll
rolled_held K v n ds list k = nodes_row K (site_with ds v) (hidden-the_row-KNode-2 list) (subst (AllOf (NodeIs K (site_with ds v))) (sym (items_hidden-the_row-KNode-2 list)) k)

pub holds_block : (K : Kernel) (v : Site) (n : ℕ) (f : Draft → Draft) (d : Draft) → Holds K (site_with (f (draft.opened n d)).parts.decls v) (f (draft.opened n d)) → BlockHeld K v (block_of n f d)
unfolding outside written
holds_block K v n f d h = rolled_held K v d.node (f (draft.opened n d)).parts.decls (f (draft.opened n d)).parts.list h

pub holds_opened : (K : Kernel) (v : Site) (n : ℕ) (d : Draft) → Holds K v (draft.opened n d)
unfolding draft.opened
holds_opened K v n d = tt

module _ (s : Scopes) (t : Types) (K : Kernel) where
  module _ (g : Ground) (ds : List KDecl) (base : ℕ) where
    -- a step of both, by which the block around names what is visible
    pub record Part (w : Walk) (d : Draft) (v : Walk) (e : Draft) : Type 0 where
      pub step : Step s K g ds base w d v e
      pub sees : Fits s v → Begun K ds e → Both s K g base w d → Holds K g.site d → Holds K g.site e

    -- the same, where this is so of what is set
    pub record PartIf (M : Type 0) (w : Walk) (d : Draft) (v : Walk) (e : Draft) : Type 0 where
      pub step : Step s K g ds base w d v e
      pub sees : M → Fits s v → Begun K ds e → Both s K g base w d → Holds K g.site d → Holds K g.site e

    pub if_part : (M : Type 0) {w v : Walk} {d e : Draft} → M → PartIf M w d v e → Part w d v e
    if_part M m h = record { step = h.step; sees = h.sees m }

    pub part_if : (M : Type 0) {w v : Walk} {d e : Draft} → Part w d v e → PartIf M w d v e
    part_if M h = record { step = h.step; sees = λ m. h.sees }

    abbrev pub PartsIf : Type 0 → Walk → Draft → Result Walk Broken → Draft → Type 0
    PartsIf M w d x e = Always (λ v. PartIf M w d v e) x

    abbrev pub Parts : Walk → Draft → Result Walk Broken → Draft → Type 0
    Parts w d x e = Always (λ v. Part w d v e) x

    pub part_then : {w v u : Walk} {d e c : Draft} → Part w d v e → Part v e u c → Part w d u c
    part_then a b =
        record {
          step = step_then s K g ds base a.step b.step;
          sees = λ fits begun both h. b.sees fits begun (a.step.both (b.step.fits fits) (b.step.begun begun) both) (a.sees (b.step.fits fits) (b.step.begun begun) both h);
        }

    pub parts_then : (w : Walk) (d e c : Draft) (x : Result Walk Broken) (f : Walk → Result Walk Broken) → Parts w d x e → ((v : Walk) → Parts v e (f v) c) → Parts w d (x >>= f) c
    parts_then w d e c x f a b = always_then (λ v. Part w d v e) (λ v. Part w d v c) x f a (λ v k u h. part_then k (b v u h))

    pub same_parts : (w : Walk) (d e : Draft) (x : Result Walk Broken) → e.parts.list ≡ d.parts.list → Goes s K g ds base w d x e → Parts w d x e
    same_parts w d e x same h v k = record { step = h v k; sees = λ fits begun both held. holds_as K g.site d e same held }

    begun_step : (w : Walk) (d : Draft) → Step s K g ds base w d w (begun d)
    unfolding begun
    begun_step w d = calm_step s K g ds base w d _ refl refl (omega arith) refl (record { events = refl; inputs = refl; outputs = refl })

    placed_step : (n : ℕ) (p : Pos) (st : KStmt) (w : Walk) (d : Draft) → Step s K g ds base w d w (placed n p st d)
    unfolding placed
    placed_step n p st w d = calm_step s K g ds base w d _ refl refl (omega arith) refl (record { events = refl; inputs = refl; outputs = refl })

    pub hidden_step : (n : ℕ) (w : Walk) (d : Draft) → Step s K g ds base w d w (hidden n d)
    unfolding hidden
    hidden_step n w d = calm_step s K g ds base w d _ refl refl (omega arith) refl (record { events = refl; inputs = refl; outputs = refl })

    -- a statement of the kernel, whose parts give this
    pub of_made : (p : Pos) (st : KStmt) (U : Type 0) (w : Walk) (d c : Draft) (x : Result Walk Broken) → c.parts ≡ d.parts → (U → StmtHeld K g.site st) → Gives s t K g ds base w (begun d) x c U → Parts w d x (placed d.node p st c)
    of_made p st U w d c x same stands h v k =
        let m = h v k in
        record {
          step = step_then s K g ds base (begun_step w d) (step_then s K g ds base m.step (placed_step d.node p st v c));
          sees = λ fits begun both held.
              holds_placed K g.site d.node p st d c same (stands (m.so fits ((placed_step d.node p st v c).begun begun) ((begun_step w d).both (m.step.fits fits) (m.step.begun ((placed_step d.node p st v c).begun begun)) both))) held;
        }

    pub of_made_if : (M : Type 0) (p : Pos) (st : KStmt) (U : Type 0) (w : Walk) (d c : Draft) (x : Result Walk Broken) → c.parts ≡ d.parts → (M → U → StmtHeld K g.site st) → Gives s t K g ds base w (begun d) x c U → PartsIf M w d x (placed d.node p st c)
    of_made_if M p st U w d c x same stands h v k =
        let m = h v k in
        record {
          step = step_then s K g ds base (begun_step w d) (step_then s K g ds base m.step (placed_step d.node p st v c));
          sees = λ q fits begun both held.
              holds_placed K g.site d.node p st d c same (stands q (m.so fits ((placed_step d.node p st v c).begun begun) ((begun_step w d).both (m.step.fits fits) (m.step.begun ((placed_step d.node p st v c).begun begun)) both))) held;
        }

    pub simple_parts : (p : Pos) (st : KStmt) (w : Walk) (d : Draft) → StmtHeld K g.site st → Parts w d (Ok w) (simple p st d)
    simple_parts p st w d u = of_made p st ⊤ w d (begun d) (Ok w) (parts_begun d) (λ k. u) (still_made s t K g ds base ⊤ w (begun d) (begun d) (still s t K g ds base w (begun d)) tt)
