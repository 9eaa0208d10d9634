-- At the head of a loop over a range the loop is over, or its variable takes the next value and one more turn begins.
use Rattle.std.proofs.Common.{◌≡◌, refl, sym, ◌∙◌, subst, ◌≤◌, ℕ, ◌+◌, ℤ, pos, Bool, true, false, List, [], ◌∷◌, arith}
use Rattle.std.specs.Prelude.{◌+ℤ◌, int_lt}
use Rattle.std.proofs.lemmas.List.{append-nil}
use Rattle.ceu_base.specs.declared.kinds.Pos.{Pos}
use Rattle.ceu_base.specs.declared.kinds.Ty.TheVariants as ty
use Rattle.ceu_code.specs.declared.image.Image.{Image}
use Rattle.ceu_code.specs.Instructions.{cell}
use Rattle.ceu_mem.specs.Memory.{value_at, with_value}
use Rattle.ceu_isa.specs.Layout.{slots_at, end_of}
use Rattle.ceu_isa.specs.Turns.{Machine, Trail, rewritten}
use Rattle.ceu_tree.specs.declared.kernel.Kernel.{Kernel}
use Rattle.ceu_tree.specs.declared.kernel.KExp.{KExp}
use Rattle.ceu_tree.specs.declared.kernel.KLoop.{KLoop}
use Rattle.ceu_tree.specs.declared.kernel.KLoop.TheVariants as turns
use Rattle.ceu_tree.specs.declared.kernel.KNode.{KNode}
use Rattle.ceu_tree.specs.declared.kernel.KBlock.{KBlock}
use Rattle.ceu_tree.specs.declared.kernel.KStmt.{Loop}
use Rattle.ceu_tree.specs.Abort.{forget_loop}
use Rattle.ceu_tree.specs.Proper.{Scope}
use Rattle.ceu_tree.specs.Residual.{Program, Act, Begin, Upward, no_instance}
use Rattle.ceu_tree.specs.Focus.{Frame, OfBlock, OfLoop, Here, In}
use Rattle.ceu_tree.specs.Around.{Moved}
use Rattle.ceu_tree.specs.World.{World, Holds, set}
use Rattle.ceu_shape.specs.Plans.{Plan, own_label, end_label}
use Rattle.ceu_shape.specs.Searches.{node_of_block}
use Rattle.laws_machine_layout.specs.Views.{view, slot_number}
use Rattle.ceu_trail.specs.Built.{at_label}
use Rattle.ceu_trail.specs.Compiled.{Compiled}
use Rattle.ceu_trail.specs.Coming.{Comes, ComesOn}
use Rattle.ceu_trail.specs.Tables.{tables}
use Rattle.ceu_trail.specs.Turning.{FrameCounts}
use Rattle.ceu_steps.specs.Running.{Runs, trail_at}
use Rattle.ceu_steps.specs.Premises.{BuiltLaws}
use Rattle.ceu_steps.specs.Reached.{wrap}
use Rattle.ceu_steps.proofs.Comes.{comes_on}
use Rattle.ceu_steps.proofs.Lines.{goto_runs}
use Rattle.ceu_steps.proofs.Simple.{passed_on}
use Rattle.ceu_steps.proofs.Ticks.{onward}
use Rattle.ceu_steps.proofs.Turns.{reached, among}
use Rattle.ceu_steps.proofs.Worlds.{holds_fades}
use Rattle.ceu_rounds.proofs.Loops.{RangeLines, range_lines}
use Rattle.ceu_rounds.proofs.Rising.{loop_fades}
use Rattle.ceu_rounds.proofs.Spots.{StepDone, AtTurn, inside, to_head, turn_heads}
use Rattle.ceu_spans.proofs.Bounds.{next_long, more_long, last_long, next_short, cell_whole, read_back}
use Rattle.ceu_spans.proofs.Ranging.{range_leaves, range_goes}
use Rattle.ceu_spans.proofs.RangeSlots.{next_there, end_there, end_behind, others, sizes, room, wrote, variable_room, taken, variable_stored, counters_stand, counters_out}
use Rattle.ceu_spans.proofs.RangeTurns.{range_passes, range_turns}

module _ (laws : BuiltLaws) (image : Image) (P : Plan) (width : ℕ → ℕ) (K : Kernel) (compiled : Compiled image P width K) where
  module _ (outer : List Frame) (turn : Bool) (sc : Scope) (b : KBlock) (done rest : List KNode) (n : ℕ) (p : Pos) (i next end : ℕ) (open_a : Bool) (x y : KExp) (open_b : Bool) (body : KBlock) (w : World) (at : ℕ) (m : Machine) (u v : ℤ) (a : Act)
      (h : AtTurn image P width K outer turn sc b done rest n p (turns.Range i next end open_a x y open_b) body (Upward u v) a w at m) where
    abbrev kind : KLoop
    kind = turns.Range i next end open_a x y open_b

    abbrev this : KNode
    this = record { node = n; pos = p; stmt = Loop (turns.Range i next end open_a x y open_b) body }

    abbrev frames : List Frame
    frames = OfBlock b [] no_instance rest ∷ outer

    abbrev there : ℕ
    there = at_label image P K (own_label n) + 3 + 4 + 3 + 4

    numbers : (slot_number image m.bytes 8 (slots_at image + P.offset next) ≡ cell u) × (slot_number image m.bytes 8 (slots_at image + P.offset end) ≡ cell v)
    numbers = counters_out laws image P width K compiled outer turn sc b done rest n p i next end open_a x y open_b body u v h.spot m.bytes h.stands.counts.0

    next_room : slots_at image + P.offset next + 8 ≤ end_of image
    next_room =
        room laws image P width K compiled outer turn sc b done rest n p i next end open_a x y open_b body u v h.spot next (next_there laws image P width K compiled outer turn sc b done rest n p i next end open_a x y open_b body u v h.spot)
        (sizes laws image P width K compiled outer turn sc b done rest n p i next end open_a x y open_b body u v h.spot).1

    end_room : slots_at image + P.offset end + 8 ≤ end_of image
    end_room =
        room laws image P width K compiled outer turn sc b done rest n p i next end open_a x y open_b body u v h.spot end (end_there laws image P width K compiled outer turn sc b done rest n p i next end open_a x y open_b body u v h.spot)
        (sizes laws image P width K compiled outer turn sc b done rest n p i next end open_a x y open_b body u v h.spot).2

    behind : P.offset end ≡ P.offset next + 8
    behind = end_behind laws image P width K compiled outer turn sc b done rest n p i next end open_a x y open_b body u v h.spot

    both_room : slots_at image + P.offset next + 16 ≤ end_of image
    both_room = omega (arith, behind, end_room)

    next_is : value_at ty.S64 m.bytes (slots_at image + P.offset next) ≡ u
    next_is = read_back image m.bytes (slots_at image + P.offset next) u (next_long u v h.within) (omega arith) next_room numbers.0

    last_is : value_at ty.S64 m.bytes (slots_at image + P.offset next + 8) ≡ v
    last_is =
        subst (λ (k : ℕ). value_at ty.S64 m.bytes k ≡ v) (let e : slots_at image + P.offset end ≡ slots_at image + P.offset next + 8 = omega (arith, behind) in e)
        (read_back image m.bytes (slots_at image + P.offset end) v (last_long u v h.within) (omega arith) end_room numbers.1)

    abbrev Head : Type 0
    Head = Runs image 1 (Trail (trail_at image at 0) m) (Trail (trail_at image (at_label image P K (own_label n) + 3 + 4 + 3 + 4) 0) m)

    -- ---- the loop is over

    passes : {head fresh : ℕ} → RangeLines image P K n i next end open_a x y open_b body fresh head → Head → int_lt v u ≡ true → StepDone image P width K (OfLoop this (Upward u v) ∷ frames) a w at m
    passes lines first e =
        let on = passed_on laws image P width K compiled outer b done rest this w (forget_loop Program this.stmt w) m at h.spot.block h.spot.is
        (record {
          after = rewritten m.bytes m;
          count = 2;
          few = omega arith;
          runs = onward first (range_leaves image there m (P.offset next) (P.offset i) (at_label image P K (end_label n)) u v lines.nexts both_room next_is last_is e);
          marks = record { added = []; semantics = sym (append-nil w.marks); machine = sym (append-nil m.marks) };
          memory = holds_fades image P width K w (forget_loop Program this.stmt w) m.bytes (loop_fades this.stmt w) h.stands.memory;
          counts = h.stands.counts.1.1;
        }) in
        subst (λ (k : Moved). Comes image P width K w (trail_at image at 0) m k.outcome k.world)
        (sym (range_passes n p i next end open_a x y open_b body u v w b rest a h.spot.block (inside laws image P width K compiled n p kind body (Upward u v) h.spot refl) (turn_heads K a w h.is_turn) e)) on

    -- ---- one more turn

    goes : {head fresh : ℕ} → RangeLines image P K n i next end open_a x y open_b body fresh head → Head → int_lt v u ≡ false → StepDone image P width K (OfLoop this (Upward u v) ∷ frames) a w at m
    goes lines first e =
        let short = next_short u v h.within e in
        let sz = sizes laws image P width K compiled outer turn sc b done rest n p i next end open_a x y open_b body u v h.spot in
        let two : List ℕ = with_value ty.S64 (u +ℤ pos 1) (with_value ty.S32 u m.bytes (slots_at image + P.offset i)) (slots_at image + P.offset next) in
        let first_there = next_there laws image P width K compiled outer turn sc b done rest n p i next end open_a x y open_b body u v h.spot in
        let last_there = end_there laws image P width K compiled outer turn sc b done rest n p i next end open_a x y open_b body u v h.spot in
        let apart = others laws image P width K compiled outer turn sc b done rest n p i next end open_a x y open_b body u v h.spot in
        let s = variable_stored laws image P width K compiled outer turn sc b done rest n p i next end open_a x y open_b body u v h.spot u w m.bytes h.held h.stands.memory h.stands.counts in
        let k = wrote laws image P width K compiled outer turn sc b done rest n p i next end open_a x y open_b body u v h.spot next (cell (u +ℤ pos 1)) (set Program i (Holds u) w) (with_value ty.S32 u m.bytes (slots_at image + P.offset i)) first_there sz.1
        (taken laws image P width K compiled outer turn sc b done rest n p i next end open_a x y open_b body u v h.spot u w short h.held) s.memory s.counts.1 in
        let old = counters_out laws image P width K compiled outer turn sc b done rest n p i next end open_a x y open_b body u v h.spot (with_value ty.S32 u m.bytes (slots_at image + P.offset i)) s.counts.0 in
        let counts : FrameCounts (tables P width K) image (view image two) (OfLoop this (Upward (u +ℤ pos 1) v)) =
        counters_stand laws image P width K compiled outer turn sc b done rest n p i next end open_a x y open_b body (u +ℤ pos 1) v h.spot two (k.there ∙ cell_whole (u +ℤ pos 1)) (k.still end last_there sz.2 (λ q. apart (sym q)) ∙ old.1) in
        let next_runs = range_goes image there m (P.offset next) (P.offset i) (at_label image P K (end_label n)) u v lines.nexts both_room next_is last_is e
        (variable_room laws image P width K compiled outer turn sc b done rest n p i next end open_a x y open_b body u v h.spot) short (more_long u v h.within) in
        let on : ComesOn image P width K w (trail_at image at 0) m (wrap frames (In (OfLoop this (Upward (u +ℤ pos 1) v)) (Here (Begin body)))) (set Program i (Holds u) w) =
        comes_on image P width K frames (OfLoop this (Upward (u +ℤ pos 1) v)) (Begin body) w (set Program i (Holds u) w) m (rewritten two m) at (at_label image P K (own_label (node_of_block body))) 3 (omega arith)
        (onward first (onward next_runs (goto_runs (at_label image P K (own_label (node_of_block body))) lines.turn.into))) (record { added = []; semantics = sym (append-nil w.marks); machine = sym (append-nil m.marks) })
        (record { memory = k.memory; counts = (counts, k.counts); place = refl }) in
        subst (λ (z : Moved). Comes image P width K w (trail_at image at 0) m z.outcome z.world)
        (sym (range_turns n p i next end open_a x y open_b body u v w a (reached laws image P width K compiled h.spot) (inside laws image P width K compiled n p kind body (Upward u v) h.spot refl) (turn_heads K a w h.is_turn) e)) on

  pub range_heads : (outer : List Frame) (turn : Bool) (sc : Scope) (b : KBlock) (done rest : List KNode) (n : ℕ) (p : Pos) (i next end : ℕ) (open_a : Bool) (x y : KExp) (open_b : Bool) (body : KBlock) (w : World) (at : ℕ) (m : Machine) (u v : ℤ) (a : Act)
      → AtTurn image P width K outer turn sc b done rest n p (turns.Range i next end open_a x y open_b) body (Upward u v) a w at m
      → StepDone image P width K (OfLoop (record { node = n; pos = p; stmt = Loop (turns.Range i next end open_a x y open_b) body }) (Upward u v) ∷ OfBlock b [] no_instance rest ∷ outer) a w at m
  range_heads outer turn sc b done rest n p i next end open_a x y open_b body w at m u v a h =
      let head = to_head laws image P width K compiled n p (turns.Range i next end open_a x y open_b) body (Upward u v) a at false m.bytes m h.is_turn (among laws image P width K compiled h.spot).built
      (λ built. (range_lines image P K compiled.single n p i next end open_a x y open_b body built).turn.round) h.stands.place in
      let lines = range_lines image P K compiled.single n p i next end open_a x y open_b body head.built in
      let first : Runs image 1 (Trail (trail_at image at 0) m) (Trail (trail_at image (at_label image P K (own_label n) + 3 + 4 + 3 + 4) 0) m) =
      subst (λ (z : ℕ). Runs image 1 (Trail (trail_at image at 0) m) (Trail (trail_at image z 0) m)) lines.head_is head.runs in
      by lines first (int_lt v u) refl
    where
      by : {head fresh : ℕ} → RangeLines image P K n i next end open_a x y open_b body fresh head → Runs image 1 (Trail (trail_at image at 0) m) (Trail (trail_at image (at_label image P K (own_label n) + 3 + 4 + 3 + 4) 0) m)
          → (t : Bool) → int_lt v u ≡ t → StepDone image P width K (OfLoop (record { node = n; pos = p; stmt = Loop (turns.Range i next end open_a x y open_b) body }) (Upward u v) ∷ OfBlock b [] no_instance rest ∷ outer) a w at m
      by lines first true e = passes outer turn sc b done rest n p i next end open_a x y open_b body w at m u v a h lines first e
      by lines first false e = goes outer turn sc b done rest n p i next end open_a x y open_b body w at m u v a h lines first e
