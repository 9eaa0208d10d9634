-- A loop with a bound: it begins with no turn begun, and at its head one more turn begins, or the program faults.
use Rattle.std.proofs.Common.{◌≡◌, ◌≢◌, refl, sym, ap, ◌∙◌, subst, ◌<◌, ◌≤◌, ℕ, ◌+◌, ◌*◌, ◌%◌, ◌^◌, pos, Bool, true, false, ◌==◌, List, [], ◌∷◌, Some, Contains, arith, eq-eqb}
use Rattle.std.specs.Prelude.{slice_get, if◌then◌else◌}
use Rattle.std.proofs.lemmas.Bool.{le-leb, ltb-true, and_from, false≢true}
use Rattle.ceu_base.specs.declared.kinds.Fault.TheVariants.{LoopLimit}
use Rattle.ceu_base.specs.declared.kinds.Pos.{Pos}
use Rattle.ceu_base.specs.declared.kinds.Ty.TheVariants as ty
use Rattle.ceu_code.specs.declared.image.Image.{Image}
use Rattle.ceu_code.specs.Instructions.{cell}
use Rattle.ceu_mem.specs.Bytes.{number_at, with_number}
use Rattle.ceu_isa.specs.Layout.{cell_at, slots_at, end_of, in_slots}
use Rattle.ceu_isa.specs.Turns.{Machine, Trail, rewritten}
use Rattle.ceu_tree.specs.declared.kernel.Kernel.{Kernel}
use Rattle.ceu_tree.specs.declared.kernel.KLoop.TheVariants as turns
use Rattle.ceu_tree.specs.declared.kernel.KNode.{KNode}
use Rattle.ceu_tree.specs.declared.kernel.KBlock.{KBlock}
use Rattle.ceu_tree.specs.declared.kernel.KStmt.{out-KStmt, Loop}
use Rattle.ceu_tree.specs.Leaf as does
use Rattle.ceu_tree.specs.Leaf.{acted}
use Rattle.ceu_tree.specs.Proper.{Scope, loop_ok}
use Rattle.ceu_tree.specs.Residual.{Program, Act, Begin, Start, AtHead, Turns, Over, Residual, no_instance}
use Rattle.ceu_tree.specs.Residual as residual
use Rattle.ceu_tree.specs.Focus.{Frame, OfBlock, OfLoop, Here, In}
use Rattle.ceu_tree.specs.Around.{Moved, moved, Goes, Fails, next_turn}
use Rattle.ceu_tree.specs.World.{World}
use Rattle.laws_meaning_basics.specs.Shape.{block_scope}
use Rattle.ceu_shape.specs.Plans.{Plan, own_label}
use Rattle.ceu_shape.specs.Searches.{node_of_block}
use Rattle.ceu_shape.specs.Shape.{expression_count}
use Rattle.laws_machine_layout.specs.Views.{view, slot_number}
use Rattle.ceu_trail.specs.Built.{at_label, number, StatementBuilt}
use Rattle.ceu_trail.specs.Compiled.{Compiled}
use Rattle.ceu_trail.specs.Coming.{Comes, ComesOn}
use Rattle.ceu_trail.specs.Tables.{tables}
use Rattle.ceu_trail.specs.Turning.{FrameCounts, MemoryHolds}
use Rattle.ceu_trail.specs.Within.{ValuesWithin, looped}
use Rattle.ceu_within.proofs.Widths.{wider}
use Rattle.ceu_within.proofs.Leaf.{typed_static}
use Rattle.ceu_steps.specs.Running.{Runs, trail_at}
use Rattle.ceu_steps.specs.Premises.{BuiltLaws}
use Rattle.ceu_steps.specs.Reached.{wrap}
use Rattle.ceu_steps.specs.Live.{vars_in}
use Rattle.ceu_steps.proofs.Ticks.{onward}
use Rattle.ceu_steps.proofs.Frames.{AllCount, opens_is}
use Rattle.ceu_steps.proofs.Lines.{goto_runs}
use Rattle.ceu_steps.proofs.Expressions.{breaks_at}
use Rattle.ceu_steps.proofs.Comes.{comes_on, comes_to_fault, no_marks}
use Rattle.ceu_steps.proofs.Store.{store_runs}
use Rattle.ceu_steps.proofs.Unseen.{holds_unseen, unseen_numbers}
use Rattle.ceu_steps.proofs.Turns.{Standing, AtStart, sizes_of, counts_stay, reached, among, some_gate, fine, cells, positions}
use Rattle.ceu_rounds.proofs.Heads.{turn_goes, turn_fails}
use Rattle.ceu_rounds.proofs.Loops.{TimesLines, times_lines}
use Rattle.ceu_rounds.proofs.Spots.{StepDone, AtTurn, inside, to_head, turn_heads}
use Rattle.ceu_rounds.proofs.HiddenSlots.{hidden_number, hidden_memory, hidden_counts_stay}
use Rattle.ceu_rounds.proofs.LoopSlots.{all_live, own_sized, frames_sized, mine, seen_apart, outer_apart}
use Rattle.ceu_rounds.proofs.Counting.{one_more, push_runs, push_unseen, push_holds, limit_faults, limit_goes}
use denote.Hole.Carrier

module _ (laws : BuiltLaws) (image : Image) (P : Plan) (width : ℕ → ℕ) (K : Kernel) (compiled : Compiled image P width K) where
  module _ (outer : List Frame) (turn : Bool) (sc : Scope) (b : KBlock) (done rest : List KNode) (n : ℕ) (p : Pos) (slot limit : ℕ) (body : KBlock) (w : World) (at : ℕ) (m : Machine) where
    abbrev this : KNode
    this = record { node = n; pos = p; stmt = Loop (turns.Times slot limit) body }

    abbrev frames : List Frame
    frames = OfBlock b [] no_instance rest ∷ outer

    abbrev place : ℕ
    place = slots_at image + P.offset slot

    abbrev head_of : StatementBuilt image P K this → ℕ
    head_of built = built.fresh + 2 * expression_count (Loop (turns.Times slot limit) body)

    starts : acted K 0 Program (Start this) w ≡ does.done (does.Opens (In (OfLoop this (Turns 0)) (Here AtHead))) w
    unfolding out-KStmt Carrier.out
    starts = refl

    counter_is : (j : ℕ) (bytes : List ℕ) → slot_number image bytes 4 place ≡ j → FrameCounts (tables P width K) image (view image bytes) (OfLoop this (Turns j))
    unfolding out-KStmt Carrier.out
    counter_is j bytes e = e

    counter_out : (j : ℕ) (bytes : List ℕ) → FrameCounts (tables P width K) image (view image bytes) (OfLoop this (Turns j)) → slot_number image bytes 4 place ≡ j
    unfolding out-KStmt Carrier.out
    counter_out j bytes e = e

    position_is : Standing K outer turn sc b done rest this → slice_get image.places (number image P K p) ≡ Some p
    unfolding out-KStmt Carrier.out
    position_is spot = positions laws image P width K compiled spot

    limit_typed : Standing K outer turn sc b done rest this → loop_ok K (block_scope sc b) (turns.Times slot limit) ≡ true
    unfolding out-KStmt Carrier.out
    limit_typed spot = typed_static K (block_scope sc b) n (Loop (turns.Times slot limit) body) (fine laws image P width K compiled spot)

    limit_small : Standing K outer turn sc b done rest this → limit < 2 ^ 32
    limit_small spot = ltb-true limit (2 ^ 32) (limit_typed spot)

    slot_there : Contains (slot ∷ []) slot
    slot_there = (0, omega arith, refl)

    -- a number of turns is written
    pub record Counted (j : ℕ) (u : World) (old : List ℕ) : Type 0 where
      pub memory : MemoryHolds image P width K u (with_number 4 j old place)
      pub counts : AllCount (tables P width K) image (view image (with_number 4 j old place)) (OfLoop this (Turns (j % 256 ^ 4)) ∷ frames)

    wrote : (c j : ℕ) (old : List ℕ) → Standing K outer turn sc b done rest this → ValuesWithin (vars_in (OfLoop this (Turns c) ∷ frames)) w → MemoryHolds image P width K w old → AllCount (tables P width K) image (view image old) frames → Counted j w old
    wrote c j old spot held holds counts =
        let sz = (sizes_of image P width K compiled).slots_is in
        let all : List Frame = OfLoop this (Turns c) ∷ frames in
        let lv = all_live laws image P width K compiled outer turn sc b done rest n p (turns.Times slot limit) body (Turns c) spot refl in
        let in_use = mine laws image P width K compiled outer turn sc b done rest n p (turns.Times slot limit) body (Turns c) spot refl slot slot_there in
        let wide = own_sized laws image P width K compiled outer turn sc b done rest n p (turns.Times slot limit) body (Turns c) spot refl in
        let apart = seen_apart laws image P width K compiled outer turn sc b done rest n p (turns.Times slot limit) body (Turns c) spot refl slot slot_there in
        let others = outer_apart laws image P width K compiled outer turn sc b done rest n p (turns.Times slot limit) body (Turns c) spot refl slot slot_there in
        record {
          memory = hidden_memory image P width K sz all lv slot 4 j old in_use wide w held apart holds;
          counts = (
            counter_is (j % 256 ^ 4) (with_number 4 j old place) (hidden_number image P width K sz all lv slot 4 j old in_use wide w held apart holds),
            hidden_counts_stay image P width K sz all lv slot 4 j old in_use wide w held apart holds frames (frames_sized laws image P width K compiled outer turn sc b done rest n p (turns.Times slot limit) body (Turns c) spot refl) others counts,
          );
        }

    slot_room : Standing K outer turn sc b done rest this → slots_at image + P.offset slot + 4 ≤ end_of image
    slot_room spot =
        let sz = (sizes_of image P width K compiled).slots_is in
        let lv = all_live laws image P width K compiled outer turn sc b done rest n p (turns.Times slot limit) body (Turns 0) spot refl in
        let in_use = mine laws image P width K compiled outer turn sc b done rest n p (turns.Times slot limit) body (Turns 0) spot refl slot slot_there in
        let wide = own_sized laws image P width K compiled outer turn sc b done rest n p (turns.Times slot limit) body (Turns 0) spot refl in
        let a = lv.within slot in_use in omega (arith, a, wide, sz)

    pub times_begins : AtStart image P width K outer turn sc b done rest this w at m → StepDone image P width K frames (Start this) w at m
    times_begins h =
        let built = (among laws image P width K compiled h.spot).built in
        let lines = times_lines image P K compiled.single n p slot limit body built in
        let some = cells laws image P width K compiled h.spot in
        let pushed : List ℕ = with_number 8 (cell (pos 0)) m.bytes (cell_at 0) in
        let unseen = push_unseen image (pos 0) m.bytes some h.stands.memory.are_bytes in
        let memory = holds_unseen image P width K w m.bytes pushed unseen h.stands.memory in
        let counts = counts_stay (tables P width K) image (view image m.bytes) (view image pushed) frames (unseen_numbers image m.bytes pushed unseen) h.stands.counts in
        let kept = wrote 0 (cell (pos 0)) pushed h.spot (wider (vars_in frames) (looped (out-KStmt this.stmt)) w h.held) memory counts in
        let after : Machine = rewritten (with_number 4 (cell (pos 0)) pushed place) m in
        let own : ℕ = at_label image P K (own_label n) in
        let one = push_runs {m = m} ty.U32 (pos 0) lines.zero some in
        let two = store_runs {m = rewritten pushed m} ty.U32 (P.offset slot) (pos 0) lines.stores (λ e. absurd (cc)) refl (push_holds image (pos 0) m.bytes some h.stands.memory.fits) some (slot_room h.spot) in
        let on : ComesOn image P width K w (trail_at image own 0) m (wrap frames (In (OfLoop this (Turns 0)) (Here AtHead))) w =
        comes_on image P width K frames (OfLoop this (Turns 0)) AtHead w w m after own (own + 10 + 4) 2 (omega arith) (onward one two) (no_marks w m after.bytes)
        (record { memory = kept.memory; counts = kept.counts; place = record { built = built; there = sym lines.head_is } }) in
        subst (λ (k : ℕ). StepDone image P width K frames (Start this) w k m) (sym h.stands.place)
        (subst (λ (v : Moved). Comes image P width K w (trail_at image own 0) m v.outcome v.world)
        (sym (opens_is (Start this) w w (In (OfLoop this (Turns 0)) (Here AtHead)) (reached laws image P width K compiled h.spot) starts)) on)

    -- ---- at the head

    next_is : (j : ℕ) (t : Bool) → (j == limit) ≡ t
        → next_turn this (out-KStmt this.stmt) (Turns j) Program w ≡ (if t then moved (Fails (LoopLimit, p) (residual.Loop this (Turns j) Over)) w else moved (Goes (In (OfLoop this (Turns (j + 1))) (Here (Begin body)))) w)
    unfolding out-KStmt Carrier.out
    next_is j t e = ap (λ (t : Bool). if t then moved (Fails (LoopLimit, p) (residual.Loop this (Turns j) Over)) w else moved (Goes (In (OfLoop this (Turns (j + 1))) (Here (Begin body)))) w) e

    pub times_turns : (j : ℕ) (a : Act) → AtTurn image P width K outer turn sc b done rest n p (turns.Times slot limit) body (Turns j) a w at m → StepDone image P width K (OfLoop this (Turns j) ∷ frames) a w at m
    times_turns j a h =
        let head = to_head laws image P width K compiled n p (turns.Times slot limit) body (Turns j) a at false m.bytes m h.is_turn (among laws image P width K compiled h.spot).built
        (λ built. (times_lines image P K compiled.single n p slot limit body built).turn.round) h.stands.place in
        let lines = times_lines image P K compiled.single n p slot limit body head.built in
        let there : ℕ = at_label image P K (own_label n) + 10 + 4 in
        let first : Runs image 1 (Trail (trail_at image at 0) m) (Trail (trail_at image (at_label image P K (own_label n) + 10 + 4) 0) m) =
        subst (λ (x : ℕ). Runs image 1 (Trail (trail_at image at 0) m) (Trail (trail_at image x 0) m)) lines.head_is head.runs in
        go lines first (j == limit) refl
      where
        room : slots_at image + P.offset slot + 4 ≤ end_of image
        room = slot_room h.spot

        lies : in_slots image place 4 ≡ true
        lies = and_from _ _ (le-leb (slots_at image) place (omega arith)) (le-leb (place + 4) (end_of image) room)

        holds : number_at 4 m.bytes place ≡ j
        holds = sym (ap (λ (t : Bool). if t then number_at 4 m.bytes place else 0) lies) ∙ counter_out j m.bytes h.stands.counts.0

        go : {head : ℕ} → TimesLines image P K n p slot limit body head → Runs image 1 (Trail (trail_at image at 0) m) (Trail (trail_at image (at_label image P K (own_label n) + 10 + 4) 0) m)
            → (t : Bool) → (j == limit) ≡ t → StepDone image P width K (OfLoop this (Turns j) ∷ frames) a w at m
        go lines first true e =
            let x = limit_faults image (at_label image P K (own_label n) + 10 + 4) m (P.offset slot) limit (number image P K p) j p lines.limits (position_is h.spot) room holds e in
            let y = breaks_at image P width K m w m (trail_at image (at_label image P K (own_label n) + 10 + 4 + 9) 0) LoopLimit p h.stands.memory (some_gate laws image P width K compiled h.spot)
            (record { own_is = refl; size = refl; are_bytes = h.stands.memory.are_bytes; gates = λ i l u. refl }) refl (onward first x) in
            subst (λ (v : Moved). Comes image P width K w (trail_at image at 0) m v.outcome v.world)
            (sym (turn_fails this (Turns j) a w (reached laws image P width K compiled h.spot) (inside laws image P width K compiled n p (turns.Times slot limit) body (Turns j) h.spot refl) (turn_heads K a w h.is_turn) (LoopLimit, p) (residual.Loop this (Turns j) Over) w (next_is j true e)))
            (comes_to_fault image P width K w w m (trail_at image at 0) (LoopLimit, p) 4 (omega arith) refl y)
        go lines first false e =
            let bound : j ≤ limit = h.counted in
            let small = limit_small h.spot in
            let other : j ≢ limit = λ q. false≢true (sym e ∙ eq-eqb j limit q) in
            let lt : j + 1 < 2 ^ 32 = one_more j limit bound other small in
            let x = limit_goes image (at_label image P K (own_label n) + 10 + 4) m (P.offset slot) limit (number image P K p) j p lines.limits (position_is h.spot) room holds e lt in
            let kept = wrote j (j + 1) m.bytes h.spot h.held h.stands.memory h.stands.counts.1 in
            let same : (j + 1) % 256 ^ 4 ≡ j + 1 = omega (arith, lt) in
            let after : Machine = rewritten (with_number 4 (j + 1) m.bytes place) m in
            let on : ComesOn image P width K w (trail_at image at 0) m (wrap frames (In (OfLoop this (Turns (j + 1))) (Here (Begin body)))) w =
            comes_on image P width K frames (OfLoop this (Turns (j + 1))) (Begin body) w w m after at (at_label image P K (own_label (node_of_block body))) 3 (omega arith)
            (onward first (onward x (goto_runs (at_label image P K (own_label (node_of_block body))) lines.turn.into))) (no_marks w m after.bytes)
            (record { memory = kept.memory; counts = subst (λ (i : ℕ). AllCount (tables P width K) image (view image after.bytes) (OfLoop this (Turns i) ∷ frames)) same kept.counts; place = refl }) in
            subst (λ (v : Moved). Comes image P width K w (trail_at image at 0) m v.outcome v.world)
            (sym (turn_goes this (Turns j) a w (reached laws image P width K compiled h.spot) (inside laws image P width K compiled n p (turns.Times slot limit) body (Turns j) h.spot refl) (turn_heads K a w h.is_turn) (In (OfLoop this (Turns (j + 1))) (Here (Begin body))) w (next_is j false e))) on
