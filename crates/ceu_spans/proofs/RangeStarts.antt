-- A loop over a range begins: its ends are evaluated, the first one first, and kept in its slots; the turn goes on at its head. A fault of either is the step's.
use Rattle.std.proofs.Common.{◌≡◌, ◌≢◌, refl, sym, ap, ◌∙◌, subst, ◌≤◌, ℕ, ◌+◌, ◌-◌, ◌*◌, ℤ, pos, Bool, true, false, List, [], ◌∷◌, Contains, Some, Ok, Err, arith}
use Rattle.std.specs.Prelude.{◌+ℤ◌, ◌-ℤ◌, ◌&&◌, max}
use Rattle.std.proofs.lemmas.Bool.{and_parts}
use Rattle.std.proofs.lemmas.List.{append-nil}
use Rattle.ceu_base.specs.declared.kinds.Pos.{Pos}
use Rattle.ceu_base.specs.declared.kinds.Ty.TheVariants as ty
use Rattle.ceu_base.specs.Values.{IsValue, of_test}
use Rattle.ceu_code.specs.declared.image.Image.{Image}
use Rattle.ceu_code.specs.declared.instr.Instr.TheVariants as instr
use Rattle.ceu_code.specs.Instructions.{cell}
use Rattle.ceu_mem.specs.Memory.{with_value}
use Rattle.ceu_isa.specs.Layout.{slots_at}
use Rattle.ceu_isa.specs.Fetching.{fetched}
use Rattle.ceu_isa.specs.Slots.{bound_value}
use Rattle.ceu_isa.specs.Turns.{Machine, Trail, rewritten}
use Rattle.ceu_tree.specs.declared.kernel.Kernel.{Kernel}
use Rattle.ceu_tree.specs.declared.kernel.KExp.{KExp}
use Rattle.ceu_tree.specs.declared.kernel.KLoop.TheVariants as turns
use Rattle.ceu_tree.specs.declared.kernel.KNode.{KNode}
use Rattle.ceu_tree.specs.declared.kernel.KBlock.{KBlock}
use Rattle.ceu_tree.specs.declared.kernel.KStmt.{out-KStmt, Loop}
use Rattle.ceu_tree.specs.Depth.{stmt_depth, block_depth, exp_depth}
use Rattle.ceu_tree.specs.Expressions.{Answer, value_of}
use Rattle.ceu_tree.specs.Leaf as does
use Rattle.ceu_tree.specs.Leaf.{acted, or_fails}
use Rattle.ceu_tree.specs.Proper.{Scope, reads, asks, gives, loop_ok}
use Rattle.ceu_tree.specs.Residual.{Program, Start, AtHead, Upward, no_instance}
use Rattle.ceu_tree.specs.Focus.{Frame, OfBlock, OfLoop, Here, In}
use Rattle.ceu_tree.specs.Around.{Moved}
use Rattle.ceu_tree.specs.Typing.{typed}
use Rattle.ceu_tree.specs.World.{World}
use Rattle.laws_meaning_basics.specs.Shape.{block_scope}
use Rattle.ceu_shape.specs.Flow.{one_if}
use Rattle.ceu_shape.specs.Plans.{Plan, own_label}
use Rattle.ceu_shape.specs.Shape.{expression_count}
use Rattle.laws_meaning_values.specs.Ready.{layer_has, exp_has}
use Rattle.laws_machine_code.specs.Seen.{NodePlaced}
use Rattle.laws_machine_layout.specs.Views.{view, slot_number}
use Rattle.ceu_trail.specs.Built.{at_label, number, StatementBuilt}
use Rattle.ceu_trail.specs.Compiled.{Compiled}
use Rattle.ceu_trail.specs.Coming.{Comes, ComesOn}
use Rattle.ceu_trail.specs.Tables.{tables}
use Rattle.ceu_trail.specs.Turning.{FrameCounts, MemoryHolds}
use Rattle.ceu_trail.specs.Within.{ValuesWithin, looped}
use Rattle.ceu_within.proofs.Leaf.{typed_static, given_value}
use Rattle.ceu_within.proofs.Widths.{wider}
use Rattle.ceu_steps.specs.Running.{Runs, trail_at}
use Rattle.ceu_steps.specs.Ready.{longest, Brings, Evaluated}
use Rattle.ceu_steps.specs.Premises.{BuiltLaws, LayerPlaced}
use Rattle.ceu_steps.specs.Reached.{wrap}
use Rattle.ceu_steps.specs.Live.{vars_in}
use Rattle.ceu_steps.proofs.Assigns.{given_typed}
use Rattle.ceu_steps.proofs.Comes.{comes_on}
use Rattle.ceu_steps.proofs.Expressions.{expression_runs}
use Rattle.ceu_steps.proofs.Frames.{AllCount, opens_is}
use Rattle.ceu_steps.proofs.Ticks.{onward}
use Rattle.ceu_steps.proofs.Turns.{AtStart, counts_stay, fault_comes, reached, among, some_gate, scene, fine, deep, cells, positions, is_ready}
use Rattle.ceu_steps.proofs.Unseen.{holds_unseen, unseen_numbers}
use Rattle.ceu_rounds.proofs.Loops.{RangeLines, range_lines}
use Rattle.ceu_rounds.proofs.Spots.{StepDone}
use Rattle.ceu_spans.proofs.Bounds.{longer, first_is, last_is, first_fits, last_fits, cell_whole}
use Rattle.ceu_spans.proofs.Ranging.{bound_runs}
use Rattle.ceu_spans.proofs.RangeSlots.{next_there, end_there, others, sizes, room, wrote, counters_stand}
use denote.Hole.Carrier

module _ (laws : BuiltLaws) (image : Image) (P : Plan) (width : ℕ → ℕ) (K : Kernel) (compiled : Compiled image P width K) where
  module _ (outer : List Frame) (turn : Bool) (sc : Scope) (b : KBlock) (done rest : List KNode) (n : ℕ) (p : Pos) (i next end : ℕ) (open_a : Bool) (x y : KExp) (open_b : Bool) (body : KBlock) (w : World) (at : ℕ) (m : Machine)
      (h : AtStart image P width K outer turn sc b done rest (record { node = n; pos = p; stmt = Loop (turns.Range i next end open_a x y open_b) body }) w at m) where
    abbrev this : KNode
    this = record { node = n; pos = p; stmt = Loop (turns.Range i next end open_a x y open_b) body }

    abbrev frames : List Frame
    frames = OfBlock b [] no_instance rest ∷ outer

    starts : (r t : Answer) → value_of x Program w ≡ r → value_of y Program w ≡ t
        → acted K 0 Program (Start this) w ≡ or_fails r w (λ u. or_fails t w (λ v. does.done (does.Opens (In (OfLoop this (Upward (u +ℤ of_test open_a) (v -ℤ of_test open_b))) (Here AtHead))) w))
    unfolding out-KStmt Carrier.out
    starts r t e f =
        ap (λ (z : Answer). or_fails z w (λ u. or_fails (value_of y Program w) w (λ v. does.done (does.Opens (In (OfLoop this (Upward (u +ℤ of_test open_a) (v -ℤ of_test open_b))) (Here AtHead))) w))) e
        ∙ ap (λ (z : Answer). or_fails r w (λ u. or_fails z w (λ v. does.done (does.Opens (In (OfLoop this (Upward (u +ℤ of_test open_a) (v -ℤ of_test open_b))) (Here AtHead))) w))) f

    -- ---- the ends may be evaluated

    loop_typed : loop_ok K (block_scope sc b) (turns.Range i next end open_a x y open_b) ≡ true
    unfolding out-KStmt Carrier.out
    loop_typed = typed_static K (block_scope sc b) n (Loop (turns.Range i next end open_a x y open_b) body) (fine laws image P width K compiled h.spot)

    ends_typed : (gives K (block_scope sc b) ty.S32 x ≡ true) × (gives K (block_scope sc b) ty.S32 y ≡ true)
    ends_typed = and_parts (gives K (block_scope sc b) ty.S32 x) (gives K (block_scope sc b) ty.S32 y) loop_typed

    may : (e : KExp) → gives K (block_scope sc b) ty.S32 e ≡ true → typed (reads K (block_scope sc b)) (asks K (block_scope sc b)) e ≡ true
    may e g = given_typed laws image P width K compiled (block_scope sc b) e (record { outer = false; slot = 0; ty = ty.S32 }) g

    loop_has : layer_has Program w (out-KStmt this.stmt) ≡ true → (exp_has Program w x && exp_has Program w y) ≡ true
    unfolding out-KStmt Carrier.out
    loop_has z = z

    ends_have : (exp_has Program w x ≡ true) × (exp_has Program w y ≡ true)
    ends_have = and_parts (exp_has Program w x) (exp_has Program w y) (loop_has h.has)

    depth_is : stmt_depth (Loop (turns.Range i next end open_a x y open_b) body) ≡ max (max (exp_depth x) (exp_depth y)) (block_depth body)
    unfolding stmt_depth
    depth_is = refl

    ends_deep : (exp_depth x ≤ image.depth) × (exp_depth y ≤ image.depth)
    ends_deep = let a = deep laws image P width K compiled h.spot in let q = depth_is in (omega arith, omega arith)

    loop_placed : LayerPlaced image (number image P K) p (out-KStmt this.stmt) → NodePlaced image (number image P K) x.node x.pos × NodePlaced image (number image P K) y.node y.pos
    unfolding out-KStmt Carrier.out
    loop_placed z = z

    ends_placed : NodePlaced image (number image P K) x.node x.pos × NodePlaced image (number image P K) y.node y.pos
    ends_placed = loop_placed (positions laws image P width K compiled h.spot)

    end_value : (e : KExp) → gives K (block_scope sc b) ty.S32 e ≡ true → (v : ℤ) → value_of e Program w ≡ Ok v → IsValue ty.S32 v
    end_value e g v q = let s = scene laws image P width K compiled h.spot in given_value K (block_scope sc b) (vars_in frames) s.scope s.once w h.held ty.S32 e g v q

    held_inside : ValuesWithin (vars_in frames) w → ValuesWithin (vars_in (OfLoop this (Upward (pos 0) (pos 0)) ∷ frames)) w
    held_inside z = wider (vars_in frames) (looped (out-KStmt this.stmt)) w z

    first_evaluated : {fresh head : ℕ} → RangeLines image P K n i next end open_a x y open_b body fresh head → Evaluated image m (at_label image P K (own_label n)) (value_of x Program w)
    first_evaluated {fresh = fresh} lines =
        expression_runs image P width K w m x fresh lines.first_part.fresh (at_label image P K (own_label n)) lines.first_part.begins h.stands.memory (some_gate laws image P width K compiled h.spot)
        (is_ready laws image P width K compiled h.spot w m.bytes x h.held h.stands.memory (may x ends_typed.0) ends_have.0 ends_deep.0 ends_placed.0) lines.first_goes lines.first_back lines.first_part.there

    last_evaluated : {fresh head : ℕ} → RangeLines image P K n i next end open_a x y open_b body fresh head → (k : Machine) → MemoryHolds image P width K w k.bytes → Evaluated image k (at_label image P K (own_label n) + 3 + 4) (value_of y Program w)
    last_evaluated {fresh = fresh} lines k holds =
        expression_runs image P width K w k y (fresh + 2) lines.last_part.fresh (at_label image P K (own_label n) + 3 + 4) lines.last_part.begins holds (some_gate laws image P width K compiled h.spot)
        (is_ready laws image P width K compiled h.spot w k.bytes y h.held holds (may y ends_typed.1) ends_have.1 ends_deep.1 ends_placed.1) lines.last_goes lines.last_back lines.last_part.there

    -- ---- an end is kept in its slot

    record Kept (z d start : ℕ) (v : ℤ) (k : Machine) : Type 0 where
      bytes : List ℕ
      runs : Runs image (longest + 1) (Trail (trail_at image start 0) k) (Trail (trail_at image (start + 3 + 4) 0) (rewritten bytes k))
      memory : MemoryHolds image P width K w bytes
      counts : AllCount (tables P width K) image (view image bytes) frames
      there : slot_number image bytes 8 (slots_at image + P.offset z) ≡ cell (bound_value v d)
      still : (s : ℕ) → Contains (next ∷ end ∷ []) s → width s ≡ 8 → s ≢ z → slot_number image bytes 8 (slots_at image + P.offset s) ≡ slot_number image k.bytes 8 (slots_at image + P.offset s)

    keep : (z d start : ℕ) (v : ℤ) (k : Machine) → Contains (next ∷ end ∷ []) z → width z ≡ 8 → fetched image (start + 3) ≡ Some (instr.RangeBound (P.offset z) d) → IsValue ty.S32 v → IsValue ty.S64 (bound_value v d)
        → MemoryHolds image P width K w k.bytes → AllCount (tables P width K) image (view image k.bytes) frames → Brings image k start v → Kept z d start v k
    keep z d start v k c wide line short fits holds counts e =
        let one = holds_unseen image P width K w k.bytes e.after e.unseen holds in
        let same = unseen_numbers image k.bytes e.after e.unseen in
        let two = counts_stay (tables P width K) image (view image k.bytes) (view image e.after) frames (unseen_numbers image k.bytes e.after e.unseen) counts in
        let t = wrote laws image P width K compiled outer turn sc b done rest n p i next end open_a x y open_b body (pos 0) (pos 0) h.spot z (cell (bound_value v d)) w e.after c wide (held_inside h.held) one two in
        record {
          bytes = with_value ty.S64 (bound_value v d) e.after (slots_at image + P.offset z);
          runs = onward e.runs
              (bound_runs {m = rewritten e.after k} (P.offset z) d v line (longer v short) fits e.holds (cells laws image P width K compiled h.spot)
              (room laws image P width K compiled outer turn sc b done rest n p i next end open_a x y open_b body (pos 0) (pos 0) h.spot z c wide));
          memory = t.memory;
          counts = t.counts;
          there = t.there ∙ cell_whole (bound_value v d);
          still = λ s f g ne. t.still s f g ne ∙ same.same 8 (slots_at image + P.offset s);
        }

    -- ---- the step

    opens : {fresh : ℕ} → RangeLines image P K n i next end open_a x y open_b body fresh (fresh + 2 * expression_count (Loop (turns.Range i next end open_a x y open_b) body))
        → (built : StatementBuilt image P K this) → built.fresh ≡ fresh
        → (u v : ℤ) → value_of x Program w ≡ Ok u → value_of y Program w ≡ Ok v → (f : Kept next (1 + one_if open_a) (at_label image P K (own_label n)) u m) → Kept end (1 - one_if open_b) (at_label image P K (own_label n) + 3 + 4) v (rewritten f.bytes m)
        → StepDone image P width K frames (Start this) w (at_label image P K (own_label n)) m
    opens lines built same u v q r f g =
        let sz = sizes laws image P width K compiled outer turn sc b done rest n p i next end open_a x y open_b body (pos 0) (pos 0) h.spot in
        let first_there = next_there laws image P width K compiled outer turn sc b done rest n p i next end open_a x y open_b body (pos 0) (pos 0) h.spot in
        let apart = others laws image P width K compiled outer turn sc b done rest n p i next end open_a x y open_b body (pos 0) (pos 0) h.spot in
        let counts : FrameCounts (tables P width K) image (view image g.bytes) (OfLoop this (Upward (u +ℤ of_test open_a) (v -ℤ of_test open_b))) =
        counters_stand laws image P width K compiled outer turn sc b done rest n p i next end open_a x y open_b body (u +ℤ of_test open_a) (v -ℤ of_test open_b) h.spot g.bytes
        (g.still next first_there sz.1 apart ∙ f.there ∙ ap (λ (z : ℤ). cell z) (first_is u open_a)) (g.there ∙ ap (λ (z : ℤ). cell z) (last_is v open_b)) in
        let on : ComesOn image P width K w (trail_at image (at_label image P K (own_label n)) 0) m (wrap frames (In (OfLoop this (Upward (u +ℤ of_test open_a) (v -ℤ of_test open_b))) (Here AtHead))) w =
        comes_on image P width K frames (OfLoop this (Upward (u +ℤ of_test open_a) (v -ℤ of_test open_b))) AtHead w w m (rewritten g.bytes m) (at_label image P K (own_label n)) (at_label image P K (own_label n) + 3 + 4 + 3 + 4) (longest + 1 + (longest + 1)) (omega arith)
        (onward f.runs g.runs) (record { added = []; semantics = sym (append-nil w.marks); machine = sym (append-nil m.marks) })
        (record {
          memory = g.memory;
          counts = (counts, g.counts);
          place = record { built = built; there = sym lines.head_is ∙ ap (λ (z : ℕ). at_label image P K (z + 2 * expression_count (Loop (turns.Range i next end open_a x y open_b) body))) (sym same) };
        }) in
        subst (λ (z : Moved). Comes image P width K w (trail_at image (at_label image P K (own_label n)) 0) m z.outcome z.world)
        (sym (opens_is (Start this) w w (In (OfLoop this (Upward (u +ℤ of_test open_a) (v -ℤ of_test open_b))) (Here AtHead)) (reached laws image P width K compiled h.spot) (starts (Ok u) (Ok v) q r))) on

    by_last : {fresh : ℕ} → RangeLines image P K n i next end open_a x y open_b body fresh (fresh + 2 * expression_count (Loop (turns.Range i next end open_a x y open_b) body))
        → (built : StatementBuilt image P K this) → built.fresh ≡ fresh
        → (u : ℤ) → value_of x Program w ≡ Ok u → (f : Kept next (1 + one_if open_a) (at_label image P K (own_label n)) u m) → (t : Answer) → value_of y Program w ≡ t → Evaluated image (rewritten f.bytes m) (at_label image P K (own_label n) + 3 + 4) t
        → StepDone image P width K frames (Start this) w (at_label image P K (own_label n)) m
    by_last lines built same u q f (Ok v) r e =
        let sz = sizes laws image P width K compiled outer turn sc b done rest n p i next end open_a x y open_b body (pos 0) (pos 0) h.spot in
        let short = end_value y ends_typed.1 v r in
        opens lines built same u v q r f
        (keep end (1 - one_if open_b) (at_label image P K (own_label n) + 3 + 4) v (rewritten f.bytes m) (end_there laws image P width K compiled outer turn sc b done rest n p i next end open_a x y open_b body (pos 0) (pos 0) h.spot) sz.2 lines.last_bound short (last_fits v open_b short)
        f.memory f.counts e)
    by_last lines built same u q f (Err z) r e =
        fault_comes laws image P width K compiled (Start this) w m (at_label image P K (own_label n)) (longest + 1 + longest) z (omega arith) (reached laws image P width K compiled h.spot) (starts (Ok u) (Err z) q r)
        (record { after = e.after; runs = onward f.runs e.runs; marks = e.marks })

    by_first : {fresh : ℕ} → RangeLines image P K n i next end open_a x y open_b body fresh (fresh + 2 * expression_count (Loop (turns.Range i next end open_a x y open_b) body))
        → (built : StatementBuilt image P K this) → built.fresh ≡ fresh
        → (r : Answer) → value_of x Program w ≡ r → Evaluated image m (at_label image P K (own_label n)) r → StepDone image P width K frames (Start this) w (at_label image P K (own_label n)) m
    by_first lines built same (Ok u) q e =
        let sz = sizes laws image P width K compiled outer turn sc b done rest n p i next end open_a x y open_b body (pos 0) (pos 0) h.spot in
        let short = end_value x ends_typed.0 u q in
        let f = keep next (1 + one_if open_a) (at_label image P K (own_label n)) u m (next_there laws image P width K compiled outer turn sc b done rest n p i next end open_a x y open_b body (pos 0) (pos 0) h.spot) sz.1 lines.first_bound short (first_fits u open_a short)
        h.stands.memory h.stands.counts e in
        by_last lines built same u q f (value_of y Program w) refl (last_evaluated lines (rewritten f.bytes m) f.memory)
    by_first lines built same (Err z) q e =
        fault_comes laws image P width K compiled (Start this) w m (at_label image P K (own_label n)) longest z (omega arith) (reached laws image P width K compiled h.spot) (starts (Err z) (value_of y Program w) q refl) e

  pub range_begins : (outer : List Frame) (turn : Bool) (sc : Scope) (b : KBlock) (done rest : List KNode) (n : ℕ) (p : Pos) (i next end : ℕ) (open_a : Bool) (x y : KExp) (open_b : Bool) (body : KBlock) (w : World) (at : ℕ) (m : Machine)
      → AtStart image P width K outer turn sc b done rest (record { node = n; pos = p; stmt = Loop (turns.Range i next end open_a x y open_b) body }) w at m
      → StepDone image P width K (OfBlock b [] no_instance rest ∷ outer) (Start (record { node = n; pos = p; stmt = Loop (turns.Range i next end open_a x y open_b) body })) w at m
  range_begins outer turn sc b done rest n p i next end open_a x y open_b body w at m h =
      let built = (among laws image P width K compiled h.spot).built in
      let lines = range_lines image P K compiled.single n p i next end open_a x y open_b body built in
      subst (λ (k : ℕ). StepDone image P width K (OfBlock b [] no_instance rest ∷ outer) (Start (record { node = n; pos = p; stmt = Loop (turns.Range i next end open_a x y open_b) body })) w k m) (sym h.stands.place)
      (by_first outer turn sc b done rest n p i next end open_a x y open_b body w at m h lines built refl (value_of x Program w) refl
      (first_evaluated outer turn sc b done rest n p i next end open_a x y open_b body w at m h lines))
