-- A step of a turn of a program of one trail, by what its leaf does.
use Rattle.std.proofs.Common.{◌≡◌, sym, ap, ◌∙◌, subst, ℕ, ℤ, Bool, true, false, List, [], ◌∷◌, Some, None, arith}
use Rattle.std.specs.Prelude.{◌&&◌}
use Rattle.std.proofs.lemmas.Bool.{and_from, false≢true}
use Rattle.ceu_base.specs.declared.kinds.Pos.{Pos}
use Rattle.ceu_code.specs.declared.image.Image.{Image}
use Rattle.ceu_isa.specs.declared.registers.Registers.{Registers}
use Rattle.ceu_isa.specs.Turns.{Machine}
use Rattle.ceu_tree.specs.declared.kernel.Kernel.{Kernel}
use Rattle.ceu_tree.specs.declared.kernel.KBlock.{KBlock, out-KBlock}
use Rattle.ceu_tree.specs.declared.kernel.KLoop.{KLoop}
use Rattle.ceu_tree.specs.declared.kernel.KLoop.TheVariants as turns
use Rattle.ceu_tree.specs.declared.kernel.KNode.{KNode}
use Rattle.ceu_tree.specs.declared.kernel.KStmt.{KStmt, out-KStmt, Nothing, Assign, Out, AwaitIn, AwaitTime, Forever, Do, Escape, Break, Continue, If', Loop}
use Rattle.ceu_tree.specs.declared.kernel.KStmt.TheOpen.{KStmt-F}
use Rattle.ceu_tree.specs.Leaf.{Layer}
use Rattle.ceu_tree.specs.Legal.{finalizers_of}
use Rattle.ceu_tree.specs.Proper.{Scope}
use Rattle.ceu_tree.specs.Residual.{Body, Program, Act, Begin, Start, Finish, AtEnd, AtHead, Again, Counter, Free, Turns, Upward, no_instance}
use Rattle.ceu_tree.specs.Focus.{Frame, OfBlock, OfOpen, OfLoop, Focus, Here, In, leaf, body_of}
use Rattle.ceu_tree.specs.Step.{stepped}
use Rattle.ceu_tree.specs.World.{World}
use Rattle.ceu_tree.specs.Run.{Turning}
use Rattle.laws_meaning_basics.specs.Shape.{Part, AStatement, AnEnd, ActFits, begins, heads, goes_again, starts, finishes, ends, opens_part, program_part, block_scope, counts, pauses}
use Rattle.laws_meaning_values.specs.Ready.{act_has}
use Rattle.laws_meaning_values.proofs.RunValues.{config_reads}
use Rattle.ceu_endings.specs.Counted.{focus_counted, layer_counted}
use Rattle.ceu_endings.proofs.Shapes.{one_trail, no_codes}
use Rattle.ceu_single.specs.Single.{stmt_single}
use Rattle.ceu_shape.specs.Plans.{Plan}
use Rattle.ceu_trail.specs.Built.{ending}
use Rattle.ceu_trail.specs.Compiled.{Compiled}
use Rattle.ceu_trail.specs.Coming.{Comes}
use Rattle.ceu_trail.specs.Laws.{StepsAreDone}
use Rattle.ceu_trail.specs.Turning.{TurnStands}
use Rattle.ceu_trail.specs.Within.{Variable, ValuesWithin, in_focus, act_brings, focus_within, counter_within}
use Rattle.ceu_steps.specs.Live.{vars_in}
use Rattle.ceu_steps.specs.Premises.{BuiltLaws}
use Rattle.ceu_steps.specs.Reached.{wrap, Reached, at_program, at_statement, at_end, in_part, in_turn}
use Rattle.ceu_steps.specs.Running.{trail_at}
use Rattle.ceu_steps.proofs.Assigns.{assign_comes}
use Rattle.ceu_steps.proofs.Awaits.{await_comes, forever_comes}
use Rattle.ceu_steps.proofs.Begins.{begin_comes}
use Rattle.ceu_steps.proofs.Comes.{StandsIn, stands_in}
use Rattle.ceu_steps.proofs.Deep.{some_cell}
use Rattle.ceu_steps.proofs.Ends.{do_comes, do_ends, program_ends}
use Rattle.ceu_steps.proofs.Finds.{found_in, vars_here}
use Rattle.ceu_steps.proofs.Finishes as ended
use Rattle.ceu_steps.proofs.Finishes.{AtFinish, input_comes}
use Rattle.ceu_steps.proofs.Frames.{body_wrap}
use Rattle.ceu_steps.proofs.Knot.{laws_of}
use Rattle.ceu_steps.proofs.Lines.{is_trail_at}
use Rattle.ceu_steps.proofs.Outs.{out_none_comes, out_comes}
use Rattle.ceu_steps.proofs.Places.{opens_of}
use Rattle.ceu_steps.proofs.Simple.{nothing_comes}
use Rattle.ceu_steps.proofs.Times as times
use Rattle.ceu_steps.proofs.Turns.{Standing, AtStart, single_of, sizes_of}
use Rattle.ceu_positions.proofs.Placed.{positions_are_placed}
use Rattle.ceu_rounds.proofs.FreeLoops.{free_begins, free_goes}
use Rattle.ceu_rounds.proofs.Leaving.{break_comes, continue_comes}
use Rattle.ceu_rounds.proofs.LoopEnds.{turn_ends}
use Rattle.ceu_rounds.proofs.Spots.{StepDone, AtTurn, IsTurn}
use Rattle.ceu_rounds.proofs.TimesLoops.{times_begins, times_turns}
use Rattle.ceu_ifs.proofs.Ends.{if_ends}
use Rattle.ceu_ifs.proofs.Starts.{if_begins}
use Rattle.ceu_spans.proofs.RangeHeads.{range_heads}
use Rattle.ceu_spans.proofs.RangeStarts.{range_begins}
use Rattle.ceu_escapes.proofs.Escapes.{bare_comes}
use Rattle.ceu_escapes.proofs.ValueEscapes.{value_comes}
use denote.Hole.Carrier

-- what is within bounds in a whole turn is so inside
inner_within : (outer : List Frame) (f : Focus Act) → focus_within (wrap outer f) → focus_within f
unfolding focus_within
inner_within [] f h = h
inner_within (fr ∷ outer) f h = (inner_within outer (In fr f) h).1

inner_counted : (outer : List Frame) (f : Focus Act) → focus_counted (wrap outer f) → focus_counted f
unfolding focus_counted
inner_counted [] f h = h
inner_counted (fr ∷ outer) f h = (inner_counted outer (In fr f) h).1

counter_here : (s : KNode) (c : Counter) (a : Act) (outer : List Frame) → focus_within (wrap (OfLoop s c ∷ outer) (Here a)) → counter_within c
unfolding focus_within
counter_here s c a outer h = (inner_within outer (In (OfLoop s c) (Here a)) h).0

layer_here : (s : KNode) (c : Counter) (a : Act) (outer : List Frame) → focus_counted (wrap (OfLoop s c ∷ outer) (Here a)) → layer_counted (out-KStmt s.stmt) c
unfolding focus_counted
layer_here s c a outer h = (inner_counted outer (In (OfLoop s c) (Here a)) h).0

-- ---- statements that are loops

abbrev is_loop : Layer → Bool
is_loop (KStmt-F.Loop k b) = true
is_loop layer = false

abbrev loop_kind : Layer → KLoop
loop_kind (KStmt-F.Loop k b) = k
loop_kind layer = turns.Free

abbrev loop_body : KBlock → Layer → KBlock
loop_body b (KStmt-F.Loop k body) = body
loop_body b layer = b

module _ (laws : BuiltLaws) (image : Image) (P : Plan) (width : ℕ → ℕ) (K : Kernel) (compiled : Compiled image P width K) where
  -- a statement begins
  by_statement : {outer : List Frame} {turn : Bool} {sc : Scope} {b : KBlock} {done rest : List KNode} (n : ℕ) (p : Pos) (st : KStmt) (w : World) (at : ℕ) (m : Machine) → stmt_single st ≡ true
      → AtStart image P width K outer turn sc b done rest (record { node = n; pos = p; stmt = st }) w at m → StepDone image P width K (OfBlock b [] no_instance rest ∷ outer) (Start (record { node = n; pos = p; stmt = st })) w at m
  unfolding out-KStmt Carrier.out stmt_single
  by_statement {outer = outer} {b = b} {done = done} {rest = rest} n p Nothing w at m i h =
      nothing_comes laws image P width K compiled outer b done rest n p w m at h.spot.block h.spot.is h.spot.plain h.stands
  by_statement n p (Assign l e) w at m i h = assign_comes laws image P width K compiled n p l e w at m h
  by_statement n p (Out port None) w at m i h = out_none_comes laws image P width K compiled n p port w at m h
  by_statement n p (Out port (Some e)) w at m i h = out_comes laws image P width K compiled n p port e w at m h
  by_statement n p (AwaitIn port t) w at m i h = await_comes laws image P width K compiled n p port t w at m h
  by_statement n p (AwaitTime e u t) w at m i h = times.time_comes laws image P width K compiled n p e u t w at m h
  by_statement n p Forever w at m i h = forever_comes laws image P width K compiled n p w at m h
  by_statement n p (Do t c) w at m i h = do_comes laws image P width K compiled n p t c w at m h
  by_statement {outer = outer} {turn = turn} {sc = sc} {b = b} {done = done} {rest = rest} n p (Loop turns.Free body) w at m i h = free_begins laws image P width K compiled outer turn sc b done rest n p body w at m h
  by_statement {outer = outer} {turn = turn} {sc = sc} {b = b} {done = done} {rest = rest} n p (Loop (turns.Times slot limit) body) w at m i h = times_begins laws image P width K compiled outer turn sc b done rest n p slot limit body w at m h
  by_statement {outer = outer} {turn = turn} {sc = sc} {b = b} {done = done} {rest = rest} n p (Loop (turns.Range v next end open_a x y open_b) body) w at m i h =
      range_begins laws image P width K compiled outer turn sc b done rest n p v next end open_a x y open_b body w at m h
  by_statement {outer = outer} {turn = turn} {sc = sc} {b = b} {done = done} {rest = rest} n p (If' y arms last) w at m i h = if_begins laws image P width K compiled outer turn sc b done rest n p y arms last w at m h
  by_statement {outer = outer} {turn = turn} {sc = sc} {b = b} {done = done} {rest = rest} n p (Escape left None) w at m i h = bare_comes laws image P width K compiled outer turn sc b done rest n p left w at m h
  by_statement {outer = outer} {turn = turn} {sc = sc} {b = b} {done = done} {rest = rest} n p (Escape left (Some e)) w at m i h = value_comes laws image P width K compiled outer turn sc b done rest n p left e w at m h
  by_statement {outer = outer} {turn = turn} {sc = sc} {b = b} {done = done} {rest = rest} n p (Break left) w at m i h = break_comes laws image P width K compiled outer turn sc b done rest n p w at m left h
  by_statement {outer = outer} {turn = turn} {sc = sc} {b = b} {done = done} {rest = rest} n p (Continue left) w at m i h = continue_comes laws image P width K compiled outer turn sc b done rest n p w at m left h
  by_statement n p st w at m i h = absurd (false≢true i)

  -- a statement that has waited goes on: in a program of one trail it waited for an input or a time
  by_finish : {outer : List Frame} {turn : Bool} {sc : Scope} {b : KBlock} {done rest : List KNode} (n : ℕ) (p : Pos) (st : KStmt) (v : ℤ) (w : World) (at : ℕ) (m : Machine) → (pauses (out-KStmt st) && stmt_single st) ≡ true
      → AtFinish laws image P width K compiled outer turn sc b done rest (record { node = n; pos = p; stmt = st }) v w at m → StepDone image P width K (OfBlock b [] no_instance rest ∷ outer) (Finish (record { node = n; pos = p; stmt = st }) v) w at m
  unfolding out-KStmt Carrier.out stmt_single
  by_finish n p (AwaitIn k t) v w at m i h = input_comes laws image P width K compiled n p k t v w at m h
  by_finish n p (AwaitTime e u t) v w at m i h = ended.time_comes laws image P width K compiled n p e u t v w at m h
  by_finish n p st v w at m i h = absurd (false≢true i)

  -- a block that a statement opened ends
  by_end : {outer : List Frame} {turn : Bool} {sc : Scope} {b0 : KBlock} {done rest : List KNode} (n : ℕ) (p : Pos) (st : KStmt) (b : KBlock) (w : World) (at : ℕ) (m : Machine)
      → let s : KNode = record { node = n; pos = p; stmt = st } in
      stmt_single st ≡ true → opens_part (out-KStmt st) b → Standing K outer turn sc b0 done rest s → ending P K b ≡ [] → Reached K (OfBlock b [] no_instance [] ∷ OfOpen s ∷ OfBlock b0 [] no_instance rest ∷ outer) AnEnd
      → StandsIn image P width K (OfOpen s ∷ OfBlock b0 [] no_instance rest ∷ outer) (OfBlock b [] no_instance []) AtEnd w at m.bytes → ValuesWithin (vars_in (OfBlock b [] no_instance [] ∷ OfOpen s ∷ OfBlock b0 [] no_instance rest ∷ outer)) w
      → StepDone image P width K (OfBlock b [] no_instance [] ∷ OfOpen s ∷ OfBlock b0 [] no_instance rest ∷ outer) AtEnd w at m
  unfolding out-KStmt Carrier.out
  by_end {outer = outer} {b0 = b0} {rest = rest} n p (Do t c) b w at m i o spot e x stands held =
      let s : KNode = record { node = n; pos = p; stmt = Do t c } in
      (subst (λ (z : KBlock). ending P K z ≡ [] → Reached K (OfBlock z [] no_instance [] ∷ OfOpen s ∷ OfBlock b0 [] no_instance rest ∷ outer) AnEnd
      → StandsIn image P width K (OfOpen s ∷ OfBlock b0 [] no_instance rest ∷ outer) (OfBlock z [] no_instance []) AtEnd w at m.bytes → ValuesWithin (vars_in (OfBlock z [] no_instance [] ∷ OfOpen s ∷ OfBlock b0 [] no_instance rest ∷ outer)) w
      → StepDone image P width K (OfBlock z [] no_instance [] ∷ OfOpen s ∷ OfBlock b0 [] no_instance rest ∷ outer) AtEnd w at m) o
      (λ e' x' stands' held'. do_ends laws image P width K compiled n p t c w at m spot e' x' stands' held')) e x stands held
  by_end n p (If' y arms last) b w at m i o spot e x stands held = if_ends laws image P width K compiled n p y arms last b w at m o spot e x stands
  by_end n p st b w at m i o spot e x stands held = absurd o

  -- at the head of a loop
  by_head : {outer : List Frame} {turn : Bool} {sc : Scope} {b : KBlock} {done rest : List KNode} (n : ℕ) (p : Pos) (k : KLoop) (body : KBlock) (c : Counter) (a : Act) (w : World) (at : ℕ) (m : Machine) → counts k c ≡ true
      → AtTurn image P width K outer turn sc b done rest n p k body c a w at m → StepDone image P width K (OfLoop (record { node = n; pos = p; stmt = Loop k body }) c ∷ OfBlock b [] no_instance rest ∷ outer) a w at m
  by_head {outer = outer} {turn = turn} {sc = sc} {b = b} {done = done} {rest = rest} n p turns.Free body Free a w at m q h = free_goes laws image P width K compiled outer turn sc b done rest n p body w at m a h
  by_head {outer = outer} {turn = turn} {sc = sc} {b = b} {done = done} {rest = rest} n p (turns.Times slot limit) body (Turns j) a w at m q h = times_turns laws image P width K compiled outer turn sc b done rest n p slot limit body w at m j a h
  by_head {outer = outer} {turn = turn} {sc = sc} {b = b} {done = done} {rest = rest} n p (turns.Range i next end open_a x y open_b) body (Upward u v) a w at m q h =
      range_heads laws image P width K compiled outer turn sc b done rest n p i next end open_a x y open_b body w at m u v a h
  by_head n p turns.Free body (Turns j) a w at m q h = absurd (false≢true q)
  by_head n p turns.Free body (Upward u v) a w at m q h = absurd (false≢true q)
  by_head n p (turns.Times slot limit) body Free a w at m q h = absurd (false≢true q)
  by_head n p (turns.Times slot limit) body (Upward u v) a w at m q h = absurd (false≢true q)
  by_head n p (turns.Range i next end open_a x y open_b) body Free a w at m q h = absurd (false≢true q)
  by_head n p (turns.Range i next end open_a x y open_b) body (Turns j) a w at m q h = absurd (false≢true q)

  by_turn : {outer : List Frame} {turn : Bool} {sc : Scope} {b0 : KBlock} {done rest : List KNode} (n : ℕ) (p : Pos) (st : KStmt) (k : KLoop) (b : KBlock) (c : Counter) (a : Act) (w : World) (at : ℕ) (m : Machine)
      → let s : KNode = record { node = n; pos = p; stmt = st } in
      is_loop (out-KStmt st) ≡ true → out-KStmt st ≡ KStmt-F.Loop k b → counts k c ≡ true → IsTurn a → Standing K outer turn sc b0 done rest s
      → StandsIn image P width K (OfBlock b0 [] no_instance rest ∷ outer) (OfLoop s c) a w at m.bytes → ValuesWithin (vars_in (OfLoop s c ∷ OfBlock b0 [] no_instance rest ∷ outer)) w → counter_within c → layer_counted (out-KStmt st) c
      → StepDone image P width K (OfLoop s c ∷ OfBlock b0 [] no_instance rest ∷ outer) a w at m
  unfolding out-KStmt Carrier.out
  by_turn n p (Loop l body) k b c a w at m i e q t spot stands held within counted =
      let r : counts l c ≡ true = subst (λ (z : KLoop). counts z c ≡ true) (sym (ap loop_kind e)) q in
      by_head n p l body c a w at m r (record { spot = spot; is_turn = t; stands = stands; held = held; counter = r; within = within; counted = counted })
  by_turn n p st k b c a w at m i e q t spot stands held within counted = absurd (false≢true i)

  -- the body of a loop ends
  by_turn_end : {outer : List Frame} {turn : Bool} {sc : Scope} {b0 : KBlock} {done rest : List KNode} (n : ℕ) (p : Pos) (st : KStmt) (k : KLoop) (b : KBlock) (c : Counter) (w : World) (at : ℕ) (m : Machine)
      → let s : KNode = record { node = n; pos = p; stmt = st } in
      is_loop (out-KStmt st) ≡ true → out-KStmt st ≡ KStmt-F.Loop k b → counts k c ≡ true → Standing K outer turn sc b0 done rest s → finalizers_of [] (out-KBlock b).list ≡ []
      → StandsIn image P width K (OfLoop s c ∷ OfBlock b0 [] no_instance rest ∷ outer) (OfBlock b [] no_instance []) AtEnd w at m.bytes
      → StepDone image P width K (OfBlock b [] no_instance [] ∷ OfLoop s c ∷ OfBlock b0 [] no_instance rest ∷ outer) AtEnd w at m
  unfolding out-KStmt Carrier.out
  by_turn_end {outer = outer} {turn = turn} {sc = sc} {b0 = b0} {done = done} {rest = rest} n p (Loop l body) k b c w at m i e q spot pl stands =
      let s : KNode = record { node = n; pos = p; stmt = Loop l body } in
      let r : counts l c ≡ true = subst (λ (z : KLoop). counts z c ≡ true) (sym (ap loop_kind e)) q in
      (subst (λ (z : KBlock). finalizers_of [] (out-KBlock z).list ≡ [] → StandsIn image P width K (OfLoop s c ∷ OfBlock b0 [] no_instance rest ∷ outer) (OfBlock z [] no_instance []) AtEnd w at m.bytes
      → StepDone image P width K (OfBlock z [] no_instance [] ∷ OfLoop s c ∷ OfBlock b0 [] no_instance rest ∷ outer) AtEnd w at m) (ap (loop_body b) e)
      (λ pl' stands'. turn_ends laws image P width K compiled outer turn sc b0 done rest n p l body c w at m spot r pl' stands')) pl stands
  by_turn_end n p st k b c w at m i e q spot pl stands = absurd (false≢true i)

  -- by the place of the leaf
  by_place : {frames : List Frame} {e : Part} (a : Act) (w : World) (at : ℕ) (m : Machine) → ActFits e a → Reached K frames e → ValuesWithin (vars_in frames) w → act_has Program w a ≡ true → act_brings K a
      → focus_within (wrap frames (Here a)) → focus_counted (wrap frames (Here a)) → TurnStands image P width K (wrap frames (Here a)) w (trail_at image at 0) m.bytes → StepDone image P width K frames a w at m
  by_place {frames = frames} (Begin b) w at m begins x held has bring within counted s = begin_comes laws image P width K compiled frames b w at m x s
  by_place (Start s) w at m starts (at_statement {outer = outer} {turn = turn} {sc = sc} {b = b} {rest = rest} done x e pl) held has bring within counted stands =
      by_statement s.node s.pos s.stmt w at m (single_of laws image P width K compiled (OfBlock b [] no_instance rest ∷ outer) (AStatement (block_scope sc b) s) (at_statement done x e pl))
      (record {
        spot = record { block = x; is = e; plain = pl };
        stands = stands_in image P width K outer (OfBlock b [] no_instance rest) (Start s) w (trail_at image at 0) m.bytes stands;
        held = held;
        has = has;
      })
  by_place (Finish s v) w at m (finishes may) (at_statement {outer = outer} {turn = turn} {sc = sc} {b = b} {rest = rest} done x e pl) held has bring within counted stands =
      by_finish s.node s.pos s.stmt v w at m
      (and_from (pauses (out-KStmt s.stmt)) (stmt_single s.stmt) may (single_of laws image P width K compiled (OfBlock b [] no_instance rest ∷ outer) (AStatement (block_scope sc b) s) (at_statement done x e pl)))
      (record {
        spot = record { block = x; is = e; plain = pl };
        stands = stands_in image P width K outer (OfBlock b [] no_instance rest) (Finish s v) w (trail_at image at 0) m.bytes stands;
        held = held;
        brought = bring;
      })
  by_place AtEnd w at m ends (at_end {b = b} at_program pl) held has bring within counted stands =
      program_ends laws image P width K compiled b w at m (let a = some_cell K in let e = (sizes_of image P width K compiled).depth_is in omega arith) (opens_of laws image P width K compiled at_program).nothing_at_end (at_end at_program pl)
      (stands_in image P width K [] (OfBlock b [] no_instance []) AtEnd w (trail_at image at 0) m.bytes stands)
  by_place AtEnd w at m ends (at_end (in_part {s = s} b (at_statement {outer = outer} {sc = sc} {b = b0} {rest = rest} done x e pl0) o) pl) held has bring within counted stands =
      by_end s.node s.pos s.stmt b w at m (single_of laws image P width K compiled (OfBlock b0 [] no_instance rest ∷ outer) (AStatement (block_scope sc b0) s) (at_statement done x e pl0)) o (record { block = x; is = e; plain = pl0 })
      (opens_of laws image P width K compiled (in_part b (at_statement done x e pl0) o)).nothing_at_end (at_end (in_part b (at_statement done x e pl0) o) pl)
      (stands_in image P width K (OfOpen s ∷ OfBlock b0 [] no_instance rest ∷ outer) (OfBlock b [] no_instance []) AtEnd w (trail_at image at 0) m.bytes stands) held
  by_place AtEnd w at m ends (at_end (in_turn {s = s} {c = c} k b (at_statement {outer = outer} {b = b0} {rest = rest} done x e pl0) o q) pl) held has bring within counted stands =
      by_turn_end s.node s.pos s.stmt k b c w at m (ap is_loop o) o q (record { block = x; is = e; plain = pl0 }) pl
      (stands_in image P width K (OfLoop s c ∷ OfBlock b0 [] no_instance rest ∷ outer) (OfBlock b [] no_instance []) AtEnd w (trail_at image at 0) m.bytes stands)
  by_place AtHead w at m heads (in_turn {s = s} {c = c} k b (at_statement {outer = outer} {b = b0} {rest = rest} done x e pl) o q) held has bring within counted stands =
      by_turn s.node s.pos s.stmt k b c AtHead w at m (ap is_loop o) o q tt (record { block = x; is = e; plain = pl })
      (stands_in image P width K (OfBlock b0 [] no_instance rest ∷ outer) (OfLoop s c) AtHead w (trail_at image at 0) m.bytes stands) held
      (counter_here s c AtHead (OfBlock b0 [] no_instance rest ∷ outer) within) (layer_here s c AtHead (OfBlock b0 [] no_instance rest ∷ outer) counted)
  by_place Again w at m goes_again (in_turn {s = s} {c = c} k b (at_statement {outer = outer} {b = b0} {rest = rest} done x e pl) o q) held has bring within counted stands =
      by_turn s.node s.pos s.stmt k b c Again w at m (ap is_loop o) o q tt (record { block = x; is = e; plain = pl })
      (stands_in image P width K (OfBlock b0 [] no_instance rest ∷ outer) (OfLoop s c) Again w (trail_at image at 0) m.bytes stands) held
      (counter_here s c Again (OfBlock b0 [] no_instance rest ∷ outer) within) (layer_here s c Again (OfBlock b0 [] no_instance rest ∷ outer) counted)

pub steps_are_done : StepsAreDone
steps_are_done image P width K f w r m compiled fits valued counted within stands =
    let laws = laws_of positions_are_placed in
    let found = found_in [] f (program_part K) fits.part at_program fits.around (one_trail K (Turning 0 f w) compiled.single fits) in
    let same : f ≡ wrap found.frames (Here (leaf f)) = found.is in
    let r_is : r ≡ trail_at image r.at 0 = is_trail_at image P width K r stands.trail in
    let has : act_has Program w (leaf f) ≡ true =
    subst (λ (b : Body). act_has b w (leaf f) ≡ true) (ap (λ (g : Focus Act). body_of g Program) same ∙ body_wrap (Here (leaf f)) found.reached) (config_reads K compiled.proper (no_codes K compiled.single).0 0 f w fits valued) in
    let held : ValuesWithin (vars_in found.frames) w = subst (λ (vs : List Variable). ValuesWithin vs w) (ap (λ (g : Focus Act). in_focus g) same ∙ vars_here found.frames (leaf f)) within.values in
    let stands' : TurnStands image P width K (wrap found.frames (Here (leaf f))) w (trail_at image r.at 0) m.bytes =
    subst (λ (q : Registers). TurnStands image P width K (wrap found.frames (Here (leaf f))) w q m.bytes) r_is (subst (λ (g : Focus Act). TurnStands image P width K g w r m.bytes) same stands) in
    let done = by_place laws image P width K compiled (leaf f) w r.at m fits.acts found.reached held has within.brought (subst (λ (g : Focus Act). focus_within g) same within.counters)
    (subst (λ (g : Focus Act). focus_counted g) same counted) stands' in
    subst (λ (q : Registers). let v = stepped K 0 Program f w in Comes image P width K w q m v.outcome v.world) (sym r_is)
    (subst (λ (g : Focus Act). let v = stepped K 0 Program g w in Comes image P width K w (trail_at image r.at 0) m v.outcome v.world) (sym same) done)
