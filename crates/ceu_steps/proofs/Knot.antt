-- One step of a turn, by what its leaf does.
use Rattle.std.proofs.Common.{◌≡◌, sym, ap, ◌∙◌, subst, ℕ, ℤ, Bool, true, List, [], ◌∷◌, Some, None, arith, ◌<◌, refl}
use Rattle.std.specs.Prelude.{◌&&◌}
use Rattle.std.proofs.lemmas.Bool.{and_from, false≢true}
use Rattle.ceu_base.specs.declared.kinds.Pos.{Pos}
use Rattle.ceu_code.specs.declared.image.Image.{Image}
use Rattle.ceu_isa.specs.declared.registers.Registers.{Registers}
use Rattle.ceu_isa.specs.Turns.{Machine}
use Rattle.ceu_tree.specs.declared.kernel.Kernel.{Kernel}
use Rattle.ceu_tree.specs.declared.kernel.KNode.{KNode}
use Rattle.ceu_tree.specs.declared.kernel.KBlock.{KBlock}
use Rattle.ceu_tree.specs.declared.kernel.KStmt.{KStmt, out-KStmt, Nothing, Assign, Out, AwaitIn, AwaitTime, Forever, Do}
use Rattle.ceu_tree.specs.Proper.{Scope}
use Rattle.ceu_tree.specs.Residual.{Body, Program, Act, Begin, Start, Finish, AtEnd, AtHead, Again, no_instance}
use Rattle.ceu_tree.specs.Focus.{Frame, OfBlock, OfOpen, Focus, Here, In, leaf, body_of}
use Rattle.ceu_tree.specs.Step.{stepped}
use Rattle.ceu_tree.specs.World.{World}
use Rattle.ceu_tree.specs.Run.{Turning}
use Rattle.laws_meaning_basics.specs.Shape.{Part, AStatement, AnEnd, ActFits, begins, starts, finishes, ends, opens_part, program_part, block_scope, pauses}
use Rattle.laws_meaning_values.specs.Ready.{act_has}
use Rattle.laws_meaning_values.proofs.RunValues.{config_reads}
use Rattle.ceu_endings.proofs.Shapes.{one_trail, no_codes}
use Rattle.ceu_single.specs.Single.{stmt_single}
use Rattle.ceu_shape.specs.Plans.{Plan}
use Rattle.ceu_trail.specs.Compiled.{Compiled}
use Rattle.ceu_trail.specs.Within.{Variable, ValuesWithin, in_focus, act_brings}
use Rattle.ceu_trail.specs.Turning.{TurnStands}
use Rattle.ceu_trail.specs.Coming.{Comes}
use Rattle.ceu_trail.proofs.Codes.{program_is_built, frames_are_built, blocks_open, lists_begin}
use Rattle.ceu_trail.proofs.Planned.{gates_are_first, gates_nest}
use Rattle.ceu_trail.proofs.Stops.{stops_are_there}
use Rattle.ceu_steps.specs.Running.{trail_at}
use Rattle.ceu_steps.specs.Premises.{BuiltLaws, PositionsArePlaced}
use Rattle.ceu_steps.specs.Reached.{wrap, Reached, at_program, at_statement, at_end, in_part, in_turn}
use Rattle.ceu_steps.specs.Live.{vars_in}
use Rattle.ceu_steps.specs.Laws.{IsPlainStart, IsPlain, IsDo, IsOfDo, IsPlainUnder, IsPlainTurn, PlainStepsAreDone}
use Rattle.ceu_steps.proofs.Frames.{body_wrap}
use Rattle.ceu_steps.proofs.Lines.{is_trail_at}
use Rattle.ceu_steps.proofs.Comes.{StandsIn, stands_in}
use Rattle.ceu_steps.proofs.Finds.{found_in, vars_here}
use Rattle.ceu_steps.proofs.Begins.{begin_comes}
use Rattle.ceu_steps.proofs.Simple.{nothing_comes}
use Rattle.ceu_steps.proofs.Assigns.{assign_comes}
use Rattle.ceu_steps.proofs.Outs.{out_none_comes, out_comes}
use Rattle.ceu_steps.proofs.Awaits.{await_comes, forever_comes}
use Rattle.ceu_steps.proofs.Times as times
use Rattle.ceu_steps.proofs.Finishes as ended
use Rattle.ceu_steps.proofs.Finishes.{AtFinish, input_comes}
use Rattle.ceu_steps.proofs.Ends.{do_comes, do_ends, program_ends}
use Rattle.ceu_steps.proofs.Turns.{Standing, AtStart, single_of, sizes_of}
use Rattle.ceu_steps.proofs.Deep.{some_cell}
use Rattle.ceu_steps.proofs.Places.{opens_of}
use Rattle.ceu_trail.specs.Built.{ending}
use denote.Hole.Carrier

-- by the act, and for a block's end by the frame around it
abbrev PlainAt : Act → List Frame → Type 0
PlainAt AtEnd [] = ⊥
PlainAt AtEnd (fr ∷ []) = Unit {0}
PlainAt AtEnd (fr ∷ (out ∷ outer)) = IsOfDo out
PlainAt a frames = IsPlain a

pub laws_of : PositionsArePlaced → BuiltLaws
laws_of h = record {
  program_is_built = program_is_built;
  frames_are_built = frames_are_built;
  blocks_open = blocks_open;
  lists_begin = lists_begin;
  gates_are_first = gates_are_first;
  gates_nest = gates_nest;
  stops_are_there = stops_are_there;
  positions_are_placed = h;
}

module _ (laws : BuiltLaws) (image : Image) (P : Plan) (width : ℕ → ℕ) (K : Kernel) (compiled : Compiled image P width K) where
  abbrev pub Done : List Frame → Act → World → ℕ → Machine → Type 0
  Done frames a w at m = let v = stepped K 0 Program (wrap frames (Here a)) w in Comes image P width K w (trail_at image at 0) m v.outcome v.world

  by_statement : {outer : List Frame} {turn : Bool} {sc : Scope} {b : KBlock} {done rest : List KNode} (n : ℕ) (p : Pos) (st : KStmt) (w : World) (at : ℕ) (m : Machine) → IsPlainStart (out-KStmt st)
      → AtStart image P width K outer turn sc b done rest (record { node = n; pos = p; stmt = st }) w at m → Done (OfBlock b [] no_instance rest ∷ outer) (Start (record { node = n; pos = p; stmt = st })) w at m
  unfolding out-KStmt Carrier.out
  by_statement {outer = outer} {b = b} {done = done} {rest = rest} n p Nothing w at m i h =
      nothing_comes laws image P width K compiled outer b done rest n p w m at h.spot.block h.spot.is h.spot.plain h.stands
  by_statement n p (Assign l e) w at m i h = assign_comes laws image P width K compiled n p l e w at m h
  by_statement n p (Out k None) w at m i h = out_none_comes laws image P width K compiled n p k w at m h
  by_statement n p (Out k (Some e)) w at m i h = out_comes laws image P width K compiled n p k e w at m h
  by_statement n p (AwaitIn k t) w at m i h = await_comes laws image P width K compiled n p k t w at m h
  by_statement n p (AwaitTime e u t) w at m i h = times.time_comes laws image P width K compiled n p e u t w at m h
  by_statement n p Forever w at m i h = forever_comes laws image P width K compiled n p w at m h
  by_statement n p (Do t c) w at m i h = do_comes laws image P width K compiled n p t c w at m h
  by_statement n p st w at m i h = absurd i

  -- a statement that has waited: in a program of one trail for an input or a time
  by_finish : {outer : List Frame} {turn : Bool} {sc : Scope} {b : KBlock} {done rest : List KNode} (n : ℕ) (p : Pos) (st : KStmt) (v : ℤ) (w : World) (at : ℕ) (m : Machine) → (pauses (out-KStmt st) && stmt_single st) ≡ true
      → AtFinish laws image P width K compiled outer turn sc b done rest (record { node = n; pos = p; stmt = st }) v w at m → Done (OfBlock b [] no_instance rest ∷ outer) (Finish (record { node = n; pos = p; stmt = st }) v) w at m
  unfolding out-KStmt Carrier.out stmt_single
  by_finish n p (AwaitIn k t) v w at m i h = input_comes laws image P width K compiled n p k t v w at m h
  by_finish n p (AwaitTime e u t) v w at m i h = ended.time_comes laws image P width K compiled n p e u t v w at m h
  by_finish n p st v w at m i h = absurd (false≢true i)

  -- a block that a statement opened ends
  by_end : {outer : List Frame} {turn : Bool} {sc : Scope} {b0 : KBlock} {done rest : List KNode} (n : ℕ) (p : Pos) (st : KStmt) (b : KBlock) (w : World) (at : ℕ) (m : Machine)
      → let s : KNode = record { node = n; pos = p; stmt = st } in
      IsDo (out-KStmt st) → opens_part (out-KStmt st) b → Standing K outer turn sc b0 done rest s → ending P K b ≡ [] → Reached K (OfBlock b [] no_instance [] ∷ OfOpen s ∷ OfBlock b0 [] no_instance rest ∷ outer) AnEnd
      → StandsIn image P width K (OfOpen s ∷ OfBlock b0 [] no_instance rest ∷ outer) (OfBlock b [] no_instance []) AtEnd w at m.bytes → ValuesWithin (vars_in (OfBlock b [] no_instance [] ∷ OfOpen s ∷ OfBlock b0 [] no_instance rest ∷ outer)) w
      → Done (OfBlock b [] no_instance [] ∷ OfOpen s ∷ OfBlock b0 [] no_instance rest ∷ outer) AtEnd w at m
  unfolding out-KStmt Carrier.out
  by_end {outer = outer} {b0 = b0} {rest = rest} n p (Do t c) b w at m i o spot e x stands held =
      let s : KNode = record { node = n; pos = p; stmt = Do t c } in
      (subst (λ (z : KBlock). ending P K z ≡ [] → Reached K (OfBlock z [] no_instance [] ∷ OfOpen s ∷ OfBlock b0 [] no_instance rest ∷ outer) AnEnd
      → StandsIn image P width K (OfOpen s ∷ OfBlock b0 [] no_instance rest ∷ outer) (OfBlock z [] no_instance []) AtEnd w at m.bytes → ValuesWithin (vars_in (OfBlock z [] no_instance [] ∷ OfOpen s ∷ OfBlock b0 [] no_instance rest ∷ outer)) w
      → Done (OfBlock z [] no_instance [] ∷ OfOpen s ∷ OfBlock b0 [] no_instance rest ∷ outer) AtEnd w at m) o
      (λ e' x' stands' held'. do_ends laws image P width K compiled n p t c w at m spot e' x' stands' held')) e x stands held
  by_end n p st b w at m i o spot e x stands held = absurd i

  -- by the place of the leaf
  by_place : {frames : List Frame} {e : Part} (a : Act) (w : World) (at : ℕ) (m : Machine) → ActFits e a → Reached K frames e → PlainAt a frames → ValuesWithin (vars_in frames) w → act_has Program w a ≡ true → act_brings K a
      → TurnStands image P width K (wrap frames (Here a)) w (trail_at image at 0) m.bytes → Done frames a w at m
  by_place {frames = frames} (Begin b) w at m begins x i held has bring s = begin_comes laws image P width K compiled frames b w at m x s
  by_place (Start s) w at m starts (at_statement {outer = outer} {turn = turn} {sc = sc} {b = b} {rest = rest} done x e pl) i held has bring stands =
      by_statement s.node s.pos s.stmt w at m i
      (record {
        spot = record { block = x; is = e; plain = pl };
        stands = stands_in image P width K outer (OfBlock b [] no_instance rest) (Start s) w (trail_at image at 0) m.bytes stands;
        held = held;
        has = has;
      })
  by_place (Finish s v) w at m (finishes may) (at_statement {outer = outer} {turn = turn} {sc = sc} {b = b} {rest = rest} done x e pl) i held has bring stands =
      by_finish s.node s.pos s.stmt v w at m
      (and_from (pauses (out-KStmt s.stmt)) (stmt_single s.stmt) may (single_of laws image P width K compiled (OfBlock b [] no_instance rest ∷ outer) (AStatement (block_scope sc b) s) (at_statement done x e pl)))
      (record {
        spot = record { block = x; is = e; plain = pl };
        stands = stands_in image P width K outer (OfBlock b [] no_instance rest) (Finish s v) w (trail_at image at 0) m.bytes stands;
        held = held;
        brought = bring;
      })
  by_place AtEnd w at m ends (at_end {b = b} at_program pl) i held has bring stands =
      program_ends laws image P width K compiled b w at m (let a = some_cell K in let e = (sizes_of image P width K compiled).depth_is in omega arith) (opens_of laws image P width K compiled at_program).nothing_at_end (at_end at_program pl)
      (stands_in image P width K [] (OfBlock b [] no_instance []) AtEnd w (trail_at image at 0) m.bytes stands)
  by_place AtEnd w at m ends (at_end (in_part {s = s} b (at_statement {outer = outer} {b = b0} {rest = rest} done x e pl0) o) pl) i held has bring stands =
      by_end s.node s.pos s.stmt b w at m i o (record { block = x; is = e; plain = pl0 }) (opens_of laws image P width K compiled (in_part b (at_statement done x e pl0) o)).nothing_at_end (at_end (in_part b (at_statement done x e pl0) o) pl)
      (stands_in image P width K (OfOpen s ∷ OfBlock b0 [] no_instance rest ∷ outer) (OfBlock b [] no_instance []) AtEnd w (trail_at image at 0) m.bytes stands) held
  by_place AtEnd w at m ends (at_end (in_turn k b x e n) pl) i held has bring stands = absurd i
  by_place AtHead w at m fits x i held has bring s = absurd i
  by_place Again w at m fits x i held has bring s = absurd i

plain_under : (outer : List Frame) (out fr : Frame) (f : Focus Act) → IsPlainTurn (wrap outer (In out (In fr f))) → IsPlainUnder out fr f
unfolding IsPlainUnder
plain_under [] out fr f h = h
plain_under (x ∷ outer) out fr f h = plain_under outer x out (In fr f) h

plain_at : (a : Act) (frames : List Frame) → IsPlainTurn (wrap frames (Here a)) → PlainAt a frames
unfolding IsPlainUnder
plain_at AtEnd [] h = h
plain_at AtEnd (fr ∷ []) h = h
plain_at AtEnd (fr ∷ (out ∷ outer)) h = plain_under outer out fr (Here AtEnd) h
plain_at (Begin b) frames h = tt
plain_at (Finish s v) frames h = tt
plain_at (Start s) [] h = h
plain_at (Start s) (fr ∷ []) h = h
plain_at (Start s) (fr ∷ (out ∷ outer)) h = plain_under outer out fr (Here (Start s)) h
plain_at AtHead [] h = h
plain_at AtHead (fr ∷ []) h = h
plain_at AtHead (fr ∷ (out ∷ outer)) h = plain_under outer out fr (Here AtHead) h
plain_at Again [] h = h
plain_at Again (fr ∷ []) h = h
plain_at Again (fr ∷ (out ∷ outer)) h = plain_under outer out fr (Here Again) h

pub plain_steps_are_done : PlainStepsAreDone
plain_steps_are_done positions image P width K f w r m compiled fits valued within plain stands =
    let laws = laws_of positions in
    let found = found_in [] f (program_part K) fits.part at_program fits.around (one_trail K (Turning 0 f w) compiled.single fits) in
    let same : f ≡ wrap found.frames (Here (leaf f)) = found.is in
    let r_is : r ≡ trail_at image r.at 0 = is_trail_at image P width K r stands.trail in
    let has : act_has Program w (leaf f) ≡ true =
    subst (λ (b : Body). act_has b w (leaf f) ≡ true) (ap (λ (g : Focus Act). body_of g Program) same ∙ body_wrap (Here (leaf f)) found.reached) (config_reads K compiled.proper (no_codes K compiled.single).0 0 f w fits valued) in
    let held : ValuesWithin (vars_in found.frames) w = subst (λ (vs : List Variable). ValuesWithin vs w) (ap (λ (g : Focus Act). in_focus g) same ∙ vars_here found.frames (leaf f)) within.values in
    let stands' : TurnStands image P width K (wrap found.frames (Here (leaf f))) w (trail_at image r.at 0) m.bytes =
    subst (λ (q : Registers). TurnStands image P width K (wrap found.frames (Here (leaf f))) w q m.bytes) r_is (subst (λ (g : Focus Act). TurnStands image P width K g w r m.bytes) same stands) in
    let done = by_place laws image P width K compiled (leaf f) w r.at m fits.acts found.reached (plain_at (leaf f) found.frames (subst (λ (g : Focus Act). IsPlainTurn g) same plain)) held has within.brought stands' in
    subst (λ (q : Registers). let v = stepped K 0 Program f w in Comes image P width K w q m v.outcome v.world) (sym r_is)
    (subst (λ (g : Focus Act). let v = stepped K 0 Program g w in Comes image P width K w (trail_at image r.at 0) m v.outcome v.world) (sym same) done)
