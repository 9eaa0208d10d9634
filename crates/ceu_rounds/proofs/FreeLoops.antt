-- A loop without a bound: it begins at its head, and there a turn begins.
use Rattle.std.proofs.Common.{◌≡◌, refl, sym, ◌∙◌, subst, ℕ, ◌+◌, ◌*◌, Bool, false, List, [], ◌∷◌, arith}
use Rattle.ceu_base.specs.declared.kinds.Pos.{Pos}
use Rattle.ceu_code.specs.declared.image.Image.{Image}
use Rattle.ceu_isa.specs.Turns.{Machine, Trail}
use Rattle.ceu_tree.specs.declared.kernel.Kernel.{Kernel}
use Rattle.ceu_tree.specs.declared.kernel.KLoop.TheVariants as turns
use Rattle.ceu_tree.specs.declared.kernel.KNode.{KNode}
use Rattle.ceu_tree.specs.declared.kernel.KBlock.{KBlock}
use Rattle.ceu_tree.specs.declared.kernel.KStmt.{out-KStmt, Loop}
use Rattle.ceu_tree.specs.Leaf as does
use Rattle.ceu_tree.specs.Leaf.{acted}
use Rattle.ceu_tree.specs.Proper.{Scope}
use Rattle.ceu_tree.specs.Residual.{Program, Act, Begin, Start, AtHead, Free, no_instance}
use Rattle.ceu_tree.specs.Focus.{Frame, OfBlock, OfLoop, Here, In}
use Rattle.ceu_tree.specs.Around.{Moved, moved, Goes, next_turn}
use Rattle.ceu_tree.specs.World.{World}
use Rattle.ceu_shape.specs.Plans.{Plan, own_label}
use Rattle.ceu_shape.specs.Searches.{node_of_block}
use Rattle.ceu_shape.specs.Shape.{expression_count}
use Rattle.laws_machine_layout.specs.Views.{View, view}
use Rattle.ceu_trail.specs.Built.{at_label}
use Rattle.ceu_trail.specs.Compiled.{Compiled}
use Rattle.ceu_trail.specs.Coming.{Comes, ComesOn}
use Rattle.ceu_trail.specs.Tables.{tables}
use Rattle.ceu_trail.specs.Turning.{FrameCounts}
use Rattle.ceu_steps.specs.Running.{Runs, trail_at}
use Rattle.ceu_steps.specs.Premises.{BuiltLaws}
use Rattle.ceu_steps.specs.Reached.{wrap}
use Rattle.ceu_steps.proofs.Ticks.{stay, onward}
use Rattle.ceu_steps.proofs.Frames.{opens_is}
use Rattle.ceu_steps.proofs.Lines.{goto_runs}
use Rattle.ceu_steps.proofs.Comes.{comes_on, no_marks}
use Rattle.ceu_steps.proofs.Turns.{AtStart, reached, among}
use Rattle.ceu_rounds.proofs.Heads.{turn_goes}
use Rattle.ceu_rounds.proofs.Loops.{free_lines}
use Rattle.ceu_rounds.proofs.Spots.{StepDone, AtTurn, inside, to_head, turn_heads}
use denote.Hole.Carrier

module _ (laws : BuiltLaws) (image : Image) (P : Plan) (width : ℕ → ℕ) (K : Kernel) (compiled : Compiled image P width K) where
  free_starts : (n : ℕ) (p : Pos) (body : KBlock) (w : World) → let s : KNode = record { node = n; pos = p; stmt = Loop turns.Free body } in
      acted K 0 Program (Start s) w ≡ does.done (does.Opens (In (OfLoop s Free) (Here AtHead))) w
  unfolding out-KStmt Carrier.out
  free_starts n p body w = refl

  free_turns : (n : ℕ) (p : Pos) (body : KBlock) (w : World) → let s : KNode = record { node = n; pos = p; stmt = Loop turns.Free body } in
      next_turn s (out-KStmt s.stmt) Free Program w ≡ moved (Goes (In (OfLoop s Free) (Here (Begin body)))) w
  unfolding out-KStmt Carrier.out
  free_turns n p body w = refl

  free_counts : (n : ℕ) (p : Pos) (body : KBlock) (v : View) → FrameCounts (tables P width K) image v (OfLoop (record { node = n; pos = p; stmt = Loop turns.Free body }) Free)
  unfolding out-KStmt Carrier.out
  free_counts n p body v = tt

  module _ (outer : List Frame) (turn : Bool) (sc : Scope) (b : KBlock) (done rest : List KNode) (n : ℕ) (p : Pos) (body : KBlock) (w : World) (at : ℕ) (m : Machine) where
    abbrev this : KNode
    this = record { node = n; pos = p; stmt = Loop turns.Free body }

    abbrev frames : List Frame
    frames = OfBlock b [] no_instance rest ∷ outer

    pub free_begins : AtStart image P width K outer turn sc b done rest this w at m → StepDone image P width K frames (Start this) w at m
    free_begins h =
        let built = (among laws image P width K compiled h.spot).built in
        let lines = free_lines image P K compiled.single n p body built in
        let on : ComesOn image P width K w (trail_at image at 0) m (wrap frames (In (OfLoop this Free) (Here AtHead))) w =
        comes_on image P width K frames (OfLoop this Free) AtHead w w m m at at 0 (omega arith) stay (no_marks w m m.bytes)
        (record { memory = h.stands.memory; counts = (free_counts n p body (view image m.bytes), h.stands.counts); place = record { built = built; there = h.stands.place ∙ sym lines.head_is } }) in
        subst (λ (v : Moved). Comes image P width K w (trail_at image at 0) m v.outcome v.world)
        (sym (opens_is (Start this) w w (In (OfLoop this Free) (Here AtHead)) (reached laws image P width K compiled h.spot) (free_starts n p body w))) on

    pub free_goes : (a : Act) → AtTurn image P width K outer turn sc b done rest n p turns.Free body Free a w at m → StepDone image P width K (OfLoop this Free ∷ frames) a w at m
    free_goes a h =
        let head = to_head laws image P width K compiled n p turns.Free body Free a at false m.bytes m h.is_turn (among laws image P width K compiled h.spot).built (λ built. (free_lines image P K compiled.single n p body built).turn.round) h.stands.place in
        let lines = free_lines image P K compiled.single n p body head.built in
        let into : Runs image 1 (Trail (trail_at image (at_label image P K (head.built.fresh + 2 * expression_count (Loop turns.Free body))) 0) m) (Trail (trail_at image (at_label image P K (own_label (node_of_block body))) 0) m) =
        subst (λ (x : ℕ). Runs image 1 (Trail (trail_at image x 0) m) (Trail (trail_at image (at_label image P K (own_label (node_of_block body))) 0) m)) (sym lines.head_is) (goto_runs (at_label image P K (own_label (node_of_block body))) lines.turn.into) in
        let on : ComesOn image P width K w (trail_at image at 0) m (wrap frames (In (OfLoop this Free) (Here (Begin body)))) w =
        comes_on image P width K frames (OfLoop this Free) (Begin body) w w m m at (at_label image P K (own_label (node_of_block body))) 2 (omega arith) (onward head.runs into) (no_marks w m m.bytes)
        (record { memory = h.stands.memory; counts = h.stands.counts; place = refl }) in
        subst (λ (v : Moved). Comes image P width K w (trail_at image at 0) m v.outcome v.world)
        (sym (turn_goes this Free a w (reached laws image P width K compiled h.spot) (inside laws image P width K compiled n p turns.Free body Free h.spot refl) (turn_heads K a w h.is_turn) (In (OfLoop this Free) (Here (Begin body))) w (free_turns n p body w))) on
