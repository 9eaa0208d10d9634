-- The body of a loop ends: its variables are gone, and the trail goes back to the head.
use Rattle.std.proofs.Common.{◌≡◌, refl, sym, ap, ◌∙◌, subst, ℕ, Bool, true, false, List, [], ◌∷◌, ◌++◌, Some, arith}
use Rattle.std.proofs.lemmas.List.{append-nil}
use Rattle.ceu_base.specs.declared.kinds.Pos.{Pos}
use Rattle.ceu_code.specs.declared.image.Image.{Image}
use Rattle.ceu_code.specs.declared.instr.Instr.TheVariants as instr
use Rattle.ceu_asm.specs.declared.line.Line.{Line}
use Rattle.laws_machine_code.specs.Placed.{Placed}
use Rattle.ceu_isa.specs.Fetching.{fetched}
use Rattle.ceu_isa.specs.Turns.{Machine}
use Rattle.ceu_tree.specs.declared.kernel.Kernel.{Kernel}
use Rattle.ceu_tree.specs.declared.kernel.KLoop.{KLoop}
use Rattle.ceu_tree.specs.declared.kernel.KNode.{KNode}
use Rattle.ceu_tree.specs.declared.kernel.KBlock.{KBlock, out-KBlock}
use Rattle.ceu_tree.specs.declared.kernel.KStmt.{out-KStmt, Loop}
use Rattle.ceu_tree.specs.Leaf as does
use Rattle.ceu_tree.specs.Legal.{finalizers_of}
use Rattle.ceu_tree.specs.Proper.{Scope}
use Rattle.ceu_tree.specs.Residual.{Program, AtEnd, Again, Counter, no_instance}
use Rattle.ceu_tree.specs.Focus.{Frame, OfBlock, OfLoop, Here, In}
use Rattle.ceu_tree.specs.Around.{Moved, moved, Goes, AtBlockEnd, up, taken}
use Rattle.ceu_tree.specs.Abort.{closed, instances_aborted}
use Rattle.ceu_tree.specs.World.{World}
use Rattle.laws_meaning_basics.specs.Shape.{counts}
use Rattle.ceu_shape.specs.Plans.{Plan, end_label}
use Rattle.ceu_shape.specs.Words.{goto}
use Rattle.ceu_shape.specs.Searches.{node_of_block}
use Rattle.ceu_trail.specs.Built.{at_label, ending, ListBuilt}
use Rattle.ceu_trail.specs.Compiled.{Compiled}
use Rattle.ceu_trail.specs.Coming.{Comes, ComesOn}
use Rattle.ceu_trail.specs.Turning.{ActAt}
use Rattle.ceu_steps.specs.Running.{trail_at}
use Rattle.ceu_steps.specs.Premises.{BuiltLaws}
use Rattle.ceu_steps.specs.Reached.{wrap, at_end}
use Rattle.ceu_steps.proofs.Frames.{up_goes, step_is}
use Rattle.ceu_steps.proofs.Lines.{goto_runs}
use Rattle.ceu_steps.proofs.Places.{opens_of}
use Rattle.ceu_steps.proofs.Comes.{StandsIn, comes_on}
use Rattle.ceu_steps.proofs.Turns.{Standing, reached}
use Rattle.ceu_steps.proofs.Worlds.{holds_fades, closed_fades, marks_declared}
use Rattle.ceu_rounds.proofs.Spots.{StepDone, inside}
use denote.Hole.Carrier

-- the lines behind a block's last statement
pub end_line : (image : Image) (P : Plan) (K : Kernel) (b : KBlock) (at : ℕ) → ending P K b ≡ [] → ListBuilt image P K false b [] at → fetched image at ≡ Some (instr.Jump (at_label image P K (end_label (node_of_block b))))
end_line image P K b at e built = (subst (λ (ls : List Line). Placed image (at_label image P K) at (ls ++ (goto (end_label (node_of_block b)) ∷ []))) e built.lines).0

ends_up : (s : KNode) (c : Counter) (b : KBlock) (w : World) → up Program (In (OfLoop s c) (In (OfBlock b [] no_instance []) (Here AtEnd))) AtBlockEnd w ≡ moved (Goes (In (OfLoop s c) (Here Again))) (closed b [] no_instance Program w)
unfolding up
ends_up s c b w = refl

pub closed_marks : (b : KBlock) (w : World) → (closed b [] no_instance Program w).marks ≡ w.marks
unfolding instances_aborted
closed_marks b w = marks_declared Program (out-KBlock b).decls w

module _ (laws : BuiltLaws) (image : Image) (P : Plan) (width : ℕ → ℕ) (K : Kernel) (compiled : Compiled image P width K) where
  module _ (outer : List Frame) (turn : Bool) (sc : Scope) (b : KBlock) (done rest : List KNode) (n : ℕ) (p : Pos) (k : KLoop) (body : KBlock) (c : Counter) (w : World) (at : ℕ) (m : Machine) where
    abbrev this : KNode
    this = record { node = n; pos = p; stmt = Loop k body }

    abbrev frames : List Frame
    frames = OfBlock b [] no_instance rest ∷ outer

    abbrev last : Frame
    last = OfBlock body [] no_instance []

    round_end : ActAt image P width K false (OfLoop this c) Again (at_label image P K (end_label (node_of_block body))) m.bytes
    unfolding out-KStmt Carrier.out
    round_end = refl

    pub turn_ends : Standing K outer turn sc b done rest this → counts k c ≡ true → finalizers_of [] (out-KBlock body).list ≡ [] → StandsIn image P width K (OfLoop this c ∷ frames) last AtEnd w at m.bytes → StepDone image P width K (last ∷ OfLoop this c ∷ frames) AtEnd w at m
    turn_ends spot q pl h =
        let around = reached laws image P width K compiled spot in
        let within = inside laws image P width K compiled n p k body c spot q in
        let u : World = closed body [] no_instance Program w in
        let line = end_line image P K body at (opens_of laws image P width K compiled within).nothing_at_end h.place in
        let on : ComesOn image P width K w (trail_at image at 0) m (wrap frames (In (OfLoop this c) (Here Again))) (closed body [] no_instance Program w) =
        comes_on image P width K frames (OfLoop this c) Again w (closed body [] no_instance Program w) m m at (at_label image P K (end_label (node_of_block body))) 1 (omega arith) (goto_runs (at_label image P K (end_label (node_of_block body))) line)
        (record { added = []; semantics = closed_marks body w ∙ sym (append-nil w.marks); machine = sym (append-nil m.marks) })
        (record { memory = holds_fades image P width K w (closed body [] no_instance Program w) m.bytes (closed_fades body Program w) h.memory; counts = h.counts.1; place = round_end }) in
        subst (λ (v : Moved). Comes image P width K w (trail_at image at 0) m v.outcome v.world)
        (sym (step_is AtEnd w (does.done does.Ends w) (at_end within pl) refl
        ∙ ap (λ (v : Moved). moved (taken (wrap frames (In (OfLoop this c) (In last (Here AtEnd)))) v.outcome) v.world)
        (up_goes (In (OfLoop this c) (In last (Here AtEnd))) (In (OfLoop this c) (Here Again)) AtBlockEnd w (closed body [] no_instance Program w) around (ends_up this c body w)))) on
