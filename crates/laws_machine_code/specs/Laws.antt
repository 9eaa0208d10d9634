-- The lines of an expression, where they stand in the code, do what the reference semantics says: they push its value, or fault as it does. And what a
-- trail does in instructions is as many steps of its turn.
use Rattle.std.specs.Prelude.{◌≡◌, ℕ, ◌+◌, ◌≤◌, Bool, true, List}
use Rattle.ceu_base.specs.declared.kinds.Fault.{Fault}
use Rattle.ceu_base.specs.declared.kinds.Pos.{Pos}
use Rattle.ceu_code.specs.declared.image.Image.{Image}
use Rattle.ceu_asm.specs.Lines.{code_size}
use Rattle.ceu_isa.specs.declared.registers.Registers.{Registers}
use Rattle.ceu_isa.specs.Safety.{Fits}
use Rattle.ceu_isa.specs.Turns.{Machine, Trail, rewritten, failing, behind, ticks}
use Rattle.laws_machine_code.specs.Placed.{Placed}
use Rattle.ceu_shape.specs.Expressions.{exp_draft}
use Rattle.ceu_tree.specs.declared.kernel.Loc.{Loc}
use Rattle.ceu_tree.specs.declared.kernel.KExp.{KExp}
use Rattle.ceu_tree.specs.Depth.{exp_depth}
use Rattle.ceu_tree.specs.Expressions.{value_of}
use Rattle.ceu_tree.specs.Residual.{Body}
use Rattle.ceu_tree.specs.Typing.{typed}
use Rattle.ceu_tree.specs.World.{World}
use Rattle.laws_machine_code.specs.Does.{Does, steps_of, Fails, Gives}
use Rattle.laws_machine_code.specs.Seen.{Visible, NodePlaced}

-- from any cell on, from which the image has enough
abbrev pub ExpressionsEvaluate : Type 0
ExpressionsEvaluate =
    (image : Image) (labels offset : ℕ → ℕ) (number : Pos → ℕ) (body : Body) (w : World) (reads : Loc → Bool) (asks : ℕ → Bool) (e : KExp) (fresh : ℕ) (r : Registers) (bytes : List ℕ)
    → typed reads asks e ≡ true → Fits image bytes → Visible image offset r.frame body w bytes e.node → NodePlaced image number e.node e.pos
    → Placed image labels r.at ((exp_draft offset e fresh).lines number) → r.depth + exp_depth e ≤ image.depth
    → Gives image r bytes (r.at + code_size ((exp_draft offset e fresh).lines number)) (value_of e body w)

-- one that faults is one step more
abbrev pub InstructionsAreSteps : Type 0
InstructionsAreSteps =
    (image : Image) (r : Registers) (m : Machine)
    → ((q : Registers) (after : List ℕ) (does : Does image r m.bytes q after) → ticks image (steps_of does) (Trail r m) ≡ Trail q (rewritten after m))
    × ((to : ℕ) (fault : Fault) (place : Pos) (fails : Fails image r m.bytes to fault place) → ticks image (steps_of fails.does + 1) (Trail r m) ≡ failing image fault place (behind fails.last fails.at) (rewritten fails.there m))
