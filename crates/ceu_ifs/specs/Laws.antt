-- The laws on steps of programs of one trail where an if begins, and at the end of a block of one.
use Rattle.std.specs.Prelude.{◌≡◌, ℕ, Bool, List, [], ◌∷◌}
use Rattle.ceu_base.specs.declared.kinds.Pos.{Pos}
use Rattle.ceu_code.specs.declared.image.Image.{Image}
use Rattle.ceu_isa.specs.Turns.{Machine}
use Rattle.ceu_tree.specs.declared.kernel.Kernel.{Kernel}
use Rattle.ceu_tree.specs.declared.kernel.KNode.{KNode}
use Rattle.ceu_tree.specs.declared.kernel.KBlock.{KBlock}
use Rattle.ceu_tree.specs.declared.kernel.KStmt.{out-KStmt, Row_of-KArm, If'}
use Rattle.ceu_tree.specs.Proper.{Scope}
use Rattle.ceu_tree.specs.Residual.{Start, AtEnd, no_instance}
use Rattle.ceu_tree.specs.Focus.{Frame, OfBlock, OfOpen}
use Rattle.ceu_tree.specs.World.{World}
use Rattle.laws_meaning_basics.specs.Shape.{AnEnd, opens_part}
use Rattle.ceu_shape.specs.Plans.{Plan}
use Rattle.ceu_trail.specs.Built.{ending}
use Rattle.ceu_trail.specs.Compiled.{Compiled}
use Rattle.ceu_steps.specs.Premises.{BuiltLaws}
use Rattle.ceu_steps.specs.Reached.{Reached}
use Rattle.ceu_steps.proofs.Comes.{StandsIn}
use Rattle.ceu_steps.proofs.Turns.{Standing, AtStart}
use Rattle.ceu_rounds.proofs.Spots.{StepDone}

-- One step of a turn is done by the machine where an `if` begins: its conditions are evaluated up to the first one that is true, and its block is opened, or
-- the last one; or one of them faults.
abbrev pub IfStartsAreDone : Type 0
IfStartsAreDone =
    BuiltLaws → (image : Image) (P : Plan) (width : ℕ → ℕ) (K : Kernel) → Compiled image P width K
    → (outer : List Frame) (turn : Bool) (sc : Scope) (b : KBlock) (done rest : List KNode) (n : ℕ) (p : Pos) (y : List (Unit {0})) (arms : Row_of-KArm _) (last : KBlock) (w : World) (at : ℕ) (m : Machine)
    → let s : KNode = record { node = n; pos = p; stmt = If' y arms last } in
    AtStart image P width K outer turn sc b done rest s w at m → StepDone image P width K (OfBlock b [] no_instance rest ∷ outer) (Start s) w at m

-- So too at the end of a block that an `if` opened, which has nothing to do there: the turn goes on behind the `if`.
abbrev pub IfEndsAreDone : Type 0
IfEndsAreDone =
    BuiltLaws → (image : Image) (P : Plan) (width : ℕ → ℕ) (K : Kernel) → Compiled image P width K
    → (outer : List Frame) (turn : Bool) (sc : Scope) (b0 : KBlock) (done rest : List KNode) (n : ℕ) (p : Pos) (y : List (Unit {0})) (arms : Row_of-KArm _) (last b : KBlock) (w : World) (at : ℕ) (m : Machine)
    → let s : KNode = record { node = n; pos = p; stmt = If' y arms last } in
    opens_part (out-KStmt (If' y arms last)) b → Standing K outer turn sc b0 done rest s → ending P K b ≡ []
    → Reached K (OfBlock b [] no_instance [] ∷ OfOpen s ∷ OfBlock b0 [] no_instance rest ∷ outer) AnEnd
    → StandsIn image P width K (OfOpen s ∷ OfBlock b0 [] no_instance rest ∷ outer) (OfBlock b [] no_instance []) AtEnd w at m.bytes
    → StepDone image P width K (OfBlock b [] no_instance [] ∷ OfOpen s ∷ OfBlock b0 [] no_instance rest ∷ outer) AtEnd w at m
