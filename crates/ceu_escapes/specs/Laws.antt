-- The laws on steps of programs of one trail, for escapes.
use Rattle.std.specs.Prelude.{◌≡◌, ℕ, Bool, List, [], ◌∷◌, Option, Some, None}
use Rattle.ceu_base.specs.declared.kinds.Pos.{Pos}
use Rattle.ceu_code.specs.declared.image.Image.{Image}
use Rattle.ceu_isa.specs.Turns.{Machine}
use Rattle.ceu_tree.specs.declared.kernel.Kernel.{Kernel}
use Rattle.ceu_tree.specs.declared.kernel.KExp.{KExp}
use Rattle.ceu_tree.specs.declared.kernel.KNode.{KNode}
use Rattle.ceu_tree.specs.declared.kernel.KBlock.{KBlock}
use Rattle.ceu_tree.specs.declared.kernel.KStmt as kernel
use Rattle.ceu_tree.specs.declared.kernel.KStmt.{out-KStmt}
use Rattle.ceu_tree.specs.declared.kernel.KStmt.TheOpen.{KStmt-F}
use Rattle.ceu_tree.specs.declared.kernel.Loc.{Loc}
use Rattle.ceu_tree.specs.Proper.{Scope}
use Rattle.ceu_tree.specs.Residual.{Start, no_instance}
use Rattle.ceu_tree.specs.Focus.{Frame, OfBlock}
use Rattle.ceu_tree.specs.World.{World}
use Rattle.laws_meaning_basics.specs.Shape.{AStatement}
use Rattle.ceu_shape.specs.Plans.{Plan}
use Rattle.ceu_shape.specs.Searches.{escape_target}
use Rattle.ceu_trail.specs.Compiled.{Compiled}
use Rattle.ceu_steps.specs.Premises.{BuiltLaws}
use Rattle.ceu_steps.specs.Reached.{Reached}
use Rattle.ceu_steps.proofs.Turns.{AtStart}
use Rattle.ceu_rounds.proofs.Spots.{StepDone}

-- an escape without a value
abbrev pub bare : ℕ → Pos → ℕ → KNode
bare n p left = record { node = n; pos = p; stmt = kernel.Escape left None }

-- One step of a turn is done by the machine where an escape without a value begins.
abbrev pub BareEscapesAreDone : Type 0
BareEscapesAreDone =
    BuiltLaws → (image : Image) (P : Plan) (width : ℕ → ℕ) (K : Kernel) → Compiled image P width K
    → (outer : List Frame) (turn : Bool) (sc : Scope) (b : KBlock) (done rest : List KNode) (n : ℕ) (p : Pos) (left : ℕ) (w : World) (at : ℕ) (m : Machine)
    → AtStart image P width K outer turn sc b done rest (bare n p left) w at m → StepDone image P width K (OfBlock b [] no_instance rest ∷ outer) (Start (bare n p left)) w at m

-- an escape with a value
abbrev pub valued : ℕ → Pos → ℕ → KExp → KNode
valued n p left e = record { node = n; pos = p; stmt = kernel.Escape left (Some e) }

-- The lines of an escape find the target of the do that it leaves.
abbrev pub TargetsAreFound : Type 0
TargetsAreFound =
    (image : Image) (P : Plan) (width : ℕ → ℕ) (K : Kernel) → Compiled image P width K → (frames : List Frame) (sc : Scope) (s : KNode) (l : Option Loc) (body : KBlock)
    → Reached K frames (AStatement sc s) → out-KStmt s.stmt ≡ KStmt-F.Do l body → escape_target K s.node ≡ l

-- One step of a turn is done by the machine where an escape with a value begins.
abbrev pub ValueEscapesAreDone : Type 0
ValueEscapesAreDone =
    BuiltLaws → (image : Image) (P : Plan) (width : ℕ → ℕ) (K : Kernel) → Compiled image P width K
    → (outer : List Frame) (turn : Bool) (sc : Scope) (b : KBlock) (done rest : List KNode) (n : ℕ) (p : Pos) (left : ℕ) (e : KExp) (w : World) (at : ℕ) (m : Machine)
    → AtStart image P width K outer turn sc b done rest (valued n p left e) w at m → StepDone image P width K (OfBlock b [] no_instance rest ∷ outer) (Start (valued n p left e)) w at m
