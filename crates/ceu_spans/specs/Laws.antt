-- The laws on steps of programs of one trail, for loops over a range.
use Rattle.std.specs.Prelude.{ℕ, ℤ, Bool, List, [], ◌∷◌}
use Rattle.ceu_base.specs.declared.kinds.Pos.{Pos}
use Rattle.ceu_code.specs.declared.image.Image.{Image}
use Rattle.ceu_isa.specs.Turns.{Machine}
use Rattle.ceu_tree.specs.declared.kernel.Kernel.{Kernel}
use Rattle.ceu_tree.specs.declared.kernel.KExp.{KExp}
use Rattle.ceu_tree.specs.declared.kernel.KLoop.TheVariants as turns
use Rattle.ceu_tree.specs.declared.kernel.KNode.{KNode}
use Rattle.ceu_tree.specs.declared.kernel.KBlock.{KBlock}
use Rattle.ceu_tree.specs.declared.kernel.KStmt.{Loop}
use Rattle.ceu_tree.specs.Proper.{Scope}
use Rattle.ceu_tree.specs.Residual.{Act, Start, Upward, no_instance}
use Rattle.ceu_tree.specs.Focus.{Frame, OfBlock, OfLoop}
use Rattle.ceu_tree.specs.World.{World}
use Rattle.ceu_shape.specs.Plans.{Plan}
use Rattle.ceu_trail.specs.Compiled.{Compiled}
use Rattle.ceu_steps.specs.Premises.{BuiltLaws}
use Rattle.ceu_steps.proofs.Turns.{AtStart}
use Rattle.ceu_rounds.proofs.Spots.{StepDone, AtTurn}

-- a loop over a range
abbrev pub ranging : ℕ → Pos → (i next end : ℕ) (open_a : Bool) (x y : KExp) (open_b : Bool) → KBlock → KNode
ranging n p i next end open_a x y open_b body = record { node = n; pos = p; stmt = Loop (turns.Range i next end open_a x y open_b) body }

-- One step of a turn is done by the machine where a loop over a range begins.
abbrev pub RangesBegin : Type 0
RangesBegin =
    BuiltLaws → (image : Image) (P : Plan) (width : ℕ → ℕ) (K : Kernel) → Compiled image P width K
    → (outer : List Frame) (turn : Bool) (sc : Scope) (b : KBlock) (done rest : List KNode) (n : ℕ) (p : Pos) (i next end : ℕ) (open_a : Bool) (x y : KExp) (open_b : Bool) (body : KBlock) (w : World) (at : ℕ) (m : Machine)
    → AtStart image P width K outer turn sc b done rest (ranging n p i next end open_a x y open_b body) w at m
    → StepDone image P width K (OfBlock b [] no_instance rest ∷ outer) (Start (ranging n p i next end open_a x y open_b body)) w at m

-- So too at its head, with the next value and the last one.
abbrev pub RangesTurn : Type 0
RangesTurn =
    BuiltLaws → (image : Image) (P : Plan) (width : ℕ → ℕ) (K : Kernel) → Compiled image P width K
    → (outer : List Frame) (turn : Bool) (sc : Scope) (b : KBlock) (done rest : List KNode) (n : ℕ) (p : Pos) (i next end : ℕ) (open_a : Bool) (x y : KExp) (open_b : Bool) (body : KBlock) (w : World) (at : ℕ) (m : Machine) (u v : ℤ) (a : Act)
    → AtTurn image P width K outer turn sc b done rest n p (turns.Range i next end open_a x y open_b) body (Upward u v) a w at m
    → StepDone image P width K (OfLoop (ranging n p i next end open_a x y open_b body) (Upward u v) ∷ OfBlock b [] no_instance rest ∷ outer) a w at m
