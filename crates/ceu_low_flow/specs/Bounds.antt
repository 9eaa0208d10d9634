-- How much the lines of a statement of one trail take, without those of its parts.
use Rattle.std.specs.Prelude.{ℕ, ◌+◌, ◌*◌, ◌≤◌, length}
use Rattle.ceu_base.specs.declared.kinds.Pos.{Pos}
use Rattle.ceu_tree.specs.declared.kernel.Kernel.{Kernel}
use Rattle.ceu_tree.specs.declared.kernel.KStmt.{KStmt, If'}
use Rattle.ceu_asm.specs.declared.line.Labels.{Labels}
use Rattle.ceu_asm.specs.Lines.{code_size}
use Rattle.ceu_shape.specs.Plans.{Plan}
use Rattle.ceu_shape.specs.Shape.{arm_count, expression_count, node_draft}
use Rattle.ceu_low_flow.specs.Conditions.{IsFlow, label_count}

abbrev pub arms_of : KStmt → ℕ
arms_of (If' _ arms last) = arm_count arms
arms_of _ = 0

-- at most 3 bytes for each expression, 45 for each arm of an if, and 33 for the statement
abbrev pub TakeFewBytes : Type 0
TakeFewBytes = (P : Plan) (K : Kernel) (n : ℕ) (p : Pos) (s : KStmt) (labels : Labels) (fresh : ℕ) (number : Pos → ℕ) → IsFlow s →
    code_size ((node_draft P K n p s labels fresh).lines number) ≤ 3 * expression_count s + 45 * arms_of s + 33

-- one label for each arm of an if, one for a loop, and no other
abbrev pub TakeTheirLabels : Type 0
TakeTheirLabels = (P : Plan) (K : Kernel) (n : ℕ) (p : Pos) (s : KStmt) (labels : Labels) (fresh : ℕ) → IsFlow s → (node_draft P K n p s labels fresh).next ≤ fresh + label_count s

-- at most the position of the statement
abbrev pub NoteOnePosition : Type 0
NoteOnePosition = (P : Plan) (K : Kernel) (n : ℕ) (p : Pos) (s : KStmt) (labels : Labels) (fresh : ℕ) → IsFlow s → length (node_draft P K n p s labels fresh).noted ≤ 1
