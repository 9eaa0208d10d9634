-- How much the code of a kernel takes at most, by the weight of the kernel.
use Rattle.std.specs.Prelude.{◌≡◌, ℕ, ◌+◌, ◌*◌, ◌≤◌, max, ◌++◌, length, Some, slice_get}
use Rattle.std.specs.List.{AllByRecursion}
use Rattle.ceu_base.specs.declared.kinds.Pos.{Pos}
use Rattle.ceu_tree.specs.declared.kernel.Kernel.{Kernel}
use Rattle.ceu_tree.specs.declared.kernel.KCode.{KCode}
use Rattle.ceu_tree.specs.declared.kernel.KBlock.{KBlock}
use Rattle.ceu_tree.specs.declared.kernel.KStmt.{KStmt}
use Rattle.ceu_tree.specs.Numbering.{block_nodes, codes_nodes}
use Rattle.ceu_tree.specs.Weight.{stmt_weight, block_weight, code_weight, weight}
use Rattle.ceu_tree.specs.Proper.{Proper}
use Rattle.ceu_asm.specs.Lines.{code_size, IsWhole}
use Rattle.ceu_shape.specs.Plans.{Plan}
use Rattle.ceu_shape.specs.Pieces.{Piece, numbered}
use Rattle.ceu_shape.specs.Searches.{kernel_pools}
use Rattle.ceu_shape.specs.Shape.{with_parts, parts_draft, block_draft, code_draft, kernel_piece, shape_positions, shape_lines}

-- the bytes of the code are at most the weight, and 12 at least are allowed
abbrev pub CodeIsShort : Type 0
CodeIsShort = (P : Plan) (K : Kernel) → code_size (shape_lines P K) ≤ max (weight K) 12

-- so the lines of a proper kernel of at most this weight become bytes
abbrev pub CodeIsWhole : Type 0
CodeIsWhole = (P : Plan) (K : Kernel) → Proper K → weight K ≤ 65535 → IsWhole (shape_lines P K)

-- the positions that it names are no more than the weight
abbrev pub PositionsAreFew : Type 0
PositionsAreFew = (P : Plan) (K : Kernel) → length (shape_positions P K) ≤ weight K

-- a kernel of a weight has few nodes: one for each 24, and one
abbrev pub NodesAreFew : Type 0
NodesAreFew = (K : Kernel) → 24 * length (block_nodes K.body ++ codes_nodes K.codes) ≤ weight K + 24

-- each of its pools is 48 of its weight
abbrev pub PoolsAreFew : Type 0
PoolsAreFew = (K : Kernel) → 48 * length (kernel_pools K) ≤ weight K

-- the labels that it takes are below twice the weight and 3
abbrev pub LabelsAreFew : Type 0
LabelsAreFew = (P : Plan) (K : Kernel) → (kernel_piece P K).next ≤ 2 * weight K + 2

-- each position that the lines name stands in the list at its number
abbrev pub PositionsAreListed : Type 0
PositionsAreListed = (P : Plan) (K : Kernel) → AllByRecursion (λ (p : Pos). slice_get (shape_positions P K) (numbered (shape_positions P K) p) ≡ Some p) (kernel_piece P K).noted

-- ---- parts

-- a piece takes at most so many bytes, labels and positions
pub record TakesAtMost (piece : Piece) (number : Pos → ℕ) (fresh most : ℕ) : Type 0 where
  pub bytes : code_size (piece.lines number) ≤ most
  pub labels : piece.next ≤ fresh + most
  pub positions : length piece.noted ≤ most

-- a block takes its weight
abbrev pub BlocksAreLight : Type 0
BlocksAreLight = (P : Plan) (K : Kernel) (b : KBlock) (fresh : ℕ) (number : Pos → ℕ) → TakesAtMost (block_draft P K b fresh) number fresh (block_weight b)

-- a statement with its parts 48 and its weight
abbrev pub StatementsAreLight : Type 0
StatementsAreLight = (P : Plan) (K : Kernel) (n : ℕ) (p : Pos) (s : KStmt) (fresh : ℕ) (number : Pos → ℕ) → TakesAtMost (with_parts P K n p s (parts_draft P K s) fresh) number fresh (48 + stmt_weight s)

-- and a code its weight
abbrev pub CodesAreLight : Type 0
CodesAreLight = (P : Plan) (K : Kernel) (c : KCode) (fresh : ℕ) (number : Pos → ℕ) → TakesAtMost (code_draft P K c fresh) number fresh (code_weight c)
