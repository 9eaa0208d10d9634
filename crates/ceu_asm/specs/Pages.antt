-- What contracts see of a sheet.
use Rattle.std.specs.Prelude.{ℕ, List}
use Rattle.ceu_base.specs.declared.kinds.Pos.{Pos}
use Rattle.ceu_asm.specs.declared.line.Line.{Line}

-- its lines, how many labels it has given, and its list of positions
pub record Page : Type 0 where
  pub lines : List Line
  pub labels : ℕ
  pub places : List Pos
