use Rattle.std.proofs.Common.{◌≡◌, max, drop}
use Rattle.ceu_asm.specs.Tables.{table_size}
use Rattle.ceu_asm.proofs.assembly.table_size.Given as goal

abbrev pub invariant-loop-line : goal.invariant-loop-line
invariant-loop-line l = max l.size (table_size (drop l.line-index l.lines)) ≡ table_size l.lines
