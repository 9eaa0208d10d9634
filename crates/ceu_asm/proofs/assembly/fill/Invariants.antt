use Rattle.std.proofs.Common.{◌≡◌, ◌+◌, length, drop}
use Rattle.std.specs.List.{AllByRecursion}
use Rattle.ceu_asm.specs.Lines.{code_size}
use Rattle.ceu_asm.specs.Tables.{filled, IsWithin}
use Rattle.ceu_asm.proofs.assembly.fill.Given as goal

abbrev pub invariant-loop-line : goal.invariant-loop-line
invariant-loop-line l = record {
  room : l.at + code_size (drop l.line-index l.lines) ≡ code_size l.lines;
  within : AllByRecursion (IsWithin (length l.table)) (drop l.line-index l.lines);
  value : filled l.table l.at (drop l.line-index l.lines) ≡ filled l.initial.table 0 l.lines;
}
