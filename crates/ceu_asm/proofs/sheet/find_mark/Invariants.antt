use Rattle.std.proofs.Common.{◌≡◌, ◌+◌, drop}
use Rattle.ceu_asm.specs.Lines.{offset_of, code_size}
use Rattle.ceu_asm.proofs.sheet.find_mark.Given as goal

abbrev pub invariant-loop-line : goal.invariant-loop-line
invariant-loop-line l = record {
  room : l.at + code_size (drop l.line-index l.lines) ≡ code_size l.lines;
  value : offset_of l.label l.lines ≡ l.at + offset_of l.label (drop l.line-index l.lines);
}
