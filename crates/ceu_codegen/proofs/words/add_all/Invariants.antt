use Rattle.std.proofs.Common.{◌≡◌, ◌++◌, take}
use Rattle.ceu_codegen.proofs.words.add_all.Given as goal

abbrev pub invariant-loop-line : goal.invariant-loop-line
invariant-loop-line l = l.sheet ≡ record l.initial.sheet { lines = l.initial.sheet.lines ++ take l.line-index l.lines }
