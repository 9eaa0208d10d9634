use Rattle.std.proofs.Common.{◌≡◌, ◌+◌, ◌-◌}
use Rattle.ceu_codegen.proofs.words.take_labels.Given as goal

abbrev pub invariant-loop-taken : goal.invariant-loop-taken
invariant-loop-taken l = l.sheet ≡ record l.initial.sheet { labels = l.initial.sheet.labels + (l._taken - 1) }
