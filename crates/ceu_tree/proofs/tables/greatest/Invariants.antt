use Rattle.std.proofs.Common.{◌≡◌, take}
use Rattle.ceu_tree.specs.Needs.{greatest_of}
use Rattle.ceu_tree.proofs.tables.greatest.Given as goal

abbrev pub invariant-loop-number : goal.invariant-loop-number
invariant-loop-number l = l.most ≡ greatest_of (take l.number-index l.table)
