use Rattle.std.proofs.Common.{◌≡◌, ◌≤◌, ◌++◌, drop}
use Rattle.ceu_tree.specs.Needs.{greatest_of}
use Rattle.ceu_slots.proofs.plans.shorts.Given as goal

abbrev pub invariant-loop-number : goal.invariant-loop-number
invariant-loop-number l = record {
  numbers : l.numbers ≡ l.short.items ++ drop l.number-index l.numbers;
  fits : greatest_of (drop l.number-index l.numbers) ≤ 65535;
}
