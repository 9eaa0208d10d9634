use Rattle.std.proofs.Common.{◌≡◌, ◌-◌, ◌++◌}
use Rattle.ceu_code.specs.Table.{low_first}
use Rattle.ceu_code.proofs.encoding.put_number.Given as goal

abbrev pub invariant-loop : goal.invariant-loop
invariant-loop l = l.out ++ low_first (l.width - l.counter) l.rest ≡ l.fn.out ++ low_first l.width l.number
