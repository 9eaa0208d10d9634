use Rattle.std.proofs.Common.{◌≡◌, ◌-◌, ◌+◌}
use Rattle.ceu_isa.specs.Pools.{some_taken}
use Rattle.ceu_machine.proofs.pools.some_taken.Given as goal

abbrev pub invariant-loop-i : goal.invariant-loop-i
invariant-loop-i l = some_taken l.image l.mem.bytes l.from l.n ≡ some_taken l.image l.mem.bytes (l.from + l.i) (l.n - l.i)
