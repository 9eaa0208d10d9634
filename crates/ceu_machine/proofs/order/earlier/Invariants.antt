use Rattle.std.proofs.Common.{◌+◌}
use Rattle.ceu_machine.proofs.Chains.{Walks}
use Rattle.ceu_machine.proofs.order.earlier.Given as goal

abbrev pub invariant-loop-a : goal.invariant-loop-a
invariant-loop-a l = Walks l.image l.mem.bytes l.f l.g l.a l.b l.p l.q

abbrev pub decreases-loop-a : goal.decreases-loop-a
decreases-loop-a l = l.a + l.b
