use Rattle.std.proofs.Common.{◌≡◌}
use Rattle.ceu_isa.specs.Layout.{each_gate}
use Rattle.ceu_isa.specs.Trails.{waits_for, woken_at}
use Rattle.ceu_machine.specs.Holding.{IsMachine}
use Rattle.ceu_machine.proofs.emits.wake.Given as goal

abbrev pub invariant-loop-g : goal.invariant-loop-g
invariant-loop-g l = (l.mem.bytes ≡ each_gate l.image (waits_for l.event l.frame) (woken_at l.level l.value) l.g l.fn.mem.bytes) × IsMachine l.image l.mem
