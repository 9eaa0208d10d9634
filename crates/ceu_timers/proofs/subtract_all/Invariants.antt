use Rattle.std.proofs.Common.{◌≡◌}
use Rattle.ceu_isa.specs.Commands.{is_timer, sooner}
use Rattle.ceu_isa.specs.Layout.{each_gate}
use Rattle.ceu_timers.proofs.Clock.{Passed}
use Rattle.ceu_timers.proofs.subtract_all.Given as goal

abbrev pub invariant-loop-g : goal.invariant-loop-g
invariant-loop-g l = record { passed : Passed l.fn.mem l.mem l.image.gates l.g l.d; bytes : l.mem.bytes ≡ each_gate l.image is_timer (sooner l.d) l.g l.fn.mem.bytes }
