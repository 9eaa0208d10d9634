use Rattle.ceu_machine.specs.States.{plain}
use Rattle.ceu_react.proofs.Reactions.{left}
use Rattle.ceu_react.proofs.Runs.{SoFar}
use Rattle.ceu_react.proofs.reacting.finish.Given as goal

abbrev pub invariant-rounds : goal.invariant-rounds
invariant-rounds g l = SoFar g.W.MarkSink.notes g.W.MarkSink.faults l.image l.fn.mem.bytes l.fn.out l.mem l.out

abbrev pub decreases-rounds : goal.decreases-rounds
decreases-rounds g l = left l.image l.image.turns (plain l.mem.bytes)
