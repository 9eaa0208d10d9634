use Rattle.ceu_react.proofs.Advancing.{SoFar}
use Rattle.ceu_react.proofs.clock.advance.Given as goal

abbrev pub invariant-timers : goal.invariant-timers
invariant-timers g l = SoFar g.W.MarkSink.notes g.W.MarkSink.faults l.image l.us l.fn.mem.bytes l.fn.out l.reactions l.left l.mem l.out

abbrev pub decreases-timers : goal.decreases-timers
decreases-timers g l = l.reactions
