use Rattle.ceu_react.proofs.Levels.{SoFar}
use Rattle.ceu_react.proofs.closing.next.Given as goal

abbrev pub invariant-levels : goal.invariant-levels
invariant-levels g l = SoFar g.W.MarkSink.notes g.W.MarkSink.faults l.image l.fn.mem.bytes l.fn.out l.level l.mem l.out

abbrev pub decreases-levels : goal.decreases-levels
decreases-levels g l = l.level
