use Rattle.ceu_timers.proofs.Clock.{FoundSoFar}
use Rattle.ceu_timers.proofs.least.Given as goal

abbrev pub invariant-loop-g : goal.invariant-loop-g
invariant-loop-g l = FoundSoFar l.mem l.g l.found
