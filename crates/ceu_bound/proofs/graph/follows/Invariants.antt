use Rattle.ceu_bound.specs.Graph.{Path}
use Rattle.ceu_bound.proofs.graph.follows.Given as goal

abbrev pub invariant-loop-step : goal.invariant-loop-step
invariant-loop-step l = Path l.arrows l.at l.target
