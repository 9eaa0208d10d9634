use Rattle.std.proofs.Common.{◌≡◌, take}
use Rattle.std.specs.Prelude.{None, find}
use Rattle.ceu_bound.specs.Graph.{leaks}
use Rattle.ceu_bound.proofs.graph.leak.Given as goal

abbrev pub invariant-loop-arrow : goal.invariant-loop-arrow
invariant-loop-arrow l = find (leaks l.marks) (take l.arrow-index l.arrows) ≡ None
