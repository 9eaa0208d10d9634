use Rattle.std.proofs.Common.{◌≡◌, take}
use Rattle.std.specs.Prelude.{None, find}
use Rattle.ceu_bound.specs.Graph.{is_open}
use Rattle.ceu_bound.proofs.graph.open_arrow.Given as goal

abbrev pub invariant-loop-arrow : goal.invariant-loop-arrow
invariant-loop-arrow l = find (is_open l.reached) (take l.arrow-index l.arrows) ≡ None
