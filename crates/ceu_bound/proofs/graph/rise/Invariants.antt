use Rattle.std.proofs.Common.{◌≡◌, take}
use Rattle.std.specs.Prelude.{None, find}
use Rattle.ceu_bound.specs.Graph.{rises}
use Rattle.ceu_bound.proofs.graph.rise.Given as goal

abbrev pub invariant-loop-arrow : goal.invariant-loop-arrow
invariant-loop-arrow l = find (rises l.numbers) (take l.arrow-index l.arrows) ≡ None
