use Rattle.std.proofs.Common.{◌≡◌, ◌++◌, take, map}
use Rattle.ceu_bound.specs.Graph.{arrow}
use Rattle.ceu_bound.proofs.verdict.add_targets.Given as goal

abbrev pub invariant-loop-target : goal.invariant-loop-target
invariant-loop-target l = l.arrows.items ≡ l.initial.arrows.items ++ map (arrow l.event) (take l.target-index l.emitted)
