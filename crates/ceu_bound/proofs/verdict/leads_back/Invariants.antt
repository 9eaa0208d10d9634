use Rattle.std.proofs.Common.{ℕ, take}
use Rattle.std.specs.List.{Contains}
use Rattle.ceu_bound.specs.Graph.{Path}
use Rattle.ceu_bound.proofs.verdict.leads_back.Given as goal

abbrev pub invariant-loop-target : goal.invariant-loop-target
invariant-loop-target l = (f : ℕ) → Contains (take l.target-index l.emitted) f → Path l.arrows f l.event → ⊥
