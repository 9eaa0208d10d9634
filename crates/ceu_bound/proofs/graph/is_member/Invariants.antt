use Rattle.std.proofs.Common.{◌≡◌, false, take}
use Rattle.ceu_bound.specs.Graph.{is_member}
use Rattle.ceu_bound.proofs.graph.is_member.Given as goal

abbrev pub invariant-loop-other : goal.invariant-loop-other
invariant-loop-other l = is_member l.number (take l.other-index l.numbers) ≡ false
