use Rattle.std.proofs.Common.{◌≡◌, take, map}
use Rattle.ceu_paths.specs.Joined.{joined}
use Rattle.ceu_paths.specs.Found.{seen}
use Rattle.ceu_bound.specs.PhaseB.{loop_arrows}
use Rattle.ceu_bound.proofs.verdict.all_arrows.Given as goal

abbrev pub invariant-loop-found : goal.invariant-loop-found
invariant-loop-found l = l.arrows.items ≡ joined loop_arrows (map seen (take l.found-index l.loops))
