use Rattle.std.proofs.Common.{take, map}
use Rattle.ceu_paths.specs.Found.{seen}
use Rattle.ceu_bound.specs.Verdict.{IsFirstOf}
use Rattle.ceu_bound.proofs.verdict.first_broken.Given as goal

abbrev pub invariant-loop-found : goal.invariant-loop-found
invariant-loop-found l = IsFirstOf l.passing l.arrows (map seen (take l.found-index l.loops)) l.first
