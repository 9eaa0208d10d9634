use Rattle.std.proofs.Common.{◌≡◌, ◌++◌, take, map}
use Rattle.ceu_paths.specs.Joined.{joined}
use Rattle.ceu_paths.specs.Found.{seen}
use Rattle.ceu_bound.specs.PhaseB.{code_loops}
use Rattle.ceu_bound.proofs.verdict.add_code_loops.Given as goal

abbrev pub invariant-loop-code : goal.invariant-loop-code
invariant-loop-code l = map seen l.loops.items ≡ map seen l.initial.loops.items ++ joined code_loops (take l.code-index l.codes)
