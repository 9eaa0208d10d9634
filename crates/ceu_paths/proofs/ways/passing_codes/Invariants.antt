use Rattle.std.proofs.Common.{◌≡◌, [], take}
use Rattle.ceu_tree.specs.Paths as spec
use Rattle.ceu_paths.proofs.ways.passing_codes.Given as goal

abbrev pub invariant-loop-code : goal.invariant-loop-code
invariant-loop-code l = l.passing.items ≡ spec.passes_from [] (take l.code-index l.codes)
