use Rattle.std.proofs.Common.{◌≡◌, [], take, map}
use Rattle.ceu_tree.specs.Cut.{cut}
use Rattle.ceu_tree.specs.Needs as spec
use Rattle.ceu_slots.proofs.needs.frames_of.Given as goal

abbrev pub invariant-loop-code : goal.invariant-loop-code
invariant-loop-code l = l.frames.items ≡ map cut (spec.frames_from l.plain [] (take l.code-index l.codes))
