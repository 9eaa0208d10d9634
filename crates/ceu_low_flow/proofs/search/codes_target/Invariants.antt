use Rattle.std.proofs.Common.{◌≡◌, drop}
use Rattle.ceu_shape.specs.Searches.{codes_target}
use Rattle.ceu_low_flow.proofs.search.codes_target.Given as goal

abbrev pub invariant-loop-part : goal.invariant-loop-part
invariant-loop-part l = codes_target l.node l.codes ≡ codes_target l.node (drop l.part-index l.codes)
