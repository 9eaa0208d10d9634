use Rattle.std.proofs.Common.{◌≡◌, drop}
use Rattle.ceu_shape.specs.Searches.{codes_async}
use Rattle.ceu_low_flow.proofs.search.codes_async.Given as goal

abbrev pub invariant-loop-part : goal.invariant-loop-part
invariant-loop-part l = codes_async l.node l.codes ≡ codes_async l.node (drop l.part-index l.codes)
