use Rattle.std.proofs.Common.{◌≡◌, drop}
use Rattle.ceu_low_pool.specs.Lists.{code_list_pool}
use Rattle.ceu_low_pool.proofs.search.codes_pool.Given as goal

abbrev pub invariant-loop-part : goal.invariant-loop-part
invariant-loop-part l = code_list_pool l.slot l.codes ≡ code_list_pool l.slot (drop l.part-index l.codes)
