-- Measures for recursions over a tree.
use Rattle.ceu_types.proofs.Sizes.{size_one, size_two, size_as}
use Rattle.ceu_types.proofs.StmtSizes.{size_vars, size_if, size_par, size_block, size_arm, size_do, size_range, size_code, size_assign, size_of_do, size_finalize, size_loop, size_of_range, size_every, size_watching, size_async, size_done, member}

pub ruleset exp_sizes = (size_one, size_two, size_as)

pub ruleset sizes = (size_vars, size_if, size_par, size_block, size_arm, size_do, size_range, size_code, size_assign, size_of_do, size_finalize, size_loop, size_of_range, size_every, size_watching, size_async, size_done, member)
