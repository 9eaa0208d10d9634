use Rattle.std.proofs.Common.{◌≡◌, false, take}
use Rattle.ceu_tree.specs.Costs.{has_pool_decl}
use Rattle.ceu_paths.proofs.waits.has_pool.Given as goal

abbrev pub invariant-loop-decl : goal.invariant-loop-decl
invariant-loop-decl l = has_pool_decl (take l.decl-index l.decls) ≡ false
