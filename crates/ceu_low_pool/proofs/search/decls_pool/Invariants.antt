use Rattle.std.proofs.Common.{◌≡◌, drop}
use Rattle.ceu_low_pool.specs.Lists.{decl_list_pool}
use Rattle.ceu_low_pool.proofs.search.decls_pool.Given as goal

abbrev pub invariant-loop-part : goal.invariant-loop-part
invariant-loop-part l = decl_list_pool l.slot l.decls ≡ decl_list_pool l.slot (drop l.part-index l.decls)
