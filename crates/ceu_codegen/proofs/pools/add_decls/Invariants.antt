use Rattle.std.proofs.Common.{◌≡◌, ◌++◌, drop}
use Rattle.ceu_codegen.specs.Pools.{decl_list_own}
use Rattle.ceu_codegen.proofs.pools.add_decls.Given as goal

abbrev pub invariant-loop-part : goal.invariant-loop-part
invariant-loop-part l = l.initial.pools.items ++ decl_list_own l.decls ≡ l.pools.items ++ decl_list_own (drop l.part-index l.decls)
