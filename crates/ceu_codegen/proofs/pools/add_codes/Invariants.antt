use Rattle.std.proofs.Common.{◌≡◌, ◌++◌, drop}
use Rattle.ceu_codegen.specs.Pools.{code_list_own}
use Rattle.ceu_codegen.proofs.pools.add_codes.Given as goal

abbrev pub invariant-loop-part : goal.invariant-loop-part
invariant-loop-part l = l.initial.pools.items ++ code_list_own l.codes ≡ l.pools.items ++ code_list_own (drop l.part-index l.codes)
