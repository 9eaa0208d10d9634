-- The header's value as an s64.
use Rattle.std.proofs.Common.{ℕ, ◌<◌, ◌^◌, FitsSigned, arith}
use Rattle.std.specs.Int.{w64}
use Rattle.std.proofs.lemmas.Int.{ints}
use Rattle.std.proofs.lemmas.Bool.Decides.{nat_tests}
use Rattle.ceu_base.specs.declared.kinds.Ty.TheVariants.{S64}
use Rattle.ceu_mem.specs.Memory.{with_sign}

pub s64_fits : (n : ℕ) → n < 256 ^ 8 → FitsSigned w64 (with_sign S64 n)
s64_fits n h = grind (arith, ints, nat_tests)
