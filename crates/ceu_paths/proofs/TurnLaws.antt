-- The length of a range from how far its ends are apart.
use Rattle.std.proofs.Common.{◌≡◌, ◌∙◌, ap, ℕ, zero, suc, ◌+◌, ◌-◌, Bool, true, false, arith}
use Rattle.std.specs.Prelude.{ℤ, pos, negsuc, ◌+ℤ◌, ◌-ℤ◌}
use Rattle.std.proofs.lemmas.Int.{ints}
use Rattle.ceu_base.specs.Values.{of_test}
use Rattle.ceu_tree.specs.Paths.{length_of}
use Rattle.ceu_paths.specs.Turns.{excluded}

pub length_at : (a b : ℤ) (oa ob : Bool) (d : ℕ) → b -ℤ a ≡ pos d → length_of (b -ℤ of_test ob -ℤ (a +ℤ of_test oa) +ℤ pos 1) ≡ d + 1 - (excluded oa + excluded ob)
length_at a b false false d h = let e : b -ℤ pos 0 -ℤ (a +ℤ pos 0) +ℤ pos 1 ≡ pos (d + 1) = omega (arith, ints) in ap length_of e ∙ omega arith
length_at a b false true d h = let e : b -ℤ pos 1 -ℤ (a +ℤ pos 0) +ℤ pos 1 ≡ pos d = omega (arith, ints) in ap length_of e ∙ omega arith
length_at a b true false d h = let e : b -ℤ pos 0 -ℤ (a +ℤ pos 1) +ℤ pos 1 ≡ pos d = omega (arith, ints) in ap length_of e ∙ omega arith
length_at a b true true zero h = let e : b -ℤ pos 1 -ℤ (a +ℤ pos 1) +ℤ pos 1 ≡ negsuc 0 = omega (arith, ints) in ap length_of e ∙ omega arith
length_at a b true true (suc d) h = let e : b -ℤ pos 1 -ℤ (a +ℤ pos 1) +ℤ pos 1 ≡ pos d = omega (arith, ints) in ap length_of e ∙ omega arith
