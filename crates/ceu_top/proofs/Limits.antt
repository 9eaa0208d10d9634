-- What a program within the limits on sizes needs at most.
use Rattle.std.proofs.Common.{◌≡◌, ℕ, ◌+◌, ◌*◌, ◌≤◌, arith, None, false, List}
use Rattle.std.proofs.lemmas.Bool.Decides.{nat_tests}
use Rattle.ceu_tree.specs.declared.kernel.Kernel.{Kernel}
use Rattle.ceu_tree.specs.Depth.{depth}
use Rattle.ceu_tree.specs.Needs.{memory, gates, slots}
use Rattle.ceu_tree.specs.Weight.{weight}
use Rattle.ceu_compile.specs.Programs.{IsProgram}
use Rattle.ceu_compile.specs.Sizes.{over, too_large}
use Rattle.laws_promise_texts.specs.ImagesLaws.{IsSmall}

under_slots : (d g s w : ℕ) → over (16 + 8 * d + 19 * g + s) g w ≡ None → s ≤ 65535
under_slots d g s w e = grind (arith, nat_tests)

under_gates : (d g s w : ℕ) → over (16 + 8 * d + 19 * g + s) g w ≡ None → g ≤ 3000
under_gates d g s w e = grind (arith, nat_tests)

under_bytes : (m g w : ℕ) → over m g w ≡ None → m ≤ 65535
under_bytes m g w e = grind (arith, nat_tests)

few_of : (m g w : ℕ) → over m g w ≡ None → g ≤ 3000
few_of m g w e = grind (arith, nat_tests)

under_weight : (m g w : ℕ) → over m g w ≡ None → w ≤ 65535
under_weight m g w e = grind (arith, nat_tests)

-- within the limits on sizes
pub small : (K : Kernel) → too_large K ≡ None → IsSmall K
small K e = record {
  bytes = under_bytes (memory false K) (gates K) (weight K) e;
  few_gates = few_of (memory false K) (gates K) (weight K) e;
  light = under_weight (memory false K) (gates K) (weight K) e;
}

pub few_slots : (text : List ℕ) (K : Kernel) → IsProgram text K → slots false K ≤ 65535
unfolding memory
few_slots text K p = under_slots (depth K) (gates K) (slots false K) (weight K) p.3.2

pub few_gates : (text : List ℕ) (K : Kernel) → IsProgram text K → gates K ≤ 3000
unfolding memory
few_gates text K p = under_gates (depth K) (gates K) (slots false K) (weight K) p.3.2
