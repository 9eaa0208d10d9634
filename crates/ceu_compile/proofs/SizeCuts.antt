-- Sizes that are cut at 4,294,967,295 are over the same limits.
use Rattle.std.proofs.Common.{◌≡◌, ◌∙◌, sym, ℕ, ◌+◌, ◌*◌, arith, Option, None, false}
use Rattle.std.proofs.lemmas.Bool.Decides.{nat_tests}
use Rattle.ceu_base.specs.declared.kinds.Rule.{Rule}
use Rattle.ceu_tree.specs.declared.kernel.Kernel.{Kernel}
use Rattle.ceu_tree.specs.Cut.{cut}
use Rattle.ceu_tree.specs.Depth.{depth}
use Rattle.ceu_tree.specs.Needs.{memory, gates, slots}
use Rattle.ceu_tree.specs.Weight.{weight}
use Rattle.ceu_compile.specs.Sizes.{over, too_large}

same_limits : (d g s w : ℕ) → over (16 + 8 * cut d + 19 * cut g + cut s) (cut g) (cut w) ≡ over (16 + 8 * d + 19 * g + s) g w
same_limits d g s w = grind (arith, nat_tests)

same_memory : (d g s w : ℕ) → over (16 + 8 * cut d + 19 * cut g + cut s) (cut g) (cut w) ≡ None → 16 + 8 * cut d + 19 * cut g + cut s ≡ 16 + 8 * d + 19 * g + s
same_memory d g s w e = grind (arith, nat_tests)

-- the limits of a program, from its cut sizes
pub limits : (K : Kernel) → over (16 + 8 * cut (depth K) + 19 * cut (gates K) + cut (slots false K)) (cut (gates K)) (cut (weight K)) ≡ too_large K
unfolding memory
limits K = same_limits (depth K) (gates K) (slots false K) (weight K)

pub exact : (K : Kernel) → too_large K ≡ None → 16 + 8 * cut (depth K) + 19 * cut (gates K) + cut (slots false K) ≡ memory false K
unfolding memory
exact K e = same_memory (depth K) (gates K) (slots false K) (weight K) (limits K ∙ e)

-- the same for the sizes that a call computes
module _ (K : Kernel) (d g s w m : ℕ) (at_depth : d ≡ cut (depth K)) (at_gates : g ≡ cut (gates K)) (at_slots : s ≡ cut (slots false K))
    (at_weight : w ≡ cut (weight K)) (sum : m ≡ 16 + 8 * d + 19 * g + s) where
  pub computed_limits : (o : Option Rule) → o ≡ over m g w → too_large K ≡ o
  computed_limits o e = sym (e ∙ rw (sum, at_depth, at_gates, at_slots, at_weight) (limits K))

  pub computed_memory : too_large K ≡ None → m ≡ memory false K
  computed_memory e = sum ∙ rw (at_depth, at_gates, at_slots) (exact K e)
