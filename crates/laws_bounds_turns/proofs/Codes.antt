-- The bodies of all codes: each awaits codes above it alone.
use Rattle.std.proofs.Common.{◌≡◌, refl, ◌<◌, ℕ, zero, suc, Bool, true, false, Some, arith, ltb-true}
use Rattle.ceu_tree.specs.declared.kernel.Kernel.{Kernel}
use Rattle.ceu_tree.specs.Proper.{is_proper}
use Rattle.laws_meaning_basics.specs.Shape.{code_scope}
use Rattle.laws_meaning_basics.proofs.Static.{names_of, code_static}
use Rattle.laws_bounds_steps.specs.Kept.{RulesKept}
use Rattle.laws_bounds_turns.specs.TurnsLaws.{CodesLeave}
use Rattle.laws_bounds_turns.proofs.Started.{CodeHalts}
use Rattle.laws_bounds_turns.proofs.Statements.{block_halts}

module _ (K : Kernel) (n : ℕ) (quiet : Bool) (proper : is_proper K ≡ true) (leave : quiet ≡ false → CodesLeave K) (kept : quiet ≡ false → RulesKept K) where
  below : (m c : ℕ) → c < m → CodeHalts K n quiet c
  below zero c l k e = absurd (omega (arith, l))
  below (suc m) c l k e = block_halts K n quiet true (names_of K) (Some c) leave (λ z. refl) (λ d h. below m d (let z = ltb-true d c (h refl) in omega (arith, z, l))) k.body
      (λ z. record { scope = code_scope K c k; body = refl; holds = code_static K c k proper e }) (λ z. (kept z).codes c k e)

  pub code_halts : (c : ℕ) → CodeHalts K n quiet c
  code_halts c = below (suc c) c (omega arith)
