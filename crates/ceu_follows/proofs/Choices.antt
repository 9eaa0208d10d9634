-- Which gate comes first where at most the first one passes a test.
use Rattle.std.proofs.Common.{◌≡◌, refl, ap, ◌∙◌, ◌<◌, ◌≤◌, ℕ, zero, suc, ◌+◌, Bool, true, false, List, [], ◌∷◌, arith}
use Rattle.ceu_code.specs.declared.image.Image.{Image}
use Rattle.ceu_mem.specs.declared.gate.Gate.{Gate}
use Rattle.ceu_isa.specs.Layout.{gate_of, gates_from}
use Rattle.ceu_isa.specs.Order.{Nowhere, Chosen, first_of, found}

module _ (image : Image) (bytes : List ℕ) (test : Gate → Bool) where
  by_test : (b : Bool) (from n : ℕ) → test (gate_of image bytes from) ≡ b
      → gates_from image bytes test from (suc n) ≡ elim b as (λ _. List ℕ) [ true ↦ from ∷ gates_from image bytes test (suc from) n | false ↦ gates_from image bytes test (suc from) n ]
  unfolding gates_from
  by_test b from n e = ap (λ (c : Bool). elim c as (λ _. List ℕ) [ true ↦ from ∷ gates_from image bytes test (suc from) n | false ↦ gates_from image bytes test (suc from) n ]) e

  none_left : (from : ℕ) → gates_from image bytes test from 0 ≡ []
  unfolding gates_from
  none_left from = refl

  pub none_from : (from n : ℕ) → ((g : ℕ) → from ≤ g → g < from + n → test (gate_of image bytes g) ≡ false) → gates_from image bytes test from n ≡ []
  none_from from zero h = none_left from
  none_from from (suc n) h = by_test false from n (h from (omega arith) (omega arith)) ∙ none_from (suc from) n (λ g x y. h g (omega arith) (omega arith))

  pub one_from : (n : ℕ) → 0 < n → test (gate_of image bytes 0) ≡ true → ((g : ℕ) → 1 ≤ g → g < n → test (gate_of image bytes g) ≡ false) → gates_from image bytes test 0 n ≡ 0 ∷ []
  one_from zero lt e h = absurd (omega arith)
  one_from (suc n) lt e h = by_test true 0 n e ∙ ap (λ (l : List ℕ). 0 ∷ l) (none_from 1 n (λ g x y. h g x (omega arith)))

  pub first_is_none : (n : ℕ) → ((g : ℕ) → g < n → test (gate_of image bytes g) ≡ false) → first_of image bytes (gates_from image bytes test 0 n) ≡ Nowhere
  first_is_none n h = ap (λ (l : List ℕ). first_of image bytes l) (none_from 0 n (λ g x y. h g (omega arith)))

  alone : first_of image bytes (0 ∷ []) ≡ Chosen 0
  unfolding found
  alone = refl

  pub first_is_zero : (n : ℕ) → 0 < n → test (gate_of image bytes 0) ≡ true → ((g : ℕ) → 1 ≤ g → g < n → test (gate_of image bytes g) ≡ false) → first_of image bytes (gates_from image bytes test 0 n) ≡ Chosen 0
  first_is_zero n lt e h = ap (λ (l : List ℕ). first_of image bytes l) (one_from n lt e h) ∙ alone
