-- The first of some gates, told by what each of them is to the others.
use Rattle.std.proofs.Common.{◌≡◌, ◌≢◌, refl, sym, ap, ◌∙◌, subst, ◌<◌, ◌≤◌, inl, inr, ℕ, zero, suc, ◌+◌, Bool, true, false, ◌==◌, List, [], ◌∷◌, arith, eqb-true, eq-eqb}
use Rattle.std.specs.Prelude.{◌||◌}
use Rattle.std.specs.List.{list_all}
use Rattle.std.proofs.lemmas.Bool.{false≢true, and_parts, and_from, or_cases, or_left, or_right}
use Rattle.ceu_code.specs.declared.image.Image.{Image}
use Rattle.ceu_mem.specs.declared.gate.Gate.{Gate}
use Rattle.ceu_isa.specs.Layout.{gate_of, gates_from}
use Rattle.ceu_isa.specs.Order.{before, Choice, Unclear, Chosen, is_first, found, first_of}

module _ (image : Image) (bytes : List ℕ) (test : Gate → Bool) where
  abbrev if_passes : Bool → ℕ → List ℕ → List ℕ
  if_passes true from gs = from ∷ gs
  if_passes false from gs = gs

  one_gate : (from n : ℕ) → gates_from image bytes test from (suc n) ≡ if_passes (test (gate_of image bytes from)) from (gates_from image bytes test (suc from) n)
  unfolding gates_from
  one_gate from n = go (test (gate_of image bytes from))
    where
      go : (b : Bool) → (elim b as (λ _. List ℕ) [ true ↦ from ∷ gates_from image bytes test (suc from) n | false ↦ gates_from image bytes test (suc from) n ]) ≡ if_passes b from (gates_from image bytes test (suc from) n)
      go true = refl
      go false = refl

  -- none that passes
  pub none_from : (from n : ℕ) → ((g : ℕ) → from ≤ g → g < from + n → test (gate_of image bytes g) ≡ false) → gates_from image bytes test from n ≡ []
  unfolding gates_from
  none_from from zero h = refl
  none_from from (suc n) h =
      one_gate from n ∙ ap (λ (b : Bool). if_passes b from (gates_from image bytes test (suc from) n)) (h from (omega arith) (omega arith)) ∙
      none_from (suc from) n (λ g a b. h g (omega arith) (omega arith))

  -- what holds of all that pass
  pub all_from : (P : ℕ → Bool) (from n : ℕ) → ((g : ℕ) → from ≤ g → g < from + n → test (gate_of image bytes g) ≡ true → P g ≡ true) → list_all P (gates_from image bytes test from n) ≡ true
  unfolding gates_from
  all_from P from zero h = refl
  all_from P from (suc n) h = ap (list_all P) (one_gate from n) ∙ go (test (gate_of image bytes from)) refl (all_from P (suc from) n (λ g a b. h g (omega arith) (omega arith)))
    where
      go : (b : Bool) → test (gate_of image bytes from) ≡ b → list_all P (gates_from image bytes test (suc from) n) ≡ true → list_all P (if_passes b from (gates_from image bytes test (suc from) n)) ≡ true
      go true e k = and_from (P from) (list_all P (gates_from image bytes test (suc from) n)) (h from (omega arith) (omega arith) e) k
      go false e k = k

  pub all_at : (P : ℕ → Bool) (from n g : ℕ) → from ≤ g → g < from + n → test (gate_of image bytes g) ≡ true → list_all P (gates_from image bytes test from n) ≡ true → P g ≡ true
  unfolding gates_from
  all_at P from zero g a b e h = absurd (omega arith)
  all_at P from (suc n) g a b e h = go (test (gate_of image bytes from)) refl (from == g) refl (sym (ap (list_all P) (one_gate from n)) ∙ h) (λ le k. all_at P (suc from) n g le (omega arith) e k)
    where
      next : (from == g) ≡ false → suc from ≤ g
      next s = let ne : from ≢ g = λ q. false≢true (sym s ∙ eq-eqb from g q) in omega (arith, ne)

      go : (q : Bool) → test (gate_of image bytes from) ≡ q → (s : Bool) → (from == g) ≡ s → list_all P (if_passes q from (gates_from image bytes test (suc from) n)) ≡ true
          → (suc from ≤ g → list_all P (gates_from image bytes test (suc from) n) ≡ true → P g ≡ true) → P g ≡ true
      go true p true s k ih = subst (λ (x : ℕ). P x ≡ true) (eqb-true from g s) (and_parts (P from) (list_all P (gates_from image bytes test (suc from) n)) k).0
      go true p false s k ih = ih (next s) (and_parts (P from) (list_all P (gates_from image bytes test (suc from) n)) k).1
      go false p true s k ih = absurd (false≢true (sym p ∙ ap (λ (x : ℕ). test (gate_of image bytes x)) (eqb-true from g s) ∙ e))
      go false p false s k ih = ih (next s) k

  -- the only one with a property is found
  pub found_from : (P : ℕ → Bool) (from n g : ℕ) → from ≤ g → g < from + n → test (gate_of image bytes g) ≡ true → P g ≡ true
      → ((h : ℕ) → from ≤ h → h < from + n → test (gate_of image bytes h) ≡ true → h ≢ g → P h ≡ false) → found P (gates_from image bytes test from n) ≡ Chosen g
  unfolding gates_from found
  found_from P from zero g a b e p h = absurd (omega arith)
  found_from P from (suc n) g a b e p h = ap (found P) (one_gate from n) ∙ go (test (gate_of image bytes from)) refl (from == g) refl
      (λ s. let ne : from ≢ g = λ q. false≢true (sym s ∙ eq-eqb from g q) in found_from P (suc from) n g (omega (arith, ne)) (omega arith) e p (λ x i j. h x (omega arith) (omega arith)))
    where
      head : (x : ℕ) (gs : List ℕ) → P x ≡ true → found P (x ∷ gs) ≡ Chosen x
      head x gs q = subst (λ (b : Bool). (elim b as (λ _. Choice) [ true ↦ Chosen x | false ↦ found P gs ]) ≡ Chosen x) (sym q) refl

      tail : (x : ℕ) (gs : List ℕ) → P x ≡ false → found P (x ∷ gs) ≡ found P gs
      tail x gs q = subst (λ (b : Bool). (elim b as (λ _. Choice) [ true ↦ Chosen x | false ↦ found P gs ]) ≡ found P gs) (sym q) refl

      go : (q : Bool) → test (gate_of image bytes from) ≡ q → (s : Bool) → (from == g) ≡ s → ((from == g) ≡ false → found P (gates_from image bytes test (suc from) n) ≡ Chosen g) → found P (if_passes q from (gates_from image bytes test (suc from) n)) ≡ Chosen g
      go true q true s rest = let same = eqb-true from g s in head from (gates_from image bytes test (suc from) n) (ap P same ∙ p) ∙ ap Chosen same
      go true q false s rest = tail from (gates_from image bytes test (suc from) n) (h from (omega arith) (omega arith) q (λ x. false≢true (sym s ∙ eq-eqb from g x))) ∙ rest s
      go false q true s rest = absurd (false≢true (sym q ∙ ap (λ (x : ℕ). test (gate_of image bytes x)) (eqb-true from g s) ∙ e))
      go false q false s rest = rest s

  first_found : (gs : List ℕ) (g : ℕ) → found (is_first image bytes gs) gs ≡ Chosen g → first_of image bytes gs ≡ Chosen g
  unfolding found
  first_found [] g e = absurd (let h : Unclear ≡ Chosen g = e in cc)
  first_found (x ∷ gs) g e = e

  -- a gate that goes before all others
  pub first_from : (n g : ℕ) → g < n → test (gate_of image bytes g) ≡ true
      → ((h : ℕ) → h < n → test (gate_of image bytes h) ≡ true → h ≢ g → (before image bytes g h ≡ true) × (before image bytes h g ≡ false))
      → first_of image bytes (gates_from image bytes test 0 n) ≡ Chosen g
  first_from n g lt e h =
      first_found (gates_from image bytes test 0 n) g (found_from (is_first image bytes (gates_from image bytes test 0 n)) 0 n g (omega arith) (omega arith) e goes others)
    where
      goes : is_first image bytes (gates_from image bytes test 0 n) g ≡ true
      goes = all_from (λ x. (g == x) || before image bytes g x) 0 n (λ x a b q. each x (omega arith) q (g == x) refl)
        where
          each : (x : ℕ) → x < n → test (gate_of image bytes x) ≡ true → (s : Bool) → (g == x) ≡ s → ((g == x) || before image bytes g x) ≡ true
          each x b q true s = or_left (g == x) (before image bytes g x) s
          each x b q false s = or_right (g == x) (before image bytes g x) (h x b q (λ r. false≢true (sym s ∙ eq-eqb g x (sym r)))).0

      others : (x : ℕ) → 0 ≤ x → x < 0 + n → test (gate_of image bytes x) ≡ true → x ≢ g → is_first image bytes (gates_from image bytes test 0 n) x ≡ false
      others x a b q ne = go (is_first image bytes (gates_from image bytes test 0 n) x) refl
        where
          go : (s : Bool) → is_first image bytes (gates_from image bytes test 0 n) x ≡ s → is_first image bytes (gates_from image bytes test 0 n) x ≡ false
          go false s = s
          go true s = elim (or_cases (x == g) (before image bytes x g) (all_at (λ y. (x == y) || before image bytes x y) 0 n g (omega arith) (omega arith) e s)) [
            | inl k ↦ absurd (ne (eqb-true x g k))
            | inr k ↦ absurd (false≢true (sym (h x (omega arith) q ne).1 ∙ k))
          ]
