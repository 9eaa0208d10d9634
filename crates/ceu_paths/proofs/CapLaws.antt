-- Sums, products and greatest ones of capped numbers, capped again, are those of the numbers, capped.
use Rattle.std.proofs.Common.{◌≡◌, refl, ap, ◌∙◌, sym, ℕ, zero, suc, ◌+◌, ◌*◌, max, List, [], ◌∷◌, map, arith}
use Rattle.ceu_tree.specs.Needs.{entry}
use Rattle.ceu_paths.specs.Cap.{cap}

pub cap_plus : (a b : ℕ) → cap (cap a + cap b) ≡ cap (a + b)
cap_plus a b = grind arith

pub cap_max : (a b : ℕ) → max (cap a) (cap b) ≡ cap (max a b)
cap_max a b = grind arith

pub cap_idem : (a : ℕ) → cap (cap a) ≡ cap a
cap_idem a = grind arith

pub cap_times : (n x : ℕ) → cap (n * cap x) ≡ cap (n * x)
cap_times zero x = grind arith
cap_times (suc n) x =
    let a : suc n * x ≡ n * x + x = omega arith in
    let b : suc n * cap x ≡ n * cap x + cap x = omega arith in
    grind (arith, cap_times n x, a, b)

-- Numbers with the same caps, in sums, products and greatest ones.
pub same_plus : (a b c d : ℕ) → cap a ≡ cap b → cap c ≡ cap d → cap (a + c) ≡ cap (b + d)
same_plus a b c d e f = grind (arith, e, f)

pub same_max : (a b c d : ℕ) → cap a ≡ cap b → cap c ≡ cap d → cap (max a c) ≡ cap (max b d)
same_max a b c d e f = grind (arith, e, f)

pub same_times : (n a b : ℕ) → cap a ≡ cap b → cap (n * a) ≡ cap (n * b)
same_times n a b e = sym (cap_times n a) ∙ ap (λ k. cap (n * k)) e ∙ cap_times n b

pub entry_cap : (k : ℕ) (table : List ℕ) → entry k (map cap table) ≡ cap (entry k table)
entry_cap k [] = refl
entry_cap zero (x ∷ xs) = refl
entry_cap (suc k) (x ∷ xs) = entry_cap k xs

pub ruleset caps = (cap_plus, cap_max, cap_idem, cap_times)
