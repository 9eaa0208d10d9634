-- Sums, products and greatest ones of cut numbers, cut again, are those of the numbers, cut.
use Rattle.std.proofs.Common.{◌≡◌, ap, ◌∙◌, sym, ℕ, zero, suc, ◌+◌, ◌*◌, max, arith}
use Rattle.ceu_tree.specs.Cut.{cut}

pub cut_plus : (a b : ℕ) → cut (cut a + cut b) ≡ cut (a + b)
cut_plus a b = grind arith

pub cut_max : (a b : ℕ) → max (cut a) (cut b) ≡ cut (max a b)
cut_max a b = grind arith

pub cut_idem : (a : ℕ) → cut (cut a) ≡ cut a
cut_idem a = grind arith

pub cut_times : (n x : ℕ) → cut (n * cut x) ≡ cut (n * x)
cut_times zero x = grind arith
cut_times (suc n) x =
    let a : suc n * x ≡ n * x + x = omega arith in
    let b : suc n * cut x ≡ n * cut x + cut x = omega arith in
    grind (arith, a, b)

-- Numbers with the same cuts, in sums, products and greatest ones.
pub same_plus : (a b c d : ℕ) → cut a ≡ cut b → cut c ≡ cut d → cut (a + c) ≡ cut (b + d)
same_plus a b c d e f = grind (arith, e, f)

pub same_max : (a b c d : ℕ) → cut a ≡ cut b → cut c ≡ cut d → cut (max a c) ≡ cut (max b d)
same_max a b c d e f = grind (arith, e, f)

pub same_times : (n a b : ℕ) → cut a ≡ cut b → cut (n * a) ≡ cut (n * b)
same_times n a b e = sym (cut_times n a) ∙ ap (λ k. cut (n * k)) e ∙ cut_times n b

pub ruleset cuts = (cut_plus, cut_max, cut_idem, cut_times)
