-- How often a label is marked, as a sum over the labels that are.
use Rattle.std.proofs.Common.{◌≡◌, refl, sym, ap, ℕ, suc, ◌+◌, ◌*◌, IsTrue, List, [], ◌∷◌, ◌++◌, length, ◌==◌, if◌then◌else◌, arith}
use Rattle.std.specs.Prelude.{nat_lt}
use Rattle.std.proofs.lemmas.Bool.{eqb-true, and_parts}
use Rattle.std.proofs.lemmas.Bool.Decides.{nat_tests}
use Rattle.ceu_shape.specs.Plans.{own_label, end_label}
use Rattle.ceu_tree.specs.Numbering.{counts_from}

-- 1 for the label itself
abbrev pub one : (label : ℕ) → ℕ → ℕ
one label x = if x == label then 1 else 0

-- 1 where the label is below the bound
unfoldable pub below : (label : ℕ) → (bound : ℕ) → ℕ
below label bound = if nat_lt label bound then 1 else 0

pub below_more : (label x y : ℕ) → y ≡ x + 1 → one label x + below label x ≡ below label y
unfolding below
below_more label x y e = grind (arith, nat_tests)

pub below_zero : (label : ℕ) → below label 0 ≡ 0
unfolding below
below_zero label = grind (arith, nat_tests)

-- ---- the labels of nodes

-- both labels of each of these nodes
abbrev pub both_of : (label : ℕ) → List ℕ → ℕ
both_of label [] = 0
both_of label (n ∷ ns) = one label (own_label n) + (one label (end_label n) + both_of label ns)

pub both_append : (label : ℕ) (a b : List ℕ) → both_of label (a ++ b) ≡ both_of label a + both_of label b
both_append label [] b = omega arith
both_append label (n ∷ a) b = omega (arith, both_append label a b)

-- nodes that are numbered have all labels from that of the first on
pub both_numbered : (label k : ℕ) (ns : List ℕ) → IsTrue (counts_from k ns) → both_of label ns + below label (2 * k) ≡ below label (2 * (k + length ns))
both_numbered label k [] h =
    let still : below label (2 * k) ≡ below label (2 * (k + 0)) = ap (λ x. below label (2 * x)) (omega arith) in
    omega (arith, still)
both_numbered label k (n ∷ ns) h =
    let e : n ≡ k = eqb-true n k (and_parts (n == k) (counts_from (k + 1) ns) h).0 in
    let rest = both_numbered label (k + 1) ns (and_parts (n == k) (counts_from (k + 1) ns) h).1 in
    let own = below_more label (own_label n) (end_label n) refl in
    let end = below_more label (end_label n) (2 * (k + 1)) (omega (arith, e)) in
    let first : below label (2 * k) ≡ below label (own_label n) = ap (λ x. below label (2 * x)) (sym e) in
    let last : below label (2 * (k + 1 + length ns)) ≡ below label (2 * (k + suc (length ns))) = ap (λ x. below label (2 * x)) (omega arith) in
    omega (arith, rest, own, end, first, last)

-- ---- the ends of parts

-- the second of each two labels
abbrev pub ends_of : (label : ℕ) → List ℕ → ℕ
ends_of label [] = 0
ends_of label (b ∷ []) = 0
ends_of label (b ∷ e ∷ rest) = one label e + ends_of label rest
