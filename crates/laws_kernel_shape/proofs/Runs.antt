-- Numbers that are counted one after the other.
use Rattle.std.proofs.Common.{◌≡◌, refl, ap, ◌∙◌, subst, ℕ, zero, suc, ◌+◌, length, arith, eq-eqb, List, [], ◌∷◌, ◌++◌}
use Rattle.std.specs.Prelude.{IsTrue, ◌&&◌}
use Rattle.ceu_tree.specs.Numbering.{range_of, counts_from}

-- the list has each number from the first, up to but not with the last
abbrev pub Runs : ℕ → List ℕ → ℕ → Type 0
Runs from [] to = to ≡ from
Runs from (x ∷ xs) to = (x ≡ from) × Runs (from + 1) xs to

pub runs_append : (a : ℕ) (xs : List ℕ) (b : ℕ) (ys : List ℕ) (c : ℕ) → Runs a xs b → Runs b ys c → Runs a (xs ++ ys) c
runs_append a [] b ys c h k = subst (λ n. Runs n ys c) h k
runs_append a (x ∷ xs) b ys c h k = (h.0, runs_append (a + 1) xs b ys c h.1 k)

pub runs_one : (a : ℕ) → Runs a (a ∷ []) (a + 1)
runs_one a = (refl, refl)

pub runs_range : (n a : ℕ) → Runs a (range_of a n) (a + n)
runs_range zero a = omega arith
runs_range (suc n) a = (refl, subst (λ m. Runs (a + 1) (range_of (a + 1) n) m) (omega arith) (runs_range n (a + 1)))

pub runs_counts : (a : ℕ) (xs : List ℕ) (b : ℕ) → Runs a xs b → IsTrue (counts_from a xs)
runs_counts a [] b h = refl
runs_counts a (x ∷ xs) b h = ap (λ k. k && counts_from (a + 1) xs) (eq-eqb x a h.0) ∙ runs_counts (a + 1) xs b h.1

pub runs_length : (a : ℕ) (xs : List ℕ) (b : ℕ) → Runs a xs b → b ≡ a + length xs
runs_length a [] b h = omega (arith, h)
runs_length a (x ∷ xs) b h = let i = runs_length (a + 1) xs b h.1 in omega (arith, i)
