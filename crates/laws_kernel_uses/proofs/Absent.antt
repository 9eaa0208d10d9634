-- How often a slot stands in lists of names.
use Rattle.std.proofs.Common.{◌≡◌, ◌≢◌, refl, ap, ◌∙◌, ℕ, suc, zero, ◌+◌, arith, List, [], ◌∷◌, ◌++◌, Bool, true, false}
use Rattle.std.specs.Prelude.{◌==◌, ◌||◌, if◌then◌else◌}
use Rattle.std.proofs.lemmas.Bool.Decides.{Decides-eqb}
use Rattle.ceu_tree.specs.declared.kernel.Loc.{Loc}
use Rattle.ceu_tree.specs.Mentions.{named_by, loc_names, own_names, count_of}

pub eq_true : (n : ℕ) → (n == n) ≡ true
eq_true n = (Decides-eqb n n).1 refl

pub eq_false : (m n : ℕ) → m ≢ n → (m == n) ≡ false
eq_false m n h = by_test (m == n) (Decides-eqb m n).0
  where
    by_test : (b : Bool) → (b ≡ true → m ≡ n) → b ≡ false
    by_test false same = refl
    by_test true same = absurd (h (same refl))

pub eq_is : (m n : ℕ) → (m == n) ≡ true → m ≡ n
eq_is m n h = (Decides-eqb m n).0 h

more_if : (b : Bool) (x y : ℕ) → (if b then suc (x + y) else x + y) ≡ (if b then suc x else x) + y
more_if true x y = omega arith
more_if false x y = refl

pub count_append : (n : ℕ) (xs ys : List ℕ) → count_of n (xs ++ ys) ≡ count_of n xs + count_of n ys
count_append n [] ys = omega arith
count_append n (x ∷ xs) ys = ap (λ k. if x == n then suc k else k) (count_append n xs ys) ∙ more_if (x == n) (count_of n xs) (count_of n ys)

pub count_both : (n : ℕ) (xs ys : List ℕ) → count_of n xs ≡ 0 → count_of n ys ≡ 0 → count_of n (xs ++ ys) ≡ 0
count_both n xs ys h k = let e = count_append n xs ys in omega (arith, e, h, k)

pub count_left : (n : ℕ) (xs ys : List ℕ) → count_of n (xs ++ ys) ≡ 0 → count_of n xs ≡ 0
count_left n xs ys h = let e = count_append n xs ys in omega (arith, e, h)

pub count_right : (n : ℕ) (xs ys : List ℕ) → count_of n (xs ++ ys) ≡ 0 → count_of n ys ≡ 0
count_right n xs ys h = let e = count_append n xs ys in omega (arith, e, h)

pub count_once : (n : ℕ) → count_of n (n ∷ []) ≡ 1
count_once n = ap (λ b. if b then 1 else 0) (eq_true n)

pub count_other : (m n : ℕ) → m ≢ n → count_of n (m ∷ []) ≡ 0
count_other m n h = ap (λ b. if b then 1 else 0) (eq_false m n h)

module _ (codes : List (List ℕ)) (n : ℕ) where
  pub loc_other : (own : Bool) (l : Loc) → l.slot ≢ n → count_of n (loc_names own codes l) ≡ 0
  loc_other own l h = by_test (own || l.outer)
    where
      by_test : (b : Bool) → count_of n (if b then l.slot ∷ [] else []) ≡ 0
      by_test true = count_other l.slot n h
      by_test false = refl

  pub own_other : (own : Bool) (m : ℕ) → m ≢ n → count_of n (own_names own codes m) ≡ 0
  own_other true m h = count_other m n h
  own_other false m h = refl

-- ---- a table that goes on

pub named_front : (n : ℕ) (xs ys : List (List ℕ)) (k : ℕ) → count_of n (named_by k (xs ++ ys)) ≡ 0 → count_of n (named_by k xs) ≡ 0
named_front n [] ys k h = refl
named_front n (x ∷ xs) ys zero h = h
named_front n (x ∷ xs) ys (suc k) h = named_front n xs ys k h
