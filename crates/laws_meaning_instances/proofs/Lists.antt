-- Lists whose numbers differ, told by how often each number is in them.
use Rattle.std.proofs.Common.{◌≡◌, refl, sym, ap, ◌∙◌, subst, ◌<◌, ◌≤◌, ℕ, ◌+◌, Bool, true, false, not, ◌==◌, ◌||◌, ◌⊎◌, inl, inr, nat_le, List, [], ◌∷◌, ◌++◌, arith, eqb-true, eq-eqb}
use Rattle.std.proofs.lemmas.Bool.{and_parts, and_from, or_cases, or_left, or_right, not-true, not_from_false, le-leb, leb-true, false≢true, cases_lt}
use Rattle.std.specs.List.{list_all}
use Rattle.ceu_tree.specs.Residual.{Program, Residual}
use Rattle.ceu_tree.specs.World.{World, is_among}
use Rattle.ceu_tree.specs.Legal.{Seated, seats, numbers, all_differ, lies}
use Rattle.laws_meaning_instances.specs.Instances.{NumbersStand}
use Rattle.laws_meaning_instances.proofs.Living.{once, once_true, once_false, often, lives}
use Rattle.laws_meaning_instances.proofs.Steps.{Given}

pub often_append : (n : ℕ) (xs ys : List ℕ) → often n (xs ++ ys) ≡ often n xs + often n ys
often_append n [] ys = omega arith
often_append n (x ∷ xs) ys = omega (arith, often_append n xs ys)

pub numbers_append : (xs ys : List Seated) → numbers (xs ++ ys) ≡ numbers xs ++ numbers ys
numbers_append [] ys = refl
numbers_append (x ∷ xs) ys = ap (◌∷◌ x.seat.number) (numbers_append xs ys)

among_often : (n : ℕ) (xs : List ℕ) → is_among n xs ≡ true → 1 ≤ often n xs
among_often n [] h = absurd (false≢true h)
among_often n (x ∷ xs) h = go (or_cases (n == x) (is_among n xs) h) (among_often n xs)
  where
    go : ((n == x) ≡ true) ⊎ (is_among n xs ≡ true) → (is_among n xs ≡ true → 1 ≤ often n xs) → 1 ≤ once n x + often n xs
    go (inl e) ih = let z = once_true n x e in omega (arith, z)
    go (inr e) ih = let z = ih e in omega (arith, z)

often_among : (n : ℕ) (xs : List ℕ) → 1 ≤ often n xs → is_among n xs ≡ true
often_among n [] h = absurd (omega (arith, h))
often_among n (x ∷ xs) h = go (n == x) refl (often_among n xs)
  where
    go : (b : Bool) → (n == x) ≡ b → (1 ≤ often n xs → is_among n xs ≡ true) → ((n == x) || is_among n xs) ≡ true
    go true e ih = or_left (n == x) (is_among n xs) e
    go false e ih = or_right (n == x) (is_among n xs) (ih (let z = once_false n x e in omega (arith, z, h)))

own_once : (x : ℕ) → once x x ≡ 1
own_once x = once_true x x (eq-eqb x x refl)

differ_from : (xs : List ℕ) → ((n : ℕ) → often n xs ≤ 1) → all_differ xs ≡ true
differ_from [] h = refl
differ_from (x ∷ xs) h = and_from (not (is_among x xs)) (all_differ xs) (not_from_false (is_among x xs) (go (is_among x xs) refl)) (differ_from xs (λ n. (let z = h n in omega (arith, z))))
  where
    go : (b : Bool) → is_among x xs ≡ b → is_among x xs ≡ false
    go false e = e
    go true e = absurd (let a = among_often x xs e in let z = h x in let o = own_once x in omega (arith, a, z, o))

not_often : (n : ℕ) (xs : List ℕ) → is_among n xs ≡ false → often n xs ≡ 0
not_often n xs h = go (cases_lt 0 (often n xs))
  where
    go : (0 < often n xs) ⊎ (often n xs ≤ 0) → often n xs ≡ 0
    go (inl l) = absurd (false≢true (sym h ∙ often_among n xs (omega (arith, l))))
    go (inr l) = omega (arith, l)

differ_at : (xs : List ℕ) → all_differ xs ≡ true → (n : ℕ) → often n xs ≤ 1
differ_at [] h n = omega arith
differ_at (x ∷ xs) h n = go (n == x) refl (differ_at xs a.1 n)
  where
    a : (not (is_among x xs) ≡ true) × (all_differ xs ≡ true)
    a = and_parts (not (is_among x xs)) (all_differ xs) h

    go : (b : Bool) → (n == x) ≡ b → often n xs ≤ 1 → once n x + often n xs ≤ 1
    go true e ih = let o = once_true n x e in let z = not_often n xs (subst (λ j. is_among j xs ≡ false) (sym (eqb-true n x e)) (not-true (is_among x xs) a.0)) in omega (arith, o, z)
    go false e ih = let o = once_false n x e in omega (arith, o, ih)

all_from : (P : ℕ → Bool) (xs : List ℕ) → ((n : ℕ) → 1 ≤ often n xs → P n ≡ true) → list_all P xs ≡ true
all_from P [] h = refl
all_from P (x ∷ xs) h = and_from (P x) (list_all P xs) (h x (let o = own_once x in omega (arith, o))) (all_from P xs (λ n l. h n (omega (arith, l))))

all_at : (P : ℕ → Bool) (xs : List ℕ) (n : ℕ) → list_all P xs ≡ true → 1 ≤ often n xs → P n ≡ true
all_at P [] n h l = absurd (omega (arith, l))
all_at P (x ∷ xs) n h l = go (n == x) refl (all_at P xs n a.1)
  where
    a : (P x ≡ true) × (list_all P xs ≡ true)
    a = and_parts (P x) (list_all P xs) h

    go : (b : Bool) → (n == x) ≡ b → (1 ≤ often n xs → P n ≡ true) → P n ≡ true
    go true e ih = subst (λ j. P j ≡ true) (sym (eqb-true n x e)) a.0
    go false e ih = ih (let o = once_false n x e in omega (arith, o, l))

-- ---- a world, and so many instances of each number

abbrev pub Counts : (ℕ → ℕ) → World → Type 0
Counts m w = (n : ℕ) → (often n w.living ≡ m n) × Given n w

-- the list of a tree's numbers has each as often as it is an instance there
abbrev pub Even : Residual → Type 0
Even r = (n : ℕ) → often n (numbers (seats r Program)) ≡ lives n r

pub numbers_stand : (r : Residual) (w : World) → Even r → Counts (λ n. lives n r) w → NumbersStand r w
numbers_stand r w even h = record {
  differ = differ_from (numbers (seats r Program)) (λ n. (let a = even n in let b = (h n).0 in let c = (h n).1.one in omega (arith, a, b, c)));
  given = all_from (lies 1 w.given) (numbers (seats r Program)) (λ n l. (let a = even n in let b = (h n).0 in within n (h n).1 (omega (arith, l, a, b))));
  live = all_from (λ n. is_among n w.living) (numbers (seats r Program)) (λ n l. often_among n w.living (let a = even n in let b = (h n).0 in omega (arith, l, a, b)));
  seated = all_from (λ n. is_among n (numbers (seats r Program))) w.living (λ n l. often_among n (numbers (seats r Program)) (let a = even n in let b = (h n).0 in omega (arith, l, a, b)));
  once = differ_from w.living (λ n. (h n).1.one);
  below = (h 0).1.below;
}
  where
    within : (n : ℕ) → Given n w → 1 ≤ often n w.living → lies 1 w.given n ≡ true
    within n g l = and_from (nat_le 1 n) (nat_le n w.given) (le-leb 1 n (low (cases_lt 0 n))) (le-leb n w.given (high (cases_lt w.given n)))
      where
        low : (0 < n) ⊎ (n ≤ 0) → 1 ≤ n
        low (inl k) = omega (arith, k)
        low (inr k) = absurd (let z = g.none (inl (omega (arith, k))) in omega (arith, z, l))

        high : (w.given < n) ⊎ (n ≤ w.given) → n ≤ w.given
        high (inl k) = absurd (let z = g.none (inr k) in omega (arith, z, l))
        high (inr k) = k

pub numbers_count : (r : Residual) (w : World) → Even r → NumbersStand r w → Counts (λ n. lives n r) w
numbers_count r w even h n = (equal (cases_lt 0 (often n w.living)) (cases_lt 0 (lives n r)), record { one = differ_at w.living h.once n; none = away; below = h.below })
  where
    ns : List ℕ
    ns = numbers (seats r Program)

    there : 0 < often n w.living → 1 ≤ often n ns
    there l = among_often n ns (all_at (λ k. is_among k ns) w.living n h.seated (omega (arith, l)))

    equal : (0 < often n w.living) ⊎ (often n w.living ≤ 0) → (0 < lives n r) ⊎ (lives n r ≤ 0) → often n w.living ≡ lives n r
    equal (inl l) q = let a = even n in let b = there l in let c = differ_at ns h.differ n in let d = differ_at w.living h.once n in omega (arith, a, b, c, d, l)
    equal (inr l) (inl k) = let a = even n in let b = among_often n w.living (all_at (λ k. is_among k w.living) ns n h.live (omega (arith, a, k))) in absurd (omega (arith, b, l))
    equal (inr l) (inr k) = omega (arith, l, k)

    away : (n ≡ 0) ⊎ (w.given < n) → often n w.living ≡ 0
    away z = go z (cases_lt 0 (often n w.living))
      where
        lie : 0 < often n w.living → (nat_le 1 n ≡ true) × (nat_le n w.given ≡ true)
        lie l = and_parts (nat_le 1 n) (nat_le n w.given) (all_at (lies 1 w.given) ns n h.given (there l))

        go : (n ≡ 0) ⊎ (w.given < n) → (0 < often n w.living) ⊎ (often n w.living ≤ 0) → often n w.living ≡ 0
        go q (inr l) = omega (arith, l)
        go (inl e) (inl l) = absurd (let y = leb-true 1 n (lie l).0 in omega (arith, y, e))
        go (inr e) (inl l) = absurd (let y = leb-true n w.given (lie l).1 in omega (arith, y, e))
