-- Sums over the codes, each with its number, of so much for each copy.
use Rattle.std.proofs.Common.{◌≡◌, refl, ap, ◌∙◌, ◌≤◌, ℕ, zero, suc, ◌+◌, ◌*◌, if◌then◌else◌, List, [], ◌∷◌, Some, None, arith, eq-eqb}
use Rattle.ceu_tree.specs.declared.kernel.KCode.{KCode}
use Rattle.ceu_tree.specs.Leaf.{code_at}
use Rattle.laws_bounds_reach.specs.Copies.{one_of}

add_times : (a b t : ℕ) → (a + b) * t ≡ a * t + b * t
add_times zero b t = ap (λ n. n * t) (let e : zero + b ≡ b = omega arith in e) ∙ omega arith
add_times (suc a) b t = ap (λ n. n * t) (let e : suc a + b ≡ suc (a + b) = omega arith in e) ∙ (let z = add_times a b t in omega (arith, z))

pub more_times : (a b t : ℕ) → a ≤ b → a * t ≤ b * t
more_times zero b t h = omega arith
more_times (suc a) zero t h = absurd (omega (arith, h))
more_times (suc a) (suc b) t h = let z = more_times a b t (omega (arith, h)) in omega (arith, z)

-- the codes are numbered from i on, f says how many copies each has, and g how much a copy counts
module _ (g : KCode → ℕ) where
  abbrev pub over : List KCode → ℕ → (ℕ → ℕ) → ℕ
  over [] i f = 0
  over (c ∷ cs) i f = f i * g c + over cs (i + 1) f

  pub over_plus : (cs : List KCode) (i : ℕ) (f h : ℕ → ℕ) → over cs i (λ j. f j + h j) ≡ over cs i f + over cs i h
  over_plus [] i f h = refl
  over_plus (c ∷ cs) i f h = let a = add_times (f i) (h i) (g c) in let b = over_plus cs (i + 1) f h in omega (arith, a, b)

  pub over_more : (cs : List KCode) (i : ℕ) (f h : ℕ → ℕ) → ((j : ℕ) → f j ≤ h j) → over cs i f ≤ over cs i h
  over_more [] i f h k = omega arith
  over_more (c ∷ cs) i f h k = let a = more_times (f i) (h i) (g c) (k i) in let b = over_more cs (i + 1) f h k in omega (arith, a, b)

  one_is : (m i : ℕ) → m ≡ i → one_of i m ≡ 1
  one_is m i e = ap (λ b. if b then 1 else 0) (eq-eqb m i e)

  pub over_one : (cs : List KCode) (i m n : ℕ) (x : KCode) → code_at n cs ≡ Some x → m ≡ i + n → g x ≤ over cs i (λ j. one_of j m)
  over_one [] i m n x e q = absurd (cc)
  over_one (c ∷ cs) i m zero x e q =
      let same : c ≡ x = ap (λ o. elim o [ None ↦ c | Some y ↦ y ]) e in
      let a = ap g same in
      let b = one_is m i (omega (arith, q)) in
      let d = ap (λ n. n * g c) b in omega (arith, a, d)
  over_one (c ∷ cs) i m (suc n) x e q = let a = over_one cs (i + 1) m n x e (omega (arith, q)) in omega (arith, a)

  -- where each code has no copy, or a copy counts nothing
  pub over_none : (cs : List KCode) (i : ℕ) (f : ℕ → ℕ) → ((n : ℕ) (x : KCode) → code_at n cs ≡ Some x → f (i + n) * g x ≡ 0) → over cs i f ≡ 0
  over_none [] i f h = refl
  over_none (c ∷ cs) i f h =
      let here = h zero c refl in
      let at = ap (λ n. f n * g c) (let e : i + zero ≡ i = omega arith in e) in
      let b = over_none cs (i + 1) f (λ n x e. ap (λ m. f m * g x) (let e : i + 1 + n ≡ i + suc n = omega arith in e) ∙ h (suc n) x e) in omega (arith, here, at, b)
