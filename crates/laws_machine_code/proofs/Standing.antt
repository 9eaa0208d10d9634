-- Bytes that stand in a list at an offset, and the numbers that they spell.
use Rattle.std.proofs.Common.{◌≡◌, refl, sym, ap, ◌∙◌, subst, ◌<◌, ◌≤◌, ℕ, zero, suc, ◌+◌, ◌-◌, ◌*◌, ◌/◌, ◌%◌, ◌^◌, min, List, [], ◌∷◌, ◌++◌, length, take, drop, get_or, arith}
use Rattle.std.specs.Prelude.{slice_index}
use Rattle.std.proofs.lemmas.List.{length-take, length-drop, get_or-drop}
use Rattle.std.proofs.Math.Nat.{pow-suc}
use Rattle.ceu_code.specs.Table.{low_first}
use Rattle.ceu_mem.specs.Bytes.{number_at}

abbrev pub Stands : List ℕ → (at : ℕ) → List ℕ → Type 0
Stands code at [] = Unit {0}
Stands code at (b ∷ bs) = (slice_index code at ≡ b) × Stands code (at + 1) bs

-- each byte stands at its place
stands_from : (code : List ℕ) (at : ℕ) (bytes : List ℕ) → ((i : ℕ) → i < length bytes → slice_index code (at + i) ≡ slice_index bytes i) → Stands code at bytes
stands_from code at [] h = tt
stands_from code at (b ∷ bs) h = (
  ap (λ k. slice_index code k) (let e : at ≡ at + 0 = omega arith in e) ∙ h 0 (omega arith),
  stands_from code (at + 1) bs (λ i lt. ap (λ k. slice_index code k) (let e : at + 1 + i ≡ at + suc i = omega arith in e) ∙ h (suc i) (omega arith)),
)

get_take : (n : ℕ) (bytes : List ℕ) (i : ℕ) → i < n → get_or (take n bytes) i 0 ≡ get_or bytes i 0
get_take zero bytes i lt = absurd (omega arith)
get_take (suc n) [] i lt = refl
get_take (suc n) (b ∷ bs) zero lt = refl
get_take (suc n) (b ∷ bs) (suc i) lt = get_take n bs i (omega arith)

pub stands_there : (n : ℕ) (code : List ℕ) (at : ℕ) (bytes : List ℕ) → length bytes ≡ n → take n (drop at code) ≡ bytes → Stands code at bytes
stands_there n code at bytes long e =
    stands_from code at bytes (λ i lt. sym (get_or-drop at code i 0) ∙ sym (get_take n (drop at code) i (omega arith)) ∙ ap (λ (bs : List ℕ). get_or bs i 0) e)

pub fits_there : (n : ℕ) (code : List ℕ) (at : ℕ) (bytes : List ℕ) → length bytes ≡ n → 0 < n → take n (drop at code) ≡ bytes → at + n ≤ length code
fits_there n code at bytes long some e =
    let a : length (take n (drop at code)) ≡ min n (length (drop at code)) = length-take n (drop at code) in
    let b : length (drop at code) ≡ length code - at = length-drop at code in
    let c : length (take n (drop at code)) ≡ n = ap length e ∙ long in
    omega (arith, a, b, c)

-- what stands one behind the other
pub stands_parts : (code : List ℕ) (at : ℕ) (xs ys : List ℕ) → Stands code at (xs ++ ys) → Stands code at xs × Stands code (at + length xs) ys
stands_parts code at [] ys h = (tt, subst (λ k. Stands code k ys) (let e : at ≡ at + 0 = omega arith in e) h)
stands_parts code at (x ∷ xs) ys h =
    let rest = stands_parts code (at + 1) xs ys h.1 in
    ((h.0, rest.0), subst (λ k. Stands code k ys) (let e : at + 1 + length xs ≡ at + suc (length xs) = omega arith in e) rest.1)

-- a number that is spelled is read
pub number_there : (k n : ℕ) (code : List ℕ) (at : ℕ) → n < 256 ^ k → Stands code at (low_first k n) → number_at k code at ≡ n
unfolding number_at low_first
number_there zero n code at lt h = omega arith
number_there (suc k) n code at lt h =
    let pow : 256 ^ suc k ≡ 256 ^ k * 256 = pow-suc 256 k in
    let rest = number_there k (n / 256) code (at + 1) (omega (arith, pow)) h.1 in
    let first : slice_index code at ≡ n % 256 = h.0 in
    omega (arith, first, rest)

pub byte_there : (b : ℕ) (code : List ℕ) (at : ℕ) → slice_index code at ≡ b → number_at 1 code at ≡ b
unfolding number_at
byte_there b code at e = omega (arith, e)
