-- What is written is read, and all else stays.
use Rattle.std.proofs.Common.{◌≡◌, ◌≢◌, ℕ, zero, suc, ◌+◌, ◌*◌, ◌/◌, ◌%◌, ◌^◌, ◌<◌, ◌≤◌, ◌⊎◌, inl, inr, ⊎_elim, List, length, get_or, refl, ap, ◌∙◌, arith}
use Rattle.std.specs.Prelude.{slice_index, slice_set}
use Rattle.std.proofs.Math.Seq.{get_or-set_same, get_or-set_other}
use Rattle.std.proofs.Math.ListN.{length-set}
use Rattle.std.proofs.Math.Nat.{pow-suc, pow-le-pow_right}
use Rattle.ceu_mem.specs.Bytes.{number_at, with_number}

pub length-with_number : (k n : ℕ) (bytes : List ℕ) (at : ℕ) → length (with_number k n bytes at) ≡ length bytes
unfolding with_number
length-with_number zero n bytes at = refl
length-with_number (suc k) n bytes at = length-with_number k (n / 256) (slice_set bytes at (n % 256)) (at + 1) ∙ length-set bytes at (n % 256)

-- a byte outside
pub byte_outside : (k n : ℕ) (bytes : List ℕ) (at i : ℕ) → (i < at) ⊎ (at + k ≤ i) → slice_index (with_number k n bytes at) i ≡ slice_index bytes i
unfolding with_number
byte_outside zero n bytes at i o = refl
byte_outside (suc k) n bytes at i o =
    let ne : i ≢ at = omega arith in
    let o' : (i < at + 1) ⊎ (at + 1 + k ≤ i) = ⊎_elim (λ x. inl (omega arith)) (λ x. inr (omega arith)) o in
    byte_outside k (n / 256) (slice_set bytes at (n % 256)) (at + 1) i o' ∙ get_or-set_other bytes at i (n % 256) 0 ne

-- a number apart from what is written
pub number_outside : (j k n : ℕ) (bytes : List ℕ) (at i : ℕ) → (i + j ≤ at) ⊎ (at + k ≤ i) → number_at j (with_number k n bytes at) i ≡ number_at j bytes i
unfolding number_at
number_outside zero k n bytes at i o = refl
number_outside (suc j) k n bytes at i o =
    let a = byte_outside k n bytes at i (⊎_elim (λ x. inl (omega arith)) (λ x. inr x) o) in
    let b = number_outside j k n bytes at (i + 1) (⊎_elim (λ x. inl (omega arith)) (λ x. inr (omega arith)) o) in
    ap (λ x. x + 256 * number_at j (with_number k n bytes at) (i + 1)) a ∙ ap (λ x. slice_index bytes i + 256 * x) b

-- the number that was written
pub number_written : (k n : ℕ) (bytes : List ℕ) (at : ℕ) → n < 256 ^ k → at + k ≤ length bytes → number_at k (with_number k n bytes at) at ≡ n
unfolding number_at with_number
number_written zero n bytes at lt le = omega arith
number_written (suc k) n bytes at lt le =
    let bytes' = slice_set bytes at (n % 256) in
    let head : slice_index (with_number k (n / 256) bytes' (at + 1)) at ≡ n % 256 = byte_outside k (n / 256) bytes' (at + 1) at (inl (omega arith)) ∙ get_or-set_same bytes at (n % 256) 0 (omega arith) in
    let pow : 256 ^ suc k ≡ 256 ^ k * 256 = pow-suc 256 k in
    let tail = number_written k (n / 256) bytes' (at + 1) (omega (arith, pow)) (omega (arith, length-set bytes at (n % 256))) in
    omega (arith, head, tail)

-- a number of bytes is below a power
pub number_below : (k : ℕ) (bytes : List ℕ) (at : ℕ) → ((i : ℕ) → get_or bytes i 0 < 256) → number_at k bytes at < 256 ^ k
unfolding number_at
number_below zero bytes at h = omega arith
number_below (suc k) bytes at h =
    let pow : 256 ^ suc k ≡ 256 ^ k * 256 = pow-suc 256 k in
    let rest = number_below k bytes (at + 1) h in
    omega (arith, h at, pow, rest)

-- seven bytes leave room for one more
pub number_small : (k : ℕ) (bytes : List ℕ) (at : ℕ) → k < 8 → ((i : ℕ) → get_or bytes i 0 < 256) → number_at k bytes at < 2 ^ 56
number_small k bytes at lt h =
    let below = number_below k bytes at h in
    let few : k ≤ 7 = omega arith in
    let some : 0 < 256 = omega arith in
    let power : 256 ^ k ≤ 256 ^ 7 = pow-le-pow_right {n = 256} some few in
    omega (arith, below, power)

pub number_step : (k : ℕ) (bytes : List ℕ) (at : ℕ) → number_at (suc k) bytes at ≡ slice_index bytes at + 256 * number_at k bytes (at + 1)
unfolding number_at
number_step k bytes at = refl

pub number_nothing : (bytes : List ℕ) (at : ℕ) → number_at 0 bytes at ≡ 0
unfolding number_at
number_nothing bytes at = refl

pub with_number_step : (k n : ℕ) (bytes : List ℕ) (at : ℕ) → with_number (suc k) n bytes at ≡ with_number k (n / 256) (slice_set bytes at (n % 256)) (at + 1)
unfolding with_number
with_number_step k n bytes at = refl

pub with_number_nothing : (n : ℕ) (bytes : List ℕ) (at : ℕ) → with_number 0 n bytes at ≡ bytes
unfolding with_number
with_number_nothing n bytes at = refl
