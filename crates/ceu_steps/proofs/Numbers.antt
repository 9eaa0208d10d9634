-- Numbers and values that were stored are read as they were.
use Rattle.std.proofs.Common.{◌≡◌, ◌≢◌, refl, sym, ap, ◌∙◌, ◌<◌, ◌≤◌, ◌≤ℤ◌, ◌<ℤ◌, inl, ℕ, zero, suc, ◌+◌, ◌-◌, ◌*◌, ◌/◌, ◌%◌, ◌^◌, ℤ, pos, negsuc, neg_ℤ, ◌-ℤ◌, Bool, true, false, List, length, arith}
use Rattle.std.specs.Prelude.{slice_index, slice_set, nat_lt, if◌then◌else◌}
use Rattle.std.proofs.lemmas.Int.{ints}
use Rattle.std.proofs.lemmas.Bool.{ltb-true, ltb-false}
use Rattle.std.proofs.Math.Seq.{get_or-set_same}
use Rattle.std.proofs.Math.ListN.{length-set}
use Rattle.std.proofs.Math.Nat.{mod-eq-sub-mul-div, mul-div-le, div-div-eq-div-mul, mul_assoc, pow-suc}
use Rattle.ceu_base.specs.declared.kinds.Ty.{Ty}
use Rattle.ceu_base.specs.declared.kinds.Ty.TheVariants as ty
use Rattle.ceu_base.specs.Values.{IsValue}
use Rattle.ceu_code.specs.Instructions.{cell}
use Rattle.ceu_mem.specs.Bytes.{number_at, with_number}
use Rattle.ceu_mem.specs.Memory.{size, with_sign}
use Rattle.ceu_mem.proofs.Views.{byte_outside, number_step, number_nothing, with_number_step}

mod_step : (b n : ℕ) → n % (256 * b) ≡ n % 256 + 256 * ((n / 256) % b)
mod_step b n =
    let q : ℕ = n / 256 / b in
    let e1 = mod-eq-sub-mul-div n (256 * b) in
    let e2 : n / (256 * b) ≡ n / 256 / b = sym (div-div-eq-div-mul n 256 b) in
    let e3 = mul-div-le (n / 256) b in
    let e4 = mod-eq-sub-mul-div (n / 256) b in
    let e5 : 256 * b * (n / (256 * b)) ≡ 256 * (b * (n / 256 / b)) = ap (λ (k : ℕ). 256 * b * k) e2 ∙ mul_assoc 256 b (n / 256 / b) in
    omega (arith, e1, e3, e4, e5)

-- what was written, modulo 256 to the number of its bytes
pub number_mod : (k n : ℕ) (bytes : List ℕ) (at : ℕ) → at + k ≤ length bytes → number_at k (with_number k n bytes at) at ≡ n % 256 ^ k
number_mod zero n bytes at le = number_nothing (with_number 0 n bytes at) at ∙ (let e : 0 ≡ n % 256 ^ 0 = omega arith in e)
number_mod (suc k) n bytes at le =
    let bytes' : List ℕ = slice_set bytes at (n % 256) in
    let head : slice_index (with_number k (n / 256) (slice_set bytes at (n % 256)) (at + 1)) at ≡ n % 256 =
    byte_outside k (n / 256) (slice_set bytes at (n % 256)) (at + 1) at (inl (omega arith)) ∙ get_or-set_same bytes at (n % 256) 0 (omega arith) in
    let tail = number_mod k (n / 256) (slice_set bytes at (n % 256)) (at + 1) (omega (arith, length-set bytes at (n % 256))) in
    let pow : 256 ^ suc k ≡ 256 * 256 ^ k = pow-suc 256 k ∙ (let c : 256 ^ k * 256 ≡ 256 * 256 ^ k = omega arith in c) in
    ap (λ (x : List ℕ). number_at (suc k) x at) (with_number_step k n bytes at)
    ∙ number_step k (with_number k (n / 256) (slice_set bytes at (n % 256)) (at + 1)) at
    ∙ ap (λ (x : ℕ). x + 256 * number_at k (with_number k (n / 256) (slice_set bytes at (n % 256)) (at + 1)) (at + 1)) head
    ∙ ap (λ (x : ℕ). n % 256 + 256 * x) tail
    ∙ sym (mod_step (256 ^ k) n)
    ∙ ap (λ (x : ℕ). n % x) (sym pow)

-- ---- values

unsigned_8 : (v : ℤ) → pos 0 ≤ℤ v → v <ℤ pos (2 ^ 8) → pos (cell v % 256) ≡ v
unsigned_8 (pos n) low high = let e : n % 2 ^ 64 % 256 ≡ n = omega (arith, ints) in ap pos e
unsigned_8 (negsuc n) low high = absurd (omega (arith, ints))

unsigned_16 : (v : ℤ) → pos 0 ≤ℤ v → v <ℤ pos (2 ^ 16) → pos (cell v % 2 ^ 16) ≡ v
unsigned_16 (pos n) low high = let e : n % 2 ^ 64 % 2 ^ 16 ≡ n = omega (arith, ints) in ap pos e
unsigned_16 (negsuc n) low high = absurd (omega (arith, ints))

unsigned_32 : (v : ℤ) → pos 0 ≤ℤ v → v <ℤ pos (2 ^ 32) → pos (cell v % 2 ^ 32) ≡ v
unsigned_32 (pos n) low high = let e : n % 2 ^ 64 % 2 ^ 32 ≡ n = omega (arith, ints) in ap pos e
unsigned_32 (negsuc n) low high = absurd (omega (arith, ints))

unsigned_64 : (v : ℤ) → pos 0 ≤ℤ v → v <ℤ pos (2 ^ 64) → pos (cell v % 2 ^ 64) ≡ v
unsigned_64 (pos n) low high = let e : n % 2 ^ 64 % 2 ^ 64 ≡ n = omega (arith, ints) in ap pos e
unsigned_64 (negsuc n) low high = absurd (omega (arith, ints))

-- the number with so many bits is that of the value, and its first bit says whether the value is below 0
module _ (h k : ℕ) (double : k ≡ h + h) where
  signed_pos : (n c : ℕ) → n < h → c ≡ n → (if nat_lt c h then pos c else pos c -ℤ pos k) ≡ pos n
  signed_pos n c lt e = go (nat_lt c h) refl
    where
      go : (b : Bool) → nat_lt c h ≡ b → (if b then pos c else pos c -ℤ pos k) ≡ pos n
      go true x = ap pos e
      go false x = let z = ltb-false _ _ x in absurd (omega (arith, z, e, lt))

  signed_neg : (m c : ℕ) → m < h → c + m + 1 ≡ k → (if nat_lt c h then pos c else pos c -ℤ pos k) ≡ negsuc m
  signed_neg m c lt e = go (nat_lt c h) refl
    where
      go : (b : Bool) → nat_lt c h ≡ b → (if b then pos c else pos c -ℤ pos k) ≡ negsuc m
      go true x = let z = ltb-true _ _ x in absurd (omega (arith, z, e, lt, double))
      go false x = omega (arith, ints, e)

signed_8 : (v : ℤ) → neg_ℤ (pos (2 ^ 7)) ≤ℤ v → v <ℤ pos (2 ^ 7) → with_sign ty.S8 (cell v % 256) ≡ v
signed_8 (pos n) low high = signed_pos (2 ^ 7) (2 ^ 8) refl n (n % 2 ^ 64 % 256) (omega (arith, ints)) (omega (arith, ints))
signed_8 (negsuc m) low high = signed_neg (2 ^ 7) (2 ^ 8) refl m ((2 ^ 64 - 1 - m % 2 ^ 64) % 256) (omega (arith, ints)) (omega (arith, ints))

signed_16 : (v : ℤ) → neg_ℤ (pos (2 ^ 15)) ≤ℤ v → v <ℤ pos (2 ^ 15) → with_sign ty.S16 (cell v % 2 ^ 16) ≡ v
signed_16 (pos n) low high = signed_pos (2 ^ 15) (2 ^ 16) refl n (n % 2 ^ 64 % 2 ^ 16) (omega (arith, ints)) (omega (arith, ints))
signed_16 (negsuc m) low high = signed_neg (2 ^ 15) (2 ^ 16) refl m ((2 ^ 64 - 1 - m % 2 ^ 64) % 2 ^ 16) (omega (arith, ints)) (omega (arith, ints))

signed_32 : (v : ℤ) → neg_ℤ (pos (2 ^ 31)) ≤ℤ v → v <ℤ pos (2 ^ 31) → with_sign ty.S32 (cell v % 2 ^ 32) ≡ v
signed_32 (pos n) low high = signed_pos (2 ^ 31) (2 ^ 32) refl n (n % 2 ^ 64 % 2 ^ 32) (omega (arith, ints)) (omega (arith, ints))
signed_32 (negsuc m) low high = signed_neg (2 ^ 31) (2 ^ 32) refl m ((2 ^ 64 - 1 - m % 2 ^ 64) % 2 ^ 32) (omega (arith, ints)) (omega (arith, ints))

signed_64 : (v : ℤ) → neg_ℤ (pos (2 ^ 63)) ≤ℤ v → v <ℤ pos (2 ^ 63) → with_sign ty.S64 (cell v % 2 ^ 64) ≡ v
signed_64 (pos n) low high = signed_pos (2 ^ 63) (2 ^ 64) refl n (n % 2 ^ 64 % 2 ^ 64) (omega (arith, ints)) (omega (arith, ints))
signed_64 (negsuc m) low high = signed_neg (2 ^ 63) (2 ^ 64) refl m ((2 ^ 64 - 1 - m % 2 ^ 64) % 2 ^ 64) (omega (arith, ints)) (omega (arith, ints))

pub value_back : (t : Ty) (v : ℤ) → t ≢ ty.None → IsValue t v → with_sign t (cell v % 256 ^ size t) ≡ v
value_back ty.None v some h = absurd (some refl)
value_back ty.Bool v some h = unsigned_8 v (grind (arith, ints)) (grind (arith, ints))
value_back ty.U8 v some h = unsigned_8 v (grind (arith, ints)) (grind (arith, ints))
value_back ty.U16 v some h = unsigned_16 v (grind (arith, ints)) (grind (arith, ints))
value_back ty.U32 v some h = unsigned_32 v (grind (arith, ints)) (grind (arith, ints))
value_back ty.U64 v some h = unsigned_64 v (grind (arith, ints)) (grind (arith, ints))
value_back ty.S8 v some h = signed_8 v (grind (arith, ints)) (grind (arith, ints))
value_back ty.S16 v some h = signed_16 v (grind (arith, ints)) (grind (arith, ints))
value_back ty.S32 v some h = signed_32 v (grind (arith, ints)) (grind (arith, ints))
value_back ty.S64 v some h = signed_64 v (grind (arith, ints)) (grind (arith, ints))
