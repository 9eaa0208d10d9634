-- Values in the ranges of their types.
use Rattle.std.proofs.Common.{◌≡◌, refl, sym, ap, ◌∙◌, ◌<◌, ◌≤◌, ◌≤ℤ◌, ◌<ℤ◌, ℕ, ◌+◌, ◌-◌, ◌*◌, ◌/◌, ◌%◌, ◌^◌, ℤ, pos, negsuc, neg_ℤ, ◌+ℤ◌, ◌-ℤ◌, Bool, true, false, arith}
use Rattle.std.specs.Prelude.{int_lt, int_le, ◌&&◌, if◌then◌else◌, IsTrue, int_rem}
use Rattle.std.specs.Int.{int_rem_euclid, int_shr}
use Rattle.std.proofs.lemmas.Int.{ints}
use Rattle.ceu_base.specs.declared.kinds.Ty.{Ty}
use Rattle.ceu_base.specs.declared.kinds.Ty.TheVariants as ty
use Rattle.ceu_base.specs.Values.{width, is_signed, least, above, is_value, IsValue, wrap_bits, of_test}

le_true : (a b : ℤ) → a ≤ℤ b → int_le a b ≡ true
le_true a b h = go (int_le a b) refl
  where
    go : (t : Bool) → int_le a b ≡ t → int_le a b ≡ true
    go true e = e
    go false e = absurd (omega (arith, ints, e, h))

lt_true : (a b : ℤ) → a <ℤ b → int_lt a b ≡ true
lt_true a b h = go (int_lt a b) refl
  where
    go : (t : Bool) → int_lt a b ≡ t → int_lt a b ≡ true
    go true e = e
    go false e = absurd (omega (arith, ints, e, h))

pub value_from : (t : Ty) (v : ℤ) → least t ≤ℤ v → v <ℤ above t → IsValue t v
value_from t v low high = ap (λ (b : Bool). b && int_lt v (above t)) (le_true (least t) v low) ∙ lt_true v (above t) high

pub record Within (t : Ty) (v : ℤ) : Type 0 where
  pub low : least t ≤ℤ v
  pub high : v <ℤ above t

pub within : (t : Ty) (v : ℤ) → IsValue t v → Within t v
within t v h = go (int_le (least t) v) (int_lt v (above t)) refl refl h
  where
    go : (a b : Bool) → int_le (least t) v ≡ a → int_lt v (above t) ≡ b → IsTrue (a && b) → Within t v
    go true true e f g = record { low = omega (arith, ints, e); high = omega (arith, ints, f) }
    go true false e f g = absurd (cc)
    go false b e f g = absurd (cc)

-- a remainder by a positive number
rest_low : (x : ℤ) (n : ℕ) → 0 < n → (pos 0 ≤ℤ int_rem_euclid x (pos n)) × (int_rem_euclid x (pos n) <ℤ pos n)
rest_low (pos a) n some = (omega (arith, ints), omega (arith, ints))
rest_low (negsuc a) n some = (omega (arith, ints), omega (arith, ints))

-- how far a type reaches
reach : (t : Ty) → (above t ≡ pos (2 ^ width t) +ℤ least t) × (0 < 2 ^ width t)
reach ty.None = (refl, omega arith)
reach ty.Bool = (refl, omega arith)
reach ty.U8 = (refl, omega arith)
reach ty.S8 = (refl, omega arith)
reach ty.U16 = (refl, omega arith)
reach ty.S16 = (refl, omega arith)
reach ty.U32 = (refl, omega arith)
reach ty.S32 = (refl, omega arith)
reach ty.U64 = (refl, omega arith)
reach ty.S64 = (refl, omega arith)

-- what is wrapped is a value
pub wrapped_value : (t : Ty) (v : ℤ) → IsValue t (wrap_bits t v)
wrapped_value t v =
    let r = rest_low (v -ℤ least t) (2 ^ width t) (reach t).1 in
    let top = (reach t).0 in
    value_from t (int_rem_euclid (v -ℤ least t) (pos (2 ^ width t)) +ℤ least t) (omega (arith, ints, r.0)) (omega (arith, ints, r.1, top))

pub test_value : (b : Bool) → IsValue ty.Bool (of_test b)
test_value true = refl
test_value false = refl
