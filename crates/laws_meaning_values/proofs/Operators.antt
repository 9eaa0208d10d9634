-- What operators give is a value of the result's type.
use Rattle.std.proofs.Common.{◌≡◌, refl, sym, ap, ◌∙◌, subst, ◌<◌, ◌≤◌, ◌≤ℤ◌, ◌<ℤ◌, ℕ, zero, suc, ◌+◌, ◌-◌, ◌*◌, ◌/◌, ◌%◌, ◌^◌, ℤ, pos, negsuc, neg_ℤ, ◌+ℤ◌, ◌-ℤ◌, Bool, true, false, Option, Some, None, Result, Ok, Err, arith}
use Rattle.std.specs.Prelude.{int_lt, int_le, int_div, int_rem, bit_or, bit_xor, bit_and, ◌*ℤ◌, ◌&&◌, ◌||◌, not, if◌then◌else◌, IsTrue, List, [], ◌∷◌, slice_get}
use Rattle.std.proofs.lemmas.Bool.{eqb-true, eq-eqb}
use Rattle.std.proofs.Math.Nat.{div-le_self, mod-le}
use Rattle.std.proofs.Math.IntN.{nat_abs}
use Rattle.std.specs.Int.{int_shr}
use Rattle.std.proofs.lemmas.Int.{ints}
use Rattle.ceu_base.specs.declared.kinds.Ty.{Ty}
use Rattle.ceu_base.specs.declared.kinds.Ty.TheVariants as ty
use Rattle.ceu_base.specs.declared.kinds.Fault.{Fault}
use Rattle.ceu_base.specs.declared.kinds.Fault.TheVariants.{Overflow, DivZero, Shift}
use Rattle.ceu_base.specs.declared.kinds.Op1.{Op1}
use Rattle.ceu_base.specs.declared.kinds.Op1.TheVariants.{Not, Neg, Compl}
use Rattle.ceu_base.specs.declared.kinds.Op2.{Op2}
use Rattle.ceu_base.specs.declared.kinds.Op2.TheVariants.{Or, And, Eq, Ne, Lt, Gt, Le, Ge, BitOr, BitXor, BitAnd, Shl, Shr, Add, Sub, Mul, Div, Rem}
use Rattle.ceu_base.specs.Values.{width, least, above, is_value, IsValue, of_test, bits_of, checked, shifted, unless_zero, same, applied1, applied2, is_bool, is_numeric}
use Rattle.ceu_tree.specs.Typing.{ty_number, same_ty, holds_all, first_that_holds, common, is_amount, some_ty, meets, fits1, fits2}
use Rattle.laws_meaning_values.proofs.Ranges.{value_from, within, wrapped_value, test_value}

abbrev pub IsOutcome : Ty → Result ℤ Fault → Type 0
IsOutcome t (Ok v) = IsValue t v
IsOutcome t (Err f) = Unit {0}

-- ---- types by their tests

pub and_left : (a b : Bool) → (a && b) ≡ true → a ≡ true
and_left true b h = refl
and_left false b h = absurd (cc)

pub and_right : (a b : Bool) → (a && b) ≡ true → b ≡ true
and_right true b h = h
and_right false b h = absurd (cc)

pub bool_is : (t : Ty) → is_bool t ≡ true → t ≡ ty.Bool
bool_is ty.Bool h = refl
bool_is ty.None h = absurd (cc)
bool_is ty.U8 h = absurd (cc)
bool_is ty.S8 h = absurd (cc)
bool_is ty.U16 h = absurd (cc)
bool_is ty.S16 h = absurd (cc)
bool_is ty.U32 h = absurd (cc)
bool_is ty.S32 h = absurd (cc)
bool_is ty.U64 h = absurd (cc)
bool_is ty.S64 h = absurd (cc)

-- types are told apart by their numbers
abbrev types : List Ty
types = ty.None ∷ ty.Bool ∷ ty.U8 ∷ ty.S8 ∷ ty.U16 ∷ ty.S16 ∷ ty.U32 ∷ ty.S32 ∷ ty.U64 ∷ ty.S64 ∷ []

type_there : (t : Ty) → slice_get types (ty_number t) ≡ Some t
type_there ty.None = refl
type_there ty.Bool = refl
type_there ty.U8 = refl
type_there ty.S8 = refl
type_there ty.U16 = refl
type_there ty.S16 = refl
type_there ty.U32 = refl
type_there ty.S32 = refl
type_there ty.U64 = refl
type_there ty.S64 = refl

pub one_type : (t u : Ty) → Some t ≡ Some u → t ≡ u
one_type t u e = cc

pub same_is : (t u : Ty) → same_ty t u ≡ true → t ≡ u
same_is t u h = one_type t u (sym (type_there t) ∙ ap (slice_get types) (eqb-true _ _ h) ∙ type_there u)

-- ---- results

checked_value : (t : Ty) (v : ℤ) → IsOutcome t (checked t v)
checked_value t v = go (is_value t v) refl
  where
    go : (b : Bool) → is_value t v ≡ b → IsOutcome t (if b then Ok v else Err Overflow)
    go true e = e
    go false e = tt

unless_zero_value : (t : Ty) (b : ℤ) (r : Result ℤ Fault) → IsOutcome t r → IsOutcome t (unless_zero b r)
unless_zero_value t b r h = go (same b (pos 0))
  where
    go : (z : Bool) → IsOutcome t (if z then Err DivZero else r)
    go true = tt
    go false = h

shifted_value : (t : Ty) (f : ℕ → Result ℤ Fault) → ((n : ℕ) → IsOutcome t (f n)) → (b : ℤ) → IsOutcome t (shifted f t b)
shifted_value t f h (pos n) = go (int_lt (pos n) (pos (width t)))
  where
    go : (z : Bool) → IsOutcome t (if z then f n else Err Shift)
    go true = h n
    go false = tt
shifted_value t f h (negsuc n) = tt

-- where a type reaches from 0 or below to above 0
around_zero : (t : Ty) → (least t ≤ℤ pos 0) × (pos 0 <ℤ above t)
around_zero ty.None = (omega (arith, ints), omega (arith, ints))
around_zero ty.Bool = (omega (arith, ints), omega (arith, ints))
around_zero ty.U8 = (omega (arith, ints), omega (arith, ints))
around_zero ty.S8 = (omega (arith, ints), omega (arith, ints))
around_zero ty.U16 = (omega (arith, ints), omega (arith, ints))
around_zero ty.S16 = (omega (arith, ints), omega (arith, ints))
around_zero ty.U32 = (omega (arith, ints), omega (arith, ints))
around_zero ty.S32 = (omega (arith, ints), omega (arith, ints))
around_zero ty.U64 = (omega (arith, ints), omega (arith, ints))
around_zero ty.S64 = (omega (arith, ints), omega (arith, ints))

-- a number between 0 and a value is a value
smaller : (t : Ty) (v w : ℤ) → IsValue t v → (pos 0 ≤ℤ v → (pos 0 ≤ℤ w) × (w ≤ℤ v)) → (v <ℤ pos 0 → (v ≤ℤ w) × (w ≤ℤ pos 0)) → IsValue t w
smaller t v w h up down = go (int_le (pos 0) v) refl
  where
    z : (least t ≤ℤ pos 0) × (pos 0 <ℤ above t)
    z = around_zero t

    go : (b : Bool) → int_le (pos 0) v ≡ b → IsValue t w
    go true e =
        let r = within t v h in
        let low = z.0 in
        let high = z.1 in
        let u = up (omega (arith, ints, e)) in
        value_from t w (omega (arith, ints, u.0, low)) (omega (arith, ints, u.1, r.high))
    go false e =
        let r = within t v h in
        let low = z.0 in
        let high = z.1 in
        let u = down (omega (arith, ints, e)) in
        value_from t w (omega (arith, ints, u.0, r.low)) (omega (arith, ints, u.1, high))

shifted_down : (t : Ty) (v : ℤ) (n : ℕ) → IsValue t v → IsValue t (int_shr v n)
shifted_down t (pos a) n h = let small = div-le_self a (2 ^ n) in smaller t (pos a) (pos (a / 2 ^ n)) h (λ g. (omega (arith, ints), omega (arith, ints, small))) (λ g. absurd (omega (arith, ints, g)))
shifted_down t (negsuc a) n h = let small = div-le_self a (2 ^ n) in smaller t (negsuc a) (negsuc (a / 2 ^ n)) h (λ g. absurd (omega (arith, ints, g))) (λ g. (omega (arith, ints, small), omega (arith, ints)))

rest_value : (t : Ty) (v d : ℤ) → IsValue t v → IsValue t (int_rem v d)
rest_value t (pos a) d h = let small = mod-le a (nat_abs d) in smaller t (pos a) (pos (a % nat_abs d)) h (λ g. (omega (arith, ints), omega (arith, ints, small))) (λ g. absurd (omega (arith, ints, g)))
rest_value t (negsuc a) d h = let small = mod-le (suc a) (nat_abs d) in smaller t (negsuc a) (neg_ℤ (pos (suc a % nat_abs d))) h (λ g. absurd (omega (arith, ints, g))) (λ g. (omega (arith, ints, small), omega (arith, ints)))

-- ---- types that hold all values of others

pub held_value : (t u : Ty) (v : ℤ) → holds_all t u ≡ true → IsValue u v → IsValue t v
held_value t u v h x = go (same_ty t u) refl h
  where
    go : (b : Bool) → same_ty t u ≡ b → (b || (is_numeric t && is_numeric u && int_le (least t) (least u) && int_le (above u) (above t))) ≡ true → IsValue t v
    go true e g = subst (λ (z : Ty). IsValue z v) (sym (same_is t u e)) x
    go false e g =
        let r = within u v x in
        let inner = and_left (is_numeric t && is_numeric u && int_le (least t) (least u)) (int_le (above u) (above t)) g in
        let low = and_right (is_numeric t && is_numeric u) (int_le (least t) (least u)) inner in
        let high = and_right (is_numeric t && is_numeric u && int_le (least t) (least u)) (int_le (above u) (above t)) g in
        value_from t v (omega (arith, ints, low, r.low)) (omega (arith, ints, high, r.high))

first_holds : (a b t : Ty) (ts : List Ty) → first_that_holds a b ts ≡ Some t → holds_all t a ≡ true
first_holds a b t [] e = absurd (cc)
first_holds a b t (u ∷ ts) e = go (holds_all u a && holds_all u b) refl e (first_holds a b t ts)
  where
    go : (z : Bool) → (holds_all u a && holds_all u b) ≡ z → (if z then Some u else first_that_holds a b ts) ≡ Some t → (first_that_holds a b ts ≡ Some t → holds_all t a ≡ true) → holds_all t a ≡ true
    go true h f rest = subst (λ (x : Ty). holds_all x a ≡ true) (one_type u t f) (and_left (holds_all u a) (holds_all u b) h)
    go false h f rest = rest f

same_itself : (t : Ty) → same_ty t t ≡ true
same_itself t = eq-eqb (ty_number t) (ty_number t) refl

pub holds_itself : (t : Ty) → holds_all t t ≡ true
holds_itself t = ap (λ (b : Bool). b || (is_numeric t && is_numeric t && int_le (least t) (least t) && int_le (above t) (above t))) (same_itself t)

pub common_holds : (a b t : Ty) → common a b ≡ Some t → holds_all t a ≡ true
common_holds a b t e = go (holds_all a b) (holds_all b a) refl refl e
  where
    go : (x y : Bool) → holds_all a b ≡ x → holds_all b a ≡ y → (if x then Some a else (if y then Some b else first_that_holds a b (ty.S8 ∷ ty.S16 ∷ ty.S32 ∷ ty.S64 ∷ []))) ≡ Some t → holds_all t a ≡ true
    go true y h g f = subst (λ (u : Ty). holds_all u a ≡ true) (one_type a t f) (holds_itself a)
    go false true h g f = subst (λ (u : Ty). holds_all u a ≡ true) (one_type b t f) g
    go false false h g f = first_holds a b t (ty.S8 ∷ ty.S16 ∷ ty.S32 ∷ ty.S64 ∷ []) f

some_is : (o : Option Ty) (t : Ty) → some_ty o t ≡ true → o ≡ Some t
some_is None t h = absurd (cc)
some_is (Some u) t h = ap Some (same_is u t h)

-- ---- operators

pub result1 : (op : Op1) (t a : Ty) (v : ℤ) → fits1 op t a ≡ true → IsValue a v → IsOutcome t (applied1 op t v)
result1 Not t a v h x =
    let is = bool_is a (and_left (is_bool a) (is_bool t) h) in
    let to = bool_is t (and_right (is_bool a) (is_bool t) h) in
    let r = within ty.Bool v (subst (λ (u : Ty). IsValue u v) is x) in
    subst (λ (u : Ty). IsValue u (pos 1 -ℤ v)) (sym to) (value_from ty.Bool (pos 1 -ℤ v) (omega (arith, ints, r.low, r.high)) (omega (arith, ints, r.low, r.high)))
result1 Neg t a v h x = checked_value t (neg_ℤ v)
result1 Compl t a v h x = wrapped_value t (neg_ℤ v -ℤ pos 1)

tested : (t : Ty) (b : Bool) → t ≡ ty.Bool → IsValue t (of_test b)
tested t b e = subst (λ (u : Ty). IsValue u (of_test b)) (sym e) (test_value b)

-- of a test the result is a truth value
tests_bool : (t a b : Ty) (rest : Bool) → (is_bool t && rest) ≡ true → t ≡ ty.Bool
tests_bool t a b rest h = bool_is t (and_left (is_bool t) rest h)

pub result2 : (op : Op2) (p q : Bool) (t a b : Ty) (v w : ℤ) → fits2 op p q t a b ≡ true → IsValue a v → IsValue b w → IsOutcome t (applied2 op t v w)
result2 Or p q t a b v w h x y = tested t _ (bool_is t (and_left (is_bool t) (is_bool a) (and_left (is_bool t && is_bool a) (is_bool b) h)))
result2 And p q t a b v w h x y = tested t _ (bool_is t (and_left (is_bool t) (is_bool a) (and_left (is_bool t && is_bool a) (is_bool b) h)))
result2 Eq p q t a b v w h x y = tested t _ (bool_is t (and_left (is_bool t) ((is_bool a && is_bool b) || meets p q a b) h))
result2 Ne p q t a b v w h x y = tested t _ (bool_is t (and_left (is_bool t) ((is_bool a && is_bool b) || meets p q a b) h))
result2 Lt p q t a b v w h x y = tested t _ (bool_is t (and_left (is_bool t) (meets p q a b) h))
result2 Gt p q t a b v w h x y = tested t _ (bool_is t (and_left (is_bool t) (meets p q a b) h))
result2 Le p q t a b v w h x y = tested t _ (bool_is t (and_left (is_bool t) (meets p q a b) h))
result2 Ge p q t a b v w h x y = tested t _ (bool_is t (and_left (is_bool t) (meets p q a b) h))
result2 BitOr p q t a b v w h x y = wrapped_value t (pos (bit_or (bits_of t v) (bits_of t w)))
result2 BitXor p q t a b v w h x y = wrapped_value t (pos (bit_xor (bits_of t v) (bits_of t w)))
result2 BitAnd p q t a b v w h x y = wrapped_value t (pos (bit_and (bits_of t v) (bits_of t w)))
result2 Shl p q t a b v w h x y = shifted_value t (λ n. checked t (v *ℤ pos (2 ^ n))) (λ n. checked_value t (v *ℤ pos (2 ^ n))) w
result2 Shr p q t a b v w h x y =
    let same : same_ty t a ≡ true = and_right (is_numeric a) (same_ty t a) (and_left (is_numeric a && same_ty t a) (is_amount b) (and_left (is_numeric a && same_ty t a && is_amount b) (not q || same_ty b ty.S32) h)) in
    let z : IsValue t v = subst (λ (u : Ty). IsValue u v) (sym (same_is t a same)) x in
    shifted_value t (λ n. Ok (int_shr v n)) (λ n. shifted_down t v n z) w
result2 Add p q t a b v w h x y = checked_value t (v +ℤ w)
result2 Sub p q t a b v w h x y = checked_value t (v -ℤ w)
result2 Mul p q t a b v w h x y = checked_value t (v *ℤ w)
result2 Div p q t a b v w h x y = unless_zero_value t w (checked t (int_div v w)) (checked_value t (int_div v w))
result2 Rem p q t a b v w h x y =
    let joins = some_is (common a b) t (and_right (meets p q a b) (some_ty (common a b) t) h) in
    let z = held_value t a v (common_holds a b t joins) x in
    unless_zero_value t w (Ok (int_rem v w)) (rest_value t v w z)
