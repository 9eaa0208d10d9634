-- In which type the machine works for a binary operator: it holds the values of both operands, and the operator gives the same in it.
use Rattle.std.proofs.Common.{◌≡◌, ◌≢◌, refl, sym, ap, ◌∙◌, subst, inl, inr, ℤ, Bool, true, false, List, [], ◌∷◌, Option, Some, None}
use Rattle.std.specs.Prelude.{◌&&◌, ◌||◌, not, if◌then◌else◌, int_le, ◌⊎◌}
use Rattle.ceu_base.specs.declared.kinds.Ty.{Ty}
use Rattle.ceu_base.specs.declared.kinds.Ty.TheVariants as ty
use Rattle.ceu_base.specs.declared.kinds.Op1.{Op1}
use Rattle.ceu_base.specs.declared.kinds.Op1.TheVariants as op1
use Rattle.ceu_base.specs.declared.kinds.Op2.{Op2}
use Rattle.ceu_base.specs.declared.kinds.Op2.TheVariants as op2
use Rattle.ceu_base.specs.Values.{least, above, IsValue, is_bool, is_numeric, takes1, takes2, right_type, applied2}
use Rattle.ceu_tree.specs.Typing.{same_ty, holds_all, first_that_holds, common, is_amount, is_test, is_some_ty, some_ty, meets, joined_ty, fits1, fits2}
use Rattle.ceu_shape.specs.Expressions.{common_or, operator_ty}
use Rattle.laws_meaning_values.proofs.Operators.{and_left, and_right, bool_is, same_is, one_type, holds_itself, held_value, common_holds}

-- ---- types that aren't none

numeric_some : (t : Ty) → is_numeric t ≡ true → t ≢ ty.None
numeric_some t h e = absurd (let z : is_numeric ty.None ≡ true = subst (λ (u : Ty). is_numeric u ≡ true) e h in cc)

pub bool_some : (t : Ty) → t ≡ ty.Bool → t ≢ ty.None
bool_some t h e = absurd (let z : ty.Bool ≡ ty.None = sym h ∙ e in cc)

held_numeric : (t u : Ty) → holds_all t u ≡ true → is_numeric u ≡ true → is_numeric t ≡ true
held_numeric t u h n = go (same_ty t u) refl h
  where
    go : (b : Bool) → same_ty t u ≡ b → (b || (is_numeric t && is_numeric u && int_le (least t) (least u) && int_le (above u) (above t))) ≡ true → is_numeric t ≡ true
    go true e g = subst (λ (z : Ty). is_numeric z ≡ true) (sym (same_is t u e)) n
    go false e g = and_left (is_numeric t) (is_numeric u) (and_left (is_numeric t && is_numeric u) (int_le (least t) (least u)) (and_left (is_numeric t && is_numeric u && int_le (least t) (least u)) (int_le (above u) (above t)) g))

-- the common type of two holds the second as well
first_holds_both : (a b t : Ty) (ts : List Ty) → first_that_holds a b ts ≡ Some t → holds_all t b ≡ true
first_holds_both a b t [] e = absurd (cc)
first_holds_both a b t (u ∷ ts) e = go (holds_all u a && holds_all u b) refl e (first_holds_both a b t ts)
  where
    go : (z : Bool) → (holds_all u a && holds_all u b) ≡ z → (if z then Some u else first_that_holds a b ts) ≡ Some t → (first_that_holds a b ts ≡ Some t → holds_all t b ≡ true) → holds_all t b ≡ true
    go true h f rest = subst (λ (x : Ty). holds_all x b ≡ true) (one_type u t f) (and_right (holds_all u a) (holds_all u b) h)
    go false h f rest = rest f

common_holds_second : (a b t : Ty) → common a b ≡ Some t → holds_all t b ≡ true
common_holds_second a b t e = go (holds_all a b) (holds_all b a) refl refl e
  where
    go : (x y : Bool) → holds_all a b ≡ x → holds_all b a ≡ y → (if x then Some a else (if y then Some b else first_that_holds a b (ty.S8 ∷ ty.S16 ∷ ty.S32 ∷ ty.S64 ∷ []))) ≡ Some t → holds_all t b ≡ true
    go true y h g f = subst (λ (u : Ty). holds_all u b ≡ true) (one_type a t f) h
    go false true h g f = subst (λ (u : Ty). holds_all u b ≡ true) (one_type b t f) (holds_itself b)
    go false false h g f = first_holds_both a b t (ty.S8 ∷ ty.S16 ∷ ty.S32 ∷ ty.S64 ∷ []) f

-- ---- two numbers that meet have a common type

pub record Common (a b : Ty) : Type 0 where
  pub type : Ty
  pub is : common a b ≡ Some type
  pub left : holds_all type a ≡ true
  pub right : holds_all type b ≡ true
  pub numeric : is_numeric type ≡ true

meeting : (p q : Bool) (a b : Ty) → meets p q a b ≡ true → Common a b
meeting p q a b h =
    let both = and_left (is_numeric a && is_numeric b) (if p || q then same_ty a b else is_some_ty (common a b)) h in
    let numeric = and_left (is_numeric a) (is_numeric b) both in
    let test = and_right (is_numeric a && is_numeric b) (if p || q then same_ty a b else is_some_ty (common a b)) h in
    some (common a b) refl (is_some (p || q) test) numeric
  where
    same_common : same_ty a b ≡ true → is_some_ty (common a b) ≡ true
    same_common e = ap (λ (x : Bool). is_some_ty (if (x || (is_numeric a && is_numeric b && int_le (least a) (least b) && int_le (above b) (above a))) then Some a else (if holds_all b a then Some b else first_that_holds a b (ty.S8 ∷ ty.S16 ∷ ty.S32 ∷ ty.S64 ∷ [])))) e

    is_some : (z : Bool) → (if z then same_ty a b else is_some_ty (common a b)) ≡ true → is_some_ty (common a b) ≡ true
    is_some true e = same_common e
    is_some false e = e

    some : (o : Option Ty) → common a b ≡ o → is_some_ty (common a b) ≡ true → is_numeric a ≡ true → Common a b
    some None e f n = absurd (let z : is_some_ty None ≡ true = subst (λ (x : Option Ty). is_some_ty x ≡ true) e f in cc)
    some (Some t) e f n = record { type = t; is = e; left = common_holds a b t e; right = common_holds_second a b t e; numeric = held_numeric t a (common_holds a b t e) n }

-- ---- what the machine asks of a type

pub record Works (op : Op2) (t a b u : Ty) : Type 0 where
  pub some_type : u ≢ ty.None
  pub right_some : right_type op u ≢ ty.None
  pub takes : takes2 op u ≡ true
  pub left_value : (v : ℤ) → IsValue a v → IsValue u v
  pub right_value : (v : ℤ) → IsValue b v → IsValue (right_type op u) v
  pub same_result : (v w : ℤ) → applied2 op u v w ≡ applied2 op t v w

-- of comparisons
compared : (op : Op2) (t a b u : Ty) → is_test op ≡ true → common a b ≡ Some u → operator_ty op t a b ≡ u
compared op t a b u e f = ap (λ (x : Bool). if x then common_or (common a b) t else t) e ∙ ap (λ (o : Option Ty). common_or o t) f

amount_value : (b : Ty) (v : ℤ) → is_amount b ≡ true → IsValue b v → IsValue ty.S64 v
amount_value ty.None v h x = absurd (cc)
amount_value ty.Bool v h x = absurd (cc)
amount_value ty.U64 v h x = absurd (cc)
amount_value ty.U8 v h x = held_value ty.S64 ty.U8 v refl x
amount_value ty.S8 v h x = held_value ty.S64 ty.S8 v refl x
amount_value ty.U16 v h x = held_value ty.S64 ty.U16 v refl x
amount_value ty.S16 v h x = held_value ty.S64 ty.S16 v refl x
amount_value ty.U32 v h x = held_value ty.S64 ty.U32 v refl x
amount_value ty.S32 v h x = held_value ty.S64 ty.S32 v refl x
amount_value ty.S64 v h x = x

-- of two numbers that meet
module _ (op : Op2) (p q : Bool) (t a b : Ty) where
  -- comparisons work in the common type, and their results don't tell of it
  by_meeting : is_test op ≡ true → ((u : Ty) → is_numeric u ≡ true → takes2 op u ≡ true) → right_type op ≡ (λ u. u) → ((u : Ty) (v w : ℤ) → applied2 op u v w ≡ applied2 op t v w) → meets p q a b ≡ true → Works op t a b (operator_ty op t a b)
  by_meeting e takes right same h =
      let c = meeting p q a b h in
      let is : operator_ty op t a b ≡ c.type = compared op t a b c.type e c.is in
      let at : (u : Ty) → right_type op u ≡ u = λ u. ap (λ (f : Ty → Ty). f u) right in
      subst (Works op t a b) (sym is) (record {
        some_type = numeric_some c.type c.numeric;
        right_some = subst (λ (u : Ty). u ≢ ty.None) (sym (at c.type)) (numeric_some c.type c.numeric);
        takes = takes c.type c.numeric;
        left_value = λ v x. held_value c.type a v c.left x;
        right_value = λ v x. subst (λ (u : Ty). IsValue u v) (sym (at c.type)) (held_value c.type b v c.right x);
        same_result = λ v w. same c.type v w;
      })

  -- and arithmetic in that of the result
  by_joining : is_test op ≡ false → ((u : Ty) → is_numeric u ≡ true → takes2 op u ≡ true) → right_type op ≡ (λ u. u) → joined_ty p q t a b ≡ true → Works op t a b (operator_ty op t a b)
  by_joining e takes right h =
      let c = meeting p q a b (and_left (meets p q a b) (some_ty (common a b) t) h) in
      let same : c.type ≡ t = some_type (common a b) c.type c.is (and_right (meets p q a b) (some_ty (common a b) t) h) in
      let is : operator_ty op t a b ≡ c.type = ap (λ (x : Bool). if x then common_or (common a b) t else t) e ∙ sym same in
      let at : (u : Ty) → right_type op u ≡ u = λ u. ap (λ (f : Ty → Ty). f u) right in
      subst (Works op t a b) (sym is) (record {
        some_type = numeric_some c.type c.numeric;
        right_some = subst (λ (u : Ty). u ≢ ty.None) (sym (at c.type)) (numeric_some c.type c.numeric);
        takes = takes c.type c.numeric;
        left_value = λ v x. held_value c.type a v c.left x;
        right_value = λ v x. subst (λ (u : Ty). IsValue u v) (sym (at c.type)) (held_value c.type b v c.right x);
        same_result = λ v w. ap (λ (u : Ty). applied2 op u v w) same;
      })
    where
      some_type : (o : Option Ty) (u : Ty) → o ≡ Some u → some_ty o t ≡ true → u ≡ t
      some_type None u e h = absurd (cc)
      some_type (Some x) u e h = sym (one_type x u e) ∙ same_is x t h

  -- and shifts in that of the left operand
  by_shift : operator_ty op t a b ≡ t → right_type op t ≡ ty.S64 → ((u : Ty) → is_numeric u ≡ true → takes2 op u ≡ true) → (is_numeric a && same_ty t a && is_amount b && (not q || same_ty b ty.S32)) ≡ true → Works op t a b (operator_ty op t a b)
  by_shift is right takes h =
      let three = and_left (is_numeric a && same_ty t a && is_amount b) (not q || same_ty b ty.S32) h in
      let two = and_left (is_numeric a && same_ty t a) (is_amount b) three in
      let amount = and_right (is_numeric a && same_ty t a) (is_amount b) three in
      let numeric = and_left (is_numeric a) (same_ty t a) two in
      let same = same_is t a (and_right (is_numeric a) (same_ty t a) two) in
      let number : is_numeric t ≡ true = subst (λ (u : Ty). is_numeric u ≡ true) (sym same) numeric in
      subst (Works op t a b) (sym is) (record {
        some_type = numeric_some t number;
        right_some = subst (λ (u : Ty). u ≢ ty.None) (sym right) (numeric_some ty.S64 refl);
        takes = takes t number;
        left_value = λ v x. subst (λ (u : Ty). IsValue u v) (sym same) x;
        right_value = λ v x. subst (λ (u : Ty). IsValue u v) (sym right) (amount_value b v amount x);
        same_result = λ v w. refl;
      })

-- equality of truth values
equal_bools : (op : Op2) (t a b : Ty) → is_test op ≡ true → takes2 op ty.Bool ≡ true → right_type op ty.Bool ≡ ty.Bool → ((u : Ty) (v w : ℤ) → applied2 op u v w ≡ applied2 op t v w) → a ≡ ty.Bool → b ≡ ty.Bool → Works op t a b (operator_ty op t a b)
equal_bools op t a b e takes right same f g =
    let both : common a b ≡ Some ty.Bool = ap (λ (u : Ty). common u b) f ∙ ap (common ty.Bool) g in
    subst (Works op t a b) (sym (compared op t a b ty.Bool e both)) (record {
      some_type = bool_some ty.Bool refl;
      right_some = subst (λ (u : Ty). u ≢ ty.None) (sym right) (bool_some ty.Bool refl);
      takes = takes;
      left_value = λ v x. subst (λ (u : Ty). IsValue u v) f x;
      right_value = λ v x. subst (λ (u : Ty). IsValue u v) (sym right) (subst (λ (u : Ty). IsValue u v) g x);
      same_result = λ v w. same ty.Bool v w;
    })

numeric_or : (op : Op2) (u : Ty) → is_numeric u ≡ true → (is_bool u || is_numeric u) ≡ true
numeric_or op ty.Bool h = refl
numeric_or op ty.None h = absurd (cc)
numeric_or op ty.U8 h = refl
numeric_or op ty.S8 h = refl
numeric_or op ty.U16 h = refl
numeric_or op ty.S16 h = refl
numeric_or op ty.U32 h = refl
numeric_or op ty.S32 h = refl
numeric_or op ty.U64 h = refl
numeric_or op ty.S64 h = refl

either : (x y : Bool) → (x || y) ≡ true → (x ≡ true) ⊎ (y ≡ true)
either true y h = inl refl
either false y h = inr h

equality : (op : Op2) (p q : Bool) (t a b : Ty) → is_test op ≡ true → takes2 op ty.Bool ≡ true → right_type op ≡ (λ u. u) → ((u : Ty) → is_numeric u ≡ true → takes2 op u ≡ true) → ((u : Ty) (v w : ℤ) → applied2 op u v w ≡ applied2 op t v w)
    → (is_bool t && ((is_bool a && is_bool b) || meets p q a b)) ≡ true → Works op t a b (operator_ty op t a b)
equality op p q t a b e bools right takes same h = elim (either (is_bool a && is_bool b) (meets p q a b) (and_right (is_bool t) ((is_bool a && is_bool b) || meets p q a b) h)) [
  | inl x ↦ equal_bools op t a b e bools (ap (λ (f : Ty → Ty). f ty.Bool) right) same (bool_is a (and_left (is_bool a) (is_bool b) x)) (bool_is b (and_right (is_bool a) (is_bool b) x))
  | inr x ↦ by_meeting op p q t a b e takes right same x
]

pub works : (op : Op2) (p q : Bool) (t a b : Ty) → fits2 op p q t a b ≡ true → (op ≡ op2.And → ⊥) → (op ≡ op2.Or → ⊥) → Works op t a b (operator_ty op t a b)
works op2.And p q t a b h n m = absurd (n refl)
works op2.Or p q t a b h n m = absurd (m refl)
works op2.Eq p q t a b h n m = equality op2.Eq p q t a b refl refl refl (λ u x. numeric_or op2.Eq u x) (λ u v w. refl) h
works op2.Ne p q t a b h n m = equality op2.Ne p q t a b refl refl refl (λ u x. numeric_or op2.Ne u x) (λ u v w. refl) h
works op2.Lt p q t a b h n m = by_meeting op2.Lt p q t a b refl (λ u x. x) refl (λ u v w. refl) (and_right (is_bool t) (meets p q a b) h)
works op2.Gt p q t a b h n m = by_meeting op2.Gt p q t a b refl (λ u x. x) refl (λ u v w. refl) (and_right (is_bool t) (meets p q a b) h)
works op2.Le p q t a b h n m = by_meeting op2.Le p q t a b refl (λ u x. x) refl (λ u v w. refl) (and_right (is_bool t) (meets p q a b) h)
works op2.Ge p q t a b h n m = by_meeting op2.Ge p q t a b refl (λ u x. x) refl (λ u v w. refl) (and_right (is_bool t) (meets p q a b) h)
works op2.BitOr p q t a b h n m = by_joining op2.BitOr p q t a b refl (λ u x. x) refl h
works op2.BitXor p q t a b h n m = by_joining op2.BitXor p q t a b refl (λ u x. x) refl h
works op2.BitAnd p q t a b h n m = by_joining op2.BitAnd p q t a b refl (λ u x. x) refl h
works op2.Shl p q t a b h n m = by_shift op2.Shl p q t a b refl refl (λ u x. x) h
works op2.Shr p q t a b h n m = by_shift op2.Shr p q t a b refl refl (λ u x. x) h
works op2.Add p q t a b h n m = by_joining op2.Add p q t a b refl (λ u x. x) refl h
works op2.Sub p q t a b h n m = by_joining op2.Sub p q t a b refl (λ u x. x) refl h
works op2.Mul p q t a b h n m = by_joining op2.Mul p q t a b refl (λ u x. x) refl h
works op2.Div p q t a b h n m = by_joining op2.Div p q t a b refl (λ u x. x) refl h
works op2.Rem p q t a b h n m = by_joining op2.Rem p q t a b refl (λ u x. x) refl h

-- a prefix operator works in the type of its operand, which is that of its result
pub record Works1 (op : Op1) (t a : Ty) : Type 0 where
  pub some_type : t ≢ ty.None
  pub same : t ≡ a
  pub takes : takes1 op t ≡ true

numbers1 : (op : Op1) (t a : Ty) → ((u : Ty) → is_numeric u ≡ true → takes1 op u ≡ true) → (is_numeric a && same_ty t a) ≡ true → Works1 op t a
numbers1 op t a takes h =
    let same = same_is t a (and_right (is_numeric a) (same_ty t a) h) in
    let number : is_numeric t ≡ true = subst (λ (u : Ty). is_numeric u ≡ true) (sym same) (and_left (is_numeric a) (same_ty t a) h) in
    record { some_type = numeric_some t number; same = same; takes = takes t number }

pub works1 : (op : Op1) (t a : Ty) → fits1 op t a ≡ true → Works1 op t a
works1 op1.Not t a h =
    let to = bool_is t (and_right (is_bool a) (is_bool t) h) in
    record { some_type = bool_some t to; same = to ∙ sym (bool_is a (and_left (is_bool a) (is_bool t) h)); takes = and_right (is_bool a) (is_bool t) h }
works1 op1.Neg t a h = numbers1 op1.Neg t a (λ u x. x) h
works1 op1.Compl t a h = numbers1 op1.Compl t a (λ u x. x) h
