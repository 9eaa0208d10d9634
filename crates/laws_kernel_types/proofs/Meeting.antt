-- Types that meet for the rules on a text's types meet for those on a kernel's.
use Rattle.std.proofs.Common.{◌≡◌, refl, subst, Option, Some, None, Bool, true, false}
use Rattle.std.specs.Prelude.{◌&&◌, ◌||◌, not, if◌then◌else◌}
use Rattle.ceu_base.specs.declared.kinds.Ty.{Ty}
use Rattle.ceu_base.specs.declared.kinds.Ty.TheVariants as ty
use Rattle.ceu_base.specs.declared.kinds.Op2.{Op2}
use Rattle.ceu_base.specs.declared.kinds.Op2.TheVariants as op2
use Rattle.ceu_base.specs.Values.{is_numeric, is_bool, is_shift}
use Rattle.ceu_types.specs.Typing as types
use Rattle.ceu_types.specs.Typing.{holds, holds_range, common, open_type, if_bools, compared, result2, is_none_type, is_arithmetic2}
use Rattle.ceu_tree.specs.Typing as kernel
use Rattle.ceu_tree.specs.Typing.{same_ty, holds_all, meets, joined_ty, fits2}

-- ---- tests

abbrev pub implies : Bool → Bool → Bool
implies a b = not a || b

pub implied : (a b : Bool) → implies a b ≡ true → a ≡ true → b ≡ true
implied true b h e = h
implied false b h e = absurd (cc)

pub and_left : (a b : Bool) → (a && b) ≡ true → a ≡ true
and_left true b h = refl
and_left false b h = absurd (cc)

pub and_right : (a b : Bool) → (a && b) ≡ true → b ≡ true
and_right true b h = h
and_right false b h = absurd (cc)

pub both_hold : (a b : Bool) → a ≡ true → b ≡ true → (a && b) ≡ true
both_hold true b h k = k
both_hold false b h k = absurd (cc)

pub or_first : (a b : Bool) → a ≡ true → (a || b) ≡ true
or_first true b h = refl
or_first false b h = absurd (cc)

pub or_second : (a b : Bool) → b ≡ true → (a || b) ≡ true
or_second true b h = refl
or_second false b h = h

-- a test of a type, where there is one
abbrev pub check : Option Ty → (Ty → Bool) → Bool
check None f = true
check (Some r) f = f r

pub checked : (o : Option Ty) (f : Ty → Bool) (r : Ty) → check o f ≡ true → o ≡ Some r → f r ≡ true
checked None f r h e = absurd (cc)
checked (Some q) f r h e = let same : q ≡ r = cc in subst (λ x. f x ≡ true) same h

-- ---- single types

pub same_self : (u : Ty) → same_ty u u ≡ true
same_self ty.None = refl
same_self _ = refl

pub open_numeric : (u : Ty) → is_numeric (open_type u) ≡ true
unfolding open_type
open_numeric ty.None = refl
open_numeric _ = refl

pub not_none : (u : Ty) → implies (not (is_none_type u)) (not (same_ty u ty.None)) ≡ true
not_none ty.None = refl
not_none _ = refl

pub is_none : (u : Ty) → implies (is_none_type u) (same_ty u ty.None) ≡ true
is_none ty.None = refl
is_none _ = refl

pub numeric_some : (u : Ty) → implies (is_numeric u) (not (same_ty u ty.None)) ≡ true
numeric_some ty.None = refl
numeric_some _ = refl

pub amounts : (u : Ty) → implies (types.is_amount u) (kernel.is_amount u) ≡ true
unfolding types.is_amount
amounts ty.None = refl
amounts _ = refl

pub bool_is : (u : Ty) → implies (is_bool u) (same_ty u ty.Bool) ≡ true
bool_is ty.None = refl
bool_is _ = refl

pub held : (t u : Ty) → implies (holds t u) (holds_all t u) ≡ true
unfolding holds holds_range
held ty.None ty.None = refl
held ty.Bool ty.None = refl
held ty.U8 ty.None = refl
held ty.S8 ty.None = refl
held ty.U16 ty.None = refl
held ty.S16 ty.None = refl
held ty.U32 ty.None = refl
held ty.S32 ty.None = refl
held ty.U64 ty.None = refl
held ty.S64 ty.None = refl
held _ _ = refl

pub held_some : (t u : Ty) → implies (holds t u && not (is_none_type u)) (not (same_ty t ty.None)) ≡ true
unfolding holds holds_range
held_some ty.None ty.None = refl
held_some ty.Bool ty.None = refl
held_some ty.U8 ty.None = refl
held_some ty.S8 ty.None = refl
held_some ty.U16 ty.None = refl
held_some ty.S16 ty.None = refl
held_some ty.U32 ty.None = refl
held_some ty.S32 ty.None = refl
held_some ty.U64 ty.None = refl
held_some ty.S64 ty.None = refl
held_some _ _ = refl

-- ---- two operands that aren't open

closed_logic : (t u : Ty) → check (if_bools t u) (λ r. is_bool r && is_bool t && is_bool u) ≡ true
unfolding common holds holds_range
closed_logic ty.None ty.None = refl
closed_logic ty.Bool ty.None = refl
closed_logic ty.U8 ty.None = refl
closed_logic ty.S8 ty.None = refl
closed_logic ty.U16 ty.None = refl
closed_logic ty.S16 ty.None = refl
closed_logic ty.U32 ty.None = refl
closed_logic ty.S32 ty.None = refl
closed_logic ty.U64 ty.None = refl
closed_logic ty.S64 ty.None = refl
closed_logic _ _ = refl

closed_equal : (t u : Ty) → check (if is_bool t && is_bool u then Some ty.Bool else compared (common t u)) (λ r. is_bool r && ((is_bool t && is_bool u) || meets false false t u)) ≡ true
unfolding common holds holds_range
closed_equal ty.None ty.None = refl
closed_equal ty.Bool ty.None = refl
closed_equal ty.U8 ty.None = refl
closed_equal ty.S8 ty.None = refl
closed_equal ty.U16 ty.None = refl
closed_equal ty.S16 ty.None = refl
closed_equal ty.U32 ty.None = refl
closed_equal ty.S32 ty.None = refl
closed_equal ty.U64 ty.None = refl
closed_equal ty.S64 ty.None = refl
closed_equal _ _ = refl

closed_order : (t u : Ty) → check (compared (common t u)) (λ r. is_bool r && meets false false t u) ≡ true
unfolding common holds holds_range
closed_order ty.None ty.None = refl
closed_order ty.Bool ty.None = refl
closed_order ty.U8 ty.None = refl
closed_order ty.S8 ty.None = refl
closed_order ty.U16 ty.None = refl
closed_order ty.S16 ty.None = refl
closed_order ty.U32 ty.None = refl
closed_order ty.S32 ty.None = refl
closed_order ty.U64 ty.None = refl
closed_order ty.S64 ty.None = refl
closed_order _ _ = refl

closed_arith : (t u : Ty) → check (common t u) (λ r. joined_ty false false r t u) ≡ true
unfolding common holds holds_range
closed_arith ty.None ty.None = refl
closed_arith ty.Bool ty.None = refl
closed_arith ty.U8 ty.None = refl
closed_arith ty.S8 ty.None = refl
closed_arith ty.U16 ty.None = refl
closed_arith ty.S16 ty.None = refl
closed_arith ty.U32 ty.None = refl
closed_arith ty.S32 ty.None = refl
closed_arith ty.U64 ty.None = refl
closed_arith ty.S64 ty.None = refl
closed_arith _ _ = refl

-- ---- an open operand beside another: the left one

left_logic : (u : Ty) → check (if_bools (open_type u) (u)) (λ r. is_bool r && is_bool (open_type u) && is_bool (u)) ≡ true
unfolding common holds holds_range open_type
left_logic ty.None = refl
left_logic _ = refl

left_equal : (u : Ty) → check (if is_bool (open_type u) && is_bool (u) then Some ty.Bool else compared (common (open_type u) (u))) (λ r. is_bool r && ((is_bool (open_type u) && is_bool (u)) || meets true false (open_type u) (u))) ≡ true
unfolding common holds holds_range open_type
left_equal ty.None = refl
left_equal _ = refl

left_order : (u : Ty) → check (compared (common (open_type u) (u))) (λ r. is_bool r && meets true false (open_type u) (u)) ≡ true
unfolding common holds holds_range open_type
left_order ty.None = refl
left_order _ = refl

left_arith : (u : Ty) → check (common (open_type u) (u)) (λ r. joined_ty true false r (open_type u) (u)) ≡ true
unfolding common holds holds_range open_type
left_arith ty.None = refl
left_arith _ = refl

-- ---- an open operand beside another: the right one

right_logic : (u : Ty) → check (if_bools (u) (open_type u)) (λ r. is_bool r && is_bool (u) && is_bool (open_type u)) ≡ true
unfolding common holds holds_range open_type
right_logic ty.None = refl
right_logic _ = refl

right_equal : (u : Ty) → check (if is_bool (u) && is_bool (open_type u) then Some ty.Bool else compared (common (u) (open_type u))) (λ r. is_bool r && ((is_bool (u) && is_bool (open_type u)) || meets false true (u) (open_type u))) ≡ true
unfolding common holds holds_range open_type
right_equal ty.None = refl
right_equal _ = refl

right_order : (u : Ty) → check (compared (common (u) (open_type u))) (λ r. is_bool r && meets false true (u) (open_type u)) ≡ true
unfolding common holds holds_range open_type
right_order ty.None = refl
right_order _ = refl

right_arith : (u : Ty) → check (common (u) (open_type u)) (λ r. joined_ty false true r (u) (open_type u)) ≡ true
unfolding common holds holds_range open_type
right_arith ty.None = refl
right_arith _ = refl

-- ---- open operands

open_arith : (u : Ty) → joined_ty true true (open_type u) (open_type u) (open_type u) ≡ true
unfolding open_type
open_arith ty.None = refl
open_arith _ = refl

-- ---- by operators

pub closed_fits : (op : Op2) → is_shift op ≡ false → (t u : Ty) → check (result2 op t u) (λ r. fits2 op false false r t u) ≡ true
unfolding result2
closed_fits op2.Or h t u = closed_logic t u
closed_fits op2.And h t u = closed_logic t u
closed_fits op2.Eq h t u = closed_equal t u
closed_fits op2.Ne h t u = closed_equal t u
closed_fits op2.Lt h t u = closed_order t u
closed_fits op2.Gt h t u = closed_order t u
closed_fits op2.Le h t u = closed_order t u
closed_fits op2.Ge h t u = closed_order t u
closed_fits op2.Shl h t u = absurd (cc)
closed_fits op2.Shr h t u = absurd (cc)
closed_fits _ h t u = closed_arith t u

pub left_fits : (op : Op2) → is_shift op ≡ false → (u : Ty) → check (result2 op (open_type u) (u)) (λ r. fits2 op true false r (open_type u) (u)) ≡ true
unfolding result2
left_fits op2.Or h u = left_logic u
left_fits op2.And h u = left_logic u
left_fits op2.Eq h u = left_equal u
left_fits op2.Ne h u = left_equal u
left_fits op2.Lt h u = left_order u
left_fits op2.Gt h u = left_order u
left_fits op2.Le h u = left_order u
left_fits op2.Ge h u = left_order u
left_fits op2.Shl h u = absurd (cc)
left_fits op2.Shr h u = absurd (cc)
left_fits _ h u = left_arith u

pub right_fits : (op : Op2) → is_shift op ≡ false → (u : Ty) → check (result2 op (u) (open_type u)) (λ r. fits2 op false true r (u) (open_type u)) ≡ true
unfolding result2
right_fits op2.Or h u = right_logic u
right_fits op2.And h u = right_logic u
right_fits op2.Eq h u = right_equal u
right_fits op2.Ne h u = right_equal u
right_fits op2.Lt h u = right_order u
right_fits op2.Gt h u = right_order u
right_fits op2.Le h u = right_order u
right_fits op2.Ge h u = right_order u
right_fits op2.Shl h u = absurd (cc)
right_fits op2.Shr h u = absurd (cc)
right_fits _ h u = right_arith u

-- both open, by themselves integers: a test of two integers, or the type that is wanted
abbrev pub open_result : Op2 → Ty → Ty → Ty
open_result op w r = if is_arithmetic2 op then open_type w else r

abbrev pub open_operand : Op2 → Ty → Ty
open_operand op w = open_type (if is_arithmetic2 op then w else ty.S32)

pub open_fits : (op : Op2) → is_shift op ≡ false → (w : Ty) → check (result2 op ty.S32 ty.S32) (λ r. fits2 op true true (open_result op w r) (open_operand op w) (open_operand op w)) ≡ true
unfolding result2 common holds holds_range open_type
open_fits op2.Or h w = refl
open_fits op2.And h w = refl
open_fits op2.Eq h w = refl
open_fits op2.Ne h w = refl
open_fits op2.Lt h w = refl
open_fits op2.Gt h w = refl
open_fits op2.Le h w = refl
open_fits op2.Ge h w = refl
open_fits op2.Shl h w = absurd (cc)
open_fits op2.Shr h w = absurd (cc)
open_fits _ h w = open_arith w

pub open_int : (op : Op2) → check (if is_arithmetic2 op then result2 op ty.S32 ty.S32 else None) (λ r. same_ty r ty.S32) ≡ true
unfolding result2 common holds holds_range types.is_amount
open_int op2.Or = refl
open_int _ = refl
