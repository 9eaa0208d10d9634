-- Which types meet, and what an operator gives for the types of its operands.
use Rattle.std.specs.Prelude.{Bool, true, false, not, ◌&&◌, ◌||◌, if◌then◌else◌, nat_lt, int_le, [], ◌∷◌, find, Option, Some, None, unwrap_or, option_map}
use Rattle.ceu_base.specs.declared.kinds.Ty.{Ty}
use Rattle.ceu_base.specs.declared.kinds.Ty.TheVariants as ty
use Rattle.ceu_base.specs.declared.kinds.Op1.{Op1}
use Rattle.ceu_base.specs.declared.kinds.Op1.TheVariants.{Not}
use Rattle.ceu_base.specs.declared.kinds.Op2.{Op2}
use Rattle.ceu_base.specs.declared.kinds.Op2.TheVariants.{Or, And, Eq, Ne, Lt, Gt, Le, Ge}
use Rattle.ceu_base.specs.Values.{least, above, width, is_signed, is_numeric, is_bool, is_shift, takes1}

abbrev pub is_none_type : Ty → Bool
is_none_type ty.None = true
is_none_type _ = false

-- whether the first type's range holds the second's
unfoldable pub holds_range : Ty → Ty → Bool
holds_range t u = int_le (least t) (least u) && int_le (above u) (above t)

-- whether the first type holds every value of the second; a truth value is no number
unfoldable pub holds : Ty → Ty → Bool
holds ty.None u = is_none_type u
holds ty.Bool u = is_bool u
holds t u = is_numeric u && holds_range t u

abbrev pub wider : Ty → Ty → Ty
wider t u = if nat_lt (width t) (width u) then u else t

abbrev pub alike_signed : Ty → Ty → Bool
alike_signed t u = if is_signed t then is_signed u else not (is_signed u)

-- the smallest signed type that holds both
abbrev pub smallest_signed : Ty → Ty → Option Ty
smallest_signed t u = find (λ x. holds x t && holds x u) (ty.S8 ∷ ty.S16 ∷ ty.S32 ∷ ty.S64 ∷ [])

-- the type that two numbers take together
unfoldable pub common : Ty → Ty → Option Ty
common t u =
    if is_numeric t && is_numeric u
    then (if alike_signed t u then Some (wider t u) else smallest_signed t u)
    else None

-- the types of a shift's amount and of a time
unfoldable pub is_amount : Ty → Bool
is_amount ty.U64 = false
is_amount t = is_numeric t

-- the type that an open expression takes where this one is wanted
unfoldable pub open_type : Ty → Ty
open_type t = if is_numeric t then t else ty.S32

abbrev pub wanted_or_int : Option Ty → Ty
wanted_or_int t = unwrap_or t ty.S32

-- the operators that an open expression may have
abbrev pub is_arithmetic1 : Op1 → Bool
is_arithmetic1 Not = false
is_arithmetic1 _ = true

abbrev pub is_logical : Op2 → Bool
is_logical Or = true
is_logical And = true
is_logical _ = false

abbrev pub is_equality : Op2 → Bool
is_equality Eq = true
is_equality Ne = true
is_equality _ = false

abbrev pub is_order : Op2 → Bool
is_order Lt = true
is_order Gt = true
is_order Le = true
is_order Ge = true
is_order _ = false

abbrev pub is_arithmetic2 : Op2 → Bool
is_arithmetic2 op = not (is_logical op || (is_equality op || is_order op))

-- a comparison gives a truth value where its operands have a common type
abbrev pub compared : Option Ty → Option Ty
compared t = option_map (λ u. ty.Bool) t

abbrev pub if_bools : Ty → Ty → Option Ty
if_bools t u = if is_bool t && is_bool u then Some ty.Bool else None

-- the type of the result for operands of these types, or none where they don't meet
unfoldable pub result1 : Op1 → Ty → Option Ty
result1 op t = if takes1 op t then Some t else None

unfoldable pub result2 : Op2 → Ty → Ty → Option Ty
result2 op t u =
    if is_shift op then (if is_numeric t && is_amount u then Some t else None)
    else if is_logical op then if_bools t u
    else if is_equality op then (if is_bool t && is_bool u then Some ty.Bool else compared (common t u))
    else if is_order op then compared (common t u)
    else common t u
