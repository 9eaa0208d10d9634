-- Ranges by widths.
use Rattle.std.proofs.Common.{◌≡◌, refl, Bool, not, ◌&&◌, if◌then◌else◌, nat_lt, nat_le}
use Rattle.ceu_base.specs.declared.kinds.Ty.{Ty}
use Rattle.ceu_base.specs.declared.kinds.Ty.TheVariants as ty
use Rattle.ceu_base.specs.Values.{width, is_signed}
use Rattle.ceu_types.specs.Typing.{holds_range}

abbrev pub by_width : Ty → Ty → Bool
by_width t u = if is_signed t then (if is_signed u then nat_le (width u) (width t) else nat_lt (width u) (width t)) else (not (is_signed u) && nat_le (width u) (width t))

pub holds_by_width : (t u : Ty) → holds_range t u ≡ by_width t u
unfolding holds_range
holds_by_width ty.None ty.None = refl
holds_by_width ty.Bool ty.None = refl
holds_by_width ty.U8 ty.None = refl
holds_by_width ty.S8 ty.None = refl
holds_by_width ty.U16 ty.None = refl
holds_by_width ty.S16 ty.None = refl
holds_by_width ty.U32 ty.None = refl
holds_by_width ty.S32 ty.None = refl
holds_by_width ty.U64 ty.None = refl
holds_by_width ty.S64 ty.None = refl
holds_by_width _ _ = refl

pub ruleset widths = (holds_by_width)
