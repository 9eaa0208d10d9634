-- The order of the rules on types.
use Rattle.std.specs.Prelude.{ℕ, nat_lt, Option, Some, None, if◌then◌else◌}
use Rattle.ceu_base.specs.declared.kinds.Rule.{Rule}
use Rattle.ceu_base.specs.declared.kinds.Rule.TheVariants.{T1, T2, T3, T4, T5, T6, T7}

-- the place of a rule among the rules on types
abbrev pub rank : Rule → ℕ
rank T1 = 1
rank T2 = 2
rank T3 = 3
rank T4 = 4
rank T5 = 5
rank T6 = 6
rank T7 = 7
rank _ = 0

abbrev pub lower : Option Rule → Rule → Rule
lower None r = r
lower (Some q) r = if nat_lt (rank r) (rank q) then r else q
