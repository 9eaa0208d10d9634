-- The lines of refusals.
use Rattle.std.specs.Prelude.{List, ℕ, ◌++◌, codes}
use Rattle.std.specs.Fmt.{decimal}
use Rattle.ceu_base.specs.declared.kinds.Pos.{Pos}
use Rattle.ceu_base.specs.declared.kinds.Rule.{Rule}
use Rattle.ceu_base.specs.declared.kinds.Rule.TheVariants.{L1, L2, L3, L4, L5, G1, G2, G3, N1, N2, N3, N4, N5, N6, N7, T1, T2, T3, T4, T5, T6, T7, B0, B1, B2, B3, B4, Z1, Z2, Z3}

abbrev pub rule_name : Rule → List ℕ
rule_name L1 = codes "L1"
rule_name L2 = codes "L2"
rule_name L3 = codes "L3"
rule_name L4 = codes "L4"
rule_name L5 = codes "L5"
rule_name G1 = codes "G1"
rule_name G2 = codes "G2"
rule_name G3 = codes "G3"
rule_name N1 = codes "N1"
rule_name N2 = codes "N2"
rule_name N3 = codes "N3"
rule_name N4 = codes "N4"
rule_name N5 = codes "N5"
rule_name N6 = codes "N6"
rule_name N7 = codes "N7"
rule_name T1 = codes "T1"
rule_name T2 = codes "T2"
rule_name T3 = codes "T3"
rule_name T4 = codes "T4"
rule_name T5 = codes "T5"
rule_name T6 = codes "T6"
rule_name T7 = codes "T7"
rule_name B0 = codes "B0"
rule_name B1 = codes "B1"
rule_name B2 = codes "B2"
rule_name B3 = codes "B3"
rule_name B4 = codes "B4"
rule_name Z1 = codes "Z1"
rule_name Z2 = codes "Z2"
rule_name Z3 = codes "Z3"

abbrev pub refusal_line : Rule → Pos → List ℕ
refusal_line rule place = codes "refused " ++ rule_name rule ++ codes " " ++ decimal place.line ++ codes ":" ++ decimal place.col ++ codes "\n"

-- Bytes that are no image, behind their longest beginning of one.
abbrev pub no_image_line : ℕ → List ℕ
no_image_line k = codes "refused I1 " ++ decimal k ++ codes "\n"
