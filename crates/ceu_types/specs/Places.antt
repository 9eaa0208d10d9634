-- Broken rules with their places.
use Rattle.std.specs.Prelude.{Option, Some, None}
use Rattle.ceu_base.specs.declared.kinds.Pos.{Pos}
use Rattle.ceu_base.specs.declared.kinds.Rule.{Rule}
use Rattle.ceu_types.specs.declared.found.Broken.{Broken}

-- what stands earlier counts
abbrev pub first : Option Broken → Option Broken → Option Broken
first (Some b) later = Some b
first None later = later

abbrev pub at_place : Pos → Option Rule → Option Broken
at_place p None = None
at_place p (Some r) = Some (record { rule = r; pos = p })
