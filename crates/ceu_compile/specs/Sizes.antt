-- The limits on a program's sizes, in their order: bytes of memory, gates, weight (this project's own).
use Rattle.std.specs.Prelude.{◌≡◌, ℕ, nat_lt, false, Option, Some, None, if◌then◌else◌}
use Rattle.ceu_base.specs.declared.kinds.Rule.{Rule}
use Rattle.ceu_base.specs.declared.kinds.Rule.TheVariants.{Z1, Z2, Z3}
use Rattle.ceu_tree.specs.Needs.{memory, gates}
use Rattle.ceu_tree.specs.Weight.{weight}
use Rattle.ceu_tree.specs.declared.kernel.Kernel.{Kernel}
use Rattle.ceu_compile.specs.declared.sizes.Size.{Size}
use Rattle.ceu_compile.specs.declared.sizes.Size.TheVariants.{Memory, Over}

-- the first limit that these sizes are over
abbrev pub over : (memory gates weight : ℕ) → Option Rule
over m g w = if nat_lt 65535 m then Some Z1 else (if nat_lt 3000 g then Some Z2 else (if nat_lt 65535 w then Some Z3 else None))

-- the first limit that a program is over; its slots are laid out so that statements of a list, and parts of an `if`, share their bytes
abbrev pub too_large : Kernel → Option Rule
too_large K = over (memory false K) (gates K) (weight K)

-- the bytes of memory where no limit is passed, or the first that is
abbrev pub IsSize : Size → Kernel → Type 0
IsSize (Memory m) K = (m ≡ memory false K) × (too_large K ≡ None)
IsSize (Over rule) K = too_large K ≡ Some rule
