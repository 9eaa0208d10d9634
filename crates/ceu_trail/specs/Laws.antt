-- The laws on programs of one trail.
use Rattle.std.specs.Prelude.{◌≡◌, ℕ, Bool, true, false}
use Rattle.ceu_code.specs.declared.image.Image.{Image}
use Rattle.ceu_isa.specs.declared.registers.Registers.{Registers}
use Rattle.ceu_isa.specs.Turns.{Machine}
use Rattle.ceu_tree.specs.declared.kernel.Kernel.{Kernel}
use Rattle.ceu_tree.specs.Residual.{Program, Act}
use Rattle.ceu_tree.specs.Focus.{Focus, Here, In}
use Rattle.ceu_tree.specs.Step.{stepped}
use Rattle.ceu_tree.specs.World.{World}
use Rattle.ceu_tree.specs.Run.{Turning}
use Rattle.laws_meaning_basics.specs.Shape.{Part, Around, TurnFits, program_part}
use Rattle.laws_meaning_values.specs.Needed.{Valued}
use Rattle.ceu_endings.specs.Counted.{Counted}
use Rattle.ceu_shape.specs.Plans.{Plan}
use Rattle.ceu_trail.specs.Built.{PartBuilt}
use Rattle.ceu_trail.specs.Compiled.{Compiled}
use Rattle.ceu_trail.specs.Within.{TurnWithin}
use Rattle.ceu_trail.specs.Turning.{TurnStands}
use Rattle.ceu_trail.specs.Coming.{Comes}

abbrev pub is_here : {A : Type 0} → Focus A → Bool
is_here (Here a) = true
is_here (In fr f) = false

-- Each part of the program at which a turn may be has its code.
abbrev pub PartsAreBuilt : Type 0
PartsAreBuilt =
    (image : Image) (P : Plan) (width : ℕ → ℕ) (K : Kernel) (f : Focus Act) (d : Part)
    → Compiled image P width K → Around K 1 Act f (program_part K) d → PartBuilt image P K (is_here f) d

-- What one step of the reference semantics does in a turn the machine does too.
abbrev pub StepsAreDone : Type 0
StepsAreDone =
    (image : Image) (P : Plan) (width : ℕ → ℕ) (K : Kernel) (f : Focus Act) (w : World) (r : Registers) (m : Machine)
    → Compiled image P width K → TurnFits K 1 (program_part K) f → Valued (Turning 0 f w) → Counted (Turning 0 f w) → TurnWithin K f w
    → TurnStands image P width K f w r m.bytes
    → Comes image P width K w r m (stepped K 0 Program f w).outcome (stepped K 0 Program f w).world
