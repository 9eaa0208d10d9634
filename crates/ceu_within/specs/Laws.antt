-- The laws on values in programs of one trail: each that is held is that of a variable of an open block or loop, and is one of its type; a loop over a
-- range counts within its variable's type; what a statement that waited goes on with is a value that it takes.
use Rattle.std.specs.Prelude.{◌≡◌, ℕ, ℤ, Some}
use Rattle.ceu_base.specs.declared.kinds.Ty.{Ty}
use Rattle.ceu_base.specs.Values.{IsValue}
use Rattle.ceu_tree.specs.declared.kernel.Kernel.{Kernel}
use Rattle.ceu_tree.specs.Residual.{Program, Act, Begin, Residual, Run}
use Rattle.ceu_tree.specs.Focus.{Focus, choose}
use Rattle.ceu_tree.specs.World.{World, empty_world}
use Rattle.ceu_tree.specs.Wake.{each_leaf, runs_at, by_input, later, by_time}
use Rattle.ceu_tree.specs.Around.{Outcome, Goes, Rests}
use Rattle.ceu_tree.specs.Proper.{Proper, port_ty}
use Rattle.ceu_tree.specs.Step.{stepped}
use Rattle.ceu_tree.specs.Run.{Between, Waiting}
use Rattle.laws_meaning_basics.specs.Shape.{ConfigFits, TurnFits, program_part}
use Rattle.ceu_single.specs.Single.{Single}
use Rattle.ceu_trail.specs.Within.{TurnWithin, RestWithin}

abbrev pub OutcomeWithin : Kernel → Outcome → World → Type 0
OutcomeWithin K (Goes f) w = TurnWithin K f w
OutcomeWithin K (Rests r) w = RestWithin K r w
OutcomeWithin K x w = Unit {0}

abbrev pub BootWithin : Type 0
BootWithin = (K : Kernel) → RestWithin K (Run 0 (Begin K.body)) empty_world

abbrev pub StepWithin : Type 0
StepWithin =
    (K : Kernel) (f : Focus Act) (w : World) → Proper K → Single K → TurnFits K 1 (program_part K) f → TurnWithin K f w
    → OutcomeWithin K (stepped K 0 Program f w).outcome (stepped K 0 Program f w).world

-- the trail that is chosen
abbrev pub ChosenWithin : Type 0
ChosenWithin = (K : Kernel) (r : Residual) (w : World) (f : Focus Act) → Proper K → Single K → ConfigFits K (Between 0 r w) → RestWithin K r w → choose Act (runs_at 0) r ≡ Some f → TurnWithin K f w

-- an input of its type, and time
abbrev pub InputWithin : Type 0
InputWithin = (K : Kernel) (r : Residual) (w : World) (k : ℕ) (t : Ty) (v : ℤ) → Proper K → Single K → ConfigFits K (Waiting r w) → RestWithin K r w → port_ty K k K.inputs ≡ Some t → IsValue t v → RestWithin K (each_leaf (by_input k v) r) w

abbrev pub TimeWithin : Type 0
TimeWithin = (K : Kernel) (r : Residual) (w : World) (d delay : ℕ) → Proper K → Single K → ConfigFits K (Waiting r w) → RestWithin K r w → RestWithin K (each_leaf (later d) r) w × RestWithin K (each_leaf (by_time delay) r) w
