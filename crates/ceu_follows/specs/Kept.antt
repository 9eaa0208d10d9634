-- What holds of each configuration in a run of a program of one trail: it fits its kernel, each slot that needs a value has one, counters lie within
-- their bounds and values within their scopes and types, and no finalizer has faulted.
use Rattle.std.specs.Prelude.{◌≡◌, None}
use Rattle.ceu_tree.specs.declared.kernel.Kernel.{Kernel}
use Rattle.ceu_tree.specs.Run.{Config, Turning, Between, Waiting, Ended, Faulted, world_of, next}
use Rattle.laws_meaning_basics.specs.Shape.{ConfigFits}
use Rattle.laws_meaning_values.specs.Needed.{Valued}
use Rattle.ceu_single.specs.Single.{Single}
use Rattle.ceu_tree.specs.Proper.{Proper}
use Rattle.ceu_endings.specs.Counted.{Counted}
use Rattle.ceu_endings.specs.Laws.{AtLevelZero}
use Rattle.ceu_trail.specs.Within.{TurnWithin, RestWithin}

abbrev pub ConfigWithin : Kernel → Config → Type 0
ConfigWithin K (Turning n f w) = TurnWithin K f w
ConfigWithin K (Between n r w) = RestWithin K r w
ConfigWithin K (Waiting r w) = RestWithin K r w
ConfigWithin K (Ended v w) = Unit {0}
ConfigWithin K (Faulted e w) = Unit {0}

pub record Kept (K : Kernel) (c : Config) : Type 0 where
  pub fits : ConfigFits K c
  pub valued : Valued c
  pub counted : Counted c
  pub within : ConfigWithin K c
  pub unfaulted : (world_of c).fault ≡ None

-- a step of a reaction at level 0 keeps it
abbrev pub StepsKeep : Type 0
StepsKeep = (K : Kernel) (c : Config) → Proper K → Single K → Kept K c → AtLevelZero c → Kept K (next K c)
