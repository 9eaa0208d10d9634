-- The configurations from which a run may go on (this project's own): all that each run of a proper kernel keeps, taken together. Where such a
-- configuration waits it is legal; unlike legality, which tells nodes by their numbers alone, it is kept by each step and by each command.
use Rattle.std.specs.Prelude.{◌≡◌, None}
use Rattle.ceu_tree.specs.declared.kernel.Kernel.{Kernel}
use Rattle.ceu_tree.specs.Run.{Config, Turning, Between, Waiting, Ended, Faulted}
use Rattle.laws_meaning_basics.specs.Shape.{ConfigFits}
use Rattle.laws_meaning_counters.specs.Ranges.{ConfigInRange}
use Rattle.laws_meaning_instances.specs.Instances.{InstancesStand}
use Rattle.laws_meaning_slots.specs.Held.{ValuesLie}
use Rattle.laws_meaning_slots.specs.Names.{NamesHold}
use Rattle.laws_meaning_counters.specs.Counters.{CountersStand}
use Rattle.laws_meaning_assigned.specs.Needed.{Stocked}
use Rattle.laws_meaning_assigned.specs.Outer.{OuterStands}
use Rattle.laws_meaning_types.specs.Stores.{StoresTyped}

-- no finalizer has failed, said of what goes on: an end and a fault are over
abbrev pub Unfailed : Config → Type 0
Unfailed (Turning n f w) = w.fault ≡ None
Unfailed (Between n r w) = w.fault ≡ None
Unfailed (Waiting r w) = w.fault ≡ None
Unfailed (Ended v w) = Unit {0}
Unfailed (Faulted e w) = Unit {0}

pub record IsLawful (K : Kernel) (c : Config) : Type 0 where
  pub fits : ConfigFits K c  -- each open part is one of the kernel's, and stands where the kernel has it
  pub instances : InstancesStand c  -- instances have numbers that differ, and stand at places of their pools
  pub values : ValuesLie K c  -- each value lies in an open slot, and is of its kind
  pub names : NamesHold K c  -- aliases name instances of their code, in pools that they may have
  pub counters : CountersStand c  -- each open loop has counted as its variable says
  pub stocked : Stocked K c  -- what a block has set, a range's variable and parameters have a value
  pub outer : OuterStands K c  -- what the code of instances names of the program's variables is set
  pub typed : StoresTyped K c  -- each value is of its variable's type, and what trails go on with is one that their targets take
  pub times : ConfigInRange c  -- remaining times and counted turns are in their range
  pub unfailed : Unfailed c
