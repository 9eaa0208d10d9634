-- What a tree has to pay with which a reaction begins is at most what the table says of the program where it stood waiting (this project's own).
use Rattle.std.specs.Prelude.{◌≡◌, ℕ, ℤ, pos, Bool, List, Some}
use Rattle.ceu_tree.specs.declared.command.Command.{Command}
use Rattle.ceu_tree.specs.declared.kernel.Kernel.{Kernel}
use Rattle.ceu_tree.specs.Residual.{Finish, Residual, Run}
use Rattle.ceu_tree.specs.Focus.{Focus, plug, leaf, choose}
use Rattle.ceu_tree.specs.Wake.{each_leaf, by_input, later, by_time, Unserved, unserved}
use Rattle.ceu_tree.specs.Costs.{Cost, stay_block}
use Rattle.ceu_tree.specs.Proper.{Proper}
use Rattle.ceu_tree.specs.Run.{Config, booted, next, done, run}
use Rattle.laws_meaning_basics.specs.Shape.{program_part, Fits, ConfigFits}
use Rattle.laws_meaning_instances.specs.Instances.{pools_stand}
use Rattle.ceu_endings.specs.Counted.{tree_counted}
use Rattle.laws_bounds_steps.specs.Due.{due}
use Rattle.laws_bounds_steps.specs.Pays.{Within}
use Rattle.laws_bounds_steps.specs.Kept.{CodesStay}
use Rattle.laws_bounds_reach.specs.Standing.{begins_reaction, pools_bare, ConfigBare}

-- A tree that fits its kernel, whose counters and instances lie within the bounds of its loops and pools
pub record Stands (K : Kernel) (top : ℕ) (r : Residual) : Type 0 where
  pub fits : Fits K top (program_part K) r
  pub counted : tree_counted r
  pub pools : pools_stand r
  pub bare : pools_bare r

-- pays at most what the program costs where it stood waiting, if each leaf waits, or has waited for something outside.
abbrev pub StandingPays : Type 0
StandingPays = (passing : List Bool) (events entering staying : List Cost) (K : Kernel) (top : ℕ) (r : Residual) → CodesStay passing events entering staying K → Stands K top r → begins_reaction r
    → Within (due passing events entering r) (stay_block passing events entering staying K.body)

-- So it is after an input,
abbrev pub InputWithin : Type 0
InputWithin = (passing : List Bool) (events entering staying : List Cost) (K : Kernel) (event : ℕ) (v : ℤ) (r : Residual) → CodesStay passing events entering staying K → Stands K 0 r
    → Within (due passing events entering (each_leaf (by_input event v) r)) (stay_block passing events entering staying K.body)

-- after a time,
abbrev pub TimeWithin : Type 0
TimeWithin = (passing : List Bool) (events entering staying : List Cost) (K : Kernel) (delay d : ℕ) (r : Residual) → CodesStay passing events entering staying K → Stands K 0 r
    → Within (due passing events entering (each_leaf (by_time delay) (each_leaf (later d) r))) (stay_block passing events entering staying K.body)

-- and after the end of an async.
abbrev pub AsyncWithin : Type 0
AsyncWithin = (passing : List Bool) (events entering staying : List Cost) (K : Kernel) (g : Focus Unserved) (r : Residual) → CodesStay passing events entering staying K → Stands K 0 r
    → choose Unserved unserved r ≡ Some g → Within (due passing events entering (plug g (Run 0 (Finish (leaf g).stmt (pos 0))))) (stay_block passing events entering staying K.body)

-- Where no statement of a block spawns, none of its pools ever has an instance: at the start, after a step, after a command, and so in every run.
abbrev pub BootBare : Type 0
BootBare = (K : Kernel) → ConfigBare (booted K)

abbrev pub StepBare : Type 0
StepBare = (K : Kernel) (c : Config) → Proper K → ConfigFits K c → ConfigBare c → ConfigBare (next K c)

abbrev pub CommandBare : Type 0
CommandBare = (K : Kernel) (bound : ℕ) (x : Command) (c : Config) → Proper K → ConfigFits K c → ConfigBare c → ConfigBare (done K bound x c)

abbrev pub RunBare : Type 0
RunBare = (K : Kernel) (bound : ℕ) (xs : List Command) → Proper K → ConfigBare (run K bound xs)
