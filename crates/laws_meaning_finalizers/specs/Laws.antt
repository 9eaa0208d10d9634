-- The laws on what finalizers read.
use Rattle.std.specs.Prelude.{◌≡◌, ◌≤◌, ℕ, true, List}
use Rattle.ceu_base.specs.declared.kinds.Pos.{Pos}
use Rattle.ceu_base.specs.declared.kinds.Fault.{Fault}
use Rattle.ceu_tree.specs.declared.command.Command.{Command}
use Rattle.ceu_tree.specs.declared.kernel.Kernel.{Kernel}
use Rattle.ceu_tree.specs.Residual.{Body, Program, Act, Residual}
use Rattle.ceu_tree.specs.Focus.{Focus}
use Rattle.ceu_tree.specs.World.{World}
use Rattle.ceu_tree.specs.Around.{Fails}
use Rattle.ceu_tree.specs.Step.{stepped}
use Rattle.ceu_tree.specs.Proper.{Proper}
use Rattle.ceu_tree.specs.Run.{Turning, Waiting, booted, steps, done, run}
use Rattle.laws_meaning_basics.specs.Shape.{program_part, Fits, ConfigFits}
use Rattle.laws_meaning_instances.specs.Instances.{TreeStands, InstancesStand}
use Rattle.laws_meaning_values.specs.Ground.{has}
use Rattle.laws_meaning_assigned.specs.Needed.{needed, Stocked}
use Rattle.laws_meaning_assigned.specs.Outer.{OuterSet, OuterStands}
use Rattle.laws_meaning_finalizers.specs.Closing.{aborted_reads, step_reads, idle_reads}

-- An abortion of the program reads no variable without a value: its instances stand, each slot that needs a value has one, and the program's variables that
-- the code of each instance names are set.
abbrev pub AbortReads : Type 0
AbortReads =
    (K : Kernel) (top : ℕ) (r : Residual) (w : World) → Proper K → Fits K top (program_part K) r → TreeStands r w → ((body : Body) (slot : ℕ) → 1 ≤ needed K.codes body slot Program r → has body slot w ≡ true) → OuterSet K r
    → aborted_reads r Program w

-- so a step of a turn, and where it faults the abortion of what is left
pub record Closes (K : Kernel) (n : ℕ) (f : Focus Act) (w : World) : Type 0 where
  pub step : step_reads K n Program f w
  pub fault : (e : Fault × Pos) (r : Residual) → (stepped K n Program f w).outcome ≡ Fails e r → aborted_reads r Program (stepped K n Program f w).world

abbrev pub StepCloses : Type 0
StepCloses = (K : Kernel) (n : ℕ) (f : Focus Act) (w : World) → Proper K → ConfigFits K (Turning n f w) → InstancesStand (Turning n f w) → Stocked K (Turning n f w) → OuterStands K (Turning n f w) → Closes K n f w

-- so each step of the reaction of boot,
abbrev pub BootCloses : Type 0
BootCloses = (K : Kernel) (k n : ℕ) (f : Focus Act) (w : World) → Proper K → steps K k (booted K) ≡ Turning n f w → Closes K n f w

-- and of a command's reactions, which follow a run
abbrev pub CommandCloses : Type 0
CommandCloses = (K : Kernel) (m k n : ℕ) (xs : List Command) (x : Command) (f : Focus Act) (w : World) → Proper K → done K k x (run K m xs) ≡ Turning n f w → Closes K n f w

-- So an idle turn where a configuration waits: each step of the trail of the async that is served, and after a fault the abortion of the whole program.
abbrev pub IdleCloses : Type 0
IdleCloses = (K : Kernel) (n : ℕ) (r : Residual) (w : World) → Proper K → ConfigFits K (Waiting r w) → InstancesStand (Waiting r w) → Stocked K (Waiting r w) → OuterStands K (Waiting r w) → idle_reads K n r w

-- as where a run waits
abbrev pub RunIdleCloses : Type 0
RunIdleCloses = (K : Kernel) (m n : ℕ) (xs : List Command) (r : Residual) (w : World) → Proper K → run K m xs ≡ Waiting r w → idle_reads K n r w
