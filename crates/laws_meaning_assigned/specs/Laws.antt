-- The laws on the slots that have a value in the configurations of a proper kernel.
use Rattle.std.specs.Prelude.{◌≡◌, ◌≤◌, ℕ, suc, true, false, List, [], Some}
use Rattle.std.specs.List.{list_all}
use Rattle.ceu_tree.specs.declared.command.Command.{Command}
use Rattle.ceu_tree.specs.declared.kernel.Kernel.{Kernel}
use Rattle.ceu_tree.specs.declared.kernel.KNode.{KNode}
use Rattle.ceu_tree.specs.declared.kernel.KBlock.{out-KBlock}
use Rattle.ceu_tree.specs.Residual.{Program, Act, Start, Residual, Over}
use Rattle.ceu_tree.specs.Focus.{Focus, plug, leaf, body_of}
use Rattle.ceu_tree.specs.World.{World}
use Rattle.ceu_tree.specs.Legal.{is_program_variable, program_done, outer_set, seats}
use Rattle.ceu_tree.specs.Mentions.{count_of, stmt_names}
use Rattle.ceu_tree.specs.Proper.{Proper}
use Rattle.ceu_tree.specs.Run.{Config, Turning, Waiting, booted, next, steps, done, run}
use Rattle.laws_meaning_basics.specs.Shape.{program_part, TurnFits, ConfigFits}
use Rattle.laws_meaning_values.specs.Ground.{has}
use Rattle.laws_meaning_values.specs.Ready.{act_has}
use Rattle.laws_meaning_instances.specs.Instances.{InstancesStand}
use Rattle.laws_meaning_assigned.specs.Needed.{Stocked}
use Rattle.laws_meaning_assigned.specs.Slots.{slots_set}
use Rattle.laws_meaning_assigned.specs.Outer.{code_set, act_code, OuterSet, OuterStands}

abbrev pub BootStocked : Type 0
BootStocked = (K : Kernel) → Stocked K (booted K)

abbrev pub StepStocked : Type 0
StepStocked = (K : Kernel) (c : Config) → Proper K → ConfigFits K c → InstancesStand c → Stocked K c → Stocked K (next K c)

abbrev pub ReactionStocked : Type 0
ReactionStocked = (K : Kernel) (n : ℕ) (c : Config) → Proper K → ConfigFits K c → InstancesStand c → Stocked K c → Stocked K (steps K n c)

abbrev pub CommandStocked : Type 0
CommandStocked = (K : Kernel) (n : ℕ) (x : Command) (c : Config) → Proper K → ConfigFits K c → InstancesStand c → Stocked K c → Stocked K (done K n x c)

abbrev pub RunStocked : Type 0
RunStocked = (K : Kernel) (n : ℕ) (xs : List Command) → Proper K → Stocked K (run K n xs)

-- So a turn reads no slot of its own body without a value: each one that the expressions of the statement at which it is name has one, and each alias that it asks for.
abbrev pub TurnReads : Type 0
TurnReads = (K : Kernel) (n : ℕ) (f : Focus Act) (w : World) → Proper K → ConfigFits K (Turning n f w) → Stocked K (Turning n f w) → act_has (body_of f Program) w (leaf f) ≡ true

-- as in the reaction of boot
abbrev pub BootReads : Type 0
BootReads = (K : Kernel) (k n : ℕ) (f : Focus Act) (w : World) → Proper K → steps K k (booted K) ≡ Turning n f w → act_has (body_of f Program) w (leaf f) ≡ true

-- and of a command's reactions, which follow a run
abbrev pub CommandReads : Type 0
CommandReads =
    (K : Kernel) (m k n : ℕ) (xs : List Command) (x : Command) (f : Focus Act) (w : World) → Proper K → done K k x (run K m xs) ≡ Turning n f w → act_has (body_of f Program) w (leaf f) ≡ true

-- ---- in the words of legality

-- where a run of a proper kernel waits, what is set has a value, and each parameter
abbrev pub RunSetLegal : Type 0
RunSetLegal = (K : Kernel) (n : ℕ) (xs : List Command) (r : Residual) (w : World) → Proper K → run K n xs ≡ Waiting r w → slots_set K.codes w r Program ≡ true

-- ---- the program's variables that code names

-- Where code is awaited or spawned, each of the program's variables that it names by `outer`, itself or by other code, is set, if so it is for each instance that lives.
abbrev pub CodeOuterSet : Type 0
CodeOuterSet =
    (K : Kernel) (n c : ℕ) (f : Focus Act) → Proper K → TurnFits K (suc n) (program_part K) f → OuterSet K (plug f Over) → act_code (leaf f) ≡ Some c → code_set K (program_done K.body (plug f Over)) c ≡ true

-- So a statement that starts names none of them by `outer` without a value.
abbrev pub OuterReads : Type 0
OuterReads =
    (K : Kernel) (n slot : ℕ) (f : Focus Act) (s : KNode) (w : World) → Proper K → TurnFits K (suc n) (program_part K) f → Stocked K (Turning n f w) → OuterSet K (plug f Over) → leaf f ≡ Start s
    → is_program_variable slot (out-KBlock K.body).decls ≡ true → 1 ≤ count_of slot (stmt_names false [] s.stmt) → has Program slot w ≡ true

abbrev pub StepOuter : Type 0
StepOuter = (K : Kernel) (c : Config) → Proper K → ConfigFits K c → OuterStands K c → OuterStands K (next K c)

abbrev pub RunOuter : Type 0
RunOuter = (K : Kernel) (n : ℕ) (xs : List Command) → Proper K → OuterStands K (run K n xs)

-- in the words of legality: where a run waits, and an instance lives, the program's variables that its code names are set
abbrev pub RunOuterLegal : Type 0
RunOuterLegal = (K : Kernel) (n : ℕ) (xs : List Command) (r : Residual) (w : World) → Proper K → run K n xs ≡ Waiting r w → list_all (outer_set K r) (seats r Program) ≡ true

-- So in no step of a run a statement that starts names one of them by `outer` without a value: in the reaction of boot, and in those of a command.
abbrev pub BootOuterReads : Type 0
BootOuterReads =
    (K : Kernel) (k n slot : ℕ) (f : Focus Act) (s : KNode) (w : World) → Proper K → steps K k (booted K) ≡ Turning n f w → leaf f ≡ Start s → is_program_variable slot (out-KBlock K.body).decls ≡ true
    → 1 ≤ count_of slot (stmt_names false [] s.stmt) → has Program slot w ≡ true

abbrev pub CommandOuterReads : Type 0
CommandOuterReads =
    (K : Kernel) (m k n slot : ℕ) (xs : List Command) (x : Command) (f : Focus Act) (s : KNode) (w : World) → Proper K → done K k x (run K m xs) ≡ Turning n f w → leaf f ≡ Start s
    → is_program_variable slot (out-KBlock K.body).decls ≡ true → 1 ≤ count_of slot (stmt_names false [] s.stmt) → has Program slot w ≡ true
