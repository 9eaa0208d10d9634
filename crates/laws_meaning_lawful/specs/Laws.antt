-- The laws on the configurations from which a run may go on, and that those where one waits are legal.
use Rattle.std.specs.Prelude.{◌≡◌, ◌≤◌, ◌⊎◌, ℕ, ℤ, true, false, List, [], None}
use Rattle.ceu_base.specs.declared.kinds.Pos.{Pos}
use Rattle.ceu_base.specs.declared.kinds.Fault.{Fault}
use Rattle.ceu_tree.specs.declared.command.Command.{Command}
use Rattle.ceu_tree.specs.declared.kernel.Kernel.{Kernel}
use Rattle.ceu_tree.specs.declared.kernel.KNode.{KNode}
use Rattle.ceu_tree.specs.declared.kernel.KBlock.{out-KBlock}
use Rattle.ceu_tree.specs.Residual.{Program, Act, Start, Residual}
use Rattle.ceu_tree.specs.Focus.{Focus, leaf, body_of}
use Rattle.ceu_tree.specs.World.{World}
use Rattle.ceu_tree.specs.Mentions.{count_of, stmt_names}
use Rattle.ceu_tree.specs.Step.{stepped}
use Rattle.ceu_tree.specs.Legal.{Seated, is_program_variable, block_stands, is_legal}
use Rattle.ceu_tree.specs.Proper.{Proper}
use Rattle.ceu_tree.specs.Run.{Config, Turning, Waiting, Ended, Faulted, is_reacting, booted, next, steps, done, all_done, run}
use Rattle.laws_meaning_basics.specs.Shape.{ConfigFits}
use Rattle.laws_meaning_basics.specs.Laws.{is_whole}
use Rattle.laws_meaning_values.specs.Ground.{has}
use Rattle.laws_meaning_values.specs.Ready.{act_has}
use Rattle.laws_meaning_counters.specs.Ranges.{in_range}
use Rattle.laws_meaning_instances.specs.Instances.{pools_stand}
use Rattle.laws_meaning_counters.specs.Laws.{each_loop, counter_legal}
use Rattle.laws_meaning_assigned.specs.Slots.{slots_set}
use Rattle.laws_meaning_types.specs.Cells.{cells_legal}
use Rattle.laws_meaning_types.specs.Stores.{CommandTyped}
use Rattle.laws_meaning_types.specs.Laws.{all_commands_typed}
use Rattle.laws_meaning_lawful.specs.Lawful.{IsLawful}

-- ---- lawful configurations lead to lawful ones

abbrev pub BootIsLawful : Type 0
BootIsLawful = (K : Kernel) → Proper K → IsLawful K (booted K)

abbrev pub StepIsLawful : Type 0
StepIsLawful = (K : Kernel) (c : Config) → Proper K → IsLawful K c → IsLawful K (next K c)

abbrev pub ReactionIsLawful : Type 0
ReactionIsLawful = (K : Kernel) (n : ℕ) (c : Config) → Proper K → IsLawful K c → IsLawful K (steps K n c)

-- by any command, with inputs of their types
abbrev pub CommandIsLawful : Type 0
CommandIsLawful = (K : Kernel) (n : ℕ) (x : Command) (c : Config) → Proper K → CommandTyped K x → IsLawful K c → IsLawful K (done K n x c)

-- so by a list of them, from boot or from where a run was stopped
abbrev pub CommandsAreLawful : Type 0
CommandsAreLawful = (K : Kernel) (n : ℕ) (xs : List Command) (c : Config) → Proper K → all_commands_typed K xs → IsLawful K c → IsLawful K (all_done K n xs c)

abbrev pub RunIsLawful : Type 0
RunIsLawful = (K : Kernel) (n : ℕ) (xs : List Command) → Proper K → all_commands_typed K xs → IsLawful K (run K n xs)

-- ---- what a lawful configuration is

-- Where it waits, it is legal.
abbrev pub LawfulIsLegal : Type 0
LawfulIsLegal = (K : Kernel) (r : Residual) (w : World) → Proper K → IsLawful K (Waiting r w) → is_legal K (Waiting r w) ≡ true

-- A step of a turn comes to no case that no proper kernel has.
abbrev pub LawfulIsWhole : Type 0
LawfulIsWhole = (K : Kernel) (n : ℕ) (f : Focus Act) (w : World) → Proper K → IsLawful K (Turning n f w) → is_whole (stepped K n Program f w).outcome ≡ true

-- A statement that starts reads no slot of its own body without a value, and no variable of the program by `outer` without one.
pub record ReadsValues (K : Kernel) (f : Focus Act) (w : World) : Type 0 where
  pub own : act_has (body_of f Program) w (leaf f) ≡ true
  pub outer : (slot : ℕ) (s : KNode) → leaf f ≡ Start s → is_program_variable slot (out-KBlock K.body).decls ≡ true → 1 ≤ count_of slot (stmt_names false [] s.stmt) → has Program slot w ≡ true

abbrev pub LawfulReads : Type 0
LawfulReads = (K : Kernel) (n : ℕ) (f : Focus Act) (w : World) → Proper K → IsLawful K (Turning n f w) → ReadsValues K f w

-- ---- where a reaction is over

-- legal, ended or faulted
abbrev pub IsOver : Kernel → Config → Type 0
IsOver K c = (is_legal K c ≡ true) ⊎ (((v : ℤ) × (w : World) × (c ≡ Ended v w)) ⊎ ((e : (Fault × Pos)) × (w : World) × (c ≡ Faulted e w)))

-- A command whose reactions are over leads from a lawful configuration to a legal one, an end or a fault.
abbrev pub LawfulLeads : Type 0
LawfulLeads = (K : Kernel) (n : ℕ) (x : Command) (c : Config) → Proper K → CommandTyped K x → IsLawful K c → is_reacting (done K n x c) ≡ false → IsOver K (done K n x c)

-- ---- in the words of runs

-- Where a run of a proper kernel waits, no finalizer has failed.
abbrev pub RunUnfailed : Type 0
RunUnfailed = (K : Kernel) (n : ℕ) (xs : List Command) (r : Residual) (w : World) → Proper K → run K n xs ≡ Waiting r w → w.fault ≡ None

-- What waits and fits a proper kernel is a residual of its body as a legal configuration has it, where the cells of its declarations and the counters of its
-- loops are as in one, what is set has a value, its instances are at their places, and its remaining times are in their range.
abbrev pub FittingStands : Type 0
FittingStands =
    (K : Kernel) (r : Residual) (w : World) (found : List Seated) → Proper K → ConfigFits K (Waiting r w) → cells_legal K w found r Program [] ≡ true → slots_set K.codes w r Program ≡ true
    → each_loop (counter_legal K w found) Program r → pools_stand r → in_range r → block_stands K w found false Program [] K.body r ≡ true

-- Where a run of a proper kernel waits, with inputs of their types, its configuration is legal: a run may start from it.
abbrev pub RunLegal : Type 0
RunLegal = (K : Kernel) (n : ℕ) (xs : List Command) (r : Residual) (w : World) → Proper K → all_commands_typed K xs → run K n xs ≡ Waiting r w → is_legal K (Waiting r w) ≡ true
