-- The laws on the values that the configurations of a proper kernel hold.
use Rattle.std.specs.Prelude.{◌≡◌, ℕ, suc, true, false, List, []}
use Rattle.std.specs.List.{list_all}
use Rattle.ceu_tree.specs.declared.command.Command.{Command}
use Rattle.ceu_tree.specs.declared.kernel.Kernel.{Kernel}
use Rattle.ceu_tree.specs.declared.kernel.KNode.{KNode}
use Rattle.ceu_tree.specs.declared.kernel.KBlock.{KBlock, out-KBlock}
use Rattle.ceu_tree.specs.declared.kernel.KStmt.{out-KStmt}
use Rattle.ceu_tree.specs.Residual.{Program, Act, Start, Residual}
use Rattle.ceu_tree.specs.Focus.{Focus, leaf, body_of}
use Rattle.ceu_tree.specs.Abort.{aborted}
use Rattle.ceu_tree.specs.World.{World}
use Rattle.ceu_tree.specs.Proper.{Scope, Proper}
use Rattle.ceu_tree.specs.Legal.{seats, open_slots, is_open_slot}
use Rattle.ceu_tree.specs.Run.{Config, Waiting, booted, next, steps, done, run}
use Rattle.laws_meaning_basics.specs.Shape.{AStatement, program_part, part_scope, opens_part, aimed, Around, Fits, TurnFits, ConfigFits}
use Rattle.laws_meaning_instances.specs.Instances.{InstancesStand}
use Rattle.laws_meaning_slots.specs.Held.{ValuesLie}
use Rattle.laws_meaning_slots.specs.Kinds.{kinds_fit}
use Rattle.laws_meaning_slots.specs.Names.{names_agree, NamesHold}
use Rattle.laws_meaning_slots.specs.Typed.{all_typed, start_typed}

abbrev pub BootHeld : Type 0
BootHeld = (K : Kernel) → ValuesLie K (booted K)

abbrev pub StepHeld : Type 0
StepHeld = (K : Kernel) (c : Config) → Proper K → ConfigFits K c → InstancesStand c → ValuesLie K c → ValuesLie K (next K c)

abbrev pub ReactionHeld : Type 0
ReactionHeld = (K : Kernel) (n : ℕ) (c : Config) → Proper K → ConfigFits K c → InstancesStand c → ValuesLie K c → ValuesLie K (steps K n c)

abbrev pub CommandHeld : Type 0
CommandHeld = (K : Kernel) (n : ℕ) (x : Command) (c : Config) → Proper K → ConfigFits K c → InstancesStand c → ValuesLie K c → ValuesLie K (done K n x c)

abbrev pub RunHeld : Type 0
RunHeld = (K : Kernel) (n : ℕ) (xs : List Command) → Proper K → ValuesLie K (run K n xs)

-- Where a configuration that fits a proper kernel waits, and its values lie in open slots, each open slot holds nothing or a cell of its kind: what lies in
-- two slots of one number is of the kind of both.
abbrev pub SlotKinds : Type 0
SlotKinds =
    (K : Kernel) (r : Residual) (w : World) → Proper K → ConfigFits K (Waiting r w) → ValuesLie K (Waiting r w)
    → kinds_fit K.codes w r Program ≡ true

abbrev pub RunSlotKinds : Type 0
RunSlotKinds = (K : Kernel) (n : ℕ) (xs : List Command) (r : Residual) (w : World) → Proper K → run K n xs ≡ Waiting r w → kinds_fit K.codes w r Program ≡ true

-- ---- which instances aliases name

abbrev pub BootNames : Type 0
BootNames = (K : Kernel) → NamesHold K (booted K)

abbrev pub StepNames : Type 0
StepNames = (K : Kernel) (c : Config) → Proper K → ConfigFits K c → InstancesStand c → NamesHold K c → NamesHold K (next K c)

abbrev pub ReactionNames : Type 0
ReactionNames = (K : Kernel) (n : ℕ) (c : Config) → Proper K → ConfigFits K c → InstancesStand c → NamesHold K c → NamesHold K (steps K n c)

abbrev pub CommandNames : Type 0
CommandNames = (K : Kernel) (n : ℕ) (x : Command) (c : Config) → Proper K → ConfigFits K c → InstancesStand c → NamesHold K c → NamesHold K (done K n x c)

abbrev pub RunNames : Type 0
RunNames = (K : Kernel) (n : ℕ) (xs : List Command) → Proper K → NamesHold K (run K n xs)

-- ---- types, where each variable that holds a value holds one of its type

-- A statement that starts evaluates each of its expressions to a value of the type that its place wants.
abbrev pub StartTyped : Type 0
StartTyped =
    (K : Kernel) (n : ℕ) (f : Focus Act) (w : World) (s : KNode) → Proper K → TurnFits K (suc n) (program_part K) f → leaf f ≡ Start s → all_typed K w
    → start_typed K (body_of f Program) w (out-KStmt s.stmt)

-- An abortion of the program keeps it so: what its finalizers assign is of the types of their variables.
abbrev pub AbortTyped : Type 0
AbortTyped = (K : Kernel) (top : ℕ) (r : Residual) (w : World) → Proper K → Fits K top (program_part K) r → all_typed K w → all_typed K (aborted r Program w)

-- No exit leads to the block of a part of a do or of an if: it leads to a statement around, or to the body. So such a block ends with 0.
abbrev pub NoneToParts : Type 0
NoneToParts =
    (K : Kernel) (top : ℕ) (f : Focus Act) (sc : Scope) (s : KNode) (b : KBlock) → Proper K → Around K top Act f (program_part K) (AStatement sc s) → opens_part (out-KStmt s.stmt) b
    → aimed (out-KBlock b).node (part_scope K sc s.node (out-KStmt s.stmt)).aims ≡ false

-- ---- in the words of legality

-- where a run of a proper kernel waits, each value is of an open slot
abbrev pub RunSlotsLegal : Type 0
RunSlotsLegal =
    (K : Kernel) (n : ℕ) (xs : List Command) (r : Residual) (w : World) → Proper K → run K n xs ≡ Waiting r w
    → list_all (is_open_slot (open_slots K.codes r Program)) w.values ≡ true

-- and each alias that names an instance names one of its code, in a pool that it may have, and of its body
abbrev pub RunNamesLegal : Type 0
RunNamesLegal =
    (K : Kernel) (n : ℕ) (xs : List Command) (r : Residual) (w : World) → Proper K → run K n xs ≡ Waiting r w
    → names_agree K w (seats r Program) r Program [] ≡ true
