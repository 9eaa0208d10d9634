-- The laws on the values of variables.
use Rattle.std.specs.Prelude.{◌≡◌, ℕ, suc, true, List, []}
use Rattle.ceu_tree.specs.declared.command.Command.{Command}
use Rattle.ceu_tree.specs.declared.kernel.Kernel.{Kernel}
use Rattle.ceu_tree.specs.Residual.{Body, Program, Act, Start, Residual}
use Rattle.ceu_tree.specs.Focus.{Focus, leaf, body_of}
use Rattle.ceu_tree.specs.World.{World}
use Rattle.ceu_tree.specs.declared.kernel.KNode.{KNode}
use Rattle.ceu_tree.specs.Mentions.{outer_names_from}
use Rattle.ceu_tree.specs.Abort.{aborted}
use Rattle.ceu_tree.specs.Proper.{Proper, Scope, stmt_ok}
use Rattle.ceu_tree.specs.Run.{Config, Turning, booted, next, steps, done, run}
use Rattle.laws_meaning_basics.specs.Shape.{Part, AStatement, Fits, TurnFits, program_part, ConfigFits}
use Rattle.laws_meaning_values.specs.Ground.{Ground, has, numbers_of, On, Outside}
use Rattle.laws_meaning_values.specs.Needed.{Valued}
use Rattle.laws_meaning_values.specs.Ready.{act_has, Ready}

-- An abortion leaves a value to each slot that has one and lies outside the part that is aborted.
abbrev pub AbortSpares : Type 0
AbortSpares =
    (K : Kernel) (top : ℕ) (d : Part) (r : Residual) (here : Body) (g : Ground) (w : World) (body : Body) (slot : ℕ) → Proper K → Fits K top d r → On d g → Outside here g (numbers_of r) body slot
    → has body slot w ≡ true → has body slot (aborted r here w) ≡ true

-- In every proper kernel a statement reads no slot of its own body without a value when it starts, where each slot that is seen from its place has one or is not
-- named by it before it sets it.
abbrev pub StatementReads : Type 0
StatementReads =
    (K : Kernel) (sc : Scope) (s : KNode) (body : Body) (w : World) → stmt_ok K (outer_names_from [] K.codes) sc s.node s.stmt ≡ true → Ready K body w (AStatement sc s)
    → act_has body w (Start s) ≡ true

-- ---- programs without code

-- Each slot that needs a value keeps having one.
abbrev pub StepValued : Type 0
StepValued = (K : Kernel) (c : Config) → Proper K → K.codes ≡ [] → ConfigFits K c → Valued c → Valued (next K c)

abbrev pub CommandValued : Type 0
CommandValued = (K : Kernel) (n : ℕ) (x : Command) (c : Config) → Proper K → K.codes ≡ [] → ConfigFits K c → Valued c → Valued (done K n x c)

abbrev pub RunValued : Type 0
RunValued = (K : Kernel) (n : ℕ) (xs : List Command) → Proper K → K.codes ≡ [] → Valued (run K n xs)

-- So a turn reads no slot without a value (without code no slot is named by `outer`): each one that the expressions of the statement at which it is name has one, and each alias that it asks for.
abbrev pub TurnReads : Type 0
TurnReads = (K : Kernel) (n : ℕ) (f : Focus Act) (w : World) → Proper K → K.codes ≡ [] → TurnFits K (suc n) (program_part K) f → Valued (Turning n f w) → act_has (body_of f Program) w (leaf f) ≡ true

-- as in the reaction of boot
abbrev pub BootReads : Type 0
BootReads = (K : Kernel) (k n : ℕ) (f : Focus Act) (w : World) → Proper K → K.codes ≡ [] → steps K k (booted K) ≡ Turning n f w → act_has (body_of f Program) w (leaf f) ≡ true

-- and of a command's reactions, which follow a run
abbrev pub CommandReads : Type 0
CommandReads =
    (K : Kernel) (m k n : ℕ) (xs : List Command) (x : Command) (f : Focus Act) (w : World) → Proper K → K.codes ≡ [] → done K k x (run K m xs) ≡ Turning n f w
    → act_has (body_of f Program) w (leaf f) ≡ true
