-- The laws on configurations that fit a proper kernel.
use Rattle.std.specs.Prelude.{◌≡◌, ℕ, suc, Bool, true, false, List}
use Rattle.ceu_tree.specs.declared.command.Command.{Command}
use Rattle.ceu_tree.specs.declared.kernel.Kernel.{Kernel}
use Rattle.ceu_tree.specs.Residual.{Program, Act}
use Rattle.ceu_tree.specs.Focus.{Focus}
use Rattle.ceu_tree.specs.World.{World}
use Rattle.ceu_tree.specs.Around.{Outcome, Goes, Rests, Raises, Fails, Ends}
use Rattle.ceu_tree.specs.Step.{stepped}
use Rattle.ceu_tree.specs.Proper.{Proper}
use Rattle.ceu_tree.specs.Run.{Config, booted, next, steps, done, run}
use Rattle.laws_meaning_basics.specs.Shape.{program_part, TurnFits, ConfigFits}

abbrev pub BootFits : Type 0
BootFits = (K : Kernel) → Proper K → ConfigFits K (booted K)

abbrev pub StepFits : Type 0
StepFits = (K : Kernel) (c : Config) → Proper K → ConfigFits K c → ConfigFits K (next K c)

abbrev pub ReactionFits : Type 0
ReactionFits = (K : Kernel) (n : ℕ) (c : Config) → Proper K → ConfigFits K c → ConfigFits K (steps K n c)

abbrev pub CommandFits : Type 0
CommandFits = (K : Kernel) (n : ℕ) (x : Command) (c : Config) → Proper K → ConfigFits K c → ConfigFits K (done K n x c)

abbrev pub RunFits : Type 0
RunFits = (K : Kernel) (n : ℕ) (xs : List Command) → Proper K → ConfigFits K (run K n xs)

-- what may become of the whole program in a step
abbrev pub is_whole : Outcome → Bool
is_whole (Goes g) = true
is_whole (Rests r) = true
is_whole (Raises r) = true
is_whole (Fails e r) = true
is_whole (Ends v) = true
is_whole x = false

-- In a turn the program goes on, rests, opens a level, fails or ends: no statement, block end, loop head or exit is left over.
abbrev pub StepWhole : Type 0
StepWhole = (K : Kernel) (n : ℕ) (f : Focus Act) (w : World) → Proper K → TurnFits K (suc n) (program_part K) f → is_whole (stepped K n Program f w).outcome ≡ true
