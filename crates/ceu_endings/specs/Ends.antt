-- Every turn of a program of one trail ends, and so does every reaction, command and run (this project's own).
use Rattle.std.specs.Prelude.{◌≡◌, ◌≤◌, ℕ, ◌+◌, ◌^◌, false, List}
use Rattle.ceu_base.specs.declared.kinds.Mark.{Mark}
use Rattle.ceu_tree.specs.declared.command.Command.{Command}
use Rattle.ceu_tree.specs.declared.kernel.Kernel.{Kernel}
use Rattle.ceu_tree.specs.Residual.{Act, Residual}
use Rattle.ceu_tree.specs.Focus.{Focus}
use Rattle.ceu_tree.specs.World.{World}
use Rattle.ceu_tree.specs.Proper.{Proper}
use Rattle.ceu_tree.specs.Weight.{weight}
use Rattle.ceu_tree.specs.Run.{Config, Turning, Between, steps, is_reacting, done, run, Status, Runs}
use Rattle.laws_meaning_basics.specs.Shape.{ConfigFits}
use Rattle.ceu_bound.specs.PhaseB.{KeepsLoopRules}
use Rattle.ceu_single.specs.Single.{Single}
use Rattle.ceu_endings.specs.Counted.{Counted}
use Rattle.ceu_endings.specs.Laws.{is_turning}

-- so many steps end each turn
unfoldable pub longest_run : ℕ
longest_run = 2 ^ 65536

-- a program of one trail that breaks no rule on loops, and isn't longer than a program may be
pub record EndsTurns (K : Kernel) : Type 0 where
  pub proper : Proper K
  pub single : Single K
  pub keeps : KeepsLoopRules K
  pub weighs : weight K ≤ 65535

-- after some number of steps, at most `bound`, no turn is on
pub record TurnOver (K : Kernel) (bound : ℕ) (c : Config) : Type 0 where
  pub count : ℕ
  pub within : count ≤ bound
  pub over : is_turning (steps K count c) ≡ false

abbrev pub TurnsEnd : Type 0
TurnsEnd = (K : Kernel) (f : Focus Act) (w : World) → EndsTurns K → ConfigFits K (Turning 0 f w) → Counted (Turning 0 f w) → TurnOver K longest_run (Turning 0 f w)

-- a reaction from between two turns: one step chooses its only turn, and one ends it
abbrev pub ReactionsEnd : Type 0
ReactionsEnd = (K : Kernel) (r : Residual) (w : World) → EndsTurns K → ConfigFits K (Between 0 r w) → Counted (Between 0 r w) → is_reacting (steps K (longest_run + 3) (Between 0 r w)) ≡ false

-- ---- commands and runs end

abbrev pub CommandsEnd : Type 0
CommandsEnd = (K : Kernel) (x : Command) (c : Config) → EndsTurns K → ConfigFits K c → Counted c → is_reacting c ≡ false → is_reacting (done K (longest_run + 3) x c) ≡ false

-- with that bound on each reaction every run is over, so it has an outcome
abbrev pub RunsEnd : Type 0
RunsEnd = (K : Kernel) (xs : List Command) → EndsTurns K → is_reacting (run K (longest_run + 3) xs) ≡ false

abbrev pub RunsHaveOutcomes : Type 0
RunsHaveOutcomes = (K : Kernel) (xs : List Command) → EndsTurns K → (marks : List Mark) × (status : Status) × Runs K xs marks status
