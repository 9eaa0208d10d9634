-- Every reaction of a program that breaks no rule on loops ends, within the bounds that are printed of it; and so every command and every run ends.
use Rattle.std.specs.Prelude.{◌≡◌, ◌≤◌, ℕ, ℤ, pos, false, List, Some}
use Rattle.ceu_base.specs.declared.kinds.Mark.{Mark}
use Rattle.ceu_tree.specs.declared.command.Command.{Command}
use Rattle.ceu_tree.specs.declared.kernel.Kernel.{Kernel}
use Rattle.ceu_tree.specs.Residual.{Program, Act, Finish, Residual, Run}
use Rattle.ceu_tree.specs.Focus.{Focus, plug, leaf, body_of, choose}
use Rattle.ceu_tree.specs.World.{World}
use Rattle.ceu_tree.specs.Wake.{each_leaf, runs_at, by_input, later, by_time, Unserved, unserved}
use Rattle.ceu_tree.specs.Proper.{Proper}
use Rattle.ceu_tree.specs.Run.{Config, Between, Waiting, Done, serve_first, is_reacting, booted, next, steps, done, run, Status, Runs}
use Rattle.ceu_bound.specs.PhaseB.{KeepsLoopRules}
use Rattle.laws_bounds_reactions.specs.Steady.{IsSteady}
use Rattle.laws_bounds_reactions.specs.Bounded.{IsBounded}

-- ---- steady configurations: boot's, and those that steps and commands lead to

abbrev pub BootIsSteady : Type 0
BootIsSteady = (K : Kernel) → Proper K → IsSteady K (booted K)

abbrev pub StepIsSteady : Type 0
StepIsSteady = (K : Kernel) (c : Config) → Proper K → IsSteady K c → IsSteady K (next K c)

abbrev pub CommandIsSteady : Type 0
CommandIsSteady = (K : Kernel) (n : ℕ) (x : Command) (c : Config) → Proper K → IsSteady K c → IsSteady K (done K n x c)

abbrev pub RunIsSteady : Type 0
RunIsSteady = (K : Kernel) (n : ℕ) (xs : List Command) → Proper K → IsSteady K (run K n xs)

-- ---- each reaction is bounded: that of boot, of an input, of a time, and behind an async's end

abbrev pub BootIsBounded : Type 0
BootIsBounded = (K : Kernel) → Proper K → KeepsLoopRules K → IsBounded K (booted K)

abbrev pub InputIsBounded : Type 0
InputIsBounded = (K : Kernel) (event : ℕ) (v : ℤ) (r : Residual) (w : World) → Proper K → KeepsLoopRules K → IsSteady K (Waiting r w) → IsBounded K (Between 0 (each_leaf (by_input event v) r) w)

-- where a time of m microseconds has passed, and timers that ran out are served d microseconds late
abbrev pub TimeIsBounded : Type 0
TimeIsBounded = (K : Kernel) (d m : ℕ) (r : Residual) (w : World) → Proper K → KeepsLoopRules K → IsSteady K (Waiting r w) → IsBounded K (Between 0 (each_leaf (by_time d) (each_leaf (later m) r)) w)

-- where the first async that was not served has ended, in at most b steps
abbrev pub AsyncIsBounded : Type 0
AsyncIsBounded = (K : Kernel) (b : ℕ) (g : Focus Unserved) (r : Residual) (w u : World) → Proper K → KeepsLoopRules K → IsSteady K (Waiting r w) → choose Unserved unserved r ≡ Some g
    → serve_first K b (body_of g Program) (choose Act (runs_at 0) (leaf g).inner) (leaf g).inner w ≡ Done u → IsBounded K (Between 0 (plug g (Run 0 (Finish (leaf g).stmt (pos 0)))) u)

-- ---- reactions, commands and runs end

abbrev pub ReactionsEnd : Type 0
ReactionsEnd = (K : Kernel) (n : ℕ) (r : Residual) (w : World) → Proper K → KeepsLoopRules K → IsSteady K (Between n r w) → (count : ℕ) × (is_reacting (steps K count (Between n r w)) ≡ false)

-- from some bound on steps on
abbrev pub CommandsEnd : Type 0
CommandsEnd = (K : Kernel) (x : Command) (c : Config) → Proper K → KeepsLoopRules K → IsSteady K c → is_reacting c ≡ false → (bound : ℕ) × ((n : ℕ) → bound ≤ n → is_reacting (done K n x c) ≡ false)

abbrev pub RunsEnd : Type 0
RunsEnd = (K : Kernel) (xs : List Command) → Proper K → KeepsLoopRules K → (bound : ℕ) × ((n : ℕ) → bound ≤ n → is_reacting (run K n xs) ≡ false)

abbrev pub RunsHaveOutcomes : Type 0
RunsHaveOutcomes = (K : Kernel) (xs : List Command) → Proper K → KeepsLoopRules K → (marks : List Mark) × (status : Status) × Runs K xs marks status
