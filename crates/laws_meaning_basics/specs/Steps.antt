-- A bound on steps only cuts a run off: once a run is over, a larger bound gives the same.
use Rattle.std.specs.Prelude.{◌≡◌, ◌≤◌, ℕ, false, List}
use Rattle.ceu_base.specs.declared.kinds.Mark.{Mark}
use Rattle.ceu_tree.specs.declared.command.Command.{Command}
use Rattle.ceu_tree.specs.declared.kernel.Kernel.{Kernel}
use Rattle.ceu_tree.specs.Run.{Config, Status, is_reacting, steps, run, Runs}

abbrev pub ReactionsStand : Type 0
ReactionsStand = (K : Kernel) (n k : ℕ) (c : Config) → n ≤ k → is_reacting (steps K n c) ≡ false → steps K k c ≡ steps K n c

abbrev pub RunsStand : Type 0
RunsStand = (K : Kernel) (n k : ℕ) (xs : List Command) → n ≤ k → is_reacting (run K n xs) ≡ false → run K k xs ≡ run K n xs

-- a run has at most one outcome
abbrev pub OneOutcome : Type 0
OneOutcome = (K : Kernel) (xs : List Command) (ms ns : List Mark) (s t : Status) → Runs K xs ms s → Runs K xs ns t → (ms ≡ ns) × (s ≡ t)
