-- What the numbers that are printed of a text promise: every reaction of each of its runs ends, within them, and every run has just one outcome.
use Rattle.std.specs.Prelude.{◌≡◌, ℕ, ℤ, pos, List, Some}
use Rattle.ceu_base.specs.declared.kinds.Mark.{Mark}
use Rattle.ceu_tree.specs.declared.command.Command.{Command}
use Rattle.ceu_tree.specs.declared.kernel.Kernel.{Kernel}
use Rattle.ceu_tree.specs.Residual.{Program, Act, Finish, Residual, Run}
use Rattle.ceu_tree.specs.Focus.{Focus, plug, leaf, body_of, choose}
use Rattle.ceu_tree.specs.World.{World}
use Rattle.ceu_tree.specs.Wake.{each_leaf, runs_at, by_input, later, by_time, Unserved, unserved}
use Rattle.ceu_tree.specs.Run.{Between, Waiting, Done, serve_first, booted, run, Status, Runs}
use Rattle.laws_bounds_reactions.specs.Bounded.{IsBounded}
use Rattle.ceu_compile.specs.Programs.{IsProgram}

-- The reaction of boot is within the turns and levels of the kernel, and so is each reaction that begins where a run waits: of an input, of a time that has
-- passed, and behind the end of an async.
pub record StaysBounded (K : Kernel) : Type 0 where
  pub boot : IsBounded K (booted K)
  pub input : (n : ℕ) (xs : List Command) (r : Residual) (w : World) → run K n xs ≡ Waiting r w → (event : ℕ) (v : ℤ) → IsBounded K (Between 0 (each_leaf (by_input event v) r) w)
  pub time : (n : ℕ) (xs : List Command) (r : Residual) (w : World) → run K n xs ≡ Waiting r w → (d m : ℕ) → IsBounded K (Between 0 (each_leaf (by_time d) (each_leaf (later m) r)) w)
  pub async : (n : ℕ) (xs : List Command) (r : Residual) (w : World) → run K n xs ≡ Waiting r w → (b : ℕ) (g : Focus Unserved) (u : World) → choose Unserved unserved r ≡ Some g
      → serve_first K b (body_of g Program) (choose Act (runs_at 0) (leaf g).inner) (leaf g).inner w ≡ Done u → IsBounded K (Between 0 (plug g (Run 0 (Finish (leaf g).stmt (pos 0)))) u)

-- The reactions of a text that breaks no rule stay within the turns and levels of its kernel, which its memory line names, and end.
abbrev pub TextsStayBounded : Type 0
TextsStayBounded = (text : List ℕ) (K : Kernel) → IsProgram text K → StaysBounded K

-- the marks and the status of a run, and there are no others
pub record HasOneOutcome (K : Kernel) (xs : List Command) : Type 0 where
  pub marks : List Mark
  pub status : Status
  pub runs : Runs K xs marks status
  pub alone : (other : List Mark) (end : Status) → Runs K xs other end → (other ≡ marks) × (end ≡ status)

-- Each run of it, on any list of commands, has just one outcome.
abbrev pub TextsHaveOutcomes : Type 0
TextsHaveOutcomes = (text : List ℕ) (K : Kernel) (xs : List Command) → IsProgram text K → HasOneOutcome K xs
