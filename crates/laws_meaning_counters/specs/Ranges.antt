-- Remaining times and counted turns in their ranges.
use Rattle.std.specs.Prelude.{◌≤◌, ℕ, ◌^◌, ◌-◌, List}
use Rattle.ceu_tree.specs.declared.command.Command.{Command}
use Rattle.ceu_tree.specs.declared.kernel.Kernel.{Kernel}
use Rattle.ceu_tree.specs.declared.kernel.KLoop.{KLoop}
use Rattle.ceu_tree.specs.declared.kernel.KLoop.TheVariants as turns
use Rattle.ceu_tree.specs.declared.kernel.KStmt.{out-KStmt}
use Rattle.ceu_tree.specs.declared.kernel.KStmt.TheOpen.{KStmt-F}
use Rattle.ceu_tree.specs.Residual.{Counter, Turns, Residual, WaitTime, InAsync, Block, Open, Loop, Call, Par, Branches, no_branch, branch, Instances, no_instance, instance}
use Rattle.ceu_tree.specs.Focus.{Frame, OfBlock, OfInstance, OfOpen, OfLoop, OfCall, OfPar, Focus, Here, In}
use Rattle.ceu_tree.specs.Leaf.{Layer}
use Rattle.ceu_tree.specs.Run.{Config, Turning, Between, Waiting, Ended, Faulted, next, done, run}

-- a loop with a bound has begun at most so many turns
abbrev pub turns_counted : KLoop → Counter → Type 0
turns_counted (turns.Times slot limit) (Turns k) = k ≤ limit
turns_counted k c = Unit {0}

abbrev pub counted : Layer → Counter → Type 0
counted (KStmt-F.Loop k b) c = turns_counted k c
counted layer c = Unit {0}

unfoldable mutual
  pub in_range : Residual → Type 0
  in_range (WaitTime left s) = (1 ≤ left) × (left ≤ 2 ^ 63 - 1)
  in_range (Block b fin all r rest) = all_in_range all × in_range r
  in_range (Open s r) = in_range r
  in_range (Loop s c r) = counted (out-KStmt s.stmt) c × in_range r
  in_range (Call s r) = in_range r
  in_range (Par s bs) = each_in_range bs
  in_range (InAsync s served r) = in_range r
  in_range r = Unit {0}

  pub each_in_range : Branches → Type 0
  each_in_range no_branch = Unit {0}
  each_in_range (branch r more) = in_range r × each_in_range more

  pub all_in_range : Instances → Type 0
  all_in_range no_instance = Unit {0}
  all_in_range (instance seat r more) = in_range r × all_in_range more

abbrev pub frame_in_range : Frame → Type 0
frame_in_range (OfBlock b fin all rest) = all_in_range all
frame_in_range (OfInstance b fin front seat back r rest) = all_in_range front × all_in_range back × in_range r
frame_in_range (OfOpen s) = Unit {0}
frame_in_range (OfLoop s c) = counted (out-KStmt s.stmt) c
frame_in_range (OfCall s) = Unit {0}
frame_in_range (OfPar s front back) = each_in_range front × each_in_range back

unfoldable pub focus_in_range : {A : Type 0} → Focus A → Type 0
focus_in_range (Here a) = Unit {0}
focus_in_range (In fr f) = frame_in_range fr × focus_in_range f

abbrev pub ConfigInRange : Config → Type 0
ConfigInRange (Turning n f w) = focus_in_range f
ConfigInRange (Between n r w) = in_range r
ConfigInRange (Waiting r w) = in_range r
ConfigInRange (Ended v w) = Unit {0}
ConfigInRange (Faulted e w) = Unit {0}

-- In every run of every kernel the remaining times lie from 1 to 2^63 - 1, and no loop with a bound has begun more turns than that.
abbrev pub RunInRange : Type 0
RunInRange = (K : Kernel) (n : ℕ) (xs : List Command) → ConfigInRange (run K n xs)

abbrev pub StepInRange : Type 0
StepInRange = (K : Kernel) (c : Config) → ConfigInRange c → ConfigInRange (next K c)

abbrev pub CommandInRange : Type 0
CommandInRange = (K : Kernel) (n : ℕ) (x : Command) (c : Config) → ConfigInRange c → ConfigInRange (done K n x c)
