-- Counters of open loops that lie within the loops' constant bounds (this project's own).
use Rattle.std.specs.Prelude.{◌≤◌, ℕ, ℤ, pos, ◌+ℤ◌, ◌-ℤ◌, Option, Some, None}
use Rattle.ceu_tree.specs.declared.kernel.KLoop.{KLoop}
use Rattle.ceu_tree.specs.declared.kernel.KLoop.TheVariants as turns
use Rattle.ceu_tree.specs.declared.kernel.KStmt.{out-KStmt}
use Rattle.ceu_tree.specs.declared.kernel.KStmt.TheOpen.{KStmt-F}
use Rattle.ceu_tree.specs.Residual.{Counter, Turns, Upward, Residual, InAsync, Block, Open, Loop, Call, Par, Branches, no_branch, branch, Instances, no_instance, instance}
use Rattle.ceu_tree.specs.Focus.{Frame, OfBlock, OfInstance, OfOpen, OfLoop, OfCall, OfPar, Focus, Here, In}
use Rattle.ceu_tree.specs.Leaf.{Layer}
use Rattle.ceu_tree.specs.Paths.{length_of, constant_bound}
use Rattle.ceu_tree.specs.Run.{Config, Turning, Between, Waiting, Ended, Faulted}

-- how many turns a range has still to begin
abbrev pub turns_left : (next last : ℤ) → ℕ
turns_left next last = length_of (last -ℤ next +ℤ pos 1)

abbrev pub at_most : Option ℕ → ℕ → Type 0
at_most None k = Unit {0}
at_most (Some n) k = k ≤ n

-- a loop with a bound has begun at most so many turns, and a range with constant ends has at most so many left
abbrev pub turns_counted : KLoop → Counter → Type 0
turns_counted (turns.Times slot limit) (Turns k) = k ≤ limit
turns_counted (turns.Range i next end open_a a b open_b) (Upward at last) = at_most (constant_bound (turns.Range i next end open_a a b open_b)) (turns_left at last)
turns_counted k c = Unit {0}

abbrev pub layer_counted : Layer → Counter → Type 0
layer_counted (KStmt-F.Loop k b) c = turns_counted k c
layer_counted layer c = Unit {0}

unfoldable mutual
  pub tree_counted : Residual → Type 0
  tree_counted (Block b fin all r rest) = all_counted all × tree_counted r
  tree_counted (Open s r) = tree_counted r
  tree_counted (Loop s c r) = layer_counted (out-KStmt s.stmt) c × tree_counted r
  tree_counted (Call s r) = tree_counted r
  tree_counted (Par s bs) = each_counted bs
  tree_counted (InAsync s served r) = tree_counted r
  tree_counted r = Unit {0}

  pub each_counted : Branches → Type 0
  each_counted no_branch = Unit {0}
  each_counted (branch r more) = tree_counted r × each_counted more

  pub all_counted : Instances → Type 0
  all_counted no_instance = Unit {0}
  all_counted (instance seat r more) = tree_counted r × all_counted more

abbrev pub frame_counted : Frame → Type 0
frame_counted (OfBlock b fin all rest) = all_counted all
frame_counted (OfInstance b fin front seat back r rest) = all_counted front × all_counted back × tree_counted r
frame_counted (OfOpen s) = Unit {0}
frame_counted (OfLoop s c) = layer_counted (out-KStmt s.stmt) c
frame_counted (OfCall s) = Unit {0}
frame_counted (OfPar s front back) = each_counted front × each_counted back

unfoldable pub focus_counted : {A : Type 0} → Focus A → Type 0
focus_counted (Here a) = Unit {0}
focus_counted (In fr f) = frame_counted fr × focus_counted f

abbrev pub Counted : Config → Type 0
Counted (Turning n f w) = focus_counted f
Counted (Between n r w) = tree_counted r
Counted (Waiting r w) = tree_counted r
Counted (Ended v w) = Unit {0}
Counted (Faulted e w) = Unit {0}
