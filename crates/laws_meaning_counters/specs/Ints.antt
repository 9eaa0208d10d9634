-- Ranges that count within an int (this project's own). What the ends of a range give is not known of here: where they give ints, the range stays in them.
use Rattle.std.specs.Prelude.{◌≡◌, ℤ, pos, ◌+ℤ◌, ◌-ℤ◌, int_le, Bool, true, false, not, ◌||◌, Ok}
use Rattle.ceu_base.specs.declared.kinds.Ty.TheVariants as ty
use Rattle.ceu_base.specs.Values.{is_value, least, same, of_test}
use Rattle.ceu_tree.specs.declared.kernel.KLoop.{KLoop}
use Rattle.ceu_tree.specs.declared.kernel.KLoop.TheVariants as turns
use Rattle.ceu_tree.specs.declared.kernel.KExp.{KExp}
use Rattle.ceu_tree.specs.declared.kernel.KStmt.{out-KStmt}
use Rattle.ceu_tree.specs.declared.kernel.KStmt.TheOpen.{KStmt-F}
use Rattle.ceu_tree.specs.Residual.{Body, Program, Act, Start, Counter, Upward, Residual, InAsync, Block, Open, Loop, Call, Par, Branches, no_branch, branch, Instances, no_instance, instance}
use Rattle.ceu_tree.specs.Focus.{Frame, OfBlock, OfInstance, OfOpen, OfLoop, OfCall, OfPar, Focus, Here, In, leaf, body_of}
use Rattle.ceu_tree.specs.World.{World}
use Rattle.ceu_tree.specs.Expressions.{value_of}
use Rattle.ceu_tree.specs.Leaf.{Layer}
use Rattle.ceu_tree.specs.Around.{Outcome, Goes, Rests, Raises}
use Rattle.ceu_tree.specs.Run.{Config, Turning, Between, Waiting, Ended, Faulted}
use Rattle.laws_meaning_counters.specs.Counters.{is_first, at_loop}

-- the last value is an int, or one before the least
abbrev pub last_int : ℤ → Type 0
last_int last = (is_value ty.S32 last || same last (least ty.S32 -ℤ pos 1)) ≡ true

-- the next value is no less than an int, and in a turn its variable's value neither
pub record RangeInt (first : Bool) (next last : ℤ) : Type 0 where
  pub from : int_le (least ty.S32 +ℤ of_test (not first)) next ≡ true
  pub to : last_int last

abbrev pub turns_int : (first : Bool) → KLoop → Counter → Type 0
turns_int first (turns.Range i next end open_a a b open_b) (Upward v last) = RangeInt first v last
turns_int first k c = Unit {0}

abbrev pub layer_int : (first : Bool) → Layer → Counter → Type 0
layer_int first (KStmt-F.Loop k b) c = turns_int first k c
layer_int first layer c = Unit {0}

unfoldable mutual
  pub tree_int : Residual → Type 0
  tree_int (Block b fin all r rest) = all_int all × tree_int r
  tree_int (Open s r) = tree_int r
  tree_int (Loop s c r) = layer_int false (out-KStmt s.stmt) c × tree_int r
  tree_int (Call s r) = tree_int r
  tree_int (Par s bs) = each_int bs
  tree_int (InAsync s served r) = tree_int r
  tree_int r = Unit {0}

  pub each_int : Branches → Type 0
  each_int no_branch = Unit {0}
  each_int (branch r more) = tree_int r × each_int more

  pub all_int : Instances → Type 0
  all_int no_instance = Unit {0}
  all_int (instance seat r more) = tree_int r × all_int more

abbrev pub frame_int : (first : Bool) → Frame → Type 0
frame_int first (OfBlock b fin all rest) = all_int all
frame_int first (OfInstance b fin front seat back r rest) = all_int front × all_int back × tree_int r
frame_int first (OfOpen s) = Unit {0}
frame_int first (OfLoop s c) = layer_int first (out-KStmt s.stmt) c
frame_int first (OfCall s) = Unit {0}
frame_int first (OfPar s front back) = each_int front × each_int back

unfoldable pub focus_int : Focus Act → Type 0
focus_int (Here a) = Unit {0}
focus_int (In fr f) = frame_int (at_loop is_first f) fr × focus_int f

abbrev pub IntsStand : Config → Type 0
IntsStand (Turning n f w) = focus_int f
IntsStand (Between n r w) = tree_int r
IntsStand (Waiting r w) = tree_int r
IntsStand (Ended v w) = Unit {0}
IntsStand (Faulted e w) = Unit {0}

abbrev pub outcome_int : Outcome → Type 0
outcome_int (Goes g) = focus_int g
outcome_int (Rests r) = tree_int r
outcome_int (Raises r) = tree_int r
outcome_int x = Unit {0}

-- ---- where a range begins, its ends give ints

abbrev pub gives_int : KExp → Body → World → Type 0
gives_int e body w = (v : ℤ) → value_of e body w ≡ Ok v → is_value ty.S32 v ≡ true

abbrev pub layer_ends : Body → World → Layer → Type 0
layer_ends body w (KStmt-F.Loop (turns.Range i next end open_a a b open_b) c) = gives_int a body w × gives_int b body w
layer_ends body w layer = Unit {0}

abbrev pub act_ends : Body → World → Act → Type 0
act_ends body w (Start s) = layer_ends body w (out-KStmt s.stmt)
act_ends body w a = Unit {0}

abbrev pub EndsInt : Config → Type 0
EndsInt (Turning n f w) = act_ends (body_of f Program) w (leaf f)
EndsInt c = Unit {0}
