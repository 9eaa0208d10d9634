-- How far open loops are: the turns that are counted, and the values of loop variables (this project's own).
--
-- Each loop with a count, and each over a range, has a slot in which it counts. An open loop is told by its open body and that slot, and what is asked of it
-- by what the slot holds.
use Rattle.std.specs.Prelude.{◌≡◌, ◌≤◌, ℕ, ℤ, pos, ◌+ℤ◌, ◌-ℤ◌, int_le, Bool, true, false, ◌==◌, ◌&&◌, Option, Some, None}
use Rattle.ceu_base.specs.Values.{of_test}
use Rattle.ceu_tree.specs.declared.kernel.KLoop.{KLoop}
use Rattle.ceu_tree.specs.declared.kernel.KLoop.TheVariants as turns
use Rattle.ceu_tree.specs.declared.kernel.KStmt.{out-KStmt}
use Rattle.ceu_tree.specs.declared.kernel.KStmt.TheOpen.{KStmt-F}
use Rattle.ceu_tree.specs.Paths.{literal}
use Rattle.ceu_tree.specs.Residual.{Body, Program, Awaited, Spawned, same_body, Act, AtHead, Counter, Turns, Upward, Residual, InAsync, Block, Open, Loop, Call, Par, Branches, no_branch, branch, Instances, no_instance, instance}
use Rattle.ceu_tree.specs.Focus.{Frame, OfBlock, OfInstance, OfOpen, OfLoop, OfCall, OfPar, Focus, Here, In, body_in}
use Rattle.ceu_tree.specs.World.{Cell, Holds, look}
use Rattle.ceu_tree.specs.Leaf.{Layer}
use Rattle.ceu_tree.specs.Run.{Config, Turning, Between, Waiting, Ended, Faulted}

-- ---- one loop

abbrev pub counts_in : ℕ → KLoop → Bool
counts_in slot turns.Free = false
counts_in slot (turns.Times own n) = own == slot
counts_in slot (turns.Range i next end open_a a b open_b) = i == slot

-- from the first value on, and up to the last one, where they are constant
abbrev pub from_first : Option ℤ → Bool → ℤ → Type 0
from_first None open_a v = Unit {0}
from_first (Some a) open_a v = int_le (a +ℤ of_test open_a) v ≡ true

abbrev pub to_last : Option ℤ → Bool → ℤ → Type 0
to_last None open_b last = Unit {0}
to_last (Some b) open_b last = last ≡ b -ℤ of_test open_b

-- in a turn the variable holds a value that the range has, and the next value is one more
pub record InRange (cell : Option Cell) (a : Option ℤ) (open_a : Bool) (b : Option ℤ) (open_b : Bool) (next last : ℤ) : Type 0 where
  pub value : ℤ
  pub held : cell ≡ Some (Holds value)
  pub next_is : next ≡ value +ℤ pos 1
  pub not_beyond : int_le value last ≡ true
  pub from : from_first a open_a value
  pub to : to_last b open_b last

-- a count of n turns has begun from 1 to n of them
abbrev pub turn_stands : Option Cell → KLoop → Counter → Type 0
turn_stands cell (turns.Times slot n) (Turns k) = (1 ≤ k) × (k ≤ n)
turn_stands cell (turns.Range i next end open_a a b open_b) (Upward v last) = InRange cell (literal a.node) open_a (literal b.node) open_b v last
turn_stands cell k c = Unit {0}

-- at the loop's head the next turn has not begun
abbrev pub head_stands : KLoop → Counter → Type 0
head_stands (turns.Times slot n) (Turns k) = k ≤ n
head_stands (turns.Range i next end open_a a b open_b) (Upward v last) = from_first (literal a.node) open_a v × to_last (literal b.node) open_b last
head_stands k c = Unit {0}

-- ---- open loops of the body `body` that count in `slot`, which holds `cell`

module _ (body : Body) (slot : ℕ) (cell : Option Cell) where
  -- a loop of the open body `here`; `first` says that its trail is at its head for the first time
  abbrev pub loop_stands : (first : Bool) → (here : Body) → Layer → Counter → Type 0
  loop_stands false here (KStmt-F.Loop k b) c = (same_body here body && counts_in slot k) ≡ true → turn_stands cell k c
  loop_stands true here (KStmt-F.Loop k b) c = (same_body here body && counts_in slot k) ≡ true → head_stands k c
  loop_stands first here layer c = Unit {0}

  unfoldable mutual
    pub loops_stand : (here : Body) → Residual → Type 0
    loops_stand here (Block b fin all r rest) = all_loops_stand all × loops_stand here r
    loops_stand here (Open s r) = loops_stand here r
    loops_stand here (Loop s c r) = loop_stands false here (out-KStmt s.stmt) c × loops_stand here r
    loops_stand here (Call s r) = loops_stand (Awaited here s.node) r
    loops_stand here (Par s bs) = each_loops_stand here bs
    loops_stand here (InAsync s served r) = loops_stand here r
    loops_stand here r = Unit {0}

    pub each_loops_stand : (here : Body) → Branches → Type 0
    each_loops_stand here no_branch = Unit {0}
    each_loops_stand here (branch r more) = loops_stand here r × each_loops_stand here more

    pub all_loops_stand : Instances → Type 0
    all_loops_stand no_instance = Unit {0}
    all_loops_stand (instance seat r more) = loops_stand (Spawned seat.number) r × all_loops_stand more

  abbrev pub frame_loops_stand : (first : Bool) → (here : Body) → Frame → Type 0
  frame_loops_stand first here (OfBlock b fin all rest) = all_loops_stand all
  frame_loops_stand first here (OfInstance b fin front seat back r rest) = all_loops_stand front × all_loops_stand back × loops_stand here r
  frame_loops_stand first here (OfOpen s) = Unit {0}
  frame_loops_stand first here (OfLoop s c) = loop_stands first here (out-KStmt s.stmt) c
  frame_loops_stand first here (OfCall s) = Unit {0}
  frame_loops_stand first here (OfPar s front back) = each_loops_stand here front × each_loops_stand here back

abbrev pub is_first : Act → Bool
is_first AtHead = true
is_first a = false

-- a trail that is at the head of the innermost loop around it; `first` says it of a leaf
abbrev pub at_loop : {A : Type 0} → (first : A → Bool) → Focus A → Bool
at_loop first (Here a) = first a
at_loop first (In fr f) = false

unfoldable pub focus_loops_stand : {A : Type 0} → Body → ℕ → Option Cell → (first : A → Bool) → (here : Body) → Focus A → Type 0
focus_loops_stand body slot cell first here (Here a) = Unit {0}
focus_loops_stand body slot cell first here (In fr f) = frame_loops_stand body slot cell (at_loop first f) here fr × focus_loops_stand body slot cell first (body_in fr here) f

-- ---- configurations

abbrev pub CountersStand : Config → Type 0
CountersStand (Turning n f w) = (body : Body) (slot : ℕ) → focus_loops_stand body slot (look body slot w.values) is_first Program f
CountersStand (Between n r w) = (body : Body) (slot : ℕ) → loops_stand body slot (look body slot w.values) Program r
CountersStand (Waiting r w) = (body : Body) (slot : ℕ) → loops_stand body slot (look body slot w.values) Program r
CountersStand (Ended v w) = Unit {0}
CountersStand (Faulted e w) = Unit {0}
