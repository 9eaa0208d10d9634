-- What the parts around a leaf do with what it comes to: one frame after the other, from the inside outward.
use Rattle.std.specs.Prelude.{ℕ, ℤ, pos, ◌+◌, ◌+ℤ◌, int_lt, Bool, true, false, ◌&&◌, if◌then◌else◌, ◌==◌, List, ◌∷◌}
use Rattle.ceu_base.specs.declared.kinds.Pos.{Pos}
use Rattle.ceu_base.specs.declared.kinds.Fault.{Fault}
use Rattle.ceu_base.specs.declared.kinds.Fault.TheVariants.{LoopLimit}
use Rattle.ceu_base.specs.declared.kinds.Mark.TheVariants as mark
use Rattle.ceu_tree.specs.declared.kernel.KLoop.{KLoop}
use Rattle.ceu_tree.specs.declared.kernel.KLoop.TheVariants as turns
use Rattle.ceu_tree.specs.declared.kernel.ParKind.{ParKind}
use Rattle.ceu_tree.specs.declared.kernel.ParKind.TheVariants as par
use Rattle.ceu_tree.specs.declared.kernel.KNode.{KNode}
use Rattle.ceu_tree.specs.declared.kernel.KBlock.{KBlock, out-KBlock}
use Rattle.ceu_tree.specs.declared.kernel.KStmt.{out-KStmt}
use Rattle.ceu_tree.specs.declared.kernel.KStmt.TheOpen.{KStmt-F}
use Rattle.ceu_tree.specs.Residual.{Body, Act, Begin, Again, Counter, Turns, Upward, Residual, Over, Block, Loop, Par, Branches, no_branch, branch, Instances}
use Rattle.ceu_tree.specs.Focus.{Frame, OfBlock, OfInstance, OfOpen, OfLoop, OfCall, OfPar, Focus, Here, In, join, join_instances, fill, plug, body_in}
use Rattle.ceu_tree.specs.World.{World, Holds, marked, set, assign_if, dead}
use Rattle.ceu_tree.specs.Abort.{aborted, closed, forget_loop, returned}
use Rattle.ceu_tree.specs.Leaf.{Layer, Exit, Escape, Continue, target, next_of, rest_of}

-- what a trail comes to inside a part
pub data Outcome : Type 0 where
  Goes : Focus Act → Outcome  -- the turn goes on there
  Rests : Residual → Outcome  -- the turn is over, and this is left of the part
  Raises : Residual → Outcome  -- so too, and the next level is open
  Fails : Fault × Pos → Residual → Outcome  -- a fault, and this is left of the part
  Past : Outcome  -- goes past its statement
  Registers : KNode → Outcome  -- so too, with that finalizer registered
  AtBlockEnd : Outcome
  AtLoopHead : Outcome
  Ends : (value : ℤ) → Outcome  -- a block has ended
  Leaves : (node : ℕ) → Exit → Outcome

pub record Moved : Type 0 where
  pub outcome : Outcome
  pub world : World

abbrev pub moved : Outcome → World → Moved
moved x w = record { outcome = x; world = w }

abbrev pub value_with : Exit → ℤ
value_with (Escape v) = v
value_with _ = pos 0

-- ---- blocks

-- the next statement, or the block's end
abbrev pub goes_on : KBlock → List KNode → Instances → List KNode → World → Moved
goes_on b fin all rest w = moved (Goes (In (OfBlock b fin all (rest_of rest)) (Here (next_of rest)))) w

-- an escape to the body whose block this is
abbrev pub body_left : Bool → KBlock → List KNode → Instances → Focus Act → Body → ℕ → Exit → World → Moved
body_left true b fin all f body node x w = moved (Ends (value_with x)) (closed b fin all body (aborted (plug f Over) body w))
body_left false b fin all f body node x w = moved (Leaves node x) w

-- ---- do and if

abbrev pub open_left : Bool → KNode → Focus Act → Body → ℕ → Exit → World → Moved
open_left true s f body node x w = moved Past (assign_if body (target s) (value_with x) (aborted (plug f Over) body w))
open_left false s f body node x w = moved (Leaves node x) w

-- ---- loops

abbrev pub again : KNode → Counter → World → Moved
again s c w = moved (Goes (In (OfLoop s c) (Here Again))) w

abbrev pub begins_turn : KNode → Counter → KBlock → World → Moved
begins_turn s c b w = moved (Goes (In (OfLoop s c) (Here (Begin b)))) w

-- the next turn, where there is one
abbrev pub turn_of : KNode → KLoop → KBlock → Counter → Body → World → Moved
turn_of s (turns.Times slot limit) b (Turns k) body w = if k == limit then moved (Fails (LoopLimit, s.pos) (Loop s (Turns k) Over)) w else begins_turn s (Turns (k + 1)) b w
turn_of s (turns.Range i at end open_a x y open_b) b (Upward next last) body w =
    if int_lt last next then moved Past (forget_loop body s.stmt w) else begins_turn s (Upward (next +ℤ pos 1) last) b (set body i (Holds next) w)
turn_of s kind b c body w = begins_turn s c b w

abbrev pub next_turn : KNode → Layer → Counter → Body → World → Moved
next_turn s (KStmt-F.Loop kind b) c body w = turn_of s kind b c body w
next_turn s _ c body w = moved Past w

abbrev pub loop_exit : KNode → Counter → Exit → Body → World → Moved
loop_exit s c Continue body w = again s c w
loop_exit s c x body w = moved Past (forget_loop body s.stmt w)

abbrev pub loop_left : Bool → KNode → Counter → Focus Act → Body → ℕ → Exit → World → Moved
loop_left true s c f body node x w = loop_exit s c x body (aborted (plug f Over) body w)
loop_left false s c f body node x w = moved (Leaves node x) w

-- ---- par

abbrev pub is_over : Residual → Bool
is_over Over = true
is_over _ = false

abbrev pub all_over : Branches → Bool
all_over no_branch = true
all_over (branch r bs) = is_over r && all_over bs

abbrev pub kind_of : Layer → ParKind
kind_of (KStmt-F.Par kind slot bs) = kind
kind_of _ = par.Never

-- a branch has ended; bs are the branches with that one over
abbrev pub rejoined : ParKind → KNode → Branches → Body → World → Moved
rejoined par.Never s bs body w = moved (Rests (Par s bs)) w
rejoined par.Or s bs body w = moved Past (aborted (Par s bs) body w)
rejoined par.And s bs body w = if all_over bs then moved Past w else moved (Rests (Par s bs)) w

-- ---- one frame around the inner focus f

abbrev pub through : Body → Frame → Focus Act → Outcome → World → Moved
through body fr f (Goes g) w = moved (Goes (In fr g)) w
through body fr f (Rests r) w = moved (Rests (fill fr r)) w
through body fr f (Raises r) w = moved (Raises (fill fr r)) w
through body fr f (Fails e r) w = moved (Fails e (fill fr r)) w
through body (OfBlock b fin all rest) f Past w = goes_on b fin all rest w
through body (OfBlock b fin all rest) f (Registers s) w = goes_on b (s ∷ fin) all rest (marked (mark.Registered s.pos) w)
through body (OfBlock b fin all rest) f AtBlockEnd w = moved (Ends (pos 0)) (closed b fin all body w)
through body (OfBlock b fin all rest) f (Leaves node x) w = body_left (node == (out-KBlock b).node) b fin all f body node x w
through body (OfOpen s) f (Ends v) w = moved Past (assign_if body (target s) v w)
through body (OfOpen s) f (Leaves node x) w = open_left (node == s.node) s f body node x w
through body (OfLoop s c) f AtLoopHead w = next_turn s (out-KStmt s.stmt) c body w
through body (OfLoop s c) f (Ends v) w = again s c w
through body (OfLoop s c) f (Leaves node x) w = loop_left (node == s.node) s c f body node x w
-- awaited code gives its value, and its body's variables are gone
through body (OfCall s) f (Ends v) w = moved Past (assign_if body (target s) v (returned body s w))
through body (OfPar s before after) f (Ends v) w = rejoined (kind_of (out-KStmt s.stmt)) s (join before (branch Over after)) body w
-- an instance that ends frees its place, and its trail ends
through body (OfInstance b fin before seat after r rest) f (Ends v) w = moved (Rests (Block b fin (join_instances before after) r rest)) (dead seat.number w)
-- an exit is handed on
through body fr f (Leaves node x) w = moved (Leaves node x) w
-- in no proper kernel does a trail come here
through body fr f x w = moved (Rests (fill fr Over)) w

-- what x, which the leaf comes to, makes of the whole focus; `body` is the open body around it
unfoldable pub up : Body → Focus Act → Outcome → World → Moved
up body (Here a) x w = moved x w
up body (In fr f) x w = let m = up (body_in fr body) f x w in through body fr f m.outcome m.world

-- of the whole focus: an exit that no part takes ends the trail (no proper kernel has one)
abbrev pub taken : Focus Act → Outcome → Outcome
taken f (Goes g) = Goes g
taken f (Rests r) = Rests r
taken f (Raises r) = Raises r
taken f (Fails e r) = Fails e r
taken f (Ends v) = Ends v
taken f (Leaves node x) = Rests (plug f Over)
taken f _ = Rests Over

abbrev pub answered : (root : Body) → Focus Act → Outcome → World → Moved
answered root f x w = let m = up root f x w in moved (taken f m.outcome) m.world
