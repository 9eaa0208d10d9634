-- What the parts around a leaf do keeps each instance at its place in its pool.
use Rattle.std.proofs.Common.{ℕ, int_lt, Bool, true, false, if◌then◌else◌, ◌==◌, List}
use Rattle.ceu_tree.specs.declared.kernel.KLoop.{KLoop}
use Rattle.ceu_tree.specs.declared.kernel.KLoop.TheVariants as turns
use Rattle.ceu_tree.specs.declared.kernel.ParKind.{ParKind}
use Rattle.ceu_tree.specs.declared.kernel.ParKind.TheVariants as par
use Rattle.ceu_tree.specs.declared.kernel.KNode.{KNode}
use Rattle.ceu_tree.specs.declared.kernel.KBlock.{KBlock, out-KBlock}
use Rattle.ceu_tree.specs.declared.kernel.KStmt.{out-KStmt}
use Rattle.ceu_tree.specs.declared.kernel.KStmt.TheOpen.{KStmt-F}
use Rattle.ceu_tree.specs.Residual.{Body, Act, Counter, Turns, Upward, Over, Branches, branch, Instances}
use Rattle.ceu_tree.specs.Focus.{Frame, OfBlock, OfInstance, OfOpen, OfLoop, OfCall, OfPar, Focus, Here, In, join, body_in}
use Rattle.ceu_tree.specs.World.{World}
use Rattle.ceu_tree.specs.Leaf.{Layer, Exit, Escape, Break, Continue}
use Rattle.ceu_tree.specs.Around.{Outcome, Goes, Rests, Raises, Fails, Past, Registers, AtBlockEnd, AtLoopHead, Ends, Leaves, Moved, body_left, open_left, turn_of, next_turn, loop_exit, loop_left, all_over, kind_of, rejoined, through, up, taken, answered}
use Rattle.laws_meaning_instances.specs.Instances.{pools_stand, each_pools_stand}
use Rattle.laws_meaning_instances.proofs.Trees.{frame_stands, focus_stands, joined, seats_less, filled, plugged}

abbrev pub OutcomeStands : Outcome → Type 0
OutcomeStands (Goes g) = focus_stands g
OutcomeStands (Rests r) = pools_stand r
OutcomeStands (Raises r) = pools_stand r
OutcomeStands (Fails e r) = pools_stand r
OutcomeStands x = Unit {0}

abbrev pub Fine : Moved → Type 0
Fine m = OutcomeStands m.outcome

body_left_fine : (t : Bool) (b : KBlock) (fin : List KNode) (all : Instances) (f : Focus Act) (body : Body) (node : ℕ) (x : Exit) (w : World) → Fine (body_left t b fin all f body node x w)
body_left_fine true b fin all f body node x w = tt
body_left_fine false b fin all f body node x w = tt

open_left_fine : (t : Bool) (s : KNode) (f : Focus Act) (body : Body) (node : ℕ) (x : Exit) (w : World) → Fine (open_left t s f body node x w)
open_left_fine true s f body node x w = tt
open_left_fine false s f body node x w = tt

either : (b : Bool) (x y : Moved) → Fine x → Fine y → Fine (if b then x else y)
either true x y h k = h
either false x y h k = k

turn_fine : (s : KNode) (k : KLoop) (b : KBlock) (c : Counter) (body : Body) (w : World) → Fine (turn_of s k b c body w)
unfolding pools_stand focus_stands
turn_fine s (turns.Times slot limit) b (Turns j) body w = either (j == limit) _ _ tt (tt, tt)
turn_fine s (turns.Range i next end open_a x y open_b) b (Upward v last) body w = either (int_lt last v) _ _ tt (tt, tt)
turn_fine s k b c body w = (tt, tt)

next_turn_fine : (s : KNode) (layer : Layer) (c : Counter) (body : Body) (w : World) → Fine (next_turn s layer c body w)
next_turn_fine s (KStmt-F.Loop k b) c body w = turn_fine s k b c body w
next_turn_fine s layer c body w = tt

loop_exit_fine : (s : KNode) (c : Counter) (x : Exit) (body : Body) (w : World) → Fine (loop_exit s c x body w)
unfolding focus_stands
loop_exit_fine s c Continue body w = (tt, tt)
loop_exit_fine s c Break body w = tt
loop_exit_fine s c (Escape v) body w = tt

loop_left_fine : (t : Bool) (s : KNode) (c : Counter) (f : Focus Act) (body : Body) (node : ℕ) (x : Exit) (w : World) → Fine (loop_left t s c f body node x w)
loop_left_fine true s c f body node x w = loop_exit_fine s c x body _
loop_left_fine false s c f body node x w = tt

rejoined_fine : (k : ParKind) (s : KNode) (bs : Branches) (body : Body) (w : World) → each_pools_stand bs → Fine (rejoined k s bs body w)
unfolding pools_stand
rejoined_fine par.Never s bs body w h = h
rejoined_fine par.Or s bs body w h = tt
rejoined_fine par.And s bs body w h = either (all_over bs) _ _ tt h

through_fine : (body : Body) (fr : Frame) (f : Focus Act) (x : Outcome) (w : World) → frame_stands fr → OutcomeStands x → Fine (through body fr f x w)
unfolding pools_stand focus_stands
through_fine body fr f (Goes g) w h k = (h, k)
through_fine body fr f (Rests r) w h k = filled fr r h k
through_fine body fr f (Raises r) w h k = filled fr r h k
through_fine body fr f (Fails e r) w h k = filled fr r h k
through_fine body (OfBlock b fin all rest) f Past w h k = (h, tt)
through_fine body (OfBlock b fin all rest) f (Registers s) w h k = (h, tt)
through_fine body (OfBlock b fin all rest) f AtBlockEnd w h k = tt
through_fine body (OfBlock b fin all rest) f (Leaves node x) w h k = body_left_fine (node == (out-KBlock b).node) b fin all f body node x w
through_fine body (OfOpen s) f (Ends v) w h k = tt
through_fine body (OfOpen s) f (Leaves node x) w h k = open_left_fine (node == s.node) s f body node x w
through_fine body (OfLoop s c) f AtLoopHead w h k = next_turn_fine s (out-KStmt s.stmt) c body w
through_fine body (OfLoop s c) f (Ends v) w h k = (tt, tt)
through_fine body (OfLoop s c) f (Leaves node x) w h k = loop_left_fine (node == s.node) s c f body node x w
through_fine body (OfCall s) f (Ends v) w h k = tt
through_fine body (OfPar s front back) f (Ends v) w h k = rejoined_fine (kind_of (out-KStmt s.stmt)) s (join front (branch Over back)) body w (joined front (branch Over back) h.0 (tt, h.1))
through_fine body (OfInstance b fin front seat back r rest) f (Ends v) w h k = (seats_less (out-KBlock b).decls front seat Over back h.0, h.1)
through_fine body fr f (Leaves node x) w h k = tt
through_fine body fr f x w h k = filled fr Over h tt

up_fine : (body : Body) (f : Focus Act) (x : Outcome) (w : World) → focus_stands f → OutcomeStands x → Fine (up body f x w)
unfolding up focus_stands
up_fine body (Here a) x w h k = k
up_fine body (In fr f) x w h k = through_fine body fr f (up (body_in fr body) f x w).outcome (up (body_in fr body) f x w).world h.0 (up_fine (body_in fr body) f x w h.1 k)

taken_fine : (f : Focus Act) (x : Outcome) → focus_stands f → OutcomeStands x → OutcomeStands (taken f x)
unfolding pools_stand
taken_fine f (Goes g) h k = k
taken_fine f (Rests r) h k = k
taken_fine f (Raises r) h k = k
taken_fine f (Fails e r) h k = k
taken_fine f (Ends v) h k = tt
taken_fine f (Leaves node x) h k = plugged f Over h tt
taken_fine f x h k = tt

pub answered_fine : (root : Body) (f : Focus Act) (x : Outcome) (w : World) → focus_stands f → OutcomeStands x → OutcomeStands (answered root f x w).outcome
answered_fine root f x w h k = taken_fine f (up root f x w).outcome h (up_fine root f x w h k)
