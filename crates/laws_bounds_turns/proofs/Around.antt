-- The parts around a leaf add no mark of a turn that begins or of a level that opens, and open none where the leaf opened none.
use Rattle.std.proofs.Common.{◌≡◌, refl, ◌∙◌, ℕ, int_lt, Bool, true, false, if◌then◌else◌, ◌==◌, List}
use Rattle.ceu_tree.specs.declared.kernel.KLoop.{KLoop}
use Rattle.ceu_tree.specs.declared.kernel.KLoop.TheVariants as turns
use Rattle.ceu_tree.specs.declared.kernel.ParKind.{ParKind}
use Rattle.ceu_tree.specs.declared.kernel.ParKind.TheVariants as par
use Rattle.ceu_tree.specs.declared.kernel.KNode.{KNode}
use Rattle.ceu_tree.specs.declared.kernel.KBlock.{KBlock, out-KBlock}
use Rattle.ceu_tree.specs.declared.kernel.KStmt.{out-KStmt}
use Rattle.ceu_tree.specs.declared.kernel.KStmt.TheOpen.{KStmt-F}
use Rattle.ceu_base.specs.declared.kinds.Mark.TheVariants.{Registered}
use Rattle.ceu_tree.specs.Residual.{Body, Act, Counter, Turns, Upward, Over, Par, Branches, branch, Instances}
use Rattle.ceu_tree.specs.Focus.{Frame, OfBlock, OfInstance, OfOpen, OfLoop, OfCall, OfPar, Focus, Here, In, join, plug, body_in}
use Rattle.ceu_tree.specs.World.{World}
use Rattle.ceu_tree.specs.Abort.{aborted}
use Rattle.ceu_tree.specs.Leaf.{Layer, Exit, Escape, Break, Continue, target}
use Rattle.ceu_tree.specs.Around.{Outcome, Goes, Rests, Raises, Fails, Past, Registers, AtBlockEnd, AtLoopHead, Ends, Leaves, Moved, value_with, body_left, open_left, loop_exit, loop_left, turn_of, next_turn, all_over, kind_of, rejoined, through, up, taken, answered}
use Rattle.ceu_endings.proofs.Marks.{loop_marks, assign_marks}
use Rattle.laws_bounds_turns.proofs.Silent.{Silent, silent, onward, same_marks, mark_silent, aborted_silent, closed_silent}

-- the levels that a step opens with this outcome
abbrev pub raised : Outcome → ℕ
raised (Raises r) = 1
raised x = 0

-- what a step of a turn has come to without a mark of a turn or a level, and with so many levels to open
pub record Kept (w : World) (n : ℕ) (m : Moved) : Type 0 where
  pub marks : Silent w m.world
  pub raises : raised m.outcome ≡ n

pub after : (w u : World) (n : ℕ) (m : Moved) → Silent w u → Kept u n m → Kept w n m
after w u n m a b = record { marks = onward w u m.world a b.marks; raises = b.raises }

kept : (x : Outcome) (w : World) → Kept w (raised x) (record { outcome = x; world = w })
kept x w = record { marks = silent w; raises = refl }

either_kept : (w : World) (b : Bool) (x y : Moved) → Kept w 0 x → Kept w 0 y → Kept w 0 (if b then x else y)
either_kept w true x y h k = h
either_kept w false x y h k = k

left_kept : (t : Bool) (b : KBlock) (fin : List KNode) (all : Instances) (f : Focus Act) (body : Body) (n : ℕ) (x : Exit) (w : World) → Kept w 0 (body_left t b fin all f body n x w)
left_kept true b fin all f body n x w =
    let u = aborted (plug f Over) body w in record { marks = onward w u _ (aborted_silent (plug f Over) body w) (closed_silent b fin all body u); raises = refl }
left_kept false b fin all f body n x w = kept (Leaves n x) w

open_kept : (t : Bool) (s : KNode) (f : Focus Act) (body : Body) (n : ℕ) (x : Exit) (w : World) → Kept w 0 (open_left t s f body n x w)
open_kept true s f body n x w =
    let u = aborted (plug f Over) body w in
    record { marks = onward w u _ (aborted_silent (plug f Over) body w) (same_marks u _ (assign_marks body (target s) (value_with x) u)); raises = refl }
open_kept false s f body n x w = kept (Leaves n x) w

exit_kept : (s : KNode) (c : Counter) (x : Exit) (body : Body) (w : World) → Kept w 0 (loop_exit s c x body w)
exit_kept s c Continue body w = record { marks = silent w; raises = refl }
exit_kept s c Break body w = record { marks = same_marks w _ (loop_marks body s.stmt w); raises = refl }
exit_kept s c (Escape v) body w = record { marks = same_marks w _ (loop_marks body s.stmt w); raises = refl }

loop_kept : (t : Bool) (s : KNode) (c : Counter) (f : Focus Act) (body : Body) (n : ℕ) (x : Exit) (w : World) → Kept w 0 (loop_left t s c f body n x w)
loop_kept true s c f body n x w = let u = aborted (plug f Over) body w in after w u 0 _ (aborted_silent (plug f Over) body w) (exit_kept s c x body u)
loop_kept false s c f body n x w = kept (Leaves n x) w

turn_kept : (s : KNode) (k : KLoop) (b : KBlock) (c : Counter) (body : Body) (w : World) → Kept w 0 (turn_of s k b c body w)
turn_kept s (turns.Times slot limit) b (Turns j) body w = either_kept w (j == limit) _ _ (record { marks = silent w; raises = refl }) (record { marks = silent w; raises = refl })
turn_kept s (turns.Range i at end open_a x y open_b) b (Upward next last) body w =
    either_kept w (int_lt last next) _ _ (record { marks = same_marks w _ (loop_marks body s.stmt w); raises = refl }) (record { marks = same_marks w _ refl; raises = refl })
turn_kept s k b c body w = record { marks = silent w; raises = refl }

next_kept : (s : KNode) (layer : Layer) (c : Counter) (body : Body) (w : World) → Kept w 0 (next_turn s layer c body w)
next_kept s (KStmt-F.Loop k b) c body w = turn_kept s k b c body w
next_kept s layer c body w = kept Past w

rejoined_kept : (k : ParKind) (s : KNode) (bs : Branches) (body : Body) (w : World) → Kept w 0 (rejoined k s bs body w)
rejoined_kept par.Never s bs body w = kept (Rests (Par s bs)) w
rejoined_kept par.Or s bs body w = record { marks = aborted_silent (Par s bs) body w; raises = refl }
rejoined_kept par.And s bs body w = either_kept w (all_over bs) _ _ (kept Past w) (kept (Rests (Par s bs)) w)

-- ---- one frame, and all of them

through_kept : (body : Body) (fr : Frame) (f : Focus Act) (x : Outcome) (w : World) → Kept w (raised x) (through body fr f x w)
through_kept body fr f (Goes g) w = record { marks = silent w; raises = refl }
through_kept body fr f (Rests r) w = record { marks = silent w; raises = refl }
through_kept body fr f (Raises r) w = record { marks = silent w; raises = refl }
through_kept body fr f (Fails e r) w = record { marks = silent w; raises = refl }
through_kept body (OfBlock b fin all rest) f Past w = record { marks = silent w; raises = refl }
through_kept body (OfBlock b fin all rest) f (Registers s) w = record { marks = mark_silent (Registered s.pos) w refl refl; raises = refl }
through_kept body (OfBlock b fin all rest) f AtBlockEnd w = record { marks = closed_silent b fin all body w; raises = refl }
through_kept body (OfBlock b fin all rest) f (Leaves node x) w = left_kept (node == (out-KBlock b).node) b fin all f body node x w
through_kept body (OfOpen s) f (Ends v) w = record { marks = same_marks w _ (assign_marks body (target s) v w); raises = refl }
through_kept body (OfOpen s) f (Leaves node x) w = open_kept (node == s.node) s f body node x w
through_kept body (OfLoop s c) f AtLoopHead w = next_kept s (out-KStmt s.stmt) c body w
through_kept body (OfLoop s c) f (Ends v) w = record { marks = silent w; raises = refl }
through_kept body (OfLoop s c) f (Leaves node x) w = loop_kept (node == s.node) s c f body node x w
through_kept body (OfCall s) f (Ends v) w = record { marks = same_marks w _ (assign_marks body (target s) v _); raises = refl }
through_kept body (OfPar s before back) f (Ends v) w = rejoined_kept (kind_of (out-KStmt s.stmt)) s (join before (branch Over back)) body w
through_kept body (OfInstance b fin before seat back r rest) f (Ends v) w = record { marks = same_marks w _ refl; raises = refl }
through_kept body (OfInstance b fin before seat back r rest) f (Leaves node x) w = record { marks = silent w; raises = refl }
through_kept body (OfCall s) f (Leaves node x) w = record { marks = silent w; raises = refl }
through_kept body (OfPar s before back) f (Leaves node x) w = record { marks = silent w; raises = refl }
through_kept body fr f x w = record { marks = silent w; raises = refl }

pub up_kept : (body : Body) (f : Focus Act) (x : Outcome) (w : World) → Kept w (raised x) (up body f x w)
unfolding up
up_kept body (Here a) x w = record { marks = silent w; raises = refl }
up_kept body (In fr f) x w =
    let m = up (body_in fr body) f x w in
    let i = up_kept (body_in fr body) f x w in
    let j = through_kept body fr f m.outcome m.world in
    record { marks = onward w m.world _ i.marks j.marks; raises = j.raises ∙ i.raises }

taken_raises : (f : Focus Act) (x : Outcome) → raised (taken f x) ≡ raised x
taken_raises f (Goes g) = refl
taken_raises f (Rests r) = refl
taken_raises f (Raises r) = refl
taken_raises f (Fails e r) = refl
taken_raises f (Ends v) = refl
taken_raises f (Leaves node x) = refl
taken_raises f x = refl

pub answered_kept : (root : Body) (f : Focus Act) (x : Outcome) (w : World) → Kept w (raised x) (answered root f x w)
answered_kept root f x w =
    let m = up root f x w in let i = up_kept root f x w in record { marks = i.marks; raises = taken_raises f m.outcome ∙ i.raises }
