-- A step of a program of one trail runs no finalizer: no fault of one is noted, and what a fault leaves is aborted without any mark.
use Rattle.std.proofs.Common.{◌≡◌, refl, sym, ◌∙◌, subst, ℕ, int_lt, Bool, true, false, if◌then◌else◌, ◌==◌, List, [], ◌∷◌, Option, Some, None, Result, Ok, Err}
use Rattle.ceu_base.specs.declared.kinds.Pos.{Pos}
use Rattle.ceu_base.specs.declared.kinds.Fault.{Fault}
use Rattle.ceu_tree.specs.declared.kernel.Kernel.{Kernel}
use Rattle.ceu_tree.specs.declared.kernel.KDecl.{KDecl}
use Rattle.ceu_tree.specs.declared.kernel.KLoop.{KLoop}
use Rattle.ceu_tree.specs.declared.kernel.KLoop.TheVariants as turns
use Rattle.ceu_tree.specs.declared.kernel.KNode.{KNode}
use Rattle.ceu_tree.specs.declared.kernel.KBlock.{KBlock, out-KBlock}
use Rattle.ceu_tree.specs.declared.kernel.KStmt as kernel
use Rattle.ceu_tree.specs.declared.kernel.KStmt.{KStmt, out-KStmt}
use Rattle.ceu_tree.specs.declared.kernel.KStmt.TheOpen.{KStmt-F}
use Rattle.ceu_tree.specs.declared.kernel.Loc.{Loc}
use Rattle.ceu_tree.specs.Residual.{Body, Program, Act, Begin, Start, Finish, AtEnd, AtHead, Again, Counter, Turns, Upward, Residual, Over, Run, WaitInput, WaitTime, WaitForever, Block, Open, Loop, Instances, no_instance}
use Rattle.ceu_tree.specs.Focus.{Frame, OfBlock, OfOpen, OfLoop, Focus, Here, In, fill, plug, leaf, body_in, body_of}
use Rattle.ceu_tree.specs.World.{World, assign_if, forget_declared}
use Rattle.ceu_tree.specs.Expressions.{value_of, value_if}
use Rattle.ceu_tree.specs.Abort.{forget_turns, forget_loop, aborted, closed}
use Rattle.ceu_tree.specs.Leaf as does
use Rattle.ceu_tree.specs.Leaf.{Layer, Exit, Escape, Break, Continue, Does, Done, or_fails, chosen_part, loop_reached, target, started, acted}
use Rattle.ceu_tree.specs.Around.{Outcome, Goes, Rests, Raises, Fails, Past, Registers, AtBlockEnd, AtLoopHead, Ends, Leaves, Moved, moved, value_with, body_left, open_left, loop_exit, loop_left, turn_of, next_turn, through, up, taken}
use Rattle.ceu_tree.specs.Step.{stepped}
use Rattle.ceu_tree.specs.Proper.{is_proper}
use Rattle.ceu_tree.specs.Run.{Turning}
use Rattle.laws_meaning_basics.specs.Shape.{ActFits, begins, heads, goes_again, starts, finishes, ends, ConfigFits}
use Rattle.ceu_single.specs.Single.{is_single}
use Rattle.ceu_endings.specs.OneTrail.{PlainFrame, PlainFocus}
use Rattle.ceu_endings.proofs.Local.{does_local, local}
use Rattle.ceu_endings.proofs.Shapes.{LayerSingle, PartSingle, layer_single, plain_focus, no_codes}
use Rattle.ceu_endings.proofs.Over.{turn_steps}

-- ---- what is aborted

-- no finalizer is registered in it, and no instance lives in it
unfoldable pub Clear : Residual → Type 0
Clear Over = Unit {0}
Clear (Run n a) = Unit {0}
Clear (WaitInput k s) = Unit {0}
Clear (WaitTime d s) = Unit {0}
Clear (WaitForever s) = Unit {0}
Clear (Block b fin all r rest) = (fin ≡ []) × (all ≡ no_instance) × Clear r
Clear (Open s r) = Clear r
Clear (Loop s c r) = Clear r
Clear r = ⊥

-- neither a fault nor a mark is new
pub record Quietly (w u : World) : Type 0 where
  pub fault : u.fault ≡ w.fault
  pub marks : u.marks ≡ w.marks

same : (w : World) → Quietly w w
same w = record { fault = refl; marks = refl }

after : (w v u : World) → Quietly w v → Quietly v u → Quietly w u
after w v u a b = record { fault = b.fault ∙ a.fault; marks = b.marks ∙ a.marks }

forget_quietly : (body : Body) (ds : List KDecl) (w : World) → Quietly w (forget_declared body ds w)
forget_quietly body [] w = same w
forget_quietly body (d ∷ ds) w = let x = forget_quietly body ds _ in record { fault = x.fault; marks = x.marks }

turns_quietly : (body : Body) (k : KLoop) (w : World) → Quietly w (forget_turns body k w)
turns_quietly body turns.Free w = same w
turns_quietly body (turns.Times slot n) w = same w
turns_quietly body (turns.Range i next end open_a a b open_b) w = record { fault = refl; marks = refl }

loop_quietly : (body : Body) (st : KStmt) (w : World) → Quietly w (forget_loop body st w)
loop_quietly body (kernel.Loop k b) w = turns_quietly body k w
loop_quietly body st w = same w

assign_quietly : (body : Body) (l : Option Loc) (v : _) (w : World) → Quietly w (assign_if body l v w)
assign_quietly body None v w = same w
assign_quietly body (Some l) v w = record { fault = refl; marks = refl }

closed_quietly : (b : KBlock) (fin : List KNode) (all : Instances) (body : Body) (w : World) → fin ≡ [] → all ≡ no_instance → Quietly w (closed b fin all body w)
unfolding aborted
closed_quietly b fin all body w e q =
    let x : Quietly w (closed b [] no_instance body w) = forget_quietly body (out-KBlock b).decls w in
    subst (λ (l : List KNode). Quietly w (closed b l all body w)) (sym e) (subst (λ (i : Instances). Quietly w (closed b [] i body w)) (sym q) x)

pub aborted_quietly : (r : Residual) (body : Body) (w : World) → Clear r → Quietly w (aborted r body w)
unfolding Clear aborted
aborted_quietly (Block b fin all r rest) body w h = let u = aborted r body w in after w u (closed b fin all body u) (aborted_quietly r body w h.2) (closed_quietly b fin all body u h.0 h.1)
aborted_quietly (Open s r) body w h = aborted_quietly r body w h
aborted_quietly (Loop s c r) body w h = let u = aborted r body w in after w u (forget_loop body s.stmt u) (aborted_quietly r body w h) (loop_quietly body s.stmt u)
aborted_quietly Over body w h = same w
aborted_quietly (Run n a) body w h = same w
aborted_quietly (WaitInput k s) body w h = same w
aborted_quietly (WaitTime d s) body w h = same w
aborted_quietly (WaitForever s) body w h = same w
aborted_quietly r body w h = absurd h

fill_clear : (fr : Frame) (r : Residual) → PlainFrame fr → Clear r → Clear (fill fr r)
unfolding Clear
fill_clear (OfBlock b fin all rest) r h k = (h.0, h.1, k)
fill_clear (OfOpen s) r h k = k
fill_clear (OfLoop s c) r h k = k
fill_clear fr r h k = absurd h

plug_clear : (f : Focus Act) (r : Residual) → PlainFocus f → Clear r → Clear (plug f r)
unfolding PlainFocus
plug_clear (Here a) r h k = k
plug_clear (In fr f) r h k = fill_clear fr (plug f r) h.0 (plug_clear f r h.1 k)

over_clear : Clear Over
unfolding Clear
over_clear = tt

loop_clear : (s : KNode) (c : Counter) → Clear (Loop s c Over)
unfolding Clear
loop_clear s c = tt

-- ---- what a part comes to

abbrev pub FailsClear : Outcome → Type 0
FailsClear (Fails e r) = Clear r
FailsClear x = Unit {0}

pub record Unharmed (w : World) (m : Moved) : Type 0 where
  pub fault : m.world.fault ≡ w.fault
  pub clear : FailsClear m.outcome

kept : (w : World) (m : Moved) → Quietly w m.world → FailsClear m.outcome → Unharmed w m
kept w m q h = record { fault = q.fault; clear = h }

left_unharmed : (t : Bool) (b : KBlock) (fin : List KNode) (all : Instances) (f : Focus Act) (body : Body) (n : ℕ) (x : Exit) (w : World) → PlainFocus f → fin ≡ [] → all ≡ no_instance → Unharmed w (body_left t b fin all f body n x w)
left_unharmed true b fin all f body n x w h e q =
    let u = aborted (plug f Over) body w in kept w _ (after w u _ (aborted_quietly (plug f Over) body w (plug_clear f Over h over_clear)) (closed_quietly b fin all body u e q)) tt
left_unharmed false b fin all f body n x w h e q = kept w _ (same w) tt

open_unharmed : (t : Bool) (s : KNode) (f : Focus Act) (body : Body) (n : ℕ) (x : Exit) (w : World) → PlainFocus f → Unharmed w (open_left t s f body n x w)
open_unharmed true s f body n x w h =
    let u = aborted (plug f Over) body w in kept w _ (after w u _ (aborted_quietly (plug f Over) body w (plug_clear f Over h over_clear)) (assign_quietly body (target s) (value_with x) u)) tt
open_unharmed false s f body n x w h = kept w _ (same w) tt

exit_unharmed : (s : KNode) (c : Counter) (x : Exit) (body : Body) (v w : World) → Quietly v w → Unharmed v (loop_exit s c x body w)
exit_unharmed s c Continue body v w h = kept v _ h tt
exit_unharmed s c Break body v w h = kept v _ (after v w _ h (loop_quietly body s.stmt w)) tt
exit_unharmed s c (Escape y) body v w h = kept v _ (after v w _ h (loop_quietly body s.stmt w)) tt

loop_unharmed : (t : Bool) (s : KNode) (c : Counter) (f : Focus Act) (body : Body) (n : ℕ) (x : Exit) (w : World) → PlainFocus f → Unharmed w (loop_left t s c f body n x w)
loop_unharmed true s c f body n x w h = exit_unharmed s c x body w _ (aborted_quietly (plug f Over) body w (plug_clear f Over h over_clear))
loop_unharmed false s c f body n x w h = kept w _ (same w) tt

either_unharmed : (w : World) (b : Bool) (x y : Moved) → Unharmed w x → Unharmed w y → Unharmed w (if b then x else y)
either_unharmed w true x y h k = h
either_unharmed w false x y h k = k

turn_unharmed : (s : KNode) (k : KLoop) (b : KBlock) (c : Counter) (body : Body) (w : World) → Unharmed w (turn_of s k b c body w)
turn_unharmed s (turns.Times slot limit) b (Turns j) body w = either_unharmed w (j == limit) _ _ (kept w _ (same w) (loop_clear s (Turns j))) (kept w _ (same w) tt)
turn_unharmed s (turns.Range i at end open_a x y open_b) b (Upward next last) body w = either_unharmed w (int_lt last next) _ _ (kept w _ (loop_quietly body s.stmt w) tt) (record { fault = refl; clear = tt })
turn_unharmed s k b c body w = kept w _ (same w) tt

next_unharmed : (s : KNode) (layer : Layer) (c : Counter) (body : Body) (w : World) → Unharmed w (next_turn s layer c body w)
next_unharmed s (KStmt-F.Loop k b) c body w = turn_unharmed s k b c body w
next_unharmed s layer c body w = kept w _ (same w) tt

through_unharmed : (body : Body) (fr : Frame) (f : Focus Act) (x : Outcome) (w : World) → PlainFrame fr → PlainFocus f → FailsClear x → Unharmed w (through body fr f x w)
through_unharmed body fr f (Goes g) w h p c = kept w _ (same w) tt
through_unharmed body fr f (Rests r) w h p c = kept w _ (same w) tt
through_unharmed body fr f (Raises r) w h p c = kept w _ (same w) tt
through_unharmed body fr f (Fails e r) w h p c = kept w _ (same w) (fill_clear fr r h c)
through_unharmed body (OfBlock b fin all rest) f Past w h p c = kept w _ (same w) tt
through_unharmed body (OfBlock b fin all rest) f (Registers s) w h p c = record { fault = refl; clear = tt }
through_unharmed body (OfBlock b fin all rest) f AtBlockEnd w h p c = kept w _ (closed_quietly b fin all body w h.0 h.1) tt
through_unharmed body (OfBlock b fin all rest) f (Leaves node x) w h p c = left_unharmed (node == (out-KBlock b).node) b fin all f body node x w p h.0 h.1
through_unharmed body (OfOpen s) f (Ends v) w h p c = kept w _ (assign_quietly body (target s) v w) tt
through_unharmed body (OfOpen s) f (Leaves node x) w h p c = open_unharmed (node == s.node) s f body node x w p
through_unharmed body (OfLoop s d) f AtLoopHead w h p c = next_unharmed s (out-KStmt s.stmt) d body w
through_unharmed body (OfLoop s d) f (Ends v) w h p c = kept w _ (same w) tt
through_unharmed body (OfLoop s d) f (Leaves node x) w h p c = loop_unharmed (node == s.node) s d f body node x w p
through_unharmed body (OfBlock b fin all rest) f x w h p c = kept w _ (same w) tt
through_unharmed body (OfOpen s) f x w h p c = kept w _ (same w) tt
through_unharmed body (OfLoop s d) f x w h p c = kept w _ (same w) tt
through_unharmed body fr f x w h p c = absurd h

up_unharmed : (body : Body) (f : Focus Act) (x : Outcome) (w : World) → PlainFocus f → FailsClear x → Unharmed w (up body f x w)
unfolding up PlainFocus
up_unharmed body (Here a) x w h c = kept w _ (same w) c
up_unharmed body (In fr f) x w h c =
    let m = up (body_in fr body) f x w in
    let inner : Unharmed w m = up_unharmed (body_in fr body) f x w h.1 c in
    let outer = through_unharmed body fr f m.outcome m.world h.0 h.1 inner.clear in
    record { fault = outer.fault ∙ inner.fault; clear = outer.clear }

does_unharmed : (body : Body) (f : Focus Act) (x : Does) (w : World) → PlainFocus f → Unharmed w (does_local body f x w)
does_unharmed body f (does.Opens y) w h = kept w _ (same w) tt
does_unharmed body f (does.Waits r) w h = kept w _ (same w) tt
does_unharmed body f does.Passes w h = up_unharmed body f Past w h tt
does_unharmed body f (does.Leaves node y) w h = up_unharmed body f (Leaves node y) w h tt
does_unharmed body f (does.Registers s) w h = up_unharmed body f (Registers s) w h tt
does_unharmed body f does.Ends w h = up_unharmed body f AtBlockEnd w h tt
does_unharmed body f does.Heads w h = up_unharmed body f AtLoopHead w h tt
does_unharmed body f (does.Fails e) w h = kept w _ (same w) (plug_clear f Over h over_clear)
does_unharmed body f x w h = kept w _ (same w) tt

taken_clear : (f : Focus Act) (x : Outcome) → FailsClear x → FailsClear (taken f x)
taken_clear f (Goes g) h = tt
taken_clear f (Rests r) h = tt
taken_clear f (Raises r) h = tt
taken_clear f (Fails e r) h = h
taken_clear f (Ends v) h = tt
taken_clear f (Leaves node x) h = tt
taken_clear f x h = tt

-- ---- a leaf

abbrev pub Spared : World → World → Type 0
Spared w u = u.fault ≡ w.fault

or_spared : {A : Type 0} (a : Result A (Fault × Pos)) (w : World) (go : A → Done) → ((x : A) → Spared w (go x).world) → Spared w (or_fails a w go).world
or_spared (Ok x) w go h = h x
or_spared (Err e) w go h = refl

module _ (K : Kernel) (n : ℕ) (body : Body) where
  reached_spared : (s : KNode) (k : KLoop) (w : World) → Spared w (loop_reached s k body w).world
  reached_spared s turns.Free w = refl
  reached_spared s (turns.Times slot limit) w = refl
  reached_spared s (turns.Range i next end open_a x y open_b) w = or_spared (value_of x body w) w _ (λ u. or_spared (value_of y body w) w _ (λ v. refl))

  started_spared : (s : KNode) (layer : Layer) (w : World) → LayerSingle layer → Spared w (started K n body s layer w).world
  started_spared s KStmt-F.Nothing w h = refl
  started_spared s (KStmt-F.Assign l e) w h = or_spared (value_of e body w) w _ (λ v. refl)
  started_spared s (KStmt-F.Out k e) w h = or_spared (value_if e body w) w _ (λ v. refl)
  started_spared s (KStmt-F.AwaitIn k t) w h = refl
  started_spared s (KStmt-F.AwaitTime e u t) w h = or_spared (value_of e body w) w _ (λ v. refl)
  started_spared s KStmt-F.Forever w h = refl
  started_spared s (KStmt-F.Escape m e) w h = or_spared (value_if e body w) w _ (λ v. refl)
  started_spared s (KStmt-F.Break m) w h = refl
  started_spared s (KStmt-F.Continue m) w h = refl
  started_spared s (KStmt-F.Do t b) w h = refl
  started_spared s (KStmt-F.If arms last) w h = or_spared (chosen_part arms last body w) w _ (λ b. refl)
  started_spared s (KStmt-F.Loop k b) w h = reached_spared s k w
  started_spared s layer w h = absurd h

  acted_spared : (d : _) (a : Act) (w : World) → ActFits d a → PartSingle d → Spared w (acted K n body a w).world
  acted_spared d (Begin b) w begins h = refl
  acted_spared d AtHead w heads h = refl
  acted_spared d Again w goes_again h = refl
  acted_spared d (Start s) w starts h = started_spared s (out-KStmt s.stmt) w (layer_single s.stmt h)
  acted_spared d (Finish s v) w (finishes p) h = (assign_quietly body (target s) v w).fault
  acted_spared d AtEnd w ends h = refl

-- ---- a step

pub step_unharmed : (K : Kernel) (n : ℕ) (f : Focus Act) (w : World) → is_proper K ≡ true → is_single K ≡ true → ConfigFits K (Turning n f w) → Unharmed w (stepped K n Program f w)
unfolding local
step_unharmed K n f w proper single h =
    let a = no_codes K single in
    let p = plain_focus K a.0 h.around a.1 in
    let d = acted K n (body_of f Program) (leaf f) w in
    let m = does_local Program f d.does d.world in
    let x : Unharmed d.world m = does_unharmed Program f d.does d.world p.0 in
    let y : Spared w d.world = acted_spared K n (body_of f Program) h.part (leaf f) w h.acts p.1 in
    let z : Unharmed w (moved (taken f m.outcome) m.world) = record { fault = x.fault ∙ y; clear = taken_clear f m.outcome x.clear } in
    subst (λ (m : Moved). Unharmed w m) (sym (turn_steps K proper single n f w h)) z
