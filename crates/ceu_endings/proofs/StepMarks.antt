-- A turn of one trail adds no mark of a turn or a level, so that a reaction begins one turn at most.
use Rattle.std.proofs.Common.{◌≡◌, refl, sym, ap, ◌∙◌, subst, ℕ, zero, suc, ◌+◌, int_lt, Bool, true, false, if◌then◌else◌, ◌==◌, List, [], ◌∷◌, ◌++◌, Option, Some, None, Result, Ok, Err, arith}
use Rattle.ceu_base.specs.declared.kinds.Pos.{Pos}
use Rattle.ceu_base.specs.declared.kinds.Fault.{Fault}
use Rattle.ceu_base.specs.declared.kinds.Mark.{Mark}
use Rattle.ceu_base.specs.declared.kinds.Mark.TheVariants.{Output, Resume, Push, Pop, Registered}
use Rattle.ceu_tree.specs.declared.kernel.Kernel.{Kernel}
use Rattle.ceu_tree.specs.declared.kernel.KLoop.{KLoop}
use Rattle.ceu_tree.specs.declared.kernel.KLoop.TheVariants as turns
use Rattle.ceu_tree.specs.declared.kernel.KNode.{KNode}
use Rattle.ceu_tree.specs.declared.kernel.KBlock.{KBlock, out-KBlock}
use Rattle.ceu_tree.specs.declared.kernel.KStmt.{out-KStmt}
use Rattle.ceu_tree.specs.declared.kernel.KStmt.TheOpen.{KStmt-F}
use Rattle.ceu_tree.specs.Residual.{Body, Program, Act, Begin, Start, Finish, AtEnd, AtHead, Again, Counter, Turns, Upward, Residual, Over, Instances}
use Rattle.ceu_tree.specs.Focus.{Frame, OfBlock, OfOpen, OfLoop, Focus, Here, In, plug, leaf, body_in, body_of, choose}
use Rattle.ceu_tree.specs.World.{World, marked}
use Rattle.ceu_tree.specs.Expressions.{value_of, value_if}
use Rattle.ceu_tree.specs.Abort.{aborted}
use Rattle.ceu_tree.specs.Wake.{runs_at}
use Rattle.ceu_tree.specs.Leaf as does
use Rattle.ceu_tree.specs.Leaf.{Layer, Exit, Escape, Break, Continue, Does, Done, or_fails, chosen_part, loop_reached, target, started, acted}
use Rattle.ceu_tree.specs.Around.{Outcome, Goes, Rests, Raises, Fails, Past, Registers, AtBlockEnd, AtLoopHead, Ends, Leaves, Moved, value_with, body_left, open_left, loop_exit, loop_left, turn_of, next_turn, through, up}
use Rattle.ceu_tree.specs.Step.{stepped}
use Rattle.ceu_tree.specs.Proper.{is_proper}
use Rattle.ceu_tree.specs.Run.{Config, Turning, Between, Waiting, Ended, Faulted, config_of, unless_failed, chosen_at, next, steps, world_of}
use Rattle.laws_meaning_basics.specs.Shape.{ActFits, begins, heads, goes_again, starts, finishes, ends, ConfigFits}
use Rattle.laws_meaning_basics.proofs.RunFits.{next_fits}
use Rattle.ceu_single.specs.Single.{is_single}
use Rattle.ceu_endings.specs.OneTrail.{PlainFrame, PlainFocus}
use Rattle.ceu_endings.specs.Laws.{resumes, level_changes, Reaction}
use Rattle.ceu_endings.proofs.Local.{does_local, local}
use Rattle.ceu_endings.proofs.Shapes.{LayerSingle, PartSingle, layer_single, plain_focus, no_codes}
use Rattle.ceu_endings.proofs.Over.{turn_steps}
use Rattle.ceu_endings.proofs.Calm.{Good, next_good}
use Rattle.ceu_endings.proofs.Marks.{Same, unchanged, same, after, mark_same, loop_marks, aborted_same, closed_same, assign_marks}

-- ---- the parts around a leaf

left_same : (t : Bool) (b : KBlock) (fin : List KNode) (all : Instances) (f : Focus Act) (body : Body) (n : ℕ) (x : Exit) (w : World) → Same w (body_left t b fin all f body n x w).world
left_same true b fin all f body n x w = let u = aborted (plug f Over) body w in after w u _ (aborted_same (plug f Over) body w) (closed_same b fin all body u)
left_same false b fin all f body n x w = same w

open_same : (t : Bool) (s : KNode) (f : Focus Act) (body : Body) (n : ℕ) (x : Exit) (w : World) → Same w (open_left t s f body n x w).world
open_same true s f body n x w = let u = aborted (plug f Over) body w in after w u _ (aborted_same (plug f Over) body w) (unchanged u _ (assign_marks body (target s) (value_with x) u))
open_same false s f body n x w = same w

exit_same : (s : KNode) (c : Counter) (x : Exit) (body : Body) (w : World) → Same w (loop_exit s c x body w).world
exit_same s c Continue body w = same w
exit_same s c Break body w = unchanged w _ (loop_marks body s.stmt w)
exit_same s c (Escape v) body w = unchanged w _ (loop_marks body s.stmt w)

loop_same : (t : Bool) (s : KNode) (c : Counter) (f : Focus Act) (body : Body) (n : ℕ) (x : Exit) (w : World) → Same w (loop_left t s c f body n x w).world
loop_same true s c f body n x w = let u = aborted (plug f Over) body w in after w u _ (aborted_same (plug f Over) body w) (exit_same s c x body u)
loop_same false s c f body n x w = same w

either_same : (w : World) (b : Bool) (x y : Moved) → Same w x.world → Same w y.world → Same w (if b then x else y).world
either_same w true x y h k = h
either_same w false x y h k = k

turn_same : (s : KNode) (k : KLoop) (b : KBlock) (c : Counter) (body : Body) (w : World) → Same w (turn_of s k b c body w).world
turn_same s (turns.Times slot limit) b (Turns j) body w = either_same w (j == limit) _ _ (same w) (same w)
turn_same s (turns.Range i at end open_a x y open_b) b (Upward next last) body w = either_same w (int_lt last next) _ _ (unchanged w _ (loop_marks body s.stmt w)) (unchanged w _ refl)
turn_same s k b c body w = same w

next_same : (s : KNode) (layer : Layer) (c : Counter) (body : Body) (w : World) → Same w (next_turn s layer c body w).world
next_same s (KStmt-F.Loop k b) c body w = turn_same s k b c body w
next_same s layer c body w = same w

through_same : (body : Body) (fr : Frame) (f : Focus Act) (x : Outcome) (w : World) → PlainFrame fr → Same w (through body fr f x w).world
through_same body fr f (Goes g) w h = same w
through_same body fr f (Rests r) w h = same w
through_same body fr f (Raises r) w h = same w
through_same body fr f (Fails e r) w h = same w
through_same body (OfBlock b fin all rest) f Past w h = same w
through_same body (OfBlock b fin all rest) f (Registers s) w h = mark_same (Registered s.pos) w tt
through_same body (OfBlock b fin all rest) f AtBlockEnd w h = closed_same b fin all body w
through_same body (OfBlock b fin all rest) f (Leaves node x) w h = left_same (node == (out-KBlock b).node) b fin all f body node x w
through_same body (OfOpen s) f (Ends v) w h = unchanged w _ (assign_marks body (target s) v w)
through_same body (OfOpen s) f (Leaves node x) w h = open_same (node == s.node) s f body node x w
through_same body (OfLoop s c) f AtLoopHead w h = next_same s (out-KStmt s.stmt) c body w
through_same body (OfLoop s c) f (Ends v) w h = same w
through_same body (OfLoop s c) f (Leaves node x) w h = loop_same (node == s.node) s c f body node x w
through_same body (OfBlock b fin all rest) f x w h = same w
through_same body (OfOpen s) f x w h = same w
through_same body (OfLoop s c) f x w h = same w
through_same body fr f x w h = absurd h

up_same : (body : Body) (f : Focus Act) (x : Outcome) (w : World) → PlainFocus f → Same w (up body f x w).world
unfolding up PlainFocus
up_same body (Here a) x w h = same w
up_same body (In fr f) x w h =
    let m = up (body_in fr body) f x w in after w m.world _ (up_same (body_in fr body) f x w h.1) (through_same body fr f m.outcome m.world h.0)

does_same : (body : Body) (f : Focus Act) (x : Does) (w : World) → PlainFocus f → Same w (does_local body f x w).world
does_same body f (does.Opens y) w h = same w
does_same body f (does.Waits r) w h = same w
does_same body f does.Passes w h = up_same body f Past w h
does_same body f (does.Leaves node y) w h = up_same body f (Leaves node y) w h
does_same body f (does.Registers s) w h = up_same body f (Registers s) w h
does_same body f does.Ends w h = up_same body f AtBlockEnd w h
does_same body f does.Heads w h = up_same body f AtLoopHead w h
does_same body f (does.Fails e) w h = same w
does_same body f x w h = same w

-- ---- a leaf

or_same : {A : Type 0} (a : Result A (Fault × Pos)) (w : World) (go : A → Done) → ((x : A) → Same w (go x).world) → Same w (or_fails a w go).world
or_same (Ok x) w go h = h x
or_same (Err e) w go h = same w

module _ (K : Kernel) (n : ℕ) (body : Body) where
  reached_same : (s : KNode) (k : KLoop) (w : World) → Same w (loop_reached s k body w).world
  reached_same s turns.Free w = same w
  reached_same s (turns.Times slot limit) w = same w
  reached_same s (turns.Range i next end open_a x y open_b) w = or_same (value_of x body w) w _ (λ u. or_same (value_of y body w) w _ (λ v. same w))

  started_same : (s : KNode) (layer : Layer) (w : World) → LayerSingle layer → Same w (started K n body s layer w).world
  started_same s KStmt-F.Nothing w h = same w
  started_same s (KStmt-F.Assign l e) w h = or_same (value_of e body w) w _ (λ v. unchanged w _ refl)
  started_same s (KStmt-F.Out k e) w h = or_same (value_if e body w) w _ (λ v. mark_same (Output k v) w tt)
  started_same s (KStmt-F.AwaitIn k t) w h = same w
  started_same s (KStmt-F.AwaitTime e u t) w h = or_same (value_of e body w) w _ (λ v. same w)
  started_same s KStmt-F.Forever w h = same w
  started_same s (KStmt-F.Escape m e) w h = or_same (value_if e body w) w _ (λ v. same w)
  started_same s (KStmt-F.Break m) w h = same w
  started_same s (KStmt-F.Continue m) w h = same w
  started_same s (KStmt-F.Do t b) w h = same w
  started_same s (KStmt-F.If arms last) w h = or_same (chosen_part arms last body w) w _ (λ b. same w)
  started_same s (KStmt-F.Loop k b) w h = reached_same s k w
  started_same s layer w h = absurd h

  acted_same : (d : _) (a : Act) (w : World) → ActFits d a → PartSingle d → Same w (acted K n body a w).world
  acted_same d (Begin b) w begins h = same w
  acted_same d AtHead w heads h = same w
  acted_same d Again w goes_again h = same w
  acted_same d (Start s) w starts h = started_same s (out-KStmt s.stmt) w (layer_single s.stmt h)
  acted_same d (Finish s v) w (finishes p) h = unchanged w _ (assign_marks body (target s) v w)
  acted_same d AtEnd w ends h = same w

-- ---- configurations

module _ (K : Kernel) (proper : is_proper K ≡ true) (single : is_single K ≡ true) where
  step_same : (n : ℕ) (f : Focus Act) (w : World) → ConfigFits K (Turning n f w) → Same w (stepped K n Program f w).world
  unfolding local
  step_same n f w h =
      let a = no_codes K single in
      let p = plain_focus K a.0 h.around a.1 in
      let d = acted K n (body_of f Program) (leaf f) w in
      subst (λ m. Same w m.world) (sym (turn_steps K proper single n f w h))
      (after w d.world _ (acted_same K n (body_of f Program) h.part (leaf f) w h.acts p.1) (does_same Program f d.does d.world p.0))

  config_same : (n : ℕ) (x : Outcome) (w : World) → Same w (world_of (config_of n x w))
  config_same n (Goes g) w = same w
  config_same n (Rests r) w = same w
  config_same n (Raises r) w = same w
  config_same n (Fails e r) w = aborted_same r Program w
  config_same n (Ends v) w = same w
  config_same n x w = same w

  unless_same : (w : World) (c : Config) → Same w (world_of c) → Same w (world_of (unless_failed w c))
  unless_same w c h = go w.fault
    where
      go : (o : Option (Fault × Pos)) → Same w (world_of (elim o [ Some e ↦ Faulted e w | None ↦ c ]))
      go None = h
      go (Some e) = same w

  -- a step of a turn
  turn_step_same : (n : ℕ) (f : Focus Act) (w : World) → ConfigFits K (Turning n f w) → Same w (world_of (next K (Turning n f w)))
  unfolding next
  turn_step_same n f w h = let m = stepped K n Program f w in after w m.world _ (step_same n f w h) (unless_same m.world (config_of n m.outcome m.world) (config_same n m.outcome m.world))

  -- after the only turn has begun
  begun_same : (k : ℕ) (c : Config) → ConfigFits K c → Good c → Same (world_of c) (world_of (steps K k c))
  unfolding steps next
  begun_same zero c h g = same (world_of c)
  begun_same (suc k) (Turning n f w) h g =
      after w (world_of (next K (Turning n f w))) _ (turn_step_same n f w h) (begun_same k (next K (Turning n f w)) (next_fits K proper (Turning n f w) h) (next_good K proper single (Turning n f w) h g))
  begun_same (suc k) (Between zero r w) h g = subst (λ o. Same w (world_of (steps K k (chosen_at 0 o r w)))) (sym g.1) (begun_same k (Waiting r w) (subst (λ o. ConfigFits K (chosen_at 0 o r w)) g.1 (next_fits K proper (Between 0 r w) h)) tt)
  begun_same (suc k) (Between (suc n) r w) h g = absurd (let z = g.0 in cc)
  begun_same (suc k) (Waiting r w) h g = same w
  begun_same (suc k) (Ended v w) h g = same w
  begun_same (suc k) (Faulted e w) h g = same w

  resumes_more : (ms : List Mark) (n : ℕ) → resumes (ms ++ Resume n ∷ []) ≡ resumes ms + 1
  resumes_more [] n = refl
  resumes_more (Resume m ∷ ms) n = let i = resumes_more ms n in omega (arith, i)
  resumes_more (x ∷ ms) n = resumes_more ms n

  levels_kept : (ms : List Mark) (n : ℕ) → level_changes (ms ++ Resume n ∷ []) ≡ level_changes ms
  levels_kept [] n = refl
  levels_kept (Push m ∷ ms) n = ap (λ i. 1 + i) (levels_kept ms n)
  levels_kept (Pop m ∷ ms) n = ap (λ i. 1 + i) (levels_kept ms n)
  levels_kept (x ∷ ms) n = levels_kept ms n

  chosen_counts : (k : ℕ) (o : Option (Focus Act)) (r : Residual) (w : World) → ConfigFits K (chosen_at 0 o r w) → Reaction w (world_of (steps K k (chosen_at 0 o r w)))
  chosen_counts k None r w h = let s = begun_same k (Waiting r w) h tt in record { turns = omega (arith, s.turns_same); levels = s.levels_same }
  chosen_counts k (Some f) r w h =
      let s = begun_same k (Turning 0 f (marked (Resume 0) w)) h refl in
      let m = resumes_more w.marks 0 in
      record { turns = omega (arith, s.turns_same, m); levels = s.levels_same ∙ levels_kept w.marks 0 }

  pub reaction_counts : (k : ℕ) (r : Residual) (w : World) → ConfigFits K (Between 0 r w) → Reaction w (world_of (steps K k (Between 0 r w)))
  unfolding steps next
  reaction_counts zero r w h = record { turns = omega arith; levels = refl }
  reaction_counts (suc k) r w h = chosen_counts k (choose Act (runs_at 0) r) r w (next_fits K proper (Between 0 r w) h)
