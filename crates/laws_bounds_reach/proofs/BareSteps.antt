-- A step spawns nothing in a block that spawns nothing.
use Rattle.std.proofs.Common.{◌≡◌, refl, ap, ℕ, ◌+◌, ℤ, pos, int_lt, Bool, true, false, if◌then◌else◌, ◌==◌, List, [], ◌∷◌, Option, Some, None, Result, Ok, Err}
use Rattle.ceu_base.specs.declared.kinds.Pos.{Pos}
use Rattle.ceu_base.specs.declared.kinds.Fault.{Fault}
use Rattle.ceu_base.specs.declared.kinds.Mark.TheVariants as mark
use Rattle.ceu_tree.specs.declared.kernel.Kernel.{Kernel}
use Rattle.ceu_tree.specs.declared.kernel.KCode.{KCode}
use Rattle.ceu_tree.specs.declared.kernel.KLoop.{KLoop}
use Rattle.ceu_tree.specs.declared.kernel.KLoop.TheVariants as turns
use Rattle.ceu_tree.specs.declared.kernel.ParKind.{ParKind}
use Rattle.ceu_tree.specs.declared.kernel.ParKind.TheVariants as par
use Rattle.ceu_tree.specs.declared.kernel.KNode.{KNode}
use Rattle.ceu_tree.specs.declared.kernel.KBlock.{KBlock, out-KBlock}
use Rattle.ceu_tree.specs.declared.kernel.KStmt.{out-KStmt}
use Rattle.ceu_tree.specs.declared.kernel.KStmt.TheOpen.{KStmt-F}
use Rattle.ceu_tree.specs.Residual.{Body, Act, Begin, Start, Finish, AtEnd, AtHead, Again, Counter, Turns, Upward, Residual, Over, Run, WaitEvent, Branches, branch, Instances, no_instance, instance}
use Rattle.ceu_tree.specs.Focus.{Frame, OfBlock, OfInstance, OfOpen, OfLoop, OfCall, OfPar, Focus, Here, In, join, join_instances, leaf, body_in, body_of}
use Rattle.ceu_tree.specs.World.{World, Cell, NotSet, Names, marked, set_alias, look}
use Rattle.ceu_tree.specs.Expressions.{names_living, value_of, value_if, values_of}
use Rattle.ceu_tree.specs.Wake.{by_event}
use Rattle.ceu_tree.specs.Leaf as does
use Rattle.ceu_tree.specs.Leaf.{Layer, Exit, Escape, Break, Continue, Does, Opens, Waits, Passes, Spawns, Kills, Done, or_fails, microseconds, clamped, code_at, chosen_part, branches_from, in_branches, loop_reached, called, spawning, killing, started, next_of, rest_of, acted}
use Rattle.ceu_tree.specs.Around.{Outcome, Goes, Rests, Raises, Fails, Past, Registers, AtBlockEnd, AtLoopHead, Ends, Leaves, Moved, body_left, open_left, turn_of, next_turn, loop_exit, loop_left, all_over, kind_of, rejoined, through, up, taken, answered}
use Rattle.ceu_tree.specs.Step.{event_code, free_place, spawned_at, spawned, unseated, unseat_frame, unseat, killed, does_in, stepped}
use Rattle.laws_meaning_basics.specs.Shape.{Part, Around, ActFits, TurnFits}
use Rattle.laws_bounds_reach.specs.Standing.{pools_bare, each_bare, all_bare, frame_bare, focus_bare}
use Rattle.laws_bounds_reach.proofs.BareTrees.{joined, joined_all, spawns, filled, plugged, grafted, woken_kept}
use Rattle.laws_bounds_reach.proofs.Quiet.{layer_spawns, act_spawns, seated_bare}

abbrev pub OutcomeBare : Outcome → Type 0
OutcomeBare (Goes g) = focus_bare g
OutcomeBare (Rests r) = pools_bare r
OutcomeBare (Raises r) = pools_bare r
OutcomeBare x = Unit {0}

abbrev Fine : Moved → Type 0
Fine m = OutcomeBare m.outcome

-- ---- the parts around a leaf

body_left_fine : (t : Bool) (b : KBlock) (fin : List KNode) (all : Instances) (f : Focus Act) (body : Body) (node : ℕ) (x : Exit) (w : World) → Fine (body_left t b fin all f body node x w)
body_left_fine true b fin all f body node x w = tt
body_left_fine false b fin all f body node x w = tt

open_left_fine : (t : Bool) (s : KNode) (f : Focus Act) (body : Body) (node : ℕ) (x : Exit) (w : World) → Fine (open_left t s f body node x w)
open_left_fine true s f body node x w = tt
open_left_fine false s f body node x w = tt

either : (b : Bool) (x y : Moved) → Fine x → Fine y → Fine (if b then x else y)
either true x y h k = h
either false x y h k = k

turn_fine : (s : KNode) (k : KLoop) (b : KBlock) (c : Counter) (body : Body) (w : World) → Fine (turn_of s k b c body w)
unfolding focus_bare
turn_fine s (turns.Times slot limit) b (Turns j) body w = either (j == limit) _ _ tt (tt, tt)
turn_fine s (turns.Range i next end open_a x y open_b) b (Upward v last) body w = either (int_lt last v) _ _ tt (tt, tt)
turn_fine s k b c body w = (tt, tt)

next_turn_fine : (s : KNode) (layer : Layer) (c : Counter) (body : Body) (w : World) → Fine (next_turn s layer c body w)
next_turn_fine s (KStmt-F.Loop k b) c body w = turn_fine s k b c body w
next_turn_fine s layer c body w = tt

loop_exit_fine : (s : KNode) (c : Counter) (x : Exit) (body : Body) (w : World) → Fine (loop_exit s c x body w)
unfolding focus_bare
loop_exit_fine s c Continue body w = (tt, tt)
loop_exit_fine s c Break body w = tt
loop_exit_fine s c (Escape v) body w = tt

loop_left_fine : (t : Bool) (s : KNode) (c : Counter) (f : Focus Act) (body : Body) (node : ℕ) (x : Exit) (w : World) → Fine (loop_left t s c f body node x w)
loop_left_fine true s c f body node x w = loop_exit_fine s c x body _
loop_left_fine false s c f body node x w = tt

rejoined_fine : (k : ParKind) (s : KNode) (bs : Branches) (body : Body) (w : World) → each_bare bs → Fine (rejoined k s bs body w)
unfolding pools_bare
rejoined_fine par.Never s bs body w h = h
rejoined_fine par.Or s bs body w h = tt
rejoined_fine par.And s bs body w h = either (all_over bs) _ _ tt h

through_fine : (body : Body) (fr : Frame) (f : Focus Act) (x : Outcome) (w : World) → frame_bare fr → OutcomeBare x → Fine (through body fr f x w)
unfolding pools_bare focus_bare
through_fine body fr f (Goes g) w h k = (h, k)
through_fine body fr f (Rests r) w h k = filled fr r h k
through_fine body fr f (Raises r) w h k = filled fr r h k
through_fine body fr f (Fails e r) w h k = tt
through_fine body (OfBlock b fin all rest) f Past w h k = (h, tt)
through_fine body (OfBlock b fin all rest) f (Registers s) w h k = (h, tt)
through_fine body (OfBlock b fin all rest) f AtBlockEnd w h k = tt
through_fine body (OfBlock b fin all rest) f (Leaves node x) w h k = body_left_fine (node == (out-KBlock b).node) b fin all f body node x w
through_fine body (OfOpen s) f (Ends v) w h k = tt
through_fine body (OfOpen s) f (Leaves node x) w h k = open_left_fine (node == s.node) s f body node x w
through_fine body (OfLoop s c) f AtLoopHead w h k = next_turn_fine s (out-KStmt s.stmt) c body w
through_fine body (OfLoop s c) f (Ends v) w h k = (tt, tt)
through_fine body (OfLoop s c) f (Leaves node x) w h k = loop_left_fine (node == s.node) s c f body node x w
through_fine body (OfCall s) f (Ends v) w h k = tt
through_fine body (OfPar s front back) f (Ends v) w h k = rejoined_fine (kind_of (out-KStmt s.stmt)) s (join front (branch Over back)) body w (joined front (branch Over back) h.0 (tt, h.1))
through_fine body (OfInstance b fin front seat back r rest) f (Ends v) w h k = (spawns b (join_instances front back) h.0, joined_all front back h.1 h.2, h.3)
through_fine body fr f (Leaves node x) w h k = tt
through_fine body fr f x w h k = filled fr Over h tt

up_fine : (body : Body) (f : Focus Act) (x : Outcome) (w : World) → focus_bare f → OutcomeBare x → Fine (up body f x w)
unfolding up focus_bare
up_fine body (Here a) x w h k = k
up_fine body (In fr f) x w h k = through_fine body fr f (up (body_in fr body) f x w).outcome (up (body_in fr body) f x w).world h.0 (up_fine (body_in fr body) f x w h.1 k)

taken_fine : (f : Focus Act) (x : Outcome) → focus_bare f → OutcomeBare x → OutcomeBare (taken f x)
unfolding pools_bare
taken_fine f (Goes g) h k = k
taken_fine f (Rests r) h k = k
taken_fine f (Raises r) h k = k
taken_fine f (Fails e r) h k = tt
taken_fine f (Ends v) h k = tt
taken_fine f (Leaves node x) h k = plugged f Over h tt
taken_fine f x h k = tt

answered_fine : (root : Body) (f : Focus Act) (x : Outcome) (w : World) → focus_bare f → OutcomeBare x → Fine (answered root f x w)
answered_fine root f x w h k = taken_fine f (up root f x w).outcome h (up_fine root f x w h k)

-- ---- a leaf

abbrev DoesBare : Act → Does → Type 0
DoesBare a (Opens x) = focus_bare x
DoesBare a (Waits r) = pools_bare r
DoesBare a (Spawns s c code pool alias vs) = act_spawns a ≡ true
DoesBare a x = Unit {0}

or_fails_fine : {A : Type 0} (b : Act) (a : Result A (Fault × Pos)) (w : World) (go : A → Done) → ((x : A) → DoesBare b (go x).does) → DoesBare b (or_fails a w go).does
or_fails_fine b (Ok x) w go h = h x
or_fails_fine b (Err e) w go h = tt

fresh_branches : (n : ℕ) (bs : List KBlock) → each_bare (branches_from n bs)
unfolding pools_bare
fresh_branches n [] = tt
fresh_branches n (b ∷ bs) = (tt, fresh_branches n bs)

module _ (a : Act) where
  branches_fine : (n : ℕ) (s : KNode) (bs : List KBlock) → DoesBare a (in_branches n s bs)
  unfolding focus_bare pools_bare
  branches_fine n s [] = tt
  branches_fine n s (b ∷ bs) = ((tt, fresh_branches n bs), tt)

  loop_fine : (s : KNode) (k : KLoop) (b : KBlock) (body : Body) (w : World) → DoesBare a (loop_reached s k body w).does
  unfolding focus_bare
  loop_fine s turns.Free b body w = (tt, tt)
  loop_fine s (turns.Times slot n) b body w = (tt, tt)
  loop_fine s (turns.Range i next end open_a x y open_b) b body w = or_fails_fine a (value_of x body w) w _ (λ u. or_fails_fine a (value_of y body w) w _ (λ v. (tt, tt)))

  called_fine : (s : KNode) (o : Option KCode) (vs : List ℤ) (body : Body) (w : World) → DoesBare a (called s o vs body w).does
  unfolding focus_bare
  called_fine s None vs body w = tt
  called_fine s (Some c) vs body w = (tt, tt)

  spawning_fine : (s : KNode) (o : Option KCode) (code pool : ℕ) (alias : Option ℕ) (vs : List ℤ) (w : World) → act_spawns a ≡ true → DoesBare a (spawning s o code pool alias vs w).does
  spawning_fine s None code pool alias vs w h = tt
  spawning_fine s (Some c) code pool alias vs w h = h

  killing_fine : (o : Option Cell) (living : List ℕ) → DoesBare a (killing o living)
  killing_fine (Some (Names m)) living = go (names_living (Some (Names m)) living)
    where
      go : (b : Bool) → DoesBare a (if b then Kills m else Passes)
      go true = tt
      go false = tt
  killing_fine o living = tt

  started_fine : (K : Kernel) (n : ℕ) (body : Body) (s : KNode) (layer : Layer) (w : World) → (layer_spawns layer ≡ true → act_spawns a ≡ true) → DoesBare a (started K n body s layer w).does
  unfolding pools_bare focus_bare
  started_fine K n body s (KStmt-F.Assign l x) w e = or_fails_fine a (value_of x body w) w _ (λ v. tt)
  started_fine K n body s (KStmt-F.Out k x) w e = or_fails_fine a (value_if x body w) w _ (λ v. tt)
  started_fine K n body s (KStmt-F.Emit k x) w e = or_fails_fine a (value_if x body w) w _ (λ v. tt)
  started_fine K n body s (KStmt-F.AwaitTime x u t) w e = or_fails_fine a (value_of x body w) w _ (λ v. tt)
  started_fine K n body s (KStmt-F.AwaitCode c es f t) w e = or_fails_fine a (values_of es body w) w _ (λ vs. called_fine s (code_at c K.codes) vs body w)
  started_fine K n body s (KStmt-F.Spawn c es p alias) w e = or_fails_fine a (values_of es body w) w _ (λ vs. spawning_fine s (code_at c K.codes) c p alias vs w (e refl))
  started_fine K n body s (KStmt-F.Kill c) w e = killing_fine (look body c w.values) w.living
  started_fine K n body s (KStmt-F.Do t b) w e = (tt, tt)
  started_fine K n body s (KStmt-F.Escape m x) w e = or_fails_fine a (value_if x body w) w _ (λ v. tt)
  started_fine K n body s (KStmt-F.If arms last) w e = or_fails_fine a (chosen_part arms last body w) w _ (λ b. (tt, tt))
  started_fine K n body s (KStmt-F.Loop k b) w e = loop_fine s k b body w
  started_fine K n body s (KStmt-F.Par k slot bs) w e = branches_fine n s bs
  started_fine K n body s layer w e = tt

acted_fine : (K : Kernel) (n : ℕ) (body : Body) (a : Act) (w : World) → DoesBare a (acted K n body a w).does
unfolding pools_bare focus_bare
acted_fine K n body (Begin b) w = ((λ q. refl, tt), tt)
acted_fine K n body (Start s) w = started_fine (Start s) K n body s (out-KStmt s.stmt) w (λ q. q)
acted_fine K n body (Finish s v) w = tt
acted_fine K n body AtEnd w = tt
acted_fine K n body AtHead w = tt
acted_fine K n body Again w = tt

-- ---- emissions, spawns and kills

by_event_fine : (level event : ℕ) (v : ℤ) (r : Residual) → pools_bare r → pools_bare (by_event level event v r)
unfolding pools_bare
by_event_fine level event v (WaitEvent k s) h = go (k == event)
  where
    go : (b : Bool) → pools_bare (if b then Run level (Finish s v) else WaitEvent k s)
    go true = tt
    go false = tt
by_event_fine level event v r h = h

unseated_fine : (n : ℕ) (all : Instances) → all_bare all → all_bare (unseated n all)
unfolding pools_bare
unseated_fine n no_instance h = tt
unseated_fine n (instance seat r more) h = go (seat.number == n) (unseated_fine n more h.1)
  where
    go : (b : Bool) → all_bare (unseated n more) → all_bare (if b then more else instance seat r (unseated n more))
    go true x = h.1
    go false x = (h.0, x)

unseat_fine : (n : ℕ) (f : Focus Act) → focus_bare f → focus_bare (unseat n f)
unfolding focus_bare
unseat_fine n (Here a) h = tt
unseat_fine n (In fr f) h = (frame fr h.0, unseat_fine n f h.1)
  where
    frame : (fr : Frame) → frame_bare fr → frame_bare (unseat_frame n fr)
    frame (OfBlock b fin all rest) k = (λ q. ap (unseated n) (k.0 q), unseated_fine n all k.1)
    frame fr k = k

module _ (K : Kernel) (top : ℕ) (f : Focus Act) (d e : Part) (x : Around K top Act f d e) (a : ActFits e (leaf f)) where
  spawned_fine : (n : ℕ) (root body : Body) (s : KNode) (c : KCode) (code pool : ℕ) (alias : Option ℕ) (vs : List ℤ) (w : World) → focus_bare f → act_spawns (leaf f) ≡ true → Fine (spawned n root body f s c code pool alias vs w)
  unfolding pools_bare
  spawned_fine n root body s c code pool alias vs w h p = go (free_place pool f)
    where
      go : (o : Option ℕ) → Fine (elim o [
        | None ↦ answered root f Past (marked mark.Full (set_alias body alias NotSet w))
        | Some place ↦ spawned_at n body f s c code pool place alias vs w
      ])
      go None = answered_fine root f Past _ h tt
      go (Some place) = either (w.given == 4294967295) _ _ tt (plugged _ _ (seated_bare K top (record { pool = pool; place = place; code = code; number = w.given + 1 }) (Run (n + 1) (Begin c.body)) tt x a p h) tt)

  does_fine : (n : ℕ) (root body : Body) (y : Does) (w : World) → focus_bare f → DoesBare (leaf f) y → Fine (does_in K n root body f y w)
  unfolding pools_bare
  does_fine n root body (does.Opens x) w h k = grafted f x h k
  does_fine n root body (does.Waits r) w h k = plugged f r h k
  does_fine n root body does.Passes w h k = answered_fine root f Past w h tt
  does_fine n root body (does.Leaves node x) w h k = answered_fine root f (Leaves node x) w h tt
  does_fine n root body (does.Registers s) w h k = answered_fine root f (Registers s) w h tt
  does_fine n root body does.Ends w h k = answered_fine root f AtBlockEnd w h tt
  does_fine n root body does.Heads w h k = answered_fine root f AtLoopHead w h tt
  does_fine n root body (does.Emits s event v) w h k = woken_kept (by_event (n + 1) event v) (by_event_fine (n + 1) event v) (event_code event K.events) f (Run n (Finish s (pos 0))) h tt
  does_fine n root body (does.Spawns s c code pool alias vs) w h k = spawned_fine n root body s c code pool alias vs w h k
  does_fine n root body (does.Kills j) w h k = answered_fine root (unseat j f) Past (killed j f w) (unseat_fine j f h) tt
  does_fine n root body (does.Fails e) w h k = tt

pub stepped_bare : (K : Kernel) (top n : ℕ) (root : Body) (d : Part) (f : Focus Act) (w : World) → TurnFits K top d f → focus_bare f → OutcomeBare (stepped K n root f w).outcome
unfolding stepped
stepped_bare K top n root d f w t h = does_fine K top f d t.part t.around t.acts n root (body_of f root) _ _ h (acted_fine K n (body_of f root) (leaf f) w)
