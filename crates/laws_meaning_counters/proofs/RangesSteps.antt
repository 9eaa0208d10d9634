-- One step keeps all ranges.
use Rattle.std.proofs.Common.{◌≡◌, refl, sym, subst, ◌≤◌, ℕ, ◌+◌, ◌-◌, ◌^◌, ℤ, pos, negsuc, ◌+ℤ◌, ◌-ℤ◌, ◌*ℤ◌, int_lt, nat_lt, Bool, true, false, if◌then◌else◌, ◌==◌, List, [], ◌∷◌, Option, Some, None, Result, Ok, Err, arith}
use Rattle.std.proofs.lemmas.Bool.{eqb-false}
use Rattle.ceu_base.specs.declared.kinds.Pos.{Pos}
use Rattle.ceu_base.specs.declared.kinds.Fault.{Fault}
use Rattle.ceu_base.specs.declared.kinds.Mark.TheVariants as mark
use Rattle.ceu_base.specs.Values.{of_test}
use Rattle.ceu_tree.specs.declared.kernel.Kernel.{Kernel}
use Rattle.ceu_tree.specs.declared.kernel.KCode.{KCode}
use Rattle.ceu_tree.specs.declared.kernel.KLoop.{KLoop}
use Rattle.ceu_tree.specs.declared.kernel.KLoop.TheVariants as turns
use Rattle.ceu_tree.specs.declared.kernel.ParKind.{ParKind}
use Rattle.ceu_tree.specs.declared.kernel.ParKind.TheVariants as par
use Rattle.ceu_tree.specs.declared.kernel.KNode.{KNode}
use Rattle.ceu_tree.specs.declared.kernel.KBlock.{KBlock, out-KBlock}
use Rattle.ceu_tree.specs.declared.kernel.KStmt.{out-KStmt}
use Rattle.ceu_tree.specs.declared.kernel.KStmt.TheOpen.{KStmt-F}
use Rattle.ceu_tree.specs.Residual.{Body, Act, Begin, Start, Finish, AtEnd, AtHead, Again, Counter, Free, Turns, Upward, Seat, Residual, Over, Run, WaitEvent, Branches, branch, Instances, no_instance, instance}
use Rattle.ceu_tree.specs.Focus.{Frame, OfBlock, OfInstance, OfOpen, OfLoop, OfCall, OfPar, Focus, Here, In, join, leaf, body_in, body_of}
use Rattle.ceu_tree.specs.World.{World, Cell, Holds, NotSet, set, Names, marked, set_alias, look}
use Rattle.ceu_tree.specs.Expressions.{names_living, value_of, value_if, values_of}
use Rattle.ceu_tree.specs.Wake.{by_event}
use Rattle.ceu_tree.specs.Leaf as does
use Rattle.ceu_tree.specs.Leaf.{Layer, Exit, Escape, Break, Continue, Does, Opens, Waits, Passes, Kills, Done, or_fails, microseconds, clamped, code_at, chosen_part, branches_from, in_branches, loop_reached, called, spawning, killing, started, next_of, rest_of, acted}
use Rattle.ceu_tree.specs.Around.{Outcome, Goes, Rests, Raises, Fails, Past, Registers, AtBlockEnd, AtLoopHead, Ends, Leaves, Moved, body_left, open_left, again, begins_turn, turn_of, next_turn, loop_exit, loop_left, all_over, kind_of, rejoined, through, up, taken, answered}
use Rattle.ceu_tree.specs.Step.{event_code, size_in, free_place, with_instance, seated_if, seat_frame, seated, spawned_at, spawned, unseated, unseat_frame, unseat, killed, does_in, stepped}
use Rattle.laws_meaning_counters.specs.Ranges.{turns_counted, counted, in_range, each_in_range, all_in_range, frame_in_range, focus_in_range}
use Rattle.laws_meaning_counters.proofs.RangesTrees.{joined, joined_all, filled, plugged, grafted, woken_kept}

abbrev pub OutcomeRange : Outcome → Type 0
OutcomeRange (Goes g) = focus_in_range g
OutcomeRange (Rests r) = in_range r
OutcomeRange (Raises r) = in_range r
OutcomeRange x = Unit {0}

abbrev Fine : Moved → Type 0
Fine m = OutcomeRange m.outcome

-- ---- the parts around a leaf

body_left_fine : (t : Bool) (b : KBlock) (fin : List KNode) (all : Instances) (f : Focus Act) (body : Body) (node : ℕ) (x : Exit) (w : World) → Fine (body_left t b fin all f body node x w)
body_left_fine true b fin all f body node x w = tt
body_left_fine false b fin all f body node x w = tt

open_left_fine : (t : Bool) (s : KNode) (f : Focus Act) (body : Body) (node : ℕ) (x : Exit) (w : World) → Fine (open_left t s f body node x w)
open_left_fine true s f body node x w = tt
open_left_fine false s f body node x w = tt

again_fine : (s : KNode) (c : Counter) (w : World) → counted (out-KStmt s.stmt) c → Fine (again s c w)
unfolding focus_in_range
again_fine s c w h = (h, tt)

begins_fine : (s : KNode) (c : Counter) (b : KBlock) (layer : Layer) (w : World) → out-KStmt s.stmt ≡ layer → counted layer c → Fine (begins_turn s c b w)
unfolding focus_in_range
begins_fine s c b layer w e h = (subst (λ l. counted l c) (sym e) h, tt)

either : (b : Bool) (x y : Moved) → (b ≡ true → Fine x) → (b ≡ false → Fine y) → Fine (if b then x else y)
either true x y h k = h refl
either false x y h k = k refl

turn_fine : (s : KNode) (k : KLoop) (b : KBlock) (c : Counter) (body : Body) (w : World) → out-KStmt s.stmt ≡ KStmt-F.Loop k b → turns_counted k c → Fine (turn_of s k b c body w)
turn_fine s (turns.Times slot limit) b (Turns j) body w e h =
    either (j == limit) _ _ (λ q. tt) (λ q. begins_fine s (Turns (j + 1)) b _ w e (let z = eqb-false j limit q in omega (arith, h, z)))
turn_fine s (turns.Range i next end open_a x y open_b) b (Upward v last) body w e h = either (int_lt last v) _ _ (λ q. tt) (λ q. begins_fine s (Upward (v +ℤ pos 1) last) b _ (set body i (Holds v) w) e tt)
turn_fine s k b c body w e h = begins_fine s c b _ w e h

next_turn_fine : (s : KNode) (layer : Layer) (c : Counter) (body : Body) (w : World) → out-KStmt s.stmt ≡ layer → counted layer c → Fine (next_turn s layer c body w)
next_turn_fine s (KStmt-F.Loop k b) c body w e h = turn_fine s k b c body w e h
next_turn_fine s layer c body w e h = tt

loop_exit_fine : (s : KNode) (c : Counter) (x : Exit) (body : Body) (w : World) → counted (out-KStmt s.stmt) c → Fine (loop_exit s c x body w)
loop_exit_fine s c Continue body w h = again_fine s c w h
loop_exit_fine s c Break body w h = tt
loop_exit_fine s c (Escape v) body w h = tt

loop_left_fine : (t : Bool) (s : KNode) (c : Counter) (f : Focus Act) (body : Body) (node : ℕ) (x : Exit) (w : World) → counted (out-KStmt s.stmt) c → Fine (loop_left t s c f body node x w)
loop_left_fine true s c f body node x w h = loop_exit_fine s c x body _ h
loop_left_fine false s c f body node x w h = tt

rejoined_fine : (k : ParKind) (s : KNode) (bs : Branches) (body : Body) (w : World) → each_in_range bs → Fine (rejoined k s bs body w)
unfolding in_range
rejoined_fine par.Never s bs body w h = h
rejoined_fine par.Or s bs body w h = tt
rejoined_fine par.And s bs body w h = either (all_over bs) _ _ (λ q. tt) (λ q. h)

through_fine : (body : Body) (fr : Frame) (f : Focus Act) (x : Outcome) (w : World) → frame_in_range fr → OutcomeRange x → Fine (through body fr f x w)
unfolding in_range focus_in_range
through_fine body fr f (Goes g) w h k = (h, k)
through_fine body fr f (Rests r) w h k = filled fr r h k
through_fine body fr f (Raises r) w h k = filled fr r h k
through_fine body fr f (Fails e r) w h k = tt
through_fine body (OfBlock b fin all rest) f Past w h k = (h, tt)
through_fine body (OfBlock b fin all rest) f (Registers s) w h k = (h, tt)
through_fine body (OfBlock b fin all rest) f AtBlockEnd w h k = tt
through_fine body (OfBlock b fin all rest) f (Leaves node x) w h k = body_left_fine (node == (out-KBlock b).node) b fin all f body node x w
through_fine body (OfOpen s) f (Ends v) w h k = tt
through_fine body (OfOpen s) f (Leaves node x) w h k = open_left_fine (node == s.node) s f body node x w
through_fine body (OfLoop s c) f AtLoopHead w h k = next_turn_fine s (out-KStmt s.stmt) c body w refl h
through_fine body (OfLoop s c) f (Ends v) w h k = again_fine s c w h
through_fine body (OfLoop s c) f (Leaves node x) w h k = loop_left_fine (node == s.node) s c f body node x w h
through_fine body (OfCall s) f (Ends v) w h k = tt
through_fine body (OfPar s front back) f (Ends v) w h k = rejoined_fine (kind_of (out-KStmt s.stmt)) s (join front (branch Over back)) body w (joined front (branch Over back) h.0 (tt, h.1))
through_fine body (OfInstance b fin front seat back r rest) f (Ends v) w h k = (joined_all front back h.0 h.1, h.2)
through_fine body fr f (Leaves node x) w h k = tt
through_fine body fr f x w h k = filled fr Over h tt

up_fine : (body : Body) (f : Focus Act) (x : Outcome) (w : World) → focus_in_range f → OutcomeRange x → Fine (up body f x w)
unfolding up focus_in_range
up_fine body (Here a) x w h k = k
up_fine body (In fr f) x w h k = through_fine body fr f (up (body_in fr body) f x w).outcome (up (body_in fr body) f x w).world h.0 (up_fine (body_in fr body) f x w h.1 k)

taken_fine : (f : Focus Act) (x : Outcome) → focus_in_range f → OutcomeRange x → OutcomeRange (taken f x)
unfolding in_range
taken_fine f (Goes g) h k = k
taken_fine f (Rests r) h k = k
taken_fine f (Raises r) h k = k
taken_fine f (Fails e r) h k = tt
taken_fine f (Ends v) h k = tt
taken_fine f (Leaves node x) h k = plugged f Over h tt
taken_fine f x h k = tt

answered_fine : (root : Body) (f : Focus Act) (x : Outcome) (w : World) → focus_in_range f → OutcomeRange x → Fine (answered root f x w)
answered_fine root f x w h k = taken_fine f (up root f x w).outcome h (up_fine root f x w h k)

-- ---- a leaf

pub clamped_lies : (z : ℤ) → (1 ≤ clamped z) × (clamped z ≤ 2 ^ 63 - 1)
clamped_lies (pos n) = (grind arith, grind arith)
clamped_lies (negsuc n) = (omega arith, omega arith)

abbrev DoesRange : Does → Type 0
DoesRange (Opens x) = focus_in_range x
DoesRange (Waits r) = in_range r
DoesRange x = Unit {0}

or_fails_fine : {A : Type 0} (a : Result A (Fault × Pos)) (w : World) (go : A → Done) → ((x : A) → DoesRange (go x).does) → DoesRange (or_fails a w go).does
or_fails_fine (Ok x) w go h = h x
or_fails_fine (Err e) w go h = tt

fresh_branches : (n : ℕ) (bs : List KBlock) → each_in_range (branches_from n bs)
unfolding each_in_range
fresh_branches n [] = tt
fresh_branches n (b ∷ bs) = (tt, fresh_branches n bs)

branches_fine : (n : ℕ) (s : KNode) (bs : List KBlock) → DoesRange (in_branches n s bs)
unfolding focus_in_range each_in_range
branches_fine n s [] = tt
branches_fine n s (b ∷ bs) = ((tt, fresh_branches n bs), tt)

loop_fine : (s : KNode) (k : KLoop) (b : KBlock) (body : Body) (w : World) → out-KStmt s.stmt ≡ KStmt-F.Loop k b → DoesRange (loop_reached s k body w).does
unfolding focus_in_range
loop_fine s turns.Free b body w e = (subst (λ l. counted l Free) (sym e) tt, tt)
loop_fine s (turns.Times slot n) b body w e = (subst (λ l. counted l (Turns 0)) (sym e) (omega arith), tt)
loop_fine s (turns.Range i next end open_a x y open_b) b body w e =
    or_fails_fine (value_of x body w) w _ (λ u. or_fails_fine (value_of y body w) w _ (λ v. (subst (λ l. counted l (Upward (u +ℤ of_test open_a) (v -ℤ of_test open_b))) (sym e) tt, tt)))

called_fine : (s : KNode) (o : Option KCode) (vs : List ℤ) (body : Body) (w : World) → DoesRange (called s o vs body w).does
unfolding focus_in_range
called_fine s None vs body w = tt
called_fine s (Some c) vs body w = (tt, tt)

spawning_fine : (s : KNode) (o : Option KCode) (code pool : ℕ) (alias : Option ℕ) (vs : List ℤ) (w : World) → DoesRange (spawning s o code pool alias vs w).does
spawning_fine s None code pool alias vs w = tt
spawning_fine s (Some c) code pool alias vs w = tt

killing_fine : (o : Option Cell) (living : List ℕ) → DoesRange (killing o living)
killing_fine (Some (Names m)) living = go (names_living (Some (Names m)) living)
  where
    go : (b : Bool) → DoesRange (if b then Kills m else Passes)
    go true = tt
    go false = tt
killing_fine o living = tt

started_fine : (K : Kernel) (n : ℕ) (body : Body) (s : KNode) (layer : Layer) (w : World) → out-KStmt s.stmt ≡ layer → DoesRange (started K n body s layer w).does
unfolding in_range focus_in_range
started_fine K n body s (KStmt-F.Assign l x) w e = or_fails_fine (value_of x body w) w _ (λ v. tt)
started_fine K n body s (KStmt-F.Out k x) w e = or_fails_fine (value_if x body w) w _ (λ v. tt)
started_fine K n body s (KStmt-F.Emit k x) w e = or_fails_fine (value_if x body w) w _ (λ v. tt)
started_fine K n body s (KStmt-F.AwaitTime x u t) w e = or_fails_fine (value_of x body w) w _ (λ v. clamped_lies (v *ℤ pos (microseconds u)))
started_fine K n body s (KStmt-F.AwaitCode c es f t) w e = or_fails_fine (values_of es body w) w _ (λ vs. called_fine s (code_at c K.codes) vs body w)
started_fine K n body s (KStmt-F.Spawn c es p a) w e = or_fails_fine (values_of es body w) w _ (λ vs. spawning_fine s (code_at c K.codes) c p a vs w)
started_fine K n body s (KStmt-F.Kill c) w e = killing_fine (look body c w.values) w.living
started_fine K n body s (KStmt-F.Do t b) w e = (tt, tt)
started_fine K n body s (KStmt-F.Escape m x) w e = or_fails_fine (value_if x body w) w _ (λ v. tt)
started_fine K n body s (KStmt-F.If arms last) w e = or_fails_fine (chosen_part arms last body w) w _ (λ b. (tt, tt))
started_fine K n body s (KStmt-F.Loop k b) w e = loop_fine s k b body w e
started_fine K n body s (KStmt-F.Par k slot bs) w e = branches_fine n s bs
started_fine K n body s layer w e = tt

acted_fine : (K : Kernel) (n : ℕ) (body : Body) (a : Act) (w : World) → DoesRange (acted K n body a w).does
unfolding in_range focus_in_range
acted_fine K n body (Begin b) w = (tt, tt)
acted_fine K n body (Start s) w = started_fine K n body s (out-KStmt s.stmt) w refl
acted_fine K n body (Finish s v) w = tt
acted_fine K n body AtEnd w = tt
acted_fine K n body AtHead w = tt
acted_fine K n body Again w = tt

-- ---- emissions, spawns and kills

by_event_fine : (level event : ℕ) (v : ℤ) (r : Residual) → in_range r → in_range (by_event level event v r)
unfolding in_range
by_event_fine level event v (WaitEvent k s) h = go (k == event)
  where
    go : (b : Bool) → in_range (if b then Run level (Finish s v) else WaitEvent k s)
    go true = tt
    go false = tt
by_event_fine level event v r h = h

with_fine : (seat : Seat) (r : Residual) (all : Instances) → in_range r → all_in_range all → all_in_range (with_instance seat r all)
unfolding all_in_range
with_fine seat r no_instance h k = (h, tt)
with_fine seat r (instance other q more) h k = go (nat_lt seat.pool other.pool) (with_fine seat r more h k.1)
  where
    go : (b : Bool) → all_in_range (with_instance seat r more) → all_in_range (if b then instance seat r (instance other q more) else instance other q (with_instance seat r more))
    go true x = (h, k)
    go false x = (k.0, x)

seated_if_fine : (o : Option ℕ) (seat : Seat) (r : Residual) (all : Instances) → in_range r → all_in_range all → all_in_range (seated_if o seat r all)
seated_if_fine None seat r all h k = k
seated_if_fine (Some n) seat r all h k = with_fine seat r all h k

seat_fine : (seat : Seat) (r : Residual) (fr : Frame) → in_range r → frame_in_range fr → frame_in_range (seat_frame seat r fr)
seat_fine seat r (OfBlock b fin all rest) h k = seated_if_fine (size_in seat.pool (out-KBlock b).decls) seat r all h k
seat_fine seat r fr h k = k

seated_fine : (seat : Seat) (r : Residual) (f : Focus Act) → in_range r → focus_in_range f → focus_in_range (seated seat r f)
unfolding focus_in_range
seated_fine seat r (Here a) h k = tt
seated_fine seat r (In fr f) h k = (seat_fine seat r fr h k.0, seated_fine seat r f h k.1)

unseated_fine : (n : ℕ) (all : Instances) → all_in_range all → all_in_range (unseated n all)
unfolding all_in_range
unseated_fine n no_instance h = tt
unseated_fine n (instance seat r more) h = go (seat.number == n) (unseated_fine n more h.1)
  where
    go : (b : Bool) → all_in_range (unseated n more) → all_in_range (if b then more else instance seat r (unseated n more))
    go true x = h.1
    go false x = (h.0, x)

unseat_fine : (n : ℕ) (f : Focus Act) → focus_in_range f → focus_in_range (unseat n f)
unfolding focus_in_range
unseat_fine n (Here a) h = tt
unseat_fine n (In fr f) h = (frame fr h.0, unseat_fine n f h.1)
  where
    frame : (fr : Frame) → frame_in_range fr → frame_in_range (unseat_frame n fr)
    frame (OfBlock b fin all rest) k = unseated_fine n all k
    frame fr k = k

spawned_fine : (n : ℕ) (root body : Body) (f : Focus Act) (s : KNode) (c : KCode) (code pool : ℕ) (alias : Option ℕ) (vs : List ℤ) (w : World) → focus_in_range f → Fine (spawned n root body f s c code pool alias vs w)
unfolding in_range
spawned_fine n root body f s c code pool alias vs w h = go (free_place pool f)
  where
    go : (o : Option ℕ) → Fine (elim o [
      | None ↦ answered root f Past (marked mark.Full (set_alias body alias NotSet w))
      | Some place ↦ spawned_at n body f s c code pool place alias vs w
    ])
    go None = answered_fine root f Past _ h tt
    go (Some place) = either (w.given == 4294967295) _ _ (λ q. tt) (λ q. plugged _ _ (seated_fine (record { pool = pool; place = place; code = code; number = w.given + 1 }) (Run (n + 1) (Begin c.body)) f tt h) tt)

does_fine : (K : Kernel) (n : ℕ) (root body : Body) (f : Focus Act) (x : Does) (w : World) → focus_in_range f → DoesRange x → Fine (does_in K n root body f x w)
unfolding in_range
does_fine K n root body f (does.Opens x) w h k = grafted f x h k
does_fine K n root body f (does.Waits r) w h k = plugged f r h k
does_fine K n root body f does.Passes w h k = answered_fine root f Past w h tt
does_fine K n root body f (does.Leaves node x) w h k = answered_fine root f (Leaves node x) w h tt
does_fine K n root body f (does.Registers s) w h k = answered_fine root f (Registers s) w h tt
does_fine K n root body f does.Ends w h k = answered_fine root f AtBlockEnd w h tt
does_fine K n root body f does.Heads w h k = answered_fine root f AtLoopHead w h tt
does_fine K n root body f (does.Emits s event v) w h k = woken_kept (by_event (n + 1) event v) (by_event_fine (n + 1) event v) (event_code event K.events) f (Run n (Finish s (pos 0))) h tt
does_fine K n root body f (does.Spawns s c code pool alias vs) w h k = spawned_fine n root body f s c code pool alias vs w h
does_fine K n root body f (does.Kills j) w h k = answered_fine root (unseat j f) Past (killed j f w) (unseat_fine j f h) tt
does_fine K n root body f (does.Fails e) w h k = tt

pub stepped_fine : (K : Kernel) (n : ℕ) (root : Body) (f : Focus Act) (w : World) → focus_in_range f → OutcomeRange (stepped K n root f w).outcome
unfolding stepped
stepped_fine K n root f w h = does_fine K n root (body_of f root) f _ _ h (acted_fine K n (body_of f root) (leaf f) w)
