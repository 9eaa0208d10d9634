-- A step keeps ranges within an int, where the ends of one that begins give ints.
use Rattle.std.proofs.Common.{◌≡◌, refl, sym, ap, ◌∙◌, subst, ℕ, suc, ◌+◌, ℤ, pos, ◌+ℤ◌, ◌-ℤ◌, int_lt, int_le, nat_lt, Bool, true, false, if◌then◌else◌, ◌==◌, List, [], ◌∷◌, Option, Some, None, Result, Ok, Err}
use Rattle.std.proofs.lemmas.Bool.{and_parts, and_from, or_left, or_right, false≢true}
use Rattle.std.proofs.lemmas.Int.{ints}
use Rattle.std.proofs.Common.{arith}
use Rattle.ceu_base.specs.declared.kinds.Pos.{Pos}
use Rattle.ceu_base.specs.declared.kinds.Fault.{Fault}
use Rattle.ceu_base.specs.declared.kinds.Ty.TheVariants as ty
use Rattle.ceu_base.specs.declared.kinds.Mark.TheVariants as mark
use Rattle.ceu_base.specs.Values.{is_value, least, above, of_test}
use Rattle.ceu_tree.specs.declared.kernel.Kernel.{Kernel}
use Rattle.ceu_tree.specs.declared.kernel.KCode.{KCode}
use Rattle.ceu_tree.specs.declared.kernel.KLoop.{KLoop}
use Rattle.ceu_tree.specs.declared.kernel.KLoop.TheVariants as turns
use Rattle.ceu_tree.specs.declared.kernel.ParKind.{ParKind}
use Rattle.ceu_tree.specs.declared.kernel.ParKind.TheVariants as par
use Rattle.ceu_tree.specs.declared.kernel.KNode.{KNode}
use Rattle.ceu_tree.specs.declared.kernel.KBlock.{KBlock, out-KBlock}
use Rattle.ceu_tree.specs.declared.kernel.KStmt.{out-KStmt}
use Rattle.ceu_tree.specs.declared.kernel.KStmt.TheOpen.{KStmt-F}
use Rattle.ceu_tree.specs.Residual.{Body, Act, Begin, Start, Finish, AtEnd, AtHead, Again, Counter, Free, Turns, Upward, Seat, Residual, Over, Run, WaitEvent, Branches, branch, Instances, no_instance, instance}
use Rattle.ceu_tree.specs.Focus.{Frame, OfBlock, OfInstance, OfOpen, OfLoop, OfCall, OfPar, Focus, Here, In, join, leaf, body_in, body_of}
use Rattle.ceu_tree.specs.World.{World, Cell, Holds, NotSet, set, Names, marked, set_alias, look}
use Rattle.ceu_tree.specs.Expressions.{names_living, value_of, value_if, values_of}
use Rattle.ceu_tree.specs.Wake.{by_event}
use Rattle.ceu_tree.specs.Leaf as does
use Rattle.ceu_tree.specs.Leaf.{Layer, Exit, Escape, Break, Continue, Does, Opens, Waits, Passes, Kills, Done, or_fails, microseconds, clamped, code_at, chosen_part, branches_from, in_branches, loop_reached, called, spawning, killing, started, next_of, rest_of, acted}
use Rattle.ceu_tree.specs.Around.{Outcome, Goes, Rests, Raises, Fails, Past, Registers, AtBlockEnd, AtLoopHead, Ends, Leaves, Moved, body_left, open_left, again, begins_turn, turn_of, next_turn, loop_exit, loop_left, all_over, kind_of, rejoined, through, up, taken, answered}
use Rattle.ceu_tree.specs.Step.{event_code, size_in, free_place, with_instance, seated_if, seat_frame, seated, spawned_at, spawned, unseated, unseat_frame, unseat, killed, does_in, stepped}
use Rattle.ceu_tree.specs.Proper.{is_proper}
use Rattle.laws_meaning_basics.specs.Shape.{Part, ABlock, Around, TurnFits, Comes}
use Rattle.laws_meaning_basics.proofs.UpFits.{Sound, up_fits}
use Rattle.laws_meaning_basics.proofs.LeafFits.{DoesFit, acted_fits}
use Rattle.laws_meaning_basics.proofs.StepFits.{Closed, around_sound, unseated_around}
use Rattle.laws_meaning_values.proofs.UpValues.{is_head_outcome}
use Rattle.laws_meaning_counters.specs.Counters.{is_first, at_loop}
use Rattle.laws_meaning_counters.specs.Ints.{last_int, RangeInt, turns_int, layer_int, tree_int, each_int, all_int, frame_int, focus_int, outcome_int, layer_ends, act_ends}
use Rattle.laws_meaning_counters.proofs.IntTrees.{le_is, frame_later, joined, joined_all, filled, plugged, grafted, woken_kept}
use Rattle.laws_meaning_counters.proofs.CountersSteps.{is_heads, head_does, not_first, unseat_leaf, pausing_past}

abbrev Fine : Moved → Type 0
Fine m = outcome_int m.outcome

-- ---- the parts around a leaf

body_left_fine : (t : Bool) (b : KBlock) (fin : List KNode) (all : Instances) (f : Focus Act) (body : Body) (node : ℕ) (x : Exit) (w : World) → Fine (body_left t b fin all f body node x w)
body_left_fine true b fin all f body node x w = tt
body_left_fine false b fin all f body node x w = tt

open_left_fine : (t : Bool) (s : KNode) (f : Focus Act) (body : Body) (node : ℕ) (x : Exit) (w : World) → Fine (open_left t s f body node x w)
open_left_fine true s f body node x w = tt
open_left_fine false s f body node x w = tt

again_fine : (s : KNode) (c : Counter) (w : World) → layer_int false (out-KStmt s.stmt) c → Fine (again s c w)
unfolding focus_int
again_fine s c w h = (h, tt)

begins_fine : (s : KNode) (c : Counter) (b : KBlock) (layer : Layer) (w : World) → out-KStmt s.stmt ≡ layer → layer_int false layer c → Fine (begins_turn s c b w)
unfolding focus_int
begins_fine s c b layer w e h = (subst (λ l. layer_int false l c) (sym e) h, tt)

either : (b : Bool) (x y : Moved) → (b ≡ true → Fine x) → (b ≡ false → Fine y) → Fine (if b then x else y)
either true x y h k = h refl
either false x y h k = k refl

-- a turn that begins takes the next value, which an int has
pub next_int : (first : Bool) (v last : ℤ) → RangeInt first v last → RangeInt false (v +ℤ pos 1) last
next_int true v last h = let a = h.from in record { from = le_is (least ty.S32 +ℤ of_test true) (v +ℤ pos 1) (λ e. omega (arith, ints, e, a)); to = h.to }
next_int false v last h = let a = h.from in record { from = le_is (least ty.S32 +ℤ of_test true) (v +ℤ pos 1) (λ e. omega (arith, ints, e, a)); to = h.to }

turn_fine : (first : Bool) (s : KNode) (k : KLoop) (b : KBlock) (c : Counter) (body : Body) (w : World) → out-KStmt s.stmt ≡ KStmt-F.Loop k b → turns_int first k c → Fine (turn_of s k b c body w)
turn_fine first s (turns.Times slot limit) b (Turns j) body w e h = either (j == limit) _ _ (λ q. tt) (λ q. begins_fine s (Turns (j + 1)) b _ w e tt)
turn_fine first s (turns.Range i next end open_a x y open_b) b (Upward v last) body w e h =
    either (int_lt last v) _ _ (λ q. tt) (λ q. begins_fine s (Upward (v +ℤ pos 1) last) b _ (set body i (Holds v) w) e (next_int first v last h))
turn_fine first s turns.Free b c body w e h = begins_fine s c b _ w e tt
turn_fine first s (turns.Times slot limit) b Free body w e h = begins_fine s Free b _ w e tt
turn_fine first s (turns.Times slot limit) b (Upward v last) body w e h = begins_fine s (Upward v last) b _ w e tt
turn_fine first s (turns.Range i next end open_a x y open_b) b Free body w e h = begins_fine s Free b _ w e tt
turn_fine first s (turns.Range i next end open_a x y open_b) b (Turns j) body w e h = begins_fine s (Turns j) b _ w e tt

next_turn_fine : (first : Bool) (s : KNode) (layer : Layer) (c : Counter) (body : Body) (w : World) → out-KStmt s.stmt ≡ layer → layer_int first layer c → Fine (next_turn s layer c body w)
next_turn_fine first s (KStmt-F.Loop k b) c body w e h = turn_fine first s k b c body w e h
next_turn_fine first s layer c body w e h = tt

loop_exit_fine : (s : KNode) (c : Counter) (x : Exit) (body : Body) (w : World) → layer_int false (out-KStmt s.stmt) c → Fine (loop_exit s c x body w)
loop_exit_fine s c Continue body w h = again_fine s c w h
loop_exit_fine s c Break body w h = tt
loop_exit_fine s c (Escape v) body w h = tt

loop_left_fine : (t : Bool) (s : KNode) (c : Counter) (f : Focus Act) (body : Body) (node : ℕ) (x : Exit) (w : World) → layer_int false (out-KStmt s.stmt) c → Fine (loop_left t s c f body node x w)
loop_left_fine true s c f body node x w h = loop_exit_fine s c x body _ h
loop_left_fine false s c f body node x w h = tt

rejoined_fine : (k : ParKind) (s : KNode) (bs : Branches) (body : Body) (w : World) → each_int bs → Fine (rejoined k s bs body w)
unfolding tree_int
rejoined_fine par.Never s bs body w h = h
rejoined_fine par.Or s bs body w h = tt
rejoined_fine par.And s bs body w h = either (all_over bs) _ _ (λ q. tt) (λ q. h)

strict : (fr : Frame) (f : Focus Act) (x : Outcome) → is_head_outcome x ≡ false → (at_loop is_first f ≡ true → is_head_outcome x ≡ true) → frame_int (at_loop is_first f) fr → frame_int false fr
strict fr f x e hd h = go (at_loop is_first f) refl h
  where
    go : (t : Bool) → at_loop is_first f ≡ t → frame_int t fr → frame_int false fr
    go false q s = s
    go true q s = absurd (false≢true (sym e ∙ hd q))

through_fine : (body : Body) (fr : Frame) (f : Focus Act) (x : Outcome) (w : World) → frame_int (at_loop is_first f) fr → (at_loop is_first f ≡ true → is_head_outcome x ≡ true) → outcome_int x → Fine (through body fr f x w)
unfolding tree_int focus_int
through_fine body fr f (Goes g) w h hd k = (frame_later (at_loop is_first g) fr (strict fr f (Goes g) refl hd h), k)
through_fine body fr f (Rests r) w h hd k = filled fr r (strict fr f (Rests r) refl hd h) k
through_fine body fr f (Raises r) w h hd k = filled fr r (strict fr f (Raises r) refl hd h) k
through_fine body fr f (Fails e r) w h hd k = tt
through_fine body (OfBlock b fin all rest) f Past w h hd k = (h, tt)
through_fine body (OfBlock b fin all rest) f (Registers s) w h hd k = (h, tt)
through_fine body (OfBlock b fin all rest) f AtBlockEnd w h hd k = tt
through_fine body (OfBlock b fin all rest) f (Leaves node x) w h hd k = body_left_fine (node == (out-KBlock b).node) b fin all f body node x w
through_fine body (OfOpen s) f (Ends v) w h hd k = tt
through_fine body (OfOpen s) f (Leaves node x) w h hd k = open_left_fine (node == s.node) s f body node x w
through_fine body (OfLoop s c) f AtLoopHead w h hd k = next_turn_fine (at_loop is_first f) s (out-KStmt s.stmt) c body w refl h
through_fine body (OfLoop s c) f (Ends v) w h hd k = again_fine s c w (strict (OfLoop s c) f (Ends v) refl hd h)
through_fine body (OfLoop s c) f (Leaves node x) w h hd k = loop_left_fine (node == s.node) s c f body node x w (strict (OfLoop s c) f (Leaves node x) refl hd h)
through_fine body (OfCall s) f (Ends v) w h hd k = tt
through_fine body (OfPar s front back) f (Ends v) w h hd k = rejoined_fine (kind_of (out-KStmt s.stmt)) s (join front (branch Over back)) body w (joined front (branch Over back) h.0 (tt, h.1))
through_fine body (OfInstance b fin front seat back r rest) f (Ends v) w h hd k = (joined_all front back h.0 h.1, h.2)
through_fine body fr f (Leaves node x) w h hd k = tt
through_fine body (OfBlock b fin all rest) f AtLoopHead w h hd k = filled (OfBlock b fin all rest) Over h tt
through_fine body (OfInstance b fin front seat back r rest) f AtLoopHead w h hd k = filled (OfInstance b fin front seat back r rest) Over h tt
through_fine body (OfOpen s) f AtLoopHead w h hd k = filled (OfOpen s) Over h tt
through_fine body (OfCall s) f AtLoopHead w h hd k = filled (OfCall s) Over h tt
through_fine body (OfPar s front back) f AtLoopHead w h hd k = filled (OfPar s front back) Over h tt
through_fine body fr f x w h hd k = filled fr Over (strict fr f x refl hd h) tt

head_first : (body : Body) (f : Focus Act) (x : Outcome) (w : World) → (is_first (leaf f) ≡ true → is_head_outcome x ≡ true) → at_loop is_first f ≡ true → is_head_outcome (up body f x w).outcome ≡ true
unfolding up
head_first body (Here a) x w h e = h e
head_first body (In fr f) x w h e = absurd (false≢true e)

up_fine : (body : Body) (f : Focus Act) (x : Outcome) (w : World) → focus_int f → (is_first (leaf f) ≡ true → is_head_outcome x ≡ true) → outcome_int x → Fine (up body f x w)
unfolding up focus_int
up_fine body (Here a) x w h hd k = k
up_fine body (In fr f) x w h hd k = through_fine body fr f (up (body_in fr body) f x w).outcome (up (body_in fr body) f x w).world h.0 (head_first (body_in fr body) f x w hd) (up_fine (body_in fr body) f x w h.1 hd k)

-- ---- a leaf

abbrev pub DoesInt : Does → Type 0
DoesInt (Opens x) = focus_int x
DoesInt (Waits r) = tree_int r
DoesInt x = Unit {0}

or_fails_fine : {A : Type 0} (a : Result A (Fault × Pos)) (w : World) (go : A → Done) → ((x : A) → DoesInt (go x).does) → DoesInt (or_fails a w go).does
or_fails_fine (Ok x) w go h = h x
or_fails_fine (Err e) w go h = tt

or_fails_same : {A : Type 0} (a : Result A (Fault × Pos)) (w : World) (go : A → Done) → ((x : A) → a ≡ Ok x → DoesInt (go x).does) → DoesInt (or_fails a w go).does
or_fails_same (Ok x) w go h = h x refl
or_fails_same (Err e) w go h = tt

fresh_branches : (n : ℕ) (bs : List KBlock) → each_int (branches_from n bs)
unfolding each_int
fresh_branches n [] = tt
fresh_branches n (b ∷ bs) = (tt, fresh_branches n bs)

branches_fine : (n : ℕ) (s : KNode) (bs : List KBlock) → DoesInt (in_branches n s bs)
unfolding focus_int each_int
branches_fine n s [] = tt
branches_fine n s (b ∷ bs) = ((tt, fresh_branches n bs), tt)

starts_int : (u : ℤ) (open_a : Bool) → is_value ty.S32 u ≡ true → int_le (least ty.S32 +ℤ of_test false) (u +ℤ of_test open_a) ≡ true
starts_int u open_a h = go open_a (and_parts (int_le (least ty.S32) u) (int_lt u (above ty.S32)) h).0
  where
    go : (t : Bool) → int_le (least ty.S32) u ≡ true → int_le (least ty.S32 +ℤ of_test false) (u +ℤ of_test t) ≡ true
    go true a = le_is (least ty.S32 +ℤ of_test false) (u +ℤ pos 1) (λ e. omega (arith, ints, e, a))
    go false a = le_is (least ty.S32 +ℤ of_test false) (u +ℤ pos 0) (λ e. omega (arith, ints, e, a))

ends_int : (v : ℤ) (open_b : Bool) → is_value ty.S32 v ≡ true → last_int (v -ℤ of_test open_b)
ends_int v open_b h = go open_b (and_parts (int_le (least ty.S32) v) (int_lt v (above ty.S32)) h)
  where
    below : int_lt v (above ty.S32) ≡ true → (t : Bool) → int_lt (v -ℤ of_test t) (above ty.S32) ≡ true
    below a t = case (int_lt (v -ℤ of_test t) (above ty.S32)) refl t refl
      where
        case : (c : Bool) → int_lt (v -ℤ of_test t) (above ty.S32) ≡ c → (u : Bool) → t ≡ u → c ≡ true
        case true e u z = refl
        case false e true z = absurd (let f = sym e ∙ ap (λ y. int_lt (v -ℤ of_test y) (above ty.S32)) z in omega (arith, ints, a, f))
        case false e false z = absurd (let f = sym e ∙ ap (λ y. int_lt (v -ℤ of_test y) (above ty.S32)) z in omega (arith, ints, a, f))

    go : (t : Bool) → (int_le (least ty.S32) v ≡ true) × (int_lt v (above ty.S32) ≡ true) → last_int (v -ℤ of_test t)
    go false a = or_left (is_value ty.S32 (v -ℤ pos 0)) _ (and_from (int_le (least ty.S32) (v -ℤ pos 0)) (int_lt (v -ℤ pos 0) (above ty.S32)) (le_is (least ty.S32) (v -ℤ pos 0) (λ e. (let z = a.0 in omega (arith, ints, e, z)))) (below a.1 false))
    go true a = side (int_le (least ty.S32) (v -ℤ pos 1)) refl
      where
        side : (c : Bool) → int_le (least ty.S32) (v -ℤ pos 1) ≡ c → last_int (v -ℤ pos 1)
        side true e = or_left (is_value ty.S32 (v -ℤ pos 1)) _ (and_from (int_le (least ty.S32) (v -ℤ pos 1)) (int_lt (v -ℤ pos 1) (above ty.S32)) e (below a.1 true))
        side false e = or_right (is_value ty.S32 (v -ℤ pos 1)) _ (and_from (int_le (v -ℤ pos 1) (least ty.S32 -ℤ pos 1)) (int_le (least ty.S32 -ℤ pos 1) (v -ℤ pos 1))
            (le_is (v -ℤ pos 1) (least ty.S32 -ℤ pos 1) (λ f. omega (arith, ints, e, f))) (le_is (least ty.S32 -ℤ pos 1) (v -ℤ pos 1) (λ f. (let z = a.0 in omega (arith, ints, f, z)))))

loop_fine : (s : KNode) (k : KLoop) (b : KBlock) (body : Body) (w : World) → out-KStmt s.stmt ≡ KStmt-F.Loop k b → layer_ends body w (KStmt-F.Loop k b) → DoesInt (loop_reached s k body w).does
unfolding focus_int
loop_fine s turns.Free b body w e h = (subst (λ l. layer_int true l Free) (sym e) tt, tt)
loop_fine s (turns.Times slot n) b body w e h = (subst (λ l. layer_int true l (Turns 0)) (sym e) tt, tt)
loop_fine s (turns.Range i next end open_a x y open_b) b body w e h = or_fails_same (value_of x body w) w _ (λ u p. or_fails_same (value_of y body w) w _ (λ v q. (
  subst (λ l. layer_int true l (Upward (u +ℤ of_test open_a) (v -ℤ of_test open_b))) (sym e) (record { from = starts_int u open_a (h.0 u p); to = ends_int v open_b (h.1 v q) }),
  tt,
)))

called_fine : (s : KNode) (o : Option KCode) (vs : List ℤ) (body : Body) (w : World) → DoesInt (called s o vs body w).does
unfolding focus_int
called_fine s None vs body w = tt
called_fine s (Some c) vs body w = (tt, tt)

spawning_fine : (s : KNode) (o : Option KCode) (code pool : ℕ) (alias : Option ℕ) (vs : List ℤ) (w : World) → DoesInt (spawning s o code pool alias vs w).does
spawning_fine s None code pool alias vs w = tt
spawning_fine s (Some c) code pool alias vs w = tt

killing_fine : (o : Option Cell) (living : List ℕ) → DoesInt (killing o living)
killing_fine (Some (Names m)) living = go (names_living (Some (Names m)) living)
  where
    go : (b : Bool) → DoesInt (if b then Kills m else Passes)
    go true = tt
    go false = tt
killing_fine o living = tt

started_fine : (K : Kernel) (n : ℕ) (body : Body) (s : KNode) (layer : Layer) (w : World) → out-KStmt s.stmt ≡ layer → layer_ends body w layer → DoesInt (started K n body s layer w).does
unfolding tree_int focus_int
started_fine K n body s (KStmt-F.Assign l x) w e h = or_fails_fine (value_of x body w) w _ (λ v. tt)
started_fine K n body s (KStmt-F.Out k x) w e h = or_fails_fine (value_if x body w) w _ (λ v. tt)
started_fine K n body s (KStmt-F.Emit k x) w e h = or_fails_fine (value_if x body w) w _ (λ v. tt)
started_fine K n body s (KStmt-F.AwaitTime x u t) w e h = or_fails_fine (value_of x body w) w _ (λ v. tt)
started_fine K n body s (KStmt-F.AwaitCode c es f t) w e h = or_fails_fine (values_of es body w) w _ (λ vs. called_fine s (code_at c K.codes) vs body w)
started_fine K n body s (KStmt-F.Spawn c es p a) w e h = or_fails_fine (values_of es body w) w _ (λ vs. spawning_fine s (code_at c K.codes) c p a vs w)
started_fine K n body s (KStmt-F.Kill c) w e h = killing_fine (look body c w.values) w.living
started_fine K n body s (KStmt-F.Do t b) w e h = (tt, tt)
started_fine K n body s (KStmt-F.Escape m x) w e h = or_fails_fine (value_if x body w) w _ (λ v. tt)
started_fine K n body s (KStmt-F.If arms last) w e h = or_fails_fine (chosen_part arms last body w) w _ (λ b. (tt, tt))
started_fine K n body s (KStmt-F.Loop k b) w e h = loop_fine s k b body w e h
started_fine K n body s (KStmt-F.Par k slot bs) w e h = branches_fine n s bs
started_fine K n body s layer w e h = tt

acted_fine : (K : Kernel) (n : ℕ) (body : Body) (a : Act) (w : World) → act_ends body w a → DoesInt (acted K n body a w).does
unfolding tree_int focus_int
acted_fine K n body (Begin b) w h = (tt, tt)
acted_fine K n body (Start s) w h = started_fine K n body s (out-KStmt s.stmt) w refl h
acted_fine K n body (Finish s v) w h = tt
acted_fine K n body AtEnd w h = tt
acted_fine K n body AtHead w h = tt
acted_fine K n body Again w h = tt

-- ---- emissions, spawns and kills

by_event_fine : (level event : ℕ) (v : ℤ) (r : Residual) → tree_int r → tree_int (by_event level event v r)
unfolding tree_int
by_event_fine level event v (WaitEvent k s) h = go (k == event)
  where
    go : (b : Bool) → tree_int (if b then Run level (Finish s v) else WaitEvent k s)
    go true = tt
    go false = tt
by_event_fine level event v r h = h

with_fine : (seat : Seat) (r : Residual) (all : Instances) → tree_int r → all_int all → all_int (with_instance seat r all)
unfolding all_int
with_fine seat r no_instance h k = (h, tt)
with_fine seat r (instance other q more) h k = go (nat_lt seat.pool other.pool) (with_fine seat r more h k.1)
  where
    go : (b : Bool) → all_int (with_instance seat r more) → all_int (if b then instance seat r (instance other q more) else instance other q (with_instance seat r more))
    go true x = (h, k)
    go false x = (k.0, x)

seated_if_fine : (o : Option ℕ) (seat : Seat) (r : Residual) (all : Instances) → tree_int r → all_int all → all_int (seated_if o seat r all)
seated_if_fine None seat r all h k = k
seated_if_fine (Some n) seat r all h k = with_fine seat r all h k

seat_fine : (t : Bool) (seat : Seat) (r : Residual) (fr : Frame) → tree_int r → frame_int t fr → frame_int t (seat_frame seat r fr)
seat_fine t seat r (OfBlock b fin all rest) h k = seated_if_fine (size_in seat.pool (out-KBlock b).decls) seat r all h k
seat_fine t seat r (OfInstance b fin front other back q rest) h k = k
seat_fine t seat r (OfOpen s) h k = k
seat_fine t seat r (OfLoop s c) h k = k
seat_fine t seat r (OfCall s) h k = k
seat_fine t seat r (OfPar s front back) h k = k

seat_flag : (seat : Seat) (r : Residual) (f : Focus Act) → at_loop is_first (seated seat r f) ≡ at_loop is_first f
seat_flag seat r (Here a) = refl
seat_flag seat r (In fr f) = refl

seat_leaf : (seat : Seat) (r : Residual) (f : Focus Act) → leaf (seated seat r f) ≡ leaf f
seat_leaf seat r (Here a) = refl
seat_leaf seat r (In fr f) = seat_leaf seat r f

seated_fine : (seat : Seat) (r : Residual) (f : Focus Act) → tree_int r → focus_int f → focus_int (seated seat r f)
unfolding focus_int
seated_fine seat r (Here a) h k = tt
seated_fine seat r (In fr f) h k = (subst (λ t. frame_int t (seat_frame seat r fr)) (sym (seat_flag seat r f)) (seat_fine (at_loop is_first f) seat r fr h k.0), seated_fine seat r f h k.1)

unseated_fine : (n : ℕ) (all : Instances) → all_int all → all_int (unseated n all)
unfolding all_int
unseated_fine n no_instance h = tt
unseated_fine n (instance seat r more) h = go (seat.number == n) (unseated_fine n more h.1)
  where
    go : (b : Bool) → all_int (unseated n more) → all_int (if b then more else instance seat r (unseated n more))
    go true x = h.1
    go false x = (h.0, x)

unseat_frame_fine : (t : Bool) (n : ℕ) (fr : Frame) → frame_int t fr → frame_int t (unseat_frame n fr)
unseat_frame_fine t n (OfBlock b fin all rest) k = unseated_fine n all k
unseat_frame_fine t n (OfInstance b fin front other back q rest) k = k
unseat_frame_fine t n (OfOpen s) k = k
unseat_frame_fine t n (OfLoop s c) k = k
unseat_frame_fine t n (OfCall s) k = k
unseat_frame_fine t n (OfPar s front back) k = k

unseat_flag : (n : ℕ) (f : Focus Act) → at_loop is_first (unseat n f) ≡ at_loop is_first f
unseat_flag n (Here a) = refl
unseat_flag n (In fr f) = refl

unseat_fine : (n : ℕ) (f : Focus Act) → focus_int f → focus_int (unseat n f)
unfolding focus_int
unseat_fine n (Here a) h = tt
unseat_fine n (In fr f) h = (subst (λ t. frame_int t (unseat_frame n fr)) (sym (unseat_flag n f)) (unseat_frame_fine (at_loop is_first f) n fr h.0), unseat_fine n f h.1)

module _ (K : Kernel) (proper : is_proper K ≡ true) (n : ℕ) (root : Body) (d : Part) (closed : Closed K proper d) (ok : Sound K proper d) where
  taken_fine : (f : Focus Act) (x : Outcome) (d : Part) → Closed K proper d → Comes K n d x → outcome_int x → outcome_int (taken f x)
  taken_fine f (Goes g) (ABlock false sc c) q k h = h
  taken_fine f (Rests r) (ABlock false sc c) q k h = h
  taken_fine f (Raises r) (ABlock false sc c) q k h = h
  taken_fine f (Fails z r) (ABlock false sc c) q k h = tt
  taken_fine f (Ends v) (ABlock false sc c) q k h = tt
  taken_fine f (Leaves node z) (ABlock false sc c) q k h = absurd (q node k.0 k.1)
  taken_fine f x (ABlock false sc c) q k h = elim k [ ]
  taken_fine f x d q k h = elim q [ ]

  module _ (e : Part) where
    answered_fine : (f : Focus Act) (x : Outcome) (w : World) → Around K (suc n) Act f d e → Comes K n e x → focus_int f → (is_first (leaf f) ≡ true → is_head_outcome x ≡ true) → outcome_int x → Fine (answered root f x w)
    answered_fine f x w a c h hd k = taken_fine f (up root f x w).outcome d closed (up_fits K proper n root f x w d e ok a c) (up_fine root f x w h hd k)

    module _ (f : Focus Act) (a : Around K (suc n) Act f d e) where
      spawned_fine : (body : Body) (s : KNode) (c : KCode) (code pool : ℕ) (alias : Option ℕ) (vs : List ℤ) (w : World) → Comes K n e Past → is_first (leaf f) ≡ false → focus_int f → Fine (spawned n root body f s c code pool alias vs w)
      unfolding tree_int
      spawned_fine body s c code pool alias vs w past first h = go (free_place pool f)
        where
          go : (o : Option ℕ) → Fine (elim o [
            | None ↦ answered root f Past (marked mark.Full (set_alias body alias NotSet w))
            | Some place ↦ spawned_at n body f s c code pool place alias vs w
          ])
          go None = answered_fine f Past _ a past h (λ u. absurd (false≢true (sym first ∙ u))) tt
          go (Some place) = either (w.given == 4294967295) _ _ (λ q. tt)
              (λ q. plugged _ _ (ap is_first (seat_leaf (record { pool = pool; place = place; code = code; number = w.given + 1 }) (Run (n + 1) (Begin c.body)) f) ∙ first) (seated_fine (record { pool = pool; place = place; code = code; number = w.given + 1 }) (Run (n + 1) (Begin c.body)) f tt h) tt)

      does_fine : (body : Body) (x : Does) (w : World) → DoesFit K proper n e x → (is_first (leaf f) ≡ true → is_heads x ≡ true) → focus_int f → DoesInt x → Fine (does_in K n root body f x w)
      unfolding tree_int
      does_fine body (does.Opens x) w c hd h k = grafted f x (not_first f (does.Opens x) hd refl) h k
      does_fine body (does.Waits r) w c hd h k = plugged f r (not_first f (does.Waits r) hd refl) h k
      does_fine body does.Passes w c hd h k = answered_fine f Past w a c h (λ u. absurd (false≢true (hd u))) tt
      does_fine body (does.Leaves node x) w c hd h k = answered_fine f (Leaves node x) w a c h (λ u. absurd (false≢true (hd u))) tt
      does_fine body (does.Registers s) w c hd h k = answered_fine f (Registers s) w a c h (λ u. absurd (false≢true (hd u))) tt
      does_fine body does.Ends w c hd h k = answered_fine f AtBlockEnd w a c h (λ u. absurd (false≢true (hd u))) tt
      does_fine body does.Heads w c hd h k = answered_fine f AtLoopHead w a c h (λ u. refl) tt
      does_fine body (does.Emits s event v) w c hd h k =
          woken_kept (by_event (n + 1) event v) (by_event_fine (n + 1) event v) (event_code event K.events) f (Run n (Finish s (pos 0))) (not_first f (does.Emits s event v) hd refl) h tt
      does_fine body (does.Spawns s m code pool alias vs) w c hd h k = spawned_fine body s m code pool alias vs w (pausing_past K proper n c.0) (not_first f (does.Spawns s m code pool alias vs) hd refl) h
      does_fine body (does.Kills j) w c hd h k =
          answered_fine (unseat j f) Past (killed j f w) (unseated_around K proper (suc n) j a) c (unseat_fine j f h) (λ u. absurd (false≢true (hd (ap is_first (sym (unseat_leaf j f)) ∙ u)))) tt
      does_fine body (does.Fails z) w c hd h k = tt

pub stepped_int : (K : Kernel) (proper : is_proper K ≡ true) (n : ℕ) (root : Body) (f : Focus Act) (w : World) (d : Part) → Closed K proper d → Sound K proper d → TurnFits K (suc n) d f → act_ends (body_of f root) w (leaf f) → focus_int f
    → outcome_int (stepped K n root f w).outcome
unfolding stepped
stepped_int K proper n root f w d closed ok t e h =
    let m = acted K n (body_of f root) (leaf f) w in
    does_fine K proper n root d closed ok t.part f t.around (body_of f root) m.does m.world (acted_fits K proper n (body_of f root) t.part (leaf f) w (around_sound K proper t.around ok) t.acts)
    (head_does K n (body_of f root) (leaf f) w) h (acted_fine K n (body_of f root) (leaf f) w e)
