-- A tree that waited, some of whose leaves an input, a time or the end of an async has woken, is one with which a reaction begins.
use Rattle.std.proofs.Common.{◌≡◌, sym, ap, subst, ◌<◌, ℕ, min, ℤ, pos, Bool, true, false, if◌then◌else◌, ◌==◌, List, Option, Some, None, arith}
use Rattle.ceu_tree.specs.declared.kernel.Kernel.{Kernel}
use Rattle.ceu_tree.specs.declared.kernel.ParKind.{ParKind}
use Rattle.ceu_tree.specs.declared.kernel.KBlock.{KBlock}
use Rattle.ceu_tree.specs.declared.kernel.KStmt.{out-KStmt}
use Rattle.ceu_tree.specs.Residual.{Finish, Seat, Residual, Run, WaitInput, WaitTime, InAsync, Branches, no_branch, branch, Instances, no_instance, instance}
use Rattle.ceu_tree.specs.Focus.{Frame, OfBlock, OfInstance, OfOpen, OfLoop, OfCall, OfPar, Focus, Here, In, join, join_instances, fill, plug, leaf, choose}
use Rattle.ceu_tree.specs.Wake.{each_leaf, each_in_branches, each_in_instances, by_input, later, by_time, Unserved, unserved}
use Rattle.ceu_tree.specs.Proper.{Scope}
use Rattle.laws_meaning_basics.proofs.FocusBalance.{Found, FoundIn, choose_found}
use Rattle.laws_meaning_basics.specs.Shape.{Part, ABlock, AStatement, pauses, Fits, to_begin, to_turn, in_list, to_finish, at_input, at_time, at_event, at_forever, at_async, in_part, in_turn, in_call, in_par, EachFits, no_more, an_ended, a_branch, AllFit, none_lives, one_lives}
use Rattle.laws_meaning_basics.proofs.Fits.{around_raised, plug_fits}
use Rattle.laws_meaning_basics.proofs.Leaves.{leaves_fit, later_fits}
use Rattle.laws_meaning_basics.proofs.Choice.{ChoiceFits, choice_fits}
use Rattle.laws_bounds_reach.specs.Standing.{is_outside, begins_reaction, each_begins, all_begin}

-- ---- leaves

module _ (K : Kernel) (g : Residual → Residual) (wakes : (d : Part) (r : Residual) → Fits K 0 d r → begins_reaction (g r)) where
  mutual
    unfolding begins_reaction each_leaf

    pub leaves_begin : {d : Part} {r : Residual} → Fits K 0 d r → begins_reaction (each_leaf g r)
    leaves_begin (to_begin {turn = t} {sc = sc} {b = b} l) = wakes (ABlock t sc b) _ (to_begin l)
    leaves_begin (to_turn {sc = sc} {b = b} l p) = wakes (ABlock true sc b) _ (to_turn l p)
    leaves_begin (in_list done e f all h) = (leaves_begin_all all, leaves_begin h)
    leaves_begin (to_finish {sc = sc} {s = s} l p) = wakes (AStatement sc s) _ (to_finish l p)
    leaves_begin (at_input {sc = sc} {s = s} x e) = wakes (AStatement sc s) _ (at_input x e)
    leaves_begin (at_time {sc = sc} {s = s} x y z e) = wakes (AStatement sc s) _ (at_time x y z e)
    leaves_begin (at_event {sc = sc} {s = s} x e) = wakes (AStatement sc s) _ (at_event x e)
    leaves_begin (at_forever {sc = sc} {s = s} e) = wakes (AStatement sc s) _ (at_forever e)
    leaves_begin (at_async {sc = sc} {s = s} b e h) = wakes (AStatement sc s) _ (at_async b e h)
    leaves_begin (in_part b e h) = leaves_begin h
    leaves_begin (in_turn k b e c h) = leaves_begin h
    leaves_begin (in_call c es f x k e a h) = leaves_begin h
    leaves_begin (in_par k slot bs e on h) = leaves_begin_each h

    leaves_begin_each : {sc : Scope} {k : ParKind} {bs : List KBlock} {rs : Branches} → EachFits K 0 sc k bs rs → each_begins (each_in_branches g rs)
    leaves_begin_each no_more = tt
    leaves_begin_each (an_ended m h) = (tt, leaves_begin_each h)
    leaves_begin_each (a_branch h more) = (leaves_begin h, leaves_begin_each more)

    leaves_begin_all : {sc : Scope} {all : Instances} → AllFit K 0 sc all → all_begin (each_in_instances g all)
    leaves_begin_all none_lives = tt
    leaves_begin_all (one_lives k p e h more) = (leaves_begin h, leaves_begin_all more)

-- no leaf that waits can run
none_runs : {n : ℕ} {A : Type 0} → n < 0 → A
none_runs l = absurd (omega (arith, l))

module _ (K : Kernel) where
  mutual
    unfolding begins_reaction

    -- what waits is as good
    pub waiting_begins : {d : Part} {r : Residual} → Fits K 0 d r → begins_reaction r
    waiting_begins (to_begin l) = none_runs l
    waiting_begins (to_turn l p) = none_runs l
    waiting_begins (in_list done e f all h) = (waiting_all all, waiting_begins h)
    waiting_begins (to_finish l p) = none_runs l
    waiting_begins (at_input x e) = tt
    waiting_begins (at_time x y z e) = tt
    waiting_begins (at_event x e) = tt
    waiting_begins (at_forever e) = tt
    waiting_begins (at_async b e h) = tt
    waiting_begins (in_part b e h) = waiting_begins h
    waiting_begins (in_turn k b e c h) = waiting_begins h
    waiting_begins (in_call c es f x k e a h) = waiting_begins h
    waiting_begins (in_par k slot bs e on h) = waiting_each h

    waiting_each : {sc : Scope} {k : ParKind} {bs : List KBlock} {rs : Branches} → EachFits K 0 sc k bs rs → each_begins rs
    waiting_each no_more = tt
    waiting_each (an_ended m h) = (tt, waiting_each h)
    waiting_each (a_branch h more) = (waiting_begins h, waiting_each more)

    waiting_all : {sc : Scope} {all : Instances} → AllFit K 0 sc all → all_begin all
    waiting_all none_lives = tt
    waiting_all (one_lives k p e h more) = (waiting_begins h, waiting_all more)

  either_begins : (b : Bool) (x y : Residual) → begins_reaction x → begins_reaction y → begins_reaction (if b then x else y)
  either_begins true x y h k = h
  either_begins false x y h k = k

  input_begins : (event : ℕ) (v : ℤ) (d : Part) (r : Residual) → Fits K 0 d r → begins_reaction (by_input event v r)
  unfolding begins_reaction
  input_begins event v d (WaitInput k s) (at_input t e) = either_begins (k == event) (Run 0 (Finish s v)) (WaitInput k s) (ap is_outside e) tt
  input_begins event v d r h = waiting_begins h

  time_begins : (delay : ℕ) (d : Part) (r : Residual) → Fits K 0 d r → begins_reaction (by_time delay r)
  unfolding begins_reaction
  time_begins delay d (WaitTime left s) (at_time x u t e) = either_begins (left == 0) (Run 0 (Finish s (pos (min delay 2147483647)))) (WaitTime left s) (ap is_outside e) tt
  time_begins delay d r h = waiting_begins h

  pub input_wakes : (event : ℕ) (v : ℤ) {d : Part} {r : Residual} → Fits K 0 d r → begins_reaction (each_leaf (by_input event v) r)
  input_wakes event v h = leaves_begin K (by_input event v) (input_begins event v) h

  pub time_wakes : (delay m : ℕ) {d : Part} {r : Residual} → Fits K 0 d r → begins_reaction (each_leaf (by_time delay) (each_leaf (later m) r))
  time_wakes delay m h = leaves_begin K (by_time delay) (time_begins delay) (leaves_fit K 0 0 (later m) (later_fits K m) h)

-- ---- another leaf under the parts around it

branch_in : (front : Branches) (r : Residual) (back : Branches) → each_begins (join front (branch r back)) → begins_reaction r
unfolding begins_reaction
branch_in no_branch r back h = h.0
branch_in (branch q more) r back h = branch_in more r back h.1

branch_put : (front : Branches) (r x : Residual) (back : Branches) → each_begins (join front (branch r back)) → begins_reaction x → each_begins (join front (branch x back))
unfolding begins_reaction
branch_put no_branch r x back h k = (k, h.1)
branch_put (branch q more) r x back h k = (h.0, branch_put more r x back h.1 k)

instance_in : (front : Instances) (seat : Seat) (r : Residual) (back : Instances) → all_begin (join_instances front (instance seat r back)) → begins_reaction r
unfolding begins_reaction
instance_in no_instance seat r back h = h.0
instance_in (instance other q more) seat r back h = instance_in more seat r back h.1

instance_put : (front : Instances) (seat : Seat) (r x : Residual) (back : Instances) → all_begin (join_instances front (instance seat r back)) → begins_reaction x → all_begin (join_instances front (instance seat x back))
unfolding begins_reaction
instance_put no_instance seat r x back h k = (k, h.1)
instance_put (instance other q more) seat r x back h k = (h.0, instance_put more seat r x back h.1 k)

frame_in : (fr : Frame) (r : Residual) → begins_reaction (fill fr r) → begins_reaction r
unfolding begins_reaction
frame_in (OfBlock b fin all rest) r h = h.1
frame_in (OfInstance b fin front seat back q rest) r h = instance_in front seat r back h.0
frame_in (OfOpen s) r h = h
frame_in (OfLoop s c) r h = h
frame_in (OfCall s) r h = h
frame_in (OfPar s front back) r h = branch_in front r back h

frame_put : (fr : Frame) (r x : Residual) → begins_reaction (fill fr r) → begins_reaction x → begins_reaction (fill fr x)
unfolding begins_reaction
frame_put (OfBlock b fin all rest) r x h k = (h.0, k)
frame_put (OfInstance b fin front seat back q rest) r x h k = (instance_put front seat r x back h.0 k, h.1)
frame_put (OfOpen s) r x h k = k
frame_put (OfLoop s c) r x h k = k
frame_put (OfCall s) r x h k = k
frame_put (OfPar s front back) r x h k = branch_put front r x back h k

replug : {A : Type 0} (f : Focus A) (r x : Residual) → begins_reaction (plug f r) → begins_reaction x → begins_reaction (plug f x)
replug (Here a) r x h k = k
replug (In fr f) r x h k = frame_put fr (plug f r) (plug f x) h (replug f r x (frame_in fr (plug f r) h) k)

-- ---- the end of an async

module _ (K : Kernel) where
  pub record AsyncEnds (r : Residual) (g : Focus Unserved) : Type 0 where
    pub layer : is_outside (out-KStmt (leaf g).stmt.stmt) ≡ true
    pub was : Residual
    pub plugs : plug g was ≡ r

  async_leaf : (d : Part) (r : Residual) (x : Unserved) → Fits K 0 d r → unserved r ≡ Some x → (is_outside (out-KStmt x.stmt.stmt) ≡ true) × Fits K 1 d (Run 0 (Finish x.stmt (pos 0)))
  async_leaf d (InAsync s false r) x (at_async {sc = sc} b e h) q =
      subst (λ (y : Unserved). (is_outside (out-KStmt y.stmt.stmt) ≡ true) × Fits K 1 (AStatement sc s) (Run 0 (Finish y.stmt (pos 0)))) (ap (λ o. elim o [ None ↦ record { stmt = s; inner = r } | Some y ↦ y ]) q)
      (ap is_outside e, to_finish (omega arith) (ap pauses e))
  async_leaf d r x h q = absurd (cc)

  abbrev AsyncFits : Part → Focus Unserved → Type 0
  AsyncFits d g = (is_outside (out-KStmt (leaf g).stmt.stmt) ≡ true) × Fits K 1 d (plug g (Run 0 (Finish (leaf g).stmt (pos 0))))

  chosen_async : {d : Part} {r : Residual} (g : Focus Unserved) → Fits K 0 d r → choose Unserved unserved r ≡ Some g → AsyncFits d g
  chosen_async {d = d} {r = r} g h e = go (choose Unserved unserved r) e (choice_fits K 0 Unserved unserved h)
    where
      go : (o : Option (Focus Unserved)) → o ≡ Some g → ChoiceFits K 0 Unserved unserved d o → AsyncFits d g
      go None q c = absurd (cc)
      go (Some f) q c =
          let a = async_leaf c.part c.was (leaf f) c.fits c.picked in
          subst (AsyncFits d) (ap (λ o. elim o [ None ↦ f | Some k ↦ k ]) q) (a.0, plug_fits K (around_raised K (omega arith) c.around) a.1)

  pub async_fits : {d : Part} {r : Residual} (g : Focus Unserved) → Fits K 0 d r → choose Unserved unserved r ≡ Some g → Fits K 1 d (plug g (Run 0 (Finish (leaf g).stmt (pos 0))))
  async_fits g h e = (chosen_async g h e).1

  pub async_ends : {d : Part} {r : Residual} (g : Focus Unserved) → Fits K 0 d r → choose Unserved unserved r ≡ Some g → AsyncEnds r g
  async_ends {d = d} {r = r} g h e = record { layer = (chosen_async g h e).0; was = found.was; plugs = found.plugs }
    where
      found : Found Unserved unserved r g
      found = subst (FoundIn Unserved unserved r) e (choose_found Unserved unserved r)

  pub async_wakes : {d : Part} {r : Residual} (g : Focus Unserved) → Fits K 0 d r → choose Unserved unserved r ≡ Some g → begins_reaction (plug g (Run 0 (Finish (leaf g).stmt (pos 0))))
  unfolding begins_reaction
  async_wakes g h e = let a = async_ends g h e in replug g a.was (Run 0 (Finish (leaf g).stmt (pos 0))) (subst begins_reaction (sym a.plugs) (waiting_begins K h)) a.layer
