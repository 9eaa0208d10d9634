-- A kill and a spawn change what stands beside the path: the one lowers what is left to pay, and the other raises it by what the instance costs.
use Rattle.std.proofs.Common.{◌≡◌, refl, sym, ap, ◌∙◌, subst, ℕ, Bool, true, false, if◌then◌else◌, ◌==◌, nat_lt, inl, inr, List, arith}
use Rattle.ceu_tree.specs.Residual.{Act, Seat, Residual, Instances, no_instance, instance}
use Rattle.ceu_tree.specs.Focus.{Frame, OfBlock, OfInstance, OfOpen, OfLoop, OfCall, OfPar, Focus, Here, In, fill, plug, leaf}
use Rattle.ceu_tree.specs.Costs.{Cost, nothing, plus}
use Rattle.ceu_tree.specs.Step.{with_instance, seated_if, seat_frame, seated, unseated, unseat_frame, unseat}
use Rattle.laws_meaning_instances.proofs.Spawns.{frame_without, frame_has, none_has, one_has}
use Rattle.ceu_endings.specs.Counted.{all_counted, frame_counted, focus_counted}
use Rattle.laws_bounds_steps.specs.Due.{due, due_of_instances}
use Rattle.laws_bounds_steps.specs.Pays.{Within, frame_keeps, focus_keeps}
use Rattle.laws_bounds_steps.proofs.Cost.{same}
use Rattle.laws_bounds_steps.proofs.AtMost.{more_second, no_less, AtMost, itself, fill_more, block_more, then_more}

-- ---- a kill leaves an instance less beside the path

pub leaf_unseated : (k : ℕ) (f : Focus Act) → leaf (unseat k f) ≡ leaf f
leaf_unseated k (Here a) = refl
leaf_unseated k (In fr f) = leaf_unseated k f

unseated_counted : (k : ℕ) (all : Instances) → all_counted all → all_counted (unseated k all)
unfolding all_counted
unseated_counted k no_instance h = tt
unseated_counted k (instance seat r more) h = go (seat.number == k) (unseated_counted k more h.1)
  where
    go : (b : Bool) → all_counted (unseated k more) → all_counted (if b then more else instance seat r (unseated k more))
    go true i = h.1
    go false i = (h.0, i)

frame_unseated : (k : ℕ) (fr : Frame) → frame_counted fr → frame_counted (unseat_frame k fr)
frame_unseated k (OfBlock b fin all rest) h = unseated_counted k all h
frame_unseated k (OfInstance b fin front seat back r rest) h = h
frame_unseated k (OfOpen s) h = h
frame_unseated k (OfLoop s c) h = h
frame_unseated k (OfCall s) h = h
frame_unseated k (OfPar s front back) h = h

pub unseat_counted : (k : ℕ) (f : Focus Act) → focus_counted f → focus_counted (unseat k f)
unfolding focus_counted
unseat_counted k (Here a) h = tt
unseat_counted k (In fr f) h = (frame_unseated k fr h.0, unseat_counted k f h.1)

loops_unseated : (P : List Bool) (k : ℕ) (fr : Frame) → frame_keeps P fr → frame_keeps P (unseat_frame k fr)
loops_unseated P k (OfBlock b fin all rest) h = h
loops_unseated P k (OfInstance b fin front seat back r rest) h = h
loops_unseated P k (OfOpen s) h = h
loops_unseated P k (OfLoop s c) h = h
loops_unseated P k (OfCall s) h = h
loops_unseated P k (OfPar s front back) h = h

pub unseat_keeps : (P : List Bool) (k : ℕ) (f : Focus Act) → focus_keeps P f → focus_keeps P (unseat k f)
unfolding focus_keeps
unseat_keeps P k (Here a) h = tt
unseat_keeps P k (In fr f) h = (loops_unseated P k fr h.0, unseat_keeps P k f h.1)

-- ---- a spawn seats once

frame_seated : (seat : Seat) (r : Residual) (fr : Frame) → frame_without seat.pool fr → seat_frame seat r fr ≡ fr
frame_seated seat r (OfBlock b fin all rest) h = ap (λ o. OfBlock b fin (seated_if o seat r all) rest) h
frame_seated seat r (OfInstance b fin front other back q rest) h = refl
frame_seated seat r (OfOpen s) h = refl
frame_seated seat r (OfLoop s c) h = refl
frame_seated seat r (OfCall s) h = refl
frame_seated seat r (OfPar s front back) h = refl

none_seated : (seat : Seat) (r : Residual) (f : Focus Act) → none_has seat.pool f → seated seat r f ≡ f
unfolding none_has
none_seated seat r (Here a) h = refl
none_seated seat r (In fr f) h = ap (λ x. In x (seated seat r f)) (frame_seated seat r fr h.0) ∙ ap (In fr) (none_seated seat r f h.1)

module _ (P : List Bool) (E N : List Cost) where
  unseated_less : (k : ℕ) (all : Instances) → Within (due_of_instances P E N (unseated k all)) (plus nothing (due_of_instances P E N all))
  unfolding due
  unseated_less k no_instance = no_less nothing _
  unseated_less k (instance seat r more) = go (seat.number == k) (unseated_less k more)
    where
      later : (a b : Cost) → Within b (plus nothing (plus a b))
      later a b = record { turns = omega arith; opens = omega arith }

      go : (b : Bool) → Within (due_of_instances P E N (unseated k more)) (plus nothing (due_of_instances P E N more))
          → Within (due_of_instances P E N (if b then more else instance seat r (unseated k more))) (plus nothing (plus (due P E N r) (due_of_instances P E N more)))
      go true h = later _ _
      go false h = more_second nothing _ _ _ _ (same _) h

  frame_less : (k : ℕ) (fr : Frame) (r : Residual) → AtMost P E N nothing (fill (unseat_frame k fr) r) (fill fr r)
  frame_less k (OfBlock b fin all rest) r = block_more P E N nothing b fin rest (unseated k all) all r (unseated_less k all)
  frame_less k (OfInstance b fin front seat back q rest) r = itself P E N nothing _
  frame_less k (OfOpen s) r = itself P E N nothing _
  frame_less k (OfLoop s c) r = itself P E N nothing _
  frame_less k (OfCall s) r = itself P E N nothing _
  frame_less k (OfPar s front back) r = itself P E N nothing _

  pub unseat_less : (k : ℕ) (f : Focus Act) (x : Residual) → AtMost P E N nothing (plug (unseat k f) x) (plug f x)
  unseat_less k (Here a) x = itself P E N nothing x
  unseat_less k (In fr f) x = then_more P E N nothing _ _ _ (frame_less k fr (plug (unseat k f) x)) (fill_more P E N nothing fr _ _ (unseat_less k f x))

  with_more : (seat : Seat) (r : Residual) (all : Instances) → Within (due_of_instances P E N (with_instance seat r all)) (plus (due P E N r) (due_of_instances P E N all))
  unfolding due
  with_more seat r no_instance = same _
  with_more seat r (instance other q more) = go (nat_lt seat.pool other.pool) (with_more seat r more)
    where
      go : (b : Bool) → Within (due_of_instances P E N (with_instance seat r more)) (plus (due P E N r) (due_of_instances P E N more))
          → Within (due_of_instances P E N (if b then instance seat r (instance other q more) else instance other q (with_instance seat r more))) (plus (due P E N r) (plus (due P E N q) (due_of_instances P E N more)))
      go true h = same _
      go false h = more_second _ _ _ _ _ (same _) h

  frame_more : (seat : Seat) (r : Residual) (fr : Frame) (x : Residual) → frame_has seat.pool seat.code fr → AtMost P E N (due P E N r) (fill (seat_frame seat r fr) x) (fill fr x)
  frame_more seat r (OfBlock b fin all rest) x h =
      subst (λ o. AtMost P E N (due P E N r) (fill (OfBlock b fin (seated_if o seat r all) rest) x) (fill (OfBlock b fin all rest) x)) (sym h.sized) (block_more P E N (due P E N r) b fin rest (with_instance seat r all) all x (with_more seat r all))
  frame_more seat r fr x h = elim h [ ]

  pub seated_more : (seat : Seat) (r : Residual) (f : Focus Act) (x : Residual) → one_has seat.pool seat.code f → AtMost P E N (due P E N r) (plug (seated seat r f) x) (plug f x)
  unfolding one_has
  seated_more seat r (Here a) x h = elim h [ ]
  seated_more seat r (In fr f) x (inl h) =
      subst (λ g. AtMost P E N (due P E N r) (fill (seat_frame seat r fr) (plug g x)) (fill fr (plug f x))) (sym (none_seated seat r f h.1)) (frame_more seat r fr (plug f x) h.0)
  seated_more seat r (In fr f) x (inr h) =
      subst (λ y. AtMost P E N (due P E N r) (fill y (plug (seated seat r f) x)) (fill fr (plug f x))) (sym (frame_seated seat r fr h.0)) (fill_more P E N (due P E N r) fr _ _ (seated_more seat r f x h.1))
