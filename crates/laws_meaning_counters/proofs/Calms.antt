-- Leaves that wake, and time that passes, leave the instances as they were, and the loops.
use Rattle.std.proofs.Common.{◌≡◌, refl, sym, ap, subst, ℕ, min, ℤ, pos, Bool, true, false, if◌then◌else◌, ◌==◌, Option, Some, None}
use Rattle.ceu_tree.specs.Residual.{Body, Finish, Residual, Run, WaitInput, WaitTime, InAsync}
use Rattle.ceu_tree.specs.World.{World, Cell}
use Rattle.ceu_tree.specs.Wake.{each_leaf, by_input, later, by_time, Unserved, unserved, new_round}
use Rattle.laws_meaning_instances.specs.Instances.{pools_stand}
use Rattle.laws_meaning_instances.proofs.Living.{lives}
use Rattle.laws_meaning_instances.proofs.Trees.{Calm, each_lives, leaves_stand}
use Rattle.laws_meaning_instances.proofs.Lists.{Counts}
use Rattle.laws_meaning_instances.proofs.Reactions.{counts_same}
use Rattle.laws_meaning_counters.specs.Counters.{loops_stand}

-- ---- instances

either_lives : (n : ℕ) (t : Bool) (x y : Residual) → lives n x ≡ 0 → lives n y ≡ 0 → lives n (if t then x else y) ≡ 0
either_lives n true x y h k = h
either_lives n false x y h k = k

either_stands : (t : Bool) (x y : Residual) → pools_stand x → pools_stand y → pools_stand (if t then x else y)
either_stands true x y h k = h
either_stands false x y h k = k

pub by_input_calm : (event : ℕ) (v : ℤ) → Calm (by_input event v)
unfolding lives pools_stand
by_input_calm event v = record { counts = count; stands = stand }
  where
    count : (n : ℕ) (r : Residual) → lives n (by_input event v r) ≡ lives n r
    count n (WaitInput k s) = either_lives n (k == event) (Run 0 (Finish s v)) (WaitInput k s) refl refl
    count n r = refl

    stand : (r : Residual) → pools_stand r → pools_stand (by_input event v r)
    stand (WaitInput k s) h = either_stands (k == event) (Run 0 (Finish s v)) (WaitInput k s) tt tt
    stand r h = h

pub by_time_calm : (d : ℕ) → Calm (by_time d)
unfolding lives pools_stand
by_time_calm d = record { counts = count; stands = stand }
  where
    count : (n : ℕ) (r : Residual) → lives n (by_time d r) ≡ lives n r
    count n (WaitTime left s) = either_lives n (left == 0) (Run 0 (Finish s (pos (min d 2147483647)))) (WaitTime left s) refl refl
    count n r = refl

    stand : (r : Residual) → pools_stand r → pools_stand (by_time d r)
    stand (WaitTime left s) h = either_stands (left == 0) (Run 0 (Finish s (pos (min d 2147483647)))) (WaitTime left s) tt tt
    stand r h = h

pub later_calm : (d : ℕ) → Calm (later d)
unfolding lives pools_stand
later_calm d = record { counts = count; stands = stand }
  where
    count : (n : ℕ) (r : Residual) → lives n (later d r) ≡ lives n r
    count n (WaitTime left s) = refl
    count n r = refl

    stand : (r : Residual) → pools_stand r → pools_stand (later d r)
    stand (WaitTime left s) h = tt
    stand r h = h

pub round_calm : Calm new_round
unfolding lives pools_stand
round_calm = record { counts = count; stands = stand }
  where
    count : (n : ℕ) (r : Residual) → lives n (new_round r) ≡ lives n r
    count n (InAsync s t r) = refl
    count n r = refl

    stand : (r : Residual) → pools_stand r → pools_stand (new_round r)
    stand (InAsync s t r) h = h
    stand r h = h

abbrev pub TreeCounts : Residual → World → Type 0
TreeCounts r w = Counts (λ p. lives p r) w × pools_stand r

pub leaves_counts : (g : Residual → Residual) (calm : Calm g) (r : Residual) (w : World) → TreeCounts r w → TreeCounts (each_leaf g r) w
leaves_counts g calm r w h = (counts_same (λ p. lives p r) (λ p. lives p (each_leaf g r)) w w (record { living = refl; given = refl }) (λ p. sym (each_lives g calm p r)) h.0, leaves_stand g calm r h.1)

pub unserved_lives : (p : ℕ) (r : Residual) (y : Unserved) → unserved r ≡ Some y → lives p r ≡ lives p y.inner
unfolding lives
unserved_lives p (InAsync s false r) y e = ap (λ o. elim o [ None ↦ lives p r | Some z ↦ lives p z.inner ]) e
unserved_lives p r y e = absurd (cc)

-- ---- loops

module _ (b : Body) (x : ℕ) (cell : Option Cell) where
  pub by_input_loops : (event : ℕ) (v : ℤ) (here : Body) (r : Residual) → loops_stand b x cell here r → loops_stand b x cell here (by_input event v r)
  unfolding loops_stand
  by_input_loops event v here (WaitInput k s) h = go (k == event)
    where
      go : (t : Bool) → loops_stand b x cell here (if t then Run 0 (Finish s v) else WaitInput k s)
      go true = tt
      go false = tt
  by_input_loops event v here r h = h

  pub by_time_loops : (d : ℕ) (here : Body) (r : Residual) → loops_stand b x cell here r → loops_stand b x cell here (by_time d r)
  unfolding loops_stand
  by_time_loops d here (WaitTime left s) h = go (left == 0)
    where
      go : (t : Bool) → loops_stand b x cell here (if t then Run 0 (Finish s (pos (min d 2147483647))) else WaitTime left s)
      go true = tt
      go false = tt
  by_time_loops d here r h = h

  pub later_loops : (d : ℕ) (here : Body) (r : Residual) → loops_stand b x cell here r → loops_stand b x cell here (later d r)
  unfolding loops_stand
  later_loops d here (WaitTime left s) h = tt
  later_loops d here r h = h

  pub round_loops : (here : Body) (r : Residual) → loops_stand b x cell here r → loops_stand b x cell here (new_round r)
  unfolding loops_stand
  round_loops here (InAsync s t r) h = h
  round_loops here r h = h

  pub unserved_loops : (here : Body) (r : Residual) (y : Unserved) → unserved r ≡ Some y → loops_stand b x cell here r → loops_stand b x cell here y.inner
  unfolding loops_stand
  unserved_loops here (InAsync s false r) y e h = subst (loops_stand b x cell here) (ap (λ o. elim o [ None ↦ r | Some z ↦ z.inner ]) e) h
  unserved_loops here r y e h = absurd (cc)
