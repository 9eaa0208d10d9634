-- What wakes keeps its counters, and its instances keep their places.
use Rattle.std.proofs.Common.{◌≡◌, refl, ℕ, ℤ, Bool, true, false, if◌then◌else◌, ◌==◌, Option}
use Rattle.ceu_tree.specs.Residual.{Finish, Residual, Run, WaitEvent}
use Rattle.ceu_tree.specs.Focus.{Focus, plug}
use Rattle.ceu_tree.specs.Wake.{by_event, woken}
use Rattle.laws_meaning_instances.specs.Instances.{pools_stand}
use Rattle.laws_meaning_instances.proofs.Living.{lives}
use Rattle.laws_meaning_instances.proofs.Trees.{Calm, woken_stand}
use Rattle.laws_meaning_instances.proofs.Trees as pools
use Rattle.ceu_endings.specs.Counted.{tree_counted}
use Rattle.ceu_endings.proofs.CountedTrees.{unplugged, woken_kept}

module _ (level e : ℕ) (v : ℤ) where
  by_event_counted : (r : Residual) → tree_counted r → tree_counted (by_event level e v r)
  unfolding tree_counted
  by_event_counted (WaitEvent k s) h = go (k == e)
    where
      go : (b : Bool) → tree_counted (if b then Run level (Finish s v) else WaitEvent k s)
      go true = tt
      go false = tt
  by_event_counted r h = h

  by_event_stands : (r : Residual) → pools_stand r → pools_stand (by_event level e v r)
  unfolding pools_stand
  by_event_stands (WaitEvent k s) h = go (k == e)
    where
      go : (b : Bool) → pools_stand (if b then Run level (Finish s v) else WaitEvent k s)
      go true = tt
      go false = tt
  by_event_stands r h = h

  by_event_lives : (n : ℕ) (r : Residual) → lives n (by_event level e v r) ≡ lives n r
  unfolding lives
  by_event_lives n (WaitEvent k s) = go (k == e)
    where
      go : (b : Bool) → lives n (if b then Run level (Finish s v) else WaitEvent k s) ≡ 0
      go true = refl
      go false = refl
  by_event_lives n r = refl

  by_event_calm : Calm (by_event level e v)
  by_event_calm = record { counts = by_event_lives; stands = by_event_stands }

  pub woken_counted : {A : Type 0} (code : Option ℕ) (f : Focus A) (r : Residual) → tree_counted (plug f r) → tree_counted (woken code (by_event level e v) f r)
  woken_counted code f r h = let a = unplugged f r h in woken_kept (by_event level e v) by_event_counted code f r a.0 a.1

  pub woken_pools : {A : Type 0} (code : Option ℕ) (f : Focus A) (r : Residual) → pools_stand (plug f r) → pools_stand (woken code (by_event level e v) f r)
  woken_pools code f r h = let a = pools.unplugged f r h in woken_stand (by_event level e v) by_event_calm code f r a.0 a.1
