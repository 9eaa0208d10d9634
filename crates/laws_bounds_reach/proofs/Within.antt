-- What is to pay where a reaction begins, after an input, a time and the end of an async.
use Rattle.std.proofs.Common.{◌≡◌, sym, subst, ℕ, ◌==◌, min, ℤ, pos, Bool, true, false, if◌then◌else◌, List, Some}
use Rattle.ceu_tree.specs.declared.kernel.Kernel.{Kernel}
use Rattle.ceu_tree.specs.Residual.{Finish, Residual, Run, WaitInput, WaitTime}
use Rattle.ceu_tree.specs.Focus.{Focus, plug, leaf, choose}
use Rattle.ceu_tree.specs.Wake.{each_leaf, by_input, later, by_time, Unserved, unserved}
use Rattle.ceu_tree.specs.Costs.{Cost, stay_block}
use Rattle.laws_meaning_basics.proofs.Leaves.{leaves_fit, by_input_fits, by_time_fits, later_fits}
use Rattle.laws_meaning_instances.specs.Instances.{pools_stand}
use Rattle.laws_meaning_instances.proofs.Trees as living
use Rattle.laws_meaning_instances.proofs.Commands.{by_input_calm, by_time_calm, later_calm}
use Rattle.ceu_endings.specs.Counted.{tree_counted}
use Rattle.ceu_endings.proofs.CountedTrees as counted
use Rattle.ceu_endings.proofs.CountedRuns.{by_time_kept, later_kept, by_input_kept}
use Rattle.laws_bounds_steps.specs.Due.{due}
use Rattle.laws_bounds_steps.specs.Pays.{Within}
use Rattle.laws_bounds_steps.specs.Kept.{CodesStay}
use Rattle.laws_bounds_reach.specs.Standing.{begins_reaction, pools_bare}
use Rattle.laws_bounds_reach.specs.StandingLaws.{Stands}
use Rattle.laws_bounds_reach.proofs.BareTrees.{leaves_kept, plugged, unplugged}
use Rattle.laws_bounds_reach.proofs.Stays.{stays}
use Rattle.laws_bounds_reach.proofs.Begins.{input_wakes, time_wakes, async_wakes, async_ends, async_fits}

pub standing_pays : (P : List Bool) (E N S : List Cost) (K : Kernel) (top : ℕ) (r : Residual) → CodesStay P E N S K → Stands K top r → begins_reaction r → Within (due P E N r) (stay_block P E N S K.body)
standing_pays P E N S K top r codes h b = stays P E N S K codes h.fits b h.counted h.pools h.bare

either_bare : (b : Bool) (x y : Residual) → pools_bare x → pools_bare y → pools_bare (if b then x else y)
either_bare true x y h k = h
either_bare false x y h k = k

pub bare_input : (k : ℕ) (v : ℤ) (r : Residual) → pools_bare r → pools_bare (by_input k v r)
unfolding pools_bare
bare_input k v (WaitInput m s) h = either_bare (m == k) (Run 0 (Finish s v)) (WaitInput m s) tt tt
bare_input k v r h = h

pub bare_time : (delay : ℕ) (r : Residual) → pools_bare r → pools_bare (by_time delay r)
unfolding pools_bare
bare_time delay (WaitTime left s) h = either_bare (left == 0) (Run 0 (Finish s (pos (min delay 2147483647)))) (WaitTime left s) tt tt
bare_time delay r h = h

pub bare_later : (d : ℕ) (r : Residual) → pools_bare r → pools_bare (later d r)
unfolding pools_bare
bare_later d (WaitTime left s) h = tt
bare_later d r h = h

module _ (K : Kernel) where
  input_stands : (event : ℕ) (v : ℤ) (r : Residual) → Stands K 0 r → Stands K 1 (each_leaf (by_input event v) r)
  input_stands event v r h = record {
    fits = leaves_fit K 0 1 (by_input event v) (by_input_fits K event v) h.fits;
    counted = counted.leaves_kept (by_input event v) (by_input_kept event v) r h.counted;
    pools = living.leaves_stand (by_input event v) (by_input_calm event v) r h.pools;
    bare = leaves_kept (by_input event v) (bare_input event v) r h.bare;
  }

  later_stands : (d : ℕ) (r : Residual) → Stands K 0 r → Stands K 0 (each_leaf (later d) r)
  later_stands d r h = record {
    fits = leaves_fit K 0 0 (later d) (later_fits K d) h.fits;
    counted = counted.leaves_kept (later d) (later_kept d) r h.counted;
    pools = living.leaves_stand (later d) (later_calm d) r h.pools;
    bare = leaves_kept (later d) (bare_later d) r h.bare;
  }

  time_stands : (delay : ℕ) (r : Residual) → Stands K 0 r → Stands K 1 (each_leaf (by_time delay) r)
  time_stands delay r h = record {
    fits = leaves_fit K 0 1 (by_time delay) (by_time_fits K delay) h.fits;
    counted = counted.leaves_kept (by_time delay) (by_time_kept delay) r h.counted;
    pools = living.leaves_stand (by_time delay) (by_time_calm delay) r h.pools;
    bare = leaves_kept (by_time delay) (bare_time delay) r h.bare;
  }

  async_stands : (g : Focus Unserved) (r : Residual) → Stands K 0 r → choose Unserved unserved r ≡ Some g → Stands K 1 (plug g (Run 0 (Finish (leaf g).stmt (pos 0))))
  unfolding tree_counted pools_stand pools_bare
  async_stands g r h e =
      let a = async_ends K g h.fits e in record {
        fits = async_fits K g h.fits e;
        counted = counted.plugged g (Run 0 (Finish (leaf g).stmt (pos 0))) (counted.unplugged g a.was (subst tree_counted (sym a.plugs) h.counted)).0 tt;
        pools = living.plugged g (Run 0 (Finish (leaf g).stmt (pos 0))) (living.unplugged g a.was (subst pools_stand (sym a.plugs) h.pools)).0 tt;
        bare = plugged g (Run 0 (Finish (leaf g).stmt (pos 0))) (unplugged g a.was (subst pools_bare (sym a.plugs) h.bare)).0 tt;
      }

  module _ (P : List Bool) (E N S : List Cost) (codes : CodesStay P E N S K) where
    pub input_within : (event : ℕ) (v : ℤ) (r : Residual) → Stands K 0 r → Within (due P E N (each_leaf (by_input event v) r)) (stay_block P E N S K.body)
    input_within event v r h = standing_pays P E N S K 1 _ codes (input_stands event v r h) (input_wakes K event v h.fits)

    pub time_within : (delay d : ℕ) (r : Residual) → Stands K 0 r → Within (due P E N (each_leaf (by_time delay) (each_leaf (later d) r))) (stay_block P E N S K.body)
    time_within delay d r h = standing_pays P E N S K 1 _ codes (time_stands delay (each_leaf (later d) r) (later_stands d r h)) (time_wakes K delay d h.fits)

    pub async_within : (g : Focus Unserved) (r : Residual) → Stands K 0 r → choose Unserved unserved r ≡ Some g → Within (due P E N (plug g (Run 0 (Finish (leaf g).stmt (pos 0))))) (stay_block P E N S K.body)
    async_within g r h e = standing_pays P E N S K 1 _ codes (async_stands g r h e) (async_wakes K g h.fits e)
