-- What an emission costs in a tree (this project's own): the leaves that it wakes cost no more than they did, but for those at the head of a loop that the
-- event paces.
use Rattle.std.specs.Prelude.{◌≡◌, ℕ, ℤ, Bool, List, Option}
use Rattle.ceu_tree.specs.declared.kernel.Kernel.{Kernel}
use Rattle.ceu_tree.specs.Residual.{Act, Residual}
use Rattle.ceu_tree.specs.Focus.{Focus, plug}
use Rattle.ceu_tree.specs.Wake.{each_leaf, by_event, woken}
use Rattle.ceu_tree.specs.Costs.{Cost, plus}
use Rattle.laws_meaning_basics.specs.Shape.{Part, Fits, Around}
use Rattle.laws_meaning_instances.specs.Instances.{pools_stand}
use Rattle.ceu_endings.specs.Counted.{tree_counted}
use Rattle.laws_bounds_steps.specs.Ways.{ways}
use Rattle.laws_bounds_steps.specs.Due.{due}
use Rattle.laws_bounds_steps.specs.Pays.{Within}
use Rattle.laws_bounds_steps.specs.Heads.{heads, heads_reached}
use Rattle.laws_bounds_steps.specs.Whole as whole

-- What an emission wakes may be left on the ways on which it might have been left before, and keeps its counters, and its instances their places.
pub record WakingKeeps (passing : List Bool) (after before : Residual) : Type 0 where
  pub ways_same : ways passing after ≡ ways passing before
  pub counted : tree_counted before → tree_counted after
  pub pools : pools_stand before → pools_stand after

abbrev pub WakingStays : Type 0
WakingStays = (passing : List Bool) (level : ℕ) (f : Focus Act) (r : Residual) (code : Option ℕ) (e : ℕ) (v : ℤ) → WakingKeeps passing (woken code (by_event level e v) f r) (plug f r)

-- A whole tree, all of whose leaves that wait for the event wake, costs more by at most a turn, and what follows the await, for each loop that it paces.
abbrev pub WakingTreeCosts : Type 0
WakingTreeCosts = (passing : List Bool) (events entering : List Cost) (K : Kernel) (top level : ℕ) (d : Part) (r : Residual) (e : ℕ) (v : ℤ) → Fits K top d r
    → Within (due passing events entering (each_leaf (by_event level e v) r)) (plus (due passing events entering r) (heads passing events entering e r))

-- So does the tree around a leaf that emits, of which the event wakes the leaf's own open body alone if it is one of a code.
abbrev pub WakingCosts : Type 0
WakingCosts = (passing : List Bool) (events entering : List Cost) (K : Kernel) (top level : ℕ) (f : Focus Act) (r : Residual) (d part : Part) (code : Option ℕ) (e : ℕ) (v : ℤ)
    → Around K top Act f d part → Fits K top part r
    → Within (due passing events entering (woken code (by_event level e v) f r)) (plus (due passing events entering (plug f r)) (heads_reached passing events entering e code f r))

-- And so it is with each emission of a turn that is on.
abbrev pub EmissionsWake : Type 0
EmissionsWake = (passing : List Bool) (events entering : List Cost) (K : Kernel) → whole.WakingCosts passing events entering K
