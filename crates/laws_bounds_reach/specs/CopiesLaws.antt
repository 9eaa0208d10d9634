-- What full pools weigh bounds what lives in them, the table of instances bounds the open bodies of a tree, and the table of what is woken what an emission
-- reaches (this project's own).
use Rattle.std.specs.Prelude.{◌≡◌, ℕ, suc, ◌≤◌, pos, Bool, List}
use Rattle.ceu_tree.specs.declared.kernel.KDecl.{KDecl}
use Rattle.ceu_tree.specs.declared.kernel.Kernel.{Kernel}
use Rattle.ceu_tree.specs.declared.kernel.KNode.{KNode}
use Rattle.ceu_tree.specs.declared.kernel.KStmt.{out-KStmt}
use Rattle.ceu_tree.specs.declared.kernel.KStmt.TheOpen.{KStmt-F}
use Rattle.ceu_tree.specs.Residual.{Act, Start, Finish, Residual, Over, Run, Instances}
use Rattle.ceu_tree.specs.Focus.{Focus, plug, leaf}
use Rattle.ceu_tree.specs.Costs.{Cost, plus, woken_block, woken_codes, instances_from}
use Rattle.ceu_tree.specs.Needs.{entry}
use Rattle.ceu_tree.specs.Step.{event_code}
use Rattle.ceu_tree.specs.Proper.{Proper}
use Rattle.laws_meaning_basics.specs.Shape.{Fits, TurnFits, program_part}
use Rattle.laws_meaning_instances.specs.Instances.{pools_stand, seats_stand}
use Rattle.laws_bounds_steps.specs.Pays.{Within}
use Rattle.laws_bounds_steps.specs.Heads.{heads_reached}
use Rattle.laws_bounds_reach.specs.Copies.{copies, weigh_instances, weigh_pools}

-- What stands in the pools of a block weighs at most what the pools weigh where they are full.
abbrev pub PoolsHold : Type 0
PoolsHold = (weigh : ℕ → Cost) (ds : List KDecl) (all : Instances) → seats_stand ds all → Within (weigh_instances weigh all) (weigh_pools weigh ds)

-- Of each code no more bodies are open in a tree than the table of instances has of it.
abbrev pub CopiesWithin : Type 0
CopiesWithin = (K : Kernel) (top : ℕ) (r : Residual) (k : ℕ) → Proper K → Fits K top (program_part K) r → pools_stand r → copies k r ≤ entry k (instances_from K.body 0 K.codes)

-- What an emission reaches costs no more than the table says: an event of the program reaches all open bodies, an event of a code one body of that code.
abbrev pub EmissionsReach : Type 0
EmissionsReach = (passing : List Bool) (events entering : List Cost) (K : Kernel) (n : ℕ) (f : Focus Act) (s : KNode) (e : ℕ) (x : _)
    → Proper K → TurnFits K (suc n) (program_part K) f → pools_stand (plug f Over) → leaf f ≡ Start s → out-KStmt s.stmt ≡ KStmt-F.Emit e x
    → Within (heads_reached passing events entering e (event_code e K.events) f (Run n (Finish s (pos 0))))
    (plus (woken_block passing events entering e K.body) (woken_codes passing events entering e (event_code e K.events) 0 K.codes (instances_from K.body 0 K.codes)))
