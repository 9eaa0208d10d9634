-- What an emission costs in a tree at most: for each open loop that the event paces one turn, and what the rest of its body enters (this project's own).
use Rattle.std.specs.Prelude.{◌≡◌, ℕ, suc, pos, Bool, if◌then◌else◌, List, Option, Some, None}
use Rattle.ceu_tree.specs.declared.kernel.Kernel.{Kernel}
use Rattle.ceu_tree.specs.declared.kernel.KNode.{KNode}
use Rattle.ceu_tree.specs.declared.kernel.KStmt.{out-KStmt}
use Rattle.ceu_tree.specs.declared.kernel.KStmt.TheOpen.{KStmt-F}
use Rattle.ceu_tree.specs.Residual.{Act, Start, Finish, Residual, Over, Run, Block, Open, Loop, Call, Par, Branches, no_branch, branch, Instances, no_instance, instance}
use Rattle.ceu_tree.specs.Focus.{Focus, Here, In, plug, leaf, has_body}
use Rattle.ceu_tree.specs.Leaf.{Layer}
use Rattle.ceu_tree.specs.Costs.{Cost, cost, nothing, plus, cost_at, loop_woken}
use Rattle.ceu_tree.specs.Step.{event_code}
use Rattle.laws_meaning_basics.specs.Shape.{program_part, TurnFits}
use Rattle.laws_meaning_instances.specs.Instances.{pools_stand}
use Rattle.laws_bounds_steps.specs.Pays.{Within}

module _ (passing : List Bool) (events : List Cost) (entering : List Cost) (e : ℕ) where
  abbrev pub layer_heads : Layer → Cost
  layer_heads (KStmt-F.Loop k b) = loop_woken passing events entering e k b
  layer_heads layer = nothing

  unfoldable mutual
    pub heads : Residual → Cost
    heads (Block b fin all r rest) = plus (heads_of_instances all) (heads r)
    heads (Open s r) = heads r
    heads (Loop s c r) = plus (layer_heads (out-KStmt s.stmt)) (heads r)
    heads (Call s r) = heads r
    heads (Par s bs) = heads_of_branches bs
    heads r = nothing

    pub heads_of_branches : Branches → Cost
    heads_of_branches no_branch = nothing
    heads_of_branches (branch r more) = plus (heads r) (heads_of_branches more)

    pub heads_of_instances : Instances → Cost
    heads_of_instances no_instance = nothing
    heads_of_instances (instance seat r more) = plus (heads r) (heads_of_instances more)

  -- in the leaf's own open body
  abbrev pub heads_in_body : {A : Type 0} → Focus A → Residual → Cost
  heads_in_body (Here a) r = heads r
  heads_in_body (In fr f) r = if has_body (In fr f) then heads_in_body f r else heads (plug (In fr f) r)

  -- an event of a code reaches the emitter's own open body alone
  abbrev pub heads_reached : {A : Type 0} → Option ℕ → Focus A → Residual → Cost
  heads_reached None f r = heads (plug f r)
  heads_reached (Some code) f r = heads_in_body f r

-- Each emission pays its turn, its level and what it reaches.
pub record EmissionsPay (passing : List Bool) (events entering : List Cost) (K : Kernel) : Type 0 where
  pub reach : (n : ℕ) (f : Focus Act) (s : KNode) (e : ℕ) (x : _) → TurnFits K (suc n) (program_part K) f → pools_stand (plug f Over) → leaf f ≡ Start s → out-KStmt s.stmt ≡ KStmt-F.Emit e x
      → Within (plus (cost 1 1) (heads_reached passing events entering e (event_code e K.events) f (Run n (Finish s (pos 0))))) (cost_at e events)
