-- In the words of legality: each declaration of an open block that a statement before the one where the block stands sets has a value, and each parameter.
use Rattle.std.specs.Prelude.{Bool, true, not, ◌&&◌, ◌||◌, List, [], ◌∷◌, Option, Some, None}
use Rattle.ceu_tree.specs.declared.kernel.KCode.{KCode}
use Rattle.ceu_tree.specs.declared.kernel.KDecl.{KDecl}
use Rattle.ceu_tree.specs.declared.kernel.KNode.{KNode}
use Rattle.ceu_tree.specs.declared.kernel.KBlock.{out-KBlock}
use Rattle.ceu_tree.specs.declared.kernel.KStmt.{out-KStmt}
use Rattle.ceu_tree.specs.Residual.{Body, Awaited, Spawned, Residual, InAsync, Block, Open, Loop, Call, Par, Branches, no_branch, branch, Instances, no_instance, instance}
use Rattle.ceu_tree.specs.World.{World}
use Rattle.ceu_tree.specs.Leaf.{code_at}
use Rattle.ceu_tree.specs.Legal.{before, is_set, called_code}
use Rattle.ceu_tree.specs.Mentions.{is_set_decl}
use Rattle.laws_meaning_values.specs.Ground.{has}

module _ (codes : List KCode) (w : World) where
  abbrev pub declared_set : Body → (done : List KNode) → List KDecl → Bool
  declared_set body done [] = true
  declared_set body done (d ∷ ds) = (not (is_set_decl d.kind) || (not (is_set done d.slot) || has body d.slot w)) && declared_set body done ds

  abbrev pub parameters_set : Body → List KDecl → Bool
  parameters_set body [] = true
  parameters_set body (d ∷ ds) = (not (is_set_decl d.kind) || has body d.slot w) && parameters_set body ds

  abbrev pub given_set : Body → Option KCode → Bool
  given_set body None = true
  given_set body (Some c) = parameters_set body c.params

  unfoldable mutual
    pub slots_set : Residual → Body → Bool
    slots_set (Block b fin all r rest) body = declared_set body (before (out-KBlock b).list rest) (out-KBlock b).decls && (instances_set all && slots_set r body)
    slots_set (Open s r) body = slots_set r body
    slots_set (Loop s c r) body = slots_set r body
    slots_set (Call s r) body = given_set (Awaited body s.node) (called_code codes (out-KStmt s.stmt)) && slots_set r (Awaited body s.node)
    slots_set (Par s bs) body = branches_set bs body
    slots_set (InAsync s served r) body = slots_set r body
    slots_set r body = true

    pub branches_set : Branches → Body → Bool
    branches_set no_branch body = true
    branches_set (branch r more) body = slots_set r body && branches_set more body

    pub instances_set : Instances → Bool
    instances_set no_instance = true
    instances_set (instance seat r more) = given_set (Spawned seat.number) (code_at seat.code codes) && (slots_set r (Spawned seat.number) && instances_set more)
