-- The searches over the lists that the code walks.
use Rattle.std.specs.Prelude.{ℕ, Bool, false, ◌||◌, ◌&&◌, ◌==◌, List, [], ◌∷◌, Option, None}
use Rattle.ceu_tree.specs.declared.kernel.Loc.{Loc}
use Rattle.ceu_tree.specs.declared.kernel.KNode.{KNode}
use Rattle.ceu_tree.specs.declared.kernel.KArm.{KArm}
use Rattle.ceu_tree.specs.declared.kernel.KBlock.{KBlock}
use Rattle.ceu_shape.specs.Searches.{or_else, stmt_target, arm_target, block_target, stmt_async, arm_async, block_async}

module _ (node : ℕ) where
  abbrev pub node_list_target : List KNode → Option Loc
  node_list_target [] = None
  node_list_target (x ∷ xs) = or_else (stmt_target node x.node x.stmt) (node_list_target xs)

  abbrev pub arm_list_target : List KArm → Option Loc
  arm_list_target [] = None
  arm_list_target (x ∷ xs) = or_else (arm_target node x) (arm_list_target xs)

  abbrev pub block_list_target : List KBlock → Option Loc
  block_list_target [] = None
  block_list_target (x ∷ xs) = or_else (block_target node x) (block_list_target xs)

  abbrev pub node_list_async : (inside : Bool) → List KNode → Bool
  node_list_async inside [] = false
  node_list_async inside (x ∷ xs) = ((inside && (x.node == node)) || stmt_async node inside x.stmt) || node_list_async inside xs

  abbrev pub arm_list_async : (inside : Bool) → List KArm → Bool
  arm_list_async inside [] = false
  arm_list_async inside (x ∷ xs) = arm_async node inside x || arm_list_async inside xs

  abbrev pub block_list_async : (inside : Bool) → List KBlock → Bool
  block_list_async inside [] = false
  block_list_async inside (x ∷ xs) = block_async node inside x || block_list_async inside xs
