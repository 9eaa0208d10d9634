-- The loops of trails: those that lie outside asyncs and finalizers, in pre-order (this project's own).
use Rattle.std.specs.Prelude.{ℕ, List, [], ◌∷◌, ◌++◌}
use Rattle.ceu_base.specs.declared.kinds.Pos.{Pos}
use Rattle.ceu_tree.specs.declared.kernel.KLoop.{KLoop}
use Rattle.ceu_tree.specs.declared.kernel.KNode.{KNode}
use Rattle.ceu_tree.specs.declared.kernel.KBlock.{KBlock, KBlock', Row_of-KNode, end_of-KNode, more_of-KNode}
use Rattle.ceu_tree.specs.declared.kernel.KArm.{KArm, KArm'}
use Rattle.ceu_tree.specs.declared.kernel.KStmt.{KStmt, Row_of-KArm, end_of-KArm, more_of-KArm, Row_of-KBlock, end_of-KBlock, more_of-KBlock, Do, If', Loop, Par'}

pub record TrailLoop : Type 0 where
  pub node : ℕ
  pub pos : Pos
  pub kind : KLoop
  pub body : KBlock

abbrev pub trail_loop : ℕ → Pos → KLoop → KBlock → TrailLoop
trail_loop n p k b = record { node = n; pos = p; kind = k; body = b }

unfoldable mutual
  pub loops : ℕ → Pos → KStmt → List TrailLoop
  loops n p (Do t b) = block_loops b
  loops n p (If' _ arms last) = arms_loops arms ++ block_loops last
  loops n p (Par' k slot _ bs) = blocks_loops bs
  loops n p (Loop k b) = trail_loop n p k b ∷ block_loops b
  loops n p _ = []

  pub block_loops : KBlock → List TrailLoop
  block_loops (KBlock' n ds _ list) = nodes_loops list

  pub arm_loops : KArm → List TrailLoop
  arm_loops (KArm' c b) = block_loops b

  pub nodes_loops : {n : _} → Row_of-KNode n → List TrailLoop
  nodes_loops end_of-KNode = []
  nodes_loops (more_of-KNode n p s rest) = loops n p s ++ nodes_loops rest

  pub arms_loops : {n : _} → Row_of-KArm n → List TrailLoop
  arms_loops end_of-KArm = []
  arms_loops (more_of-KArm a rest) = arm_loops a ++ arms_loops rest

  pub blocks_loops : {n : _} → Row_of-KBlock n → List TrailLoop
  blocks_loops end_of-KBlock = []
  blocks_loops (more_of-KBlock b rest) = block_loops b ++ blocks_loops rest

abbrev pub node_loops : KNode → List TrailLoop
node_loops n = loops n.node n.pos n.stmt
