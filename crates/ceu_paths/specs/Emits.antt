-- The events that a body emits, in pre-order, outside asyncs and finalizers (this project's own).
use Rattle.std.specs.Prelude.{ℕ, List, [], ◌∷◌, ◌++◌}
use Rattle.ceu_tree.specs.declared.kernel.KNode.{KNode}
use Rattle.ceu_tree.specs.declared.kernel.KBlock.{KBlock, KBlock', Row_of-KNode, end_of-KNode, more_of-KNode}
use Rattle.ceu_tree.specs.declared.kernel.KArm.{KArm, KArm'}
use Rattle.ceu_tree.specs.declared.kernel.KStmt.{KStmt, Row_of-KArm, end_of-KArm, more_of-KArm, Row_of-KBlock, end_of-KBlock, more_of-KBlock, Emit, Do, If', Loop, Par'}

unfoldable mutual
  pub emits : KStmt → List ℕ
  emits (Emit n x) = n ∷ []
  emits (Do t b) = block_emits b
  emits (If' _ arms last) = arms_emits arms ++ block_emits last
  emits (Par' k slot _ bs) = blocks_emits bs
  emits (Loop k b) = block_emits b
  emits _ = []

  pub block_emits : KBlock → List ℕ
  block_emits (KBlock' n ds _ list) = nodes_emits list

  pub arm_emits : KArm → List ℕ
  arm_emits (KArm' c b) = block_emits b

  pub nodes_emits : {n : _} → Row_of-KNode n → List ℕ
  nodes_emits end_of-KNode = []
  nodes_emits (more_of-KNode n p s rest) = emits s ++ nodes_emits rest

  pub arms_emits : {n : _} → Row_of-KArm n → List ℕ
  arms_emits end_of-KArm = []
  arms_emits (more_of-KArm a rest) = arm_emits a ++ arms_emits rest

  pub blocks_emits : {n : _} → Row_of-KBlock n → List ℕ
  blocks_emits end_of-KBlock = []
  blocks_emits (more_of-KBlock b rest) = block_emits b ++ blocks_emits rest

abbrev pub node_emits : KNode → List ℕ
node_emits n = emits n.stmt
