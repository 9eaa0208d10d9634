-- The weight of a program, from which the length of its code is bounded (this project's own): 48 for each statement, declaration, branch of a
-- par, arm of an if and code, and 20 for each node of an expression.
use Rattle.std.specs.Prelude.{ℕ, ◌+◌, ◌*◌, length, Option, Some, None}
use Rattle.ceu_tree.specs.declared.kernel.Kernel.{Kernel}
use Rattle.ceu_tree.specs.declared.kernel.KCode.{KCode}
use Rattle.ceu_tree.specs.declared.kernel.KLoop.{KLoop}
use Rattle.ceu_tree.specs.declared.kernel.KLoop.TheVariants as turns
use Rattle.ceu_tree.specs.declared.kernel.KExp.{KExp}
use Rattle.ceu_tree.specs.declared.kernel.KExpNode.{KExpNode, Row_of-KExp, end_of-KExp, more_of-KExp, One', Two', As'}
use Rattle.ceu_tree.specs.declared.kernel.KBlock.{KBlock, KBlock', Row_of-KNode, end_of-KNode, more_of-KNode}
use Rattle.ceu_tree.specs.declared.kernel.KNode.{KNode}
use Rattle.ceu_tree.specs.declared.kernel.KArm.{KArm, KArm'}
use Rattle.ceu_tree.specs.declared.kernel.KStmt.{KStmt, Row_of-KArm, end_of-KArm, more_of-KArm, Row_of-KBlock, end_of-KBlock, more_of-KBlock, Assign, Out, Emit, AwaitTime, AwaitCode, Spawn, Async, Finalize, Do, Escape, If', Loop, Par'}
use Rattle.ceu_tree.specs.Greatest.{total}

-- ---- the nodes of expressions

unfoldable mutual
  pub node_count : KExpNode → ℕ
  node_count (One' op _ a) = 1 + operand_count a
  node_count (Two' op _ a _ b) = 1 + operand_count a + operand_count b
  node_count (As' _ a) = 1 + operand_count a
  node_count _ = 1

  pub operand_count : {n : _} → Row_of-KExp n → ℕ
  operand_count end_of-KExp = 0
  operand_count (more_of-KExp t p e rest) = node_count e

abbrev pub exp_count : KExp → ℕ
exp_count e = node_count e.node

abbrev pub exp_weight : KExp → ℕ
exp_weight e = 20 * exp_count e

abbrev pub weight_if : Option KExp → ℕ
weight_if None = 0
weight_if (Some e) = exp_weight e

-- a range declares its variable
abbrev pub loop_weight : KLoop → ℕ
loop_weight (turns.Range i next end open_a a b open_b) = 48 + exp_weight a + exp_weight b
loop_weight _ = 0

-- ---- statements, without the 48 of the statement itself

unfoldable mutual
  pub stmt_weight : KStmt → ℕ
  stmt_weight (Assign l e) = exp_weight e
  stmt_weight (Out k e) = weight_if e
  stmt_weight (Emit k e) = weight_if e
  stmt_weight (AwaitTime e u t) = exp_weight e
  stmt_weight (AwaitCode c es f t) = total exp_weight es
  stmt_weight (Spawn c es p a) = total exp_weight es
  stmt_weight (Async b) = block_weight b
  stmt_weight (Finalize b) = block_weight b
  stmt_weight (Do t b) = block_weight b
  stmt_weight (Escape n e) = weight_if e
  stmt_weight (If' _ arms last) = arms_weight arms + block_weight last
  stmt_weight (Loop kind b) = loop_weight kind + block_weight b
  stmt_weight (Par' kind slot _ bs) = blocks_weight bs
  stmt_weight _ = 0

  pub block_weight : KBlock → ℕ
  block_weight (KBlock' n ds _ list) = 48 * length ds + nodes_weight list

  pub arm_weight : KArm → ℕ
  arm_weight (KArm' c b) = 48 + exp_weight c + block_weight b

  pub nodes_weight : {n : _} → Row_of-KNode n → ℕ
  nodes_weight end_of-KNode = 0
  nodes_weight (more_of-KNode n p s rest) = 48 + stmt_weight s + nodes_weight rest

  pub arms_weight : {n : _} → Row_of-KArm n → ℕ
  arms_weight end_of-KArm = 0
  arms_weight (more_of-KArm a rest) = arm_weight a + arms_weight rest

  -- the branches of a par
  pub blocks_weight : {n : _} → Row_of-KBlock n → ℕ
  blocks_weight end_of-KBlock = 0
  blocks_weight (more_of-KBlock b rest) = 48 + block_weight b + blocks_weight rest

abbrev pub node_weight : KNode → ℕ
node_weight n = 48 + stmt_weight n.stmt

abbrev pub branch_weight : KBlock → ℕ
branch_weight b = 48 + block_weight b

abbrev pub code_weight : KCode → ℕ
code_weight c = 48 + 48 * length c.params + block_weight c.body

unfoldable pub weight : Kernel → ℕ
weight K = block_weight K.body + total code_weight K.codes + 48 * (length K.inputs + length K.outputs + length K.events)
