-- How many cells the evaluation of a program's expressions takes.
use Rattle.std.specs.Prelude.{ℕ, ◌+◌, max, List, [], ◌∷◌, Option, Some, None}
use Rattle.ceu_tree.specs.declared.kernel.Kernel.{Kernel}
use Rattle.ceu_tree.specs.declared.kernel.KCode.{KCode}
use Rattle.ceu_tree.specs.declared.kernel.KLoop.{KLoop}
use Rattle.ceu_tree.specs.declared.kernel.KLoop.TheVariants as turns
use Rattle.ceu_tree.specs.declared.kernel.KExp.{KExp}
use Rattle.ceu_tree.specs.declared.kernel.KExpNode as exp
use Rattle.ceu_tree.specs.declared.kernel.KExpNode.{KExpNode, Row_of-KExp, end_of-KExp, more_of-KExp, One', Two', As'}
use Rattle.ceu_tree.specs.declared.kernel.KBlock.{KBlock, KBlock', Row_of-KNode, end_of-KNode, more_of-KNode}
use Rattle.ceu_tree.specs.declared.kernel.KArm.{KArm, KArm'}
use Rattle.ceu_tree.specs.declared.kernel.KStmt.{KStmt, Row_of-KArm, end_of-KArm, more_of-KArm, Row_of-KBlock, end_of-KBlock, more_of-KBlock, Nothing, Assign, Out, Emit, AwaitIn, AwaitTime, AwaitEvent, Forever, AwaitCode, Spawn, Kill, Unset, Async, Finalize, Do, Escape, Break, Continue, If', Loop, Par'}

-- ---- cells of evaluation

unfoldable mutual
  pub node_depth : KExpNode → ℕ
  node_depth (One' op _ a) = operand_depth a
  node_depth (Two' op _ a _ b) = max (operand_depth a) (1 + operand_depth b)
  node_depth (As' _ a) = operand_depth a
  node_depth (exp.Const v) = 1
  node_depth (exp.Read l) = 1
  node_depth (exp.Alive c) = 1

  pub operand_depth : {n : _} → Row_of-KExp n → ℕ
  operand_depth end_of-KExp = 0
  operand_depth (more_of-KExp t p e rest) = node_depth e

abbrev pub exp_depth : KExp → ℕ
exp_depth e = node_depth e.node

abbrev pub depth_if : Option KExp → ℕ
depth_if None = 0
depth_if (Some e) = exp_depth e

-- arguments from this place on
abbrev pub arguments_depth : ℕ → List KExp → ℕ
arguments_depth place [] = 0
arguments_depth place (e ∷ es) = max (place + exp_depth e) (arguments_depth (place + 1) es)

abbrev pub loop_depth : KLoop → ℕ
loop_depth (turns.Range i next end open_a a b open_b) = max (exp_depth a) (exp_depth b)
loop_depth _ = 0

unfoldable mutual
  pub stmt_depth : KStmt → ℕ
  stmt_depth (Assign l e) = exp_depth e
  stmt_depth (Out k e) = depth_if e
  stmt_depth (Emit k e) = depth_if e
  stmt_depth (AwaitTime e u t) = exp_depth e
  stmt_depth (AwaitCode c es f t) = arguments_depth 0 es
  stmt_depth (Spawn c es p a) = arguments_depth 0 es
  stmt_depth (Async b) = block_depth b
  stmt_depth (Finalize b) = block_depth b
  stmt_depth (Do t b) = block_depth b
  stmt_depth (Escape n e) = depth_if e
  stmt_depth (If' _ arms last) = max (arms_depth arms) (block_depth last)
  stmt_depth (Loop kind b) = max (loop_depth kind) (block_depth b)
  stmt_depth (Par' kind slot _ bs) = blocks_depth bs
  stmt_depth Nothing = 0
  stmt_depth (AwaitIn k t) = 0
  stmt_depth (AwaitEvent e t) = 0
  stmt_depth Forever = 0
  stmt_depth (Kill c) = 0
  stmt_depth (Unset c) = 0
  stmt_depth (Break n) = 0
  stmt_depth (Continue n) = 0

  pub block_depth : KBlock → ℕ
  block_depth (KBlock' n ds _ list) = nodes_depth list

  pub arm_depth : KArm → ℕ
  arm_depth (KArm' c b) = max (exp_depth c) (block_depth b)

  pub nodes_depth : {n : _} → Row_of-KNode n → ℕ
  nodes_depth end_of-KNode = 0
  nodes_depth (more_of-KNode n p s rest) = max (stmt_depth s) (nodes_depth rest)

  pub arms_depth : {n : _} → Row_of-KArm n → ℕ
  arms_depth end_of-KArm = 0
  arms_depth (more_of-KArm a rest) = max (arm_depth a) (arms_depth rest)

  pub blocks_depth : {n : _} → Row_of-KBlock n → ℕ
  blocks_depth end_of-KBlock = 0
  blocks_depth (more_of-KBlock b rest) = max (block_depth b) (blocks_depth rest)

abbrev pub codes_depth : List KCode → ℕ
codes_depth [] = 0
codes_depth (c ∷ cs) = max (block_depth c.body) (codes_depth cs)

unfoldable pub depth : Kernel → ℕ
depth K = max 1 (max (block_depth K.body) (codes_depth K.codes))
