-- How many parts a tree has: statements, variables that are declared, and blocks.
use Rattle.std.specs.Prelude.{ℕ, ◌+◌}
use Rattle.ceu_tree.specs.declared.source.Source as source
use Rattle.ceu_tree.specs.declared.source.Source.{Source}
use Rattle.ceu_tree.specs.declared.source.Item.{Held-Item-value, Item-value-None', Item-value-Some'}
use Rattle.ceu_tree.specs.declared.source.Do.{Do, Do'}
use Rattle.ceu_tree.specs.declared.source.Block.{Block, Block', Row_of-Node, end_of-Node, more_of-Node}
use Rattle.ceu_tree.specs.declared.source.Arm.{Arm, Arm'}
use Rattle.ceu_tree.specs.declared.source.Range.{Range, Range'}
use Rattle.ceu_tree.specs.declared.source.Stmt as stmt
use Rattle.ceu_tree.specs.declared.source.Stmt.{Stmt, Vars', If', Par', Row_of-Item, end_of-Item, more_of-Item, Row_of-Arm, end_of-Arm, more_of-Arm, Row_of-Block, end_of-Block, more_of-Block, Held-Stmt-If-1, Stmt-If-1-None', Stmt-If-1-Some'}
use Rattle.ceu_tree.specs.declared.source.Tree.{Tree}

unfoldable mutual
  pub stmt_size : Stmt → ℕ
  stmt_size (Vars' t _ items) = items_size items
  stmt_size (stmt.Code x ps t b) = block_size b + 1
  stmt_size (stmt.Assign x v) = source_size v
  stmt_size (stmt.Do d) = do_size d
  stmt_size (stmt.Finalize b) = block_size b + 1
  stmt_size (If' _ arms last) = arms_size arms + last_size last + 1
  stmt_size (stmt.Loop limit b) = block_size b + 1
  stmt_size (stmt.Range r) = range_size r
  stmt_size (stmt.Every x t b) = block_size b + 1
  stmt_size (stmt.Watching t b) = block_size b + 1
  stmt_size (Par' k _ bs) = blocks_size bs + 1
  stmt_size (stmt.Async xs b) = block_size b + 1
  stmt_size _ = 1

  pub source_size : Source → ℕ
  source_size (source.Done d) = do_size d
  source_size _ = 1

  pub value_size : Held-Item-value → ℕ
  value_size Item-value-None' = 1
  value_size (Item-value-Some' v) = source_size v

  pub do_size : Do → ℕ
  do_size (Do' l b) = block_size b + 1

  pub block_size : Block → ℕ
  block_size (Block' _ list) = nodes_size list + 1

  pub arm_size : Arm → ℕ
  arm_size (Arm' c b) = block_size b

  pub last_size : Held-Stmt-If-1 → ℕ
  last_size Stmt-If-1-None' = 0
  last_size (Stmt-If-1-Some' b) = block_size b

  pub range_size : Range → ℕ
  range_size (Range' x _ a b _ body) = block_size body + 1

  pub items_size : {n : _} → Row_of-Item n → ℕ
  items_size end_of-Item = 0
  items_size (more_of-Item x v rest) = value_size v + items_size rest

  pub arms_size : {n : _} → Row_of-Arm n → ℕ
  arms_size end_of-Arm = 0
  arms_size (more_of-Arm arm rest) = arm_size arm + arms_size rest

  pub blocks_size : {n : _} → Row_of-Block n → ℕ
  blocks_size end_of-Block = 0
  blocks_size (more_of-Block b rest) = block_size b + blocks_size rest

  pub nodes_size : {n : _} → Row_of-Node n → ℕ
  nodes_size end_of-Node = 0
  nodes_size (more_of-Node p st rest) = stmt_size st + nodes_size rest

abbrev pub tree_size : Tree → ℕ
tree_size t = block_size t.body
