-- How many nodes and hidden slots a part of the text takes, wherever it stands.
use Rattle.std.proofs.Common.{ℕ, ◌+◌, Option, Some, None}
use Rattle.ceu_tree.specs.declared.source.Source as source
use Rattle.ceu_tree.specs.declared.source.Source.{Source}
use Rattle.ceu_tree.specs.declared.source.Item.{Held-Item-value, Item-value-None', Item-value-Some'}
use Rattle.ceu_tree.specs.declared.source.Do.{Do, Do'}
use Rattle.ceu_tree.specs.declared.source.Block.{Block, Block', Row_of-Node, end_of-Node, more_of-Node}
use Rattle.ceu_tree.specs.declared.source.Arm.{Arm, Arm'}
use Rattle.ceu_tree.specs.declared.source.Range.{Range, Range'}
use Rattle.ceu_tree.specs.declared.source.Stmt as stmt
use Rattle.ceu_tree.specs.declared.source.Stmt.{Stmt, Vars', If', Par', Row_of-Item, end_of-Item, more_of-Item, Row_of-Arm, end_of-Arm, more_of-Arm, Row_of-Block, end_of-Block, more_of-Block, Held-Stmt-If-1, Stmt-If-1-None', Stmt-If-1-Some'}
use Rattle.ceu_expand.specs.Expansion.{declared_in, row_blocks, par_hidden}
use Rattle.laws_kernel_shape.proofs.Parts.{await_nodes_in, await_slots_in}

abbrev pub turns_hide : Option ℕ → ℕ
turns_hide None = 0
turns_hide (Some n) = 1

unfoldable mutual
  pub stmt_adds : Stmt → ℕ
  stmt_adds stmt.Nothing = 1
  stmt_adds stmt.Break = 1
  stmt_adds stmt.Continue = 1
  stmt_adds (Vars' t _ items) = items_add items
  stmt_adds (stmt.AliasDecl code x start) = 1
  stmt_adds (stmt.Events t xs) = 0
  stmt_adds (stmt.Inputs t xs) = 0
  stmt_adds (stmt.Outputs t xs) = 0
  stmt_adds (stmt.Pool n code x) = 0
  stmt_adds (stmt.Code x ps t b) = 0
  stmt_adds (stmt.Assign x v) = 0 + source_adds v
  stmt_adds (stmt.Emit x e) = 1
  stmt_adds (stmt.Await w) = await_nodes_in w
  stmt_adds (stmt.Spawn x) = 1
  stmt_adds (stmt.Kill x) = 1
  stmt_adds (stmt.Escape l e) = 1
  stmt_adds (stmt.Do d) = do_adds d
  stmt_adds (stmt.Finalize b) = block_adds b + 1
  stmt_adds (If' _ arms last) = arms_add arms + last_adds last + 1
  stmt_adds (stmt.Loop limit b) = 0 + block_adds b + 1
  stmt_adds (stmt.Range r) = range_adds r
  stmt_adds (stmt.Every x t b) = every_adds b + 1
  stmt_adds (stmt.Watching t b) = 2 + (block_adds b + 0) + 1
  stmt_adds (Par' k _ bs) = 0 + blocks_add bs + 1
  stmt_adds (stmt.Async xs b) = 0 + block_adds b + 1

  pub source_adds : Source → ℕ
  source_adds (source.Value e) = 1
  source_adds (source.Wait w) = await_nodes_in w
  source_adds (source.Start x) = 1
  source_adds (source.Done d) = do_adds d

  pub value_adds : Held-Item-value → ℕ
  value_adds Item-value-None' = 1
  value_adds (Item-value-Some' v) = source_adds v

  pub do_adds : Do → ℕ
  do_adds (Do' l b) = 0 + (block_adds b + 0) + 1

  pub range_adds : Range → ℕ
  range_adds (Range' x _ a b _ body) = 0 + block_adds body + 1

  pub every_adds : Block → ℕ
  every_adds (Block' _ list) = 1 + nodes_add list + 1

  pub block_adds : Block → ℕ
  block_adds (Block' _ list) = nodes_add list + 1

  pub arm_adds : Arm → ℕ
  arm_adds (Arm' c b) = 0 + block_adds b

  pub last_adds : Held-Stmt-If-1 → ℕ
  last_adds Stmt-If-1-None' = 1
  last_adds (Stmt-If-1-Some' b) = block_adds b

  pub items_add : {n : _} → Row_of-Item n → ℕ
  items_add end_of-Item = 0
  items_add (more_of-Item x v rest) = 0 + value_adds v + items_add rest

  pub arms_add : {n : _} → Row_of-Arm n → ℕ
  arms_add end_of-Arm = 0
  arms_add (more_of-Arm arm rest) = arm_adds arm + arms_add rest

  pub blocks_add : {n : _} → Row_of-Block n → ℕ
  blocks_add end_of-Block = 0
  blocks_add (more_of-Block b rest) = block_adds b + blocks_add rest

  pub nodes_add : {n : _} → Row_of-Node n → ℕ
  nodes_add end_of-Node = 0
  nodes_add (more_of-Node p st rest) = stmt_adds st + nodes_add rest

unfoldable mutual
  pub stmt_hides : Stmt → ℕ
  stmt_hides stmt.Nothing = 0
  stmt_hides stmt.Break = 0
  stmt_hides stmt.Continue = 0
  stmt_hides (Vars' t _ items) = items_hide items
  stmt_hides (stmt.AliasDecl code x start) = 0
  stmt_hides (stmt.Events t xs) = 0
  stmt_hides (stmt.Inputs t xs) = 0
  stmt_hides (stmt.Outputs t xs) = 0
  stmt_hides (stmt.Pool n code x) = 0
  stmt_hides (stmt.Code x ps t b) = 0
  stmt_hides (stmt.Assign x v) = 0 + source_hides v
  stmt_hides (stmt.Emit x e) = 0
  stmt_hides (stmt.Await w) = await_slots_in w
  stmt_hides (stmt.Spawn x) = 0
  stmt_hides (stmt.Kill x) = 0
  stmt_hides (stmt.Escape l e) = 0
  stmt_hides (stmt.Do d) = do_hides d
  stmt_hides (stmt.Finalize b) = block_hides b
  stmt_hides (If' _ arms last) = arms_hide arms + last_hides last
  stmt_hides (stmt.Loop limit b) = turns_hide limit + block_hides b
  stmt_hides (stmt.Range r) = range_hides r
  stmt_hides (stmt.Every x t b) = every_hides b
  stmt_hides (stmt.Watching t b) = 0 + (block_hides b + 0)
  stmt_hides (Par' k _ bs) = par_hidden k (row_blocks bs) + blocks_hide bs
  stmt_hides (stmt.Async xs b) = 0 + block_hides b

  pub source_hides : Source → ℕ
  source_hides (source.Value e) = 0
  source_hides (source.Wait w) = await_slots_in w
  source_hides (source.Start x) = 0
  source_hides (source.Done d) = do_hides d

  pub value_hides : Held-Item-value → ℕ
  value_hides Item-value-None' = 0
  value_hides (Item-value-Some' v) = source_hides v

  pub do_hides : Do → ℕ
  do_hides (Do' l b) = 0 + (block_hides b + 0)

  pub range_hides : Range → ℕ
  range_hides (Range' x _ a b _ body) = 3 + block_hides body

  pub every_hides : Block → ℕ
  every_hides (Block' _ list) = declared_in list + (0 + nodes_hide list)

  pub block_hides : Block → ℕ
  block_hides (Block' _ list) = declared_in list + nodes_hide list

  pub arm_hides : Arm → ℕ
  arm_hides (Arm' c b) = 0 + block_hides b

  pub last_hides : Held-Stmt-If-1 → ℕ
  last_hides Stmt-If-1-None' = 0
  last_hides (Stmt-If-1-Some' b) = block_hides b

  pub items_hide : {n : _} → Row_of-Item n → ℕ
  items_hide end_of-Item = 0
  items_hide (more_of-Item x v rest) = 0 + value_hides v + items_hide rest

  pub arms_hide : {n : _} → Row_of-Arm n → ℕ
  arms_hide end_of-Arm = 0
  arms_hide (more_of-Arm arm rest) = arm_hides arm + arms_hide rest

  pub blocks_hide : {n : _} → Row_of-Block n → ℕ
  blocks_hide end_of-Block = 0
  blocks_hide (more_of-Block b rest) = block_hides b + blocks_hide rest

  pub nodes_hide : {n : _} → Row_of-Node n → ℕ
  nodes_hide end_of-Node = 0
  nodes_hide (more_of-Node p st rest) = stmt_hides st + nodes_hide rest
