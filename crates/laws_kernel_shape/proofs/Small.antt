-- A kernel has at most seven nodes for each part of its tree.
use Rattle.std.proofs.Common.{◌≡◌, ap, ℕ, ◌+◌, ◌*◌, ◌≤◌, length, arith, ◌++◌, Some, None}
use Rattle.ceu_base.specs.declared.kinds.Pos.{Pos}
use Rattle.ceu_tree.specs.declared.source.Await.{Await}
use Rattle.ceu_tree.specs.declared.source.Await.TheVariants as await
use Rattle.ceu_tree.specs.declared.source.Source as source
use Rattle.ceu_tree.specs.declared.source.Source.{Source}
use Rattle.ceu_tree.specs.declared.source.Item.{Held-Item-value, Item-value-None', Item-value-Some'}
use Rattle.ceu_tree.specs.declared.source.Do.{Do, Do'}
use Rattle.ceu_tree.specs.declared.source.Block.{Block, Block', Row_of-Node, end_of-Node, more_of-Node}
use Rattle.ceu_tree.specs.declared.source.Arm.{Arm, Arm'}
use Rattle.ceu_tree.specs.declared.source.Range.{Range, Range'}
use Rattle.ceu_tree.specs.declared.source.Stmt as stmt
use Rattle.ceu_tree.specs.declared.source.Stmt.{Stmt, Vars', If', Par', Row_of-Item, end_of-Item, more_of-Item, Row_of-Arm, end_of-Arm, more_of-Arm, Row_of-Block, end_of-Block, more_of-Block, Held-Stmt-If-1, Stmt-If-1-None', Stmt-If-1-Some'}
use Rattle.ceu_tree.specs.declared.source.Tree.{Tree}
use Rattle.ceu_tree.specs.Numbering.{block_nodes, codes_nodes}
use Rattle.ceu_scopes.specs.declared.known.Scopes.{Scopes}
use Rattle.ceu_types.specs.declared.typing.Types.{Types}
use Rattle.ceu_expand.specs.declared.around.Around.{Around}
use Rattle.ceu_expand.specs.declared.draft.Draft.{Draft}
use Rattle.ceu_expand.specs.Draft.{of_program, nothing_written, opened, closed, outside, block_of, around_block, standing, entered, left, with_code}
use Rattle.ceu_expand.specs.Lists.{each}
use Rattle.ceu_expand.specs.Parts.{param_declared}
use Rattle.ceu_expand.specs.Expansion.{declared_in, code_begun, code_around, code_ended, stmt_written, nodes_written, block_written, block_passed, counted, kernel_of}
use Rattle.laws_kernel_shape.specs.Sizes.{stmt_size, source_size, value_size, do_size, block_size, arm_size, last_size, range_size, items_size, arms_size, blocks_size, nodes_size, tree_size}
use Rattle.laws_kernel_shape.proofs.Codes.{Outermost, OutermostNodes, OutermostBlock, CodesOutermost}
use Rattle.laws_kernel_shape.proofs.Runs.{runs_length}
use Rattle.laws_kernel_shape.proofs.Parts.{await_nodes_in}
use Rattle.laws_kernel_shape.proofs.Counts.{stmt_adds, source_adds, value_adds, do_adds, range_adds, every_adds, block_adds, arm_adds, last_adds, nodes_add, nodes_hide, items_add, arms_add, blocks_add}
use Rattle.laws_kernel_shape.proofs.Wrote.{stmt_wrote, block_in}
use Rattle.laws_kernel_shape.proofs.Whole.{bare, params_are, row_runs, row_counted}

await_small : (w : Await) → await_nodes_in w ≤ 7
await_small await.Forever = omega arith
await_small (await.Code c) = omega arith
await_small (await.On x None) = omega arith
await_small (await.On x (Some c)) = omega arith

mutual
  unfolding stmt_adds stmt_size

  stmt_small : (st : Stmt) → stmt_adds st ≤ 7 * stmt_size st
  stmt_small stmt.Nothing = omega arith
  stmt_small stmt.Break = omega arith
  stmt_small stmt.Continue = omega arith
  stmt_small (stmt.AliasDecl code x start) = omega arith
  stmt_small (stmt.Events t xs) = omega arith
  stmt_small (stmt.Inputs t xs) = omega arith
  stmt_small (stmt.Outputs t xs) = omega arith
  stmt_small (stmt.Pool n code x) = omega arith
  stmt_small (stmt.Emit x e) = omega arith
  stmt_small (stmt.Spawn x) = omega arith
  stmt_small (stmt.Kill x) = omega arith
  stmt_small (stmt.Escape l e) = omega arith
  stmt_small (stmt.Code x ps t b) = omega arith
  stmt_small (Vars' t _ items) = items_small items
  stmt_small (stmt.Assign x v) = let i = source_small v in omega (arith, i)
  stmt_small (stmt.Await w) = let i = await_small w in omega (arith, i)
  stmt_small (stmt.Do d) = do_small d
  stmt_small (stmt.Finalize b) = let i = block_small b in omega (arith, i)
  stmt_small (If' _ arms last) = let i = arms_small arms in let j = last_small last in omega (arith, i, j)
  stmt_small (stmt.Loop limit b) = let i = block_small b in omega (arith, i)
  stmt_small (stmt.Range r) = range_small r
  stmt_small (stmt.Every x t b) = let i = every_small b in omega (arith, i)
  stmt_small (stmt.Watching t b) = let i = block_small b in omega (arith, i)
  stmt_small (Par' k _ bs) = let i = blocks_small bs in omega (arith, i)
  stmt_small (stmt.Async xs b) = let i = block_small b in omega (arith, i)

  source_small : (v : Source) → source_adds v ≤ 7 * source_size v
  source_small (source.Value e) = omega arith
  source_small (source.Wait w) = let i = await_small w in omega (arith, i)
  source_small (source.Start x) = omega arith
  source_small (source.Done d) = do_small d

  value_small : (v : Held-Item-value) → value_adds v ≤ 7 * value_size v
  value_small Item-value-None' = omega arith
  value_small (Item-value-Some' v) = source_small v

  do_small : (d : Do) → do_adds d ≤ 7 * do_size d
  do_small (Do' l b) = let i = block_small b in omega (arith, i)

  range_small : (r : Range) → range_adds r ≤ 7 * range_size r
  range_small (Range' x _ a b _ body) = let i = block_small body in omega (arith, i)

  every_small : (b : Block) → every_adds b ≤ 7 * block_size b
  every_small (Block' _ list) = let i = nodes_small list in omega (arith, i)

  block_small : (b : Block) → block_adds b ≤ 7 * block_size b
  block_small (Block' _ list) = let i = nodes_small list in omega (arith, i)

  arm_small : (arm : Arm) → arm_adds arm ≤ 7 * arm_size arm
  arm_small (Arm' c b) = let i = block_small b in omega (arith, i)

  last_small : (b : Held-Stmt-If-1) → last_adds b ≤ 7 * last_size b + 1
  last_small Stmt-If-1-None' = omega arith
  last_small (Stmt-If-1-Some' b) = let i = block_small b in omega (arith, i)

  items_small : {n : _} (r : Row_of-Item n) → items_add r ≤ 7 * items_size r
  items_small end_of-Item = omega arith
  items_small (more_of-Item x v rest) = let i = value_small v in let j = items_small rest in omega (arith, i, j)

  arms_small : {n : _} (r : Row_of-Arm n) → arms_add r ≤ 7 * arms_size r
  arms_small end_of-Arm = omega arith
  arms_small (more_of-Arm arm rest) = let i = arm_small arm in let j = arms_small rest in omega (arith, i, j)

  blocks_small : {n : _} (r : Row_of-Block n) → blocks_add r ≤ 7 * blocks_size r
  blocks_small end_of-Block = omega arith
  blocks_small (more_of-Block b rest) = let i = block_small b in let j = blocks_small rest in omega (arith, i, j)

  nodes_small : {n : _} (r : Row_of-Node n) → nodes_add r ≤ 7 * nodes_size r
  nodes_small end_of-Node = omega arith
  nodes_small (more_of-Node p st rest) = let i = stmt_small st in let j = nodes_small rest in omega (arith, i, j)

-- ---- codes

code_adds : Stmt → ℕ
code_adds (stmt.Code x ps t b) = block_adds b
code_adds _ = 0

codes_add : {n : _} → Row_of-Node n → ℕ
codes_add end_of-Node = 0
codes_add (more_of-Node p st rest) = code_adds st + codes_add rest

both_small : (st : Stmt) → stmt_adds st + code_adds st ≤ 7 * stmt_size st
unfolding stmt_adds stmt_size code_adds
both_small (stmt.Code x ps t b) = let i = block_small b in omega (arith, i)
both_small st = let i = stmt_small st in omega (arith, i)

all_small : {n : _} (r : Row_of-Node n) → nodes_add r + codes_add r ≤ 7 * nodes_size r
unfolding stmt_adds stmt_size codes_add
all_small end_of-Node = omega arith
all_small (more_of-Node p st rest) = let i = both_small st in let j = all_small rest in omega (arith, i, j)

module _ (s : Scopes) (t : Types) where
  stmt_other : (a : Around) (p : Pos) (st : Stmt) → Outermost st → (d : Draft) → (stmt_written s t a p st d).other_node ≡ d.other_node + code_adds st
  unfolding Outermost stmt_written code_begun code_ended standing entered left with_code bare code_adds
  stmt_other a p (stmt.Code x ps result b) h d =
      let first : Draft = entered (length ps) (standing (length d.codes) d) in
      let inside : Draft = each param_declared ps first in
      let around = code_around inside in
      let after : Draft = block_passed s t around b inside in
      let node : inside.node ≡ d.other_node = ap (λ (e : Draft). e.node) (params_are ps first).stays in
      let all : after.node ≡ inside.node + block_adds b = (block_in s t around b h inside).node_is in
      omega (arith, node, all)
  stmt_other a p st h d = let i = (stmt_wrote s t a p st h d).other_node in omega (arith, i)

  nodes_other : {n : _} (a : Around) (r : Row_of-Node n) → OutermostNodes r → (d : Draft) → (nodes_written s t a r d).other_node ≡ d.other_node + codes_add r
  unfolding OutermostNodes stmt_written codes_add
  nodes_other a end_of-Node h d = omega arith
  nodes_other a (more_of-Node p st rest) h d =
      let i = stmt_other a p st h.0 d in
      let j = nodes_other a rest h.1 (stmt_written s t a p st d) in
      omega (arith, i, j)

  row_length_small : {n : _} (r : Row_of-Node n) → OutermostNodes r → (m k : ℕ) →
      m ≡ nodes_add r + 1 → k ≡ declared_in r + nodes_hide r →
      let f = nodes_written s t of_program r in
      let d = nothing_written m k in
      length (block_nodes (block_of (declared_in r) f d) ++ codes_nodes (around_block (declared_in r) f d).codes) ≤ 7 * (nodes_size r + 1)
  unfolding nothing_written opened outside closed
  row_length_small r h m k hm hk =
      let f : Draft → Draft = nodes_written s t of_program r in
      let d : Draft = nothing_written m k in
      let e : Draft = f (opened (declared_in r) d) in
      let other : e.other_node ≡ m + codes_add r = nodes_other of_program r h (opened (declared_in r) d) in
      let runs = row_runs s t r h m k hm hk in
      let count : e.other_node ≡ 0 + length (block_nodes (block_of (declared_in r) f d) ++ codes_nodes (around_block (declared_in r) f d).codes) = runs_length 0 _ e.other_node runs.0 in
      let small : nodes_add r + codes_add r ≤ 7 * nodes_size r = all_small r in
      omega (arith, hm, other, count, small)

  block_length_small : (b : Block) → OutermostBlock b →
      let d = nothing_written (counted s t b).node (counted s t b).slot in
      length (block_nodes (block_written s t of_program b d) ++ codes_nodes (block_passed s t of_program b d).codes) ≤ 7 * block_size b
  unfolding OutermostBlock stmt_written stmt_size
  block_length_small (Block' _ list) h = let c = row_counted s t list h in row_length_small list h _ _ c.0 c.1

  pub small : (tree : Tree) → CodesOutermost tree → let K = kernel_of s t tree in length (block_nodes K.body ++ codes_nodes K.codes) ≤ 7 * tree_size tree
  unfolding kernel_of
  small tree h = block_length_small tree.body h
