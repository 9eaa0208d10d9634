-- Definitions on statements, by the forms that the code meets.
use Rattle.std.proofs.Common.{◌≡◌, refl, sym, ap, ◌∙◌, ℕ, zero, suc, ◌+◌, ◌<◌, length, take, get_or, arith, List, [], ◌∷◌, Option, Some, None}
use Rattle.ceu_base.specs.declared.kinds.Ty.{Ty}
use Rattle.ceu_base.specs.declared.kinds.Pos.{Pos}
use Rattle.ceu_tree.specs.declared.source.Ident.{Ident}
use Rattle.ceu_tree.specs.declared.source.Param.{Param}
use Rattle.ceu_tree.specs.declared.source.Spawn.{Spawn}
use Rattle.ceu_tree.specs.declared.source.Target.{Target}
use Rattle.ceu_tree.specs.declared.source.Await.{Await}
use Rattle.ceu_tree.specs.declared.source.Exp.{Exp}
use Rattle.ceu_tree.specs.declared.source.Source as source
use Rattle.ceu_tree.specs.declared.source.Source.{Source}
use Rattle.ceu_tree.specs.declared.source.Node.{Node}
use Rattle.ceu_tree.specs.declared.source.Item.{Item, Held-Item-value, Item-value-None', Item-value-Some', view-Item-value}
use Rattle.ceu_tree.specs.declared.source.Do.{Do, Do', out-Do}
use Rattle.ceu_tree.specs.declared.source.Block.{Block, Block', out-Block, Row_of-Node, end_of-Node, more_of-Node, items-the_row-Node, items_shown-the_row-Node-3}
use Rattle.ceu_tree.specs.declared.source.Arm.{Arm, Arm', out-Arm}
use Rattle.ceu_tree.specs.declared.source.Range.{Range, Range', out-Range}
use Rattle.ceu_tree.specs.declared.source.Stmt as stmt
use Rattle.ceu_tree.specs.declared.source.Stmt.{Stmt, Row_of-Item, end_of-Item, more_of-Item, items-the_row-Item, items_hidden-the_row-Item-0, Row_of-Arm, end_of-Arm, more_of-Arm, items-the_row-Arm, items_hidden-the_row-Arm-1, Row_of-Block, end_of-Block, more_of-Block, items-the_row-Block, items_hidden-the_row-Block-2, Held-Stmt-If-1, Stmt-If-1-None', Stmt-If-1-Some', back-Stmt-If-1}
use Rattle.ceu_tree.specs.declared.source.Source.TheBlock.{hidden-the_row-Item-0, hidden-the_row-Arm-1, hidden-the_row-Block-2}
use Rattle.ceu_tree.specs.declared.kernel.Loc.{Loc}
use Rattle.ceu_tree.specs.declared.kernel.KKind.TheVariants as kind
use Rattle.ceu_tree.specs.declared.kernel.KLoop.TheVariants as turns
use Rattle.ceu_tree.specs.declared.kernel.ParKind.{ParKind}
use Rattle.ceu_tree.specs.declared.kernel.ParKind.TheVariants as par
use Rattle.ceu_tree.specs.declared.kernel.KArm.{roll-KArm}
use Rattle.ceu_tree.specs.declared.kernel.KStmt as kernel
use Rattle.ceu_scopes.specs.declared.known.Scopes.{Scopes}
use Rattle.ceu_types.specs.declared.typing.Types.{Types}
use Rattle.ceu_expand.specs.declared.around.Around.{Around}
use Rattle.ceu_expand.specs.declared.draft.Draft.{Draft}
use Rattle.ceu_expand.specs.Draft.{in_loop, in_do, outside, opened, written, closed, begun, hidden, placed, block_of, around_block, declared, event_declared, input_declared, output_declared, own, labelled, unlabelled}
use Rattle.ceu_expand.specs.Lists.{each, gathered}
use Rattle.ceu_expand.specs.Uses.{variable, used, if_variable, if_used}
use Rattle.ceu_expand.specs.Expressions.{exp_passed, exp_written}
use Rattle.ceu_expand.specs.Parts.{simple, assigned, emitted, escaped, target_awaited, awaited, spawned, alias_declared, pool_declared, killed, name_passed}
use Rattle.ceu_expand.specs.Expansion.{declared_by, declared_in, declared_all, row_items, row_blocks, par_hidden, par_slot, turns_written, turns_passed, range_written, range_passed, stmt_written, code_begun, code_around, code_ended, source_written, value_written, do_written, ranged, every_written, every_passed, block_written, block_passed, arm_written, arm_passed, last_written, last_passed, nodes_written, items_written, arms_written, arms_passed, blocks_written, blocks_passed, node_step, if_source_written, item_step, if_block_written, if_block_passed}
use denote.Hole.Carrier

-- ---- slots

items_counted : {n : _} (r : Row_of-Item n) → row_items r ≡ length (items-the_row-Item n r)
items_counted end_of-Item = refl
items_counted (more_of-Item x v rest) = let e = items_counted rest in omega (arith, e)

blocks_counted : {n : _} (r : Row_of-Block n) → row_blocks r ≡ length (items-the_row-Block n r)
blocks_counted end_of-Block = refl
blocks_counted (more_of-Block b rest) = let e = blocks_counted rest in omega (arith, e)

nodes_counted : {n : _} (r : Row_of-Node n) → declared_in r ≡ declared_all (items-the_row-Node n r)
unfolding declared_in
nodes_counted end_of-Node = refl
nodes_counted (more_of-Node p st rest) = ap (λ k. declared_by st + k) (nodes_counted rest)

pub declared_vars : (ty : Ty) (items : List Item) → declared_by (stmt.Vars ty items) ≡ length items
unfolding declared_by
declared_vars ty items = items_counted (hidden-the_row-Item-0 items) ∙ ap length (items_hidden-the_row-Item-0 items)

pub declared_nothing : declared_by stmt.Nothing ≡ 0
unfolding declared_by
declared_nothing = refl

pub declared_break : declared_by stmt.Break ≡ 0
unfolding declared_by
declared_break = refl

pub declared_continue : declared_by stmt.Continue ≡ 0
unfolding declared_by
declared_continue = refl

pub declared_aliasdecl : (code x : Ident) (start : Option Spawn) → declared_by (stmt.AliasDecl code x start) ≡ 1
unfolding declared_by
declared_aliasdecl code x start = refl

pub declared_events : (ty : Ty) (xs : List Ident) → declared_by (stmt.Events ty xs) ≡ 0
unfolding declared_by
declared_events ty xs = refl

pub declared_inputs : (ty : Ty) (xs : List Ident) → declared_by (stmt.Inputs ty xs) ≡ 0
unfolding declared_by
declared_inputs ty xs = refl

pub declared_outputs : (ty : Ty) (xs : List Ident) → declared_by (stmt.Outputs ty xs) ≡ 0
unfolding declared_by
declared_outputs ty xs = refl

pub declared_pool : (places : ℕ) (code x : Ident) → declared_by (stmt.Pool places code x) ≡ 1
unfolding declared_by
declared_pool places code x = refl

pub declared_code : (x : Ident) (ps : List Param) (result : Ty) (b : Block) → declared_by (stmt.Code x ps result b) ≡ 0
unfolding declared_by
declared_code x ps result b = refl

pub declared_assign : (x : Ident) (v : Source) → declared_by (stmt.Assign x v) ≡ 0
unfolding declared_by
declared_assign x v = refl

pub declared_emit : (x : Ident) (e : Option Exp) → declared_by (stmt.Emit x e) ≡ 0
unfolding declared_by
declared_emit x e = refl

pub declared_await : (w : Await) → declared_by (stmt.Await w) ≡ 0
unfolding declared_by
declared_await w = refl

pub declared_spawn : (x : Spawn) → declared_by (stmt.Spawn x) ≡ 0
unfolding declared_by
declared_spawn x = refl

pub declared_kill : (x : Ident) → declared_by (stmt.Kill x) ≡ 0
unfolding declared_by
declared_kill x = refl

pub declared_escape : (l : Option Ident) (e : Option Exp) → declared_by (stmt.Escape l e) ≡ 0
unfolding declared_by
declared_escape l e = refl

pub declared_do : (b : Do) → declared_by (stmt.Do b) ≡ 0
unfolding declared_by
declared_do b = refl

pub declared_finalize : (b : Block) → declared_by (stmt.Finalize b) ≡ 0
unfolding declared_by
declared_finalize b = refl

pub declared_if : (arms : List Arm) (last : Option Block) → declared_by (stmt.If arms last) ≡ 0
unfolding declared_by
declared_if arms last = refl

pub declared_loop : (limit : Option ℕ) (b : Block) → declared_by (stmt.Loop limit b) ≡ 0
unfolding declared_by
declared_loop limit b = refl

pub declared_range : (r : Range) → declared_by (stmt.Range r) ≡ 0
unfolding declared_by
declared_range r = refl

pub declared_every : (x : Option Ident) (target : Target) (b : Block) → declared_by (stmt.Every x target b) ≡ 0
unfolding declared_by
declared_every x target b = refl

pub declared_watching : (target : Target) (b : Block) → declared_by (stmt.Watching target b) ≡ 0
unfolding declared_by
declared_watching target b = refl

pub declared_par : (k : ParKind) (bs : List Block) → declared_by (stmt.Par k bs) ≡ 0
unfolding declared_by
declared_par k bs = refl

pub declared_async : (xs : List Ident) (b : Block) → declared_by (stmt.Async xs b) ≡ 0
unfolding declared_by
declared_async xs b = refl

pub declared_none : declared_all [] ≡ 0
declared_none = refl

pub declared_more : (ns : List Node) (i : ℕ) (d : Node) → i < length ns → declared_all (take (suc i) ns) ≡ declared_all (take i ns) + declared_by (get_or ns i d).stmt
declared_more [] i d h = absurd (omega arith)
declared_more (n ∷ ns) zero d h = omega arith
declared_more (n ∷ ns) (suc i) d h = let e = declared_more ns i d (omega arith) in omega (arith, e)

pub ruleset slots = (declared_vars, declared_nothing, declared_break, declared_continue, declared_aliasdecl, declared_events, declared_inputs, declared_outputs, declared_pool, declared_code, declared_assign, declared_emit, declared_await, declared_spawn, declared_kill, declared_escape, declared_do, declared_finalize, declared_if, declared_loop, declared_range, declared_every, declared_watching, declared_par, declared_async, declared_none, declared_more)

-- ---- statements

module _ (s : Scopes) (t : Types) where
  pub written_nothing : (a : Around) (p : Pos) (d : Draft) →
      stmt_written s t a p stmt.Nothing d
      ≡ simple p kernel.Nothing d
  unfolding stmt_written
  written_nothing a p d = refl

  pub written_break : (a : Around) (p : Pos) (d : Draft) →
      stmt_written s t a p stmt.Break d
      ≡ simple p (kernel.Break a.turns) d
  unfolding stmt_written
  written_break a p d = refl

  pub written_continue : (a : Around) (p : Pos) (d : Draft) →
      stmt_written s t a p stmt.Continue d
      ≡ simple p (kernel.Continue a.turns) d
  unfolding stmt_written
  written_continue a p d = refl

  pub written_aliasdecl : (a : Around) (p : Pos) (code x : Ident) (start : Option Spawn) (d : Draft) →
      stmt_written s t a p (stmt.AliasDecl code x start) d
      ≡ alias_declared s t p x start d
  unfolding stmt_written
  written_aliasdecl a p code x start d = refl

  pub written_events : (a : Around) (p : Pos) (ty : Ty) (xs : List Ident) (d : Draft) →
      stmt_written s t a p (stmt.Events ty xs) d
      ≡ each (event_declared a.code ty) xs d
  unfolding stmt_written
  written_events a p ty xs d = refl

  pub written_inputs : (a : Around) (p : Pos) (ty : Ty) (xs : List Ident) (d : Draft) →
      stmt_written s t a p (stmt.Inputs ty xs) d
      ≡ each (input_declared ty) xs d
  unfolding stmt_written
  written_inputs a p ty xs d = refl

  pub written_outputs : (a : Around) (p : Pos) (ty : Ty) (xs : List Ident) (d : Draft) →
      stmt_written s t a p (stmt.Outputs ty xs) d
      ≡ each (output_declared ty) xs d
  unfolding stmt_written
  written_outputs a p ty xs d = refl

  pub written_pool : (a : Around) (p : Pos) (places : ℕ) (code x : Ident) (d : Draft) →
      stmt_written s t a p (stmt.Pool places code x) d
      ≡ pool_declared s places x d
  unfolding stmt_written
  written_pool a p places code x d = refl

  pub written_code : (a : Around) (p : Pos) (x : Ident) (ps : List Param) (result : Ty) (b : Block) (d : Draft) →
      stmt_written s t a p (stmt.Code x ps result b) d
      ≡ code_ended x result (block_written s t (code_around (code_begun ps d)) b (code_begun ps d)) d.parts (block_passed s t (code_around (code_begun ps d)) b (code_begun ps d))
  unfolding stmt_written
  written_code a p x ps result b d = refl

  pub written_assign : (a : Around) (p : Pos) (x : Ident) (v : Source) (d : Draft) →
      stmt_written s t a p (stmt.Assign x v) d
      ≡ source_written s t a p (variable s x d) v (used d)
  unfolding stmt_written
  written_assign a p x v d = refl

  pub written_emit : (a : Around) (p : Pos) (x : Ident) (e : Option Exp) (d : Draft) →
      stmt_written s t a p (stmt.Emit x e) d
      ≡ emitted s t p e d
  unfolding stmt_written
  written_emit a p x e d = refl

  pub written_await : (a : Around) (p : Pos) (w : Await) (d : Draft) →
      stmt_written s t a p (stmt.Await w) d
      ≡ awaited s t p None w d
  unfolding stmt_written
  written_await a p w d = refl

  pub written_spawn : (a : Around) (p : Pos) (x : Spawn) (d : Draft) →
      stmt_written s t a p (stmt.Spawn x) d
      ≡ spawned s t None x d
  unfolding stmt_written
  written_spawn a p x d = refl

  pub written_kill : (a : Around) (p : Pos) (x : Ident) (d : Draft) →
      stmt_written s t a p (stmt.Kill x) d
      ≡ killed s p d
  unfolding stmt_written
  written_kill a p x d = refl

  pub written_escape : (a : Around) (p : Pos) (l : Option Ident) (e : Option Exp) (d : Draft) →
      stmt_written s t a p (stmt.Escape l e) d
      ≡ escaped s t a p l e d
  unfolding stmt_written
  written_escape a p l e d = refl

  pub written_do : (a : Around) (p : Pos) (b : Do) (d : Draft) →
      stmt_written s t a p (stmt.Do b) d
      ≡ do_written s t a p None b d
  unfolding stmt_written
  written_do a p b d = refl

  pub written_finalize : (a : Around) (p : Pos) (b : Block) (d : Draft) →
      stmt_written s t a p (stmt.Finalize b) d
      ≡ placed d.node p (kernel.Finalize (block_written s t a b (begun d))) (block_passed s t a b (begun d))
  unfolding stmt_written
  written_finalize a p b d = refl

  pub written_loop : (a : Around) (p : Pos) (limit : Option ℕ) (b : Block) (d : Draft) →
      stmt_written s t a p (stmt.Loop limit b) d
      ≡ placed d.node p
      (kernel.Loop (turns_written limit (begun d)) (block_written s t (in_loop d.node a) b (turns_passed limit (begun d))))
      (block_passed s t (in_loop d.node a) b (turns_passed limit (begun d)))
  unfolding stmt_written
  written_loop a p limit b d = refl

  pub written_watching : (a : Around) (p : Pos) (target : Target) (b : Block) (d : Draft) →
      stmt_written s t a p (stmt.Watching target b) d
      ≡ placed d.node p
      (kernel.Par par.Or 0 (block_of 0 (target_awaited s t p None target) (begun d) ∷ block_written s t a b (around_block 0 (target_awaited s t p None target) (begun d)) ∷ []))
      (block_passed s t a b (around_block 0 (target_awaited s t p None target) (begun d)))
  unfolding stmt_written
  written_watching a p target b d = refl

  pub written_async : (a : Around) (p : Pos) (xs : List Ident) (b : Block) (d : Draft) →
      stmt_written s t a p (stmt.Async xs b) d
      ≡ placed d.node p (kernel.Async (block_written s t a b (each name_passed xs (begun d)))) (block_passed s t a b (each name_passed xs (begun d)))
  unfolding stmt_written
  written_async a p xs b d = refl

  pub written_range : (a : Around) (p : Pos) (r : Range) (d : Draft) →
      stmt_written s t a p (stmt.Range r) d
      ≡ ranged s t a p r d
  unfolding stmt_written
  written_range a p r d = refl

  pub set_value : (a : Around) (p : Pos) (into : Loc) (e : Exp) (d : Draft) → source_written s t a p into (source.Value e) d ≡ assigned s t p into e d
  unfolding source_written
  set_value a p into e d = refl

  pub set_wait : (a : Around) (p : Pos) (into : Loc) (w : Await) (d : Draft) → source_written s t a p into (source.Wait w) d ≡ awaited s t p (Some into) w d
  unfolding source_written
  set_wait a p into w d = refl

  pub set_start : (a : Around) (p : Pos) (into : Loc) (x : Spawn) (d : Draft) → source_written s t a p into (source.Start x) d ≡ spawned s t (Some into.slot) x d
  unfolding source_written
  set_start a p into x d = refl

  pub set_done : (a : Around) (p : Pos) (into : Loc) (b : Do) (d : Draft) → source_written s t a p into (source.Done b) d ≡ do_written s t a p (Some into) b d
  unfolding source_written
  set_done a p into b d = refl

  -- ---- lists

  value_view : (a : Around) (p : Pos) (into : Loc) (v : Held-Item-value) (d : Draft) →
      value_written s t a p into v d ≡ if_source_written s t a p into (view-Item-value v) d
  unfolding value_written
  value_view a p into Item-value-None' d = refl
  value_view a p into (Item-value-Some' v) d = refl

  last_back : (a : Around) (b : Option Block) (d : Draft) → last_written s t a (back-Stmt-If-1 b) d ≡ if_block_written s t a b d
  unfolding last_written
  last_back a None d = refl
  last_back a (Some b) d = refl

  last_passed_back : (a : Around) (b : Option Block) (d : Draft) → last_passed s t a (back-Stmt-If-1 b) d ≡ if_block_passed s t a b d
  unfolding last_passed
  last_passed_back a None d = refl
  last_passed_back a (Some b) d = refl

  items_row : {n : _} (a : Around) (p : Pos) (ty : Ty) (r : Row_of-Item n) (d : Draft) →
      items_written s t a p ty r d ≡ each (item_step s t a p ty) (items-the_row-Item n r) d
  unfolding items_written each
  items_row a p ty end_of-Item d = refl
  items_row a p ty (more_of-Item x v rest) d =
      ap (items_written s t a p ty rest) (value_view a p (own d.parts.slot ty) v (declared (kind.Var ty) x d))
      ∙ items_row a p ty rest (if_source_written s t a p (own d.parts.slot ty) (view-Item-value v) (declared (kind.Var ty) x d))

  nodes_row : {n : _} (a : Around) (r : Row_of-Node n) (d : Draft) → nodes_written s t a r d ≡ each (node_step s t a) (items-the_row-Node n r) d
  unfolding nodes_written each
  nodes_row a end_of-Node d = refl
  nodes_row a (more_of-Node p st rest) d = nodes_row a rest (stmt_written s t a p st d)

  arms_row : {n : _} (a : Around) (r : Row_of-Arm n) (d : Draft) → arms_written s t a r d ≡ gathered (arm_written s t a) (arm_passed s t a) (items-the_row-Arm n r) d
  unfolding arms_written gathered
  arms_row a end_of-Arm d = refl
  arms_row a (more_of-Arm arm rest) d = ap (λ k. arm_written s t a arm d ∷ k) (arms_row a rest (arm_passed s t a arm d))

  arms_passed_row : {n : _} (a : Around) (r : Row_of-Arm n) (d : Draft) → arms_passed s t a r d ≡ each (arm_passed s t a) (items-the_row-Arm n r) d
  unfolding arms_passed each
  arms_passed_row a end_of-Arm d = refl
  arms_passed_row a (more_of-Arm arm rest) d = arms_passed_row a rest (arm_passed s t a arm d)

  blocks_row : {n : _} (a : Around) (r : Row_of-Block n) (d : Draft) →
      blocks_written s t a r d ≡ gathered (block_written s t a) (block_passed s t a) (items-the_row-Block n r) d
  unfolding blocks_written gathered
  blocks_row a end_of-Block d = refl
  blocks_row a (more_of-Block b rest) d = ap (λ k. block_written s t a b d ∷ k) (blocks_row a rest (block_passed s t a b d))

  blocks_passed_row : {n : _} (a : Around) (r : Row_of-Block n) (d : Draft) → blocks_passed s t a r d ≡ each (block_passed s t a) (items-the_row-Block n r) d
  unfolding blocks_passed each
  blocks_passed_row a end_of-Block d = refl
  blocks_passed_row a (more_of-Block b rest) d = blocks_passed_row a rest (block_passed s t a b d)

  pub written_vars : (a : Around) (p : Pos) (ty : Ty) (items : List Item) (d : Draft) → stmt_written s t a p (stmt.Vars ty items) d ≡ each (item_step s t a p ty) items d
  unfolding stmt_written
  written_vars a p ty items d =
      items_row a p ty (hidden-the_row-Item-0 items) d ∙ ap (λ xs. each (item_step s t a p ty) xs d) (items_hidden-the_row-Item-0 items)

  pub written_if : (a : Around) (p : Pos) (arms : List Arm) (last : Option Block) (d : Draft) →
      stmt_written s t a p (stmt.If arms last) d
      ≡ placed d.node p
      (kernel.If (gathered (arm_written s t a) (arm_passed s t a) arms (begun d)) (if_block_written s t a last (each (arm_passed s t a) arms (begun d))))
      (if_block_passed s t a last (each (arm_passed s t a) arms (begun d)))
  unfolding stmt_written
  written_if a p arms last d =
      let made = arms_row a (hidden-the_row-Arm-1 arms) (begun d) ∙ ap (λ xs. gathered (arm_written s t a) (arm_passed s t a) xs (begun d)) (items_hidden-the_row-Arm-1 arms) in
      let after = arms_passed_row a (hidden-the_row-Arm-1 arms) (begun d) ∙ ap (λ xs. each (arm_passed s t a) xs (begun d)) (items_hidden-the_row-Arm-1 arms) in
      simp (made, after, last_back, last_passed_back)

  pub written_par : (a : Around) (p : Pos) (k : ParKind) (bs : List Block) (d : Draft) →
      stmt_written s t a p (stmt.Par k bs) d
      ≡ placed d.node p
      (kernel.Par k (par_slot k (begun d).slot) (gathered (block_written s t a) (block_passed s t a) bs (hidden (par_hidden k (length bs)) (begun d))))
      (each (block_passed s t a) bs (hidden (par_hidden k (length bs)) (begun d)))
  unfolding stmt_written begun
  written_par a p k bs d =
      let row = hidden-the_row-Block-2 bs in
      let inside : ℕ → Draft = λ n. hidden (par_hidden k n) (begun d) in
      let count : row_blocks row ≡ length bs = blocks_counted row ∙ ap length (items_hidden-the_row-Block-2 bs) in
      let made : blocks_written s t a row (inside (row_blocks row)) ≡ gathered (block_written s t a) (block_passed s t a) bs (inside (length bs)) =
      blocks_row a row (inside (row_blocks row))
      ∙ ap (λ xs. gathered (block_written s t a) (block_passed s t a) xs (inside (row_blocks row))) (items_hidden-the_row-Block-2 bs)
      ∙ ap (λ n. gathered (block_written s t a) (block_passed s t a) bs (inside n)) count in
      let after : blocks_passed s t a row (inside (row_blocks row)) ≡ each (block_passed s t a) bs (inside (length bs)) =
      blocks_passed_row a row (inside (row_blocks row))
      ∙ ap (λ xs. each (block_passed s t a) xs (inside (row_blocks row))) (items_hidden-the_row-Block-2 bs)
      ∙ ap (λ n. each (block_passed s t a) bs (inside n)) count in
      ap (λ xs. placed d.node p (kernel.Par k (par_slot k d.slot) xs) (blocks_passed s t a row (inside (row_blocks row)))) made
      ∙ ap (placed d.node p (kernel.Par k (par_slot k d.slot) (gathered (block_written s t a) (block_passed s t a) bs (inside (length bs))))) after

  -- ---- structs

  pub written_block : (a : Around) (b : Block) (d : Draft) →
      block_written s t a b d ≡ block_of (declared_all (out-Block b).list) (each (node_step s t a) (out-Block b).list) d
  unfolding block_written out-Block Carrier.out
  written_block a (Block' x list) d =
      ap (λ n. block_of n (nodes_written s t a list) d) (nodes_counted list)
      ∙ ap (written (outside d)) (nodes_row a list (opened (declared_all (items-the_row-Node _ list)) d))
      ∙ ap (λ l. block_of (declared_all l) (each (node_step s t a) l) d) (sym (items_shown-the_row-Node-3 x list))

  pub passed_block : (a : Around) (b : Block) (d : Draft) →
      block_passed s t a b d ≡ around_block (declared_all (out-Block b).list) (each (node_step s t a) (out-Block b).list) d
  unfolding block_passed out-Block Carrier.out
  passed_block a (Block' x list) d =
      ap (λ n. around_block n (nodes_written s t a list) d) (nodes_counted list)
      ∙ ap (closed (outside d)) (nodes_row a list (opened (declared_all (items-the_row-Node _ list)) d))
      ∙ ap (λ l. around_block (declared_all l) (each (node_step s t a) l) d) (sym (items_shown-the_row-Node-3 x list))

  abbrev every_begun : Pos → Option Ident → Target → Draft → Draft
  every_begun p x target d = target_awaited s t p (if_variable s x d) target (if_used x d)

  abbrev every_parts : Around → (loop : ℕ) → Pos → Option Ident → Target → List Node → Draft → Draft
  every_parts a loop p x target list d = each (node_step s t (in_loop loop a)) list (every_begun p x target d)

  every_of_block : (a : Around) (loop : ℕ) (p : Pos) (x : Option Ident) (target : Target) (b : Block) (d : Draft) →
      every_written s t a loop p x target b d ≡ block_of (declared_all (out-Block b).list) (every_parts a loop p x target (out-Block b).list) d
  unfolding every_written out-Block Carrier.out
  every_of_block a loop p x target (Block' y list) d =
      ap (λ n. block_of n (λ inside. nodes_written s t (in_loop loop a) list (every_begun p x target inside)) d) (nodes_counted list)
      ∙ ap (written (outside d)) (nodes_row (in_loop loop a) list (every_begun p x target (opened (declared_all (items-the_row-Node _ list)) d)))
      ∙ ap (λ l. block_of (declared_all l) (every_parts a loop p x target l) d) (sym (items_shown-the_row-Node-3 y list))

  every_passed_block : (a : Around) (loop : ℕ) (p : Pos) (x : Option Ident) (target : Target) (b : Block) (d : Draft) →
      every_passed s t a loop p x target b d ≡ around_block (declared_all (out-Block b).list) (every_parts a loop p x target (out-Block b).list) d
  unfolding every_passed out-Block Carrier.out
  every_passed_block a loop p x target (Block' y list) d =
      ap (λ n. around_block n (λ inside. nodes_written s t (in_loop loop a) list (every_begun p x target inside)) d) (nodes_counted list)
      ∙ ap (closed (outside d)) (nodes_row (in_loop loop a) list (every_begun p x target (opened (declared_all (items-the_row-Node _ list)) d)))
      ∙ ap (λ l. around_block (declared_all l) (every_parts a loop p x target l) d) (sym (items_shown-the_row-Node-3 y list))

  pub written_every : (a : Around) (p : Pos) (x : Option Ident) (target : Target) (b : Block) (d : Draft) →
      stmt_written s t a p (stmt.Every x target b) d
      ≡ placed d.node p
      (kernel.Loop turns.Free (block_of (declared_all (out-Block b).list) (every_parts a d.node p x target (out-Block b).list) (begun d)))
      (around_block (declared_all (out-Block b).list) (every_parts a d.node p x target (out-Block b).list) (begun d))
  unfolding stmt_written
  written_every a p x target b d =
      ap (λ k. placed d.node p (kernel.Loop turns.Free k) (every_passed s t a d.node p x target b (begun d))) (every_of_block a d.node p x target b (begun d))
      ∙ ap (placed d.node p (kernel.Loop turns.Free (block_of (declared_all (out-Block b).list) (every_parts a d.node p x target (out-Block b).list) (begun d))))
      (every_passed_block a d.node p x target b (begun d))

  pub written_do_block : (a : Around) (p : Pos) (into : Option Loc) (b : Do) (d : Draft) →
      do_written s t a p into b d
      ≡ placed d.node p
      (kernel.Do into (block_written s t (in_do (out-Do b).label d.node a) (out-Do b).body (labelled (out-Do b).label d.node (begun d))))
      (unlabelled (out-Do b).label (block_passed s t (in_do (out-Do b).label d.node a) (out-Do b).body (labelled (out-Do b).label d.node (begun d))))
  unfolding do_written out-Do Carrier.out
  written_do_block a p into (Do' l b) d = refl

  pub written_ranged : (a : Around) (p : Pos) (r : Range) (d : Draft) →
      ranged s t a p r d
      ≡ placed d.node p
      (kernel.Loop (range_written s t (out-Range r).open_a (out-Range r).a (out-Range r).b (out-Range r).open_b (begun d))
      (block_written s t (in_loop d.node a) (out-Range r).body (range_passed (out-Range r).a (out-Range r).b (begun d))))
      (block_passed s t (in_loop d.node a) (out-Range r).body (range_passed (out-Range r).a (out-Range r).b (begun d)))
  unfolding ranged out-Range Carrier.out
  written_ranged a p (Range' x open_a low high open_b b) d = refl

  pub written_arm : (a : Around) (arm : Arm) (d : Draft) →
      arm_written s t a arm d
      ≡ roll-KArm (record { cond = exp_written s t (out-Arm arm).cond d; body = block_written s t a (out-Arm arm).body (exp_passed (out-Arm arm).cond d) })
  unfolding arm_written out-Arm roll-KArm Carrier.out Carrier.roll
  written_arm a (Arm' c b) d = refl

  pub passed_arm : (a : Around) (arm : Arm) (d : Draft) →
      arm_passed s t a arm d ≡ block_passed s t a (out-Arm arm).body (exp_passed (out-Arm arm).cond d)
  unfolding arm_passed out-Arm Carrier.out
  passed_arm a (Arm' c b) d = refl

pub ruleset forms = (written_nothing, written_break, written_continue, written_aliasdecl, written_events, written_inputs, written_outputs, written_pool, written_code, written_assign, written_emit, written_await, written_spawn, written_kill, written_escape, written_do, written_finalize, written_loop, written_watching, written_async, written_range, set_value, set_wait, set_start, set_done, written_vars, written_if, written_par, written_block, passed_block, written_every, written_do_block, written_ranged, written_arm, passed_arm)
