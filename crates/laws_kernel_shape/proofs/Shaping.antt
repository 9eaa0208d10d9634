-- The kernel of a program takes over positions, ranges and branches.
use Rattle.std.proofs.Common.{◌≡◌, refl, subst, ℕ, ◌≤◌, length, arith, List, [], ◌∷◌, Option, Some, None, Bool, true, false}
use Rattle.ceu_base.specs.declared.kinds.Ty.{Ty}
use Rattle.ceu_base.specs.declared.kinds.Pos.{Pos}
use Rattle.ceu_tree.specs.declared.source.Ident.{Ident}
use Rattle.ceu_tree.specs.declared.source.Param.{Param}
use Rattle.ceu_tree.specs.declared.source.Call.{Call}
use Rattle.ceu_tree.specs.declared.source.Spawn.{Spawn}
use Rattle.ceu_tree.specs.declared.source.Target.{Target}
use Rattle.ceu_tree.specs.declared.source.Target.TheVariants as target
use Rattle.ceu_tree.specs.declared.source.Await.{Await}
use Rattle.ceu_tree.specs.declared.source.Await.TheVariants as await
use Rattle.ceu_tree.specs.declared.source.Exp.{Exp}
use Rattle.ceu_tree.specs.declared.source.Source as source
use Rattle.ceu_tree.specs.declared.source.Source.{Source}
use Rattle.ceu_tree.specs.declared.source.Item.{Held-Item-value, Item-value-None', Item-value-Some'}
use Rattle.ceu_tree.specs.declared.source.Do.{Do, Do'}
use Rattle.ceu_tree.specs.declared.source.Block.{Block, Block', Row_of-Node, end_of-Node, more_of-Node}
use Rattle.ceu_tree.specs.declared.source.Arm.{Arm, Arm'}
use Rattle.ceu_tree.specs.declared.source.Range.{Range, Range'}
use Rattle.ceu_tree.specs.declared.source.Stmt as stmt
use Rattle.ceu_tree.specs.declared.source.Stmt.{Stmt, Vars', If', Par', Row_of-Item, end_of-Item, more_of-Item, Row_of-Arm, end_of-Arm, more_of-Arm, Row_of-Block, end_of-Block, more_of-Block, Held-Stmt-If-1, Stmt-If-1-None', Stmt-If-1-Some'}
use Rattle.ceu_tree.specs.declared.source.Tree.{Tree}
use Rattle.ceu_tree.specs.declared.kernel.Loc.{Loc}
use Rattle.ceu_tree.specs.declared.kernel.KKind.TheVariants as kind
use Rattle.ceu_tree.specs.declared.kernel.KLoop.TheVariants as turns
use Rattle.ceu_tree.specs.declared.kernel.ParKind.{ParKind}
use Rattle.ceu_tree.specs.declared.kernel.ParKind.TheVariants as par
use Rattle.ceu_tree.specs.declared.kernel.KArm.{KArm'}
use Rattle.ceu_tree.specs.declared.kernel.KBlock.{KBlock}
use Rattle.ceu_tree.specs.declared.kernel.KStmt as kernel
use Rattle.ceu_tree.specs.declared.kernel.KStmt.{KStmt}
use Rattle.ceu_scopes.specs.declared.known.Scopes.{Scopes}
use Rattle.ceu_types.specs.declared.typing.Types.{Types}
use Rattle.ceu_expand.specs.declared.around.Around.{Around}
use Rattle.ceu_expand.specs.declared.draft.Draft.{Draft}
use Rattle.ceu_expand.specs.Draft.{of_program, in_loop, in_do, nothing_written, begun, hidden, opened, block_of, around_block, standing, declared, event_declared, own, entered, left, with_code, labelled, unlabelled}
use Rattle.ceu_expand.specs.Lists.{each}
use Rattle.ceu_expand.specs.Uses.{names_output, use_number, variable, used, if_variable, if_used}
use Rattle.ceu_expand.specs.Expressions.{exp_passed, if_exp_passed, exp_written, if_exp_written}
use Rattle.ceu_expand.specs.Parts.{simple, nothing_in, assigned, sent, emitted, escaped, await_written, target_passed, target_awaited, broken_if, awaited_and_asked, awaited_until, code_awaited, awaited, spawned, started, alias_declared, pool_declared, killed, param_declared, name_passed}
use Rattle.ceu_expand.specs.Expansion.{row_blocks, par_hidden, par_slot, turns_written, turns_passed, range_hidden, range_written, range_passed, declared_in, code_begun, code_around, code_ended, stmt_written, source_written, value_written, do_written, ranged, every_written, every_passed, block_written, block_passed, arm_written, arm_passed, last_written, last_passed, nodes_written, items_written, arms_written, arms_passed, blocks_written, blocks_passed, counted, begun_program, kernel_of}
use Rattle.laws_kernel_shape.specs.Shaped.{AllOf, IsPlace, InRange, TurnsShaped, ParShaped, StmtShaped, BlockShaped, ArmShaped, CodeShaped, KernelShaped, NamePlaced, ParamPlaced, StartPlaced, LimitInRange, Placed, SourcePlaced, ValuePlaced, DoPlaced, BlockPlaced, ArmPlaced, LastPlaced, RangePlaced, ItemsPlaced, ArmsPlaced, BlocksPlaced, NodesPlaced, TreePlaced}
use Rattle.laws_kernel_shape.proofs.Good.{Good, all_append, if_shaped, par_shaped, good_used, good_if_used, good_begun, good_hidden, good_standing, good_labelled, good_unlabelled, good_exp, good_if_exp, good_each, good_exps, good_target, good_declared, good_event, good_inputs, good_outputs, good_placed, good_opened, good_written, good_closed, good_empty, good_empty_closed}

-- ---- statements without blocks of their own

simple_good : (p : Pos) (st : KStmt) (d : Draft) → IsPlace p → StmtShaped st → Good d → Good (simple p st d)
simple_good p st d h k g = good_placed d.node p st (begun d) h k (good_begun d g)

module _ (s : Scopes) (t : Types) where
  sent_shaped : (b : Bool) (n : ℕ) (e : Option Exp) (d : Draft) → StmtShaped (sent s t b n e d)
  unfolding StmtShaped
  sent_shaped true n e d = tt
  sent_shaped false n e d = tt

  await_shaped : (p : Pos) (into : Option Loc) (x : Target) (d : Draft) → StmtShaped (await_written s t p into x d)
  unfolding await_written StmtShaped
  await_shaped p into (target.Ext x) d = tt
  await_shaped p into (target.Event x) d = tt
  await_shaped p into (target.Time us) d = tt
  await_shaped p into (target.TimeExp e u) d = tt

  assigned_good : (p : Pos) (into : Loc) (e : Exp) (d : Draft) → IsPlace p → Good d → Good (assigned s t p into e d)
  unfolding StmtShaped
  assigned_good p into e d h g = good_placed d.node p (kernel.Assign into (exp_written s t e (begun d))) (exp_passed e (begun d)) h tt (good_exp e (begun d) (good_begun d g))

  emitted_good : (p : Pos) (e : Option Exp) (d : Draft) → IsPlace p → Good d → Good (emitted s t p e d)
  unfolding emitted
  emitted_good p e d h g =
      good_placed d.node p _ (if_exp_passed e (used (begun d))) h (sent_shaped (names_output s (begun d).uses) (use_number s (begun d)) e (used (begun d)))
      (good_if_exp e (used (begun d)) (good_used (begun d) (good_begun d g)))

  escaped_good : (a : Around) (p : Pos) (l : Option Ident) (e : Option Exp) (d : Draft) → IsPlace p → Good d → Good (escaped s t a p l e d)
  unfolding escaped StmtShaped
  escaped_good a p l e d h g = good_placed d.node p (kernel.Escape _ (if_exp_written s t e (begun d))) (if_exp_passed e (begun d)) h tt (good_if_exp e (begun d) (good_begun d g))

  target_good : (p : Pos) (into : Option Loc) (x : Target) (d : Draft) → IsPlace p → Good d → Good (target_awaited s t p into x d)
  unfolding target_awaited
  target_good p into x d h g = good_placed d.node p (await_written s t p into x (begun d)) (target_passed x (begun d)) h (await_shaped p into x (begun d)) (good_target x (begun d) (good_begun d g))

  breaking_good : (loop : ℕ) (p : Pos) (d : Draft) → IsPlace p → Good d → Good (simple p (kernel.Break loop) d)
  unfolding StmtShaped
  breaking_good loop p d h g = simple_good p (kernel.Break loop) d h tt g

  broken_good : (loop : ℕ) (p : Pos) (c : Exp) (d : Draft) → IsPlace p → Good d → Good (broken_if s t loop p c d)
  unfolding broken_if StmtShaped
  broken_good loop p c d h g =
      let break = simple p (kernel.Break loop) in
      let after = exp_passed c (begun d) in
      let good : Good after = good_exp c (begun d) (good_begun d g) in
      let inside : Good (break (opened 0 after)) = breaking_good loop p (opened 0 after) h (good_opened 0 after good) in
      let behind : Good (around_block 0 break after) = good_closed 0 break after good inside in
      good_placed d.node p (kernel.If (KArm' (exp_written s t c (begun d)) (block_of 0 break after) ∷ []) (block_of 0 nothing_in (around_block 0 break after)))
      (around_block 0 nothing_in (around_block 0 break after)) h
      (if_shaped (KArm' (exp_written s t c (begun d)) (block_of 0 break after) ∷ []) (block_of 0 nothing_in (around_block 0 break after)) (good_written 0 break after inside, tt) (good_empty (around_block 0 break after) behind))
      (good_empty_closed (around_block 0 break after) behind)

  until_good : (p : Pos) (into : Option Loc) (x : Target) (c : Exp) (d : Draft) → IsPlace p → Good d → Good (awaited_until s t p into x c d)
  unfolding awaited_until StmtShaped
  until_good p into x c d h g =
      let body = awaited_and_asked s t d.node p into x c in
      let begin : Good (opened 0 (begun d)) = good_opened 0 (begun d) (good_begun d g) in
      let inside : Good (body (opened 0 (begun d))) =
      broken_good d.node p c (target_awaited s t p into x (opened 0 (begun d))) h (target_good p into x (opened 0 (begun d)) h begin) in
      good_placed d.node p (kernel.Loop turns.Free (block_of 0 body (begun d))) (around_block 0 body (begun d)) h
      (tt, good_written 0 body (begun d) inside) (good_closed 0 body (begun d) (good_begun d g) inside)

  code_good : (p : Pos) (into : Option Loc) (c : Call) (d : Draft) → IsPlace p → Good d → Good (code_awaited s t p into c d)
  unfolding code_awaited StmtShaped
  code_good p into c d h g =
      let inside = used (hidden 1 (begun d)) in
      good_placed d.node p _ (each exp_passed c.args inside) h tt (good_exps c.args inside (good_used (hidden 1 (begun d)) (good_hidden 1 (begun d) (good_begun d g))))

  awaited_good : (p : Pos) (into : Option Loc) (w : Await) (d : Draft) → IsPlace p → Good d → Good (awaited s t p into w d)
  unfolding awaited StmtShaped
  awaited_good p into await.Forever d h g = simple_good p kernel.Forever d h tt g
  awaited_good p into (await.Code c) d h g = code_good p into c d h g
  awaited_good p into (await.On x None) d h g = target_good p into x d h g
  awaited_good p into (await.On x (Some c)) d h g = until_good p into x c d h g

  spawned_good : (alias : Option ℕ) (x : Spawn) (d : Draft) → IsPlace x.pos → Good d → Good (spawned s t alias x d)
  unfolding spawned StmtShaped
  spawned_good alias x d h g =
      let inside = used (begun d) in
      good_placed d.node x.pos _ (used (each exp_passed x.call.args inside)) h tt
      (good_used (each exp_passed x.call.args inside) (good_exps x.call.args inside (good_used (begun d) (good_begun d g))))

  started_good : (p : Pos) (alias : ℕ) (x : Option Spawn) (d : Draft) → IsPlace p → StartPlaced x → Good d → Good (started s t p alias x d)
  unfolding StmtShaped
  started_good p alias None d h k g = simple_good p (kernel.Unset alias) d h tt g
  started_good p alias (Some x) d h k g = spawned_good (Some alias) x d k g

  alias_good : (p : Pos) (x : Ident) (start : Option Spawn) (d : Draft) → IsPlace p → IsPlace x.pos → StartPlaced start → Good d → Good (alias_declared s t p x start d)
  unfolding alias_declared
  alias_good p x start d h k l g =
      started_good p d.parts.slot start (declared (kind.Alias (use_number s d)) x (used d)) h l (good_declared (kind.Alias (use_number s d)) x (used d) k tt (good_used d g))

  pool_good : (places : ℕ) (x : Ident) (d : Draft) → IsPlace x.pos → InRange places → Good d → Good (pool_declared s places x d)
  unfolding pool_declared
  pool_good places x d h k g = good_declared (kind.Pool places (use_number s d)) x (used d) h k (good_used d g)

  killed_good : (p : Pos) (d : Draft) → IsPlace p → Good d → Good (killed s p d)
  unfolding killed StmtShaped
  killed_good p d h g = good_placed d.node p (kernel.Kill (use_number s (begun d))) (used (begun d)) h tt (good_used (begun d) (good_begun d g))

  -- ---- loops, par, code

  names_good : (xs : List Ident) (d : Draft) → Good d → Good (each name_passed xs d)
  unfolding each
  names_good [] d g = g
  names_good (x ∷ xs) d g = names_good xs (used d) (good_used d g)

  turns_good : (limit : Option ℕ) (d : Draft) → LimitInRange limit → Good d → TurnsShaped (turns_written limit d) × Good (turns_passed limit d)
  unfolding turns_written turns_passed
  turns_good None d h g = (tt, g)
  turns_good (Some n) d h g = (h, good_hidden 1 d g)

  range_good : (open_a : Bool) (a b : Exp) (open_b : Bool) (d : Draft) → Good d → TurnsShaped (range_written s t open_a a b open_b d) × Good (range_passed a b d)
  unfolding range_written range_passed
  range_good open_a a b open_b d g =
      let inside = range_hidden d in (
        tt,
        good_standing d.slot (exp_passed b (exp_passed a inside))
            (good_exp b (exp_passed a inside) (good_exp a inside (good_hidden 1 _ (good_hidden 1 _ (good_hidden 1 d g))))),
      )

  par_fits : (k : ParKind) (slot n : ℕ) → 2 ≤ n → ParShaped k (par_slot k slot) n
  unfolding par_slot
  par_fits par.And slot n h = h
  par_fits par.Or slot n h = (h, refl)
  par_fits par.Never slot n h = (h, refl)

  blocks_counted : {n : _} (a : Around) (r : Row_of-Block n) (d : Draft) → row_blocks r ≡ length (blocks_written s t a r d)
  unfolding stmt_written
  blocks_counted a end_of-Block d = refl
  blocks_counted a (more_of-Block b rest) d = let e = blocks_counted a rest (block_passed s t a b d) in omega (arith, e)

  entered_good : (n : ℕ) (d : Draft) → Good d → Good (entered n d)
  unfolding entered
  entered_good n d g = record { decls = tt; list = tt; codes = g.codes; events = g.events }

  begun_good : (ps : List Param) (d : Draft) → AllOf ParamPlaced ps → Good d → Good (code_begun ps d)
  unfolding code_begun
  begun_good ps d h g =
      good_each ParamPlaced param_declared (λ x e p k. good_declared (kind.Var x.ty) x.name e p tt k) ps (entered (length ps) (standing (length d.codes) d)) h
      (entered_good (length ps) (standing (length d.codes) d) (good_standing (length d.codes) d g))

  ended_good : (x : Ident) (result : Ty) (body : KBlock) (d e : Draft) → BlockShaped body → Good d → Good e → Good (code_ended x result body d.parts e)
  unfolding code_ended with_code left
  ended_good x result body d e h g k =
      record { decls = g.decls; list = g.list; codes = all_append CodeShaped e.codes _ k.codes (k.decls, h); events = k.events }

  -- ---- statements

  mutual
    unfolding Placed StmtShaped stmt_written

    stmt_good : (a : Around) (p : Pos) (st : Stmt) → IsPlace p → Placed st → (d : Draft) → Good d → Good (stmt_written s t a p st d)
    stmt_good a p stmt.Nothing h k d g = simple_good p kernel.Nothing d h tt g
    stmt_good a p stmt.Break h k d g = simple_good p (kernel.Break a.turns) d h tt g
    stmt_good a p stmt.Continue h k d g = simple_good p (kernel.Continue a.turns) d h tt g
    stmt_good a p (Vars' ty _ items) h k d g = items_good a p ty items h k d g
    stmt_good a p (stmt.AliasDecl code x start) h k d g = alias_good p x start d h k.0 k.1 g
    stmt_good a p (stmt.Events ty xs) h k d g = good_each NamePlaced (event_declared a.code ty) (λ x e. good_event a.code ty x e) xs d k g
    stmt_good a p (stmt.Inputs ty xs) h k d g = good_inputs ty xs d g
    stmt_good a p (stmt.Outputs ty xs) h k d g = good_outputs ty xs d g
    stmt_good a p (stmt.Pool n code x) h k d g = pool_good n x d k.0 k.1 g
    stmt_good a p (stmt.Code x ps result b) h k d g =
        let inside = code_begun ps d in
        let body = block_good (code_around inside) b k.1 inside (begun_good ps d k.0 g) in
        ended_good x result (block_written s t (code_around inside) b inside) d (block_passed s t (code_around inside) b inside) body.0 g body.1
    stmt_good a p (stmt.Assign x v) h k d g = source_good a p (variable s x d) v h k (used d) (good_used d g)
    stmt_good a p (stmt.Emit x e) h k d g = emitted_good p e d h g
    stmt_good a p (stmt.Await w) h k d g = awaited_good p None w d h g
    stmt_good a p (stmt.Spawn x) h k d g = spawned_good None x d k g
    stmt_good a p (stmt.Kill x) h k d g = killed_good p d h g
    stmt_good a p (stmt.Escape l e) h k d g = escaped_good a p l e d h g
    stmt_good a p (stmt.Do b) h k d g = do_good a p None b h k d g
    stmt_good a p (stmt.Finalize b) h k d g =
        let body = block_good a b k (begun d) (good_begun d g) in
        good_placed d.node p (kernel.Finalize (block_written s t a b (begun d))) (block_passed s t a b (begun d)) h body.0 body.1
    stmt_good a p (If' _ arms last) h k d g =
        let first = arms_good a arms k.0 (begun d) (good_begun d g) in
        let rest = last_good a last k.1 (arms_passed s t a arms (begun d)) first.1 in
        good_placed d.node p _ (last_passed s t a last (arms_passed s t a arms (begun d))) h (if_shaped (arms_written s t a arms (begun d)) (last_written s t a last (arms_passed s t a arms (begun d))) first.0 rest.0) rest.1
    stmt_good a p (stmt.Loop limit b) h k d g =
        let first = turns_good limit (begun d) k.0 (good_begun d g) in
        let inside = turns_passed limit (begun d) in
        let body = block_good (in_loop d.node a) b k.1 inside first.1 in
        good_placed d.node p (kernel.Loop (turns_written limit (begun d)) (block_written s t (in_loop d.node a) b inside)) (block_passed s t (in_loop d.node a) b inside) h (first.0, body.0) body.1
    stmt_good a p (stmt.Range r) h k d g = ranged_good a p r h k d g
    stmt_good a p (stmt.Every x target b) h k d g =
        let body = every_good a d.node p x target b h k (begun d) (good_begun d g) in
        good_placed d.node p (kernel.Loop turns.Free (every_written s t a d.node p x target b (begun d))) (every_passed s t a d.node p x target b (begun d)) h (tt, body.0) body.1
    stmt_good a p (stmt.Watching target b) h k d g =
        let wait = target_awaited s t p None target in
        let begin : Good (begun d) = good_begun d g in
        let first : Good (wait (opened 0 (begun d))) = target_good p None target (opened 0 (begun d)) h (good_opened 0 (begun d) begin) in
        let inside = around_block 0 wait (begun d) in
        let body = block_good a b k inside (good_closed 0 wait (begun d) begin first) in
        let made = block_of 0 wait (begun d) ∷ block_written s t a b inside ∷ [] in
        good_placed d.node p (kernel.Par par.Or 0 made) (block_passed s t a b inside) h (par_shaped par.Or 0 made (omega arith, refl) (good_written 0 wait (begun d) first, (body.0, tt))) body.1
    stmt_good a p (Par' kind _ bs) h k d g =
        let inside = hidden (par_hidden kind (row_blocks bs)) (begun d) in
        let made = blocks_written s t a bs inside in
        let parts = blocks_good a bs k.1 inside (good_hidden (par_hidden kind (row_blocks bs)) (begun d) (good_begun d g)) in
        good_placed d.node p (kernel.Par kind (par_slot kind d.slot) made) (blocks_passed s t a bs inside) h
        (par_shaped kind (par_slot kind d.slot) made (par_fits kind d.slot (length made) (subst (λ n. 2 ≤ n) (blocks_counted a bs inside) k.0)) parts.0) parts.1
    stmt_good a p (stmt.Async xs b) h k d g =
        let inside = each name_passed xs (begun d) in
        let body = block_good a b k inside (names_good xs (begun d) (good_begun d g)) in
        good_placed d.node p (kernel.Async (block_written s t a b inside)) (block_passed s t a b inside) h body.0 body.1

    source_good : (a : Around) (p : Pos) (into : Loc) (v : Source) → IsPlace p → SourcePlaced v → (d : Draft) → Good d → Good (source_written s t a p into v d)
    source_good a p into (source.Value e) h k d g = assigned_good p into e d h g
    source_good a p into (source.Wait w) h k d g = awaited_good p (Some into) w d h g
    source_good a p into (source.Start x) h k d g = spawned_good (Some into.slot) x d k g
    source_good a p into (source.Done b) h k d g = do_good a p (Some into) b h k d g

    value_good : (a : Around) (p : Pos) (into : Loc) (v : Held-Item-value) → IsPlace p → ValuePlaced v → (d : Draft) → Good d → Good (value_written s t a p into v d)
    value_good a p into Item-value-None' h k d g = simple_good p _ d h tt g
    value_good a p into (Item-value-Some' v) h k d g = source_good a p into v h k d g

    do_good : (a : Around) (p : Pos) (into : Option Loc) (b : Do) → IsPlace p → DoPlaced b → (d : Draft) → Good d → Good (do_written s t a p into b d)
    do_good a p into (Do' l b) h k d g =
        let inside = labelled l d.node (begun d) in
        let body = block_good (in_do l d.node a) b k inside (good_labelled l d.node (begun d) (good_begun d g)) in
        let after = block_passed s t (in_do l d.node a) b inside in
        good_placed d.node p (kernel.Do into (block_written s t (in_do l d.node a) b inside)) (unlabelled l after) h body.0 (good_unlabelled l after body.1)

    ranged_good : (a : Around) (p : Pos) (r : Range) → IsPlace p → RangePlaced r → (d : Draft) → Good d → Good (ranged s t a p r d)
    ranged_good a p (Range' x open_a low high open_b b) h k d g =
        let first = range_good open_a low high open_b (begun d) (good_begun d g) in
        let inside = range_passed low high (begun d) in
        let body = block_good (in_loop d.node a) b k inside first.1 in
        good_placed d.node p (kernel.Loop (range_written s t open_a low high open_b (begun d)) (block_written s t (in_loop d.node a) b inside)) (block_passed s t (in_loop d.node a) b inside) h (first.0, body.0) body.1

    every_good : (a : Around) (loop : ℕ) (p : Pos) (x : Option Ident) (target : Target) (b : Block) → IsPlace p → BlockPlaced b → (d : Draft) → Good d →
        BlockShaped (every_written s t a loop p x target b d) × Good (every_passed s t a loop p x target b d)
    every_good a loop p x target (Block' _ list) h k d g =
        let f : Draft → Draft = λ inside. nodes_written s t (in_loop loop a) list (target_awaited s t p (if_variable s x inside) target (if_used x inside)) in
        let begin : Draft = opened (declared_in list) d in
        let all : Good (f begin) =
        nodes_good (in_loop loop a) list k (target_awaited s t p (if_variable s x begin) target (if_used x begin))
        (target_good p (if_variable s x begin) target (if_used x begin) h (good_if_used x begin (good_opened (declared_in list) d g))) in
        (good_written (declared_in list) f d all, good_closed (declared_in list) f d g all)

    block_good : (a : Around) (b : Block) → BlockPlaced b → (d : Draft) → Good d → BlockShaped (block_written s t a b d) × Good (block_passed s t a b d)
    block_good a (Block' _ list) k d g =
        let all : Good (nodes_written s t a list (opened (declared_in list) d)) = nodes_good a list k (opened (declared_in list) d) (good_opened (declared_in list) d g) in
        (good_written (declared_in list) (nodes_written s t a list) d all, good_closed (declared_in list) (nodes_written s t a list) d g all)

    arm_good : (a : Around) (arm : Arm) → ArmPlaced arm → (d : Draft) → Good d → ArmShaped (arm_written s t a arm d) × Good (arm_passed s t a arm d)
    arm_good a (Arm' c b) k d g = block_good a b k (exp_passed c d) (good_exp c d g)

    last_good : (a : Around) (b : Held-Stmt-If-1) → LastPlaced b → (d : Draft) → Good d → BlockShaped (last_written s t a b d) × Good (last_passed s t a b d)
    last_good a Stmt-If-1-None' k d g = (good_empty d g, good_empty_closed d g)
    last_good a (Stmt-If-1-Some' b) k d g = block_good a b k d g

    nodes_good : {n : _} (a : Around) (r : Row_of-Node n) → NodesPlaced r → (d : Draft) → Good d → Good (nodes_written s t a r d)
    nodes_good a end_of-Node k d g = g
    nodes_good a (more_of-Node p st rest) k d g = nodes_good a rest k.1 (stmt_written s t a p st d) (stmt_good a p st k.0.0 k.0.1 d g)

    items_good : {n : _} (a : Around) (p : Pos) (ty : Ty) (r : Row_of-Item n) → IsPlace p → ItemsPlaced r → (d : Draft) → Good d → Good (items_written s t a p ty r d)
    items_good a p ty end_of-Item h k d g = g
    items_good a p ty (more_of-Item x v rest) h k d g =
        let first = declared (kind.Var ty) x d in
        items_good a p ty rest h k.1 (value_written s t a p (own d.parts.slot ty) v first)
        (value_good a p (own d.parts.slot ty) v h k.0.1 first (good_declared (kind.Var ty) x d k.0.0 tt g))

    arms_good : {n : _} (a : Around) (r : Row_of-Arm n) → ArmsPlaced r → (d : Draft) → Good d → AllOf ArmShaped (arms_written s t a r d) × Good (arms_passed s t a r d)
    arms_good a end_of-Arm k d g = (tt, g)
    arms_good a (more_of-Arm arm rest) k d g =
        let first = arm_good a arm k.0 d g in
        let behind = arms_good a rest k.1 (arm_passed s t a arm d) first.1 in
        ((first.0, behind.0), behind.1)

    blocks_good : {n : _} (a : Around) (r : Row_of-Block n) → BlocksPlaced r → (d : Draft) → Good d → AllOf BlockShaped (blocks_written s t a r d) × Good (blocks_passed s t a r d)
    blocks_good a end_of-Block k d g = (tt, g)
    blocks_good a (more_of-Block b rest) k d g =
        let first = block_good a b k.0 d g in
        let behind = blocks_good a rest k.1 (block_passed s t a b d) first.1 in
        ((first.0, behind.0), behind.1)

  empty_good : (n m : ℕ) → Good (nothing_written n m)
  unfolding nothing_written
  empty_good n m = record { decls = tt; list = tt; codes = tt; events = tt }

  pub shaped : (tree : Tree) → TreePlaced tree → KernelShaped (kernel_of s t tree)
  unfolding kernel_of
  shaped tree h =
      let d = begun_program s t tree.body in
      let all = block_good of_program tree.body h d (empty_good (counted s t tree.body).node (counted s t tree.body).slot) in
      (all.0, all.1.codes, all.1.events)
