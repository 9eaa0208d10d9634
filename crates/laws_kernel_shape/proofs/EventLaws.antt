-- The events of a program belong to its codes.
use Rattle.std.proofs.Common.{◌≡◌, refl, sym, ap, ◌∙◌, subst, ℕ, ◌+◌, ◌<◌, length, arith, List, [], ◌∷◌, ◌++◌, Option, Some, None}
use Rattle.ceu_base.specs.declared.kinds.Ty.{Ty}
use Rattle.ceu_base.specs.declared.kinds.Pos.{Pos}
use Rattle.ceu_tree.specs.declared.source.Ident.{Ident}
use Rattle.ceu_tree.specs.declared.source.Param.{Param}
use Rattle.ceu_tree.specs.declared.source.Call.{Call}
use Rattle.ceu_tree.specs.declared.source.Spawn.{Spawn}
use Rattle.ceu_tree.specs.declared.source.Target.{Target}
use Rattle.ceu_tree.specs.declared.source.Await.{Await}
use Rattle.ceu_tree.specs.declared.source.Await.TheVariants as await
use Rattle.ceu_tree.specs.declared.source.Exp.{Exp}
use Rattle.ceu_tree.specs.declared.source.Source as source
use Rattle.ceu_tree.specs.declared.source.Source.{Source}
use Rattle.ceu_tree.specs.declared.source.Item.{Held-Item-value, Item-value-None', Item-value-Some'}
use Rattle.ceu_tree.specs.declared.source.Do.{Do, Do'}
use Rattle.ceu_tree.specs.declared.source.Block.{Block, Block', Row_of-Node, end_of-Node, more_of-Node}
use Rattle.ceu_tree.specs.declared.source.Arm.{Arm, Arm'}
use Rattle.ceu_tree.specs.declared.source.Range.{Range, Range'}
use Rattle.ceu_tree.specs.declared.source.Stmt as stmt
use Rattle.ceu_tree.specs.declared.source.Stmt.{Stmt, Vars', If', Par', Row_of-Item, end_of-Item, more_of-Item, Row_of-Arm, end_of-Arm, more_of-Arm, Row_of-Block, end_of-Block, more_of-Block, Held-Stmt-If-1, Stmt-If-1-None', Stmt-If-1-Some'}
use Rattle.ceu_tree.specs.declared.source.Tree.{Tree}
use Rattle.ceu_tree.specs.declared.kernel.Loc.{Loc}
use Rattle.ceu_tree.specs.declared.kernel.KKind.TheVariants as kind
use Rattle.ceu_tree.specs.declared.kernel.KStmt as kernel
use Rattle.ceu_tree.specs.declared.kernel.KStmt.{KStmt}
use Rattle.ceu_tree.specs.declared.kernel.KEvent.{KEvent}
use Rattle.ceu_tree.specs.declared.source.Label.TheVariants as label
use Rattle.ceu_scopes.specs.declared.known.Scopes.{Scopes}
use Rattle.ceu_types.specs.declared.typing.Types.{Types}
use Rattle.ceu_expand.specs.declared.around.Around.{Around}
use Rattle.ceu_expand.specs.declared.draft.Draft.{Draft}
use Rattle.ceu_expand.specs.Draft.{of_program, outside, closed, in_loop, in_do, nothing_written, begun, hidden, opened, placed, around_block, standing, declared, event_declared, input_declared, output_declared, own, entered, left, with_code, labelled, unlabelled}
use Rattle.ceu_expand.specs.Lists.{each}
use Rattle.ceu_expand.specs.Uses.{use_number, variable, used, if_variable, if_used}
use Rattle.ceu_expand.specs.Expressions.{exp_passed, if_exp_passed, exp_written}
use Rattle.ceu_expand.specs.Parts.{simple, nothing_in, emitted, escaped, await_written, target_passed, target_awaited, broken_if, awaited_and_asked, awaited_until, code_awaited, awaited, spawned, started, alias_declared, pool_declared, killed, param_declared, name_passed}
use Rattle.ceu_expand.specs.Expansion.{row_blocks, par_hidden, turns_passed, range_hidden, range_passed, declared_in, code_begun, code_around, code_ended, stmt_written, source_written, value_written, do_written, ranged, every_passed, block_passed, arm_passed, last_passed, nodes_written, items_written, arms_passed, blocks_passed, counted, kernel_of}
use Rattle.laws_kernel_shape.specs.Shaped.{AllOf}
use Rattle.laws_kernel_shape.specs.Events.{CodeBelow, EventBelow, EventsInCodes}
use Rattle.laws_kernel_shape.proofs.Codes.{NoCode, NoCodeInSource, NoCodeInValue, NoCodeInDo, NoCodeInBlock, NoCodeInArm, NoCodeInLast, NoCodeInRange, NoCodeInItems, NoCodeInArms, NoCodeInBlocks, NoCodeInNodes, Outermost, OutermostNodes, OutermostBlock, CodesOutermost}
use Rattle.laws_kernel_shape.proofs.Wrote.{stmt_wrote, block_in}
use Rattle.laws_kernel_shape.proofs.Whole.{bare, params_are}
use Rattle.laws_kernel_shape.proofs.Below.{Below, below_used, below_begun, below_hidden, below_standing, below_declared, below_input, below_output, below_placed, below_opened, below_closed, below_event, below_if_used, below_labelled, below_unlabelled, below_exp, below_if_exp, below_each, below_target}

module _ (m : ℕ) (s : Scopes) (t : Types) where
  simple_below : (p : Pos) (st : KStmt) (d : Draft) → Below m d → Below m (simple p st d)
  simple_below p st d g = below_placed m d.node p st (begun d) (below_begun m d g)

  exp_below : (p : Pos) (st : KStmt) (e : Exp) (d : Draft) → Below m d → Below m (placed d.node p st (exp_passed e (begun d)))
  exp_below p st e d g = below_placed m d.node p st (exp_passed e (begun d)) (below_exp m e (begun d) (below_begun m d g))

  emitted_below : (p : Pos) (e : Option Exp) (d : Draft) → Below m d → Below m (emitted s t p e d)
  unfolding emitted
  emitted_below p e d g = below_placed m d.node p _ (if_exp_passed e (used (begun d))) (below_if_exp m e (used (begun d)) (below_used m (begun d) (below_begun m d g)))

  escaped_below : (a : Around) (p : Pos) (l : Option Ident) (e : Option Exp) (d : Draft) → Below m d → Below m (escaped s t a p l e d)
  unfolding escaped
  escaped_below a p l e d g = below_placed m d.node p _ (if_exp_passed e (begun d)) (below_if_exp m e (begun d) (below_begun m d g))

  target_below : (p : Pos) (into : Option Loc) (x : Target) (d : Draft) → Below m d → Below m (target_awaited s t p into x d)
  unfolding target_awaited
  target_below p into x d g = below_placed m d.node p (await_written s t p into x (begun d)) (target_passed x (begun d)) (below_target m x (begun d) (below_begun m d g))

  broken_below : (loop : ℕ) (p : Pos) (c : Exp) (d : Draft) → Below m d → Below m (broken_if s t loop p c d)
  unfolding broken_if
  broken_below loop p c d g =
      let break = simple p (kernel.Break loop) in
      let after = exp_passed c (begun d) in
      let inside : Below m (break (opened 0 after)) = simple_below p (kernel.Break loop) (opened 0 after) (below_opened m 0 after (below_exp m c (begun d) (below_begun m d g))) in
      below_placed m d.node p _ (around_block 0 nothing_in (around_block 0 break after))
      (below_closed m 0 nothing_in (around_block 0 break after) (below_opened m 0 (around_block 0 break after) (below_closed m 0 break after inside)))

  until_below : (p : Pos) (into : Option Loc) (x : Target) (c : Exp) (d : Draft) → Below m d → Below m (awaited_until s t p into x c d)
  unfolding awaited_until
  until_below p into x c d g =
      let body = awaited_and_asked s t d.node p into x c in
      let first : Below m (target_awaited s t p into x (opened 0 (begun d))) = target_below p into x (opened 0 (begun d)) (below_opened m 0 (begun d) (below_begun m d g)) in
      below_placed m d.node p _ (around_block 0 body (begun d)) (below_closed m 0 body (begun d) (broken_below d.node p c (target_awaited s t p into x (opened 0 (begun d))) first))

  code_below : (p : Pos) (into : Option Loc) (c : Call) (d : Draft) → Below m d → Below m (code_awaited s t p into c d)
  unfolding code_awaited
  code_below p into c d g =
      let inside = used (hidden 1 (begun d)) in
      below_placed m d.node p _ (each exp_passed c.args inside) (below_each m exp_passed (below_exp m) c.args inside (below_used m (hidden 1 (begun d)) (below_hidden m 1 (begun d) (below_begun m d g))))

  awaited_below : (p : Pos) (into : Option Loc) (w : Await) (d : Draft) → Below m d → Below m (awaited s t p into w d)
  unfolding awaited
  awaited_below p into await.Forever d g = simple_below p kernel.Forever d g
  awaited_below p into (await.Code c) d g = code_below p into c d g
  awaited_below p into (await.On x None) d g = target_below p into x d g
  awaited_below p into (await.On x (Some c)) d g = until_below p into x c d g

  spawned_below : (alias : Option ℕ) (x : Spawn) (d : Draft) → Below m d → Below m (spawned s t alias x d)
  unfolding spawned
  spawned_below alias x d g =
      let inside = used (begun d) in
      below_placed m d.node x.pos _ (used (each exp_passed x.call.args inside))
      (below_used m (each exp_passed x.call.args inside) (below_each m exp_passed (below_exp m) x.call.args inside (below_used m (begun d) (below_begun m d g))))

  started_below : (p : Pos) (alias : ℕ) (x : Option Spawn) (d : Draft) → Below m d → Below m (started s t p alias x d)
  started_below p alias None d g = simple_below p (kernel.Unset alias) d g
  started_below p alias (Some x) d g = spawned_below (Some alias) x d g

  alias_below : (p : Pos) (x : Ident) (start : Option Spawn) (d : Draft) → Below m d → Below m (alias_declared s t p x start d)
  unfolding alias_declared
  alias_below p x start d g = started_below p d.parts.slot start (declared (kind.Alias (use_number s d)) x (used d)) (below_declared m (kind.Alias (use_number s d)) x (used d) (below_used m d g))

  pool_below : (places : ℕ) (x : Ident) (d : Draft) → Below m d → Below m (pool_declared s places x d)
  unfolding pool_declared
  pool_below places x d g = below_declared m (kind.Pool places (use_number s d)) x (used d) (below_used m d g)

  killed_below : (p : Pos) (d : Draft) → Below m d → Below m (killed s p d)
  unfolding killed
  killed_below p d g = below_placed m d.node p (kernel.Kill (use_number s (begun d))) (used (begun d)) (below_used m (begun d) (below_begun m d g))

  turns_below : (limit : Option ℕ) (d : Draft) → Below m d → Below m (turns_passed limit d)
  unfolding turns_passed
  turns_below None d g = g
  turns_below (Some n) d g = below_hidden m 1 d g

  range_below : (a b : Exp) (d : Draft) → Below m d → Below m (range_passed a b d)
  unfolding range_passed
  range_below a b d g =
      let inside = range_hidden d in
      below_standing m d.slot (exp_passed b (exp_passed a inside))
      (below_exp m b (exp_passed a inside) (below_exp m a inside (below_hidden m 1 (hidden 1 (hidden 1 d)) (below_hidden m 1 (hidden 1 d) (below_hidden m 1 d g)))))

  in_loop_code : (n : ℕ) (a : Around) → CodeBelow m a.code → CodeBelow m (in_loop n a).code
  unfolding in_loop
  in_loop_code n a h = h

  in_do_code : (l : _) (n : ℕ) (a : Around) → CodeBelow m a.code → CodeBelow m (in_do l n a).code
  unfolding in_do
  in_do_code label.Plain n a h = h
  in_do_code label.Under n a h = h
  in_do_code (label.Named x) n a h = h

  mutual
    unfolding NoCode stmt_written

    pub stmt_below : (a : Around) (p : Pos) (st : Stmt) → CodeBelow m a.code → NoCode st → (d : Draft) → Below m d → Below m (stmt_written s t a p st d)
    stmt_below a p stmt.Nothing h k d g = simple_below p kernel.Nothing d g
    stmt_below a p stmt.Break h k d g = simple_below p (kernel.Break a.turns) d g
    stmt_below a p stmt.Continue h k d g = simple_below p (kernel.Continue a.turns) d g
    stmt_below a p (Vars' ty _ items) h k d g = items_below a p ty items h k d g
    stmt_below a p (stmt.AliasDecl code x start) h k d g = alias_below p x start d g
    stmt_below a p (stmt.Events ty xs) h k d g = below_each m (event_declared a.code ty) (λ x e. below_event m a.code ty x e h) xs d g
    stmt_below a p (stmt.Inputs ty xs) h k d g = below_each m (input_declared ty) (below_input m ty) xs d g
    stmt_below a p (stmt.Outputs ty xs) h k d g = below_each m (output_declared ty) (below_output m ty) xs d g
    stmt_below a p (stmt.Pool n code x) h k d g = pool_below n x d g
    stmt_below a p (stmt.Code x ps result b) h k d g = absurd k
    stmt_below a p (stmt.Assign x v) h k d g = source_below a p (variable s x d) v h k (used d) (below_used m d g)
    stmt_below a p (stmt.Emit x e) h k d g = emitted_below p e d g
    stmt_below a p (stmt.Await w) h k d g = awaited_below p None w d g
    stmt_below a p (stmt.Spawn x) h k d g = spawned_below None x d g
    stmt_below a p (stmt.Kill x) h k d g = killed_below p d g
    stmt_below a p (stmt.Escape l e) h k d g = escaped_below a p l e d g
    stmt_below a p (stmt.Do b) h k d g = do_below a p None b h k d g
    stmt_below a p (stmt.Finalize b) h k d g = below_placed m d.node p _ (block_passed s t a b (begun d)) (block_below a b h k (begun d) (below_begun m d g))
    stmt_below a p (If' _ arms last) h k d g =
        below_placed m d.node p _ (last_passed s t a last (arms_passed s t a arms (begun d))) (last_below a last h k.1 (arms_passed s t a arms (begun d)) (arms_below a arms h k.0 (begun d) (below_begun m d g)))
    stmt_below a p (stmt.Loop limit b) h k d g =
        let inside = turns_passed limit (begun d) in
        below_placed m d.node p _ (block_passed s t (in_loop d.node a) b inside) (block_below (in_loop d.node a) b (in_loop_code d.node a h) k inside (turns_below limit (begun d) (below_begun m d g)))
    stmt_below a p (stmt.Range r) h k d g = ranged_below a p r h k d g
    stmt_below a p (stmt.Every x target b) h k d g = below_placed m d.node p _ (every_passed s t a d.node p x target b (begun d)) (every_below a d.node p x target b h k (begun d) (below_begun m d g))
    stmt_below a p (stmt.Watching target b) h k d g =
        let wait = target_awaited s t p None target in
        let inside = around_block 0 wait (begun d) in
        below_placed m d.node p _ (block_passed s t a b inside)
        (block_below a b h k inside (below_closed m 0 wait (begun d) (target_below p None target (opened 0 (begun d)) (below_opened m 0 (begun d) (below_begun m d g)))))
    stmt_below a p (Par' kind _ bs) h k d g =
        let inside = hidden (par_hidden kind (row_blocks bs)) (begun d) in
        below_placed m d.node p _ (blocks_passed s t a bs inside) (blocks_below a bs h k inside (below_hidden m (par_hidden kind (row_blocks bs)) (begun d) (below_begun m d g)))
    stmt_below a p (stmt.Async xs b) h k d g =
        let inside = each name_passed xs (begun d) in
        below_placed m d.node p _ (block_passed s t a b inside) (block_below a b h k inside (below_each m name_passed (λ x. below_used m) xs (begun d) (below_begun m d g)))

    source_below : (a : Around) (p : Pos) (into : Loc) (v : Source) → CodeBelow m a.code → NoCodeInSource v → (d : Draft) → Below m d → Below m (source_written s t a p into v d)
    source_below a p into (source.Value e) h k d g = exp_below p (kernel.Assign into (exp_written s t e (begun d))) e d g
    source_below a p into (source.Wait w) h k d g = awaited_below p (Some into) w d g
    source_below a p into (source.Start x) h k d g = spawned_below (Some into.slot) x d g
    source_below a p into (source.Done b) h k d g = do_below a p (Some into) b h k d g

    value_below : (a : Around) (p : Pos) (into : Loc) (v : Held-Item-value) → CodeBelow m a.code → NoCodeInValue v → (d : Draft) → Below m d → Below m (value_written s t a p into v d)
    value_below a p into Item-value-None' h k d g = simple_below p _ d g
    value_below a p into (Item-value-Some' v) h k d g = source_below a p into v h k d g

    do_below : (a : Around) (p : Pos) (into : Option Loc) (b : Do) → CodeBelow m a.code → NoCodeInDo b → (d : Draft) → Below m d → Below m (do_written s t a p into b d)
    do_below a p into (Do' l b) h k d g =
        let inside = labelled l d.node (begun d) in
        let after = block_passed s t (in_do l d.node a) b inside in
        below_placed m d.node p _ (unlabelled l after) (below_unlabelled m l after (block_below (in_do l d.node a) b (in_do_code l d.node a h) k inside (below_labelled m l d.node (begun d) (below_begun m d g))))

    ranged_below : (a : Around) (p : Pos) (r : Range) → CodeBelow m a.code → NoCodeInRange r → (d : Draft) → Below m d → Below m (ranged s t a p r d)
    ranged_below a p (Range' x open_a low high open_b b) h k d g =
        let inside = range_passed low high (begun d) in
        below_placed m d.node p _ (block_passed s t (in_loop d.node a) b inside) (block_below (in_loop d.node a) b (in_loop_code d.node a h) k inside (range_below low high (begun d) (below_begun m d g)))

    every_below : (a : Around) (loop : ℕ) (p : Pos) (x : Option Ident) (target : Target) (b : Block) → CodeBelow m a.code → NoCodeInBlock b → (d : Draft) → Below m d → Below m (every_passed s t a loop p x target b d)
    every_below a loop p x target (Block' _ list) h k d g =
        let f : Draft → Draft = λ inside. nodes_written s t (in_loop loop a) list (target_awaited s t p (if_variable s x inside) target (if_used x inside)) in
        let begin : Draft = opened (declared_in list) d in
        below_closed m (declared_in list) f d
        (nodes_below (in_loop loop a) list (in_loop_code loop a h) k (target_awaited s t p (if_variable s x begin) target (if_used x begin))
        (target_below p (if_variable s x begin) target (if_used x begin) (below_if_used m x begin (below_opened m (declared_in list) d g))))

    pub block_below : (a : Around) (b : Block) → CodeBelow m a.code → NoCodeInBlock b → (d : Draft) → Below m d → Below m (block_passed s t a b d)
    block_below a (Block' _ list) h k d g = below_closed m (declared_in list) (nodes_written s t a list) d (nodes_below a list h k (opened (declared_in list) d) (below_opened m (declared_in list) d g))

    arm_below : (a : Around) (arm : Arm) → CodeBelow m a.code → NoCodeInArm arm → (d : Draft) → Below m d → Below m (arm_passed s t a arm d)
    arm_below a (Arm' c b) h k d g = block_below a b h k (exp_passed c d) (below_exp m c d g)

    last_below : (a : Around) (b : Held-Stmt-If-1) → CodeBelow m a.code → NoCodeInLast b → (d : Draft) → Below m d → Below m (last_passed s t a b d)
    last_below a Stmt-If-1-None' h k d g = below_closed m 0 nothing_in d (below_opened m 0 d g)
    last_below a (Stmt-If-1-Some' b) h k d g = block_below a b h k d g

    nodes_below : {n : _} (a : Around) (r : Row_of-Node n) → CodeBelow m a.code → NoCodeInNodes r → (d : Draft) → Below m d → Below m (nodes_written s t a r d)
    nodes_below a end_of-Node h k d g = g
    nodes_below a (more_of-Node p st rest) h k d g = nodes_below a rest h k.1 (stmt_written s t a p st d) (stmt_below a p st h k.0 d g)

    items_below : {n : _} (a : Around) (p : Pos) (ty : Ty) (r : Row_of-Item n) → CodeBelow m a.code → NoCodeInItems r → (d : Draft) → Below m d → Below m (items_written s t a p ty r d)
    items_below a p ty end_of-Item h k d g = g
    items_below a p ty (more_of-Item x v rest) h k d g =
        let first = declared (kind.Var ty) x d in
        items_below a p ty rest h k.1 (value_written s t a p (own d.parts.slot ty) v first) (value_below a p (own d.parts.slot ty) v h k.0 first (below_declared m (kind.Var ty) x d g))

    arms_below : {n : _} (a : Around) (r : Row_of-Arm n) → CodeBelow m a.code → NoCodeInArms r → (d : Draft) → Below m d → Below m (arms_passed s t a r d)
    arms_below a end_of-Arm h k d g = g
    arms_below a (more_of-Arm arm rest) h k d g = arms_below a rest h k.1 (arm_passed s t a arm d) (arm_below a arm h k.0 d g)

    blocks_below : {n : _} (a : Around) (r : Row_of-Block n) → CodeBelow m a.code → NoCodeInBlocks r → (d : Draft) → Below m d → Below m (blocks_passed s t a r d)
    blocks_below a end_of-Block h k d g = g
    blocks_below a (more_of-Block b rest) h k d g = blocks_below a rest h k.1 (block_passed s t a b d) (block_below a b h k.0 d g)

-- ---- programs

below_more : (m : ℕ) (es : List KEvent) → AllOf (EventBelow m) es → AllOf (EventBelow (m + 1)) es
below_more m [] h = tt
below_more m (e ∷ es) h = (one m e.code h.0, below_more m es h.1)
  where
    one : (m : ℕ) (c : Option ℕ) → CodeBelow m c → CodeBelow (m + 1) c
    one m None h = tt
    one m (Some c) h = omega (arith, h)

length_more : {A : Type 0} (xs : List A) (x : A) → length (xs ++ x ∷ []) ≡ length xs + 1
length_more [] x = refl
length_more (y ∷ ys) x = let e = length_more ys x in omega (arith, e)

none_below : (n : ℕ) (c : Option ℕ) → CodeBelow 0 c → CodeBelow n c
none_below n None h = tt
none_below n (Some c) h = absurd (omega (arith, h))

abbrev InCodes : Draft → Type 0
InCodes d = Below (length d.codes) d

module _ (s : Scopes) (t : Types) where
  code_events : (a : Around) (p : Pos) (x : Ident) (ps : List Param) (result : Ty) (b : Block) → NoCodeInBlock b → (d : Draft) → InCodes d → InCodes (stmt_written s t a p (stmt.Code x ps result b) d)
  unfolding stmt_written code_begun code_around code_ended standing entered left with_code bare
  code_events a p x ps result b h d g =
      let first : Draft = entered (length ps) (standing (length d.codes) d) in
      let inside : Draft = each param_declared ps first in
      let around = code_around inside in
      let after : Draft = block_passed s t around b inside in
      let same : inside.codes ≡ d.codes = ap (λ (e : Draft). e.codes) (params_are ps first).stays in
      let codes : after.codes ≡ d.codes = ap (λ (e : Draft). e.codes) (block_in s t around b h inside).stays ∙ same in
      let count : length after.codes + 1 ≡ length (after.codes ++ _ ∷ []) = sym (length_more after.codes _) in
      let n : ℕ = length d.codes in
      let own : length inside.codes < n + 1 = let e = ap length same in omega (arith, e) in
      let begin : Below (n + 1) inside = below_each (n + 1) param_declared (λ y e. below_declared (n + 1) (kind.Var y.ty) y.name e) ps first (below_more n d.events g) in
      let all : Below (n + 1) after = block_below (n + 1) s t around b own h inside begin in
      subst (λ k. AllOf (EventBelow k) after.events) (ap (λ k. k + 1) (sym (ap length codes)) ∙ count) all

  stmt_events : (a : Around) (p : Pos) (st : Stmt) → CodeBelow 0 a.code → Outermost st → (d : Draft) → InCodes d → InCodes (stmt_written s t a p st d)
  unfolding Outermost
  stmt_events a p (stmt.Code x ps result b) c h d g = code_events a p x ps result b h d g
  stmt_events a p st c h d g =
      let same = ap length (stmt_wrote s t a p st h d).codes in
      subst (λ k. AllOf (EventBelow k) (stmt_written s t a p st d).events) (sym same) (stmt_below (length d.codes) s t a p st (none_below (length d.codes) a.code c) h d g)

  nodes_events : {n : _} (a : Around) (r : Row_of-Node n) → CodeBelow 0 a.code → OutermostNodes r → (d : Draft) → InCodes d → InCodes (nodes_written s t a r d)
  unfolding OutermostNodes stmt_written
  nodes_events a end_of-Node c h d g = g
  nodes_events a (more_of-Node p st rest) c h d g = nodes_events a rest c h.1 (stmt_written s t a p st d) (stmt_events a p st c h.0 d g)

  block_events : (b : Block) → OutermostBlock b → (n k : ℕ) → InCodes (block_passed s t of_program b (nothing_written n k))
  unfolding OutermostBlock stmt_written nothing_written opened closed outside
  block_events (Block' _ list) h n k = nodes_events of_program list tt h (opened (declared_in list) (nothing_written n k)) tt

  pub events : (tree : Tree) → CodesOutermost tree → EventsInCodes (kernel_of s t tree)
  unfolding kernel_of
  events tree h = block_events tree.body h (counted s t tree.body).node (counted s t tree.body).slot
