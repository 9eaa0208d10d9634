-- What the draft of a kernel keeps over a statement inside of another block, if each step of the draft keeps it.
use Rattle.std.proofs.Common.{◌≡◌, ℕ, List, [], ◌∷◌, Option, Some, None}
use Rattle.ceu_base.specs.declared.kinds.Ty.{Ty}
use Rattle.ceu_base.specs.declared.kinds.Pos.{Pos}
use Rattle.ceu_tree.specs.declared.source.Ident.{Ident}
use Rattle.ceu_tree.specs.declared.source.Call.{Call}
use Rattle.ceu_tree.specs.declared.source.Spawn.{Spawn}
use Rattle.ceu_tree.specs.declared.source.Target.{Target}
use Rattle.ceu_tree.specs.declared.source.Await.{Await}
use Rattle.ceu_tree.specs.declared.source.Await.TheVariants as await
use Rattle.ceu_tree.specs.declared.source.Exp.{Exp}
use Rattle.ceu_tree.specs.declared.source.Source as source
use Rattle.ceu_tree.specs.declared.source.Source.{Source}
use Rattle.ceu_tree.specs.declared.source.Item.{Held-Item-value, Item-value-None', Item-value-Some'}
use Rattle.ceu_tree.specs.declared.source.Do.{Do, Do'}
use Rattle.ceu_tree.specs.declared.source.Block.{Block, Block', Row_of-Node, end_of-Node, more_of-Node}
use Rattle.ceu_tree.specs.declared.source.Arm.{Arm, Arm'}
use Rattle.ceu_tree.specs.declared.source.Range.{Range, Range'}
use Rattle.ceu_tree.specs.declared.source.Stmt as stmt
use Rattle.ceu_tree.specs.declared.source.Stmt.{Stmt, Vars', If', Par', Row_of-Item, end_of-Item, more_of-Item, Row_of-Arm, end_of-Arm, more_of-Arm, Row_of-Block, end_of-Block, more_of-Block, Held-Stmt-If-1, Stmt-If-1-None', Stmt-If-1-Some'}
use Rattle.ceu_tree.specs.declared.kernel.Loc.{Loc}
use Rattle.ceu_tree.specs.declared.kernel.KKind.TheVariants as kind
use Rattle.ceu_tree.specs.declared.kernel.KKind.{KKind}
use Rattle.ceu_tree.specs.declared.source.Label.{Label}
use Rattle.ceu_expand.specs.declared.draft.LabelNode.{LabelNode}
use Rattle.ceu_tree.specs.declared.source.ExpNode as exp
use Rattle.ceu_tree.specs.declared.source.ExpNode.{ExpNode, Row_of-Exp, end_of-Exp, more_of-Exp, One', Two', As'}
use Rattle.ceu_tree.specs.declared.source.Target.TheVariants as target
use Rattle.ceu_tree.specs.declared.kernel.KStmt as kernel
use Rattle.ceu_tree.specs.declared.kernel.KStmt.{KStmt}
use Rattle.ceu_tree.specs.declared.source.Label.TheVariants as label
use Rattle.ceu_scopes.specs.declared.known.Scopes.{Scopes}
use Rattle.ceu_types.specs.declared.typing.Types.{Types}
use Rattle.ceu_expand.specs.declared.around.Around.{Around}
use Rattle.ceu_expand.specs.declared.draft.Draft.{Draft}
use Rattle.ceu_expand.specs.Draft.{in_loop, in_do, begun, hidden, opened, placed, around_block, standing, declared, event_declared, input_declared, output_declared, own, labelled, unlabelled}
use Rattle.ceu_expand.specs.Lists.{each}
use Rattle.ceu_expand.specs.Uses.{use_number, variable, used, if_variable, if_used}
use Rattle.ceu_expand.specs.Expressions.{typed, node_passed, row_passed, exp_passed, if_exp_passed, exp_written}
use Rattle.ceu_expand.specs.Parts.{simple, nothing_in, emitted, escaped, await_written, target_passed, target_awaited, broken_if, awaited_and_asked, awaited_until, code_awaited, awaited, spawned, started, alias_declared, pool_declared, killed, name_passed}
use Rattle.ceu_expand.specs.Expansion.{row_blocks, par_hidden, turns_passed, range_hidden, range_passed, declared_in, stmt_written, source_written, value_written, do_written, ranged, every_passed, block_passed, arm_passed, last_passed, nodes_written, items_written, arms_passed, blocks_passed}
use Rattle.laws_kernel_names.proofs.Inner.{Inner, InnerInSource, InnerInValue, InnerInDo, InnerInBlock, InnerInArm, InnerInLast, InnerInRange, InnerInItems, InnerInArms, InnerInBlocks, InnerInNodes}

-- a fact on drafts that each step keeps
pub record Writes (P : Draft → Type 0) : Type 0 where
  pub by_used : (d : Draft) → P d → P (used d)
  pub by_typed : (d : Draft) → P d → P (typed d)
  pub by_begun : (d : Draft) → P d → P (begun d)
  pub by_hidden : (n : ℕ) (d : Draft) → P d → P (hidden n d)
  pub by_standing : (n : ℕ) (d : Draft) → P d → P (standing n d)
  pub by_declared : (k : KKind) (x : Ident) (d : Draft) → P d → P (declared k x d)
  pub by_event : (code : Option ℕ) (t : Ty) (x : Ident) (d : Draft) → P d → P (event_declared code t x d)
  pub by_placed : (n : ℕ) (p : Pos) (st : KStmt) (d : Draft) → P d → P (placed n p st d)
  pub by_opened : (n : ℕ) (d : Draft) → P d → P (opened n d)
  pub by_closed : (n : ℕ) (f : Draft → Draft) (d : Draft) → P (f (opened n d)) → P (around_block n f d)
  pub by_labels : (ls : List LabelNode) (d : Draft) → P d → P (record d { labels = ls })

module _ (P : Draft → Type 0) (keeps : Writes P) where
  pub kept_if_used : (x : Option Ident) (d : Draft) → P d → P (if_used x d)
  kept_if_used None d h = h
  kept_if_used (Some x) d h = keeps.by_used d h

  pub kept_labelled : (l : Label) (n : ℕ) (d : Draft) → P d → P (labelled l n d)
  unfolding labelled
  kept_labelled label.Plain n d h = h
  kept_labelled label.Under n d h = h
  kept_labelled (label.Named x) n d h = keeps.by_labels _ d h

  pub kept_unlabelled : (l : Label) (d : Draft) → P d → P (unlabelled l d)
  unfolding unlabelled
  kept_unlabelled label.Plain d h = h
  kept_unlabelled label.Under d h = h
  kept_unlabelled (label.Named x) d h = keeps.by_labels _ d h

  mutual
    unfolding node_passed

    kept_node : (e : ExpNode) (d : Draft) → P d → P (node_passed e d)
    kept_node (exp.Number n) d h = keeps.by_typed d h
    kept_node (exp.Bool b) d h = keeps.by_typed d h
    kept_node (exp.Var x) d h = keeps.by_used (typed d) (keeps.by_typed d h)
    kept_node (exp.Alive x) d h = keeps.by_used (typed d) (keeps.by_typed d h)
    kept_node (One' op _ a) d h = kept_row a (typed d) (keeps.by_typed d h)
    kept_node (Two' op _ a _ b) d h = kept_row b (row_passed a (typed d)) (kept_row a (typed d) (keeps.by_typed d h))
    kept_node (As' _ a t) d h = kept_row a (typed d) (keeps.by_typed d h)

    kept_row : {n : _} (r : Row_of-Exp n) (d : Draft) → P d → P (row_passed r d)
    kept_row end_of-Exp d h = h
    kept_row (more_of-Exp p e rest) d h = kept_node e d h

  pub kept_exp : (e : Exp) (d : Draft) → P d → P (exp_passed e d)
  kept_exp e d h = kept_node e.node d h

  pub kept_if_exp : (e : Option Exp) (d : Draft) → P d → P (if_exp_passed e d)
  kept_if_exp None d h = h
  kept_if_exp (Some e) d h = kept_exp e d h

  pub kept_each : {A : Type 0} (pass : A → Draft → Draft) → ((x : A) (d : Draft) → P d → P (pass x d)) → (xs : List A) (d : Draft) → P d → P (each pass xs d)
  unfolding each
  kept_each pass h [] d g = g
  kept_each pass h (x ∷ xs) d g = kept_each pass h xs (pass x d) (h x d g)

  pub kept_target : (x : Target) (d : Draft) → P d → P (target_passed x d)
  unfolding target_passed
  kept_target (target.Ext x) d h = keeps.by_used d h
  kept_target (target.Event x) d h = keeps.by_used d h
  kept_target (target.Time us) d h = h
  kept_target (target.TimeExp e u) d h = kept_exp e d h

  module _ (s : Scopes) (t : Types) where
    pub simple_kept : (p : Pos) (st : KStmt) (d : Draft) → P d → P (simple p st d)
    simple_kept p st d g = keeps.by_placed d.node p st (begun d) (keeps.by_begun d g)

    pub exp_kept : (p : Pos) (st : KStmt) (e : Exp) (d : Draft) → P d → P (placed d.node p st (exp_passed e (begun d)))
    exp_kept p st e d g = keeps.by_placed d.node p st (exp_passed e (begun d)) (kept_exp e (begun d) (keeps.by_begun d g))

    pub emitted_kept : (p : Pos) (e : Option Exp) (d : Draft) → P d → P (emitted s t p e d)
    unfolding emitted
    emitted_kept p e d g = keeps.by_placed d.node p _ (if_exp_passed e (used (begun d))) (kept_if_exp e (used (begun d)) (keeps.by_used (begun d) (keeps.by_begun d g)))

    pub escaped_kept : (a : Around) (p : Pos) (l : Option Ident) (e : Option Exp) (d : Draft) → P d → P (escaped s t a p l e d)
    unfolding escaped
    escaped_kept a p l e d g = keeps.by_placed d.node p _ (if_exp_passed e (begun d)) (kept_if_exp e (begun d) (keeps.by_begun d g))

    pub target_kept : (p : Pos) (into : Option Loc) (x : Target) (d : Draft) → P d → P (target_awaited s t p into x d)
    unfolding target_awaited
    target_kept p into x d g = keeps.by_placed d.node p (await_written s t p into x (begun d)) (target_passed x (begun d)) (kept_target x (begun d) (keeps.by_begun d g))

    pub broken_kept : (loop : ℕ) (p : Pos) (c : Exp) (d : Draft) → P d → P (broken_if s t loop p c d)
    unfolding broken_if
    broken_kept loop p c d g =
        let break = simple p (kernel.Break loop) in
        let after = exp_passed c (begun d) in
        let inside : P (break (opened 0 after)) = simple_kept p (kernel.Break loop) (opened 0 after) (keeps.by_opened 0 after (kept_exp c (begun d) (keeps.by_begun d g))) in
        keeps.by_placed d.node p _ (around_block 0 nothing_in (around_block 0 break after))
        (keeps.by_closed 0 nothing_in (around_block 0 break after) (keeps.by_opened 0 (around_block 0 break after) (keeps.by_closed 0 break after inside)))

    pub until_kept : (p : Pos) (into : Option Loc) (x : Target) (c : Exp) (d : Draft) → P d → P (awaited_until s t p into x c d)
    unfolding awaited_until
    until_kept p into x c d g =
        let body = awaited_and_asked s t d.node p into x c in
        let first : P (target_awaited s t p into x (opened 0 (begun d))) = target_kept p into x (opened 0 (begun d)) (keeps.by_opened 0 (begun d) (keeps.by_begun d g)) in
        keeps.by_placed d.node p _ (around_block 0 body (begun d)) (keeps.by_closed 0 body (begun d) (broken_kept d.node p c (target_awaited s t p into x (opened 0 (begun d))) first))

    pub code_kept : (p : Pos) (into : Option Loc) (c : Call) (d : Draft) → P d → P (code_awaited s t p into c d)
    unfolding code_awaited
    code_kept p into c d g =
        let inside = used (hidden 1 (begun d)) in
        keeps.by_placed d.node p _ (each exp_passed c.args inside) (kept_each exp_passed (kept_exp) c.args inside (keeps.by_used (hidden 1 (begun d)) (keeps.by_hidden 1 (begun d) (keeps.by_begun d g))))

    pub awaited_kept : (p : Pos) (into : Option Loc) (w : Await) (d : Draft) → P d → P (awaited s t p into w d)
    unfolding awaited
    awaited_kept p into await.Forever d g = simple_kept p kernel.Forever d g
    awaited_kept p into (await.Code c) d g = code_kept p into c d g
    awaited_kept p into (await.On x None) d g = target_kept p into x d g
    awaited_kept p into (await.On x (Some c)) d g = until_kept p into x c d g

    pub spawned_kept : (alias : Option ℕ) (x : Spawn) (d : Draft) → P d → P (spawned s t alias x d)
    unfolding spawned
    spawned_kept alias x d g =
        let inside = used (begun d) in
        keeps.by_placed d.node x.pos _ (used (each exp_passed x.call.args inside))
        (keeps.by_used (each exp_passed x.call.args inside) (kept_each exp_passed (kept_exp) x.call.args inside (keeps.by_used (begun d) (keeps.by_begun d g))))

    pub started_kept : (p : Pos) (alias : ℕ) (x : Option Spawn) (d : Draft) → P d → P (started s t p alias x d)
    started_kept p alias None d g = simple_kept p (kernel.Unset alias) d g
    started_kept p alias (Some x) d g = spawned_kept (Some alias) x d g

    pub alias_kept : (p : Pos) (x : Ident) (start : Option Spawn) (d : Draft) → P d → P (alias_declared s t p x start d)
    unfolding alias_declared
    alias_kept p x start d g = started_kept p d.parts.slot start (declared (kind.Alias (use_number s d)) x (used d)) (keeps.by_declared (kind.Alias (use_number s d)) x (used d) (keeps.by_used d g))

    pub pool_kept : (places : ℕ) (x : Ident) (d : Draft) → P d → P (pool_declared s places x d)
    unfolding pool_declared
    pool_kept places x d g = keeps.by_declared (kind.Pool places (use_number s d)) x (used d) (keeps.by_used d g)

    pub killed_kept : (p : Pos) (d : Draft) → P d → P (killed s p d)
    unfolding killed
    killed_kept p d g = keeps.by_placed d.node p (kernel.Kill (use_number s (begun d))) (used (begun d)) (keeps.by_used (begun d) (keeps.by_begun d g))

    pub turns_kept : (limit : Option ℕ) (d : Draft) → P d → P (turns_passed limit d)
    unfolding turns_passed
    turns_kept None d g = g
    turns_kept (Some n) d g = keeps.by_hidden 1 d g

    pub range_kept : (a b : Exp) (d : Draft) → P d → P (range_passed a b d)
    unfolding range_passed
    range_kept a b d g =
        let inside = range_hidden d in
        keeps.by_standing d.slot (exp_passed b (exp_passed a inside))
        (kept_exp b (exp_passed a inside) (kept_exp a inside (keeps.by_hidden 1 (hidden 1 (hidden 1 d)) (keeps.by_hidden 1 (hidden 1 d) (keeps.by_hidden 1 d g)))))

    none_keep : {A : Type 0} (pass : A → Draft → Draft) (xs : List A) (d : Draft) → xs ≡ [] → P d → P (each pass xs d)
    unfolding each
    none_keep pass [] d e g = g
    none_keep pass (x ∷ xs) d e g = absurd (cc)

    mutual
      unfolding Inner stmt_written

      pub stmt_kept : (a : Around) (p : Pos) (st : Stmt) → Inner st → (d : Draft) → P d → P (stmt_written s t a p st d)
      stmt_kept a p stmt.Nothing k d g = simple_kept p kernel.Nothing d g
      stmt_kept a p stmt.Break k d g = simple_kept p (kernel.Break a.turns) d g
      stmt_kept a p stmt.Continue k d g = simple_kept p (kernel.Continue a.turns) d g
      stmt_kept a p (Vars' ty _ items) k d g = items_kept a p ty items k d g
      stmt_kept a p (stmt.AliasDecl code x start) k d g = alias_kept p x start d g
      stmt_kept a p (stmt.Events ty xs) k d g = kept_each (event_declared a.code ty) (λ x e. keeps.by_event a.code ty x e) xs d g
      stmt_kept a p (stmt.Inputs ty xs) k d g = none_keep (input_declared ty) xs d k g
      stmt_kept a p (stmt.Outputs ty xs) k d g = none_keep (output_declared ty) xs d k g
      stmt_kept a p (stmt.Pool n code x) k d g = pool_kept n x d g
      stmt_kept a p (stmt.Code x ps result b) k d g = absurd k
      stmt_kept a p (stmt.Assign x v) k d g = source_kept a p (variable s x d) v k (used d) (keeps.by_used d g)
      stmt_kept a p (stmt.Emit x e) k d g = emitted_kept p e d g
      stmt_kept a p (stmt.Await w) k d g = awaited_kept p None w d g
      stmt_kept a p (stmt.Spawn x) k d g = spawned_kept None x d g
      stmt_kept a p (stmt.Kill x) k d g = killed_kept p d g
      stmt_kept a p (stmt.Escape l e) k d g = escaped_kept a p l e d g
      stmt_kept a p (stmt.Do b) k d g = do_kept a p None b k d g
      stmt_kept a p (stmt.Finalize b) k d g = keeps.by_placed d.node p _ (block_passed s t a b (begun d)) (block_kept a b k (begun d) (keeps.by_begun d g))
      stmt_kept a p (If' _ arms last) k d g =
          keeps.by_placed d.node p _ (last_passed s t a last (arms_passed s t a arms (begun d))) (last_kept a last k.1 (arms_passed s t a arms (begun d)) (arms_kept a arms k.0 (begun d) (keeps.by_begun d g)))
      stmt_kept a p (stmt.Loop limit b) k d g =
          let inside = turns_passed limit (begun d) in
          keeps.by_placed d.node p _ (block_passed s t (in_loop d.node a) b inside) (block_kept (in_loop d.node a) b k inside (turns_kept limit (begun d) (keeps.by_begun d g)))
      stmt_kept a p (stmt.Range r) k d g = ranged_kept a p r k d g
      stmt_kept a p (stmt.Every x target b) k d g = keeps.by_placed d.node p _ (every_passed s t a d.node p x target b (begun d)) (every_kept a d.node p x target b k (begun d) (keeps.by_begun d g))
      stmt_kept a p (stmt.Watching target b) k d g =
          let wait = target_awaited s t p None target in
          let inside = around_block 0 wait (begun d) in
          keeps.by_placed d.node p _ (block_passed s t a b inside)
          (block_kept a b k inside (keeps.by_closed 0 wait (begun d) (target_kept p None target (opened 0 (begun d)) (keeps.by_opened 0 (begun d) (keeps.by_begun d g)))))
      stmt_kept a p (Par' kind _ bs) k d g =
          let inside = hidden (par_hidden kind (row_blocks bs)) (begun d) in
          keeps.by_placed d.node p _ (blocks_passed s t a bs inside) (blocks_kept a bs k inside (keeps.by_hidden (par_hidden kind (row_blocks bs)) (begun d) (keeps.by_begun d g)))
      stmt_kept a p (stmt.Async xs b) k d g =
          let inside = each name_passed xs (begun d) in
          keeps.by_placed d.node p _ (block_passed s t a b inside) (block_kept a b k inside (kept_each name_passed (λ x. keeps.by_used) xs (begun d) (keeps.by_begun d g)))

      pub source_kept : (a : Around) (p : Pos) (into : Loc) (v : Source) → InnerInSource v → (d : Draft) → P d → P (source_written s t a p into v d)
      source_kept a p into (source.Value e) k d g = exp_kept p (kernel.Assign into (exp_written s t e (begun d))) e d g
      source_kept a p into (source.Wait w) k d g = awaited_kept p (Some into) w d g
      source_kept a p into (source.Start x) k d g = spawned_kept (Some into.slot) x d g
      source_kept a p into (source.Done b) k d g = do_kept a p (Some into) b k d g

      pub value_kept : (a : Around) (p : Pos) (into : Loc) (v : Held-Item-value) → InnerInValue v → (d : Draft) → P d → P (value_written s t a p into v d)
      value_kept a p into Item-value-None' k d g = simple_kept p _ d g
      value_kept a p into (Item-value-Some' v) k d g = source_kept a p into v k d g

      pub do_kept : (a : Around) (p : Pos) (into : Option Loc) (b : Do) → InnerInDo b → (d : Draft) → P d → P (do_written s t a p into b d)
      do_kept a p into (Do' l b) k d g =
          let inside = labelled l d.node (begun d) in
          let after = block_passed s t (in_do l d.node a) b inside in
          keeps.by_placed d.node p _ (unlabelled l after) (kept_unlabelled l after (block_kept (in_do l d.node a) b k inside (kept_labelled l d.node (begun d) (keeps.by_begun d g))))

      pub ranged_kept : (a : Around) (p : Pos) (r : Range) → InnerInRange r → (d : Draft) → P d → P (ranged s t a p r d)
      ranged_kept a p (Range' x open_a low high open_b b) k d g =
          let inside = range_passed low high (begun d) in
          keeps.by_placed d.node p _ (block_passed s t (in_loop d.node a) b inside) (block_kept (in_loop d.node a) b k inside (range_kept low high (begun d) (keeps.by_begun d g)))

      pub every_kept : (a : Around) (loop : ℕ) (p : Pos) (x : Option Ident) (target : Target) (b : Block) → InnerInBlock b → (d : Draft) → P d → P (every_passed s t a loop p x target b d)
      every_kept a loop p x target (Block' _ list) k d g =
          let f : Draft → Draft = λ inside. nodes_written s t (in_loop loop a) list (target_awaited s t p (if_variable s x inside) target (if_used x inside)) in
          let begin : Draft = opened (declared_in list) d in
          keeps.by_closed (declared_in list) f d
          (nodes_kept (in_loop loop a) list k (target_awaited s t p (if_variable s x begin) target (if_used x begin))
          (target_kept p (if_variable s x begin) target (if_used x begin) (kept_if_used x begin (keeps.by_opened (declared_in list) d g))))

      pub block_kept : (a : Around) (b : Block) → InnerInBlock b → (d : Draft) → P d → P (block_passed s t a b d)
      block_kept a (Block' _ list) k d g = keeps.by_closed (declared_in list) (nodes_written s t a list) d (nodes_kept a list k (opened (declared_in list) d) (keeps.by_opened (declared_in list) d g))

      pub arm_kept : (a : Around) (arm : Arm) → InnerInArm arm → (d : Draft) → P d → P (arm_passed s t a arm d)
      arm_kept a (Arm' c b) k d g = block_kept a b k (exp_passed c d) (kept_exp c d g)

      pub last_kept : (a : Around) (b : Held-Stmt-If-1) → InnerInLast b → (d : Draft) → P d → P (last_passed s t a b d)
      last_kept a Stmt-If-1-None' k d g = keeps.by_closed 0 nothing_in d (keeps.by_opened 0 d g)
      last_kept a (Stmt-If-1-Some' b) k d g = block_kept a b k d g

      pub nodes_kept : {n : _} (a : Around) (r : Row_of-Node n) → InnerInNodes r → (d : Draft) → P d → P (nodes_written s t a r d)
      nodes_kept a end_of-Node k d g = g
      nodes_kept a (more_of-Node p st rest) k d g = nodes_kept a rest k.1 (stmt_written s t a p st d) (stmt_kept a p st k.0 d g)

      pub items_kept : {n : _} (a : Around) (p : Pos) (ty : Ty) (r : Row_of-Item n) → InnerInItems r → (d : Draft) → P d → P (items_written s t a p ty r d)
      items_kept a p ty end_of-Item k d g = g
      items_kept a p ty (more_of-Item x v rest) k d g =
          let first = declared (kind.Var ty) x d in
          items_kept a p ty rest k.1 (value_written s t a p (own d.parts.slot ty) v first) (value_kept a p (own d.parts.slot ty) v k.0 first (keeps.by_declared (kind.Var ty) x d g))

      pub arms_kept : {n : _} (a : Around) (r : Row_of-Arm n) → InnerInArms r → (d : Draft) → P d → P (arms_passed s t a r d)
      arms_kept a end_of-Arm k d g = g
      arms_kept a (more_of-Arm arm rest) k d g = arms_kept a rest k.1 (arm_passed s t a arm d) (arm_kept a arm k.0 d g)

      pub blocks_kept : {n : _} (a : Around) (r : Row_of-Block n) → InnerInBlocks r → (d : Draft) → P d → P (blocks_passed s t a r d)
      blocks_kept a end_of-Block k d g = g
      blocks_kept a (more_of-Block b rest) k d g = blocks_kept a rest k.1 (block_passed s t a b d) (block_kept a b k.0 d g)
