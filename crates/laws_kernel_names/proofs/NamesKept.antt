-- What a walk through a program's names keeps, if each of its steps keeps it.
use Rattle.std.proofs.Common.{ℕ, suc, ◌≤◌, arith, List, [], ◌∷◌, ◌++◌, Option, Some, None, Result}
use Rattle.std.specs.Prelude.{⊤, if◌then◌else◌}
use Rattle.ceu_base.specs.declared.kinds.Rule.{Rule}
use Rattle.ceu_base.specs.declared.kinds.Ty.{Ty}
use Rattle.ceu_base.specs.declared.kinds.Ty.TheVariants as ty
use Rattle.ceu_tree.specs.declared.source.Class.{Class}
use Rattle.ceu_tree.specs.declared.source.Class.TheVariants as class
use Rattle.ceu_tree.specs.declared.source.Ident.{Ident}
use Rattle.ceu_tree.specs.declared.source.Param.{Param}
use Rattle.ceu_tree.specs.declared.source.Call.{Call}
use Rattle.ceu_tree.specs.declared.source.Spawn.{Spawn}
use Rattle.ceu_tree.specs.declared.source.Label.{Label}
use Rattle.ceu_tree.specs.declared.source.Label.TheVariants as label
use Rattle.ceu_tree.specs.declared.source.Target.{Target}
use Rattle.ceu_tree.specs.declared.source.Target.TheVariants as target
use Rattle.ceu_tree.specs.declared.source.Await.{Await}
use Rattle.ceu_tree.specs.declared.source.Await.TheVariants as await
use Rattle.ceu_tree.specs.declared.source.Exp.{Exp}
use Rattle.ceu_tree.specs.declared.source.ExpNode as exp
use Rattle.ceu_tree.specs.declared.source.ExpNode.{ExpNode, One', Two', As', Row_of-Exp, end_of-Exp, more_of-Exp}
use Rattle.ceu_tree.specs.declared.source.Source as source
use Rattle.ceu_tree.specs.declared.source.Source.{Source}
use Rattle.ceu_tree.specs.declared.source.Item.{Held-Item-value, Item-value-None', Item-value-Some'}
use Rattle.ceu_tree.specs.declared.source.Do.{Do, Do'}
use Rattle.ceu_tree.specs.declared.source.Block.{Block, Block', Row_of-Node, end_of-Node, more_of-Node}
use Rattle.ceu_tree.specs.declared.source.Arm.{Arm, Arm'}
use Rattle.ceu_tree.specs.declared.source.Range.{Range, Range'}
use Rattle.ceu_tree.specs.declared.source.Stmt as stmt
use Rattle.ceu_tree.specs.declared.source.Stmt.{Stmt, Vars', If', Par', Row_of-Item, end_of-Item, more_of-Item, Row_of-Arm, end_of-Arm, more_of-Arm, Row_of-Block, end_of-Block, more_of-Block, Held-Stmt-If-1, Stmt-If-1-None', Stmt-If-1-Some'}
use Rattle.ceu_scopes.specs.declared.known.Known.{Known}
use Rattle.ceu_scopes.specs.declared.known.Role.TheVariants as role
use Rattle.ceu_scopes.specs.declared.scope.Border.{Border}
use Rattle.ceu_scopes.specs.declared.scope.Border.TheVariants.{Plain, Async, Body}
use Rattle.ceu_scopes.specs.declared.walk.Walk.{Walk}
use Rattle.ceu_scopes.specs.Shown.{added, rest_of}
use Rattle.ceu_scopes.specs.Walk.{Broken, ◌>>=◌, opened, closed, shown, with_name, fresh}
use Rattle.ceu_scopes.specs.Rules.{resolved, noted, and_on, used, named, pool_used, alias_used, is_taken, inside_broken, declared, label_broken}
use Rattle.ceu_scopes.specs.declared.known.Role.{Role}
use Rattle.ceu_tree.specs.declared.source.Decl.{Decl}
use Rattle.ceu_base.specs.declared.kinds.Rule.TheVariants.{N2}
use Rattle.ceu_scopes.specs.Names.{node_walked, operand_walked, exp_walked, exps_walked, if_exp_walked, call_walked, spawned, spawn_walked, if_spawn_walked, target_walked, await_walked, ident_declared, port_declared, param_declared, pool_declared, start_broken, alias_declared, pool_walked, alias_walked, value_broken, params_opened, labelled, unlabelled, escape_walked, name_listed, target_assigned, code_opened, every_walked, stmt_walked, source_walked, value_walked, do_walked, block_walked, arm_walked, last_walked, range_walked, items_walked, arms_walked, blocks_walked, nodes_walked}
use Rattle.laws_kernel_shape.proofs.Steps.{Always, always_ok, always_checked, always_then, always_each}

-- a fact on walks with so many open blocks, which each step keeps
pub record Keeps (P : ℕ → Walk → Type 0) : Type 0 where
  pub by_noted : (n : ℕ) (w : Walk) (k : ℕ) → P n w → P n (record w { uses = w.uses ++ k ∷ [] })
  pub by_declared : (n : ℕ) (w : Walk) (x : Decl) → P n w → P n (record w { decls = w.decls ++ x ∷ [] })
  pub by_shown : (n : ℕ) (w : Walk) (x : List ℕ) (k : Known) → 1 ≤ n → P n w → P n (record w { scopes = with_name x k w.scopes })
  pub by_opened : (n : ℕ) (w : Walk) (b : Border) → 1 ≤ n → P n w → P (suc n) (opened b w)
  pub by_closed : (n : ℕ) (w : Walk) → 1 ≤ n → P (suc n) w → P n (record w { scopes = rest_of w.scopes })
  pub by_labels : (n : ℕ) (w : Walk) (ls : List (List ℕ)) → P n w → P n (record w { labels = ls })

any : {A : Type 0} (x : Result A Broken) → Always (λ (a : A). ⊤) x
any x a e = tt

module _ (P : ℕ → Walk → Type 0) (keeps : Keeps P) where
  abbrev pub Kept : ℕ → Walk → Type 0
  Kept n w = (1 ≤ n) × P n w

  abbrev pub KeptOf : {A : Type 0} → ℕ → A × Walk → Type 0
  KeptOf n p = Kept n p.1

  pub used_kept : (r : Role) (x : Ident) (n : ℕ) (w : Walk) → Kept n w → Always (KeptOf n) (used r x w)
  unfolding used
  used_kept r x n w h = always_then (λ k. ⊤) (KeptOf n) (resolved r w.scopes x) (noted w) (any (resolved r w.scopes x)) (λ k u. always_ok (KeptOf n) (k, record w { uses = w.uses ++ k.number ∷ [] }) (h.0, keeps.by_noted n w k.number h.1))

  on_kept : (n : ℕ) (p : Known × Walk) → KeptOf n p → Always (Kept n) (and_on p)
  on_kept n p h = always_ok (Kept n) p.1 h

  pub named_kept : (r : Role) (x : Ident) (n : ℕ) (w : Walk) → Kept n w → Always (Kept n) (named r x w)
  unfolding named
  named_kept r x n w h = always_then (KeptOf n) (Kept n) (used r x w) and_on (used_kept r x n w h) (on_kept n)

  pub pool_kept : (code : ℕ) (x : Ident) (n : ℕ) (w : Walk) → Kept n w → Always (Kept n) (pool_used code x w)
  unfolding pool_used
  pool_kept code x n w h =
      always_then (KeptOf n) (Kept n) _ and_on
      (always_then (λ k. ⊤) (KeptOf n) _ (noted w) (any _) (λ k u. always_ok (KeptOf n) (k, record w { uses = w.uses ++ k.number ∷ [] }) (h.0, keeps.by_noted n w k.number h.1)))
      (on_kept n)

  pub alias_kept : (s : Spawn) (x : Ident) (n : ℕ) (w : Walk) → Kept n w → Always (Kept n) (alias_used s x w)
  unfolding alias_used
  alias_kept s x n w h =
      always_then (KeptOf n) (Kept n) _ and_on
      (always_then (λ k. ⊤) (KeptOf n) _ (noted w) (any _) (λ k u. always_ok (KeptOf n) (k, record w { uses = w.uses ++ k.number ∷ [] }) (h.0, keeps.by_noted n w k.number h.1)))
      (on_kept n)

  pub declared_kept : (c : Class) (t : Ty) (r : Option Rule) (x : Ident) (n : ℕ) (w : Walk) → Kept n w → Always (Kept n) (declared c t r x w)
  unfolding declared
  declared_kept c t r x n w h = always_checked (Kept n) (if is_taken w.scopes x.name then Some N2 else r) x.pos _ (h.0, keeps.by_declared n w _ h.1)

  pub shown_kept : (x : Ident) (k : Known) (n : ℕ) (w : Walk) → Kept n w → Always (Kept n) (shown x k w)
  unfolding shown
  shown_kept x k n w h = always_ok (Kept n) (record w { scopes = with_name x.name k w.scopes }) (h.0, keeps.by_shown n w x.name k h.0 h.1)

  pub opened_kept : (b : Border) (n : ℕ) (w : Walk) → Kept n w → Kept (suc n) (opened b w)
  opened_kept b n w h = (omega arith, keeps.by_opened n w b h.0 h.1)

  pub closed_kept : (n : ℕ) → 1 ≤ n → (w : Walk) → Kept (suc n) w → Always (Kept n) (closed w)
  unfolding closed
  closed_kept n one w h = always_ok (Kept n) (record w { scopes = rest_of w.scopes }) (one, keeps.by_closed n w one h.1)

  -- ---- parts that open no block

  mutual
    unfolding node_walked

    node_kept : (e : ExpNode) (n : ℕ) (w : Walk) → Kept n w → Always (Kept n) (node_walked e w)
    node_kept (exp.Number k) n w h = always_ok (Kept n) w h
    node_kept (exp.Bool b) n w h = always_ok (Kept n) w h
    node_kept (exp.Var x) n w h = named_kept role.Read x n w h
    node_kept (exp.Alive x) n w h = named_kept role.Asked x n w h
    node_kept (One' op _ a) n w h = operand_kept a n w h
    node_kept (Two' op _ a _ b) n w h = always_then (Kept n) (Kept n) (operand_walked a w) (operand_walked b) (operand_kept a n w h) (λ v k. operand_kept b n v k)
    node_kept (As' _ a t) n w h = operand_kept a n w h

    operand_kept : {m : _} (r : Row_of-Exp m) (n : ℕ) (w : Walk) → Kept n w → Always (Kept n) (operand_walked r w)
    operand_kept end_of-Exp n w h = always_ok (Kept n) w h
    operand_kept (more_of-Exp p e rest) n w h = node_kept e n w h

  pub exp_kept : (n : ℕ) (e : Exp) (w : Walk) → Kept n w → Always (Kept n) (exp_walked e w)
  exp_kept n e w h = node_kept e.node n w h

  pub exps_kept : (n : ℕ) (es : List Exp) (w : Walk) → Kept n w → Always (Kept n) (exps_walked es w)
  exps_kept n es w h = always_each (Kept n) exp_walked (exp_kept n) es w h

  pub if_exp_kept : (n : ℕ) (e : Option Exp) (w : Walk) → Kept n w → Always (Kept n) (if_exp_walked e w)
  if_exp_kept n None w h = always_ok (Kept n) w h
  if_exp_kept n (Some e) w h = exp_kept n e w h

  pub call_kept : (n : ℕ) (c : Call) (w : Walk) → Kept n w → Always (Kept n) (call_walked c w)
  call_kept n c w h = always_then (Kept n) (Kept n) (named role.Code c.code w) (exps_walked c.args) (named_kept role.Code c.code n w h) (λ v k. exps_kept n c.args v k)

  pub spawned_kept : (n : ℕ) (s : Spawn) (p : Known × Walk) → KeptOf n p → Always (Kept n) (spawned s p)
  spawned_kept n s p h = always_then (Kept n) (Kept n) (exps_walked s.call.args p.1) (pool_used p.0.number s.pool) (exps_kept n s.call.args p.1 h) (λ v k. pool_kept p.0.number s.pool n v k)

  pub spawn_kept : (n : ℕ) (s : Spawn) (w : Walk) → Kept n w → Always (Kept n) (spawn_walked s w)
  spawn_kept n s w h = always_then (KeptOf n) (Kept n) (used role.Code s.call.code w) (spawned s) (used_kept role.Code s.call.code n w h) (λ p k. spawned_kept n s p k)

  pub if_spawn_kept : (n : ℕ) (s : Option Spawn) (w : Walk) → Kept n w → Always (Kept n) (if_spawn_walked s w)
  if_spawn_kept n None w h = always_ok (Kept n) w h
  if_spawn_kept n (Some s) w h = spawn_kept n s w h

  pub target_kept : (n : ℕ) (x : Target) (w : Walk) → Kept n w → Always (Kept n) (target_walked x w)
  target_kept n (target.Ext x) w h = named_kept role.Input x n w h
  target_kept n (target.Event x) w h = named_kept role.Event x n w h
  target_kept n (target.Time us) w h = always_ok (Kept n) w h
  target_kept n (target.TimeExp e u) w h = exp_kept n e w h

  pub await_kept : (n : ℕ) (a : Await) (w : Walk) → Kept n w → Always (Kept n) (await_walked a w)
  await_kept n await.Forever w h = always_ok (Kept n) w h
  await_kept n (await.Code c) w h = call_kept n c w h
  await_kept n (await.On x until) w h = always_then (Kept n) (Kept n) (target_walked x w) (if_exp_walked until) (target_kept n x w h) (λ v k. if_exp_kept n until v k)

  pub ident_kept : (c : Class) (t : Ty) (r : Option Rule) (n : ℕ) (x : Ident) (w : Walk) → Kept n w → Always (Kept n) (ident_declared c t r x w)
  ident_kept c t r n x w h = always_then (Kept n) (Kept n) (declared c t r x w) (shown x (fresh c 0 w)) (declared_kept c t r x n w h) (λ v k. shown_kept x (fresh c 0 w) n v k)

  pub pool_declared_kept : (n : ℕ) (x : Ident) (p : Known × Walk) → KeptOf n p → Always (Kept n) (pool_declared x p)
  pool_declared_kept n x p h =
      always_then (Kept n) (Kept n) (declared class.Pool ty.None None x p.1) (shown x (fresh class.Pool p.0.number p.1)) (declared_kept class.Pool ty.None None x n p.1 h)
      (λ v k. shown_kept x (fresh class.Pool p.0.number p.1) n v k)

  pub alias_declared_kept : (n : ℕ) (x : Ident) (start : Option Spawn) (p : Known × Walk) → KeptOf n p → Always (Kept n) (alias_declared x start p)
  alias_declared_kept n x start p h =
      let alias = fresh class.Alias p.0.number p.1 in
      let r = start_broken p.1.scopes start alias in
      always_then (Kept n) (Kept n) (declared class.Alias ty.None r x p.1 >>= if_spawn_walked start) (shown x alias)
      (always_then (Kept n) (Kept n) (declared class.Alias ty.None r x p.1) (if_spawn_walked start) (declared_kept class.Alias ty.None r x n p.1 h) (λ v k. if_spawn_kept n start v k))
      (λ v k. shown_kept x alias n v k)

  pub pool_walked_kept : (n : ℕ) (code x : Ident) (w : Walk) → Kept n w → Always (Kept n) (pool_walked code x w)
  pool_walked_kept n code x w h = always_then (KeptOf n) (Kept n) (used role.Code code w) (pool_declared x) (used_kept role.Code code n w h) (λ p k. pool_declared_kept n x p k)

  pub alias_walked_kept : (n : ℕ) (code x : Ident) (start : Option Spawn) (w : Walk) → Kept n w → Always (Kept n) (alias_walked code x start w)
  alias_walked_kept n code x start w h =
      always_then (KeptOf n) (Kept n) (used role.Code code w) (alias_declared x start) (used_kept role.Code code n w h) (λ p k. alias_declared_kept n x start p k)

  pub assigned_kept : (n : ℕ) (s : Source) (x : Ident) (w : Walk) → Kept n w → Always (Kept n) (target_assigned s x w)
  assigned_kept n (source.Start s) x w h = alias_kept s x n w h
  assigned_kept n (source.Value e) x w h = named_kept role.Written x n w h
  assigned_kept n (source.Wait a) x w h = named_kept role.Written x n w h
  assigned_kept n (source.Done d) x w h = named_kept role.Written x n w h

  pub escape_kept : (n : ℕ) (l : Option Ident) (w : Walk) → Kept n w → Always (Kept n) (escape_walked l w)
  escape_kept n None w h = always_ok (Kept n) w h
  escape_kept n (Some l) w h = always_checked (Kept n) (label_broken w.labels l) l.pos w h

  pub every_kept : (n : ℕ) (x : Option Ident) (t : Target) (w : Walk) → Kept n w → Always (Kept n) (every_walked x t w)
  every_kept n None t w h = target_kept n t w h
  every_kept n (Some x) t w h = always_then (Kept n) (Kept n) (named role.Written x w) (target_walked t) (named_kept role.Written x n w h) (λ v k. target_kept n t v k)

  pub labelled_kept : (n : ℕ) (l : Label) (w : Walk) → Kept n w → Kept n (labelled l w)
  labelled_kept n label.Plain w h = h
  labelled_kept n label.Under w h = h
  labelled_kept n (label.Named l) w h = (h.0, keeps.by_labels n w (l.name ∷ w.labels) h.1)

  pub unlabelled_kept : (n : ℕ) (l : Label) (w : Walk) → Kept n w → Always (Kept n) (unlabelled l w)
  unlabelled_kept n label.Plain w h = always_ok (Kept n) w h
  unlabelled_kept n label.Under w h = always_ok (Kept n) w h
  unlabelled_kept n (label.Named l) w h = always_ok (Kept n) (record w { labels = rest_of w.labels }) (h.0, keeps.by_labels n w (rest_of w.labels) h.1)

  -- the list of an async, with the numbers so far
  abbrev KeptWith : ℕ → List ℕ × Walk → Type 0
  KeptWith n p = Kept n p.1

  pub listed_kept : (n : ℕ) (x : Ident) (p : List ℕ × Walk) → KeptWith n p → Always (KeptWith n) (name_listed x p)
  listed_kept n x p h =
      always_then (KeptOf n) (KeptWith n) (used role.Listed x p.1) _ (used_kept role.Listed x n p.1 h) (λ q k. always_ok (KeptWith n) (added p.0 q.0.number, q.1) k)

  -- ---- statements

  pub params_kept : (x : List ℕ) (ps : List Param) (n : ℕ) (w : Walk) → Kept n w → Always (Kept (suc n)) (params_opened x ps w)
  params_kept x ps n w h =
      always_each (Kept (suc n)) param_declared (λ p v k. ident_kept class.Param p.ty None (suc n) p.name v k) ps (opened (Body x) w) (opened_kept (Body x) n w h)

  pub code_kept : (x : Ident) (ps : List Param) (t : Ty) (b : Block) (n : ℕ) (w : Walk) → 1 ≤ n →
      ((v : Walk) → Kept (suc n) v → Always (Kept (suc n)) (block_walked b Plain v)) → Kept n w →
      Always (Kept n) (code_opened x ps t w >>= block_walked b Plain >>= closed >>= shown x (fresh class.Code 0 w))
  code_kept x ps t b n w one inner h =
      always_then (Kept n) (Kept n) _ _
      (always_then (Kept (suc n)) (Kept n) _ _
      (always_then (Kept (suc n)) (Kept (suc n)) _ _
      (always_then (Kept n) (Kept (suc n)) _ _ (declared_kept class.Code t (inside_broken w.scopes) x n w h) (λ v k. params_kept x.name ps n v k))
      inner)
      (λ v k. closed_kept n one v k))
      (λ v k. shown_kept x (fresh class.Code 0 w) n v k)

  mutual
    unfolding stmt_walked

    pub stmt_kept : (st : Stmt) (n : ℕ) (w : Walk) → 1 ≤ n → Kept n w → Always (Kept n) (stmt_walked st w)
    stmt_kept stmt.Nothing n w one h = (always_ok (Kept n) w h)
    stmt_kept stmt.Break n w one h = (always_ok (Kept n) w h)
    stmt_kept stmt.Continue n w one h = (always_ok (Kept n) w h)
    stmt_kept (Vars' t _ items) n w one h = (items_kept items t n w one h)
    stmt_kept (stmt.AliasDecl code x start) n w one h = (alias_walked_kept n code x start w h)
    stmt_kept (stmt.Events t xs) n w one h = (always_each (Kept n) (ident_declared class.Event t None) (ident_kept class.Event t None n) xs w h)
    stmt_kept (stmt.Inputs t xs) n w one h = (always_each (Kept n) (port_declared class.Input t) (λ x v k. ident_kept class.Input t (inside_broken v.scopes) n x v k) xs w h)
    stmt_kept (stmt.Outputs t xs) n w one h = (always_each (Kept n) (port_declared class.Output t) (λ x v k. ident_kept class.Output t (inside_broken v.scopes) n x v k) xs w h)
    stmt_kept (stmt.Pool places code x) n w one h = (pool_walked_kept n code x w h)
    stmt_kept (stmt.Code x ps t b) n w one h = code_kept x ps t b n w one (λ u d. block_kept b Plain (suc n) u (omega arith) d) h
    stmt_kept (stmt.Assign x s) n w one h =
        (always_then (Kept n) (Kept n) _ _ (assigned_kept n s x w h) (λ v k. source_kept s n v one k))
    stmt_kept (stmt.Emit x e) n w one h = (always_then (Kept n) (Kept n) _ _ (named_kept role.Emitted x n w h) (λ v k. if_exp_kept n e v k))
    stmt_kept (stmt.Await a) n w one h = (await_kept n a w h)
    stmt_kept (stmt.Spawn s) n w one h = (spawn_kept n s w h)
    stmt_kept (stmt.Kill x) n w one h = (named_kept role.Alias x n w h)
    stmt_kept (stmt.Escape l e) n w one h = (always_then (Kept n) (Kept n) _ _ (escape_kept n l w h) (λ v k. if_exp_kept n e v k))
    stmt_kept (stmt.Do d) n w one h = (do_kept d n w one h)
    stmt_kept (stmt.Finalize b) n w one h = (block_kept b Plain n w one h)
    stmt_kept (If' _ arms last) n w one h =
        (always_then (Kept n) (Kept n) _ _ (arms_kept arms n w one h) (λ v k. (last_kept last n v one k)))
    stmt_kept (stmt.Loop limit b) n w one h = (block_kept b Plain n w one h)
    stmt_kept (stmt.Range r) n w one h = (range_kept r n w one h)
    stmt_kept (stmt.Every x t b) n w one h = (always_then (Kept n) (Kept n) _ _ (every_kept n x t w h) (λ v k. block_kept b Plain n v one k))
    stmt_kept (stmt.Watching t b) n w one h = (always_then (Kept n) (Kept n) _ _ (target_kept n t w h) (λ v k. block_kept b Plain n v one k))
    stmt_kept (Par' k _ bs) n w one h = (blocks_kept bs n w one h)
    stmt_kept (stmt.Async xs b) n w one h =
        (always_then (KeptWith n) (Kept n) _ _ (always_each (KeptWith n) name_listed (listed_kept n) xs ([], w) h) (λ p k. block_kept b (Async p.0) n p.1 one k))

    pub source_kept : (s : Source) (n : ℕ) (w : Walk) → 1 ≤ n → Kept n w → Always (Kept n) (source_walked s w)
    source_kept (source.Value e) n w one h = (exp_kept n e w h)
    source_kept (source.Wait a) n w one h = (await_kept n a w h)
    source_kept (source.Start s) n w one h = (spawn_kept n s w h)
    source_kept (source.Done d) n w one h = do_kept d n w one h

    pub value_kept : (v : Held-Item-value) (n : ℕ) (w : Walk) → 1 ≤ n → Kept n w → Always (Kept n) (value_walked v w)
    value_kept Item-value-None' n w one h = (always_ok (Kept n) w h)
    value_kept (Item-value-Some' s) n w one h = source_kept s n w one h

    pub do_kept : (d : Do) (n : ℕ) (w : Walk) → 1 ≤ n → Kept n w → Always (Kept n) (do_walked d w)
    do_kept (Do' l b) n w one h =
        always_then (Kept n) (Kept n) _ _ (block_kept b Plain n (labelled l w) one (labelled_kept n l w h)) (λ v k. (unlabelled_kept n l v k))

    pub block_kept : (b : Block) (border : Border) (n : ℕ) (w : Walk) → 1 ≤ n → Kept n w → Always (Kept n) (block_walked b border w)
    block_kept (Block' _ list) border n w one h =
        always_then (Kept (suc n)) (Kept n) _ _ (nodes_kept list (suc n) (opened border w) (omega arith) (opened_kept border n w h))
        (λ v k. (closed_kept n one v k))

    pub arm_kept : (a : Arm) (n : ℕ) (w : Walk) → 1 ≤ n → Kept n w → Always (Kept n) (arm_walked a w)
    arm_kept (Arm' c b) n w one h = always_then (Kept n) (Kept n) _ _ (exp_kept n c w h) (λ v k. block_kept b Plain n v one k)

    pub last_kept : (b : Held-Stmt-If-1) (n : ℕ) (w : Walk) → 1 ≤ n → Kept n w → Always (Kept n) (last_walked b w)
    last_kept Stmt-If-1-None' n w one h = (always_ok (Kept n) w h)
    last_kept (Stmt-If-1-Some' b) n w one h = block_kept b Plain n w one h

    pub range_kept : (r : Range) (n : ℕ) (w : Walk) → 1 ≤ n → Kept n w → Always (Kept n) (range_walked r w)
    range_kept (Range' x _ a b _ body) n w one h =
        always_then (Kept (suc n)) (Kept n) _ _
        (always_then (Kept (suc n)) (Kept (suc n)) _ _
        (always_then (Kept n) (Kept (suc n)) _ _
        (always_then (Kept n) (Kept n) _ _ (exp_kept n a w h) (λ v k. exp_kept n b v k))
        (λ v k. ident_kept class.LoopVar ty.S32 None (suc n) x (opened Plain v) (opened_kept Plain n v k)))
        (λ v k. block_kept body Plain (suc n) v (omega arith) k))
        (λ v k. (closed_kept n one v k))

    pub items_kept : {m : _} (r : Row_of-Item m) (t : Ty) (n : ℕ) (w : Walk) → 1 ≤ n → Kept n w → Always (Kept n) (items_walked r t w)
    items_kept end_of-Item t n w one h = (always_ok (Kept n) w h)
    items_kept (more_of-Item x v rest) t n w one h =
        always_then (Kept n) (Kept n) _ _
        (always_then (Kept n) (Kept n) _ _
        (always_then (Kept n) (Kept n) _ _ (declared_kept class.Var t (value_broken v) x n w h) (λ u k. value_kept v n u one k))
        (λ u k. (shown_kept x (fresh class.Var 0 w) n u k)))
        (λ u k. (items_kept rest t n u one k))

    pub arms_kept : {m : _} (r : Row_of-Arm m) (n : ℕ) (w : Walk) → 1 ≤ n → Kept n w → Always (Kept n) (arms_walked r w)
    arms_kept end_of-Arm n w one h = (always_ok (Kept n) w h)
    arms_kept (more_of-Arm a rest) n w one h =
        always_then (Kept n) (Kept n) _ _ (arm_kept a n w one h) (λ v k. (arms_kept rest n v one k))

    pub blocks_kept : {m : _} (r : Row_of-Block m) (n : ℕ) (w : Walk) → 1 ≤ n → Kept n w → Always (Kept n) (blocks_walked r w)
    blocks_kept end_of-Block n w one h = (always_ok (Kept n) w h)
    blocks_kept (more_of-Block b rest) n w one h =
        always_then (Kept n) (Kept n) _ _ (block_kept b Plain n w one h) (λ v k. (blocks_kept rest n v one k))

    pub nodes_kept : {m : _} (r : Row_of-Node m) (n : ℕ) (w : Walk) → 1 ≤ n → Kept n w → Always (Kept n) (nodes_walked r w)
    nodes_kept end_of-Node n w one h = (always_ok (Kept n) w h)
    nodes_kept (more_of-Node p s rest) n w one h =
        always_then (Kept n) (Kept n) _ _ (stmt_kept s n w (omega arith) h)
        (λ v k. (nodes_kept rest n v one k))
