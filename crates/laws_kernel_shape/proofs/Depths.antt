-- A program that breaks no rule on names has its code in the outermost block.
use Rattle.std.proofs.Common.{◌≡◌, refl, ℕ, suc, ◌≤◌, length, arith, List, [], Option, Some, None, Ok}
use Rattle.std.specs.Prelude.{⊤}
use Rattle.ceu_base.specs.declared.kinds.Rule.{Rule}
use Rattle.ceu_base.specs.declared.kinds.Ty.{Ty}
use Rattle.ceu_base.specs.declared.kinds.Ty.TheVariants as ty
use Rattle.ceu_tree.specs.declared.source.Class.{Class}
use Rattle.ceu_tree.specs.declared.source.Class.TheVariants as class
use Rattle.ceu_tree.specs.declared.source.Ident.{Ident}
use Rattle.ceu_tree.specs.declared.source.Param.{Param}
use Rattle.ceu_tree.specs.declared.source.Call.{Call}
use Rattle.ceu_tree.specs.declared.source.Spawn.{Spawn}
use Rattle.ceu_tree.specs.declared.source.Label.{Label}
use Rattle.ceu_tree.specs.declared.source.Label.TheVariants as label
use Rattle.ceu_tree.specs.declared.source.Target.{Target}
use Rattle.ceu_tree.specs.declared.source.Target.TheVariants as target
use Rattle.ceu_tree.specs.declared.source.Await.{Await}
use Rattle.ceu_tree.specs.declared.source.Await.TheVariants as await
use Rattle.ceu_tree.specs.declared.source.Exp.{Exp}
use Rattle.ceu_tree.specs.declared.source.ExpNode as exp
use Rattle.ceu_tree.specs.declared.source.ExpNode.{ExpNode, One', Two', As', Row_of-Exp, end_of-Exp, more_of-Exp}
use Rattle.ceu_tree.specs.declared.source.Source as source
use Rattle.ceu_tree.specs.declared.source.Source.{Source}
use Rattle.ceu_tree.specs.declared.source.Item.{Held-Item-value, Item-value-None', Item-value-Some'}
use Rattle.ceu_tree.specs.declared.source.Do.{Do, Do'}
use Rattle.ceu_tree.specs.declared.source.Block.{Block, Block', Row_of-Node, end_of-Node, more_of-Node}
use Rattle.ceu_tree.specs.declared.source.Arm.{Arm, Arm'}
use Rattle.ceu_tree.specs.declared.source.Range.{Range, Range'}
use Rattle.ceu_tree.specs.declared.source.Stmt as stmt
use Rattle.ceu_tree.specs.declared.source.Stmt.{Stmt, Vars', If', Par', Row_of-Item, end_of-Item, more_of-Item, Row_of-Arm, end_of-Arm, more_of-Arm, Row_of-Block, end_of-Block, more_of-Block, Held-Stmt-If-1, Stmt-If-1-None', Stmt-If-1-Some'}
use Rattle.ceu_tree.specs.declared.source.Tree.{Tree}
use Rattle.ceu_scopes.specs.declared.known.Known.{Known}
use Rattle.ceu_scopes.specs.declared.known.Role.TheVariants as role
use Rattle.ceu_scopes.specs.declared.known.Scopes.{Scopes}
use Rattle.ceu_scopes.specs.declared.scope.Border.{Border}
use Rattle.ceu_scopes.specs.declared.scope.Border.TheVariants.{Plain, Async, Body}
use Rattle.ceu_scopes.specs.declared.walk.Walk.{Walk}
use Rattle.ceu_scopes.specs.Shown.{added, rest_of}
use Rattle.ceu_scopes.specs.Walk.{Step, ◌>>=◌, opened, closed, shown, fresh}
use Rattle.ceu_scopes.specs.Rules.{used, named, pool_used, inside_broken, declared, label_broken}
use Rattle.ceu_scopes.specs.Names.{node_walked, operand_walked, exp_walked, exps_walked, if_exp_walked, call_walked, spawned, spawn_walked, if_spawn_walked, target_walked, await_walked, ident_declared, port_declared, param_declared, pool_declared, start_broken, alias_declared, pool_walked, alias_walked, value_broken, params_opened, labelled, unlabelled, escape_walked, name_listed, target_assigned, code_opened, every_walked, stmt_walked, source_walked, value_walked, do_walked, block_walked, arm_walked, last_walked, range_walked, items_walked, arms_walked, blocks_walked, nodes_walked, fresh_walk, gathered, scopes_of}
use Rattle.laws_kernel_shape.proofs.Codes.{NoCode, NoCodeInSource, NoCodeInValue, NoCodeInDo, NoCodeInBlock, NoCodeInArm, NoCodeInLast, NoCodeInRange, NoCodeInItems, NoCodeInArms, NoCodeInBlocks, NoCodeInNodes, Outermost, OutermostNodes, OutermostBlock, CodesOutermost}
use Rattle.laws_kernel_shape.proofs.Steps.{Always, always_ok, always_checked, always_then, always_each, Deep, DeepOf, used_deep, named_deep, pool_deep, alias_deep, declared_deep, inside_deep, shown_deep, opened_deep, closed_deep}

-- ---- parts that open no block

mutual
  unfolding node_walked

  node_deep : (e : ExpNode) (n : ℕ) (w : Walk) → Deep n w → Always (Deep n) (node_walked e w)
  node_deep (exp.Number k) n w h = always_ok (Deep n) w h
  node_deep (exp.Bool b) n w h = always_ok (Deep n) w h
  node_deep (exp.Var x) n w h = named_deep role.Read x n w h
  node_deep (exp.Alive x) n w h = named_deep role.Asked x n w h
  node_deep (One' op _ a) n w h = operand_deep a n w h
  node_deep (Two' op _ a _ b) n w h = always_then (Deep n) (Deep n) (operand_walked a w) (operand_walked b) (operand_deep a n w h) (λ v k. operand_deep b n v k)
  node_deep (As' _ a t) n w h = operand_deep a n w h

  operand_deep : {m : _} (r : Row_of-Exp m) (n : ℕ) (w : Walk) → Deep n w → Always (Deep n) (operand_walked r w)
  operand_deep end_of-Exp n w h = always_ok (Deep n) w h
  operand_deep (more_of-Exp p e rest) n w h = node_deep e n w h

exp_deep : (n : ℕ) (e : Exp) (w : Walk) → Deep n w → Always (Deep n) (exp_walked e w)
exp_deep n e w h = node_deep e.node n w h

exps_deep : (n : ℕ) (es : List Exp) (w : Walk) → Deep n w → Always (Deep n) (exps_walked es w)
exps_deep n es w h = always_each (Deep n) exp_walked (exp_deep n) es w h

if_exp_deep : (n : ℕ) (e : Option Exp) (w : Walk) → Deep n w → Always (Deep n) (if_exp_walked e w)
if_exp_deep n None w h = always_ok (Deep n) w h
if_exp_deep n (Some e) w h = exp_deep n e w h

call_deep : (n : ℕ) (c : Call) (w : Walk) → Deep n w → Always (Deep n) (call_walked c w)
call_deep n c w h = always_then (Deep n) (Deep n) (named role.Code c.code w) (exps_walked c.args) (named_deep role.Code c.code n w h) (λ v k. exps_deep n c.args v k)

spawned_deep : (n : ℕ) (s : Spawn) (p : Known × Walk) → DeepOf n p → Always (Deep n) (spawned s p)
spawned_deep n s p h = always_then (Deep n) (Deep n) (exps_walked s.call.args p.1) (pool_used p.0.number s.pool) (exps_deep n s.call.args p.1 h) (λ v k. pool_deep p.0.number s.pool n v k)

spawn_deep : (n : ℕ) (s : Spawn) (w : Walk) → Deep n w → Always (Deep n) (spawn_walked s w)
spawn_deep n s w h = always_then (DeepOf n) (Deep n) (used role.Code s.call.code w) (spawned s) (used_deep role.Code s.call.code n w h) (λ p k. spawned_deep n s p k)

if_spawn_deep : (n : ℕ) (s : Option Spawn) (w : Walk) → Deep n w → Always (Deep n) (if_spawn_walked s w)
if_spawn_deep n None w h = always_ok (Deep n) w h
if_spawn_deep n (Some s) w h = spawn_deep n s w h

target_deep : (n : ℕ) (x : Target) (w : Walk) → Deep n w → Always (Deep n) (target_walked x w)
target_deep n (target.Ext x) w h = named_deep role.Input x n w h
target_deep n (target.Event x) w h = named_deep role.Event x n w h
target_deep n (target.Time us) w h = always_ok (Deep n) w h
target_deep n (target.TimeExp e u) w h = exp_deep n e w h

await_deep : (n : ℕ) (a : Await) (w : Walk) → Deep n w → Always (Deep n) (await_walked a w)
await_deep n await.Forever w h = always_ok (Deep n) w h
await_deep n (await.Code c) w h = call_deep n c w h
await_deep n (await.On x until) w h = always_then (Deep n) (Deep n) (target_walked x w) (if_exp_walked until) (target_deep n x w h) (λ v k. if_exp_deep n until v k)

ident_deep : (c : Class) (t : Ty) (r : Option Rule) (n : ℕ) (x : Ident) (w : Walk) → Deep n w → Always (Deep n) (ident_declared c t r x w)
ident_deep c t r n x w h = always_then (Deep n) (Deep n) (declared c t r x w) (shown x (fresh c 0 w)) (declared_deep c t r x n w h) (λ v k. shown_deep x (fresh c 0 w) n v k)

pool_declared_deep : (n : ℕ) (x : Ident) (p : Known × Walk) → DeepOf n p → Always (Deep n) (pool_declared x p)
pool_declared_deep n x p h =
    always_then (Deep n) (Deep n) (declared class.Pool ty.None None x p.1) (shown x (fresh class.Pool p.0.number p.1)) (declared_deep class.Pool ty.None None x n p.1 h)
    (λ v k. shown_deep x (fresh class.Pool p.0.number p.1) n v k)

alias_declared_deep : (n : ℕ) (x : Ident) (start : Option Spawn) (p : Known × Walk) → DeepOf n p → Always (Deep n) (alias_declared x start p)
alias_declared_deep n x start p h =
    let alias = fresh class.Alias p.0.number p.1 in
    let r = start_broken p.1.scopes start alias in
    always_then (Deep n) (Deep n) (declared class.Alias ty.None r x p.1 >>= if_spawn_walked start) (shown x alias)
    (always_then (Deep n) (Deep n) (declared class.Alias ty.None r x p.1) (if_spawn_walked start) (declared_deep class.Alias ty.None r x n p.1 h) (λ v k. if_spawn_deep n start v k))
    (λ v k. shown_deep x alias n v k)

pool_walked_deep : (n : ℕ) (code x : Ident) (w : Walk) → Deep n w → Always (Deep n) (pool_walked code x w)
pool_walked_deep n code x w h = always_then (DeepOf n) (Deep n) (used role.Code code w) (pool_declared x) (used_deep role.Code code n w h) (λ p k. pool_declared_deep n x p k)

alias_walked_deep : (n : ℕ) (code x : Ident) (start : Option Spawn) (w : Walk) → Deep n w → Always (Deep n) (alias_walked code x start w)
alias_walked_deep n code x start w h =
    always_then (DeepOf n) (Deep n) (used role.Code code w) (alias_declared x start) (used_deep role.Code code n w h) (λ p k. alias_declared_deep n x start p k)

assigned_deep : (n : ℕ) (s : Source) (x : Ident) (w : Walk) → Deep n w → Always (Deep n) (target_assigned s x w)
assigned_deep n (source.Start s) x w h = alias_deep s x n w h
assigned_deep n (source.Value e) x w h = named_deep role.Written x n w h
assigned_deep n (source.Wait a) x w h = named_deep role.Written x n w h
assigned_deep n (source.Done d) x w h = named_deep role.Written x n w h

escape_deep : (n : ℕ) (l : Option Ident) (w : Walk) → Deep n w → Always (Deep n) (escape_walked l w)
escape_deep n None w h = always_ok (Deep n) w h
escape_deep n (Some l) w h = always_checked (Deep n) (label_broken w.labels l) l.pos w h

every_deep : (n : ℕ) (x : Option Ident) (t : Target) (w : Walk) → Deep n w → Always (Deep n) (every_walked x t w)
every_deep n None t w h = target_deep n t w h
every_deep n (Some x) t w h = always_then (Deep n) (Deep n) (named role.Written x w) (target_walked t) (named_deep role.Written x n w h) (λ v k. target_deep n t v k)

labelled_deep : (n : ℕ) (l : Label) (w : Walk) → Deep n w → Deep n (labelled l w)
labelled_deep n label.Plain w h = h
labelled_deep n label.Under w h = h
labelled_deep n (label.Named l) w h = h

unlabelled_deep : (n : ℕ) (l : Label) (w : Walk) → Deep n w → Always (Deep n) (unlabelled l w)
unlabelled_deep n label.Plain w h = always_ok (Deep n) w h
unlabelled_deep n label.Under w h = always_ok (Deep n) w h
unlabelled_deep n (label.Named l) w h = always_ok (Deep n) (record w { labels = rest_of w.labels }) h

-- the list of an async, with the numbers so far
abbrev DeepWith : ℕ → List ℕ × Walk → Type 0
DeepWith n p = Deep n p.1

listed_deep : (n : ℕ) (x : Ident) (p : List ℕ × Walk) → DeepWith n p → Always (DeepWith n) (name_listed x p)
listed_deep n x p h =
    always_then (DeepOf n) (DeepWith n) (used role.Listed x p.1) _ (used_deep role.Listed x n p.1 h) (λ q k. always_ok (DeepWith n) (added p.0 q.0.number, q.1) k)

-- ---- statements: of the outermost block, and further in

-- what a statement is, where so many blocks are open
abbrev Stands : ℕ → Stmt → Type 0
Stands n st = Outermost st × (2 ≤ n → NoCode st)

abbrev Both : Type 0 → ℕ → Walk → Type 0
Both Q n w = Q × Deep n w

-- the fact is known, and the walk goes on
with_fact : {Q : Type 0} (n : ℕ) (x : Step) → Q → Always (Deep n) x → Always (Both Q n) x
with_fact n x q h v e = (q, h v e)

leaf : (n : ℕ) (x : Step) → Always (Deep n) x → Always (Both (⊤ × (2 ≤ n → ⊤)) n) x
leaf n x h v e = ((tt, λ two. tt), h v e)

whole : {Q : Type 0} (n : ℕ) (x : Step) → Always (Both Q n) x → Always (Both (Q × (2 ≤ n → Q)) n) x
whole n x h v e = let k = h v e in ((k.0, λ two. k.0), k.1)

pair_with : {P Q : Type 0} (n : ℕ) (x : Step) → P → Always (Both Q n) x → Always (Both (P × Q) n) x
pair_with n x p h v e = let k = h v e in ((p, k.0), k.1)

code_never : (x : Ident) (ps : List Param) (t : Ty) (b : Block) (n : ℕ) (w : Walk) → Deep n w → 2 ≤ n →
    Always (λ v. ⊥) (code_opened x ps t w >>= block_walked b Plain >>= closed >>= shown x (fresh class.Code 0 w))
code_never x ps t b n w h two =
    let deep : 2 ≤ length w.scopes = omega (arith, h) in
    always_then (λ v. ⊥) (λ v. ⊥) _ _
    (always_then (λ v. ⊥) (λ v. ⊥) _ _
    (always_then (λ v. ⊥) (λ v. ⊥) _ _
    (always_then (λ v. ⊥) (λ v. ⊥) _ _ (inside_deep class.Code t x w (λ v. ⊥) deep) (λ v k. absurd k))
    (λ v k. absurd k))
    (λ v k. absurd k))
    (λ v k. absurd k)

params_deep : (x : List ℕ) (ps : List Param) (n : ℕ) (w : Walk) → Deep n w → Always (Deep (suc n)) (params_opened x ps w)
params_deep x ps n w h = always_each (Deep (suc n)) param_declared (λ p v k. ident_deep class.Param p.ty None (suc n) p.name v k) ps (opened (Body x) w) (opened_deep (Body x) n w h)

code_deep : (x : Ident) (ps : List Param) (t : Ty) (b : Block) (n : ℕ) (w : Walk) →
    ((v : Walk) → Deep (suc n) v → Always (Both (NoCodeInBlock b) (suc n)) (block_walked b Plain v)) → Deep n w →
    Always (Both (NoCodeInBlock b) n) (code_opened x ps t w >>= block_walked b Plain >>= closed >>= shown x (fresh class.Code 0 w))
code_deep x ps t b n w inner h =
    always_then (Both (NoCodeInBlock b) n) (Both (NoCodeInBlock b) n) _ _
    (always_then (Both (NoCodeInBlock b) (suc n)) (Both (NoCodeInBlock b) n) _ _
    (always_then (Deep (suc n)) (Both (NoCodeInBlock b) (suc n)) _ _
    (always_then (Deep n) (Deep (suc n)) _ _ (declared_deep class.Code t (inside_broken w.scopes) x n w h) (λ v k. params_deep x.name ps n v k))
    inner)
    (λ v k. with_fact n _ k.0 (closed_deep n v k.1)))
    (λ v k. with_fact n _ k.0 (shown_deep x (fresh class.Code 0 w) n v k.1))

mutual
  unfolding stmt_walked NoCode Outermost

  stmt_deep : (st : Stmt) (n : ℕ) (w : Walk) → 1 ≤ n → Deep n w → Always (Both (Stands n st) n) (stmt_walked st w)
  stmt_deep stmt.Nothing n w one h = leaf n _ (always_ok (Deep n) w h)
  stmt_deep stmt.Break n w one h = leaf n _ (always_ok (Deep n) w h)
  stmt_deep stmt.Continue n w one h = leaf n _ (always_ok (Deep n) w h)
  stmt_deep (Vars' t _ items) n w one h = whole n _ (items_deep items t n w one h)
  stmt_deep (stmt.AliasDecl code x start) n w one h = leaf n _ (alias_walked_deep n code x start w h)
  stmt_deep (stmt.Events t xs) n w one h = leaf n _ (always_each (Deep n) (ident_declared class.Event t None) (ident_deep class.Event t None n) xs w h)
  stmt_deep (stmt.Inputs t xs) n w one h = leaf n _ (always_each (Deep n) (port_declared class.Input t) (λ x v k. ident_deep class.Input t (inside_broken v.scopes) n x v k) xs w h)
  stmt_deep (stmt.Outputs t xs) n w one h = leaf n _ (always_each (Deep n) (port_declared class.Output t) (λ x v k. ident_deep class.Output t (inside_broken v.scopes) n x v k) xs w h)
  stmt_deep (stmt.Pool places code x) n w one h = leaf n _ (pool_walked_deep n code x w h)
  stmt_deep (stmt.Code x ps t b) n w one h =
      λ v e. let k = code_deep x ps t b n w (λ u d. block_deep b Plain (suc n) u (omega arith) d) h v e in ((k.0, λ two. code_never x ps t b n w h two v e), k.1)
  stmt_deep (stmt.Assign x s) n w one h =
      whole n _ (always_then (Deep n) (Both (NoCodeInSource s) n) _ _ (assigned_deep n s x w h) (λ v k. source_deep s n v one k))
  stmt_deep (stmt.Emit x e) n w one h = leaf n _ (always_then (Deep n) (Deep n) _ _ (named_deep role.Emitted x n w h) (λ v k. if_exp_deep n e v k))
  stmt_deep (stmt.Await a) n w one h = leaf n _ (await_deep n a w h)
  stmt_deep (stmt.Spawn s) n w one h = leaf n _ (spawn_deep n s w h)
  stmt_deep (stmt.Kill x) n w one h = leaf n _ (named_deep role.Alias x n w h)
  stmt_deep (stmt.Escape l e) n w one h = leaf n _ (always_then (Deep n) (Deep n) _ _ (escape_deep n l w h) (λ v k. if_exp_deep n e v k))
  stmt_deep (stmt.Do d) n w one h = whole n _ (do_deep d n w one h)
  stmt_deep (stmt.Finalize b) n w one h = whole n _ (block_deep b Plain n w one h)
  stmt_deep (If' _ arms last) n w one h =
      whole n _ (always_then (Both (NoCodeInArms arms) n) (Both (NoCodeInArms arms × NoCodeInLast last) n) _ _ (arms_deep arms n w one h) (λ v k. pair_with n _ k.0 (last_deep last n v one k.1)))
  stmt_deep (stmt.Loop limit b) n w one h = whole n _ (block_deep b Plain n w one h)
  stmt_deep (stmt.Range r) n w one h = whole n _ (range_deep r n w one h)
  stmt_deep (stmt.Every x t b) n w one h = whole n _ (always_then (Deep n) (Both (NoCodeInBlock b) n) _ _ (every_deep n x t w h) (λ v k. block_deep b Plain n v one k))
  stmt_deep (stmt.Watching t b) n w one h = whole n _ (always_then (Deep n) (Both (NoCodeInBlock b) n) _ _ (target_deep n t w h) (λ v k. block_deep b Plain n v one k))
  stmt_deep (Par' k _ bs) n w one h = whole n _ (blocks_deep bs n w one h)
  stmt_deep (stmt.Async xs b) n w one h =
      whole n _ (always_then (DeepWith n) (Both (NoCodeInBlock b) n) _ _ (always_each (DeepWith n) name_listed (listed_deep n) xs ([], w) h) (λ p k. block_deep b (Async p.0) n p.1 one k))

  source_deep : (s : Source) (n : ℕ) (w : Walk) → 1 ≤ n → Deep n w → Always (Both (NoCodeInSource s) n) (source_walked s w)
  source_deep (source.Value e) n w one h = with_fact n _ tt (exp_deep n e w h)
  source_deep (source.Wait a) n w one h = with_fact n _ tt (await_deep n a w h)
  source_deep (source.Start s) n w one h = with_fact n _ tt (spawn_deep n s w h)
  source_deep (source.Done d) n w one h = do_deep d n w one h

  value_deep : (v : Held-Item-value) (n : ℕ) (w : Walk) → 1 ≤ n → Deep n w → Always (Both (NoCodeInValue v) n) (value_walked v w)
  value_deep Item-value-None' n w one h = with_fact n _ tt (always_ok (Deep n) w h)
  value_deep (Item-value-Some' s) n w one h = source_deep s n w one h

  do_deep : (d : Do) (n : ℕ) (w : Walk) → 1 ≤ n → Deep n w → Always (Both (NoCodeInDo d) n) (do_walked d w)
  do_deep (Do' l b) n w one h =
      always_then (Both (NoCodeInBlock b) n) (Both (NoCodeInBlock b) n) _ _ (block_deep b Plain n (labelled l w) one (labelled_deep n l w h)) (λ v k. with_fact n _ k.0 (unlabelled_deep n l v k.1))

  block_deep : (b : Block) (border : Border) (n : ℕ) (w : Walk) → 1 ≤ n → Deep n w → Always (Both (NoCodeInBlock b) n) (block_walked b border w)
  block_deep (Block' _ list) border n w one h =
      always_then (Both (NoCodeInNodes list) (suc n)) (Both (NoCodeInNodes list) n) _ _ (nodes_deep list (suc n) (opened border w) (omega arith) (opened_deep border n w h))
      (λ v k. with_fact n _ k.0 (closed_deep n v k.1))

  arm_deep : (a : Arm) (n : ℕ) (w : Walk) → 1 ≤ n → Deep n w → Always (Both (NoCodeInArm a) n) (arm_walked a w)
  arm_deep (Arm' c b) n w one h = always_then (Deep n) (Both (NoCodeInBlock b) n) _ _ (exp_deep n c w h) (λ v k. block_deep b Plain n v one k)

  last_deep : (b : Held-Stmt-If-1) (n : ℕ) (w : Walk) → 1 ≤ n → Deep n w → Always (Both (NoCodeInLast b) n) (last_walked b w)
  last_deep Stmt-If-1-None' n w one h = with_fact n _ tt (always_ok (Deep n) w h)
  last_deep (Stmt-If-1-Some' b) n w one h = block_deep b Plain n w one h

  range_deep : (r : Range) (n : ℕ) (w : Walk) → 1 ≤ n → Deep n w → Always (Both (NoCodeInRange r) n) (range_walked r w)
  range_deep (Range' x _ a b _ body) n w one h =
      always_then (Both (NoCodeInBlock body) (suc n)) (Both (NoCodeInBlock body) n) _ _
      (always_then (Deep (suc n)) (Both (NoCodeInBlock body) (suc n)) _ _
      (always_then (Deep n) (Deep (suc n)) _ _
      (always_then (Deep n) (Deep n) _ _ (exp_deep n a w h) (λ v k. exp_deep n b v k))
      (λ v k. ident_deep class.LoopVar ty.S32 None (suc n) x (opened Plain v) (opened_deep Plain n v k)))
      (λ v k. block_deep body Plain (suc n) v (omega arith) k))
      (λ v k. with_fact n _ k.0 (closed_deep n v k.1))

  items_deep : {m : _} (r : Row_of-Item m) (t : Ty) (n : ℕ) (w : Walk) → 1 ≤ n → Deep n w → Always (Both (NoCodeInItems r) n) (items_walked r t w)
  items_deep end_of-Item t n w one h = with_fact n _ tt (always_ok (Deep n) w h)
  items_deep (more_of-Item x v rest) t n w one h =
      always_then (Both (NoCodeInValue v) n) (Both (NoCodeInValue v × NoCodeInItems rest) n) _ _
      (always_then (Both (NoCodeInValue v) n) (Both (NoCodeInValue v) n) _ _
      (always_then (Deep n) (Both (NoCodeInValue v) n) _ _ (declared_deep class.Var t (value_broken v) x n w h) (λ u k. value_deep v n u one k))
      (λ u k. with_fact n _ k.0 (shown_deep x (fresh class.Var 0 w) n u k.1)))
      (λ u k. pair_with n _ k.0 (items_deep rest t n u one k.1))

  arms_deep : {m : _} (r : Row_of-Arm m) (n : ℕ) (w : Walk) → 1 ≤ n → Deep n w → Always (Both (NoCodeInArms r) n) (arms_walked r w)
  arms_deep end_of-Arm n w one h = with_fact n _ tt (always_ok (Deep n) w h)
  arms_deep (more_of-Arm a rest) n w one h =
      always_then (Both (NoCodeInArm a) n) (Both (NoCodeInArm a × NoCodeInArms rest) n) _ _ (arm_deep a n w one h) (λ v k. pair_with n _ k.0 (arms_deep rest n v one k.1))

  blocks_deep : {m : _} (r : Row_of-Block m) (n : ℕ) (w : Walk) → 1 ≤ n → Deep n w → Always (Both (NoCodeInBlocks r) n) (blocks_walked r w)
  blocks_deep end_of-Block n w one h = with_fact n _ tt (always_ok (Deep n) w h)
  blocks_deep (more_of-Block b rest) n w one h =
      always_then (Both (NoCodeInBlock b) n) (Both (NoCodeInBlock b × NoCodeInBlocks rest) n) _ _ (block_deep b Plain n w one h) (λ v k. pair_with n _ k.0 (blocks_deep rest n v one k.1))

  nodes_deep : {m : _} (r : Row_of-Node m) (n : ℕ) (w : Walk) → 2 ≤ n → Deep n w → Always (Both (NoCodeInNodes r) n) (nodes_walked r w)
  nodes_deep end_of-Node n w two h = with_fact n _ tt (always_ok (Deep n) w h)
  nodes_deep (more_of-Node p s rest) n w two h =
      always_then (Both (Stands n s) n) (Both (NoCode s × NoCodeInNodes rest) n) _ _ (stmt_deep s n w (omega arith) h)
      (λ v k. pair_with n _ ((k.0.1 two)) (nodes_deep rest n v two k.1))

outermost_nodes : {m : _} (r : Row_of-Node m) (w : Walk) → Deep 1 w → Always (Both (OutermostNodes r) 1) (nodes_walked r w)
unfolding stmt_walked OutermostNodes
outermost_nodes end_of-Node w h = with_fact 1 _ tt (always_ok (Deep 1) w h)
outermost_nodes (more_of-Node p s rest) w h =
    always_then (Both (Stands 1 s) 1) (Both (Outermost s × OutermostNodes rest) 1) _ _ (stmt_deep s 1 w (omega arith) h)
    (λ v k. pair_with 1 _ k.0.0 (outermost_nodes rest v k.1))

outermost_block : (b : Block) → Always (λ v. OutermostBlock b) (block_walked b Plain fresh_walk)
unfolding stmt_walked OutermostBlock
outermost_block (Block' _ list) =
    always_then (Both (OutermostNodes list) 1) (λ v. OutermostNodes list) _ _ (outermost_nodes list (opened Plain fresh_walk) (opened_deep Plain 0 fresh_walk refl)) (λ v k u e. k.0)

pub codes_outermost : (tree : Tree) (s : Scopes) → scopes_of tree ≡ Ok s → CodesOutermost tree
codes_outermost tree s h =
    always_then (λ v. OutermostBlock tree.body) (λ sc. OutermostBlock tree.body) (block_walked tree.body Plain fresh_walk) gathered (outermost_block tree.body) (λ v k u e. k) s h
