-- What the searches over a kernel find is there: targets of escapes in a proper kernel, and pools where each block has its gates.
use Rattle.std.proofs.Common.{ℕ, ◌<◌, ◌≤◌, Bool, true, false, ◌&&◌, ◌==◌, if◌then◌else◌, IsTrue, nat_le, List, [], ◌∷◌, ◌++◌, length, Option, Some, None, arith}
use Rattle.std.specs.List.{list_all}
use Rattle.std.proofs.lemmas.Bool.{and_parts}
use Rattle.ceu_base.specs.declared.kinds.Ty.TheVariants as ty
use Rattle.ceu_tree.specs.declared.kernel.Kernel.{Kernel}
use Rattle.ceu_tree.specs.declared.kernel.KCode.{KCode}
use Rattle.ceu_tree.specs.declared.kernel.KDecl.{KDecl}
use Rattle.ceu_tree.specs.declared.kernel.KKind.{KKind}
use Rattle.ceu_tree.specs.declared.kernel.KKind.TheVariants as kind
use Rattle.ceu_tree.specs.declared.kernel.KLoop.{KLoop}
use Rattle.ceu_tree.specs.declared.kernel.KLoop.TheVariants as turns
use Rattle.ceu_tree.specs.declared.kernel.Loc.{Loc}
use Rattle.ceu_tree.specs.declared.kernel.KBlock.{KBlock, KBlock', out-KBlock, Row_of-KNode, end_of-KNode, more_of-KNode}
use Rattle.ceu_tree.specs.declared.kernel.KArm.{KArm, KArm'}
use Rattle.ceu_tree.specs.declared.kernel.KStmt.{KStmt, Row_of-KArm, end_of-KArm, more_of-KArm, Row_of-KBlock, end_of-KBlock, more_of-KBlock, Async, Finalize, Do, If', Loop, Par'}
use Rattle.ceu_tree.specs.Mentions.{all_set}
use Rattle.ceu_tree.specs.Needs.{nodes_finalizers}
use Rattle.ceu_tree.specs.Numbering.{decl_slots, loop_slots, par_slots, row_length, stmt_slots, block_slots, arm_slots, list_slots, arms_slots, blocks_slots}
use Rattle.ceu_tree.specs.Proper.{Scope, LoopAim, is_trail, outside_finalizers, declared_seen, pool_slots, pools_seen, takes, loop_ok, par_ok, gives, with_decls, with_turns, with_aim, do_aim, in_async, in_finalizer, decl_ok, stmt_ok, block_ok, arm_ok, nodes_ok, arms_ok, blocks_ok}
use Rattle.ceu_gates.specs.declared.plan.GatePlan.{GatePlan}
use Rattle.ceu_slots.specs.Plans.{Planned}
use Rattle.ceu_shape.specs.Searches.{or_else, target_if, stmt_target, block_target, arm_target, nodes_target, arms_target, blocks_target, PoolRow, pool_of, decls_pools, stmt_pools, block_pools, arm_pools, nodes_pools, arms_pools, blocks_pools, codes_pools, kernel_pools, size_in}
use Rattle.ceu_low_flow.specs.Conditions.{TargetFits}
use Rattle.ceu_low_par.specs.Conditions.{AreNodes}
use Rattle.ceu_codegen.specs.Conditions.{PoolFits, PoolsFit, OwnFits}
use Rattle.ceu_codegen.proofs.Each.{StmtEach, BlockEach, ArmEach, NodesEach, ArmsEach, BlocksEach, CodesEach, are_append}
use Rattle.ceu_codegen.proofs.Scopes.{SeenBelow, declared_below, takes_below}

-- ---- the targets of escapes

pub or_fits : (slots : ℕ) (a b : Option Loc) → TargetFits slots a → TargetFits slots b → TargetFits slots (or_else a b)
or_fits slots None b f g = g
or_fits slots (Some l) b f g = f

if_fits : (slots node n : ℕ) (t : Option Loc) → TargetFits slots t → TargetFits slots (target_if node n t)
if_fits slots node n t h = go (n == node)
  where
    go : (b : Bool) → TargetFits slots (if b then t else None)
    go true = h
    go false = tt

module _ (K : Kernel) (names : List (List ℕ)) (slots : ℕ) (outer : SeenBelow slots (declared_seen [] (out-KBlock K.body).decls [])) (node : ℕ) where
  own_target : (sc : Scope) (t : Option Loc) → SeenBelow slots sc.seen → IsTrue (elim t [ None ↦ true | Some l ↦ takes K sc l.ty l ]) → TargetFits slots t
  own_target sc None low ok = tt
  own_target sc (Some l) low ok = takes_below slots K outer sc l.ty l low ok

  turns_seen : (k : KLoop) (sc : Scope) → AreNodes slots (loop_slots k) → SeenBelow slots sc.seen → SeenBelow slots (with_turns K k sc).seen
  turns_seen turns.Free sc low h = h
  turns_seen (turns.Times slot limit) sc low h = h
  turns_seen (turns.Range v next end open_a a b open_b) sc low h = (low.0, h)

  mutual
    unfolding stmt_ok stmt_slots stmt_target

    stmt_finds : (sc : Scope) (n : ℕ) (s : KStmt) → SeenBelow slots sc.seen → IsTrue (stmt_ok K names sc n s) → AreNodes slots (stmt_slots s) → TargetFits slots (stmt_target node n s)
    stmt_finds sc n (Async b) low ok ss = block_finds (in_async K sc) b low (and_parts (is_trail sc.place) _ ok).1 ss
    stmt_finds sc n (Finalize b) low ok ss = block_finds (in_finalizer K sc) b low (and_parts (is_trail sc.place) _ ok).1 ss
    stmt_finds sc n (Do t b) low ok ss =
        let x = and_parts (outside_finalizers sc.place && _) (block_ok K names (with_aim (do_aim K n t) sc) b) ok in
        or_fits slots (target_if node n t) (block_target node b) (if_fits slots node n t (own_target sc t low (and_parts (outside_finalizers sc.place) _ x.0).1)) (block_finds (with_aim (do_aim K n t) sc) b low x.1 ss)
    stmt_finds sc n (If' _ arms last) low ok ss =
        let x = and_parts (outside_finalizers sc.place && arms_ok K names sc arms) (block_ok K names sc last) ok in
        let l = are_append slots (arms_slots arms) (block_slots last) ss in
        or_fits slots (arms_target node arms) (block_target node last) (arms_find sc arms low (and_parts (outside_finalizers sc.place) (arms_ok K names sc arms) x.0).1 l.0) (block_finds sc last low x.1 l.1)
    stmt_finds sc n (Loop k b) low ok ss =
        let l = are_append slots (loop_slots k) (block_slots b) ss in
        block_finds (with_aim (LoopAim n) (with_turns K k sc)) b (turns_seen k sc l.0 low) (and_parts (outside_finalizers sc.place && loop_ok K sc k) (block_ok K names (with_aim (LoopAim n) (with_turns K k sc)) b) ok).1 l.1
    stmt_finds sc n (Par' k slot _ bs) low ok ss =
        blocks_find sc bs low (and_parts (is_trail sc.place && par_ok K k slot (row_length bs)) (blocks_ok K names sc bs) ok).1 (are_append slots (par_slots k slot (row_length bs)) (blocks_slots bs) ss).1
    stmt_finds sc n _ low ok ss = tt

    pub block_finds : (sc : Scope) (b : KBlock) → SeenBelow slots sc.seen → IsTrue (block_ok K names sc b) → AreNodes slots (block_slots b) → TargetFits slots (block_target node b)
    block_finds sc (KBlock' n ds x list) low ok ss =
        let l = are_append slots (decl_slots ds) (list_slots list) ss in
        nodes_find (with_decls ds sc) list (declared_below slots (pool_slots ds ++ pools_seen sc.seen) ds sc.seen l.0 low) (and_parts (list_all (decl_ok K sc) ds && all_set names ds list) (nodes_ok K names (with_decls ds sc) list) ok).1 l.1

    arm_finds : (sc : Scope) (a : KArm) → SeenBelow slots sc.seen → IsTrue (arm_ok K names sc a) → AreNodes slots (arm_slots a) → TargetFits slots (arm_target node a)
    arm_finds sc (KArm' c b) low ok ss = block_finds sc b low (and_parts (gives K sc ty.Bool c) (block_ok K names sc b) ok).1 ss

    nodes_find : {n : _} (sc : Scope) (r : Row_of-KNode n) → SeenBelow slots sc.seen → IsTrue (nodes_ok K names sc r) → AreNodes slots (list_slots r) → TargetFits slots (nodes_target node r)
    nodes_find sc end_of-KNode low ok ss = tt
    nodes_find sc (more_of-KNode n q s rest) low ok ss =
        let x = and_parts (nat_le 1 q.line && nat_le 1 q.col && stmt_ok K names sc n s) (nodes_ok K names sc rest) ok in
        let l = are_append slots (stmt_slots s) (list_slots rest) ss in
        or_fits slots (stmt_target node n s) (nodes_target node rest) (stmt_finds sc n s low (and_parts (nat_le 1 q.line && nat_le 1 q.col) (stmt_ok K names sc n s) x.0).1 l.0) (nodes_find sc rest low x.1 l.1)

    arms_find : {n : _} (sc : Scope) (r : Row_of-KArm n) → SeenBelow slots sc.seen → IsTrue (arms_ok K names sc r) → AreNodes slots (arms_slots r) → TargetFits slots (arms_target node r)
    arms_find sc end_of-KArm low ok ss = tt
    arms_find sc (more_of-KArm a rest) low ok ss =
        let x = and_parts (arm_ok K names sc a) (arms_ok K names sc rest) ok in
        let l = are_append slots (arm_slots a) (arms_slots rest) ss in
        or_fits slots (arm_target node a) (arms_target node rest) (arm_finds sc a low x.0 l.0) (arms_find sc rest low x.1 l.1)

    blocks_find : {n : _} (sc : Scope) (r : Row_of-KBlock n) → SeenBelow slots sc.seen → IsTrue (blocks_ok K names sc r) → AreNodes slots (blocks_slots r) → TargetFits slots (blocks_target node r)
    blocks_find sc end_of-KBlock low ok ss = tt
    blocks_find sc (more_of-KBlock b rest) low ok ss =
        let x = and_parts (block_ok K names sc b) (blocks_ok K names sc rest) ok in
        let l = are_append slots (block_slots b) (blocks_slots rest) ss in
        or_fits slots (block_target node b) (blocks_target node rest) (block_finds sc b low x.0 l.0) (blocks_find sc rest low x.1 l.1)

-- ---- pools

module _ (K : Kernel) where
  -- few places, of a code that is there
  abbrev pub RowFits : PoolRow → Type 0
  RowFits r = (r.size ≤ 65535) × (r.code < length K.codes)

  abbrev pub RowsFit : List PoolRow → Type 0
  RowsFit [] = Unit {0}
  RowsFit (r ∷ rs) = RowFits r × RowsFit rs

  rows_append : (a b : List PoolRow) → RowsFit a → RowsFit b → RowsFit (a ++ b)
  rows_append [] b f g = g
  rows_append (r ∷ a) b f g = (f.0, rows_append a b f.1 g)

  pub size_small : (slot : ℕ) (rs : List PoolRow) → RowsFit rs → size_in slot rs ≤ 65535
  size_small slot [] h = omega arith
  size_small slot (r ∷ rs) h = go (r.slot == slot) h.0.0 (size_small slot rs h.1)
    where
      go : (b : Bool) → r.size ≤ 65535 → size_in slot rs ≤ 65535 → (if b then r.size else size_in slot rs) ≤ 65535
      go true f g = f
      go false f g = g

  module _ (p : Planned) (g : GatePlan) where
    decl_rows : (slot : ℕ) (k : KKind) → PoolFits p.slot_count (length g.first) K slot k → RowsFit (pool_of slot k)
    decl_rows slot (kind.Var t) h = tt
    decl_rows slot (kind.Alias c) h = tt
    decl_rows slot (kind.Pool n c) h = ((h.1, h.2), tt)

    decls_rows : (ds : List KDecl) → PoolsFit p.slot_count (length g.first) K ds → RowsFit (decls_pools ds)
    decls_rows [] h = tt
    decls_rows (d ∷ ds) h = rows_append (pool_of d.slot d.kind) (decls_pools ds) (decl_rows d.slot d.kind h.0) (decls_rows ds h.1)

    mutual
      unfolding stmt_pools StmtEach nodes_finalizers

      stmt_rows : (s : KStmt) → StmtEach (OwnFits p g K) s → RowsFit (stmt_pools s)
      stmt_rows (Async b) h = block_rows b h
      stmt_rows (Finalize b) h = block_rows b h
      stmt_rows (Do t b) h = block_rows b h
      stmt_rows (If' _ arms last) h = rows_append (arms_pools arms) (block_pools last) (arms_rows arms h.0) (block_rows last h.1)
      stmt_rows (Loop k b) h = block_rows b h
      stmt_rows (Par' k slot _ bs) h = blocks_rows bs h
      stmt_rows _ h = tt

      pub block_rows : (b : KBlock) → BlockEach (OwnFits p g K) b → RowsFit (block_pools b)
      block_rows (KBlock' n ds x list) h = rows_append (decls_pools ds) (nodes_pools list) (decls_rows ds h.0.pools) (nodes_rows list h.1)

      arm_rows : (a : KArm) → ArmEach (OwnFits p g K) a → RowsFit (arm_pools a)
      arm_rows (KArm' c b) h = block_rows b h

      nodes_rows : {n : _} (r : Row_of-KNode n) → NodesEach (OwnFits p g K) r → RowsFit (nodes_pools r)
      nodes_rows end_of-KNode h = tt
      nodes_rows (more_of-KNode n q s rest) h = rows_append (stmt_pools s) (nodes_pools rest) (stmt_rows s h.0) (nodes_rows rest h.1)

      arms_rows : {n : _} (r : Row_of-KArm n) → ArmsEach (OwnFits p g K) r → RowsFit (arms_pools r)
      arms_rows end_of-KArm h = tt
      arms_rows (more_of-KArm a rest) h = rows_append (arm_pools a) (arms_pools rest) (arm_rows a h.0) (arms_rows rest h.1)

      blocks_rows : {n : _} (r : Row_of-KBlock n) → BlocksEach (OwnFits p g K) r → RowsFit (blocks_pools r)
      blocks_rows end_of-KBlock h = tt
      blocks_rows (more_of-KBlock b rest) h = rows_append (block_pools b) (blocks_pools rest) (block_rows b h.0) (blocks_rows rest h.1)

    codes_rows : (cs : List KCode) → CodesEach (OwnFits p g K) cs → RowsFit (codes_pools cs)
    codes_rows [] h = tt
    codes_rows (c ∷ cs) h = rows_append (block_pools c.body) (codes_pools cs) (block_rows c.body h.0) (codes_rows cs h.1)

    pub kernel_rows : BlockEach (OwnFits p g K) K.body → CodesEach (OwnFits p g K) K.codes → RowsFit (kernel_pools K)
    unfolding kernel_pools
    kernel_rows f h = rows_append (block_pools K.body) (codes_pools K.codes) (block_rows K.body f) (codes_rows K.codes h)
