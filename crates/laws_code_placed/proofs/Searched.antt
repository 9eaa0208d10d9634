-- What a search of a proper kernel finds is there: the target of what an escape leaves, and the places of a pool.
use Rattle.std.proofs.Common.{◌≡◌, refl, sym, ap, ◌∙◌, ℕ, ◌+◌, ◌≤◌, Bool, true, false, ◌&&◌, if◌then◌else◌, ◌==◌, List, [], ◌∷◌, ◌++◌, Option, Some, None, arith}
use Rattle.std.specs.List.{AllByRecursion, list_all}
use Rattle.std.proofs.lemmas.Bool.{and_parts, false≢true}
use Rattle.ceu_base.specs.declared.kinds.Ty.TheVariants as ty
use Rattle.ceu_tree.specs.declared.kernel.Kernel.{Kernel}
use Rattle.ceu_tree.specs.declared.kernel.KCode.{KCode}
use Rattle.ceu_tree.specs.declared.kernel.KDecl.{KDecl}
use Rattle.ceu_tree.specs.declared.kernel.KKind.{KKind}
use Rattle.ceu_tree.specs.declared.kernel.KKind.TheVariants as kind
use Rattle.ceu_tree.specs.declared.kernel.KLoop.{KLoop}
use Rattle.ceu_tree.specs.declared.kernel.KLoop.TheVariants as turns
use Rattle.ceu_tree.specs.declared.kernel.Loc.{Loc}
use Rattle.ceu_tree.specs.declared.kernel.KBlock.{KBlock, KBlock', Row_of-KNode, end_of-KNode, more_of-KNode}
use Rattle.ceu_tree.specs.declared.kernel.KArm.{KArm, KArm'}
use Rattle.ceu_tree.specs.declared.kernel.KStmt.{KStmt, Row_of-KArm, end_of-KArm, more_of-KArm, Row_of-KBlock, end_of-KBlock, more_of-KBlock, Async, Finalize, Do, If', Loop, Par'}
use Rattle.ceu_tree.specs.Mentions.{all_set}
use Rattle.ceu_tree.specs.Numbering.{decl_slots, loop_slots, par_slots, row_length, stmt_slots, block_slots, arm_slots, list_slots, arms_slots, blocks_slots, codes_slots}
use Rattle.ceu_tree.specs.Proper.{Proper, Scope, LoopAim, with_decls, with_aim, with_turns, do_aim, in_async, in_finalizer, pools_seen, pool_slots, decl_ok, takes, loop_ok, is_trail, outside_finalizers, gives, is_parameter, stmt_ok, block_ok, arm_ok, nodes_ok, arms_ok, blocks_ok, body_scope, codes_ok}
use Rattle.ceu_slots.specs.Law.{StmtSized, BlockSized, ArmSized, NodesSized, ArmsSized, BlocksSized, FramesKept}
use Rattle.ceu_shape.specs.Plans.{Plan}
use Rattle.ceu_shape.specs.Searches.{or_else, target_if, stmt_target, block_target, arm_target, nodes_target, arms_target, blocks_target, codes_target, escape_target, PoolRow, pool_of, decls_pools, stmt_pools, block_pools, arm_pools, nodes_pools, arms_pools, blocks_pools, codes_pools, kernel_pools, size_in, pool_size}
use Rattle.laws_code_placed.specs.Fits.{PlanFits}
use Rattle.laws_code_placed.specs.There.{SlotThere, TargetThere, PoolThere, DeclsThere}
use Rattle.laws_code_placed.proofs.Slots.{all_join, all_split}
use Rattle.laws_code_placed.proofs.Scopes.{AllSeen, OuterFine, SlotsThere, declared_fine, parameters_fine, takes_there}
use Rattle.laws_code_placed.proofs.Declared.{trail_outside, BodiesThere, decls_there}

module _ (P : Plan) (K : Kernel) (fits : PlanFits P K) (proper : Proper K) (outer : OuterFine P K) (bodies : BodiesThere P K fits proper) (names : List (List ℕ)) where
  abbrev Few : PoolRow → Type 0
  Few r = r.size ≤ 65535

  -- what searches for any node find in a part, and the pools in it
  pub record Found (target : (node : ℕ) → Option Loc) (pools : List PoolRow) : Type 0 where
    pub targets : (node : ℕ) → TargetThere P K (target node)
    pub few : AllByRecursion Few pools

  either : (a b : Option Loc) → TargetThere P K a → TargetThere P K b → TargetThere P K (or_else a b)
  either None b f g = g
  either (Some l) b f g = f

  found_none : Found (λ node. None) []
  found_none = record { targets = λ node. tt; few = tt }

  found_both : (f g : ℕ → Option Loc) (a b : List PoolRow) → Found f a → Found g b → Found (λ node. or_else (f node) (g node)) (a ++ b)
  found_both f g a b x y = record { targets = λ node. either (f node) (g node) (x.targets node) (y.targets node); few = all_join Few a b x.few y.few }

  found_at : (n : ℕ) (t : Option Loc) (f : ℕ → Option Loc) (a : List PoolRow) → TargetThere P K t → Found f a → Found (λ node. or_else (target_if node n t) (f node)) a
  found_at n t f a h x = record { targets = λ node. either (target_if node n t) (f node) (go (n == node)) (x.targets node); few = x.few }
    where
      go : (b : Bool) → TargetThere P K (if b then t else None)
      go true = h
      go false = tt

  pool_few : (slot : ℕ) (k : KKind) (rest : List PoolRow) → PoolThere P K k → AllByRecursion Few rest → AllByRecursion Few (pool_of slot k ++ rest)
  pool_few slot (kind.Var t) rest h more = more
  pool_few slot (kind.Alias c) rest h more = more
  pool_few slot (kind.Pool n c) rest h more = (h.0, more)

  pools_few : (ds : List KDecl) → DeclsThere P K ds → AllByRecursion Few (decls_pools ds)
  pools_few [] h = tt
  pools_few (d ∷ ds) h = pool_few d.slot d.kind (decls_pools ds) h.0.1 (pools_few ds h.1)

  abbrev Sized : KBlock → Type 0
  Sized b = BlockSized P.offset fits.size P.frame b

  pub turns_seen : (k : KLoop) (sc : Scope) → AllSeen P K sc.seen → SlotsThere P K (loop_slots k) → AllSeen P K (with_turns K k sc).seen
  turns_seen turns.Free sc h s = h
  turns_seen (turns.Times slot n) sc h s = h
  turns_seen (turns.Range i next end open_a a b open_b) sc h s = ((s.0, tt), h)

  pub turns_place : (k : KLoop) (sc : Scope) → (with_turns K k sc).place ≡ sc.place
  turns_place turns.Free sc = refl
  turns_place (turns.Times slot n) sc = refl
  turns_place (turns.Range i next end open_a a b open_b) sc = refl

  do_target : (sc : Scope) (t : Option Loc) → AllSeen P K sc.seen → (elim t [ None ↦ true | Some l ↦ takes K sc l.ty l ]) ≡ true → TargetThere P K t
  do_target sc None h ok = tt
  do_target sc (Some l) h ok = (takes_there P K outer sc h l.ty l ok).1

  mutual
    unfolding stmt_target stmt_pools stmt_slots stmt_ok StmtSized

    stmt_found : (sc : Scope) (n : ℕ) (s : KStmt) → AllSeen P K sc.seen → SlotsThere P K (stmt_slots s) → (outside_finalizers sc.place ≡ true → StmtSized P.offset fits.size P.frame s) → stmt_ok K names sc n s ≡ true →
        Found (λ node. stmt_target node n s) (stmt_pools s)
    stmt_found sc n (Async b) seen slots sized ok =
        let x = and_parts (is_trail sc.place) (block_ok K names (in_async K sc) b) ok in
        block_found (in_async K sc) b seen slots (λ e. sized (trail_outside sc.place x.0)) x.1
    stmt_found sc n (Finalize b) seen slots sized ok =
        let x = and_parts (is_trail sc.place) (block_ok K names (in_finalizer K sc) b) ok in
        block_found (in_finalizer K sc) b seen slots (λ e. absurd (false≢true e)) x.1
    stmt_found sc n (Do t b) seen slots sized ok =
        let x = and_parts _ (block_ok K names (with_aim (do_aim K n t) sc) b) ok in
        let y = and_parts (outside_finalizers sc.place) (elim t [ None ↦ true | Some l ↦ takes K sc l.ty l ]) x.0 in
        found_at n t (λ node. block_target node b) (block_pools b) (do_target sc t seen y.1) (block_found (with_aim (do_aim K n t) sc) b seen slots sized x.1)
    stmt_found sc n (If' _ arms last) seen slots sized ok =
        let x = and_parts (outside_finalizers sc.place && arms_ok K names sc arms) (block_ok K names sc last) ok in
        let y = and_parts (outside_finalizers sc.place) (arms_ok K names sc arms) x.0 in
        let parts = all_split (SlotThere P K) (arms_slots arms) (block_slots last) slots in
        found_both (λ node. arms_target node arms) (λ node. block_target node last) (arms_pools arms) (block_pools last) (arms_found sc arms seen parts.0 (λ e. (sized e).0) y.1) (block_found sc last seen parts.1 (λ e. (sized e).1) x.1)
    stmt_found sc n (Loop k b) seen slots sized ok =
        let inner : Scope = with_aim (LoopAim n) (with_turns K k sc) in
        let x = and_parts (outside_finalizers sc.place && loop_ok K sc k) (block_ok K names inner b) ok in
        let parts = all_split (SlotThere P K) (loop_slots k) (block_slots b) slots in
        block_found inner b (turns_seen k sc seen parts.0) parts.1 (λ e. (sized (ap outside_finalizers (sym (turns_place k sc)) ∙ e)).1) x.1
    stmt_found sc n (Par' k slot _ bs) seen slots sized ok =
        let x = and_parts _ (blocks_ok K names sc bs) ok in
        let parts = all_split (SlotThere P K) (par_slots k slot (row_length bs)) (blocks_slots bs) slots in
        blocks_found sc bs seen parts.1 (λ e. (sized e).1) x.1
    stmt_found sc n _ seen slots sized ok = found_none

    block_found : (sc : Scope) (b : KBlock) → AllSeen P K sc.seen → SlotsThere P K (block_slots b) → (outside_finalizers sc.place ≡ true → BlockSized P.offset fits.size P.frame b) → block_ok K names sc b ≡ true →
        Found (λ node. block_target node b) (block_pools b)
    block_found sc (KBlock' n ds x list) seen slots sized ok =
        let y = and_parts (list_all (decl_ok K sc) ds && all_set names ds list) (nodes_ok K names (with_decls ds sc) list) ok in
        let decls = (and_parts (list_all (decl_ok K sc) ds) (all_set names ds list) y.0).0 in
        let parts = all_split (SlotThere P K) (decl_slots ds) (list_slots list) slots in
        let there = decls_there P K fits proper sc ds bodies parts.0 decls (λ e. (sized e).0) in
        let inner = nodes_found (with_decls ds sc) list (declared_fine P K sc (pool_slots ds ++ pools_seen sc.seen) ds sc.seen decls parts.0 seen) parts.1 (λ e. (sized e).1) y.1 in
        record { targets = inner.targets; few = all_join Few (decls_pools ds) (nodes_pools list) (pools_few ds there) inner.few }

    arm_found : (sc : Scope) (a : KArm) → AllSeen P K sc.seen → SlotsThere P K (arm_slots a) → (outside_finalizers sc.place ≡ true → ArmSized P.offset fits.size P.frame a) → arm_ok K names sc a ≡ true →
        Found (λ node. arm_target node a) (arm_pools a)
    arm_found sc (KArm' c b) seen slots sized ok = block_found sc b seen slots sized (and_parts (gives K sc ty.Bool c) (block_ok K names sc b) ok).1

    nodes_found : {n : _} (sc : Scope) (rows : Row_of-KNode n) → AllSeen P K sc.seen → SlotsThere P K (list_slots rows) → (outside_finalizers sc.place ≡ true → NodesSized P.offset fits.size P.frame rows) → nodes_ok K names sc rows ≡ true →
        Found (λ node. nodes_target node rows) (nodes_pools rows)
    nodes_found sc end_of-KNode seen slots sized ok = found_none
    nodes_found sc (more_of-KNode n p s rest) seen slots sized ok =
        let x = and_parts _ (nodes_ok K names sc rest) ok in
        let parts = all_split (SlotThere P K) (stmt_slots s) (list_slots rest) slots in
        found_both (λ node. stmt_target node n s) (λ node. nodes_target node rest) (stmt_pools s) (nodes_pools rest) (stmt_found sc n s seen parts.0 (λ e. (sized e).0) (and_parts _ (stmt_ok K names sc n s) x.0).1)
        (nodes_found sc rest seen parts.1 (λ e. (sized e).1) x.1)

    arms_found : {n : _} (sc : Scope) (rows : Row_of-KArm n) → AllSeen P K sc.seen → SlotsThere P K (arms_slots rows) → (outside_finalizers sc.place ≡ true → ArmsSized P.offset fits.size P.frame rows) → arms_ok K names sc rows ≡ true →
        Found (λ node. arms_target node rows) (arms_pools rows)
    arms_found sc end_of-KArm seen slots sized ok = found_none
    arms_found sc (more_of-KArm a rest) seen slots sized ok =
        let x = and_parts (arm_ok K names sc a) (arms_ok K names sc rest) ok in
        let parts = all_split (SlotThere P K) (arm_slots a) (arms_slots rest) slots in
        found_both (λ node. arm_target node a) (λ node. arms_target node rest) (arm_pools a) (arms_pools rest) (arm_found sc a seen parts.0 (λ e. (sized e).0) x.0) (arms_found sc rest seen parts.1 (λ e. (sized e).1) x.1)

    blocks_found : {n : _} (sc : Scope) (rows : Row_of-KBlock n) → AllSeen P K sc.seen → SlotsThere P K (blocks_slots rows) → (outside_finalizers sc.place ≡ true → BlocksSized P.offset fits.size P.frame rows) → blocks_ok K names sc rows ≡ true →
        Found (λ node. blocks_target node rows) (blocks_pools rows)
    blocks_found sc end_of-KBlock seen slots sized ok = found_none
    blocks_found sc (more_of-KBlock b rest) seen slots sized ok =
        let x = and_parts (block_ok K names sc b) (blocks_ok K names sc rest) ok in
        let parts = all_split (SlotThere P K) (block_slots b) (blocks_slots rest) slots in
        found_both (λ node. block_target node b) (λ node. blocks_target node rest) (block_pools b) (blocks_pools rest) (block_found sc b seen parts.0 (λ e. (sized e).0) x.0) (blocks_found sc rest seen parts.1 (λ e. (sized e).1) x.1)

  -- ---- codes

  codes_found : (k : ℕ) (cs : List KCode) → SlotsThere P K (codes_slots cs) → FramesKept P.offset fits.size P.frame k cs → codes_ok K names k cs ≡ true → Found (λ node. codes_target node cs) (codes_pools cs)
  codes_found k [] slots frames ok = found_none
  codes_found k (c ∷ cs) slots frames ok =
      let sc : Scope = with_decls c.params (body_scope K names (Some k) c.body c.result) in
      let x = and_parts _ (codes_ok K names (k + 1) cs) ok in
      let y = and_parts _ (block_ok K names sc c.body) x.0 in
      let params = (and_parts (list_all (is_parameter K names) c.params) _ y.0).0 in
      let parts = all_split (SlotThere P K) (decl_slots c.params ++ block_slots c.body) (codes_slots cs) slots in
      let own = all_split (SlotThere P K) (decl_slots c.params) (block_slots c.body) parts.0 in
      let seen : AllSeen P K sc.seen = parameters_fine P K (pool_slots c.params ++ pools_seen []) c.params names [] params own.0 tt in
      found_both (λ node. block_target node c.body) (λ node. codes_target node cs) (block_pools c.body) (codes_pools cs) (block_found sc c.body seen own.1 (λ e. frames.0.body_sized) y.1) (codes_found (k + 1) cs parts.1 frames.1 x.1)

  pub kernel_found : SlotsThere P K (block_slots K.body ++ codes_slots K.codes) → block_ok K names (body_scope K names None K.body ty.S32) K.body ≡ true → codes_ok K names 0 K.codes ≡ true → Found (λ node. escape_target K node) (kernel_pools K)
  unfolding escape_target kernel_pools
  kernel_found slots body codes =
      let parts = all_split (SlotThere P K) (block_slots K.body) (codes_slots K.codes) slots in
      found_both (λ node. block_target node K.body) (λ node. codes_target node K.codes) (block_pools K.body) (codes_pools K.codes) (block_found (body_scope K names None K.body ty.S32) K.body tt parts.0 (λ e. fits.kept.body_sized) body)
      (codes_found 0 K.codes parts.1 fits.kept.frames codes)

  size_few : (slot : ℕ) (rows : List PoolRow) → AllByRecursion Few rows → size_in slot rows ≤ 65535
  size_few slot [] h = omega arith
  size_few slot (r ∷ rs) h = go (r.slot == slot) (size_few slot rs h.1)
    where
      go : (b : Bool) → size_in slot rs ≤ 65535 → (if b then r.size else size_in slot rs) ≤ 65535
      go true more = h.0
      go false more = more

  pub pool_size_few : (slot : ℕ) → AllByRecursion Few (kernel_pools K) → pool_size K slot ≤ 65535
  pool_size_few slot h = size_few slot (kernel_pools K) h
