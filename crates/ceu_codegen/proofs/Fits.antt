-- In a proper kernel whose blocks have their gates, all that its statements name is there.
use Rattle.std.proofs.Common.{◌≡◌, refl, ap, subst, ℕ, zero, suc, ◌+◌, ◌<◌, ◌≤◌, Bool, true, ◌&&◌, ◌==◌, IsTrue, nat_le, List, [], ◌∷◌, ◌++◌, length, Option, Some, None, arith, append_assoc}
use Rattle.std.specs.List.{list_all}
use Rattle.std.proofs.lemmas.Bool.{and_parts, leb-true}
use Rattle.ceu_base.specs.declared.kinds.Ty.{Ty}
use Rattle.ceu_base.specs.declared.kinds.Ty.TheVariants as ty
use Rattle.ceu_tree.specs.declared.kernel.Kernel.{Kernel}
use Rattle.ceu_tree.specs.declared.kernel.KCode.{KCode}
use Rattle.ceu_tree.specs.declared.kernel.KDecl.{KDecl}
use Rattle.ceu_tree.specs.declared.kernel.KLoop.{KLoop}
use Rattle.ceu_tree.specs.declared.kernel.KLoop.TheVariants as turns
use Rattle.ceu_tree.specs.declared.kernel.Loc.{Loc}
use Rattle.ceu_tree.specs.declared.kernel.ParKind.{ParKind}
use Rattle.ceu_tree.specs.declared.kernel.ParKind.TheVariants as par
use Rattle.ceu_tree.specs.declared.kernel.KBlock.{KBlock, KBlock', out-KBlock, Row_of-KNode, end_of-KNode, more_of-KNode}
use Rattle.ceu_tree.specs.declared.kernel.KArm.{KArm, KArm'}
use Rattle.ceu_tree.specs.declared.kernel.KStmt.{KStmt, Row_of-KArm, end_of-KArm, more_of-KArm, Row_of-KBlock, end_of-KBlock, more_of-KBlock, Nothing, Assign, Out, Emit, AwaitIn, AwaitTime, AwaitEvent, Forever, AwaitCode, Spawn, Kill, Unset, Async, Finalize, Do, Escape, Break, Continue, If', Loop, Par'}
use Rattle.ceu_tree.specs.Leaf.{code_at}
use Rattle.ceu_tree.specs.Mentions.{all_set}
use Rattle.ceu_tree.specs.Needs.{nodes_finalizers}
use Rattle.ceu_tree.specs.Numbering.{decl_slots, loop_slots, par_slots, range_of, row_length, stmt_slots, block_slots, arm_slots, list_slots, arms_slots, blocks_slots, stmt_nodes, block_nodes, arm_nodes, list_nodes, blocks_nodes}
use Rattle.ceu_tree.specs.Numbering as numbering
use Rattle.ceu_tree.specs.Proper.{Scope, LoopAim, is_trail, outside_asyncs, outside_finalizers, find, declared_seen, is_alias, is_pool_of, alias_takes, pool_slots, pools_seen, on_ty, on_code, port_ty, event_at, event_seen, takes, takes_if, gives, gives_if, gives_all, time_ok, loop_ok, par_ok, with_decls, with_turns, with_aim, do_aim, in_async, in_finalizer, decl_ok, stmt_ok, block_ok, arm_ok, nodes_ok, arms_ok, blocks_ok}
use Rattle.ceu_gates.specs.declared.plan.GatePlan.{GatePlan}
use Rattle.ceu_slots.specs.Plans.{Planned}
use Rattle.ceu_shape.specs.Searches.{node_of_block, pool_size, escape_target}
use Rattle.ceu_shape.specs.Shape.{branch_nodes}
use Rattle.ceu_low_flow.specs.Conditions as flow
use Rattle.ceu_low_pool.specs.Conditions as on_code
use Rattle.ceu_low_par.specs.Conditions as side
use Rattle.ceu_low_par.specs.Conditions.{AreNodes}
use Rattle.ceu_codegen.specs.Conditions.{arms_nodes, NodeFits, TurnsName, OwnFits, PartsFit, BlockFits, ArmFits, NodesFit, ArmsFit, BlocksFit}
use Rattle.ceu_codegen.proofs.Each.{StmtEach, BlockEach, ArmEach, NodesEach, ArmsEach, BlocksEach, are_append, used_there}
use Rattle.ceu_codegen.proofs.Scopes.{SeenBelow, declared_below, alias_below, pool_below, set_below, takes_below, target_fits, result_fits, gives_names, gives_if_names, gives_all_names, time_names, escape_names, some_ty, port_below, event_below, some_code, AimsBelow, do_below, escape_below, loop_below}

-- ---- the nodes of parts

pub block_below : (nodes : ℕ) (b : KBlock) → AreNodes nodes (block_nodes b) → node_of_block b < nodes
unfolding stmt_nodes
block_below nodes (KBlock' n ds x list) h = h.0

arms_below : (nodes : ℕ) {n : _} (r : Row_of-KArm n) (b : KBlock) → AreNodes nodes (numbering.arms_nodes r ++ block_nodes b) → AreNodes nodes (arms_nodes r ++ (node_of_block b ∷ []))
unfolding stmt_nodes
arms_below nodes end_of-KArm b h = (block_below nodes b h, tt)
arms_below nodes (more_of-KArm (KArm' c a) rest) b h =
    let all : AreNodes nodes (block_nodes a ++ (numbering.arms_nodes rest ++ block_nodes b)) = subst (λ (l : List ℕ). AreNodes nodes l) (append_assoc (block_nodes a) (numbering.arms_nodes rest) (block_nodes b)) h in
    let x = are_append nodes (block_nodes a) (numbering.arms_nodes rest ++ block_nodes b) all in
    (block_below nodes a x.0, arms_below nodes rest b x.1)

branches_below : (nodes : ℕ) {n : _} (r : Row_of-KBlock n) → AreNodes nodes (blocks_nodes r) → AreNodes nodes (branch_nodes r)
unfolding stmt_nodes
branches_below nodes end_of-KBlock h = tt
branches_below nodes (more_of-KBlock b rest) h = let x = are_append nodes (block_nodes b) (blocks_nodes rest) h in (block_below nodes b x.0, branches_below nodes rest x.1)

branches_counted : {n : _} (r : Row_of-KBlock n) → length (branch_nodes r) ≡ row_length r
branches_counted end_of-KBlock = refl
branches_counted (more_of-KBlock b rest) = ap suc (branches_counted rest)

range_fits : (slots slot n : ℕ) → AreNodes slots (range_of slot (suc n)) → slot + suc n ≤ slots
range_fits slots slot zero h = omega (arith, h.0)
range_fits slots slot (suc n) h = let r = range_fits slots (slot + 1) n h.1 in omega (arith, r)

some_range : (slots slot n : ℕ) → 0 < n → AreNodes slots (range_of slot n) → slot + n ≤ slots
some_range slots slot zero some h = absurd (omega arith)
some_range slots slot (suc n) some h = range_fits slots slot n h

par_slots_fit : (K : Kernel) (slots : ℕ) (k : ParKind) (slot n m : ℕ) → m ≡ n → IsTrue (par_ok K k slot n) → AreNodes slots (par_slots k slot n) → (0 < m) × side.SlotsFit slots k slot m
par_slots_fit K slots par.And slot n m e ok low = let some = leb-true 2 n ok in let all = some_range slots slot n (omega (arith, some)) low in (omega (arith, some, e), omega (arith, all, e))
par_slots_fit K slots par.Or slot n m e ok low = let some = leb-true 2 n (and_parts (nat_le 2 n) (slot == 0) ok).0 in (omega (arith, some, e), tt)
par_slots_fit K slots par.Never slot n m e ok low = let some = leb-true 2 n (and_parts (nat_le 2 n) (slot == 0) ok).0 in (omega (arith, some, e), tt)

loop_fits : (slots : ℕ) (k : KLoop) → AreNodes slots (loop_slots k) → flow.LoopFits slots k
loop_fits slots turns.Free h = tt
loop_fits slots (turns.Times slot n) h = h.0
loop_fits slots (turns.Range i next end open_a a b open_b) h = (h.0, h.1.0, h.1.1.0)

-- ---- statements

module _ (K : Kernel) (names : List (List ℕ)) (p : Planned) (g : GatePlan) (outer : SeenBelow p.slot_count (declared_seen [] (out-KBlock K.body).decls []))
    (targets : (m : ℕ) → flow.TargetFits p.slot_count (escape_target K m)) (sizes : (slot : ℕ) → pool_size K slot ≤ 65535) where
  abbrev slots : ℕ
  slots = p.slot_count

  abbrev nodes : ℕ
  nodes = length g.first

  pub record Inside (sc : Scope) : Type 0 where
    pub seen : SeenBelow p.slot_count sc.seen
    pub aims : AimsBelow (length g.first) sc.aims

  in_decls : (ds : List KDecl) (sc : Scope) → AreNodes slots (decl_slots ds) → Inside sc → Inside (with_decls ds sc)
  in_decls ds sc low h = record { seen = declared_below slots (pool_slots ds ++ pools_seen sc.seen) ds sc.seen low h.seen; aims = h.aims }

  in_turns : (k : KLoop) (n : ℕ) (sc : Scope) → n < nodes → AreNodes slots (loop_slots k) → Inside sc → Inside (with_aim (LoopAim n) (with_turns K k sc))
  in_turns turns.Free n sc h low i = record { seen = i.seen; aims = (h, i.aims) }
  in_turns (turns.Times slot limit) n sc h low i = record { seen = i.seen; aims = (h, i.aims) }
  in_turns (turns.Range v next end open_a a b open_b) n sc h low i = record { seen = (low.0, i.seen); aims = (h, i.aims) }

  turns_name : (k : KLoop) (sc : Scope) → Inside sc → IsTrue (loop_ok K sc k) → TurnsName slots k
  turns_name turns.Free sc i ok = tt
  turns_name (turns.Times slot limit) sc i ok = tt
  turns_name (turns.Range v next end open_a a b open_b) sc i ok =
      let x = and_parts (gives K sc ty.S32 a) (gives K sc ty.S32 b) ok in (gives_names slots K outer sc i.seen ty.S32 a x.0, gives_names slots K outer sc i.seen ty.S32 b x.1)

  -- ---- what a statement names itself

  do_target : (sc : Scope) (t : Option Loc) → Inside sc → IsTrue (elim t [ None ↦ true | Some l ↦ takes K sc l.ty l ]) → flow.TargetFits slots t
  do_target sc None i ok = tt
  do_target sc (Some l) i ok = takes_below slots K outer sc l.ty l i.seen ok

  spawn_alias : (sc : Scope) (c pool : ℕ) (a : Option ℕ) → Inside sc → IsTrue (elim a [ None ↦ true | Some x ↦ alias_takes c pool (find x sc.seen) ]) → on_code.AliasFits slots a
  spawn_alias sc c pool None i ok = tt
  spawn_alias sc c pool (Some x) i ok = set_below slots K outer sc c pool x i.seen ok

  node_fits : (sc : Scope) (n : ℕ) (s : KStmt) → Inside sc → n < nodes → IsTrue (stmt_ok K names sc n s) → AreNodes nodes (stmt_nodes s) → AreNodes slots (stmt_slots s) → NodeFits slots nodes K n s
  unfolding stmt_ok stmt_nodes stmt_slots
  node_fits sc n Nothing i h ok ns ss = record { node = h; parts = tt; left = tt; flow = tt; on_code = tt; side = tt }
  node_fits sc n (Assign l e) i h ok ns ss =
      record { node = h; parts = tt; left = tt; flow = takes_below slots K outer sc l.ty l i.seen (and_parts (takes K sc l.ty l) (gives K sc l.ty e) ok).0; on_code = tt; side = tt }
  node_fits sc n (Out k e) i h ok ns ss =
      record { node = h; parts = tt; left = tt; flow = port_below K k K.outputs (λ t. gives_if K sc t e) (and_parts (outside_asyncs sc.place) _ ok).1; on_code = tt; side = tt }
  node_fits sc n (Emit k e) i h ok ns ss =
      record { node = h; parts = tt; left = tt; flow = event_below K sc k K.events (λ t. gives_if K sc t e) (and_parts (is_trail sc.place) _ ok).1; on_code = tt; side = tt }
  node_fits sc n (AwaitIn k t) i h ok ns ss =
      let f : Ty → Bool = λ u. takes_if K sc u t in
      let x : IsTrue (on_ty K (port_ty K k K.inputs) f) = (and_parts (is_trail sc.place) _ ok).1 in
      let u = some_ty K (port_ty K k K.inputs) f x in
      record { node = h; parts = tt; left = tt; flow = (port_below K k K.inputs f x, target_fits slots K outer sc u.0 t i.seen u.1); on_code = tt; side = tt }
  node_fits sc n (AwaitTime e u t) i h ok ns ss =
      record { node = h; parts = tt; left = tt; flow = target_fits slots K outer sc ty.S32 t i.seen (and_parts (is_trail sc.place && time_ok K sc e u) (takes_if K sc ty.S32 t) ok).1; on_code = tt; side = tt }
  node_fits sc n (AwaitEvent k t) i h ok ns ss =
      let f : Ty → Bool = λ u. takes_if K sc u t in
      let x : IsTrue (on_ty K (event_seen K sc (event_at K k K.events)) f) = (and_parts (is_trail sc.place) _ ok).1 in
      let u = some_ty K (event_seen K sc (event_at K k K.events)) f x in
      record { node = h; parts = tt; left = tt; flow = (event_below K sc k K.events f x, target_fits slots K outer sc u.0 t i.seen u.1); on_code = tt; side = tt }
  node_fits sc n Forever i h ok ns ss = record { node = h; parts = tt; left = tt; flow = tt; on_code = tt; side = tt }
  node_fits sc n (AwaitCode c es frame t) i h ok ns ss =
      let f = λ (k : KCode). gives_all K sc k.params es && takes_if K sc k.result t in
      let x : IsTrue (on_code K sc c f) = (and_parts (is_trail sc.place) _ ok).1 in
      let k = some_code (code_at c K.codes) f (and_parts _ _ x).1 in
      record {
        node = h;
        parts = tt;
        left = tt;
        flow = tt;
        side = tt;
        on_code = record { code_there = used_there K sc c f x; frame_there = ss.0; target_there = result_fits slots K outer sc k.0.result t i.seen (and_parts (gives_all K sc k.0.params es) (takes_if K sc k.0.result t) k.1).1 };
      }
  node_fits sc n (Spawn c es pool alias) i h ok ns ss =
      let f = λ (k : KCode). gives_all K sc k.params es in
      let x = and_parts (is_trail sc.place && on_code K sc c f && is_pool_of c (find pool sc.seen)) _ ok in
      let y = and_parts (is_trail sc.place && on_code K sc c f) (is_pool_of c (find pool sc.seen)) x.0 in
      record {
        node = h;
        parts = tt;
        left = tt;
        flow = tt;
        side = tt;
        on_code = record { code_there = used_there K sc c f (and_parts (is_trail sc.place) (on_code K sc c f) y.0).1; pool_there = pool_below slots K outer sc c pool i.seen y.1; pool_small = sizes pool; alias_there = spawn_alias sc c pool alias i x.1 };
      }
  node_fits sc n (Kill c) i h ok ns ss =
      record { node = h; parts = tt; left = tt; flow = tt; side = tt; on_code = alias_below slots K outer sc c i.seen (and_parts (is_trail sc.place) (is_alias (find c sc.seen)) ok).1 }
  node_fits sc n (Unset c) i h ok ns ss =
      record { node = h; parts = tt; left = tt; flow = tt; side = tt; on_code = alias_below slots K outer sc c i.seen (and_parts (is_trail sc.place) (is_alias (find c sc.seen)) ok).1 }
  node_fits sc n (Async b) i h ok ns ss = record { node = h; parts = (block_below nodes b ns, tt); left = tt; flow = tt; on_code = tt; side = tt }
  node_fits sc n (Finalize b) i h ok ns ss = record { node = h; parts = (block_below nodes b ns, tt); left = tt; flow = tt; on_code = tt; side = tt }
  node_fits sc n (Do t b) i h ok ns ss =
      let x = and_parts (outside_finalizers sc.place && _) (block_ok K names (with_aim (do_aim K n t) sc) b) ok in
      record { node = h; parts = (block_below nodes b ns, tt); left = tt; flow = do_target sc t i (and_parts (outside_finalizers sc.place) _ x.0).1; on_code = tt; side = tt }
  node_fits sc n (Escape m e) i h ok ns ss =
      let low = escape_below nodes K sc m e sc.aims i.aims (and_parts (outside_finalizers sc.place) _ ok).1 in
      record { node = h; parts = tt; left = low; flow = (low, targets m); on_code = tt; side = tt }
  node_fits sc n (Break m) i h ok ns ss =
      let low = loop_below nodes K m sc.aims i.aims (and_parts (outside_finalizers sc.place) _ ok).1 in
      record { node = h; parts = tt; left = low; flow = low; on_code = tt; side = tt }
  node_fits sc n (Continue m) i h ok ns ss =
      let low = loop_below nodes K m sc.aims i.aims (and_parts (outside_finalizers sc.place) _ ok).1 in
      record { node = h; parts = tt; left = low; flow = low; on_code = tt; side = tt }
  node_fits sc n (If' _ arms last) i h ok ns ss = record { node = h; parts = arms_below nodes arms last ns; left = tt; flow = tt; on_code = tt; side = tt }
  node_fits sc n (Loop k b) i h ok ns ss =
      record { node = h; parts = (block_below nodes b ns, tt); left = tt; flow = loop_fits slots k (are_append slots (loop_slots k) (block_slots b) ss).0; on_code = tt; side = tt }
  node_fits sc n (Par' k slot _ bs) i h ok ns ss =
      let x = and_parts (is_trail sc.place && par_ok K k slot (row_length bs)) (blocks_ok K names sc bs) ok in
      let y = par_slots_fit K slots k slot (row_length bs) (length (branch_nodes bs)) (branches_counted bs) (and_parts (is_trail sc.place) _ x.0).1 (are_append slots (par_slots k slot (row_length bs)) (blocks_slots bs) ss).0 in
      let z = branches_below nodes bs ns in
      record { node = h; parts = z; left = tt; flow = tt; on_code = tt; side = record { some_branch = y.0; nodes_there = z; slots_there = y.1 } }

  -- ---- with its parts

  mutual
    unfolding stmt_ok stmt_nodes stmt_slots PartsFit StmtEach nodes_finalizers

    parts_fit : (sc : Scope) (n : ℕ) (s : KStmt) → Inside sc → n < nodes → IsTrue (stmt_ok K names sc n s) → AreNodes nodes (stmt_nodes s) → AreNodes slots (stmt_slots s) → StmtEach (OwnFits p g K) s → PartsFit p g K s
    parts_fit sc n Nothing i h ok ns ss own = tt
    parts_fit sc n (Assign l e) i h ok ns ss own = gives_names slots K outer sc i.seen l.ty e (and_parts (takes K sc l.ty l) (gives K sc l.ty e) ok).1
    parts_fit sc n (Out k e) i h ok ns ss own =
        let u = some_ty K (port_ty K k K.outputs) (λ t. gives_if K sc t e) (and_parts (outside_asyncs sc.place) _ ok).1 in gives_if_names slots K outer sc i.seen u.0 e u.1
    parts_fit sc n (Emit k e) i h ok ns ss own =
        let u = some_ty K (event_seen K sc (event_at K k K.events)) (λ t. gives_if K sc t e) (and_parts (is_trail sc.place) _ ok).1 in gives_if_names slots K outer sc i.seen u.0 e u.1
    parts_fit sc n (AwaitIn k t) i h ok ns ss own = tt
    parts_fit sc n (AwaitTime e u t) i h ok ns ss own =
        time_names slots K outer sc i.seen e u (and_parts (is_trail sc.place) (time_ok K sc e u) (and_parts (is_trail sc.place && time_ok K sc e u) (takes_if K sc ty.S32 t) ok).0).1
    parts_fit sc n (AwaitEvent k t) i h ok ns ss own = tt
    parts_fit sc n Forever i h ok ns ss own = tt
    parts_fit sc n (AwaitCode c es frame t) i h ok ns ss own =
        let f = λ (k : KCode). gives_all K sc k.params es && takes_if K sc k.result t in
        let x : IsTrue (on_code K sc c f) = (and_parts (is_trail sc.place) _ ok).1 in
        let k = some_code (code_at c K.codes) f (and_parts _ _ x).1 in
        gives_all_names slots K outer sc i.seen k.0.params es (and_parts (gives_all K sc k.0.params es) (takes_if K sc k.0.result t) k.1).0
    parts_fit sc n (Spawn c es pool alias) i h ok ns ss own =
        let f = λ (k : KCode). gives_all K sc k.params es in
        let x = and_parts (is_trail sc.place && on_code K sc c f && is_pool_of c (find pool sc.seen)) _ ok in
        let y = and_parts (is_trail sc.place && on_code K sc c f) (is_pool_of c (find pool sc.seen)) x.0 in
        let k = some_code (code_at c K.codes) f (and_parts _ _ (and_parts (is_trail sc.place) (on_code K sc c f) y.0).1).1 in
        gives_all_names slots K outer sc i.seen k.0.params es k.1
    parts_fit sc n (Kill c) i h ok ns ss own = tt
    parts_fit sc n (Unset c) i h ok ns ss own = tt
    parts_fit sc n (Async b) i h ok ns ss own = block_fits (in_async K sc) b (record { seen = i.seen; aims = tt }) (and_parts (is_trail sc.place) _ ok).1 ns ss own
    parts_fit sc n (Finalize b) i h ok ns ss own = block_fits (in_finalizer K sc) b (record { seen = i.seen; aims = tt }) (and_parts (is_trail sc.place) _ ok).1 ns ss own
    parts_fit sc n (Do t b) i h ok ns ss own =
        block_fits (with_aim (do_aim K n t) sc) b (record { seen = i.seen; aims = do_below nodes K n t sc.aims h i.aims }) (and_parts (outside_finalizers sc.place && _) (block_ok K names (with_aim (do_aim K n t) sc) b) ok).1 ns ss own
    parts_fit sc n (Escape m e) i h ok ns ss own = escape_names slots K outer sc i.seen m e sc.aims (and_parts (outside_finalizers sc.place) _ ok).1
    parts_fit sc n (Break m) i h ok ns ss own = tt
    parts_fit sc n (Continue m) i h ok ns ss own = tt
    parts_fit sc n (If' _ arms last) i h ok ns ss own =
        let x = and_parts (outside_finalizers sc.place && arms_ok K names sc arms) (block_ok K names sc last) ok in
        let l = are_append slots (arms_slots arms) (block_slots last) ss in
        let m = are_append nodes (numbering.arms_nodes arms) (block_nodes last) ns in
        (arms_fit sc arms i (and_parts (outside_finalizers sc.place) (arms_ok K names sc arms) x.0).1 m.0 l.0 own.0, block_fits sc last i x.1 m.1 l.1 own.1)
    parts_fit sc n (Loop k b) i h ok ns ss own =
        let x = and_parts (outside_finalizers sc.place && loop_ok K sc k) (block_ok K names (with_aim (LoopAim n) (with_turns K k sc)) b) ok in
        let l = are_append slots (loop_slots k) (block_slots b) ss in
        (turns_name k sc i (and_parts (outside_finalizers sc.place) (loop_ok K sc k) x.0).1, block_fits (with_aim (LoopAim n) (with_turns K k sc)) b (in_turns k n sc h l.0 i) x.1 ns l.1 own)
    parts_fit sc n (Par' k slot _ bs) i h ok ns ss own =
        let x = and_parts (is_trail sc.place && par_ok K k slot (row_length bs)) (blocks_ok K names sc bs) ok in
        blocks_fit sc bs i x.1 ns (are_append slots (par_slots k slot (row_length bs)) (blocks_slots bs) ss).1 own

    pub block_fits : (sc : Scope) (b : KBlock) → Inside sc → IsTrue (block_ok K names sc b) → AreNodes nodes (block_nodes b) → AreNodes slots (block_slots b) → BlockEach (OwnFits p g K) b → BlockFits p g K b
    block_fits sc (KBlock' n ds x list) i ok ns ss own =
        let l = are_append slots (decl_slots ds) (list_slots list) ss in
        (own.0, nodes_fit (with_decls ds sc) list (in_decls ds sc l.0 i) (and_parts (list_all (decl_ok K sc) ds && all_set names ds list) (nodes_ok K names (with_decls ds sc) list) ok).1 ns.1 l.1 own.1)

    arm_fits : (sc : Scope) (a : KArm) → Inside sc → IsTrue (arm_ok K names sc a) → AreNodes nodes (arm_nodes a) → AreNodes slots (arm_slots a) → ArmEach (OwnFits p g K) a → ArmFits p g K a
    arm_fits sc (KArm' c b) i ok ns ss own =
        let x = and_parts (gives K sc ty.Bool c) (block_ok K names sc b) ok in
        (gives_names slots K outer sc i.seen ty.Bool c x.0, block_fits sc b i x.1 ns ss own)

    nodes_fit : {n : _} (sc : Scope) (r : Row_of-KNode n) → Inside sc → IsTrue (nodes_ok K names sc r) → AreNodes nodes (list_nodes r) → AreNodes slots (list_slots r) → NodesEach (OwnFits p g K) r → NodesFit p g K r
    nodes_fit sc end_of-KNode i ok ns ss own = tt
    nodes_fit sc (more_of-KNode n q s rest) i ok ns ss own =
        let x = and_parts (nat_le 1 q.line && nat_le 1 q.col && stmt_ok K names sc n s) (nodes_ok K names sc rest) ok in
        let here = (and_parts (nat_le 1 q.line && nat_le 1 q.col) (stmt_ok K names sc n s) x.0).1 in
        let l = are_append slots (stmt_slots s) (list_slots rest) ss in
        let m = are_append nodes (stmt_nodes s) (list_nodes rest) ns.1 in
        ((node_fits sc n s i ns.0 here m.0 l.0, parts_fit sc n s i ns.0 here m.0 l.0 own.0), nodes_fit sc rest i x.1 m.1 l.1 own.1)

    arms_fit : {n : _} (sc : Scope) (r : Row_of-KArm n) → Inside sc → IsTrue (arms_ok K names sc r) → AreNodes nodes (numbering.arms_nodes r) → AreNodes slots (arms_slots r) → ArmsEach (OwnFits p g K) r → ArmsFit p g K r
    arms_fit sc end_of-KArm i ok ns ss own = tt
    arms_fit sc (more_of-KArm a rest) i ok ns ss own =
        let x = and_parts (arm_ok K names sc a) (arms_ok K names sc rest) ok in
        let l = are_append slots (arm_slots a) (arms_slots rest) ss in
        let m = are_append nodes (arm_nodes a) (numbering.arms_nodes rest) ns in
        (arm_fits sc a i x.0 m.0 l.0 own.0, arms_fit sc rest i x.1 m.1 l.1 own.1)

    blocks_fit : {n : _} (sc : Scope) (r : Row_of-KBlock n) → Inside sc → IsTrue (blocks_ok K names sc r) → AreNodes nodes (blocks_nodes r) → AreNodes slots (blocks_slots r) → BlocksEach (OwnFits p g K) r → BlocksFit p g K r
    blocks_fit sc end_of-KBlock i ok ns ss own = tt
    blocks_fit sc (more_of-KBlock b rest) i ok ns ss own =
        let x = and_parts (block_ok K names sc b) (blocks_ok K names sc rest) ok in
        let l = are_append slots (block_slots b) (blocks_slots rest) ss in
        let m = are_append nodes (block_nodes b) (blocks_nodes rest) ns in
        (block_fits sc b i x.0 m.0 l.0 own.0, blocks_fit sc rest i x.1 m.1 l.1 own.1)
