-- In a proper kernel each block has its gates: its finalizers and the places of its pools lie among the gates of the plan.
use Rattle.std.proofs.Common.{◌≡◌, refl, sym, ap, subst, ◌∙◌, ℕ, zero, suc, ◌+◌, ◌*◌, ◌<◌, ◌≤◌, max, Bool, true, false, ◌&&◌, ◌⊎◌, inl, inr, IsTrue, List, [], ◌∷◌, ◌++◌, length, nat_le, Option, Some, None, arith}
use Rattle.std.specs.List.{list_all}
use Rattle.ceu_base.specs.declared.kinds.Ty.TheVariants as ty
use Rattle.ceu_tree.specs.declared.kernel.Kernel.{Kernel}
use Rattle.ceu_tree.specs.declared.kernel.KCode.{KCode}
use Rattle.ceu_tree.specs.declared.kernel.KDecl.{KDecl}
use Rattle.ceu_tree.specs.declared.kernel.KKind.{KKind}
use Rattle.ceu_tree.specs.declared.kernel.KKind.TheVariants as kind
use Rattle.ceu_tree.specs.declared.kernel.KLoop.{KLoop}
use Rattle.ceu_tree.specs.declared.kernel.KLoop.TheVariants as turns
use Rattle.ceu_tree.specs.declared.kernel.KBlock.{KBlock, KBlock', Row_of-KNode, end_of-KNode, more_of-KNode}
use Rattle.ceu_tree.specs.declared.kernel.KArm.{KArm, KArm'}
use Rattle.ceu_tree.specs.declared.kernel.KStmt.{KStmt, Row_of-KArm, end_of-KArm, more_of-KArm, Row_of-KBlock, end_of-KBlock, more_of-KBlock, Async, Finalize, Do, If', Loop, Par'}
use Rattle.ceu_tree.specs.Leaf.{code_at}
use Rattle.ceu_tree.specs.Mentions.{all_set}
use Rattle.ceu_tree.specs.Numbering.{decl_slots, loop_slots, par_slots, row_length, stmt_slots, block_slots, arm_slots, list_slots, arms_slots, blocks_slots}
use Rattle.ceu_tree.specs.Needs.{entry, finalizers, nodes_finalizers, stmt_gates, block_gates, nodes_gates, gates_from}
use Rattle.ceu_tree.specs.Needs as need
use Rattle.ceu_tree.specs.Proper.{Scope, is_trail, outside_finalizers, is_above, on_code, with_decls, with_turns, with_aim, do_aim, LoopAim, in_async, in_finalizer, decl_ok, loop_ok, par_ok, gives, stmt_ok, block_ok, arm_ok, nodes_ok, arms_ok, blocks_ok}
use Rattle.ceu_gates.specs.declared.plan.GatePlan.{GatePlan}
use Rattle.ceu_gates.specs.declared.ranges.GateRange.{GateRange}
use Rattle.ceu_gates.specs.Ranges.{range, starts, stmt_ranges, block_ranges, arm_ranges, nodes_ranges, arms_ranges, blocks_ranges}
use Rattle.ceu_gates.proofs.Tests.{both_left, both_right}
use Rattle.ceu_slots.specs.Plans.{Planned}
use Rattle.ceu_shape.specs.Searches.{body_node}
use Rattle.ceu_shape.specs.Shape.{pool_gates, pools_gates}
use Rattle.ceu_low_par.specs.Conditions.{AreNodes}
use Rattle.ceu_codegen.specs.Conditions.{planned, PoolFits, PoolsFit, OwnFits}

-- ---- something is true of each block

module _ (Q : ℕ → List KDecl → ℕ → Type 0) where
  unfoldable mutual
    pub StmtEach : KStmt → Type 0
    StmtEach (Async b) = BlockEach b
    StmtEach (Finalize b) = BlockEach b
    StmtEach (Do t b) = BlockEach b
    StmtEach (If' _ arms last) = ArmsEach arms × BlockEach last
    StmtEach (Loop kind b) = BlockEach b
    StmtEach (Par' kind slot _ bs) = BlocksEach bs
    StmtEach _ = Unit {0}

    pub BlockEach : KBlock → Type 0
    BlockEach (KBlock' n ds _ list) = Q n ds (nodes_finalizers list) × NodesEach list

    pub ArmEach : KArm → Type 0
    ArmEach (KArm' c b) = BlockEach b

    pub NodesEach : {n : _} → Row_of-KNode n → Type 0
    NodesEach end_of-KNode = Unit {0}
    NodesEach (more_of-KNode n q s rest) = StmtEach s × NodesEach rest

    pub ArmsEach : {n : _} → Row_of-KArm n → Type 0
    ArmsEach end_of-KArm = Unit {0}
    ArmsEach (more_of-KArm a rest) = ArmEach a × ArmsEach rest

    pub BlocksEach : {n : _} → Row_of-KBlock n → Type 0
    BlocksEach end_of-KBlock = Unit {0}
    BlocksEach (more_of-KBlock b rest) = BlockEach b × BlocksEach rest

  abbrev pub CodesEach : List KCode → Type 0
  CodesEach [] = Unit {0}
  CodesEach (c ∷ cs) = BlockEach c.body × CodesEach cs

-- ---- numbers below a bound

pub are_append : (n : ℕ) (a b : List ℕ) → AreNodes n (a ++ b) → AreNodes n a × AreNodes n b
are_append n [] b h = (tt, h)
are_append n (x ∷ a) b h = let r = are_append n a b h.1 in ((h.0, r.0), r.1)

pub code_there : (c : ℕ) (cs : List KCode) (f : KCode → Bool) → IsTrue (elim (code_at c cs) [ None ↦ false | Some k ↦ f k ]) → c < length cs
code_there c [] f h = absurd cc
code_there zero (x ∷ cs) f h = omega arith
code_there (suc c) (x ∷ cs) f h = omega (arith, code_there c cs f h)

pub used_there : (K : Kernel) (sc : Scope) (c : ℕ) (f : KCode → Bool) → IsTrue (on_code K sc c f) → c < length K.codes
used_there K sc c f ok = code_there c K.codes f (both_right (is_above K c sc.code) _ ok)

-- ---- ranges of a list

abbrev pub Among : List GateRange → GateRange → Type 0
Among [] r = ⊥
Among (x ∷ xs) r = (x ≡ r) ⊎ Among xs r

pub among_left : (xs ys : List GateRange) (r : GateRange) → Among xs r → Among (xs ++ ys) r
among_left [] ys r h = absurd h
among_left (x ∷ xs) ys r (inl e) = inl e
among_left (x ∷ xs) ys r (inr h) = inr (among_left xs ys r h)

pub among_right : (xs ys : List GateRange) (r : GateRange) → Among ys r → Among (xs ++ ys) r
among_right [] ys r h = h
among_right (x ∷ xs) ys r h = inr (among_right xs ys r h)

-- ---- the gates of a block

most_parts : (a f p m : ℕ) → a ≡ max 1 (f + p + m) → f + p ≤ a
most_parts a f p m h = grind arith

pub one_most : (a x : ℕ) → a ≡ max 1 x → 1 ≤ a
one_most a x h = grind arith

times_one : (n e : ℕ) → 1 ≤ e → n ≤ n * e
times_one zero e h = omega arith
times_one (suc n) e h = omega (arith, times_one n e h, mul_suc n e)
  where
    mul_suc : (n e : ℕ) → suc n * e ≡ n * e + e
    mul_suc n e = omega arith

-- where the table has the gates of the codes above, as the plan does, and the ranges of the kernel are these
module _ (K : Kernel) (names : List (List ℕ)) (p : Planned) (g : GatePlan) (table : List ℕ) (code : Option ℕ) (all : List GateRange) where
  pub record Known (c : ℕ) : Type 0 where
    pub counted : entry c table ≡ (planned p g).count (body_node K c)
    pub some : 1 ≤ entry c table
    pub node : body_node K c < length g.first

  pub record Held (r : GateRange) : Type 0 where
    pub first : (planned p g).first r.node ≡ r.first
    pub count : (planned p g).count r.node ≡ r.count
    pub low : r.first + r.count ≤ 3000
    pub node : r.node < length g.first

  module _ (known : (c : ℕ) → IsTrue (is_above K c code) → c < length K.codes → Known c) (held : (r : GateRange) → Among all r → Held r) where
    decl_known : (sc : Scope) (d : KDecl) (n c : ℕ) → sc.code ≡ code → IsTrue (decl_ok K sc (record d { kind = kind.Pool n c })) → (c < length K.codes) × Known c
    decl_known sc d n c e ok =
        let used = both_right (is_trail sc.place && _) _ (both_left _ (nat_le 1 d.pos.line) (both_left _ (nat_le 1 d.pos.col) ok)) in
        let there = used_there K sc c (λ k. true) used in
        (there, known c (subst (λ (x : Option ℕ). IsTrue (is_above K c x)) e (both_left (is_above K c sc.code) _ used)) there)

    kind_gates : (sc : Scope) (d : KDecl) (k : KKind) → sc.code ≡ code → IsTrue (decl_ok K sc (record d { kind = k })) → pool_gates (planned p g) K k ≡ need.pool_gates table k
    kind_gates sc d (kind.Var t) e ok = refl
    kind_gates sc d (kind.Alias c) e ok = refl
    kind_gates sc d (kind.Pool n c) e ok = ap (λ x. n * x) (sym (decl_known sc d n c e ok).1.counted)

    kind_fits : (sc : Scope) (d : KDecl) (k : KKind) → sc.code ≡ code → IsTrue (decl_ok K sc (record d { kind = k })) → d.slot < p.slot_count → need.pool_gates table k ≤ 3000 →
        PoolFits p.slot_count (length g.first) K d.slot k
    kind_fits sc d (kind.Var t) e ok low few = tt
    kind_fits sc d (kind.Alias c) e ok low few = tt
    kind_fits sc d (kind.Pool n c) e ok low few =
        let k = decl_known sc d n c e ok in
        let small : n ≤ 65535 = omega (arith, times_one n (entry c table) k.1.some, few) in
        (low, small, k.0, k.1.node)

    decls_gates : (sc : Scope) (ds : List KDecl) → sc.code ≡ code → IsTrue (list_all (decl_ok K sc) ds) → pools_gates (planned p g) K ds ≡ need.pools_gates table ds
    decls_gates sc [] e ok = refl
    decls_gates sc (d ∷ ds) e ok =
        let here = kind_gates sc d d.kind e (both_left (decl_ok K sc d) _ ok) in
        let rest = decls_gates sc ds e (both_right (decl_ok K sc d) _ ok) in
        omega (arith, here, rest)

    decls_fit : (sc : Scope) (ds : List KDecl) → sc.code ≡ code → IsTrue (list_all (decl_ok K sc) ds) → AreNodes p.slot_count (decl_slots ds) → need.pools_gates table ds ≤ 3000 →
        PoolsFit p.slot_count (length g.first) K ds
    decls_fit sc [] e ok low few = tt
    decls_fit sc (d ∷ ds) e ok low few =
        (kind_fits sc d d.kind e (both_left (decl_ok K sc d) _ ok) low.0 (omega arith), decls_fit sc ds e (both_right (decl_ok K sc d) _ ok) low.1 (omega arith))

    own_fits : (sc : Scope) (n first : ℕ) (ds : List KDecl) (f m : ℕ) → sc.code ≡ code → IsTrue (list_all (decl_ok K sc) ds) → AreNodes p.slot_count (decl_slots ds) →
        Held (range n first (max 1 (f + need.pools_gates table ds + m))) → OwnFits p g K n ds f
    own_fits sc n first ds f m e ok low h =
        let own = most_parts (max 1 (f + need.pools_gates table ds + m)) f (need.pools_gates table ds) m refl in
        let same = decls_gates sc ds e ok in
        record {
          node = h.node;
          pools = decls_fit sc ds e ok low (omega (arith, own, h.low));
          gates = omega (arith, own, h.low, h.first, same);
        }

    abbrev Inside : List GateRange → Type 0
    Inside rs = (r : GateRange) → Among rs r → Among all r

    turns_code : (k : KLoop) (sc : Scope) → (with_turns K k sc).code ≡ sc.code
    turns_code turns.Free sc = refl
    turns_code (turns.Times slot n) sc = refl
    turns_code (turns.Range i next end open_a a b open_b) sc = refl

    mutual
      unfolding stmt_ok stmt_gates stmt_ranges stmt_slots nodes_finalizers StmtEach

      stmt_each : (sc : Scope) (n first : ℕ) (s : KStmt) → sc.code ≡ code → IsTrue (stmt_ok K names sc n s) → AreNodes p.slot_count (stmt_slots s) → Inside (stmt_ranges table first s) → StmtEach (OwnFits p g K) s
      stmt_each sc n first (Async b) e ok low inside = block_each (in_async K sc) first b e (both_right (is_trail sc.place) _ ok) low inside
      stmt_each sc n first (Finalize b) e ok low inside = block_each (in_finalizer K sc) first b e (both_right (is_trail sc.place) _ ok) low inside
      stmt_each sc n first (Do t b) e ok low inside = block_each (with_aim (do_aim K n t) sc) first b e (both_right (outside_finalizers sc.place && _) _ ok) low inside
      stmt_each sc n first (If' _ arms last) e ok low inside =
          let parts = both_left (outside_finalizers sc.place && arms_ok K names sc arms) _ ok in
          let l = are_append p.slot_count (arms_slots arms) (block_slots last) low in (
            arms_each sc first arms e (both_right (outside_finalizers sc.place) _ parts) l.0 (λ r h. inside r (among_left (arms_ranges table first arms) (block_ranges table first last) r h)),
            block_each sc first last e (both_right (outside_finalizers sc.place && arms_ok K names sc arms) _ ok) l.1 (λ r h. inside r (among_right (arms_ranges table first arms) (block_ranges table first last) r h)),
          )
      stmt_each sc n first (Loop k b) e ok low inside =
          block_each (with_aim (LoopAim n) (with_turns K k sc)) first b (turns_code k sc ∙ e) (both_right (outside_finalizers sc.place && loop_ok K sc k) _ ok)
          (are_append p.slot_count (loop_slots k) (block_slots b) low).1 inside
      stmt_each sc n first (Par' k slot _ bs) e ok low inside =
          blocks_each sc first bs e (both_right (is_trail sc.place && par_ok K k slot (row_length bs)) _ ok) (are_append p.slot_count (par_slots k slot (row_length bs)) (blocks_slots bs) low).1 inside
      stmt_each sc n first _ e ok low inside = tt

      pub block_each : (sc : Scope) (first : ℕ) (b : KBlock) → sc.code ≡ code → IsTrue (block_ok K names sc b) → AreNodes p.slot_count (block_slots b) → Inside (block_ranges table first b) → BlockEach (OwnFits p g K) b
      block_each sc first (KBlock' n ds x list) e ok low inside =
          let decls = both_left (list_all (decl_ok K sc) ds) _ (both_left (list_all (decl_ok K sc) ds && all_set names ds list) _ ok) in
          let l = are_append p.slot_count (decl_slots ds) (list_slots list) low in
          let own = range n first (max 1 (nodes_finalizers list + need.pools_gates table ds + nodes_gates table list)) in (
            own_fits sc n first ds (nodes_finalizers list) (nodes_gates table list) e decls l.0 (held own (inside own (inl refl))),
            nodes_each (with_decls ds sc) first (first + (nodes_finalizers list + need.pools_gates table ds)) list e (both_right (list_all (decl_ok K sc) ds && all_set names ds list) _ ok) l.1 (λ r h. inside r (inr h)),
          )

      arm_each : (sc : Scope) (first : ℕ) (a : KArm) → sc.code ≡ code → IsTrue (arm_ok K names sc a) → AreNodes p.slot_count (arm_slots a) → Inside (arm_ranges table first a) → ArmEach (OwnFits p g K) a
      arm_each sc first (KArm' c b) e ok low inside = block_each sc first b e (both_right (gives K sc ty.Bool c) _ ok) low inside

      nodes_each : {n : _} (sc : Scope) (finalizer first : ℕ) (r : Row_of-KNode n) → sc.code ≡ code → IsTrue (nodes_ok K names sc r) → AreNodes p.slot_count (list_slots r) → Inside (nodes_ranges table finalizer first r) →
          NodesEach (OwnFits p g K) r
      nodes_each sc finalizer first end_of-KNode e ok low inside = tt
      nodes_each sc finalizer first (more_of-KNode n q s rest) e ok low inside =
          let here = both_right (nat_le 1 q.line && nat_le 1 q.col) _ (both_left (nat_le 1 q.line && nat_le 1 q.col && stmt_ok K names sc n s) _ ok) in
          let l = are_append p.slot_count (stmt_slots s) (list_slots rest) low in
          let own = stmt_ranges table (starts finalizer first s) s in
          let more = nodes_ranges table (finalizer + finalizers s) first rest in (
            stmt_each sc n (starts finalizer first s) s e here l.0 (λ r h. inside r (inr (among_left own more r h))),
            nodes_each sc (finalizer + finalizers s) first rest e (both_right (nat_le 1 q.line && nat_le 1 q.col && stmt_ok K names sc n s) _ ok) l.1 (λ r h. inside r (inr (among_right own more r h))),
          )

      arms_each : {n : _} (sc : Scope) (first : ℕ) (r : Row_of-KArm n) → sc.code ≡ code → IsTrue (arms_ok K names sc r) → AreNodes p.slot_count (arms_slots r) → Inside (arms_ranges table first r) → ArmsEach (OwnFits p g K) r
      arms_each sc first end_of-KArm e ok low inside = tt
      arms_each sc first (more_of-KArm a rest) e ok low inside =
          let l = are_append p.slot_count (arm_slots a) (arms_slots rest) low in (
            arm_each sc first a e (both_left (arm_ok K names sc a) _ ok) l.0 (λ r h. inside r (among_left (arm_ranges table first a) (arms_ranges table first rest) r h)),
            arms_each sc first rest e (both_right (arm_ok K names sc a) _ ok) l.1 (λ r h. inside r (among_right (arm_ranges table first a) (arms_ranges table first rest) r h)),
          )

      blocks_each : {n : _} (sc : Scope) (first : ℕ) (r : Row_of-KBlock n) → sc.code ≡ code → IsTrue (blocks_ok K names sc r) → AreNodes p.slot_count (blocks_slots r) → Inside (blocks_ranges table first r) →
          BlocksEach (OwnFits p g K) r
      blocks_each sc first end_of-KBlock e ok low inside = tt
      blocks_each sc first (more_of-KBlock b rest) e ok low inside =
          let l = are_append p.slot_count (block_slots b) (blocks_slots rest) low in
          let own = block_ranges table first b in
          let more = blocks_ranges table (first + block_gates table b) rest in (
            block_each sc first b e (both_left (block_ok K names sc b) _ ok) l.0 (λ r h. inside r (among_left own more r h)),
            blocks_each sc (first + block_gates table b) rest e (both_right (block_ok K names sc b) _ ok) l.1 (λ r h. inside r (among_right own more r h)),
          )
