-- The laws of the ranges.
use Rattle.std.proofs.Common.{◌≡◌, refl, sym, ap, subst, ◌∙◌, ℕ, zero, suc, ◌+◌, ◌*◌, ◌<◌, ◌≤◌, max, IsTrue, All, List, [], ◌∷◌, ◌++◌, length, get_or, arith}
use Rattle.ceu_gates.specs.declared.ranges.GateRange.{GateRange}
use Rattle.ceu_tree.specs.declared.kernel.Kernel.{Kernel}
use Rattle.ceu_tree.specs.declared.kernel.KDecl.{KDecl}
use Rattle.ceu_tree.specs.declared.kernel.KKind.{KKind}
use Rattle.ceu_tree.specs.declared.kernel.KKind.TheVariants as kind
use Rattle.ceu_tree.specs.declared.kernel.KBlock.{KBlock, KBlock', Row_of-KNode, end_of-KNode, more_of-KNode}
use Rattle.ceu_tree.specs.declared.kernel.KArm.{KArm, KArm'}
use Rattle.ceu_tree.specs.declared.kernel.KStmt.{KStmt, Row_of-KArm, end_of-KArm, more_of-KArm, Row_of-KBlock, end_of-KBlock, more_of-KBlock, Async, Finalize, Do, If', Loop, Par'}
use Rattle.ceu_tree.specs.Needs.{entry, finalizers, nodes_finalizers, pool_gates, pools_gates, stmt_gates, block_gates}
use Rattle.ceu_tree.specs.Proper.{Scope, stmt_ok, block_ok}
use Rattle.ceu_gates.specs.Ranges.{reach, range, starts, stmt_ranges, block_ranges, arm_ranges, nodes_ranges, arms_ranges, blocks_ranges, block_list_ranges}
use Rattle.ceu_gates.specs.Order.{LiesIn, Before, Consecutive, PartsNest, BranchesInOrder, finalizer_range, finalizer_ranges, place_ranges, pool_ranges, pools_ranges, other_range, other_ranges, BlockInOrder}
use Rattle.ceu_gates.proofs.Within.{within_block, within_stmt}

abbrev Each : {X : Type 0} → (X → Type 0) → List X → Type 0
Each P [] = Unit {0}
Each P (x ∷ xs) = P x × Each P xs

each_at : {X : Type 0} (P : X → Type 0) (xs : List X) (k : ℕ) (d : X) → k < length xs → Each P xs → P (get_or xs k d)
each_at P [] k d h all = absurd (omega arith)
each_at P (x ∷ xs) zero d h all = all.0
each_at P (x ∷ xs) (suc k) d h all = each_at P xs k d (omega arith) all.1

each_all : {X : Type 0} (P : X → Type 0) (xs : List X) → Each P xs → All P xs
each_all P xs all k d h = each_at P xs k d h all

each_append : {X : Type 0} (P : X → Type 0) (xs ys : List X) → Each P xs → Each P ys → Each P (xs ++ ys)
each_append P [] ys h k = k
each_append P (x ∷ xs) ys h k = (h.0, each_append P xs ys h.1 k)

each_weaker : {X : Type 0} (P Q : X → Type 0) → ((x : X) → P x → Q x) → (xs : List X) → Each P xs → Each Q xs
each_weaker P Q f [] h = tt
each_weaker P Q f (x ∷ xs) h = (f x h.0, each_weaker P Q f xs h.1)

each_both : {X : Type 0} (P Q R : X → Type 0) → ((x : X) → P x → Q x → R x) → (xs : List X) → Each P xs → Each Q xs → Each R xs
each_both P Q R f [] h k = tt
each_both P Q R f (x ∷ xs) h k = (f x h.0 k.0, each_both P Q R f xs h.1 k.1)

-- ---- where ranges begin

abbrev From : (low : ℕ) → GateRange → Type 0
From low r = low ≤ r.first

start_from : (low f g : ℕ) (s : KStmt) → low ≤ f → low ≤ g → low ≤ starts f g s
start_from low f g (Finalize b) h k = h
start_from low f g _ h k = k

module _ (table : List ℕ) where
  mutual
    unfolding stmt_ranges

    stmt_from : (low g : ℕ) (s : KStmt) → low ≤ g → Each (From low) (stmt_ranges table g s)
    stmt_from low g (Async b) h = block_from low g b h
    stmt_from low g (Finalize b) h = block_from low g b h
    stmt_from low g (Do t b) h = block_from low g b h
    stmt_from low g (If' _ arms last) h = each_append (From low) (arms_ranges table g arms) (block_ranges table g last) (arms_from low g arms h) (block_from low g last h)
    stmt_from low g (Loop k b) h = block_from low g b h
    stmt_from low g (Par' k slot _ bs) h = blocks_from low g bs h
    stmt_from low g _ h = tt

    block_from : (low g : ℕ) (b : KBlock) → low ≤ g → Each (From low) (block_ranges table g b)
    block_from low g (KBlock' n ds x list) h = (h, nodes_from low g (g + (nodes_finalizers list + pools_gates table ds)) list h (omega arith))

    arm_from : (low g : ℕ) (a : KArm) → low ≤ g → Each (From low) (arm_ranges table g a)
    arm_from low g (KArm' c b) h = block_from low g b h

    nodes_from : {n : _} (low f g : ℕ) (r : Row_of-KNode n) → low ≤ f → low ≤ g → Each (From low) (nodes_ranges table f g r)
    nodes_from low f g end_of-KNode h k = tt
    nodes_from low f g (more_of-KNode n p s rest) h k =
        let here = start_from low f g s h k in
        (here, each_append (From low) (stmt_ranges table (starts f g s) s) (nodes_ranges table (f + finalizers s) g rest) (stmt_from low (starts f g s) s here) (nodes_from low (f + finalizers s) g rest (omega arith) k))

    arms_from : {n : _} (low g : ℕ) (r : Row_of-KArm n) → low ≤ g → Each (From low) (arms_ranges table g r)
    arms_from low g end_of-KArm h = tt
    arms_from low g (more_of-KArm a rest) h = each_append (From low) (arm_ranges table g a) (arms_ranges table g rest) (arm_from low g a h) (arms_from low g rest h)

    blocks_from : {n : _} (low g : ℕ) (r : Row_of-KBlock n) → low ≤ g → Each (From low) (blocks_ranges table g r)
    blocks_from low g end_of-KBlock h = tt
    blocks_from low g (more_of-KBlock b rest) h =
        each_append (From low) (block_ranges table g b) (blocks_ranges table (g + block_gates table b) rest) (block_from low g b h) (blocks_from low (g + block_gates table b) rest (omega arith))

-- ---- where they end

both_below : (a b c : ℕ) → max a b ≤ c → (a ≤ c) × (b ≤ c)
both_below a b c h = (grind arith, grind arith)

reach_each : (high : ℕ) (rs : List GateRange) → reach rs ≤ high → Each (λ (r : GateRange). r.first + r.count ≤ high) rs
reach_each high [] h = tt
reach_each high (r ∷ rs) h = let both = both_below (r.first + r.count) (reach rs) high h in (both.0, reach_each high rs both.1)

lies_in : (first count : ℕ) (rs : List GateRange) → Each (From first) rs → reach rs ≤ first + count → Each (LiesIn first count) rs
lies_in first count rs low high =
    each_both (From first) (λ (r : GateRange). r.first + r.count ≤ first + count) (LiesIn first count) (λ (r : GateRange) (h : From first r) (k : r.first + r.count ≤ first + count). (h, k)) rs low (reach_each (first + count) rs high)

pub parts_nest : PartsNest
parts_nest K names table sc first = (
  λ (b : KBlock) (ok : IsTrue (block_ok K names sc b)). each_all (LiesIn first (block_gates table b)) (block_ranges table first b)
      (lies_in first (block_gates table b) (block_ranges table first b) (block_from table first first b (omega arith)) (within_block K names table sc b first ok)),
  λ (n : ℕ) (s : KStmt) (ok : IsTrue (stmt_ok K names sc n s)). each_all (LiesIn first (stmt_gates table s)) (stmt_ranges table first s)
      (lies_in first (stmt_gates table s) (stmt_ranges table first s) (stmt_from table first first s (omega arith)) (within_stmt K names table sc n s first ok)),
)

list_from : (table : List ℕ) (low g : ℕ) (bs : List KBlock) → low ≤ g → Each (From low) (block_list_ranges table g bs)
list_from table low g [] h = tt
list_from table low g (b ∷ bs) h =
    each_append (From low) (block_ranges table g b) (block_list_ranges table (g + block_gates table b) bs) (block_from table low g b h) (list_from table low (g + block_gates table b) bs (omega arith))

pub branches_in_order : BranchesInOrder
branches_in_order K names table sc first b more ok =
    let next = first + block_gates table b in
    let behind = list_from table next next more (omega arith) in
    each_all (λ (r : GateRange). All (Before r) (block_list_ranges table next more)) (block_ranges table first b)
    (each_weaker (λ (r : GateRange). r.first + r.count ≤ next) (λ (r : GateRange). All (Before r) (block_list_ranges table next more))
    (λ (r : GateRange) (h : r.first + r.count ≤ next). each_all (Before r) (block_list_ranges table next more)
    (each_weaker (From next) (Before r) (λ (q : GateRange) (k : From next q). omega (arith, h, k)) (block_list_ranges table next more) behind))
    (block_ranges table first b) (reach_each next (block_ranges table first b) (within_block K names table sc b first ok)))

-- ---- the order in a block

joined : (from middle to : ℕ) (xs ys : List GateRange) → Consecutive from middle xs → Consecutive middle to ys → Consecutive from to (xs ++ ys)
joined from middle to [] ys h k = subst (λ n. Consecutive n to ys) (sym h) k
joined from middle to (x ∷ xs) ys h k = (h.0, joined (from + x.count) middle to xs ys h.1 k)

finalizer_here : (node first : ℕ) (s : KStmt) → Consecutive first (first + finalizers s) (finalizer_range node first s)
finalizer_here node first (Finalize b) = (refl, refl)
finalizer_here node first _ = omega arith

finalizers_in_turn : {n : _} (first : ℕ) (r : Row_of-KNode n) → Consecutive first (first + nodes_finalizers r) (finalizer_ranges first r)
unfolding nodes_finalizers
finalizers_in_turn first end_of-KNode = omega arith
finalizers_in_turn first (more_of-KNode n p s rest) =
    let next = first + finalizers s in
    let all : next + nodes_finalizers rest ≡ first + (finalizers s + nodes_finalizers rest) = omega arith in
    subst (λ m. Consecutive first m (finalizer_range n first s ++ finalizer_ranges next rest)) all (joined first next (next + nodes_finalizers rest) (finalizer_range n first s) (finalizer_ranges next rest) (finalizer_here n first s) (finalizers_in_turn next rest))

places_in_turn : (count first place n : ℕ) → Consecutive first (first + n * count) (place_ranges count first place n)
places_in_turn count first place zero = let none : 0 * count ≡ 0 = omega arith in omega (arith, none)
places_in_turn count first place (suc n) =
    let more : suc n * count ≡ count + n * count = omega arith in
    let all : first + count + n * count ≡ first + suc n * count = omega (arith, more) in
    (refl, subst (λ m. Consecutive (first + count) m (place_ranges count (first + count) (place + 1) n)) all (places_in_turn count (first + count) (place + 1) n))

pool_in_turn : (table : List ℕ) (first : ℕ) (k : KKind) → Consecutive first (first + pool_gates table k) (pool_ranges table first k)
pool_in_turn table first (kind.Var t) = omega arith
pool_in_turn table first (kind.Alias c) = omega arith
pool_in_turn table first (kind.Pool n c) = places_in_turn (entry c table) first 0 n

pools_in_turn : (table : List ℕ) (first : ℕ) (ds : List KDecl) → Consecutive first (first + pools_gates table ds) (pools_ranges table first ds)
pools_in_turn table first [] = omega arith
pools_in_turn table first (d ∷ ds) =
    let own = pool_gates table d.kind in
    let next = first + (own + 0) in
    let same : first + own ≡ next = omega arith in
    let all : next + pools_gates table ds ≡ first + (own + pools_gates table ds) = omega arith in
    subst (λ m. Consecutive first m (pool_ranges table first d.kind ++ pools_ranges table next ds)) all
    (joined first next (next + pools_gates table ds) (pool_ranges table first d.kind) (pools_ranges table next ds) (subst (λ m. Consecutive first m (pool_ranges table first d.kind)) same (pool_in_turn table first d.kind)) (pools_in_turn table next ds))

other_from : (table : List ℕ) (node first : ℕ) (s : KStmt) → Each (From first) (other_range table node first s)
other_from table node first (Finalize b) = tt
other_from table node first s = (omega arith, stmt_from table first first s (omega arith))

others_from : {n : _} (table : List ℕ) (first : ℕ) (r : Row_of-KNode n) → Each (From first) (other_ranges table first r)
others_from table first end_of-KNode = tt
others_from table first (more_of-KNode n p s rest) = each_append (From first) (other_range table n first s) (other_ranges table first rest) (other_from table n first s) (others_from table first rest)

pub block_in_order : BlockInOrder
block_in_order table first ds n list =
    let pools = first + nodes_finalizers list in
    let base = pools + pools_gates table ds in
    (finalizers_in_turn first list, pools_in_turn table pools ds, each_all (From base) (other_ranges table base list) (others_from table base list))
