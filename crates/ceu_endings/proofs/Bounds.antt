-- A statement of a program of one trail costs at most 2 to the power of its weight, with 48 for itself.
use Rattle.std.proofs.Common.{◌≤◌, ℕ, zero, suc, ◌+◌, ◌*◌, ◌^◌, List, [], ◌∷◌, length, Option, Some, None, arith}
use Rattle.std.proofs.Math.Nat.{pow-le-pow_right, mul-le-mul_left, mul-le-mul_right}
use Rattle.std.proofs.lemmas.Nat.{pow_pos, pow-add}
use Rattle.ceu_tree.specs.declared.kernel.Kernel.{Kernel}
use Rattle.ceu_tree.specs.declared.kernel.KArm.{KArm, KArm'}
use Rattle.ceu_tree.specs.declared.kernel.KBlock.{KBlock, KBlock', Row_of-KNode, end_of-KNode, more_of-KNode}
use Rattle.ceu_tree.specs.declared.kernel.KStmt.{KStmt, Row_of-KArm, end_of-KArm, more_of-KArm, Do, If', Loop}
use Rattle.ceu_tree.specs.Paths.{Way, constant_bound, quick_block}
use Rattle.ceu_tree.specs.Proper.{Aim, LoopAim, do_aim}
use Rattle.ceu_tree.specs.Weight.{exp_weight, loop_weight, stmt_weight, block_weight, arm_weight, nodes_weight, arms_weight}
use Rattle.ceu_endings.proofs.Fine.{bound_fine, stmt_fine, block_fine, arm_fine, nodes_fine, arms_fine, turns_at_most, stmt_cost, block_cost, arm_cost, nodes_cost, arms_cost}

-- ---- powers of two

raised : (a b : ℕ) → a ≤ b → 2 ^ a ≤ 2 ^ b
raised a b l = pow-le-pow_right (omega arith) l

some_power : (a : ℕ) → 1 ≤ 2 ^ a
some_power a = pow_pos a

sum_below : (x y : ℕ) → 2 ≤ x → 2 ≤ y → x + y ≤ x * y
sum_below x zero a b = absurd (omega (arith, b))
sum_below x (suc y) a b = let m = mul-le-mul_right y a in omega (arith, a, b, m)

sum_with : (a x y : ℕ) → a + 1 ≤ x → 1 ≤ y → a + y ≤ x * y
sum_with a x zero l m = absurd (omega (arith, m))
sum_with a x (suc y) l m = let p = mul-le-mul_right (suc y) l in omega (arith, l, p)

product_below : (a b x y : ℕ) → a ≤ x → b ≤ y → a * b ≤ x * y
product_below a b x y l m = let p = mul-le-mul_right b l in let q = mul-le-mul_left x m in omega (arith, p, q)

both_below : (x y : ℕ) → 1 ≤ x → 1 ≤ y → x + y ≤ 2 * (x * y)
both_below x y l m = let p = mul-le-mul_right y l in let q = mul-le-mul_left x m in omega (arith, p, q)

shifted : (a k b : ℕ) → a + k ≤ b → 2 ^ k * 2 ^ a ≤ 2 ^ b
shifted a k b l = let e = pow-add 2 k a in let r = raised (k + a) (b) (omega (arith, l)) in omega (arith, e, r)

-- ---- statement by statement

simple_fits : (w : ℕ) → 4 * 1 ≤ 2 ^ (48 + w)
simple_fits w = let r = raised (2) (48 + w) (omega arith) in omega (arith, r)

do_fits : (c w : ℕ) → c ≤ 2 ^ (w + 1) → 4 * suc c ≤ 2 ^ (48 + w)
do_fits c w h = let s = shifted (w + 1) 3 (48 + w) (omega arith) in let o = some_power (w + 1) in omega (arith, h, s, o)

if_fits : (c d v w : ℕ) → c + 1 ≤ 2 ^ v → d ≤ 2 ^ (w + 1) → 4 * suc (c + d) ≤ 2 ^ (48 + (v + w))
if_fits c d v w h k =
    let b = both_below (2 ^ v) (2 ^ (w + 1)) (some_power v) (some_power (w + 1)) in
    let e = pow-add 2 v (w + 1) in
    let s = shifted (v + (w + 1)) 3 (48 + (v + w)) (omega arith) in
    omega (arith, h, k, b, e, s)

loop_fits : (n c v w : ℕ) → n ≤ 65536 → c ≤ 2 ^ (w + 1) → 4 * (suc n * suc c) ≤ 2 ^ (48 + (v + w))
loop_fits n c v w l h =
    let o = some_power (w + 1) in
    let p = product_below (suc n) (suc c) 65537 (2 * 2 ^ (w + 1)) (omega (arith, l)) (omega (arith, h, o)) in
    let s = shifted (w + 1) 20 (48 + (v + w)) (omega arith) in
    omega (arith, p, s)

list_fits : (c d v w : ℕ) → 4 * c ≤ 2 ^ (48 + v) → 2 * d ≤ 2 ^ (w + 1) → 2 * (c + d) ≤ 2 ^ (48 + v + w + 1)
list_fits c d v w h k =
    let x = raised (1) (48 + v) (omega arith) in
    let y = raised (1) (w + 1) (omega arith) in
    let b = sum_below (2 ^ (48 + v)) (2 ^ (w + 1)) (omega (arith, x)) (omega (arith, y)) in
    let e = pow-add 2 (48 + v) (w + 1) in
    let r = raised (48 + v + (w + 1)) (48 + v + w + 1) (omega arith) in
    omega (arith, h, k, b, e, r)

arm_fits : (c v w : ℕ) → c ≤ 2 ^ (w + 1) → c + 1 ≤ 2 ^ (48 + v + w)
arm_fits c v w h = let s = shifted (w + 1) 1 (48 + v + w) (omega arith) in let o = some_power (w + 1) in omega (arith, h, s, o)

arms_fit : (c d v w : ℕ) → c + 1 ≤ 2 ^ v → d + 1 ≤ 2 ^ w → c + d + 1 ≤ 2 ^ (v + w)
arms_fit c d v w h k = let b = sum_with c (2 ^ v) (2 ^ w) h (some_power w) in let e = pow-add 2 v w in omega (arith, k, b, e)

block_fits : (c d w : ℕ) → 2 * c ≤ 2 ^ (w + 1) → 1 ≤ c → suc c ≤ 2 ^ (48 * d + w + 1)
block_fits c d w h o = let r = raised (w + 1) (48 * d + w + 1) (omega arith) in omega (arith, h, o, r)

turns_fine : (o : Option ℕ) (node : ℕ) (q : List Way) → bound_fine o node q → turns_at_most o ≤ 65536
turns_fine None node q h = omega arith
turns_fine (Some n) node q h = h

list_some : {n : _} (rows : Row_of-KNode n) → 1 ≤ nodes_cost rows
unfolding nodes_cost
list_some end_of-KNode = omega arith
list_some (more_of-KNode n p s rest) = let i = list_some rest in omega (arith, i)

module _ (K : Kernel) where
  mutual
    unfolding stmt_fine stmt_cost stmt_weight

    stmt_bound : (aims : List Aim) (n : ℕ) (st : KStmt) → stmt_fine K aims n st → 4 * stmt_cost st ≤ 2 ^ (48 + stmt_weight st)
    stmt_bound aims n (Do t b) h = do_fits (block_cost b) (block_weight b) (block_bound (do_aim K n t ∷ aims) b h.2)
    stmt_bound aims n (If' x arms last) h = if_fits (arms_cost arms) (block_cost last) (arms_weight arms) (block_weight last) (arms_bound aims n arms h.1) (block_bound aims last h.3)
    stmt_bound aims n (Loop k b) h = loop_fits (turns_at_most (constant_bound k)) (block_cost b) (loop_weight k) (block_weight b) (turns_fine (constant_bound k) n (quick_block [] b) h.1) (block_bound (LoopAim n ∷ aims) b h.3)
    stmt_bound aims n st h = simple_fits (stmt_weight st)

    pub block_bound : (aims : List Aim) (b : KBlock) → block_fine K aims b → block_cost b ≤ 2 ^ (block_weight b + 1)
    block_bound aims (KBlock' n ds x list) h = block_fits (nodes_cost list) (length ds) (nodes_weight list) (nodes_bound aims list h) (list_some list)

    arm_bound : (aims : List Aim) (n : ℕ) (a : KArm) → arm_fine K aims n a → arm_cost a + 1 ≤ 2 ^ arm_weight a
    arm_bound aims n (KArm' c b) h = arm_fits (block_cost b) (exp_weight c) (block_weight b) (block_bound aims b h.1)

    nodes_bound : {n : _} (aims : List Aim) (rows : Row_of-KNode n) → nodes_fine K aims rows → 2 * nodes_cost rows ≤ 2 ^ (nodes_weight rows + 1)
    nodes_bound aims end_of-KNode h = omega arith
    nodes_bound aims (more_of-KNode n p s rest) h = list_fits (stmt_cost s) (nodes_cost rest) (stmt_weight s) (nodes_weight rest) (stmt_bound aims n s h.0) (nodes_bound aims rest h.1)

    arms_bound : {m : _} (aims : List Aim) (n : ℕ) (rows : Row_of-KArm m) → arms_fine K aims n rows → arms_cost rows + 1 ≤ 2 ^ arms_weight rows
    arms_bound aims n end_of-KArm h = omega arith
    arms_bound aims n (more_of-KArm a rest) h = arms_fit (arm_cost a) (arms_cost rest) (arm_weight a) (arms_weight rest) (arm_bound aims n a h.0) (arms_bound aims n rest h.1)
