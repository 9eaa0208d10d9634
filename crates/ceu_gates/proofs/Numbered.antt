-- In a proper kernel the ranges are numbered from 0, so that the range of a node stands in the list at its number.
use Rattle.std.proofs.Common.{◌≡◌, refl, ap, sym, ◌∙◌, ℕ, zero, suc, ◌+◌, ◌<◌, Bool, true, false, IsTrue, List, [], ◌∷◌, ◌++◌, length, get_or, map, ◌==◌, if◌then◌else◌, zero-add, arith}
use Rattle.std.proofs.lemmas.List.{map-append, length-map}
use Rattle.std.proofs.lemmas.Bool.{eq-eqb, eqb-true, ne_eqb}
use Rattle.ceu_tree.specs.declared.kernel.Kernel.{Kernel}
use Rattle.ceu_tree.specs.declared.kernel.KCode.{KCode}
use Rattle.ceu_tree.specs.declared.kernel.KBlock.{KBlock, KBlock', Row_of-KNode, end_of-KNode, more_of-KNode}
use Rattle.ceu_tree.specs.declared.kernel.KArm.{KArm, KArm'}
use Rattle.ceu_tree.specs.declared.kernel.KStmt.{KStmt, Row_of-KArm, end_of-KArm, more_of-KArm, Row_of-KBlock, end_of-KBlock, more_of-KBlock, Async, Finalize, Do, If', Loop, Par'}
use Rattle.ceu_tree.specs.Needs.{finalizers, nodes_finalizers, pools_gates, block_gates, gates_from}
use Rattle.ceu_tree.specs.Numbering.{stmt_nodes, block_nodes, arm_nodes, list_nodes, arms_nodes, blocks_nodes, codes_nodes, counts_from, is_numbered}
use Rattle.ceu_tree.specs.Proper.{is_proper, Proper}
use Rattle.ceu_gates.specs.declared.ranges.GateRange.{GateRange}
use Rattle.ceu_gates.specs.Ranges.{starts, stmt_ranges, block_ranges, arm_ranges, nodes_ranges, arms_ranges, blocks_ranges, codes_ranges, ranges, number_of, the_first, the_count, first_gate, gate_count, nodes, IsByNode}
use Rattle.ceu_gates.proofs.Tests.{both_left, both_right}

abbrev numbers : List GateRange → List ℕ
numbers rs = map (λ (r : GateRange). r.node) rs

numbers_append : (xs ys : List GateRange) (a b : List ℕ) → numbers xs ≡ a → numbers ys ≡ b → numbers (xs ++ ys) ≡ a ++ b
numbers_append xs ys a b e f = map-append (λ (r : GateRange). r.node) xs ys ∙ ap (λ l. l ++ numbers ys) e ∙ ap (λ l. a ++ l) f

module _ (table : List ℕ) where
  mutual
    unfolding stmt_ranges stmt_nodes

    stmt_numbers : (g : ℕ) (s : KStmt) → numbers (stmt_ranges table g s) ≡ stmt_nodes s
    stmt_numbers g (Async b) = block_numbers g b
    stmt_numbers g (Finalize b) = block_numbers g b
    stmt_numbers g (Do t b) = block_numbers g b
    stmt_numbers g (If' _ arms last) = numbers_append (arms_ranges table g arms) (block_ranges table g last) (arms_nodes arms) (block_nodes last) (arms_numbers g arms) (block_numbers g last)
    stmt_numbers g (Loop k b) = block_numbers g b
    stmt_numbers g (Par' k slot _ bs) = blocks_numbers g bs
    stmt_numbers g _ = refl

    pub block_numbers : (g : ℕ) (b : KBlock) → numbers (block_ranges table g b) ≡ block_nodes b
    block_numbers g (KBlock' n ds x list) = ap (λ l. n ∷ l) (list_numbers g (g + (nodes_finalizers list + pools_gates table ds)) list)

    arm_numbers : (g : ℕ) (a : KArm) → numbers (arm_ranges table g a) ≡ arm_nodes a
    arm_numbers g (KArm' c b) = block_numbers g b

    list_numbers : {n : _} (f g : ℕ) (r : Row_of-KNode n) → numbers (nodes_ranges table f g r) ≡ list_nodes r
    list_numbers f g end_of-KNode = refl
    list_numbers f g (more_of-KNode n p s rest) =
        ap (λ l. n ∷ l) (numbers_append (stmt_ranges table (starts f g s) s) (nodes_ranges table (f + finalizers s) g rest) (stmt_nodes s) (list_nodes rest) (stmt_numbers (starts f g s) s) (list_numbers (f + finalizers s) g rest))

    arms_numbers : {n : _} (g : ℕ) (r : Row_of-KArm n) → numbers (arms_ranges table g r) ≡ arms_nodes r
    arms_numbers g end_of-KArm = refl
    arms_numbers g (more_of-KArm a rest) = numbers_append (arm_ranges table g a) (arms_ranges table g rest) (arm_nodes a) (arms_nodes rest) (arm_numbers g a) (arms_numbers g rest)

    blocks_numbers : {n : _} (g : ℕ) (r : Row_of-KBlock n) → numbers (blocks_ranges table g r) ≡ blocks_nodes r
    blocks_numbers g end_of-KBlock = refl
    blocks_numbers g (more_of-KBlock b rest) =
        numbers_append (block_ranges table g b) (blocks_ranges table (g + block_gates table b) rest) (block_nodes b) (blocks_nodes rest) (block_numbers g b) (blocks_numbers (g + block_gates table b) rest)

codes_numbers : (table : List ℕ) (cs : List KCode) → numbers (codes_ranges table cs) ≡ codes_nodes cs
codes_numbers table [] = refl
codes_numbers table (c ∷ cs) =
    let later = table ++ block_gates table c.body ∷ [] in
    numbers_append (block_ranges table 0 c.body) (codes_ranges later cs) (block_nodes c.body) (codes_nodes cs) (block_numbers table 0 c.body) (codes_numbers later cs)

all_numbers : (K : Kernel) → numbers (ranges K) ≡ nodes K
unfolding ranges
all_numbers K =
    let table = gates_from [] K.codes in
    numbers_append (block_ranges table 0 K.body) (codes_ranges [] K.codes) (block_nodes K.body) (codes_nodes K.codes) (block_numbers table 0 K.body) (codes_numbers [] K.codes)

chosen : {X : Type 0} (t : Bool) (a b : X) → t ≡ true → (if t then a else b) ≡ a
chosen true a b e = refl
chosen false a b e = cc

other : {X : Type 0} (t : Bool) (a b : X) → t ≡ false → (if t then a else b) ≡ b
other true a b e = cc
other false a b e = refl

number_at : (f : GateRange → ℕ) (k : ℕ) (rs : List GateRange) (i : ℕ) → IsTrue (counts_from k (numbers rs)) → i < length rs → get_or (map f rs) i 0 ≡ number_of f (k + i) rs
number_at f k [] i ok h = absurd (omega arith)
number_at f k (r ∷ rs) zero ok h =
    let same : r.node ≡ k = eqb-true r.node k (both_left (r.node == k) _ ok) in
    sym (chosen (r.node == (k + 0)) (f r) (number_of f (k + 0) rs) (eq-eqb r.node (k + 0) (omega (arith, same))))
number_at f k (r ∷ rs) (suc i) ok h =
    let same : r.node ≡ k = eqb-true r.node k (both_left (r.node == k) _ ok) in
    let next : k + 1 + i ≡ k + suc i = omega arith in
    number_at f (k + 1) rs i (both_right (r.node == k) _ ok) (omega arith) ∙ ap (λ n. number_of f n rs) next ∙
    sym (other (r.node == (k + suc i)) (f r) (number_of f (k + suc i) rs) (ne_eqb r.node (k + suc i) (λ q. omega (arith, same, q))))

numbered : (K : Kernel) → Proper K → IsTrue (counts_from 0 (nodes K))
unfolding is_proper is_numbered
numbered K ok = both_left _ _ (both_left _ _ (both_left _ _ (both_left _ _ (both_left _ _ ok))))

listed : (K : Kernel) → Proper K → (f : GateRange → ℕ) (xs : List ℕ) → xs ≡ map f (ranges K) → IsByNode K (λ node. number_of f node (ranges K)) xs
listed K ok f xs e =
    let count : length (ranges K) ≡ length (nodes K) = sym (length-map (ranges K) (λ (r : GateRange). r.node)) ∙ ap length (all_numbers K) in
    let long : length xs ≡ length (ranges K) = ap length e ∙ length-map (ranges K) f in
    let inOrder : IsTrue (counts_from 0 (numbers (ranges K))) = ap (counts_from 0) (all_numbers K) ∙ numbered K ok in
    record {
      one_each = long ∙ count;
      each = λ (node : ℕ) (below : node < length xs). ap (λ l. get_or l node 0) e ∙ number_at f 0 (ranges K) node inOrder (omega (arith, long, below)) ∙ ap (λ n. number_of f n (ranges K)) (zero-add node);
    }

pub firsts_listed : (K : Kernel) → Proper K → (xs : List ℕ) → xs ≡ map the_first (ranges K) → IsByNode K (first_gate K) xs
unfolding first_gate
firsts_listed K ok xs e = listed K ok the_first xs e

pub counts_listed : (K : Kernel) → Proper K → (xs : List ℕ) → xs ≡ map the_count (ranges K) → IsByNode K (gate_count K) xs
unfolding gate_count
counts_listed K ok xs e = listed K ok the_count xs e
