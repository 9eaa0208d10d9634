-- The ground of each part of a numbered kernel.
use Rattle.std.proofs.Common.{◌≡◌, refl, sym, ap, ◌∙◌, subst, ◌<◌, ◌≤◌, ℕ, suc, ◌+◌, Bool, true, false, ◌==◌, ◌||◌, List, [], ◌∷◌, ◌++◌, length, length-append, arith, eqb-true}
use Rattle.std.proofs.lemmas.Bool.{and_parts, and_from, false≢true}
use Rattle.ceu_tree.specs.World.{is_among}
use Rattle.ceu_tree.specs.declared.kernel.KNode.{KNode}
use Rattle.ceu_tree.specs.declared.kernel.KArm.{KArm, KArm', out-KArm}
use Rattle.ceu_tree.specs.declared.kernel.KBlock.{KBlock, KBlock', out-KBlock, Row_of-KNode, end_of-KNode, more_of-KNode, items-the_row-KNode, items_shown-the_row-KNode-2}
use Rattle.ceu_tree.specs.declared.kernel.KStmt.{KStmt, out-KStmt, Row_of-KArm, end_of-KArm, more_of-KArm, items-the_row-KArm, items_shown-the_row-KArm-0, items_shown-the_row-KBlock-1, Row_of-KBlock, end_of-KBlock, more_of-KBlock, items-the_row-KBlock, If', Loop, Par'}
use Rattle.ceu_tree.specs.declared.kernel.KStmt.TheBlock.{shown-the_row-KBlock-1}
use Rattle.ceu_tree.specs.declared.kernel.KStmt.TheOpen.{KStmt-F}
use Rattle.ceu_tree.specs.Leaf.{Layer}
use Rattle.ceu_tree.specs.Numbering.{counts_from, stmt_nodes, block_nodes, arm_nodes, list_nodes, arms_nodes, blocks_nodes, decl_slots, loop_slots, par_slots, row_length, stmt_slots, block_slots, arm_slots, list_slots, arms_slots, blocks_slots}
use Rattle.laws_meaning_values.specs.Ground.{Ground, Numbered}
use denote.Hole.Carrier

-- ---- lists that count on

pub counts_parts : (k : ℕ) (xs ys : List ℕ) → counts_from k (xs ++ ys) ≡ true → (counts_from k xs ≡ true) × (counts_from (k + length xs) ys ≡ true)
counts_parts k [] ys h = (refl, subst (λ j. counts_from j ys ≡ true) (omega arith) h)
counts_parts k (x ∷ xs) ys h =
    let a = and_parts (x == k) (counts_from (k + 1) (xs ++ ys)) h in
    let b = counts_parts (k + 1) xs ys a.1 in
    (and_from (x == k) (counts_from (k + 1) xs) a.0 b.0, subst (λ j. counts_from j ys ≡ true) (omega arith) b.1)

-- a ground that lies in another one
pub record Inner (h g : Ground) : Type 0 where
  pub low : g.low ≤ h.low
  pub high : h.high ≤ g.high
  pub first : g.first ≤ h.first
  pub last : h.last ≤ g.last

-- the parts of a list that counts on have a ground each, one after the other
pub record Halves (xs ys us vs : List ℕ) (g : Ground) : Type 0 where
  pub left : Ground
  pub right : Ground
  pub on_left : Numbered xs us left
  pub on_right : Numbered ys vs right
  pub low : left.low ≡ g.low
  pub middle : left.high ≡ right.low
  pub high : right.high ≡ g.high
  pub first : left.first ≡ g.first
  pub between : left.last ≡ right.first
  pub last : right.last ≡ g.last
  pub inner_left : Inner left g
  pub inner_right : Inner right g

pub halves : (xs ys us vs : List ℕ) (g : Ground) → Numbered (xs ++ ys) (us ++ vs) g → Halves xs ys us vs g
halves xs ys us vs g h =
    let a = counts_parts g.low xs ys h.slots_from in
    let b = counts_parts g.first us vs h.nodes_from in
    record {
      left = record { low = g.low; high = g.low + length xs; first = g.first; last = g.first + length us };
      right = record { low = g.low + length xs; high = g.high; first = g.first + length us; last = g.last };
      on_left = record { slots_from = a.0; slots_to = refl; nodes_from = b.0; nodes_to = refl };
      on_right = record { slots_from = a.1; slots_to = h.slots_to ∙ omega (arith, length-append xs ys); nodes_from = b.1; nodes_to = h.nodes_to ∙ omega (arith, length-append us vs) };
      low = refl;
      middle = refl;
      high = refl;
      first = refl;
      between = refl;
      last = refl;
      inner_left = record { low = omega arith; high = omega (arith, h.slots_to, length-append xs ys); first = omega arith; last = omega (arith, h.nodes_to, length-append us vs) };
      inner_right = record { low = omega arith; high = omega arith; first = omega arith; last = omega arith };
    }

-- every number of a list that counts on lies between its ends
pub counted_within : (k : ℕ) (xs : List ℕ) (x : ℕ) → counts_from k xs ≡ true → is_among x xs ≡ true → (k ≤ x) × (x < k + length xs)
counted_within k [] x h e = absurd (false≢true e)
counted_within k (y ∷ xs) x h e = go (x == y) refl (counted_within (k + 1) xs x a.1) e
  where
    a : ((y == k) ≡ true) × (counts_from (k + 1) xs ≡ true)
    a = and_parts (y == k) (counts_from (k + 1) xs) h

    go : (b : Bool) → (x == y) ≡ b → (is_among x xs ≡ true → (k + 1 ≤ x) × (x < k + 1 + length xs)) → (b || is_among x xs) ≡ true → (k ≤ x) × (x < k + length (y ∷ xs))
    go true q ih z = let i = eqb-true x y q in let j = eqb-true y k a.0 in (omega (arith, i, j), omega (arith, i, j))
    go false q ih z = let i = ih z in (omega (arith, i.0), omega (arith, i.1))

pub inner_then : (h g f : Ground) → Inner h g → Inner g f → Inner h f
inner_then h g f a b = record { low = omega (arith, a.low, b.low); high = omega (arith, a.high, b.high); first = omega (arith, a.first, b.first); last = omega (arith, a.last, b.last) }

-- ---- lists of statements, blocks and arms

abbrev pub slots_all : List KNode → List ℕ
slots_all [] = []
slots_all (s ∷ ss) = stmt_slots s.stmt ++ slots_all ss

abbrev pub nodes_all : List KNode → List ℕ
nodes_all [] = []
nodes_all (s ∷ ss) = s.node ∷ (stmt_nodes s.stmt ++ nodes_all ss)

abbrev pub blocks_slots_all : List KBlock → List ℕ
blocks_slots_all [] = []
blocks_slots_all (b ∷ bs) = block_slots b ++ blocks_slots_all bs

abbrev pub blocks_nodes_all : List KBlock → List ℕ
blocks_nodes_all [] = []
blocks_nodes_all (b ∷ bs) = block_nodes b ++ blocks_nodes_all bs

abbrev pub arms_slots_all : List KArm → List ℕ
arms_slots_all [] = []
arms_slots_all (a ∷ arms) = block_slots (out-KArm a).body ++ arms_slots_all arms

abbrev pub arms_nodes_all : List KArm → List ℕ
arms_nodes_all [] = []
arms_nodes_all (a ∷ arms) = block_nodes (out-KArm a).body ++ arms_nodes_all arms

list_slots_row : {n : _} (rows : Row_of-KNode n) → list_slots rows ≡ slots_all (items-the_row-KNode n rows)
unfolding list_slots
list_slots_row end_of-KNode = refl
list_slots_row (more_of-KNode n p s rest) = ap (λ x. stmt_slots s ++ x) (list_slots_row rest)

list_nodes_row : {n : _} (rows : Row_of-KNode n) → list_nodes rows ≡ nodes_all (items-the_row-KNode n rows)
unfolding list_nodes
list_nodes_row end_of-KNode = refl
list_nodes_row (more_of-KNode n p s rest) = ap (λ x. n ∷ (stmt_nodes s ++ x)) (list_nodes_row rest)

blocks_slots_row : {n : _} (rows : Row_of-KBlock n) → blocks_slots rows ≡ blocks_slots_all (items-the_row-KBlock n rows)
unfolding blocks_slots
blocks_slots_row end_of-KBlock = refl
blocks_slots_row (more_of-KBlock b rest) = ap (λ x. block_slots b ++ x) (blocks_slots_row rest)

blocks_nodes_row : {n : _} (rows : Row_of-KBlock n) → blocks_nodes rows ≡ blocks_nodes_all (items-the_row-KBlock n rows)
unfolding blocks_nodes
blocks_nodes_row end_of-KBlock = refl
blocks_nodes_row (more_of-KBlock b rest) = ap (λ x. block_nodes b ++ x) (blocks_nodes_row rest)

arm_slots_is : (a : KArm) → arm_slots a ≡ block_slots (out-KArm a).body
unfolding arm_slots out-KArm Carrier.out
arm_slots_is (KArm' c b) = refl

arm_nodes_is : (a : KArm) → arm_nodes a ≡ block_nodes (out-KArm a).body
unfolding arm_nodes out-KArm Carrier.out
arm_nodes_is (KArm' c b) = refl

arms_slots_row : {n : _} (rows : Row_of-KArm n) → arms_slots rows ≡ arms_slots_all (items-the_row-KArm n rows)
unfolding arms_slots
arms_slots_row end_of-KArm = refl
arms_slots_row (more_of-KArm a rest) = ap (λ x. x ++ arms_slots rest) (arm_slots_is a) ∙ ap (λ x. block_slots (out-KArm a).body ++ x) (arms_slots_row rest)

arms_nodes_row : {n : _} (rows : Row_of-KArm n) → arms_nodes rows ≡ arms_nodes_all (items-the_row-KArm n rows)
unfolding arms_nodes
arms_nodes_row end_of-KArm = refl
arms_nodes_row (more_of-KArm a rest) = ap (λ x. x ++ arms_nodes rest) (arm_nodes_is a) ∙ ap (λ x. block_nodes (out-KArm a).body ++ x) (arms_nodes_row rest)

pub block_slots_is : (b : KBlock) → block_slots b ≡ decl_slots (out-KBlock b).decls ++ slots_all (out-KBlock b).list
unfolding block_slots out-KBlock Carrier.out
block_slots_is (KBlock' n ds x list) = ap (λ y. decl_slots ds ++ y) (list_slots_row list ∙ ap slots_all (sym (items_shown-the_row-KNode-2 x list)))

pub block_nodes_is : (b : KBlock) → block_nodes b ≡ (out-KBlock b).node ∷ nodes_all (out-KBlock b).list
unfolding block_nodes out-KBlock Carrier.out
block_nodes_is (KBlock' n ds x list) = ap (◌∷◌ n) (list_nodes_row list ∙ ap nodes_all (sym (items_shown-the_row-KNode-2 x list)))

-- ---- one level of a statement

abbrev pub hidden_slots : Layer → List ℕ
hidden_slots (KStmt-F.Loop k b) = loop_slots k
hidden_slots (KStmt-F.Par k slot bs) = par_slots k slot (length bs)
hidden_slots (KStmt-F.AwaitCode c es f t) = f ∷ []
hidden_slots layer = []

abbrev pub inner_slots : Layer → List ℕ
inner_slots (KStmt-F.Async b) = block_slots b
inner_slots (KStmt-F.Finalize b) = block_slots b
inner_slots (KStmt-F.Do t b) = block_slots b
inner_slots (KStmt-F.If arms last) = arms_slots_all arms ++ block_slots last
inner_slots (KStmt-F.Loop k b) = block_slots b
inner_slots (KStmt-F.Par k slot bs) = blocks_slots_all bs
inner_slots layer = []

abbrev pub inner_nodes : Layer → List ℕ
inner_nodes (KStmt-F.Async b) = block_nodes b
inner_nodes (KStmt-F.Finalize b) = block_nodes b
inner_nodes (KStmt-F.Do t b) = block_nodes b
inner_nodes (KStmt-F.If arms last) = arms_nodes_all arms ++ block_nodes last
inner_nodes (KStmt-F.Loop k b) = block_nodes b
inner_nodes (KStmt-F.Par k slot bs) = blocks_nodes_all bs
inner_nodes layer = []

row_length_is : {n : _} (rows : Row_of-KBlock n) → row_length rows ≡ length (items-the_row-KBlock n rows)
row_length_is end_of-KBlock = refl
row_length_is (more_of-KBlock b rest) = ap suc (row_length_is rest)

pub stmt_slots_is : (st : KStmt) → stmt_slots st ≡ hidden_slots (out-KStmt st) ++ inner_slots (out-KStmt st)
unfolding stmt_slots out-KStmt Carrier.out
stmt_slots_is (If' x arms last) = ap (λ y. y ++ block_slots last) (arms_slots_row arms ∙ ap arms_slots_all (sym (items_shown-the_row-KArm-0 x arms)))
stmt_slots_is (Par' k slot x bs) =
    ap (λ y. par_slots k slot (row_length bs) ++ y) (blocks_slots_row bs ∙ ap blocks_slots_all (sym (items_shown-the_row-KBlock-1 x bs)))
    ∙ ap (λ n. par_slots k slot n ++ blocks_slots_all (shown-the_row-KBlock-1 x bs)) (row_length_is bs ∙ ap length (sym (items_shown-the_row-KBlock-1 x bs)))
stmt_slots_is (Loop k b) = refl
stmt_slots_is st = refl

pub stmt_nodes_is : (st : KStmt) → stmt_nodes st ≡ inner_nodes (out-KStmt st)
unfolding stmt_nodes out-KStmt Carrier.out
stmt_nodes_is (If' x arms last) = ap (λ y. y ++ block_nodes last) (arms_nodes_row arms ∙ ap arms_nodes_all (sym (items_shown-the_row-KArm-0 x arms)))
stmt_nodes_is (Par' k slot x bs) = blocks_nodes_row bs ∙ ap blocks_nodes_all (sym (items_shown-the_row-KBlock-1 x bs))
stmt_nodes_is st = refl
