-- Measures for recursions over statements: how many parts there are.
use Rattle.std.proofs.Common.{◌≡◌, refl, sym, ap, ◌∙◌, ℕ, suc, ◌+◌, ◌-◌, ◌≤◌, length, get_or, take, drop, arith, List, [], ◌∷◌, Option, Some, None}
use Rattle.std.proofs.lemmas.List.{take_rest}
use Rattle.ceu_tree.specs.declared.source.Block.{Block, Block', out-Block, Row_of-Node, end_of-Node, more_of-Node, items-the_row-Node, items_shown-the_row-Node-3}
use Rattle.ceu_tree.specs.declared.source.Node.{Node}
use Rattle.ceu_tree.specs.declared.source.Do.{Do, Do', out-Do}
use Rattle.ceu_tree.specs.declared.source.Source as source
use Rattle.ceu_tree.specs.declared.source.Source.{Source}
use Rattle.ceu_tree.specs.declared.source.Arm.{Arm, Arm', out-Arm}
use Rattle.ceu_tree.specs.declared.source.Range.{Range, Range', out-Range}
use Rattle.ceu_tree.specs.declared.source.Item.{Item, Held-Item-value, Item-value-None', Item-value-Some', view-Item-value}
use Rattle.ceu_tree.specs.declared.source.Stmt as stmt
use Rattle.ceu_tree.specs.declared.source.Stmt.{Stmt, Vars', If', Par', Row_of-Item, end_of-Item, more_of-Item, items-the_row-Item, items_hidden-the_row-Item-0, Row_of-Arm, end_of-Arm, more_of-Arm, items-the_row-Arm, items_hidden-the_row-Arm-1, Row_of-Block, end_of-Block, more_of-Block, items-the_row-Block, items_hidden-the_row-Block-2, Held-Stmt-If-1, Stmt-If-1-None', Stmt-If-1-Some', back-Stmt-If-1}
use Rattle.ceu_tree.specs.declared.source.Source.TheBlock.{hidden-the_row-Item-0, hidden-the_row-Arm-1, hidden-the_row-Block-2}
use denote.Hole.Carrier

unfoldable mutual
  pub stmt_size : Stmt → ℕ
  stmt_size (Vars' t _ items) = suc (items_size items)
  stmt_size (stmt.Code x ps t b) = suc (body_size b)
  stmt_size (stmt.Assign x s) = suc (source_size s)
  stmt_size (stmt.Do d) = suc (do_size d)
  stmt_size (stmt.Finalize b) = suc (body_size b)
  stmt_size (If' _ arms last) = suc (arms_size arms + last_size last)
  stmt_size (stmt.Loop n b) = suc (body_size b)
  stmt_size (stmt.Range r) = suc (range_size r)
  stmt_size (stmt.Every x t b) = suc (body_size b)
  stmt_size (stmt.Watching t b) = suc (body_size b)
  stmt_size (Par' k _ bs) = suc (blocks_size bs)
  stmt_size (stmt.Async xs b) = suc (body_size b)
  stmt_size _ = 1

  pub source_size : Source → ℕ
  source_size (source.Done d) = suc (do_size d)
  source_size _ = 1

  pub value_size : Held-Item-value → ℕ
  value_size Item-value-None' = 0
  value_size (Item-value-Some' s) = source_size s

  pub do_size : Do → ℕ
  do_size (Do' l b) = suc (body_size b)

  pub body_size : Block → ℕ
  body_size (Block' _ list) = suc (suc (nodes_size list))

  pub arm_size : Arm → ℕ
  arm_size (Arm' c b) = suc (body_size b)

  pub last_size : Held-Stmt-If-1 → ℕ
  last_size Stmt-If-1-None' = 0
  last_size (Stmt-If-1-Some' b) = suc (body_size b)

  pub range_size : Range → ℕ
  range_size (Range' x open_a a b open_b body) = suc (body_size body)

  pub items_size : {n : _} → Row_of-Item n → ℕ
  items_size end_of-Item = 0
  items_size (more_of-Item x v rest) = suc (suc (value_size v) + items_size rest)

  pub arms_size : {n : _} → Row_of-Arm n → ℕ
  arms_size end_of-Arm = 0
  arms_size (more_of-Arm a rest) = suc (arm_size a + arms_size rest)

  pub blocks_size : {n : _} → Row_of-Block n → ℕ
  blocks_size end_of-Block = 0
  blocks_size (more_of-Block b rest) = suc (body_size b + blocks_size rest)

  pub nodes_size : {n : _} → Row_of-Node n → ℕ
  nodes_size end_of-Node = 0
  nodes_size (more_of-Node p s rest) = suc (suc (stmt_size s) + nodes_size rest)

-- ---- the same over the lists that a tree has

abbrev pub if_value_size : Option Source → ℕ
if_value_size None = 0
if_value_size (Some s) = source_size s

abbrev pub item_size : Item → ℕ
item_size i = suc (if_value_size i.value)

abbrev pub else_size : Option Block → ℕ
else_size None = 0
else_size (Some b) = suc (body_size b)

abbrev pub node_size : Node → ℕ
node_size n = suc (stmt_size n.stmt)

unfoldable pub total_size : {X : Type 0} → (X → ℕ) → List X → ℕ
total_size f [] = 0
total_size f (x ∷ xs) = suc (f x + total_size f xs)

value_held : (v : Held-Item-value) → value_size v ≡ if_value_size (view-Item-value v)
unfolding stmt_size
value_held Item-value-None' = refl
value_held (Item-value-Some' s) = refl

items_row : {n : _} (r : Row_of-Item n) → items_size r ≡ total_size item_size (items-the_row-Item n r)
unfolding stmt_size total_size
items_row end_of-Item = refl
items_row (more_of-Item x v rest) = λ i. suc (suc (value_held v i) + items_row rest i)

arms_row : {n : _} (r : Row_of-Arm n) → arms_size r ≡ total_size arm_size (items-the_row-Arm n r)
unfolding stmt_size total_size
arms_row end_of-Arm = refl
arms_row (more_of-Arm a rest) = ap (λ (k : ℕ). suc (arm_size a + k)) (arms_row rest)

blocks_row : {n : _} (r : Row_of-Block n) → blocks_size r ≡ total_size body_size (items-the_row-Block n r)
unfolding stmt_size total_size
blocks_row end_of-Block = refl
blocks_row (more_of-Block b rest) = ap (λ (k : ℕ). suc (body_size b + k)) (blocks_row rest)

nodes_row : {n : _} (r : Row_of-Node n) → nodes_size r ≡ total_size node_size (items-the_row-Node n r)
unfolding stmt_size total_size
nodes_row end_of-Node = refl
nodes_row (more_of-Node p s rest) = ap (λ (k : ℕ). suc (suc (stmt_size s) + k)) (nodes_row rest)

last_held : (last : Option Block) → last_size (back-Stmt-If-1 last) ≡ else_size last
unfolding stmt_size
last_held None = refl
last_held (Some b) = refl

-- ---- one level

pub size_body : (b : Block) → body_size b ≡ suc (suc (total_size node_size (out-Block b).list))
unfolding stmt_size out-Block Carrier.out
size_body (Block' x list) = ap (λ (k : ℕ). suc (suc k)) (nodes_row list ∙ sym (ap (total_size node_size) (items_shown-the_row-Node-3 x list)))

pub size_do : (d : Do) → do_size d ≡ suc (body_size (out-Do d).body)
unfolding stmt_size out-Do Carrier.out
size_do (Do' l b) = refl

pub size_arm : (a : Arm) → arm_size a ≡ suc (body_size (out-Arm a).body)
unfolding stmt_size out-Arm Carrier.out
size_arm (Arm' c b) = refl

pub size_range_of : (r : Range) → range_size r ≡ suc (body_size (out-Range r).body)
unfolding stmt_size out-Range Carrier.out
size_range_of (Range' x open_a a b open_b body) = refl

pub size_done : (d : Do) → source_size (source.Done d) ≡ suc (do_size d)
unfolding stmt_size
size_done d = refl

pub size_vars : (t : _) (items : List Item) → stmt_size (stmt.Vars t items) ≡ suc (total_size item_size items)
unfolding stmt_size
size_vars t items = ap suc (items_row (hidden-the_row-Item-0 items) ∙ ap (total_size item_size) (items_hidden-the_row-Item-0 items))

pub size_if : (arms : List Arm) (last : Option Block) → stmt_size (stmt.If arms last) ≡ suc (total_size arm_size arms + else_size last)
unfolding stmt_size
size_if arms last = λ i. suc ((arms_row (hidden-the_row-Arm-1 arms) ∙ ap (total_size arm_size) (items_hidden-the_row-Arm-1 arms)) i + last_held last i)

pub size_par : (k : _) (bs : List Block) → stmt_size (stmt.Par k bs) ≡ suc (total_size body_size bs)
unfolding stmt_size
size_par k bs = ap suc (blocks_row (hidden-the_row-Block-2 bs) ∙ ap (total_size body_size) (items_hidden-the_row-Block-2 bs))

-- the first of some, and the rest
pub size_first : {X : Type 0} (f : X → ℕ) (xs : List X) (d : X) → 1 ≤ length xs → total_size f xs ≡ suc (f (get_or xs 0 d) + total_size f (take (length xs - 1) (drop 1 xs)))
unfolding total_size
size_first f [] d some = absurd (omega arith)
size_first f (x ∷ xs) d some = ap (λ (r : List _). suc (f x + total_size f r)) (sym (take_rest (x ∷ xs) 1))

pub size_code : (x : _) (ps : _) (t : _) (b : _) → stmt_size (stmt.Code x ps t b) ≡ suc (body_size b)
unfolding stmt_size
size_code x ps t b = refl

pub size_assign : (x : _) (s : _) → stmt_size (stmt.Assign x s) ≡ suc (source_size s)
unfolding stmt_size
size_assign x s = refl

pub size_do_block : (d : _) → stmt_size (stmt.Do d) ≡ suc (do_size d)
unfolding stmt_size
size_do_block d = refl

pub size_finalize : (b : _) → stmt_size (stmt.Finalize b) ≡ suc (body_size b)
unfolding stmt_size
size_finalize b = refl

pub size_loop : (n : _) (b : _) → stmt_size (stmt.Loop n b) ≡ suc (body_size b)
unfolding stmt_size
size_loop n b = refl

pub size_range : (r : _) → stmt_size (stmt.Range r) ≡ suc (range_size r)
unfolding stmt_size
size_range r = refl

pub size_every : (x : _) (t : _) (b : _) → stmt_size (stmt.Every x t b) ≡ suc (body_size b)
unfolding stmt_size
size_every x t b = refl

pub size_watching : (t : _) (b : _) → stmt_size (stmt.Watching t b) ≡ suc (body_size b)
unfolding stmt_size
size_watching t b = refl

pub size_async : (xs : _) (b : _) → stmt_size (stmt.Async xs b) ≡ suc (body_size b)
unfolding stmt_size
size_async xs b = refl

pub ruleset sizes = (size_body, size_do, size_arm, size_range_of, size_done, size_vars, size_if, size_par, size_first, size_code, size_assign, size_do_block, size_finalize, size_loop, size_range, size_every, size_watching, size_async)
