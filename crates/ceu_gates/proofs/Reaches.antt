-- How far ranges reach, and what a walk over a list does with the next item.
use Rattle.std.proofs.Common.{◌≡◌, refl, sym, ap, subst, ◌∙◌, ℕ, zero, suc, ◌+◌, ◌<◌, ◌≤◌, ◌^◌, max, List, [], ◌∷◌, ◌++◌, length, drop, get_or, set, append_assoc, add-one, arith}
use Rattle.std.proofs.Math.Seq.{drop-cons, set-append_seam}
use Rattle.std.proofs.lemmas.List.{append-nil, drop_all}
use Rattle.ceu_tree.proofs.Sizes.{stmt_size, block_size, arm_size, node_list_size, arm_list_size, block_list_size, member_node, member_arm, member_block}
use Rattle.ceu_tree.specs.declared.kernel.KNode.{KNode}
use Rattle.ceu_tree.specs.declared.kernel.KArm.{KArm}
use Rattle.ceu_tree.specs.declared.kernel.KBlock.{KBlock, KBlock'}
use Rattle.ceu_tree.specs.declared.kernel.KStmt.{KStmt, Finalize}
use Rattle.ceu_tree.specs.Greatest.{greatest, total}
use Rattle.ceu_tree.specs.Needs.{finalizers, stmt_gates, block_gates}
use Rattle.ceu_gates.specs.declared.ranges.GateRange.{GateRange}
use Rattle.ceu_gates.specs.Ranges.{reach, starts, node_ranges, list_ranges, arm_ranges, arm_list_ranges, block_ranges, block_list_ranges, stmt_ranges}

pub reach_append : (xs ys : List GateRange) → reach (xs ++ ys) ≡ max (reach xs) (reach ys)
reach_append [] ys = grind arith
reach_append (x ∷ xs) ys = let ih : reach (xs ++ ys) ≡ max (reach xs) (reach ys) = reach_append xs ys in grind (arith, ih)

-- the row that was put first is changed once the rest is known
pub row_closed : (xs ys : List GateRange) (x z : GateRange) → set ((xs ++ x ∷ []) ++ ys) (length xs) z ≡ xs ++ z ∷ ys
row_closed xs ys x z = ap (λ l. set l (length xs) z) (append_assoc xs (x ∷ []) ys) ∙ set-append_seam xs x ys z

-- the item that comes next
pub next_item : {A : Type 0} (xs : List A) (i : ℕ) (x : A) → x ≡ get_or xs i x → i < length xs → drop i xs ≡ x ∷ drop (i + 1) xs
next_item xs i x is below = drop-cons xs i x below ∙ ap (λ y. y ∷ drop (suc i) xs) (sym is) ∙ ap (λ n. x ∷ drop n xs) (sym (add-one i))

pub next_fits : (f g : ℕ) (s : KStmt) → starts f g s ≤ 65535 → f < 2 ^ 32 → f + finalizers s < 2 ^ 32
next_fits f g (Finalize b) h k = omega arith
next_fits f g _ h k = omega arith

pub few_finalizers : (s : KStmt) → finalizers s ≤ 1
few_finalizers (Finalize b) = omega arith
few_finalizers _ = omega arith

pub ruleset reaches = (reach_append, row_closed, append_assoc, append-nil)

-- ---- the loops: `now` is what was placed before the item at i, `later` what is placed with it

module _ (gates : List ℕ) where
  pub nodes_reach : (xs : List KNode) (i f g : ℕ) (x : KNode) → x ≡ get_or xs i x → i < length xs →
      reach (list_ranges gates f g (drop i xs)) ≡ max (reach (node_ranges gates (starts f g x.stmt) x)) (reach (list_ranges gates (f + finalizers x.stmt) g (drop (i + 1) xs)))
  nodes_reach xs i f g x is below = ap (λ l. reach (list_ranges gates f g l)) (next_item xs i x is below) ∙ reach_append (node_ranges gates (starts f g x.stmt) x) (list_ranges gates (f + finalizers x.stmt) g (drop (i + 1) xs))

  pub nodes_goes_on : (xs : List KNode) (i f g : ℕ) (x : KNode) → x ≡ get_or xs i x → i < length xs → (all now later : List GateRange) →
      all ≡ now ++ list_ranges gates f g (drop i xs) → later ≡ now ++ node_ranges gates (starts f g x.stmt) x → all ≡ later ++ list_ranges gates (f + finalizers x.stmt) g (drop (i + 1) xs)
  nodes_goes_on xs i f g x is below all now later before step =
      before ∙ ap (λ l. now ++ list_ranges gates f g l) (next_item xs i x is below) ∙
      sym (append_assoc now (node_ranges gates (starts f g x.stmt) x) (list_ranges gates (f + finalizers x.stmt) g (drop (i + 1) xs))) ∙
      ap (λ l. l ++ list_ranges gates (f + finalizers x.stmt) g (drop (i + 1) xs)) (sym step)

  pub nodes_ended : (xs : List KNode) (i f g : ℕ) → length xs ≤ i → (all now : List GateRange) → all ≡ now ++ list_ranges gates f g (drop i xs) → now ≡ all
  nodes_ended xs i f g end all now before = sym (before ∙ ap (λ l. now ++ list_ranges gates f g l) (drop_all i xs end) ∙ append-nil now)

  pub arms_reach : (xs : List KArm) (i g : ℕ) (x : KArm) → x ≡ get_or xs i x → i < length xs →
      reach (arm_list_ranges gates g (drop i xs)) ≡ max (reach (arm_ranges gates g x)) (reach (arm_list_ranges gates g (drop (i + 1) xs)))
  arms_reach xs i g x is below = ap (λ l. reach (arm_list_ranges gates g l)) (next_item xs i x is below) ∙ reach_append (arm_ranges gates g x) (arm_list_ranges gates g (drop (i + 1) xs))

  pub arms_goes_on : (xs : List KArm) (i g : ℕ) (x : KArm) → x ≡ get_or xs i x → i < length xs → (all now later : List GateRange) →
      all ≡ now ++ arm_list_ranges gates g (drop i xs) → later ≡ now ++ arm_ranges gates g x → all ≡ later ++ arm_list_ranges gates g (drop (i + 1) xs)
  arms_goes_on xs i g x is below all now later before step =
      before ∙ ap (λ l. now ++ arm_list_ranges gates g l) (next_item xs i x is below) ∙
      sym (append_assoc now (arm_ranges gates g x) (arm_list_ranges gates g (drop (i + 1) xs))) ∙
      ap (λ l. l ++ arm_list_ranges gates g (drop (i + 1) xs)) (sym step)

  pub arms_ended : (xs : List KArm) (i g : ℕ) → length xs ≤ i → (all now : List GateRange) → all ≡ now ++ arm_list_ranges gates g (drop i xs) → now ≡ all
  arms_ended xs i g end all now before = sym (before ∙ ap (λ l. now ++ arm_list_ranges gates g l) (drop_all i xs end) ∙ append-nil now)

  pub blocks_reach : (xs : List KBlock) (i g : ℕ) (x : KBlock) → x ≡ get_or xs i x → i < length xs →
      reach (block_list_ranges gates g (drop i xs)) ≡ max (reach (block_ranges gates g x)) (reach (block_list_ranges gates (g + block_gates gates x) (drop (i + 1) xs)))
  blocks_reach xs i g x is below = ap (λ l. reach (block_list_ranges gates g l)) (next_item xs i x is below) ∙ reach_append (block_ranges gates g x) (block_list_ranges gates (g + block_gates gates x) (drop (i + 1) xs))

  pub blocks_goes_on : (xs : List KBlock) (i g : ℕ) (x : KBlock) → x ≡ get_or xs i x → i < length xs → (all now later : List GateRange) →
      all ≡ now ++ block_list_ranges gates g (drop i xs) → later ≡ now ++ block_ranges gates g x → all ≡ later ++ block_list_ranges gates (g + block_gates gates x) (drop (i + 1) xs)
  blocks_goes_on xs i g x is below all now later before step =
      before ∙ ap (λ l. now ++ block_list_ranges gates g l) (next_item xs i x is below) ∙
      sym (append_assoc now (block_ranges gates g x) (block_list_ranges gates (g + block_gates gates x) (drop (i + 1) xs))) ∙
      ap (λ l. l ++ block_list_ranges gates (g + block_gates gates x) (drop (i + 1) xs)) (sym step)

  pub blocks_ended : (xs : List KBlock) (i g : ℕ) → length xs ≤ i → (all now : List GateRange) → all ≡ now ++ block_list_ranges gates g (drop i xs) → now ≡ all
  blocks_ended xs i g end all now before = sym (before ∙ ap (λ l. now ++ block_list_ranges gates g l) (drop_all i xs end) ∙ append-nil now)

-- a fold over what is left
pub greatest_next : {A : Type 0} (f : A → ℕ) (xs : List A) (i : ℕ) (x : A) → x ≡ get_or xs i x → i < length xs → greatest f (drop i xs) ≡ max (f x) (greatest f (drop (i + 1) xs))
greatest_next f xs i x is below = ap (greatest f) (next_item xs i x is below)

pub greatest_ended : {A : Type 0} (f : A → ℕ) (xs : List A) (i : ℕ) → length xs ≤ i → greatest f (drop i xs) ≡ 0
greatest_ended f xs i end = ap (greatest f) (drop_all i xs end)

pub total_next : {A : Type 0} (f : A → ℕ) (xs : List A) (i : ℕ) (x : A) → x ≡ get_or xs i x → i < length xs → total f (drop i xs) ≡ f x + total f (drop (i + 1) xs)
total_next f xs i x is below = ap (total f) (next_item xs i x is below)

pub total_ended : {A : Type 0} (f : A → ℕ) (xs : List A) (i : ℕ) → length xs ≤ i → total f (drop i xs) ≡ 0
total_ended f xs i end = ap (total f) (drop_all i xs end)

-- an item is smaller than its list
pub node_smaller : (xs : List KNode) (i : ℕ) (x : KNode) → x ≡ get_or xs i x → i < length xs → stmt_size x.stmt < node_list_size xs
node_smaller xs i x is below = subst (λ (y : KNode). stmt_size y.stmt < node_list_size xs) (sym is) (member_node xs i x below)

pub arm_smaller : (xs : List KArm) (i : ℕ) (x : KArm) → x ≡ get_or xs i x → i < length xs → arm_size x < arm_list_size xs
arm_smaller xs i x is below = subst (λ (y : KArm). arm_size y < arm_list_size xs) (sym is) (member_arm xs i x below)

pub block_smaller : (xs : List KBlock) (i : ℕ) (x : KBlock) → x ≡ get_or xs i x → i < length xs → block_size x < block_list_size xs
block_smaller xs i x is below = subst (λ (y : KBlock). block_size y < block_list_size xs) (sym is) (member_block xs i x below)

left_max : (a b : ℕ) → a ≤ max a b
left_max a b = grind arith

-- a block's own row
pub block_reached : (gates : List ℕ) (g : ℕ) (b : KBlock) → g + block_gates gates b ≤ reach (block_ranges gates g b)
unfolding stmt_ranges
block_reached gates g (KBlock' n ds x list) = left_max (g + block_gates gates (KBlock' n ds x list)) _

pub node_reached : (gates : List ℕ) (g : ℕ) (n : KNode) → g ≤ reach (node_ranges gates g n)
node_reached gates g n = omega (arith, left_max (g + stmt_gates gates n.stmt) (reach (stmt_ranges gates g n.stmt)))
