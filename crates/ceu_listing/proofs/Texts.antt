-- Rows one after the other: their text, and that they are numbered.
use Rattle.std.proofs.Common.{◌≡◌, refl, sym, ap, subst, ◌∙◌, ℕ, suc, ◌+◌, ◌-◌, ◌<◌, ◌≤◌, arith, List, [], ◌∷◌, ◌++◌, length, drop, get_or, append_assoc, codes}
use Rattle.std.proofs.lemmas.List.{append-nil, drop_all}
use Rattle.ceu_base.specs.declared.kinds.Pos.{Pos}
use Rattle.ceu_gates.specs.declared.plan.GatePlan.{GatePlan}
use Rattle.ceu_slots.specs.Plans.{Planned}
use Rattle.ceu_tree.specs.Numbering.{range_of}
use Rattle.ceu_tree.specs.declared.kernel.KNode.{KNode}
use Rattle.ceu_tree.specs.declared.kernel.KArm.{KArm}
use Rattle.ceu_tree.specs.declared.kernel.KBlock.{KBlock}
use Rattle.ceu_tree.proofs.Sizes.{stmt_size, block_size, arm_size, node_list_size, arm_list_size, block_list_size, member_node, member_arm, member_block}
use Rattle.ceu_listing.specs.Rows.{Row, SlotRow, byte_rows, list_rows, AreNumbered}
use Rattle.ceu_listing.specs.Lines.{line, text}
use Rattle.ceu_io.proofs.Written.{next_item}

pub text_append : (p : Planned) (g : GatePlan) (xs ys : List Row) → text p g (xs ++ ys) ≡ text p g xs ++ text p g ys
text_append p g [] ys = refl
text_append p g (x ∷ xs) ys = ap (λ l. line p g x ++ l) (text_append p g xs ys) ∙ sym (append_assoc (line p g x) (text p g xs) (text p g ys))

pub text_one : (p : Planned) (g : GatePlan) (x : Row) → text p g (x ∷ []) ≡ line p g x
text_one p g x = append-nil (line p g x)

pub numbered_left : (m n : ℕ) (xs ys : List Row) → AreNumbered m n (xs ++ ys) → AreNumbered m n xs
numbered_left m n [] ys h = tt
numbered_left m n (x ∷ xs) ys h = (h.0, numbered_left m n xs ys h.1)

pub numbered_right : (m n : ℕ) (xs ys : List Row) → AreNumbered m n (xs ++ ys) → AreNumbered m n ys
numbered_right m n [] ys h = h
numbered_right m n (x ∷ xs) ys h = numbered_right m n xs ys h.1

pub ruleset texts = (text_append, text_one, numbered_left, numbered_right)

-- ---- a loop over items: what is left at each of them

pub rows_next : {X : Type 0} (f : X → List Row) (xs : List X) (i : ℕ) (x : X) → x ≡ get_or xs i x → i < length xs → list_rows f (drop i xs) ≡ f x ++ list_rows f (drop (i + 1) xs)
rows_next f xs i x is below = ap (list_rows f) (next_item xs i x is below)

pub text_next : {X : Type 0} (p : Planned) (g : GatePlan) (f : X → List Row) (xs : List X) (i : ℕ) (x : X) → x ≡ get_or xs i x → i < length xs →
    text p g (list_rows f (drop i xs)) ≡ text p g (f x) ++ text p g (list_rows f (drop (i + 1) xs))
text_next p g f xs i x is below = ap (text p g) (rows_next f xs i x is below) ∙ text_append p g (f x) (list_rows f (drop (i + 1) xs))

pub numbered_next : {X : Type 0} (m n : ℕ) (f : X → List Row) (xs : List X) (i : ℕ) (x : X) → x ≡ get_or xs i x → i < length xs → AreNumbered m n (list_rows f (drop i xs)) →
    AreNumbered m n (f x) × AreNumbered m n (list_rows f (drop (i + 1) xs))
numbered_next m n f xs i x is below h =
    let both : AreNumbered m n (f x ++ list_rows f (drop (i + 1) xs)) = subst (AreNumbered m n) (rows_next f xs i x is below) h in
    (numbered_left m n (f x) (list_rows f (drop (i + 1) xs)) both, numbered_right m n (f x) (list_rows f (drop (i + 1) xs)) both)

pub text_ended : {X : Type 0} (p : Planned) (g : GatePlan) (f : X → List Row) (xs : List X) (i : ℕ) → length xs ≤ i → text p g (list_rows f (drop i xs)) ≡ []
text_ended p g f xs i end = ap (λ l. text p g (list_rows f l)) (drop_all i xs end)

-- an item is smaller than its list
pub node_smaller : (xs : List KNode) (i : ℕ) (x : KNode) → x ≡ get_or xs i x → i < length xs → stmt_size x.stmt < node_list_size xs
node_smaller xs i x is below = subst (λ (y : KNode). stmt_size y.stmt < node_list_size xs) (sym is) (member_node xs i x below)

pub arm_smaller : (xs : List KArm) (i : ℕ) (x : KArm) → x ≡ get_or xs i x → i < length xs → arm_size x < arm_list_size xs
arm_smaller xs i x is below = subst (λ (y : KArm). arm_size y < arm_list_size xs) (sym is) (member_arm xs i x below)

pub block_smaller : (xs : List KBlock) (i : ℕ) (x : KBlock) → x ≡ get_or xs i x → i < length xs → block_size x < block_list_size xs
block_smaller xs i x is below = subst (λ (y : KBlock). block_size y < block_list_size xs) (sym is) (member_block xs i x below)

-- ---- bytes of a par/and, declarations, and three rows

pub bytes_step : (at : Pos) (slot k count : ℕ) → k < count → byte_rows at (range_of (slot + k) (count - k)) ≡ (SlotRow (slot + k) (codes ".and") at ∷ []) ++ byte_rows at (range_of (slot + (k + 1)) (count - (k + 1)))
bytes_step at slot k count h =
    let more : count - k ≡ suc (count - (k + 1)) = omega arith in
    let next : slot + k + 1 ≡ slot + (k + 1) = omega arith in
    ap (λ n. byte_rows at (range_of (slot + k) n)) more ∙ ap (λ n. SlotRow (slot + k) (codes ".and") at ∷ byte_rows at (range_of n (count - (k + 1)))) next

pub text_three : (p : Planned) (g : GatePlan) (a b c : Row) → text p g (a ∷ b ∷ c ∷ []) ≡ text p g (a ∷ []) ++ (text p g (b ∷ []) ++ text p g (c ∷ []))
text_three p g a b c = text_append p g (a ∷ []) (b ∷ c ∷ []) ∙ ap (λ l. text p g (a ∷ []) ++ l) (text_append p g (b ∷ []) (c ∷ []))
