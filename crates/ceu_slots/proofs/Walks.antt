-- What a walk over a list does with the next item.
use Rattle.std.proofs.Common.{◌≡◌, refl, sym, ap, subst, ◌∙◌, ℕ, zero, suc, ◌+◌, ◌-◌, ◌<◌, ◌≤◌, max, Bool, true, false, List, [], ◌∷◌, ◌++◌, length, drop, get_or, append_assoc, add-one, arith}
use Rattle.std.proofs.Math.Seq.{drop-cons}
use Rattle.std.proofs.lemmas.List.{append-nil, drop_all}
use Rattle.ceu_tree.specs.declared.kernel.KNode.{KNode}
use Rattle.ceu_tree.specs.declared.kernel.KArm.{KArm}
use Rattle.ceu_tree.specs.declared.kernel.KBlock.{KBlock}
use Rattle.ceu_tree.specs.Cut.{cut}
use Rattle.ceu_tree.specs.Needs.{apart}
use Rattle.ceu_tree.proofs.Sizes.{stmt_size, block_size, arm_size, node_list_size, arm_list_size, block_list_size, member_node, member_arm, member_block}
use Rattle.ceu_slots.specs.declared.layout.SlotPlace.{SlotPlace}
use Rattle.ceu_slots.specs.Layout.{place, behind, byte_places}

pub next_item : {A : Type 0} (xs : List A) (i : ℕ) (x : A) → x ≡ get_or xs i x → i < length xs → drop i xs ≡ x ∷ drop (i + 1) xs
next_item xs i x is below = drop-cons xs i x below ∙ ap (λ y. y ∷ drop (suc i) xs) (sym is) ∙ ap (λ n. x ∷ drop n xs) (sym (add-one i))

-- `now` is what was placed before the item at i, `later` what is placed with it; the item's places are `own`, those behind it `rest`
pub goes_on : (all now later own rest here : List SlotPlace) → here ≡ own ++ rest → all ≡ now ++ here → later ≡ now ++ own → all ≡ later ++ rest
goes_on all now later own rest here split before step = before ∙ ap (λ l. now ++ l) split ∙ sym (append_assoc now own rest) ∙ ap (λ l. l ++ rest) (sym step)

apart_assoc : (plain : Bool) (a b c : ℕ) → apart plain (apart plain a b) c ≡ apart plain a (apart plain b c)
apart_assoc true a b c = omega arith
apart_assoc false a b c = grind arith

-- two starts, one after the other
pub behind_twice : (plain : Bool) (at a b : ℕ) → behind plain (behind plain at a) b ≡ behind plain at (apart plain a b)
behind_twice true at a b = omega arith
behind_twice false at a b = refl

-- what follows fits where the whole fits
pub fits_next : (plain : Bool) (at size own rest all : ℕ) → all ≡ apart plain size (apart plain own rest) → at + all ≤ 65535 →
    (at + size ≤ 65535) × (behind plain at size + own ≤ 65535) × (all ≡ apart plain (apart plain size own) rest) × (at + apart plain size own ≤ 65535)
fits_next true at size own rest all e h = (omega arith, omega arith, omega arith, omega arith)
fits_next false at size own rest all e h = (most_1 at size own rest all e h, most_2 at size own rest all e h, most_3 size own rest all e, most_4 at size own rest all e h)
  where
    most_1 : (at size own rest all : ℕ) → all ≡ max size (max own rest) → at + all ≤ 65535 → at + size ≤ 65535
    most_1 at size own rest all e h = grind arith

    most_2 : (at size own rest all : ℕ) → all ≡ max size (max own rest) → at + all ≤ 65535 → at + own ≤ 65535
    most_2 at size own rest all e h = grind arith

    most_3 : (size own rest all : ℕ) → all ≡ max size (max own rest) → all ≡ max (max size own) rest
    most_3 size own rest all e = grind arith

    most_4 : (at size own rest all : ℕ) → all ≡ max size (max own rest) → at + all ≤ 65535 → at + max size own ≤ 65535
    most_4 at size own rest all e h = grind arith

pub apart_none : (plain : Bool) (a b : ℕ) → b ≡ 0 → apart plain a b ≡ a
apart_none true a b e = omega arith
apart_none false a b e = most a b e
  where
    most : (a b : ℕ) → b ≡ 0 → max a b ≡ a
    most a b e = grind arith

pub none_apart : (plain : Bool) (a : ℕ) → apart plain 0 a ≡ a
none_apart true a = omega arith
none_apart false a = most a
  where
    most : (a : ℕ) → max 0 a ≡ a
    most a = grind arith

pub small_apart : (plain : Bool) (a b : ℕ) → apart plain a b ≤ a + b
small_apart true a b = omega arith
small_apart false a b = most a b
  where
    most : (a b : ℕ) → max a b ≤ a + b
    most a b = grind arith

pub behind_none : (plain : Bool) (at : ℕ) → behind plain at 0 ≡ at
behind_none true at = omega arith
behind_none false at = refl

pub uncut : (n : ℕ) → n ≤ 65535 → cut n ≡ n
uncut n h = grind arith

pub bytes_next : (slot at k count : ℕ) → k < count → byte_places (slot + k) (at + k) (count - k) ≡ place (slot + k) (at + k) 1 ∷ byte_places (slot + (k + 1)) (at + (k + 1)) (count - (k + 1))
bytes_next slot at k count h =
    let more : count - k ≡ suc (count - (k + 1)) = omega arith in
    let a : slot + k + 1 ≡ slot + (k + 1) = omega arith in
    let b : at + k + 1 ≡ at + (k + 1) = omega arith in
    ap (byte_places (slot + k) (at + k)) more ∙ ap (λ n. place (slot + k) (at + k) 1 ∷ byte_places n (at + k + 1) (count - (k + 1))) a ∙
    ap (λ n. place (slot + k) (at + k) 1 ∷ byte_places (slot + (k + 1)) n (count - (k + 1))) b

pub bytes_ended : (slot at k count : ℕ) → count ≤ k → byte_places (slot + k) (at + k) (count - k) ≡ []
bytes_ended slot at k count h = let none : count - k ≡ 0 = omega arith in ap (byte_places (slot + k) (at + k)) none

-- an item is smaller than its list
pub node_smaller : (xs : List KNode) (i : ℕ) (x : KNode) → x ≡ get_or xs i x → i < length xs → stmt_size x.stmt < node_list_size xs
node_smaller xs i x is below = subst (λ (y : KNode). stmt_size y.stmt < node_list_size xs) (sym is) (member_node xs i x below)

pub arm_smaller : (xs : List KArm) (i : ℕ) (x : KArm) → x ≡ get_or xs i x → i < length xs → arm_size x < arm_list_size xs
arm_smaller xs i x is below = subst (λ (y : KArm). arm_size y < arm_list_size xs) (sym is) (member_arm xs i x below)

pub block_smaller : (xs : List KBlock) (i : ℕ) (x : KBlock) → x ≡ get_or xs i x → i < length xs → block_size x < block_list_size xs
block_smaller xs i x is below = subst (λ (y : KBlock). block_size y < block_list_size xs) (sym is) (member_block xs i x below)

pub ruleset walks = (append_assoc, append-nil, behind_none, none_apart, apart_none, uncut)
