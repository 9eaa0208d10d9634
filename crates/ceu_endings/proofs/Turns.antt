-- How many turns a range has left, from number to number and at its start.
use Rattle.std.proofs.Common.{◌≡◌, refl, sym, ap, ◌∙◌, ℕ, zero, suc, ◌+◌, ◌-◌, ℤ, pos, negsuc, ◌+ℤ◌, ◌-ℤ◌, neg_ℤ, int_lt, Bool, true, false, Option, Some, None, Ok, Err, arith}
use Rattle.std.proofs.lemmas.Int.{ints}
use Rattle.ceu_base.specs.declared.kinds.Pos.{Pos}
use Rattle.ceu_base.specs.declared.kinds.Ty.{Ty}
use Rattle.ceu_base.specs.Values.{of_test}
use Rattle.ceu_tree.specs.declared.kernel.KExp.{KExp}
use Rattle.ceu_tree.specs.declared.kernel.KExpNode as exp
use Rattle.ceu_tree.specs.declared.kernel.KExpNode.{KExpNode}
use Rattle.ceu_tree.specs.Residual.{Body}
use Rattle.ceu_tree.specs.World.{World}
use Rattle.ceu_tree.specs.Expressions.{node_value, value_of}
use Rattle.ceu_tree.specs.Paths.{length_of, literal, range_turns}
use Rattle.ceu_endings.specs.Counted.{turns_left, at_most}

record Gap (at last : ℤ) : Type 0 where
  size : ℕ
  is : last ≡ at +ℤ pos size

gap_is : (at last : ℤ) → int_lt last at ≡ false → Gap at last
gap_is (pos b) (pos a) h = record { size = a - b; is = grind (arith, ints) }
gap_is (negsuc b) (pos a) h = record { size = a + b + 1; is = omega (arith, ints) }
gap_is (negsuc b) (negsuc a) h = record { size = b - a; is = grind (arith, ints) }
gap_is (pos b) (negsuc a) h = absurd (cc)

-- a turn that begins is one less to come
pub turn_taken : (at last : ℤ) → int_lt last at ≡ false → suc (turns_left (at +ℤ pos 1) last) ≡ turns_left at last
turn_taken at last h =
    let g = gap_is at last h in
    let now : last -ℤ at +ℤ pos 1 ≡ pos (suc g.size) = omega (arith, ints, g.is) in
    let next : last -ℤ (at +ℤ pos 1) +ℤ pos 1 ≡ pos g.size = omega (arith, ints, g.is) in
    ap (λ z. suc (length_of z)) next ∙ sym (ap length_of now)

pub turn_fewer : (o : Option ℕ) (at last : ℤ) → int_lt last at ≡ false → at_most o (turns_left at last) → at_most o (turns_left (at +ℤ pos 1) last)
turn_fewer None at last h k = tt
turn_fewer (Some n) at last h k = let e = turn_taken at last h in omega (arith, e, k)

node_literal : (x : KExpNode) (t : Ty) (p : Pos) (c : ℤ) (body : Body) (w : World) → literal x ≡ Some c → node_value x t p body w ≡ Ok c
unfolding node_value
node_literal (exp.Const v) t p c body w h = ap (λ o. elim o [ None ↦ Ok v | Some y ↦ Ok y ]) h
node_literal x t p c body w h = absurd (cc)

literal_value : (e : KExp) (c : ℤ) (body : Body) (w : World) → literal e.node ≡ Some c → value_of e body w ≡ Ok c
unfolding value_of
literal_value e c body w h = node_literal e.node e.ty e.pos c body w h

same_value : (e : KExp) (c v : ℤ) (body : Body) (w : World) → literal e.node ≡ Some c → value_of e body w ≡ Ok v → c ≡ v
same_value e c v body w h k = ap (λ o. elim o [ Ok y ↦ y | Err f ↦ c ]) (sym (literal_value e c body w h) ∙ k)

-- ---- the end of a range

record Behind (at last : ℤ) : Type 0 where
  size : ℕ
  is : at ≡ last +ℤ pos (suc size)

behind_is : (at last : ℤ) → int_lt last at ≡ true → Behind at last
behind_is (pos b) (pos a) h = record { size = b - suc a; is = grind (arith, ints) }
behind_is (pos b) (negsuc a) h = record { size = a + b; is = omega (arith, ints) }
behind_is (negsuc b) (negsuc a) h = record { size = a - suc b; is = grind (arith, ints) }
behind_is (negsuc b) (pos a) h = absurd (cc)

no_length : (n : ℕ) → length_of (neg_ℤ (pos n)) ≡ 0
no_length zero = refl
no_length (suc n) = refl

-- past its last number a range has no turn left
pub turns_over : (at last : ℤ) → int_lt last at ≡ true → turns_left at last ≡ 0
turns_over at last h =
    let g = behind_is at last h in
    let now : last -ℤ at +ℤ pos 1 ≡ neg_ℤ (pos g.size) = omega (arith, ints, g.is) in
    ap length_of now ∙ no_length g.size

-- ---- the start of a range

abbrev pub exactly : Option ℕ → ℕ → Type 0
exactly None k = Unit {0}
exactly (Some n) k = k ≡ n

-- a range that begins has its constant bound to go
pub turns_begin_with : (x y : KExp) (open_a open_b : Bool) (u v : ℤ) (body : Body) (w : World) → value_of x body w ≡ Ok u → value_of y body w ≡ Ok v
    → exactly (range_turns (literal x.node) open_a (literal y.node) open_b) (turns_left (u +ℤ of_test open_a) (v -ℤ of_test open_b))
turns_begin_with x y open_a open_b u v body w h k = go (literal x.node) (literal y.node) refl refl
  where
    go : (p q : Option ℤ) → literal x.node ≡ p → literal y.node ≡ q → exactly (range_turns p open_a q open_b) (turns_left (u +ℤ of_test open_a) (v -ℤ of_test open_b))
    go None q e f = tt
    go (Some a) None e f = tt
    go (Some a) (Some b) e f =
        ap (λ i. turns_left (i +ℤ of_test open_a) (v -ℤ of_test open_b)) (sym (same_value x a u body w e h)) ∙
        ap (λ j. turns_left (a +ℤ of_test open_a) (j -ℤ of_test open_b)) (sym (same_value y b v body w f k))

pub exactly_most : (o : Option ℕ) (k : ℕ) → exactly o k → at_most o k
exactly_most None k h = tt
exactly_most (Some n) k h = omega (arith, h)

pub turns_begin : (x y : KExp) (open_a open_b : Bool) (u v : ℤ) (body : Body) (w : World) → value_of x body w ≡ Ok u → value_of y body w ≡ Ok v
    → at_most (range_turns (literal x.node) open_a (literal y.node) open_b) (turns_left (u +ℤ of_test open_a) (v -ℤ of_test open_b))
turns_begin x y open_a open_b u v body w h k = exactly_most (range_turns (literal x.node) open_a (literal y.node) open_b) _ (turns_begin_with x y open_a open_b u v body w h k)
