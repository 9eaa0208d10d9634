-- The lines of an expression from those of its operands, and what room the operands leave.
use Rattle.std.proofs.Common.{◌≡◌, ◌≢◌, refl, sym, ap, subst, ◌∙◌, ℕ, ◌+◌, ◌*◌, ◌^◌, ◌<◌, ◌≤◌, List, [], ◌∷◌, ◌++◌, length, arith, Result, Ok, Err, OnOk}
use Rattle.ceu_base.specs.declared.kinds.Ty.{Ty}
use Rattle.ceu_base.specs.declared.kinds.Pos.{Pos}
use Rattle.ceu_base.specs.declared.kinds.Op1.{Op1}
use Rattle.ceu_base.specs.declared.kinds.Op2.{Op2}
use Rattle.ceu_base.specs.declared.kinds.Op2.TheVariants as op2
use Rattle.ceu_tree.specs.declared.kernel.KExp.{KExp}
use Rattle.ceu_tree.specs.declared.kernel.KExpNode as exp
use Rattle.ceu_tree.specs.declared.kernel.KExpNode.TheBlock.{hidden-the_row-KExp-0}
use Rattle.ceu_tree.specs.Weight.{node_count, exp_count}
use Rattle.ceu_code.specs.declared.instr.Instr.{Instr}
use Rattle.ceu_code.specs.declared.instr.Instr.TheVariants as instr
use Rattle.ceu_base.specs.declared.kinds.Ty.TheVariants as ty
use Rattle.std.specs.Prelude.{pos}
use Rattle.ceu_asm.specs.declared.line.Line.{Line}
use Rattle.ceu_asm.specs.Pages.{Page}
use Rattle.ceu_asm.specs.Places.{number_of, with_place, same_place}
use Rattle.ceu_shape.specs.Pieces.{Draft, Added, both, text, placed, taking, with_places}
use Rattle.ceu_shape.specs.Words.{mark, plain, goto, goto_if_false}
use Rattle.ceu_shape.specs.Expressions.{and_draft, or_draft, binary_draft, two_draft, operator_ty, exp_draft}
use Rattle.ceu_shape.proofs.Adding.{added_text, added_both, added_placed, added_taking, placed_length}
use Rattle.ceu_shape.proofs.Expressed.{IsSmall, exp_small}
use Rattle.ceu_low_expr.specs.Conditions.{NodeNames, NamesBelow, HasRoom}
use denote.Hole.Carrier

pub on_ok : {T E A B : Type 0} → (r : Result T E) → (A → B) → OnOk r A → OnOk r B
on_ok (Ok v) f h = f h
on_ok (Err e) f h = h

pub drafted : (old new : Page) (d e : Draft) → e ≡ d → Added old new d → Added old new e
drafted old new d e is h = subst (λ (f : Draft). Added old new f) (sym is) h

-- ---- conditions by the variants, as the code builds them

module _ (count : ℕ) where
  pub names_read : (l : _) → NodeNames count (exp.Read l) → l.slot < count
  unfolding NodeNames
  names_read l h = h

  pub names_alive : (c : ℕ) → NodeNames count (exp.Alive c) → c < count
  unfolding NodeNames
  names_alive c h = h

  pub names_one : (op : Op1) (a : KExp) → NodeNames count (exp.One op a) → NamesBelow count a
  unfolding NodeNames hidden-the_row-KExp-0 Carrier.hidden
  names_one op a h = h

  pub names_two : (op : Op2) (a b : KExp) → NodeNames count (exp.Two op a b) → NamesBelow count a × NamesBelow count b
  unfolding NodeNames hidden-the_row-KExp-0 Carrier.hidden
  names_two op a b h = h

  pub names_as : (a : KExp) → NodeNames count (exp.As a) → NamesBelow count a
  unfolding NodeNames hidden-the_row-KExp-0 Carrier.hidden
  names_as a h = h

pub count_one : (op : Op1) (a : KExp) → node_count (exp.One op a) ≡ 1 + exp_count a
unfolding node_count hidden-the_row-KExp-0 Carrier.hidden
count_one op a = refl

pub count_two : (op : Op2) (a b : KExp) → node_count (exp.Two op a b) ≡ 1 + exp_count a + exp_count b
unfolding node_count hidden-the_row-KExp-0 Carrier.hidden
count_two op a b = refl

pub count_as : (a : KExp) → node_count (exp.As a) ≡ 1 + exp_count a
unfolding node_count hidden-the_row-KExp-0 Carrier.hidden
count_as a = refl

-- ---- room

pub room_less : (page : Page) (m n : ℕ) → m ≤ n → HasRoom page n → HasRoom page m
room_less page m n h r = record { labels = omega (arith, r.labels); places = omega (arith, r.places) }

-- behind a piece
pub room_after : (old new : Page) (d : Draft) (m n : ℕ) → IsSmall d m → Added old new d → HasRoom old (m + n) → HasRoom new n
room_after old new d m n small a r =
    let next = small.labels old.labels in
    let some = small.positions old.labels in
    let grown = ap (length {A = Pos}) a.places in
    let places = placed_length (d old.labels).noted old.places in
    record { labels = omega (arith, a.labels, next, r.labels); places = omega (arith, grown, places, some, r.places) }

-- behind two labels
pub room_taken : (old new : Page) (n : ℕ) → new ≡ record old { labels = old.labels + 2 } → HasRoom old (1 + n) → HasRoom new n
room_taken old new n e r = subst (λ (p : Page). HasRoom p n) (sym e) (record { labels = omega (arith, r.labels); places = omega (arith, r.places) })

-- behind lines
pub room_lined : (old new : Page) (ls : List Line) (n : ℕ) → new ≡ record old { lines = old.lines ++ ls } → HasRoom old n → HasRoom new n
room_lined old new ls n e r = subst (λ (p : Page). HasRoom p n) (sym e) (record { labels = r.labels; places = r.places })

-- ---- lines

pub and_added : (old m0 m1 m2 m3 new : Page) (a b : Draft) (free : ℕ) → free ≡ old.labels → m0 ≡ record old { labels = old.labels + 2 } → Added m0 m1 a →
    m2 ≡ record m1 { lines = m1.lines ++ goto_if_false free ∷ [] } → Added m2 m3 b →
    new ≡ record m3 { lines = m3.lines ++ (goto (free + 1) ∷ mark free ∷ plain (instr.Push ty.Bool (pos 0)) ∷ mark (free + 1) ∷ []) } → Added old new (and_draft a b)
and_added old m0 m1 m2 m3 new a b free first e0 h1 e2 h3 e4 =
    let tail : ℕ → List Line = λ (k : ℕ). goto (k + 1) ∷ mark k ∷ plain (instr.Push ty.Bool (pos 0)) ∷ mark (k + 1) ∷ [] in
    let go : Added m0 new (both a (both (text (goto_if_false free ∷ [])) (both b (text (tail free))))) =
    added_both m0 m1 new a (both (text (goto_if_false free ∷ [])) (both b (text (tail free)))) h1
    (added_both m1 m2 new (text (goto_if_false free ∷ [])) (both b (text (tail free))) (added_text m1 m2 (goto_if_false free ∷ []) e2)
    (added_both m2 m3 new b (text (tail free)) h3 (added_text m3 new (tail free) e4))) in
    added_taking old m0 new 2 (λ free. both a (both (text (goto_if_false free ∷ [])) (both b (text (tail free))))) e0
    (subst (λ (k : ℕ). Added m0 new (both a (both (text (goto_if_false k ∷ [])) (both b (text (tail k)))))) first go)

pub or_added : (old m0 m1 m2 m3 new : Page) (a b : Draft) (free : ℕ) → free ≡ old.labels → m0 ≡ record old { labels = old.labels + 2 } → Added m0 m1 a →
    m2 ≡ record m1 { lines = m1.lines ++ (goto_if_false free ∷ plain (instr.Push ty.Bool (pos 1)) ∷ goto (free + 1) ∷ mark free ∷ []) } → Added m2 m3 b →
    new ≡ record m3 { lines = m3.lines ++ mark (free + 1) ∷ [] } → Added old new (or_draft a b)
or_added old m0 m1 m2 m3 new a b free first e0 h1 e2 h3 e4 =
    let head : ℕ → List Line = λ (k : ℕ). goto_if_false k ∷ plain (instr.Push ty.Bool (pos 1)) ∷ goto (k + 1) ∷ mark k ∷ [] in
    let go : Added m0 new (both a (both (text (head free)) (both b (text (mark (free + 1) ∷ []))))) =
    added_both m0 m1 new a (both (text (head free)) (both b (text (mark (free + 1) ∷ [])))) h1
    (added_both m1 m2 new (text (head free)) (both b (text (mark (free + 1) ∷ []))) (added_text m1 m2 (head free) e2)
    (added_both m2 m3 new b (text (mark (free + 1) ∷ [])) h3 (added_text m3 new (mark (free + 1) ∷ []) e4))) in
    added_taking old m0 new 2 (λ free. both a (both (text (head free)) (both b (text (mark (free + 1) ∷ []))))) e0
    (subst (λ (k : ℕ). Added m0 new (both a (both (text (head k)) (both b (text (mark (k + 1) ∷ [])))))) first go)

-- a position's number is taken, and a line with it added
pub noted_line : (old mid new : Page) (p : Pos) (f : ℕ → Instr) (n : ℕ) → n ≡ number_of p old.places → mid ≡ record old { places = with_place p old.places } →
    new ≡ record mid { lines = mid.lines ++ plain (f n) ∷ [] } → Added old new (placed p (λ k. plain (f k) ∷ []))
noted_line old mid new p f n e there is = added_placed old mid new p (λ k. plain (f k) ∷ []) n e there is

pub two_other : (op : Op2) (t u v : Ty) (p : Pos) (a b : Draft) → op ≢ op2.And → op ≢ op2.Or → two_draft op t u v p a b ≡ binary_draft op (operator_ty op t u v) p a b
two_other op2.And t u v p a b x y = absurd (x refl)
two_other op2.Or t u v p a b x y = absurd (y refl)
two_other op t u v p a b x y = refl
