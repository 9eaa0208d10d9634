-- The lines of an expression by its variants, as the code builds them, and how many labels, positions and bytes they take.
use Rattle.std.proofs.Common.{◌≡◌, refl, sym, ap, subst, ◌∙◌, ℕ, ◌+◌, ◌*◌, ◌<◌, ◌≤◌, Bool, true, false, List, [], ◌∷◌, ◌++◌, length, arith, length-append, if◌then◌else◌}
use Rattle.std.specs.Prelude.{pos}
use Rattle.ceu_base.specs.declared.kinds.Ty.{Ty}
use Rattle.ceu_base.specs.declared.kinds.Ty.TheVariants as ty
use Rattle.ceu_base.specs.declared.kinds.Pos.{Pos}
use Rattle.ceu_base.specs.declared.kinds.Op1.{Op1}
use Rattle.ceu_base.specs.declared.kinds.Op2.{Op2}
use Rattle.ceu_base.specs.declared.kinds.Op2.TheVariants as op2
use Rattle.ceu_tree.specs.declared.kernel.Loc.{Loc}
use Rattle.ceu_tree.specs.declared.kernel.KExp.{KExp}
use Rattle.ceu_tree.specs.declared.kernel.KExpNode as exp
use Rattle.ceu_tree.specs.declared.kernel.KExpNode.{KExpNode, Row_of-KExp, end_of-KExp, more_of-KExp, Const, Read, Alive, One', Two', As'}
use Rattle.ceu_tree.specs.declared.kernel.KExpNode.TheBlock.{hidden-the_row-KExp-0}
use Rattle.ceu_tree.specs.Typing.{operand_ty}
use Rattle.ceu_tree.specs.Weight.{node_count, operand_count, exp_count}
use Rattle.ceu_code.specs.declared.instr.Instr.TheVariants as instr
use Rattle.ceu_asm.specs.declared.line.Line.{Line}
use Rattle.ceu_asm.specs.Lines.{code_size, line_size}
use Rattle.ceu_asm.specs.Places.{same_place, with_place}
use Rattle.ceu_shape.specs.Pieces.{Piece, Draft, with_places, both, nothing, text, placed, taking}
use Rattle.ceu_shape.specs.Words.{mark, plain, goto, goto_if_false, load}
use Rattle.ceu_shape.specs.Expressions.{and_draft, or_draft, binary_draft, two_draft, operator_ty, node_draft, operand_draft, exp_draft}
use denote.Hole.Carrier

module _ (offset : ℕ → ℕ) where
  pub draft_const : (v : _) (t : Ty) (p : Pos) → node_draft offset (exp.Const v) t p ≡ text (plain (instr.Push t v) ∷ [])
  unfolding node_draft
  draft_const v t p = refl

  pub draft_read : (l : Loc) (t : Ty) (p : Pos) → node_draft offset (exp.Read l) t p ≡ text (load offset l ∷ [])
  unfolding node_draft
  draft_read l t p = refl

  pub draft_alive : (c : ℕ) (t : Ty) (p : Pos) → node_draft offset (exp.Alive c) t p ≡ text (plain (instr.Alive (offset c)) ∷ [])
  unfolding node_draft
  draft_alive c t p = refl

  pub draft_one : (op : Op1) (a : KExp) (t : Ty) (p : Pos) → node_draft offset (exp.One op a) t p ≡ both (exp_draft offset a) (placed p (λ n. plain (instr.Prefix op t n) ∷ []))
  unfolding node_draft hidden-the_row-KExp-0 Carrier.hidden
  draft_one op a t p = refl

  pub draft_two : (op : Op2) (a b : KExp) (t : Ty) (p : Pos) → node_draft offset (exp.Two op a b) t p ≡ two_draft op t a.ty b.ty p (exp_draft offset a) (exp_draft offset b)
  unfolding node_draft hidden-the_row-KExp-0 Carrier.hidden
  draft_two op a b t p = refl

  pub draft_as : (a : KExp) (t : Ty) (p : Pos) → node_draft offset (exp.As a) t p ≡ both (exp_draft offset a) (text (plain (instr.Convert a.ty t) ∷ []))
  unfolding node_draft hidden-the_row-KExp-0 Carrier.hidden
  draft_as a t p = refl

-- ---- labels and positions

-- so many labels and positions at most
pub record IsSmall (draft : Draft) (count : ℕ) : Type 0 where
  pub labels : (fresh : ℕ) → (draft fresh).next ≤ fresh + 2 * count
  pub positions : (fresh : ℕ) → length (draft fresh).noted ≤ count

small_text : (ls : List Line) → IsSmall (text ls) 1
small_text ls = record { labels = λ fresh. omega arith; positions = λ fresh. omega arith }

small_placed : (p : Pos) (f : ℕ → List Line) → IsSmall (placed p f) 1
small_placed p f = record { labels = λ fresh. omega arith; positions = λ fresh. omega arith }

small_both_at : (a b : Draft) (m n fresh : ℕ) → IsSmall a m → IsSmall b n → ((b (a fresh).next).next ≤ fresh + 2 * (m + n)) × (length ((a fresh).noted ++ (b (a fresh).next).noted) ≤ m + n)
small_both_at a b m n fresh f g =
    let x = f.labels fresh in
    let y = g.labels (a fresh).next in
    let u = f.positions fresh in
    let v = g.positions (a fresh).next in
    (omega (arith, x, y), omega (arith, u, v, length-append (a fresh).noted (b (a fresh).next).noted))

small_both : (a b : Draft) (m n : ℕ) → IsSmall a m → IsSmall b n → IsSmall (both a b) (m + n)
small_both a b m n f g = record { labels = λ fresh. (small_both_at a b m n fresh f g).0; positions = λ fresh. (small_both_at a b m n fresh f g).1 }

small_more : (a : Draft) (m n : ℕ) → m ≤ n → IsSmall a m → IsSmall a n
small_more a m n h f = record { labels = λ fresh. (go fresh).0; positions = λ fresh. (go fresh).1 }
  where
    go : (fresh : ℕ) → ((a fresh).next ≤ fresh + 2 * n) × (length (a fresh).noted ≤ n)
    go fresh = (omega (arith, f.labels fresh), omega (arith, f.positions fresh))

plain_text : (ls : List Line) → IsSmall (text ls) 0
plain_text ls = record { labels = λ fresh. omega arith; positions = λ fresh. omega arith }

small_none : IsSmall nothing 0
small_none = record { labels = λ fresh. omega arith; positions = λ fresh. omega arith }

small_taking : (f : ℕ → Draft) (n : ℕ) → ((no : ℕ) → IsSmall (f no) n) → IsSmall (taking 2 f) (1 + n)
small_taking f n h = record { labels = λ fresh. go fresh; positions = λ fresh. pos fresh }
  where
    go : (fresh : ℕ) → (f fresh (fresh + 2)).next ≤ fresh + 2 * (1 + n)
    go fresh = omega (arith, (h fresh).labels (fresh + 2))

    pos : (fresh : ℕ) → length (f fresh (fresh + 2)).noted ≤ 1 + n
    pos fresh = omega (arith, (h fresh).positions (fresh + 2))

small_chain : (a b : Draft) (ls rs : List Line) (m n : ℕ) → IsSmall a m → IsSmall b n → IsSmall (both a (both (text ls) (both b (text rs)))) (m + n)
small_chain a b ls rs m n f g =
    small_more (both a (both (text ls) (both b (text rs)))) (m + (0 + (n + 0))) (m + n) (omega arith)
    (small_both a (both (text ls) (both b (text rs))) m (0 + (n + 0)) f (small_both (text ls) (both b (text rs)) 0 (n + 0) (plain_text ls) (small_both b (text rs) n 0 g (plain_text rs))))

and_small : (a b : Draft) (m n : ℕ) → IsSmall a m → IsSmall b n → IsSmall (and_draft a b) (1 + (m + n))
and_small a b m n f g =
    let tail : ℕ → List Line = λ (k : ℕ). goto (k + 1) ∷ mark k ∷ plain (instr.Push ty.Bool (pos 0)) ∷ mark (k + 1) ∷ [] in
    small_taking (λ no. both a (both (text (goto_if_false no ∷ [])) (both b (text (tail no))))) (m + n) (λ no. small_chain a b (goto_if_false no ∷ []) (tail no) m n f g)

or_small : (a b : Draft) (m n : ℕ) → IsSmall a m → IsSmall b n → IsSmall (or_draft a b) (1 + (m + n))
or_small a b m n f g =
    let head : ℕ → List Line = λ (k : ℕ). goto_if_false k ∷ plain (instr.Push ty.Bool (pos 1)) ∷ goto (k + 1) ∷ mark k ∷ [] in
    small_taking (λ no. both a (both (text (head no)) (both b (text (mark (no + 1) ∷ []))))) (m + n) (λ no. small_chain a b (head no) (mark (no + 1) ∷ []) m n f g)

binary_small : (op : Op2) (t : Ty) (p : Pos) (a b : Draft) (m n : ℕ) → IsSmall a m → IsSmall b n → IsSmall (binary_draft op t p a b) (1 + (m + n))
binary_small op t p a b m n f g =
    let line : ℕ → List Line = λ (k : ℕ). plain (instr.Binary op t k) ∷ [] in
    small_more (both a (both b (placed p line))) (m + (n + 1)) (1 + (m + n)) (omega arith) (small_both a (both b (placed p line)) m (n + 1) f (small_both b (placed p line) n 1 g (small_placed p line)))

two_small : (op : Op2) (t u v : Ty) (p : Pos) (a b : Draft) (m n : ℕ) → IsSmall a m → IsSmall b n → IsSmall (two_draft op t u v p a b) (1 + (m + n))
two_small op2.And t u v p a b m n f g = and_small a b m n f g
two_small op2.Or t u v p a b m n f g = or_small a b m n f g
two_small op2.Eq t u v p a b m n f g = binary_small op2.Eq (operator_ty op2.Eq t u v) p a b m n f g
two_small op2.Ne t u v p a b m n f g = binary_small op2.Ne (operator_ty op2.Ne t u v) p a b m n f g
two_small op2.Lt t u v p a b m n f g = binary_small op2.Lt (operator_ty op2.Lt t u v) p a b m n f g
two_small op2.Gt t u v p a b m n f g = binary_small op2.Gt (operator_ty op2.Gt t u v) p a b m n f g
two_small op2.Le t u v p a b m n f g = binary_small op2.Le (operator_ty op2.Le t u v) p a b m n f g
two_small op2.Ge t u v p a b m n f g = binary_small op2.Ge (operator_ty op2.Ge t u v) p a b m n f g
two_small op t u v p a b m n f g = binary_small op t p a b m n f g

module _ (offset : ℕ → ℕ) where
  mutual
    unfolding node_draft node_count

    pub node_small : (e : KExpNode) (t : Ty) (p : Pos) → IsSmall (node_draft offset e t p) (node_count e)
    node_small (Const v) t p = small_text (plain (instr.Push t v) ∷ [])
    node_small (Read l) t p = small_text (load offset l ∷ [])
    node_small (Alive c) t p = small_text (plain (instr.Alive (offset c)) ∷ [])
    node_small (One' op x a) t p = small_more (both (operand_draft offset a) (placed p (λ k. plain (instr.Prefix op t k) ∷ []))) (operand_count a + 1) (1 + operand_count a) (omega arith)
        (small_both (operand_draft offset a) (placed p (λ k. plain (instr.Prefix op t k) ∷ [])) (operand_count a) 1 (operand_small a) (small_placed p (λ k. plain (instr.Prefix op t k) ∷ [])))
    node_small (Two' op x a y b) t p =
        small_more (two_draft op t (operand_ty a) (operand_ty b) p (operand_draft offset a) (operand_draft offset b)) (1 + (operand_count a + operand_count b)) (1 + operand_count a + operand_count b) (omega arith)
        (two_small op t (operand_ty a) (operand_ty b) p (operand_draft offset a) (operand_draft offset b) (operand_count a) (operand_count b) (operand_small a) (operand_small b))
    node_small (As' x a) t p = small_more (both (operand_draft offset a) (text (plain (instr.Convert (operand_ty a) t) ∷ []))) (operand_count a + 1) (1 + operand_count a) (omega arith)
        (small_both (operand_draft offset a) (text (plain (instr.Convert (operand_ty a) t) ∷ [])) (operand_count a) 1 (operand_small a) (small_text (plain (instr.Convert (operand_ty a) t) ∷ [])))

    pub operand_small : {n : _} (r : Row_of-KExp n) → IsSmall (operand_draft offset r) (operand_count r)
    operand_small end_of-KExp = small_none
    operand_small (more_of-KExp t p e rest) = node_small e t p

  pub exp_small : (e : KExp) → IsSmall (exp_draft offset e) (exp_count e)
  exp_small e = node_small e.node e.ty e.pos
