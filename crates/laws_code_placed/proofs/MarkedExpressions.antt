-- The lines of an expression mark each label that they take once, and no other.
use Rattle.std.proofs.Common.{◌≡◌, refl, ℕ, ◌+◌, List, [], ◌∷◌, arith}
use Rattle.std.specs.Prelude.{pos}
use Rattle.ceu_base.specs.declared.kinds.Ty.{Ty}
use Rattle.ceu_base.specs.declared.kinds.Ty.TheVariants as ty
use Rattle.ceu_base.specs.declared.kinds.Pos.{Pos}
use Rattle.ceu_base.specs.declared.kinds.Op2.{Op2}
use Rattle.ceu_base.specs.declared.kinds.Op2.TheVariants as op2
use Rattle.ceu_tree.specs.declared.kernel.KExp.{KExp}
use Rattle.ceu_tree.specs.declared.kernel.KExpNode.{KExpNode, Row_of-KExp, end_of-KExp, more_of-KExp, Const, Read, Alive, One', Two', As'}
use Rattle.ceu_tree.specs.Typing.{operand_ty}
use Rattle.ceu_code.specs.declared.instr.Instr.TheVariants as instr
use Rattle.ceu_asm.specs.declared.line.Line.{Line}
use Rattle.ceu_asm.specs.Lines.{marks}
use Rattle.ceu_shape.specs.Pieces.{Draft, both, text, placed, taking}
use Rattle.ceu_shape.specs.Words.{mark, plain, goto, goto_if_false, load}
use Rattle.ceu_shape.specs.Expressions.{binary_draft, two_draft, operator_ty, node_draft, operand_draft, exp_draft}
use Rattle.laws_code_placed.proofs.Below.{one, below_more}
use Rattle.laws_code_placed.proofs.Adding.{Adds, adds_text, adds_placed, adds_nothing, adds_both, adds_as}

module _ (label : ℕ) (number : Pos → ℕ) where
  abbrev Even : Draft → Type 0
  Even d = (fresh : ℕ) → Adds label number d fresh 0 0

  -- two labels are taken, and marked in the lines between and behind the operands
  taken : (a b : Draft) (ls rs : ℕ → List Line) → ((no : ℕ) → marks label (ls no) + marks label (rs no) ≡ one label no + one label (no + 1)) → Even a → Even b →
      Even (taking 2 (λ no. both a (both (text (ls no)) (both b (text (rs no))))))
  taken a b ls rs h f g fresh =
      let x = ls fresh in
      let y = rs fresh in
      let whole = adds_both label number a (both (text x) (both b (text y))) (fresh + 2) 0 0 0 (marks label x + (0 + marks label y)) (f (fresh + 2))
      (adds_both label number (text x) (both b (text y)) (a (fresh + 2)).next 0 (marks label x) 0 (0 + marks label y) (adds_text label number x (a (fresh + 2)).next 0 (marks label x) (omega arith))
      (adds_both label number b (text y) (a (fresh + 2)).next 0 0 0 (marks label y) (g (a (fresh + 2)).next) (adds_text label number y (b (a (fresh + 2)).next).next 0 (marks label y) (omega arith)))) in
      let first = below_more label fresh (fresh + 1) refl in
      let second = below_more label (fresh + 1) (fresh + 2) (omega arith) in
      record { is = omega (arith, whole.is, h fresh, first, second); grows = omega (arith, whole.grows) }

  one_even : (a b : Draft) → Even a → Even b → Even (both a b)
  one_even a b f g fresh = adds_as label number (both a b) fresh (0 + 0) (0 + 0) 0 0 (omega arith) (adds_both label number a b fresh 0 0 0 0 (f fresh) (g (a fresh).next))

  binary_even : (op : Op2) (t : Ty) (p : Pos) (a b : Draft) → Even a → Even b → Even (binary_draft op t p a b)
  binary_even op t p a b f g =
      let line : ℕ → List Line = λ (n : ℕ). plain (instr.Binary op t n) ∷ [] in
      one_even a (both b (placed p line)) f (one_even b (placed p line) g (λ fresh. adds_placed label number p line fresh 0 0 (omega arith)))

  two_even : (op : Op2) (t u v : Ty) (p : Pos) (a b : Draft) → Even a → Even b → Even (two_draft op t u v p a b)
  two_even op2.And t u v p a b f g =
      taken a b (λ no. goto_if_false no ∷ []) (λ no. goto (no + 1) ∷ mark no ∷ plain (instr.Push ty.Bool (pos 0)) ∷ mark (no + 1) ∷ []) (λ no. omega arith) f g
  two_even op2.Or t u v p a b f g =
      taken a b (λ no. goto_if_false no ∷ plain (instr.Push ty.Bool (pos 1)) ∷ goto (no + 1) ∷ mark no ∷ []) (λ no. mark (no + 1) ∷ []) (λ no. omega arith) f g
  two_even op2.Eq t u v p a b f g = binary_even op2.Eq (operator_ty op2.Eq t u v) p a b f g
  two_even op2.Ne t u v p a b f g = binary_even op2.Ne (operator_ty op2.Ne t u v) p a b f g
  two_even op2.Lt t u v p a b f g = binary_even op2.Lt (operator_ty op2.Lt t u v) p a b f g
  two_even op2.Gt t u v p a b f g = binary_even op2.Gt (operator_ty op2.Gt t u v) p a b f g
  two_even op2.Le t u v p a b f g = binary_even op2.Le (operator_ty op2.Le t u v) p a b f g
  two_even op2.Ge t u v p a b f g = binary_even op2.Ge (operator_ty op2.Ge t u v) p a b f g
  two_even op t u v p a b f g = binary_even op t p a b f g

  module _ (offset : ℕ → ℕ) where
    mutual
      unfolding node_draft

      node_even : (e : KExpNode) (t : Ty) (p : Pos) → Even (node_draft offset e t p)
      node_even (Const v) t p fresh = adds_text label number (plain (instr.Push t v) ∷ []) fresh 0 0 (omega arith)
      node_even (Read l) t p fresh = adds_text label number (load offset l ∷ []) fresh 0 0 (omega arith)
      node_even (Alive c) t p fresh = adds_text label number (plain (instr.Alive (offset c)) ∷ []) fresh 0 0 (omega arith)
      node_even (One' op _ a) t p fresh = one_even (operand_draft offset a) (placed p (λ n. plain (instr.Prefix op t n) ∷ [])) (operand_even a) (λ f. adds_placed label number p (λ n. plain (instr.Prefix op t n) ∷ []) f 0 0 (omega arith)) fresh
      node_even (Two' op _ a _ b) t p fresh = two_even op t (operand_ty a) (operand_ty b) p (operand_draft offset a) (operand_draft offset b) (operand_even a) (operand_even b) fresh
      node_even (As' _ a) t p fresh = one_even (operand_draft offset a) (text (plain (instr.Convert (operand_ty a) t) ∷ [])) (operand_even a) (λ f. adds_text label number (plain (instr.Convert (operand_ty a) t) ∷ []) f 0 0 (omega arith)) fresh

      operand_even : {n : _} (r : Row_of-KExp n) → Even (operand_draft offset r)
      operand_even end_of-KExp fresh = adds_nothing label number fresh
      operand_even (more_of-KExp t p e rest) fresh = node_even e t p fresh

    pub exp_even : (e : KExp) (fresh : ℕ) → Adds label number (exp_draft offset e) fresh 0 0
    exp_even e fresh = node_even e.node e.ty e.pos fresh
