-- How many bytes the lines of an expression take: 14 for each of its nodes, and 4 less for the whole.
use Rattle.std.proofs.Common.{◌≡◌, refl, ℕ, ◌+◌, ◌-◌, ◌*◌, ◌≤◌, List, [], ◌∷◌, ◌++◌, arith, if◌then◌else◌, Bool, true, false}
use Rattle.std.specs.Prelude.{pos}
use Rattle.ceu_base.specs.declared.kinds.Ty.{Ty}
use Rattle.ceu_base.specs.declared.kinds.Ty.TheVariants as ty
use Rattle.ceu_base.specs.declared.kinds.Pos.{Pos}
use Rattle.ceu_base.specs.declared.kinds.Op2.{Op2}
use Rattle.ceu_base.specs.declared.kinds.Op2.TheVariants as op2
use Rattle.ceu_tree.specs.declared.kernel.Loc.{Loc}
use Rattle.ceu_tree.specs.declared.kernel.KExp.{KExp}
use Rattle.ceu_tree.specs.declared.kernel.KExpNode.{KExpNode, Row_of-KExp, end_of-KExp, more_of-KExp, Const, Read, Alive, One', Two', As'}
use Rattle.ceu_tree.specs.Typing.{operand_ty}
use Rattle.ceu_tree.specs.Weight.{node_count, operand_count, exp_count}
use Rattle.ceu_code.specs.declared.instr.Instr.TheVariants as instr
use Rattle.ceu_asm.specs.declared.line.Line.{Line}
use Rattle.ceu_asm.specs.Lines.{code_size, line_size}
use Rattle.ceu_shape.specs.Pieces.{Draft, both, nothing, text, placed, taking}
use Rattle.ceu_shape.specs.Words.{mark, plain, goto, goto_if_false, load}
use Rattle.ceu_shape.specs.Expressions.{and_draft, or_draft, binary_draft, two_draft, operator_ty, node_draft, operand_draft, exp_draft}

pub size_append : (a b : List Line) → code_size (a ++ b) ≡ code_size a + code_size b
size_append [] b = omega arith
size_append (x ∷ a) b = omega (arith, size_append a b)

-- so many bytes at most
pub record IsShort (draft : Draft) (bytes : ℕ) : Type 0 where
  pub fits : (number : Pos → ℕ) (fresh : ℕ) → code_size ((draft fresh).lines number) ≤ bytes

pub short_text : (ls : List Line) (n : ℕ) → code_size ls ≤ n → IsShort (text ls) n
short_text ls n h = record { fits = λ number fresh. h }

pub short_both : (a b : Draft) (m n : ℕ) → IsShort a m → IsShort b n → IsShort (both a b) (m + n)
short_both a b m n f g = record { fits = λ number fresh. go number fresh }
  where
    go : (number : Pos → ℕ) (fresh : ℕ) → code_size ((a fresh).lines number ++ (b (a fresh).next).lines number) ≤ m + n
    go number fresh = omega (arith, f.fits number fresh, g.fits number (a fresh).next, size_append ((a fresh).lines number) ((b (a fresh).next).lines number))

pub short_more : (a : Draft) (m n : ℕ) → m ≤ n → IsShort a m → IsShort a n
short_more a m n h f = record { fits = λ number fresh. go number fresh }
  where
    go : (number : Pos → ℕ) (fresh : ℕ) → code_size ((a fresh).lines number) ≤ n
    go number fresh = omega (arith, f.fits number fresh)

load_size : (offset : ℕ → ℕ) (l : Loc) → code_size (load offset l ∷ []) ≤ 4
load_size offset l = go l.outer
  where
    go : (b : Bool) → code_size (plain (if b then instr.LoadOuter l.ty (offset l.slot) else instr.Load l.ty (offset l.slot)) ∷ []) ≤ 4
    go true = omega arith
    go false = omega arith

placed_short : (p : Pos) (op : Op2) (t : Ty) → IsShort (placed p (λ k. plain (instr.Binary op t k) ∷ [])) 5
placed_short p op t = record { fits = λ number fresh. omega arith }

binary_short : (op : Op2) (t : Ty) (p : Pos) (a b : Draft) (m n : ℕ) → IsShort a m → IsShort b n → IsShort (binary_draft op t p a b) (m + n + 16)
binary_short op t p a b m n f g =
    let line : ℕ → List Line = λ (k : ℕ). plain (instr.Binary op t k) ∷ [] in
    short_more (both a (both b (placed p line))) (m + (n + 5)) (m + n + 16) (omega arith) (short_both a (both b (placed p line)) m (n + 5) f (short_both b (placed p line) n 5 g (placed_short p op t)))

-- the operands' bytes and those between and behind them
two_short : (op : Op2) (t u v : Ty) (p : Pos) (a b : Draft) (m n : ℕ) → IsShort a m → IsShort b n → IsShort (two_draft op t u v p a b) (m + n + 16)
two_short op2.And t u v p a b m n f g = record { fits = λ number fresh. go number fresh }
  where
    go : (number : Pos → ℕ) (fresh : ℕ) → code_size ((and_draft a b fresh).lines number) ≤ m + n + 16
    go number fresh =
        let tail : ℕ → List Line = λ (k : ℕ). goto (k + 1) ∷ mark k ∷ plain (instr.Push ty.Bool (pos 0)) ∷ mark (k + 1) ∷ [] in
        let h = short_both a (both (text (goto_if_false fresh ∷ [])) (both b (text (tail fresh)))) m (3 + (n + 13)) f
        (short_both (text (goto_if_false fresh ∷ [])) (both b (text (tail fresh))) 3 (n + 13) (short_text _ 3 (omega arith)) (short_both b (text (tail fresh)) n 13 g (short_text (tail fresh) 13 (omega arith)))) in
        omega (arith, h.fits number (fresh + 2))
two_short op2.Or t u v p a b m n f g = record { fits = λ number fresh. go number fresh }
  where
    go : (number : Pos → ℕ) (fresh : ℕ) → code_size ((or_draft a b fresh).lines number) ≤ m + n + 16
    go number fresh =
        let head : ℕ → List Line = λ (k : ℕ). goto_if_false k ∷ plain (instr.Push ty.Bool (pos 1)) ∷ goto (k + 1) ∷ mark k ∷ [] in
        let h = short_both a (both (text (head fresh)) (both b (text (mark (fresh + 1) ∷ [])))) m (16 + (n + 0)) f
        (short_both (text (head fresh)) (both b (text (mark (fresh + 1) ∷ []))) 16 (n + 0) (short_text (head fresh) 16 (omega arith)) (short_both b (text (mark (fresh + 1) ∷ [])) n 0 g (short_text _ 0 (omega arith)))) in
        omega (arith, h.fits number (fresh + 2))
two_short op2.Eq t u v p a b m n f g = binary_short op2.Eq (operator_ty op2.Eq t u v) p a b m n f g
two_short op2.Ne t u v p a b m n f g = binary_short op2.Ne (operator_ty op2.Ne t u v) p a b m n f g
two_short op2.Lt t u v p a b m n f g = binary_short op2.Lt (operator_ty op2.Lt t u v) p a b m n f g
two_short op2.Gt t u v p a b m n f g = binary_short op2.Gt (operator_ty op2.Gt t u v) p a b m n f g
two_short op2.Le t u v p a b m n f g = binary_short op2.Le (operator_ty op2.Le t u v) p a b m n f g
two_short op2.Ge t u v p a b m n f g = binary_short op2.Ge (operator_ty op2.Ge t u v) p a b m n f g
two_short op t u v p a b m n f g = binary_short op t p a b m n f g

-- 4 bytes fewer than 14 for each of so many nodes
one_tight : (a : Draft) (n : ℕ) (ls : (Pos → ℕ) → List Line) → ((number : Pos → ℕ) → code_size (ls number) ≤ 5) → (number : Pos → ℕ) (fresh : ℕ) → code_size ((a fresh).lines number) + 4 ≤ 14 * n →
    code_size ((a fresh).lines number ++ ls number) + 4 ≤ 14 * (1 + n)
one_tight a n ls five number fresh h = omega (arith, h, five number, size_append ((a fresh).lines number) (ls number))

-- a piece of just these bytes, seen at any labels
short_at : (d : Draft) (n : ℕ) → ((number : Pos → ℕ) (fresh : ℕ) → code_size ((d fresh).lines number) + 4 ≤ 14 * n) → IsShort d (14 * n - 4)
short_at d n h = record { fits = λ number fresh. go number fresh }
  where
    go : (number : Pos → ℕ) (fresh : ℕ) → code_size ((d fresh).lines number) ≤ 14 * n - 4
    go number fresh = omega (arith, h number fresh)

two_tight : (op : Op2) (t u v : Ty) (p : Pos) (a b : Draft) (m n : ℕ) → ((number : Pos → ℕ) (fresh : ℕ) → code_size ((a fresh).lines number) + 4 ≤ 14 * m) →
    ((number : Pos → ℕ) (fresh : ℕ) → code_size ((b fresh).lines number) + 4 ≤ 14 * n) → (number : Pos → ℕ) (fresh : ℕ) → code_size ((two_draft op t u v p a b fresh).lines number) + 4 ≤ 14 * (1 + m + n)
two_tight op t u v p a b m n f g number fresh =
    let whole = (two_short op t u v p a b (14 * m - 4) (14 * n - 4) (short_at a m f) (short_at b n g)).fits number fresh in
    let some = f number fresh in
    let more = g number fresh in
    omega (arith, whole, some, more)

module _ (offset : ℕ → ℕ) where
  pub node_tight : (e : KExpNode) (t : Ty) (p : Pos) (number : Pos → ℕ) (fresh : ℕ) → code_size ((node_draft offset e t p fresh).lines number) + 4 ≤ 14 * node_count e
  unfolding node_draft node_count
  node_tight (Const v) t p number fresh = omega arith
  node_tight (Read l) t p number fresh = omega (arith, load_size offset l)
  node_tight (Alive c) t p number fresh = omega arith
  node_tight (One' op x (more_of-KExp u q e end_of-KExp)) t p number fresh =
      one_tight (node_draft offset e u q) (node_count e) (λ number. plain (instr.Prefix op t (number p)) ∷ []) (λ number. omega arith) number fresh (node_tight e u q number fresh)
  node_tight (Two' op x (more_of-KExp u q e end_of-KExp) y (more_of-KExp v r f end_of-KExp)) t p number fresh =
      two_tight op t u v p (node_draft offset e u q) (node_draft offset f v r) (node_count e) (node_count f) (node_tight e u q) (node_tight f v r) number fresh
  node_tight (As' x (more_of-KExp u q e end_of-KExp)) t p number fresh =
      one_tight (node_draft offset e u q) (node_count e) (λ number. plain (instr.Convert u t) ∷ []) (λ number. omega arith) number fresh (node_tight e u q number fresh)

  pub exp_tight : (e : KExp) (number : Pos → ℕ) (fresh : ℕ) → code_size ((exp_draft offset e fresh).lines number) + 4 ≤ 14 * exp_count e
  exp_tight e number fresh = node_tight e.node e.ty e.pos number fresh
