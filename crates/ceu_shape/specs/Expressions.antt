-- The lines of an expression, which push its value. Operands come from left to right; an operator's position is noted behind its operands.
use Rattle.std.specs.Prelude.{ℕ, ◌+◌, pos, Bool, if◌then◌else◌, List, [], ◌∷◌, Option, Some, None}
use Rattle.ceu_base.specs.declared.kinds.Ty.{Ty}
use Rattle.ceu_base.specs.declared.kinds.Ty.TheVariants as ty
use Rattle.ceu_base.specs.declared.kinds.Pos.{Pos}
use Rattle.ceu_base.specs.declared.kinds.Op2.{Op2}
use Rattle.ceu_base.specs.declared.kinds.Op2.TheVariants.{Or, And}
use Rattle.ceu_code.specs.declared.instr.Instr.TheVariants as instr
use Rattle.ceu_asm.specs.declared.line.Line.{Line}
use Rattle.ceu_tree.specs.declared.kernel.KExp.{KExp}
use Rattle.ceu_tree.specs.declared.kernel.KExpNode.{KExpNode, Row_of-KExp, end_of-KExp, more_of-KExp, Const, Read, Alive, One', Two', As'}
use Rattle.ceu_tree.specs.Typing.{is_test, common, operand_ty}
use Rattle.ceu_shape.specs.Pieces.{Draft, both, nothing, text, placed, taking}
use Rattle.ceu_shape.specs.Words.{mark, plain, goto, goto_if_false, load}

abbrev pub common_or : Option Ty → Ty → Ty
common_or None t = t
common_or (Some u) t = u

-- The type in which a binary operator works: of two operands that are compared their common one, else that of the result. A cell holds the value
-- itself, so an operand needs no conversion to it.
abbrev pub operator_ty : Op2 → (result left right : Ty) → Ty
operator_ty op t a b = if is_test op then common_or (common a b) t else t

-- false where the left operand is, else the right operand
abbrev pub and_draft : (left right : Draft) → Draft
and_draft a b = taking 2 (λ no. both a (both (text (goto_if_false no ∷ [])) (both b (text (goto (no + 1) ∷ mark no ∷ plain (instr.Push ty.Bool (pos 0)) ∷ mark (no + 1) ∷ [])))))

-- true where the left operand is, else the right operand
abbrev pub or_draft : (left right : Draft) → Draft
or_draft a b = taking 2 (λ no. both a (both (text (goto_if_false no ∷ plain (instr.Push ty.Bool (pos 1)) ∷ goto (no + 1) ∷ mark no ∷ [])) (both b (text (mark (no + 1) ∷ [])))))

abbrev pub binary_draft : Op2 → Ty → Pos → (left right : Draft) → Draft
binary_draft op t p a b = both a (both b (placed p (λ n. plain (instr.Binary op t n) ∷ [])))

abbrev pub two_draft : Op2 → (result left right : Ty) → Pos → (left_draft right_draft : Draft) → Draft
two_draft And t u v p a b = and_draft a b
two_draft Or t u v p a b = or_draft a b
two_draft op t u v p a b = binary_draft op (operator_ty op t u v) p a b

-- `offset` gives the place of a slot
module _ (offset : ℕ → ℕ) where
  unfoldable mutual
    pub node_draft : KExpNode → Ty → Pos → Draft
    node_draft (Const v) t p = text (plain (instr.Push t v) ∷ [])
    node_draft (Read l) t p = text (load offset l ∷ [])
    node_draft (Alive c) t p = text (plain (instr.Alive (offset c)) ∷ [])
    node_draft (One' op _ a) t p = both (operand_draft a) (placed p (λ n. plain (instr.Prefix op t n) ∷ []))
    node_draft (Two' op _ a _ b) t p = two_draft op t (operand_ty a) (operand_ty b) p (operand_draft a) (operand_draft b)
    node_draft (As' _ a) t p = both (operand_draft a) (text (plain (instr.Convert (operand_ty a) t) ∷ []))

    -- of an operand, which is a list of one
    pub operand_draft : {n : _} → Row_of-KExp n → Draft
    operand_draft end_of-KExp = nothing
    operand_draft (more_of-KExp t p e rest) = node_draft e t p

  abbrev pub exp_draft : KExp → Draft
  exp_draft e = node_draft e.node e.ty e.pos
