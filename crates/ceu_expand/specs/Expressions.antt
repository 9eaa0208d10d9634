-- The expressions of a kernel. Each has the type that the text's expression was given; a prefix `-` and the literal behind it are one constant.
use Rattle.std.specs.Prelude.{ℕ, ◌+◌, ℤ, pos, neg_ℤ, slice_get, Option, Some, None, unwrap_or}
use Rattle.ceu_base.specs.declared.kinds.Ty.{Ty}
use Rattle.ceu_base.specs.declared.kinds.Ty.TheVariants as ty
use Rattle.ceu_base.specs.declared.kinds.Pos.{Pos}
use Rattle.ceu_base.specs.declared.kinds.Op1.{Op1}
use Rattle.ceu_base.specs.declared.kinds.Op1.TheVariants.{Neg}
use Rattle.ceu_base.specs.Values.{of_test}
use Rattle.ceu_tree.specs.declared.source.Exp.{Exp}
use Rattle.ceu_tree.specs.declared.source.ExpNode.{ExpNode, Row_of-Exp, end_of-Exp, more_of-Exp, Number, Var, Alive, One', Two', As'}
use Rattle.ceu_tree.specs.declared.source.ExpNode as exp
use Rattle.ceu_tree.specs.declared.kernel.KExp.{KExp}
use Rattle.ceu_tree.specs.declared.kernel.KExpNode.{KExpNode}
use Rattle.ceu_tree.specs.declared.kernel.KExpNode as kernel
use Rattle.ceu_scopes.specs.declared.known.Scopes.{Scopes}
use Rattle.ceu_types.specs.declared.typing.Types.{Types}
use Rattle.ceu_expand.specs.declared.draft.Draft.{Draft}
use Rattle.ceu_expand.specs.Uses.{use_number, used, variable}

-- the type of an expression, which is told by its place among the expressions
abbrev pub type_at : Types → ℕ → Ty
type_at t k = unwrap_or (slice_get t.exps k) ty.None

unfoldable pub next_type : Types → Draft → Ty
next_type t d = type_at t d.exps

-- the next expression is passed
unfoldable pub typed : Draft → Draft
typed d = record d { exps = d.exps + 1 }

abbrev pub constant : Ty → Pos → ℤ → KExp
constant t p v = record { ty = t; pos = p; node = kernel.Const v }

-- the literal that a prefix `-` belongs to
abbrev pub negated : Op1 → ExpNode → Option ℕ
negated Neg (Number n) = Some n
negated _ _ = None

abbrev pub row_negated : {n : _} → Op1 → Row_of-Exp n → Option ℕ
row_negated op end_of-Exp = None
row_negated op (more_of-Exp p e rest) = negated op e

abbrev pub negated_or : {A : Type 0} → Option ℕ → (ℕ → A) → A → A
negated_or (Some n) literal other = literal n
negated_or None literal other = other

-- what the draft is behind an expression
unfoldable mutual
  pub node_passed : ExpNode → Draft → Draft
  node_passed (Number n) d = typed d
  node_passed (exp.Bool b) d = typed d
  node_passed (Var x) d = used (typed d)
  node_passed (Alive x) d = used (typed d)
  node_passed (One' op _ a) d = row_passed a (typed d)
  node_passed (Two' op _ a _ b) d = row_passed b (row_passed a (typed d))
  node_passed (As' _ a t) d = row_passed a (typed d)

  pub row_passed : {n : _} → Row_of-Exp n → Draft → Draft
  row_passed end_of-Exp d = d
  row_passed (more_of-Exp p e rest) d = node_passed e d

abbrev pub exp_passed : Exp → Draft → Draft
exp_passed e d = node_passed e.node d

-- the expression that stands next
module _ (s : Scopes) (t : Types) where
  unfoldable mutual
    pub node_written : ExpNode → Draft → KExpNode
    node_written (Number n) d = kernel.Const (pos n)
    node_written (exp.Bool b) d = kernel.Const (of_test b)
    node_written (Var x) d = kernel.Read (variable s x (typed d))
    node_written (Alive x) d = kernel.Alive (use_number s (typed d))
    node_written (One' op _ a) d = negated_or (row_negated op a) (λ n. kernel.Const (neg_ℤ (pos n))) (kernel.One op (operand_written a (typed d)))
    node_written (Two' op _ a _ b) d = kernel.Two op (operand_written a (typed d)) (operand_written b (row_passed a (typed d)))
    node_written (As' _ a u) d = kernel.As (operand_written a (typed d))

    pub operand_written : {n : _} → Row_of-Exp n → Draft → KExp
    operand_written end_of-Exp d = record { ty = ty.None; pos = record { line = 0; col = 0 }; node = kernel.Const (pos 0) }
    operand_written (more_of-Exp p e rest) d = record { ty = next_type t d; pos = p; node = node_written e d }

  abbrev pub exp_written : Exp → Draft → KExp
  exp_written e d = record { ty = next_type t d; pos = e.pos; node = node_written e.node d }

  abbrev pub if_exp_written : Option Exp → Draft → Option KExp
  if_exp_written None d = None
  if_exp_written (Some e) d = Some (exp_written e d)

abbrev pub if_exp_passed : Option Exp → Draft → Draft
if_exp_passed None d = d
if_exp_passed (Some e) d = exp_passed e d
