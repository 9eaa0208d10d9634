-- Definitions on expressions, by the forms that the code meets.
use Rattle.std.proofs.Common.{◌≡◌, refl, ap, ℕ, Bool, Some, None}
use Rattle.std.specs.Prelude.{pos, neg_ℤ}
use Rattle.ceu_base.specs.declared.kinds.Ty.{Ty}
use Rattle.ceu_base.specs.declared.kinds.Op1.{Op1}
use Rattle.ceu_base.specs.declared.kinds.Op1.TheVariants.{Neg}
use Rattle.ceu_base.specs.declared.kinds.Op2.{Op2}
use Rattle.ceu_base.specs.Values.{of_test}
use Rattle.ceu_tree.specs.declared.source.Ident.{Ident}
use Rattle.ceu_tree.specs.declared.source.Exp.{Exp}
use Rattle.ceu_tree.specs.declared.source.ExpNode as exp
use Rattle.ceu_tree.specs.declared.source.ExpNode.{ExpNode}
use Rattle.ceu_tree.specs.declared.source.ExpNode.TheBlock.{hidden-the_row-Exp-0}
use Rattle.ceu_tree.specs.declared.kernel.KExpNode as kernel
use Rattle.ceu_scopes.specs.declared.known.Scopes.{Scopes}
use Rattle.ceu_types.specs.declared.typing.Types.{Types}
use Rattle.ceu_expand.specs.declared.draft.Draft.{Draft}
use Rattle.ceu_expand.specs.Uses.{variable, use_number, used}
use Rattle.ceu_expand.specs.Expressions.{negated, negated_or, typed, node_passed, exp_passed, node_written, exp_written}
use denote.Hole.Carrier

pub passed_number : (n : ℕ) (d : Draft) → node_passed (exp.Number n) d ≡ typed d
unfolding node_passed
passed_number n d = refl

pub passed_bool : (b : Bool) (d : Draft) → node_passed (exp.Bool b) d ≡ typed d
unfolding node_passed
passed_bool b d = refl

pub passed_var : (x : Ident) (d : Draft) → node_passed (exp.Var x) d ≡ used (typed d)
unfolding node_passed
passed_var x d = refl

pub passed_alive : (x : Ident) (d : Draft) → node_passed (exp.Alive x) d ≡ used (typed d)
unfolding node_passed
passed_alive x d = refl

pub passed_one : (op : Op1) (a : Exp) (d : Draft) → node_passed (exp.One op a) d ≡ exp_passed a (typed d)
unfolding node_passed hidden-the_row-Exp-0 Carrier.hidden
passed_one op a d = refl

pub passed_literal : (op : Op1) (e : ExpNode) (d : Draft) (n : ℕ) → negated op e ≡ Some n → node_passed e d ≡ typed d
unfolding node_passed
passed_literal Neg (exp.Number m) d n h = refl
passed_literal op e d n h = cc

pub passed_two : (op : Op2) (a b : Exp) (d : Draft) → node_passed (exp.Two op a b) d ≡ exp_passed b (exp_passed a (typed d))
unfolding node_passed hidden-the_row-Exp-0 Carrier.hidden
passed_two op a b d = refl

pub passed_as : (a : Exp) (t : Ty) (d : Draft) → node_passed (exp.As a t) d ≡ exp_passed a (typed d)
unfolding node_passed hidden-the_row-Exp-0 Carrier.hidden
passed_as a t d = refl

module _ (s : Scopes) (t : Types) where
  pub written_number : (n : ℕ) (d : Draft) → node_written s t (exp.Number n) d ≡ kernel.Const (pos n)
  unfolding node_written
  written_number n d = refl

  pub written_bool : (b : Bool) (d : Draft) → node_written s t (exp.Bool b) d ≡ kernel.Const (of_test b)
  unfolding node_written
  written_bool b d = refl

  pub written_var : (x : Ident) (d : Draft) → node_written s t (exp.Var x) d ≡ kernel.Read (variable s x (typed d))
  unfolding node_written
  written_var x d = refl

  pub written_alive : (x : Ident) (d : Draft) → node_written s t (exp.Alive x) d ≡ kernel.Alive (use_number s (typed d))
  unfolding node_written
  written_alive x d = refl

  pub written_one : (op : Op1) (a : Exp) (d : Draft) → negated op a.node ≡ None → node_written s t (exp.One op a) d ≡ kernel.One op (exp_written s t a (typed d))
  unfolding node_written hidden-the_row-Exp-0 Carrier.hidden
  written_one op a d h = ap (λ n. negated_or n (λ n. kernel.Const (neg_ℤ (pos n))) (kernel.One op (exp_written s t a (typed d)))) h

  pub written_minus : (op : Op1) (a : Exp) (d : Draft) (n : ℕ) → negated op a.node ≡ Some n → node_written s t (exp.One op a) d ≡ kernel.Const (neg_ℤ (pos n))
  unfolding node_written hidden-the_row-Exp-0 Carrier.hidden
  written_minus op a d n h = ap (λ n. negated_or n (λ n. kernel.Const (neg_ℤ (pos n))) (kernel.One op (exp_written s t a (typed d)))) h

  pub written_two : (op : Op2) (a b : Exp) (d : Draft) →
      node_written s t (exp.Two op a b) d ≡ kernel.Two op (exp_written s t a (typed d)) (exp_written s t b (exp_passed a (typed d)))
  unfolding node_written node_passed hidden-the_row-Exp-0 Carrier.hidden
  written_two op a b d = refl

  pub written_as : (a : Exp) (u : Ty) (d : Draft) → node_written s t (exp.As a u) d ≡ kernel.As (exp_written s t a (typed d))
  unfolding node_written hidden-the_row-Exp-0 Carrier.hidden
  written_as a u d = refl

pub ruleset forms = (passed_number, passed_bool, passed_var, passed_alive, passed_one, passed_literal, passed_two, passed_as, written_number, written_bool, written_var, written_alive, written_one, written_minus, written_two, written_as)
