-- Measures for recursions over the source tree: how many parts there are.
use Rattle.std.proofs.Common.{◌≡◌, refl, ℕ, suc, ◌+◌}
use Rattle.ceu_base.specs.declared.kinds.Ty.{Ty}
use Rattle.ceu_base.specs.declared.kinds.Op1.{Op1}
use Rattle.ceu_base.specs.declared.kinds.Op2.{Op2}
use Rattle.ceu_tree.specs.declared.source.Exp.{Exp}
use Rattle.ceu_tree.specs.declared.source.ExpNode as exp
use Rattle.ceu_tree.specs.declared.source.ExpNode.{ExpNode, Row_of-Exp, end_of-Exp, more_of-Exp, One', Two', As'}
use Rattle.ceu_tree.specs.declared.source.ExpNode.TheBlock.{hidden-the_row-Exp-0}
use denote.Hole.Carrier

unfoldable mutual
  pub node_size : ExpNode → ℕ
  node_size (One' op _ a) = suc (operand_size a)
  node_size (Two' op _ a _ b) = suc (operand_size a + operand_size b)
  node_size (As' _ a t) = suc (operand_size a)
  node_size _ = 1

  pub operand_size : {n : _} → Row_of-Exp n → ℕ
  operand_size end_of-Exp = 0
  operand_size (more_of-Exp p e rest) = node_size e

abbrev pub exp_size : Exp → ℕ
exp_size e = node_size e.node

pub size_one : (op : Op1) (a : Exp) → node_size (exp.One op a) ≡ suc (exp_size a)
unfolding node_size hidden-the_row-Exp-0 Carrier.hidden
size_one op a = refl

pub size_two : (op : Op2) (a b : Exp) → node_size (exp.Two op a b) ≡ suc (exp_size a + exp_size b)
unfolding node_size hidden-the_row-Exp-0 Carrier.hidden
size_two op a b = refl

pub size_as : (a : Exp) (t : Ty) → node_size (exp.As a t) ≡ suc (exp_size a)
unfolding node_size hidden-the_row-Exp-0 Carrier.hidden
size_as a t = refl

pub ruleset sizes = (size_one, size_two, size_as)
