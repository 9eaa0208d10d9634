use Rattle.std.proofs.Common.{refl}
use Rattle.ceu_grammar.proofs.Modes as mode
use Rattle.ceu_grammar.proofs.Moved.{refused}
use Rattle.ceu_grammar.proofs.declarations.params.Goals as goal

pub returns-in-CloseParen : goal.returns-in-CloseParen
returns-in-CloseParen c K = rw c.in-CloseParen.is (rw c.new.ensures refl)

pub returns-in-Type : goal.returns-in-Type
returns-in-Type c K = rw c.in-Type.is (c.no_params.ensures K)

pub returns-in-Var : goal.returns-in-Var
returns-in-Var c K = rw c.in-Var.is (rw c.new-in-Var.ensures refl)

pub returns-in_default : goal.returns-in_default
returns-in_default c K = refused _ _ _ c.refuse.ensures (mode.of_params c.args.kind c.args.code K c.in_default.not-CloseParen c.in_default.not-Type c.in_default.not-Var)
