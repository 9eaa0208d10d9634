use Rattle.ceu_grammar.proofs.Modes as mode
use Rattle.ceu_grammar.proofs.Moved.{refused}
use Rattle.ceu_grammar.proofs.parser.of_outer_name.Goals as goal

pub returns-in-Lower : goal.returns-in-Lower
returns-in-Lower c = rw c.in-Lower.is (rw c.outer.ensures at c.located.ensures)

pub returns-in_default : goal.returns-in_default
returns-in_default c = refused _ _ _ c.refuse.ensures (mode.of_outer_name c.args.kind c.args.owner c.args.pos c.args.stack.now c.in_default.not-Lower)
