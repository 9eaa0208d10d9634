use Rattle.std.proofs.Common.{refl}
use Rattle.ceu_grammar.proofs.Modes as mode
use Rattle.ceu_grammar.proofs.Moved.{refused}
use Rattle.ceu_grammar.proofs.parser.of_outer.Goals as goal

pub returns-in-Dot : goal.returns-in-Dot
returns-in-Dot c K = rw c.in-Dot.is refl

pub returns-in_default : goal.returns-in_default
returns-in_default c K = refused _ _ _ c.refuse.ensures (mode.of_outer c.args.kind c.args.owner c.args.pos K c.in_default.not-Dot)
