use Rattle.std.proofs.Common.{refl}
use Rattle.ceu_grammar.proofs.Modes as mode
use Rattle.ceu_grammar.proofs.Moved.{refused}
use Rattle.ceu_grammar.proofs.declarations.no_params.Goals as goal

pub returns-in-None : goal.returns-in-None
returns-in-None c K = rw c.in-None.is refl

pub returns-in_default : goal.returns-in_default
returns-in_default c K = refused _ _ _ c.refuse.ensures (mode.no_params_of c.args.ty c.args.code K c.in_default.not-None)
