use Rattle.std.proofs.Common.{refl}
use Rattle.ceu_grammar.proofs.Modes as mode
use Rattle.ceu_grammar.proofs.Moved.{refused}
use Rattle.ceu_grammar.proofs.declarations.shares.Goals as goal

pub returns-in-Shared : goal.returns-in-Shared
returns-in-Shared c K = rw c.in-Shared.is refl

pub returns-in_default : goal.returns-in_default
returns-in_default c K = refused _ _ _ c.refuse.ensures (mode.shares c.args.listed c.args.names K c.in_default.not-Shared)
