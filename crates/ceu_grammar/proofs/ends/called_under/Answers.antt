use Rattle.std.proofs.Common.{refl}
use Rattle.ceu_grammar.proofs.Others as other
use Rattle.ceu_grammar.proofs.ends.called_under.Goals as goal

pub returns-in-Spawn : goal.returns-in-Spawn
returns-in-Spawn c = rw c.in-Spawn.is refl

pub returns-in_default : goal.returns-in_default
returns-in_default c = rw (other.called c.args.code c.args.args c.args.frame c.args.stack.now c.in_default.not-Spawn) ((rw c.awaited_call.ensures at c.pushed.ensures))
