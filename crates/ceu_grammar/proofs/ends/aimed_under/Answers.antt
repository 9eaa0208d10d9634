use Rattle.std.proofs.Common.{refl}
use Rattle.ceu_grammar.proofs.Others as other
use Rattle.ceu_grammar.proofs.ends.aimed_under.Goals as goal

pub returns-in-Every : goal.returns-in-Every
returns-in-Every c = rw c.in-Every.is refl

pub returns-in-Watching : goal.returns-in-Watching
returns-in-Watching c = rw c.in-Watching.is refl

pub returns-in_default : goal.returns-in_default
returns-in_default c = rw (other.aimed c.args.target c.args.frame c.args.stack.now c.in_default.not-Every c.in_default.not-Watching) (c.pushed.ensures)
