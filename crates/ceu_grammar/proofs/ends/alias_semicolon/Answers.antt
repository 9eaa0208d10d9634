use Rattle.ceu_grammar.proofs.Others as other
use Rattle.ceu_grammar.proofs.Moved.{refused}
use Rattle.ceu_grammar.proofs.ends.alias_semicolon.Goals as goal

pub returns-in-Start : goal.returns-in-Start
returns-in-Start c = rw c.in-Start.is (c.closed.ensures)

pub returns-in_default : goal.returns-in_default
returns-in_default c = refused _ _ _ c.refuse.ensures (other.alias_semicolon c.args.act c.args.code c.args.name c.args.stack.now c.in_default.not-Start)
