use Rattle.ceu_grammar.proofs.Others as other
use Rattle.ceu_grammar.proofs.Moved.{refused}
use Rattle.ceu_grammar.proofs.ends.ended_under.Goals as goal

pub returns-in-Body : goal.returns-in-Body
returns-in-Body c = rw c.in-Body.is (c.body_end.ensures)

pub returns-in_default : goal.returns-in_default
returns-in_default c = refused _ _ _ c.refuse.ensures (other.of_end c.args.list c.args.frame c.args.stack.now c.in_default.not-Body)
