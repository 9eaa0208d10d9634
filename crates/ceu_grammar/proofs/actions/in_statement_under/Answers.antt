use Rattle.ceu_grammar.proofs.Others as other
use Rattle.ceu_grammar.proofs.Moved.{refused}
use Rattle.ceu_grammar.proofs.actions.in_statement_under.Goals as goal

pub returns-in-Begun : goal.returns-in-Begun
returns-in-Begun c = rw c.in-Begun.is (c.pushed.ensures)

pub returns-in_default : goal.returns-in_default
returns-in_default c = refused _ _ _ c.refuse.ensures (other.in_statement c.args.mode c.args.frame c.args.stack.now c.in_default.not-Begun)
