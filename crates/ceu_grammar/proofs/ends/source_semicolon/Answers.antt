use Rattle.ceu_grammar.proofs.Others as other
use Rattle.ceu_grammar.proofs.Moved.{refused}
use Rattle.ceu_grammar.proofs.ends.source_semicolon.Goals as goal

pub returns-in-Store : goal.returns-in-Store
returns-in-Store c = rw c.in-Store.is (c.closed.ensures)

pub returns-in-Initial : goal.returns-in-Initial
returns-in-Initial c = rw c.in-Initial.is (c.items_closed.ensures)

pub returns-in_default : goal.returns-in_default
returns-in_default c = refused _ _ _ c.refuse.ensures (other.source_semicolon c.args.source c.args.frame c.args.stack.now c.in_default.not-Store c.in_default.not-Initial)
