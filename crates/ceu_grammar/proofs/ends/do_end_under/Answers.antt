use Rattle.ceu_grammar.proofs.Others as other
use Rattle.ceu_grammar.proofs.Moved.{refused}
use Rattle.ceu_grammar.proofs.ends.do_end_under.Goals as goal

pub returns-in-Begun : goal.returns-in-Begun
returns-in-Begun c = rw c.in-Begun.is (c.begun_closed.ensures _)

pub returns-in-Store : goal.returns-in-Store
returns-in-Store c = rw c.in-Store.is (c.closed.ensures)

pub returns-in-Initial : goal.returns-in-Initial
returns-in-Initial c = rw c.in-Initial.is (c.items_ended.ensures _)

pub returns-in_default : goal.returns-in_default
returns-in_default c = refused _ _ _ c.refuse.ensures (other.do_end c.args.done c.args.frame c.args.stack.now c.in_default.not-Begun c.in_default.not-Store c.in_default.not-Initial)
