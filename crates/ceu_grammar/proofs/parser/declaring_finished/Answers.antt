use Rattle.ceu_grammar.proofs.Finishes as finish
use Rattle.ceu_grammar.proofs.Moved.{unfinished}
use Rattle.ceu_grammar.proofs.parser.declaring_finished.Goals as goal

pub returns-in-ItemEnd : goal.returns-in-ItemEnd
returns-in-ItemEnd c = rw c.in-ItemEnd.is (c.vars_finished.ensures)

pub returns-in_default : goal.returns-in_default
returns-in_default c = unfinished _ _ c.wrong.ensures (finish.other_declaring c.args.mode c.args.stack.now c.in_default.not-ItemEnd)
