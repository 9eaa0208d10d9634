use Rattle.ceu_grammar.proofs.Finishes as finish
use Rattle.ceu_grammar.proofs.Moved.{unfinished}
use Rattle.ceu_grammar.proofs.parser.finished.Goals as goal

pub returns-in-In : goal.returns-in-In
returns-in-In c = rw c.in-In.is (c.unless_open.ensures)

pub returns-in-Declaring : goal.returns-in-Declaring
returns-in-Declaring c = rw c.in-Declaring.is (c.declaring_finished.ensures)

pub returns-in_default : goal.returns-in_default
returns-in_default c = unfinished _ _ c.wrong.ensures (finish.other_mode c.args.mode c.args.stack.now c.in_default.not-In c.in_default.not-Declaring)
