use Rattle.ceu_grammar.proofs.Finishes as finish
use Rattle.ceu_grammar.proofs.parser.vars_finished.Goals as goal

pub returns-in-Ok : goal.returns-in-Ok
returns-in-Ok c = finish.gathered_on _ _ _ _ _ _ c.in-Ok.ensures c.unless_open.ensures

pub returns-in-Err : goal.returns-in-Err
returns-in-Err c = finish.gathered_none _ _ _ _ _ c.in-Err.ensures
