use Rattle.ceu_top.proofs.Clauses.{clause_headline, clause_words, clause_absent, clause_too_long, clause_done, clause_refused, clause_script, clause_fault, clause_read, clause_write, clause_cut_short, clause_stopped, clause_taken, clause_unwritten, clause_quiet}
use Rattle.ceu_top.proofs.top.ceu.Goals as goal

pub returns-clause-headline : goal.returns-clause-headline
returns-clause-headline g c = clause_headline _ _ _ _ _ _ _ _ _ _ _ _ _ c.answer.ensures.answer

pub returns-clause-words : goal.returns-clause-words
returns-clause-words g c = clause_words _ _ _ _ _ _ _ _ _ _ _ _ _ c.answer.ensures.answer

pub returns-clause-absent : goal.returns-clause-absent
returns-clause-absent g c = clause_absent _ _ _ _ _ _ _ _ _ _ _ _ _ c.answer.ensures.answer

pub returns-clause-too_long : goal.returns-clause-too_long
returns-clause-too_long g c = clause_too_long _ _ _ _ _ _ _ _ _ _ _ _ _ c.answer.ensures.answer

pub returns-clause-done : goal.returns-clause-done
returns-clause-done g c = clause_done _ _ _ _ _ _ _ _ _ _ _ _ _ c.answer.ensures.answer

pub returns-clause-refused : goal.returns-clause-refused
returns-clause-refused g c = clause_refused _ _ _ _ _ _ _ _ _ _ _ _ _ c.answer.ensures.answer

pub returns-clause-script : goal.returns-clause-script
returns-clause-script g c = clause_script _ _ _ _ _ _ _ _ _ _ _ _ _ c.answer.ensures.answer

pub returns-clause-fault : goal.returns-clause-fault
returns-clause-fault g c = clause_fault _ _ _ _ _ _ _ _ _ _ _ _ _ c.answer.ensures.answer

pub returns-clause-read : goal.returns-clause-read
returns-clause-read g c = clause_read _ _ _ _ _ _ _ _ _ _ _ _ _ c.answer.ensures.answer

pub returns-clause-write : goal.returns-clause-write
returns-clause-write g c = clause_write _ _ _ _ _ _ _ _ _ _ _ _ _ c.answer.ensures.answer

pub returns-clause-cut_short : goal.returns-clause-cut_short
returns-clause-cut_short g c = clause_cut_short _ _ _ _ _ _ _ _ _ _ _ _ _ c.answer.ensures.answer

pub returns-clause-stopped : goal.returns-clause-stopped
returns-clause-stopped g c = clause_stopped _ _ _ _ _ _ _ _ _ _ _ _ _ c.answer.ensures.answer

pub returns-clause-taken : goal.returns-clause-taken
returns-clause-taken g c = clause_taken _ _ _ _ _ _ _ _ _ _ _ _ _ c.answer.ensures.answer

pub returns-clause-unwritten : goal.returns-clause-unwritten
returns-clause-unwritten g c = clause_unwritten _ _ _ _ _ _ _ _ _ _ _ _ _ c.answer.ensures.answer

pub returns-clause-quiet : goal.returns-clause-quiet
returns-clause-quiet g c = clause_quiet _ _ _ _ _ _ _ _ _ _ _ _ _ c.answer.ensures.answer
