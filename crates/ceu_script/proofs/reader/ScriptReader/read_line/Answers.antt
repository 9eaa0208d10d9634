use Rattle.std.proofs.Common.{◌+◌, sym, ◌∙◌, ap, arith}
use Rattle.std.proofs.lemmas.Bool.Decides.{nat_tests}
use Rattle.ceu_script.specs.Reader.{LastLine}
use Rattle.ceu_script.proofs.Front.{newline_answers, last_answers}
use Rattle.ceu_script.proofs.reader.ScriptReader.read_line.Goals as goal

pub returns-in-Newline-clause-told : goal.returns-in-Newline-clause-told
returns-in-Newline-clause-told g c = newline_answers _ _ _ _ _ _ _ _ c.in-Newline.is c.begin.ensures.pending c.begin.ensures.taken c.before_newline.ensures.line c.in_ok-read_text.ensures.told

pub returns-else-is_empty-clause-told : goal.returns-else-is_empty-clause-told
returns-else-is_empty-clause-told g c = last_answers _ _ _ c.read_text.new.text.items _ _ _ _ c.in-Last.is (grind (arith, nat_tests, c.if-is_empty.ensures)) c.begin-in-Last.ensures.pending c.begin-in-Last.ensures.taken c.of_text.ensures.line c.in_ok-read_text.ensures.told

pub returns-in-Newline-clause-lines : goal.returns-in-Newline-clause-lines
returns-in-Newline-clause-lines g c = c.begin.ensures.lines ∙ ap (λ (l : LastLine). l.lines + 1) c.read_text.ensures.last ∙ sym (c.before_newline.ensures.counted _)

pub returns-else-is_empty-clause-lines : goal.returns-else-is_empty-clause-lines
returns-else-is_empty-clause-lines g c = c.begin-in-Last.ensures.lines ∙ ap (λ (l : LastLine). l.lines + 1) c.read_text.ensures.last ∙ sym (c.of_text.ensures.counted _)

pub returns-in-Newline-clause-start : goal.returns-in-Newline-clause-start
returns-in-Newline-clause-start g c = c.begin.ensures.start ∙ c.position-start.ensures.place ∙ sym (c.before_newline.ensures.began _ _)

pub returns-else-is_empty-clause-start : goal.returns-else-is_empty-clause-start
returns-else-is_empty-clause-start g c = c.begin-in-Last.ensures.start ∙ c.position-start.ensures.place ∙ sym (c.of_text.ensures.began _ _)
