use Rattle.ceu_top.proofs.Answering.{text_printed}
use Rattle.ceu_top.proofs.top.on_text.Goals as goal

pub returns-in-Check-clause-answer : goal.returns-in-Check-clause-answer
returns-in-Check-clause-answer g c = rw c.in-Check.is (text_printed c.check_text.ensures)

pub returns-in-List-clause-answer : goal.returns-in-List-clause-answer
returns-in-List-clause-answer g c = rw c.in-List.is (text_printed c.list_text.ensures)

pub returns-in-Tidy-clause-answer : goal.returns-in-Tidy-clause-answer
returns-in-Tidy-clause-answer g c = rw c.in-Tidy.is (text_printed c.tidy_text.ensures)

pub returns-in-Show-clause-answer : goal.returns-in-Show-clause-answer
returns-in-Show-clause-answer g c = rw c.in-Show.is (text_printed c.show_bytes.ensures)

pub returns-in-Check-clause-left : goal.returns-in-Check-clause-left
returns-in-Check-clause-left g c = rw c.in-Check.is c.requires.left

pub returns-in-List-clause-left : goal.returns-in-List-clause-left
returns-in-List-clause-left g c = rw c.in-List.is c.requires.left

pub returns-in-Tidy-clause-left : goal.returns-in-Tidy-clause-left
returns-in-Tidy-clause-left g c = rw c.in-Tidy.is c.requires.left

pub returns-in-Show-clause-left : goal.returns-in-Show-clause-left
returns-in-Show-clause-left g c = rw c.in-Show.is c.requires.left

pub returns-in-Run-clause-left : goal.returns-in-Run-clause-left
returns-in-Run-clause-left g c = rw c.in-Run.is c.run_text.ensures.left
