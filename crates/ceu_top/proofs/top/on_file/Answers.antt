use Rattle.ceu_top.proofs.Answering.{file_answered, file_unanswered}
use Rattle.ceu_top.proofs.Leaving.{file_left, unfetched_left}
use Rattle.ceu_top.proofs.top.on_file.Goals as goal

pub returns-in-Ok-clause-answer : goal.returns-in-Ok-clause-answer
returns-in-Ok-clause-answer g c = file_answered c.in-Ok.ensures c.as_slice.ensures.value c.on_text.ensures.answer

pub returns-in-Ok-clause-left : goal.returns-in-Ok-clause-left
returns-in-Ok-clause-left g c = file_left c.args.mode c.on_text.result (g.I.Source.left c.args.input.now) c.on_text.new.left c.in-Ok.ensures c.as_slice.ensures.value c.on_text.ensures.left

pub returns-in-Err-clause-answer : goal.returns-in-Err-clause-answer
returns-in-Err-clause-answer g c = file_unanswered c.in-Err.ensures

pub returns-in-Err-clause-left : goal.returns-in-Err-clause-left
returns-in-Err-clause-left g c = unfetched_left c.args.mode (g.I.Source.left c.args.input.now) c.args.left.now c.in-Err.ensures c.requires
