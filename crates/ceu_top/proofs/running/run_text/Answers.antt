use Rattle.std.proofs.Common.{refl, inl}
use Rattle.ceu_top.proofs.Answering.{broken_text, memory_wanted, refused_with, text_printed}
use Rattle.ceu_top.proofs.Leaving.{refused_left}
use Rattle.ceu_top.specs.declared.words.Mode.TheVariants.{Run}
use Rattle.ceu_top.proofs.running.run_text.Goals as goal

pub returns-in-Refused-clause-answer : goal.returns-in-Refused-clause-answer
returns-in-Refused-clause-answer g c = text_printed (refused_with Run c.args.text.now c.in-Refused.rule c.in-Refused.pos c.refuse.result _ _ _ _
    (inl (broken_text c.args.text.now c.in-Err.e c.in-Refused.rule c.in-Refused.pos c.in-Err.ensures.refused c.in-Refused.is)) c.refuse.ensures)

pub returns-in-Refused-clause-left : goal.returns-in-Refused-clause-left
returns-in-Refused-clause-left g c = refused_left c.args.text.now _ _ c.refuse.ensures c.requires.left

pub returns-in-Memory-clause-answer : goal.returns-in-Memory-clause-answer
returns-in-Memory-clause-answer g c = text_printed (memory_wanted refl refl)
