use Rattle.std.proofs.Common.{refl, sym, inr}
use Rattle.ceu_top.proofs.Answering.{refused_with, text_printed}
use Rattle.ceu_top.proofs.Leaving.{refused_left}
use Rattle.ceu_top.specs.declared.words.Mode.TheVariants.{Run}
use Rattle.ceu_top.proofs.running.run_program.Goals as goal

pub returns-in-Some-clause-answer : goal.returns-in-Some-clause-answer
returns-in-Some-clause-answer g c = text_printed (refused_with Run c.args.text.now _ c.in-Some.pos c.refuse.result _ _ _ _ (inr (c.args.program.now.kernel, c.requires.program, refl, sym c.in-Some.ensures)) c.refuse.ensures)

pub returns-in-Some-clause-left : goal.returns-in-Some-clause-left
returns-in-Some-clause-left g c = refused_left c.args.text.now _ _ c.refuse.ensures c.requires.left
