use Rattle.std.proofs.Common.{refl, inl}
use Rattle.ceu_top.proofs.Leaving.{command_left, no_command_left}
use Rattle.ceu_top.specs.declared.status.Status.TheVariants.{Words}
use Rattle.ceu_top.proofs.top.answer.Goals as goal

pub returns-in-Some-clause-left : goal.returns-in-Some-clause-left
returns-in-Some-clause-left g c = command_left c.args.words.now c.on_file.result (g.S.Shelf.files c.args.shelf.now) (g.I.Source.left c.args.input.now) c.on_file.new.left _ _ c.in-Some.ensures c.on_file.ensures.left

pub returns-in-None-clause-answer : goal.returns-in-None-clause-answer
returns-in-None-clause-answer g c = record { is = inl (c.in-None.ensures, record { words = refl; unwritten = refl; unread = record { bytes = refl; input = refl }; shelf = refl; out = refl }) }

pub returns-in-None-clause-left : goal.returns-in-None-clause-left
returns-in-None-clause-left g c = no_command_left c.args.words.now Words (g.S.Shelf.files c.args.shelf.now) (g.I.Source.left c.args.input.now) c.args.left.now c.in-None.ensures c.requires
