use Rattle.std.proofs.Common.{ap}
use Rattle.ceu_forms.proofs.Same.{runs_single}
use Rattle.ceu_top.proofs.Answering.{run_is, text_unmet}
use Rattle.ceu_top.proofs.Compiling.{compiled}
use Rattle.ceu_top.proofs.Leaving.{run_left}
use Rattle.ceu_top.proofs.running.run_built.Goals as goal

pub image_of_program-requires-clause-small : goal.image_of_program-requires-clause-small
image_of_program-requires-clause-small g c = c.requires.program.3.2

pub run-requires-clause-compiled : goal.run-requires-clause-compiled
run-requires-clause-compiled g c = compiled c.args.text.now c.args.program.now.kernel c.args.program.now.bounds c.in-Ok.image c.requires.program c.requires.proper c.requires.built c.requires.bounded c.in-Ok.ensures

pub run-requires-clause-few : goal.run-requires-clause-few
run-requires-clause-few g c = (runs_single c.args.program.now.kernel c.requires.built).few

pub run-requires-clause-short : goal.run-requires-clause-short
run-requires-clause-short g c = (runs_single c.args.program.now.kernel c.requires.built).short

pub returns-in-Ok-run-clause-answer : goal.returns-in-Ok-run-clause-answer
returns-in-Ok-run-clause-answer g c = run_is c.in-Ok-run.played c.played_status.result c.args.text.now c.args.program.now.kernel c.args.program.now.memory c.args.program.now.bounds _ _ _ _ _ _ _ _
    c.requires.program c.requires.built c.requires.sized c.requires.bounded c.in-Ok-run.ensures.told c.in-Ok-run.ensures.cause c.played_status.ensures

pub returns-in-Ok-run-clause-left : goal.returns-in-Ok-run-clause-left
returns-in-Ok-run-clause-left g c = run_left c.in-Ok-run.played c.played_status.result c.args.text.now c.args.program.now.kernel c.in-Ok.image (g.I.Source.left c.args.input.now) (g.I.Source.left c.run.new.input) c.run.new.left
    c.requires.program c.in-Ok.ensures c.in-Ok-run.ensures.left c.played_status.ensures

pub returns-in-Err-clause-answer : goal.returns-in-Err-clause-answer
returns-in-Err-clause-answer g c = text_unmet (ap g.I.Source.left c.in-Err.ensures.input) (ap g.O.Sink.held c.in-Err.ensures.out) (ap g.I.Source.faults c.in-Err.ensures.input) (ap g.O.Sink.faults c.in-Err.ensures.out)
