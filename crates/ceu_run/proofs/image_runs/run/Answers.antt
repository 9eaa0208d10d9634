use Rattle.ceu_run.proofs.CompiledCommands.{compiled_is_sound}
use Rattle.ceu_run.proofs.image_runs.run.Goals as goal

pub new-requires : goal.new-requires
new-requires g c = compiled_is_sound c.args.image c.args.kernel.now c.requires.compiled

pub run_reactor-played-requires-clause-fresh : goal.run_reactor-played-requires-clause-fresh
run_reactor-played-requires-clause-fresh g c = c.in-Ok.ensures.fresh c.args.kernel.now c.requires.compiled
