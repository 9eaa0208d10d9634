use Rattle.ceu_simulates.proofs.Whole.{compiled_programs_run}
use Rattle.ceu_simulates.proofs.compiled_programs_run.Goals as goal

pub returns : goal.returns
returns c = compiled_programs_run
