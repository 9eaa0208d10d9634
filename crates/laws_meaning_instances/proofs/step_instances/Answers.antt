use Rattle.laws_meaning_instances.proofs.Runs.{next_stands}
use Rattle.laws_meaning_instances.proofs.step_instances.Goals as goal

pub returns : goal.returns
returns c = λ K c p t h. next_stands K p c t h
