use Rattle.laws_meaning_instances.proofs.Runs.{done_stands}
use Rattle.laws_meaning_instances.proofs.command_instances.Goals as goal

pub returns : goal.returns
returns c = λ K n x c p t h. done_stands K p n x c t h
