use Rattle.laws_meaning_types.proofs.Runs.{command_types}
use Rattle.laws_meaning_types.proofs.command_typed.Goals as goal

pub returns : goal.returns
returns y = λ K n x c p t q h. command_types K n x c p t q h
