use Rattle.laws_meaning_slots.proofs.Runs.{done_hold}
use Rattle.laws_meaning_slots.proofs.command_names.Goals as goal

pub returns : goal.returns
returns c = λ K n x c p t s h. done_hold K p n x c t s h
