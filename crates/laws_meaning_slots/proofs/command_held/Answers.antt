use Rattle.laws_meaning_slots.proofs.Runs.{done_held}
use Rattle.laws_meaning_slots.proofs.command_held.Goals as goal

pub returns : goal.returns
returns c = λ K n x c p t s h. done_held K p n x c t s h
