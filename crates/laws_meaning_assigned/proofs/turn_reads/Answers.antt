use Rattle.laws_meaning_assigned.proofs.Turns.{turn_reads}
use Rattle.laws_meaning_assigned.proofs.turn_reads.Goals as goal

pub returns : goal.returns
returns c = λ K n f w p t h. turn_reads K p w n f t h
