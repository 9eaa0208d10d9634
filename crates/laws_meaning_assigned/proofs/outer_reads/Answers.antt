use Rattle.laws_meaning_assigned.proofs.Outer.{outer_reads}
use Rattle.laws_meaning_assigned.proofs.outer_reads.Goals as goal

pub returns : goal.returns
returns c = λ K n slot f s w p t own h e v m. outer_reads K p n f w s slot t own h e v m
