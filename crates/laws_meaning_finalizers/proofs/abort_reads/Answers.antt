use Rattle.laws_meaning_finalizers.proofs.Steps as steps
use Rattle.laws_meaning_finalizers.proofs.abort_reads.Goals as goal

pub returns : goal.returns
returns c = λ K t r w p fit h own st. steps.abort_reads K p t r w fit h own st
