use Rattle.ceu_forms.proofs.Gates.{one_gate}
use Rattle.ceu_forms.proofs.laws.singles_have_one_gate.Goals as goal

pub returns : goal.returns
returns c = one_gate
