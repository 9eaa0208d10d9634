use Rattle.ceu_gates.proofs.Orders as orders
use Rattle.ceu_gates.proofs.laws.parts_nest.Goals as goal

pub returns : goal.returns
returns c = orders.parts_nest
