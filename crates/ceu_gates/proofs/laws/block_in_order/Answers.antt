use Rattle.ceu_gates.proofs.Orders as orders
use Rattle.ceu_gates.proofs.laws.block_in_order.Goals as goal

pub returns : goal.returns
returns c = orders.block_in_order
