use Rattle.std.proofs.Common.{◌+◌, ◌*◌}
use Rattle.ceu_mem.proofs.Gates.{get_put_same, get_put_other, put_length, byte_elsewhere}
use Rattle.ceu_mem.proofs.laws.gates_stay_apart.Goals as goal

pub returns-clause-written : goal.returns-clause-written
returns-clause-written c = get_put_same

pub returns-clause-others : goal.returns-clause-others
returns-clause-others c = get_put_other

pub returns-clause-length : goal.returns-clause-length
returns-clause-length c = λ b gate bytes i. put_length gate bytes (b + 19 * i)

pub returns-clause-outside : goal.returns-clause-outside
returns-clause-outside c = λ b gate bytes i k o. byte_elsewhere gate bytes (b + 19 * i) k o
