use Rattle.ceu_mem.proofs.Views.{number_written, length-with_number, byte_outside}
use Rattle.ceu_mem.proofs.laws.numbers_stay_apart.Goals as goal

pub returns-clause-written : goal.returns-clause-written
returns-clause-written c = number_written

pub returns-clause-length : goal.returns-clause-length
returns-clause-length c = length-with_number

pub returns-clause-outside : goal.returns-clause-outside
returns-clause-outside c = byte_outside
