use Rattle.ceu_asm.proofs.Tabled.{of_the_table, whole_code}
use Rattle.ceu_asm.proofs.laws.instructions_are_of_the_table.Goals as goal

pub returns-clause-instructions : goal.returns-clause-instructions
returns-clause-instructions c = of_the_table

pub returns-clause-lines : goal.returns-clause-lines
returns-clause-lines c = whole_code
