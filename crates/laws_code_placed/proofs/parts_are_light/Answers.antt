use Rattle.laws_code_placed.proofs.Few.{light_blocks, light_statements, light_codes}
use Rattle.laws_code_placed.proofs.parts_are_light.Goals as goal

pub returns-clause-blocks : goal.returns-clause-blocks
returns-clause-blocks c = light_blocks

pub returns-clause-statements : goal.returns-clause-statements
returns-clause-statements c = light_statements

pub returns-clause-codes : goal.returns-clause-codes
returns-clause-codes c = light_codes
