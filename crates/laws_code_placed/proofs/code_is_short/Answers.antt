use Rattle.laws_code_placed.proofs.Few.{short_code, whole_code}
use Rattle.laws_code_placed.proofs.code_is_short.Goals as goal

pub returns-clause-bytes : goal.returns-clause-bytes
returns-clause-bytes c = short_code

pub returns-clause-whole : goal.returns-clause-whole
returns-clause-whole c = whole_code
