use Rattle.laws_machine_code.proofs.Nodes.{expressions_evaluate}
use Rattle.laws_machine_code.proofs.expressions_evaluate.Goals as goal

pub returns : goal.returns
returns c = expressions_evaluate
