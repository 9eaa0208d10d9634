use Rattle.laws_code_spelled.proofs.Whole.{images_spelled}
use Rattle.laws_code_spelled.proofs.images_are_spelled.Goals as goal

pub returns : goal.returns
returns c = images_spelled
