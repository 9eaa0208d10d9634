use Rattle.laws_kernel_proper.proofs.Whole.{text_proper}
use Rattle.laws_kernel_proper.proofs.texts_proper.Goals as goal

pub returns : goal.returns
returns c = text_proper
