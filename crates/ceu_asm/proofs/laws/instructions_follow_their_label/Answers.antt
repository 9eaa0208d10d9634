use Rattle.ceu_asm.proofs.Following.{follow}
use Rattle.ceu_asm.proofs.laws.instructions_follow_their_label.Goals as goal

pub returns : goal.returns
returns c = follow
