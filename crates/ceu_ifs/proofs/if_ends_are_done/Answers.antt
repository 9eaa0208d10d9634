use Rattle.ceu_ifs.proofs.Ends.{if_ends}
use Rattle.ceu_ifs.proofs.if_ends_are_done.Goals as goal

pub returns : goal.returns
returns c = λ laws image P width K compiled outer turn sc b0 done rest. if_ends laws image P width K compiled
