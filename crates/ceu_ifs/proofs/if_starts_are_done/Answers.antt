use Rattle.ceu_ifs.proofs.Starts.{if_begins}
use Rattle.ceu_ifs.proofs.if_starts_are_done.Goals as goal

pub returns : goal.returns
returns c = if_begins
