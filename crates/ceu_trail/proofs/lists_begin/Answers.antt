use Rattle.ceu_trail.proofs.Codes.{lists_begin}
use Rattle.ceu_trail.proofs.lists_begin.Goals as goal

pub returns : goal.returns
returns c = lists_begin
