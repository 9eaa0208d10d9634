use Rattle.ceu_top.proofs.Answering.{write_is}
use Rattle.ceu_top.proofs.writing.refuse.Goals as goal

pub returns : goal.returns
returns g c = write_is _ _ _ c.write_refusal.result _ _ _ _ c.write_refusal.ensures.whole c.write_refusal.ensures.front c.write_refusal.ensures.cause c.status_of.ensures
