use Rattle.ceu_top.proofs.Answering.{write_is}
use Rattle.ceu_top.proofs.writing.refuse_bytes.Goals as goal

pub returns : goal.returns
returns g c = write_is _ _ _ c.write_no_image.result _ _ _ _ c.write_no_image.ensures.whole c.write_no_image.ensures.front c.write_no_image.ensures.cause c.status_of.ensures
