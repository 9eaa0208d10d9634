use Rattle.ceu_top.proofs.Answering.{write_is}
use Rattle.ceu_top.proofs.writing.show_image.Goals as goal

pub returns : goal.returns
returns g c = write_is _ _ _ c.show.result _ _ _ _ c.show.ensures.whole c.show.ensures.front c.show.ensures.cause c.status_of.ensures
