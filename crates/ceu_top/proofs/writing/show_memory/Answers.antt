use Rattle.ceu_top.proofs.Answering.{write_is}
use Rattle.ceu_top.proofs.writing.show_memory.Goals as goal

pub returns : goal.returns
returns g c = write_is _ _ _ c.write_memory-written.result _ _ _ _ c.write_memory-written.ensures.whole c.write_memory-written.ensures.front c.write_memory-written.ensures.cause c.status_of.ensures
