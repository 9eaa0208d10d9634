use Rattle.ceu_top.proofs.Answering.{write_is}
use Rattle.ceu_top.proofs.writing.show_text.Goals as goal

pub returns : goal.returns
returns g c = write_is _ _ _ c.write_lines.result _ _ _ _ c.write_lines.ensures.whole c.write_lines.ensures.front c.write_lines.ensures.cause c.status_of.ensures
