use Rattle.ceu_script.proofs.Ports.{type_at-get_or}
use Rattle.ceu_script.proofs.shapes.type_at.Goals as goal

pub returns : goal.returns
returns c = type_at-get_or _ _ c.index-inputs-event.result c.requires
