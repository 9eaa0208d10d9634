use Rattle.std.proofs.Common.{refl}
use Rattle.ceu_top.proofs.Answering.{bytes_refused, image_shown, memory_wanted}
use Rattle.ceu_top.proofs.showing.show_bytes.Goals as goal

pub returns-in-Ok : goal.returns-in-Ok
returns-in-Ok g c = image_shown c.args.bytes.now c.in-Ok.image c.show_image.result _ _ _ _ c.in-Ok.ensures.ok c.show_image.ensures

pub returns-in-Bad : goal.returns-in-Bad
returns-in-Bad g c = bytes_refused c.args.bytes.now c.in-Err.e c.in-Bad.at c.refuse_bytes.result _ _ _ _ c.in-Err.ensures.bad c.in-Bad.is c.refuse_bytes.ensures

pub returns-in-Memory : goal.returns-in-Memory
returns-in-Memory g c = memory_wanted refl refl
