use Rattle.ceu_compile.proofs.Imaged.{small_program, spelled}
use Rattle.ceu_compile.proofs.image.compile.Goals as goal

pub image_of_program-requires-clause-small : goal.image_of_program-requires-clause-small
image_of_program-requires-clause-small c = small_program c.args.text.now c.in-Ok.program.kernel c.in-Ok.ensures.program

pub returns-in-Ok-image_of_program-clause-spelled : goal.returns-in-Ok-image_of_program-clause-spelled
returns-in-Ok-image_of_program-clause-spelled c =
    spelled c.args.text.now c.in-Ok.program.kernel c.in-Ok-image_of_program.image c.in-Ok.ensures.program c.in-Ok.ensures.proper c.in-Ok-image_of_program.ensures
