use Rattle.ceu_compile.proofs.Imaged.{memory_few, slots_few}
use Rattle.ceu_compile.proofs.image.image_of_program.Goals as goal

pub plan-requires-clause-few : goal.plan-requires-clause-few
plan-requires-clause-few c = slots_few c.args.program.now.kernel c.requires.small

pub generate-requires-clause-memory : goal.generate-requires-clause-memory
generate-requires-clause-memory c = let places = c.in_ok-places.ensures.places in memory_few c.args.program.now.kernel c.in_ok-places.places.layout.total c.requires.small places.whole
