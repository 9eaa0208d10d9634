use Rattle.ceu_simulates.proofs.Whole.{compiled_images_are_sound}
use Rattle.ceu_simulates.proofs.compiled_images_are_sound.Goals as goal

pub returns : goal.returns
returns c = compiled_images_are_sound
