use Rattle.ceu_follows.proofs.Runs.{image_is_sound}
use Rattle.ceu_follows.proofs.image_is_sound.Goals as goal

pub returns : goal.returns
returns c = λ image P width K laws compiled ends. image_is_sound image P width K compiled ends laws
