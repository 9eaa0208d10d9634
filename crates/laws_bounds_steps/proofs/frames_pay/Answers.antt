use Rattle.laws_bounds_steps.proofs.Frames.{fill_pays}
use Rattle.laws_bounds_steps.proofs.frames_pay.Goals as goal

pub returns : goal.returns
returns c = λ P E N K t fr d e k q r x h. fill_pays P E N k q r x h
