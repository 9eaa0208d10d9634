use Rattle.laws_promise_texts.proofs.Whole.{images_refine_texts}
use Rattle.laws_promise_texts.proofs.refines_laws.images_refine_texts.Goals as goal

pub returns : goal.returns
returns c = images_refine_texts c.one_outcome.ensures.program
