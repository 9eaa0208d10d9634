use Rattle.laws_promise_texts.proofs.Whole.{what_runs_is_refined}
use Rattle.laws_promise_texts.proofs.refines_laws.what_runs_is_refined.Goals as goal

pub returns : goal.returns
returns c = what_runs_is_refined c.images_refine_texts.ensures
