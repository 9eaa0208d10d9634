use Rattle.laws_promise_texts.proofs.Made.{images_compiled}
use Rattle.laws_promise_texts.proofs.images_laws.images_are_compiled.Goals as goal

pub returns : goal.returns
returns c = images_compiled
