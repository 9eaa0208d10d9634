use Rattle.laws_text_printed.proofs.Tokens.{derived_spelled}
use Rattle.laws_text_printed.proofs.derived_trees_are_spelled.Goals as goal

pub returns : goal.returns
returns c text tokens t reads derived = derived_spelled text tokens t reads derived
