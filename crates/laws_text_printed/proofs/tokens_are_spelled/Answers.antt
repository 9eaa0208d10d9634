use Rattle.laws_text_printed.proofs.Tokens.{tokens_spelled}
use Rattle.laws_text_printed.proofs.tokens_are_spelled.Goals as goal

pub returns : goal.returns
returns c text tokens reads = tokens_spelled text tokens reads
