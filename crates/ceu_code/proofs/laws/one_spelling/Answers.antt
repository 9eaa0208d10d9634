use Rattle.std.proofs.Common.{refl, sym, ◌∙◌}
use Rattle.ceu_code.proofs.Images.{unique_image}
use Rattle.ceu_code.proofs.laws.one_spelling.Goals as goal

pub returns-clause-images : goal.returns-clause-images
returns-clause-images c = λ image other bytes p q. (unique_image image other bytes bytes bytes bytes p q refl).0

pub returns-clause-spellings : goal.returns-clause-spellings
returns-clause-spellings c = λ image bytes others p q. p.1 ∙ sym q.1
