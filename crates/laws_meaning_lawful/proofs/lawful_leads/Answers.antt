use Rattle.laws_meaning_lawful.proofs.Lawful.{leads}
use Rattle.laws_meaning_lawful.proofs.lawful_leads.Goals as goal

pub returns : goal.returns
returns c = λ K n x c p q h e. leads K p n x c q h e
