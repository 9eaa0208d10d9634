use Rattle.laws_bounds_tables.proofs.Exits.{block_leads}
use Rattle.laws_bounds_tables.proofs.exits_lead.Goals as goal

pub returns : goal.returns
returns c = λ P K names sc b h. block_leads P K names sc b h
