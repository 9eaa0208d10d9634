use Rattle.laws_bounds_tables.proofs.Settled.{emissions_settle}
use Rattle.laws_bounds_tables.proofs.emissions_settle.Goals as goal

pub returns : goal.returns
returns c = λ K e keeps h. emissions_settle K e keeps h
