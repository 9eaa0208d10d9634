use Rattle.std.proofs.Common.{refl}
use Rattle.ceu_grammar.proofs.declarations.case_of.Goals as goal

pub returns-in-Events : goal.returns-in-Events
returns-in-Events c = rw c.in-Events.is refl

pub returns-in-Inputs : goal.returns-in-Inputs
returns-in-Inputs c = rw c.in-Inputs.is refl

pub returns-in-Outputs : goal.returns-in-Outputs
returns-in-Outputs c = rw c.in-Outputs.is refl

pub returns-in-Shared : goal.returns-in-Shared
returns-in-Shared c = rw c.in-Shared.is refl
