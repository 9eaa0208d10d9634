use Rattle.std.proofs.Common.{refl}
use Rattle.ceu_grammar.proofs.Moved.{refused}
use Rattle.ceu_grammar.proofs.declarations.declares.Goals as goal

pub returns-in-Events : goal.returns-in-Events
returns-in-Events c = rw c.in-Events.is (c.closed.ensures)

pub returns-in-Inputs : goal.returns-in-Inputs
returns-in-Inputs c = rw c.in-Inputs.is (c.closed-in-Inputs.ensures)

pub returns-in-Outputs : goal.returns-in-Outputs
returns-in-Outputs c = rw c.in-Outputs.is (c.closed-in-Outputs.ensures)

pub returns-in-Shared : goal.returns-in-Shared
returns-in-Shared c = rw c.in-Shared.is (refused _ _ _ c.refuse.ensures refl)
