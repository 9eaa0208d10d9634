-- What a command does to the gates before a reaction.
use Rattle.std.specs.Prelude.{Bool, min}
use Rattle.ceu_mem.specs.declared.gate.Gate.{Gate}
use Rattle.ceu_isa.specs.Commands.{waits_for_input, woken_with, is_due, is_served, served_again}
use Rattle.ceu_react.specs.declared.changes.Change.{Change}
use Rattle.ceu_react.specs.declared.changes.Change.TheVariants.{Input, Due, Round}

-- which gates change
abbrev pub affects : Change → Gate → Bool
affects (Input k value) gate = waits_for_input k gate
affects (Due delay) gate = is_due gate
affects Round gate = is_served gate

-- and what they become
abbrev pub changed_by : Change → Gate → Gate
changed_by (Input k value) gate = woken_with value gate
changed_by (Due delay) gate = woken_with (min delay 2147483647) gate
changed_by Round gate = served_again gate
