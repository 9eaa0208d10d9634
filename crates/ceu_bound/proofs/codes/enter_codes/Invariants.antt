use Rattle.std.proofs.Common.{◌≡◌, [], List, take}
use Rattle.std.specs.List.{AllZip}
use Rattle.ceu_tree.specs.Costs.{Cost, enters_from}
use Rattle.ceu_bound.specs.Parts.{costs, Same, SameTables}
use Rattle.ceu_bound.proofs.codes.enter_codes.Given as goal

abbrev pub invariant-loop-code : goal.invariant-loop-code
invariant-loop-code l = (l.tables ≡ record l.initial.tables { entering = l.tables.entering }) ×
    ((E : List Cost) → SameTables l.initial.tables.part (costs l.initial.tables.events.items) E →
    AllZip (Same l.initial.tables.part) (costs l.tables.entering.items) (enters_from l.initial.tables.passing.items E [] (take l.code-index l.codes)))
