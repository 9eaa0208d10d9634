use Rattle.std.proofs.Common.{◌≡◌, [], List, take}
use Rattle.std.specs.List.{AllZip}
use Rattle.ceu_tree.specs.Costs.{Cost, stays_from}
use Rattle.ceu_bound.specs.Parts.{costs, Same, SameTables}
use Rattle.ceu_bound.proofs.codes.stay_codes.Given as goal

abbrev pub invariant-loop-code : goal.invariant-loop-code
invariant-loop-code l = (l.tables ≡ record l.initial.tables { staying = l.tables.staying }) ×
    ((E N : List Cost) → SameTables l.initial.tables.part (costs l.initial.tables.events.items) E → SameTables l.initial.tables.part (costs l.initial.tables.entering.items) N →
    AllZip (Same l.initial.tables.part) (costs l.tables.staying.items) (stays_from l.initial.tables.passing.items E N [] (take l.code-index l.codes)))
