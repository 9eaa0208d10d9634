use Rattle.laws_code_placed.proofs.Whole.{mark_each, mark_none_twice, mark_named}
use Rattle.laws_code_placed.proofs.labels_are_marked.Goals as goal

pub returns-clause-each : goal.returns-clause-each
returns-clause-each c = mark_each

pub returns-clause-twice : goal.returns-clause-twice
returns-clause-twice c = mark_none_twice

pub returns-clause-named : goal.returns-clause-named
returns-clause-named c = mark_named
