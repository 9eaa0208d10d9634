use Rattle.std.proofs.Common.{◌≡◌, ◌++◌, drop}
use Rattle.ceu_shape.specs.Par.{waiting_ends}
use Rattle.ceu_low_par.specs.Conditions.{nodes_of, planned}
use Rattle.ceu_low_par.proofs.branches.add_waiting_ends.Given as goal

abbrev pub invariant-loop-k : goal.invariant-loop-k
invariant-loop-k g l =
    let plan = planned (g.P.Places.planned l.places) l.gates in
    record l.initial.sheet { lines = l.initial.sheet.lines ++ waiting_ends plan l.labels 0 (nodes_of l.branches) } ≡ record l.sheet { lines = l.sheet.lines ++ waiting_ends plan l.labels l.k (nodes_of (drop l.k l.branches)) }
