use Rattle.std.proofs.Common.{◌≡◌, ◌+◌, ◌++◌, drop}
use Rattle.ceu_shape.specs.Par.{set_ends}
use Rattle.ceu_low_par.specs.Conditions.{nodes_of, planned}
use Rattle.ceu_low_par.proofs.branches.add_set_ends.Given as goal

abbrev pub invariant-loop-k : goal.invariant-loop-k
invariant-loop-k g l =
    let plan = planned (g.P.Places.planned l.places) l.gates in
    record l.initial.sheet { lines = l.initial.sheet.lines ++ set_ends plan l.labels 0 l.slot l.join (nodes_of l.branches) } ≡ record l.sheet { lines = l.sheet.lines ++ set_ends plan l.labels l.k (l.slot + l.k) l.join (nodes_of (drop l.k l.branches)) }
