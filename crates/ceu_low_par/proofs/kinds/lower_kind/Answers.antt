use Rattle.std.proofs.Common.{ℕ, List}
use Rattle.ceu_shape.specs.Plans.{Plan}
use Rattle.ceu_low_par.specs.Conditions.{nodes_of, planned}
use Rattle.ceu_low_par.proofs.Adding.{on_ok, never_added, or_added, and_added}
use Rattle.ceu_low_par.proofs.kinds.lower_kind.Goals as goal

pub returns-in-Never : goal.returns-in-Never
returns-in-Never g c =
    let plan : Plan = planned (g.P.Places.planned c.args.places.now) c.args.gates.now in
    let nodes : List ℕ = nodes_of c.args.branches.now in
    on_ok c.lower_never.result (λ e. never_added plan c.args.labels.now c.args.sheet.now c.lower_never.new.sheet c.args.node c.args.kind c.args.slot nodes c.in-Never.is e) c.lower_never.ensures

pub returns-in-Or : goal.returns-in-Or
returns-in-Or g c =
    let plan : Plan = planned (g.P.Places.planned c.args.places.now) c.args.gates.now in
    let nodes : List ℕ = nodes_of c.args.branches.now in
    on_ok c.lower_or.result (λ e. or_added plan c.args.labels.now c.args.sheet.now c.lower_or.new.sheet c.args.node c.args.kind c.args.slot nodes c.in-Or.is e) c.lower_or.ensures

pub returns-in-And : goal.returns-in-And
returns-in-And g c =
    let plan : Plan = planned (g.P.Places.planned c.args.places.now) c.args.gates.now in
    let nodes : List ℕ = nodes_of c.args.branches.now in
    on_ok c.add_and.result (λ e. and_added plan c.args.labels.now c.args.sheet.now c.add_and.new.sheet c.args.node c.args.kind c.args.slot nodes c.two_labels-join.new.sheet c.two_labels-join.result c.in-And.is c.two_labels-join.ensures.first c.two_labels-join.ensures.given e) c.add_and.ensures
