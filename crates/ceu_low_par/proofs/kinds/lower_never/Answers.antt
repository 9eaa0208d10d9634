use Rattle.std.proofs.Common.{ℕ, List, ◌∷◌, ◌++◌}
use Rattle.ceu_asm.specs.declared.line.Line.{Line}
use Rattle.ceu_shape.specs.Plans.{Plan}
use Rattle.ceu_shape.specs.Words.{mark}
use Rattle.ceu_shape.specs.Par.{move_to_first, forked, waiting_ends}
use Rattle.ceu_low_par.specs.Conditions.{nodes_of, planned}
use Rattle.ceu_low_par.proofs.Adding.{on_ok, then_lines}
use Rattle.ceu_low_par.proofs.kinds.lower_never.Goals as goal

pub returns : goal.returns
returns g c =
    let plan : Plan = planned (g.P.Places.planned c.args.places.now) c.args.gates.now in
    let labels = c.args.labels.now in
    let nodes : List ℕ = nodes_of c.args.branches.now in
    let start : List Line = mark labels.own ∷ move_to_first plan labels nodes in
    let others : List Line = forked plan labels nodes in
    let last : List Line = waiting_ends plan labels 0 nodes in
    on_ok c.add_waiting_ends.result (λ e. then_lines c.args.sheet.now c.add_start.new.sheet c.add_waiting_ends.new.sheet start (others ++ last) c.in_ok-add_start.ensures
    (then_lines c.add_start.new.sheet c.add_forked.new.sheet c.add_waiting_ends.new.sheet others last c.in_ok-add_forked.ensures e)) c.add_waiting_ends.ensures
