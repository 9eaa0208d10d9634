use Rattle.std.proofs.Common.{ℕ, List, [], ◌∷◌, ◌++◌}
use Rattle.ceu_asm.specs.declared.line.Line.{Line}
use Rattle.ceu_shape.specs.Plans.{Plan}
use Rattle.ceu_shape.specs.Words.{abort, goto, mark}
use Rattle.ceu_shape.specs.Par.{move_to_first, forked, ends}
use Rattle.ceu_low_par.specs.Conditions.{nodes_of, planned}
use Rattle.ceu_low_par.proofs.Adding.{on_ok, then_lines}
use Rattle.ceu_low_par.proofs.kinds.lower_or.Goals as goal

pub returns : goal.returns
returns g c =
    let plan : Plan = planned (g.P.Places.planned c.args.places.now) c.args.gates.now in
    let labels = c.args.labels.now in
    let nodes : List ℕ = nodes_of c.args.branches.now in
    let start : List Line = mark labels.own ∷ move_to_first plan labels nodes in
    let others : List Line = forked plan labels nodes in
    let marks : List Line = ends plan labels 0 nodes in
    let last : List Line = abort plan c.args.node ∷ goto labels.next ∷ [] in
    on_ok c.add_all.result (λ e. then_lines c.args.sheet.now c.add_start.new.sheet c.add_all.new.sheet start (others ++ (marks ++ last)) c.in_ok-add_start.ensures
    (then_lines c.add_start.new.sheet c.add_forked.new.sheet c.add_all.new.sheet others (marks ++ last) c.in_ok-add_forked.ensures
    (then_lines c.add_forked.new.sheet c.add_ends.new.sheet c.add_all.new.sheet marks last c.in_ok-add_ends.ensures e)))
    (simp (c.abort.ensures, c.goto.ensures) at c.add_all.ensures)
