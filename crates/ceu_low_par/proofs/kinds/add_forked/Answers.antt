use Rattle.std.proofs.Common.{ℕ, List, [], ◌∷◌}
use Rattle.ceu_shape.specs.Plans.{Plan}
use Rattle.ceu_shape.specs.Words.{begin_of, goto}
use Rattle.ceu_shape.specs.Par.{forks, rest}
use Rattle.ceu_low_par.specs.Conditions.{nodes_of, planned}
use Rattle.ceu_low_par.proofs.Adding.{on_ok, then_lines}
use Rattle.ceu_low_par.proofs.kinds.add_forked.Goals as goal

pub returns : goal.returns
returns g c =
    let plan : Plan = planned (g.P.Places.planned c.args.places.now) c.args.gates.now in
    let labels = c.args.labels.now in
    let nodes : List ℕ = nodes_of c.args.branches.now in
    on_ok c.add.result (λ e. then_lines c.args.sheet.now c.add_forks.new.sheet c.add.new.self (forks plan labels 1 (rest plan labels nodes)) (goto (begin_of labels 0) ∷ []) c.in_ok-add_forks.ensures e)
    (simp (c.goto.ensures, c.begin.ensures) at c.add.ensures.ok)
