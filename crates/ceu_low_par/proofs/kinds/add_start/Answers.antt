use Rattle.std.proofs.Common.{ℕ, List}
use Rattle.ceu_shape.specs.Plans.{Plan}
use Rattle.ceu_low_par.specs.Conditions.{nodes_of, planned}
use Rattle.ceu_low_par.proofs.Adding.{first_moved}
use Rattle.ceu_low_par.proofs.kinds.add_start.Goals as goal

pub returns : goal.returns
returns g c =
    let plan : Plan = planned (g.P.Places.planned c.args.places.now) c.args.gates.now in
    let labels = c.args.labels.now in
    let nodes : List ℕ = nodes_of c.args.branches.now in
    rw (first_moved plan labels c.args.branches.now c.index-branches-0.result c.requires.some) (simp c.move_to.ensures at c.add_all.ensures)
