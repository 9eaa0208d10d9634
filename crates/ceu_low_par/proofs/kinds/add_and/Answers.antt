use Rattle.std.proofs.Common.{ℕ, ◌+◌, List, [], ◌∷◌, ◌++◌}
use Rattle.ceu_code.specs.declared.instr.Instr.TheVariants as instr
use Rattle.ceu_asm.specs.declared.line.Line.{Line}
use Rattle.ceu_shape.specs.Plans.{Plan}
use Rattle.ceu_shape.specs.Words.{goto, mark, plain}
use Rattle.ceu_shape.specs.Par.{move_to_first, forked, cleared, set_ends, tests}
use Rattle.ceu_low_par.specs.Conditions.{nodes_of, planned}
use Rattle.ceu_low_par.proofs.Adding.{on_ok, then_lines}
use Rattle.ceu_low_par.proofs.kinds.add_and.Goals as goal

pub returns : goal.returns
returns g c =
    let plan : Plan = planned (g.P.Places.planned c.args.places.now) c.args.gates.now in
    let labels = c.args.labels.now in
    let nodes : List ℕ = nodes_of c.args.branches.now in
    let slot = c.args.slot in
    let join = c.args.join in
    let start : List Line = mark labels.own ∷ move_to_first plan labels nodes in
    let bytes : List Line = cleared plan labels slot nodes in
    let others : List Line = forked plan labels nodes in
    let set : List Line = set_ends plan labels 0 slot join nodes in
    let last : List Line = (mark join ∷ tests plan labels slot (join + 1) nodes) ++ (goto labels.next ∷ mark (join + 1) ∷ plain instr.Halt ∷ []) in
    on_ok c.add_join.result (λ e. then_lines c.args.sheet.now c.add_start.new.sheet c.add_join.new.sheet start (bytes ++ (others ++ (set ++ last))) c.in_ok-add_start.ensures
    (then_lines c.add_start.new.sheet c.add_cleared.new.sheet c.add_join.new.sheet bytes (others ++ (set ++ last)) c.in_ok-add_cleared.ensures
    (then_lines c.add_cleared.new.sheet c.add_forked.new.sheet c.add_join.new.sheet others (set ++ last) c.in_ok-add_forked.ensures
    (then_lines c.add_forked.new.sheet c.add_set_ends.new.sheet c.add_join.new.sheet set last c.in_ok-add_set_ends.ensures e)))) c.add_join.ensures
