use Rattle.std.proofs.Common.{ℕ, ◌+◌, List, [], ◌∷◌}
use Rattle.ceu_code.specs.declared.instr.Instr.TheVariants as instr
use Rattle.ceu_asm.specs.declared.line.Line.{Line}
use Rattle.ceu_shape.specs.Plans.{Plan}
use Rattle.ceu_shape.specs.Words.{goto, mark, plain}
use Rattle.ceu_shape.specs.Par.{tests}
use Rattle.ceu_low_par.specs.Conditions.{nodes_of, planned}
use Rattle.ceu_low_par.proofs.Adding.{on_ok, then_lines}
use Rattle.ceu_low_par.proofs.kinds.add_join.Goals as goal

pub returns : goal.returns
returns g c =
    let plan : Plan = planned (g.P.Places.planned c.args.places.now) c.args.gates.now in
    let labels = c.args.labels.now in
    let nodes : List ℕ = nodes_of c.args.branches.now in
    let join = c.args.join in
    let all : List Line = tests plan labels c.args.slot (join + 1) nodes in
    let last : List Line = goto labels.next ∷ mark (join + 1) ∷ plain instr.Halt ∷ [] in
    on_ok c.add_all.result (λ e. then_lines c.args.sheet.now c.add_tests.new.sheet c.add_all.new.sheet (mark join ∷ all) last
    (then_lines c.args.sheet.now c.add.new.self c.add_tests.new.sheet (mark join ∷ []) all c.in_ok-add.ensures.ok c.in_ok-add_tests.ensures) e)
    (simp c.goto.ensures at c.add_all.ensures)
