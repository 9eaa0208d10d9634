use Rattle.std.proofs.Common.{List, [], ◌∷◌, ◌++◌}
use Rattle.ceu_code.specs.declared.instr.Instr.TheVariants as instr
use Rattle.ceu_asm.specs.declared.line.Line.{Line}
use Rattle.ceu_shape.specs.Plans.{Plan}
use Rattle.ceu_shape.specs.Words.{goto, mark, move_to, plain}
use Rattle.ceu_shape.specs.Pools.{alias_offset, argument_lines}
use Rattle.ceu_low_pool.specs.Conditions.{planned}
use Rattle.ceu_low_pool.proofs.Adding.{on_ok, then_lines}
use Rattle.ceu_low_pool.proofs.statement.add_spawn.Goals as goal

pub returns : goal.returns
returns g c =
    let plan : Plan = planned (g.P.Places.planned c.args.places.now) c.args.gates.now in
    let labels = c.args.labels.now in
    let start : List Line = mark labels.own ∷ move_to plan c.args.node ∷ [] in
    let arguments : List Line = argument_lines labels 0 c.args.arguments in
    let last : List Line = plain (instr.Spawn c.args.code (plan.offset c.args.pool) c.args.size (alias_offset plan c.args.alias) c.args.position) ∷ goto labels.next ∷ [] in
    on_ok c.add_all-2.result (λ e. then_lines c.args.sheet.now c.add_arguments.new.sheet c.add_all-2.new.sheet (start ++ arguments) last
    (then_lines c.args.sheet.now c.add_all.new.sheet c.add_arguments.new.sheet start arguments (simp c.move_to.ensures at c.in_ok-add_all.ensures) c.in_ok-add_arguments.ensures) e)
    (simp (c.offset-place.ensures, c.alias_offset-other.ensures, c.goto.ensures) at c.add_all-2.ensures)
