use Rattle.std.proofs.Common.{List, [], ◌∷◌, ◌++◌}
use Rattle.ceu_code.specs.declared.instr.Instr.TheVariants as instr
use Rattle.ceu_asm.specs.declared.line.Line.{Line}
use Rattle.ceu_shape.specs.Plans.{Plan}
use Rattle.ceu_shape.specs.Words.{goto, mark, plain}
use Rattle.ceu_shape.specs.Flow.{keep}
use Rattle.ceu_shape.specs.Pools.{argument_lines}
use Rattle.ceu_low_pool.specs.Conditions.{planned}
use Rattle.ceu_low_pool.proofs.Adding.{on_ok, then_lines}
use Rattle.ceu_low_pool.proofs.statement.lower_call.Goals as goal

pub returns : goal.returns
returns g c =
    let plan : Plan = planned (g.P.Places.planned c.args.places.now) c.args.gates.now in
    let labels = c.args.labels.now in
    let own : List Line = mark labels.own ∷ [] in
    let arguments : List Line = argument_lines labels 0 c.args.arguments in
    let call : List Line = plain (instr.Call c.args.code (plan.offset c.args.frame) (plan.first c.args.node)) ∷ [] in
    let kept : List Line = keep plan.offset c.args.ty c.args.target in
    let last : List Line = goto labels.next ∷ [] in
    on_ok c.add-3.result (λ e. then_lines c.args.sheet.now c.add_arguments.new.sheet c.add-3.new.self (own ++ arguments) ((call ++ kept) ++ last)
    (then_lines c.args.sheet.now c.add.new.self c.add_arguments.new.sheet own arguments c.in_ok-add.ensures.ok c.in_ok-add_arguments.ensures)
    (then_lines c.add_arguments.new.sheet c.add_keep.new.sheet c.add-3.new.self (call ++ kept) last
    (then_lines c.add_arguments.new.sheet c.add-2.new.self c.add_keep.new.sheet call kept (simp (c.offset.ensures, c.items.ensures) at c.in_ok-add-2.ensures.ok) c.in_ok-add_keep.ensures) e))
    (simp c.goto.ensures at c.add-3.ensures.ok)
