use Rattle.std.proofs.Common.{ℕ, List}
use Rattle.ceu_asm.specs.declared.line.Line.{Line}
use Rattle.ceu_shape.specs.Plans.{Plan}
use Rattle.ceu_shape.specs.Async.{finalizer_lines}
use Rattle.ceu_shape.proofs.Adding.{added_placed}
use Rattle.ceu_low_par.specs.Conditions.{planned}
use Rattle.ceu_low_par.proofs.Adding.{on_ok}
use Rattle.ceu_low_par.proofs.statement.lower_finalizer.Goals as goal

pub returns : goal.returns
returns g c =
    let plan : Plan = planned (g.P.Places.planned c.args.places.now) c.args.gates.now in
    let lines : ℕ → List Line = λ (position : ℕ). finalizer_lines plan c.args.node position c.args.labels.now in
    on_ok c.add_all.result (λ e. added_placed c.args.sheet.now c.place.new.self c.add_all.new.sheet c.args.pos lines c.in_ok-position.position c.in_ok-position.ensures.number c.in_ok-position.ensures.ok e)
    (simp (c.items.ensures, c.begin.ensures, c.goto.ensures, c.end.ensures) at c.add_all.ensures)
