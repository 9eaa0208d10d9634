use Rattle.std.proofs.Common.{ℕ, List}
use Rattle.ceu_asm.specs.declared.line.Line.{Line}
use Rattle.ceu_shape.specs.Plans.{Plan}
use Rattle.ceu_shape.specs.Pools.{spawn_lines}
use Rattle.ceu_shape.specs.Searches.{pool_size}
use Rattle.ceu_shape.proofs.Adding.{added_placed, added_placed_stopping}
use Rattle.ceu_low_pool.specs.Conditions.{planned}
use Rattle.ceu_low_pool.proofs.Adding.{on_ok}
use Rattle.ceu_low_pool.proofs.statement.lower_spawn.Goals as goal

pub returns : goal.returns
returns g c =
    let plan : Plan = planned (g.P.Places.planned c.args.places.now) c.args.gates.now in
    let a = c.args in
    let size = pool_size a.kernel.now a.pool in
    let lines : ℕ → List Line = λ (position : ℕ). spawn_lines plan a.node a.code a.arguments a.pool size a.alias position a.labels.now in
    on_ok c.add_spawn.result (λ e. added_placed_stopping a.sheet.now c.add_spawn.new.sheet _ a.pos lines
    (added_placed a.sheet.now c.place.new.self c.add_spawn.new.sheet a.pos lines c.in_ok-position.position c.in_ok-position.ensures.number c.in_ok-position.ensures.ok e))
    (simp c.pool_size-size.ensures at c.add_spawn.ensures)
