use Rattle.std.proofs.Common.{◌<◌, ◌*◌, length, map, ap, sym, arith}
use Rattle.ceu_tree.specs.Greatest.{total}
use Rattle.ceu_paths.specs.Found.{seen}
use Rattle.ceu_paths.specs.declared.loops.FoundLoop.{FoundLoop}
use Rattle.ceu_bound.specs.Waking as spec
use Rattle.ceu_bound.proofs.WakeLaws.{seen_more}
use Rattle.ceu_bound.proofs.CodeTables.{take_end}
use Rattle.ceu_bound.proofs.emissions.add_wakes.Goals as goal

pub loop-found-init : goal.loop-found-init
loop-found-init c = λ T e. omega arith

pub loop-found-preserved : goal.loop-found-preserved
loop-found-preserved c = λ T e.
    let below : c.loop-found.found-index < length c.args.loops.now = omega arith in
    let more = seen_more (spec.loop_cost T e) c.args.loops.now c.loop-found.found-index c.found-item.result below in
    let here = ap (λ (l : FoundLoop). spec.loop_cost T e (seen l)) (sym c.found-item.is) in
    let whole = ap (λ k. spec.copies c.args.events.now c.args.code c.args.instances e * k) more in
    let part = ap (λ k. spec.copies c.args.events.now c.args.code c.args.instances e * k) here in
    omega (arith, whole, part, c.loop-found.invariant T e, c.in_ok-add_wake.ensures T e)

pub returns : goal.returns
returns c = λ T e. omega (arith, c.loop-found.invariant T e, ap (λ ls. spec.copies c.args.events.now c.args.code c.args.instances e * total (spec.loop_cost T e) (map seen ls)) (take_end c.loop-found.found-index c.args.loops.now c.loop-found-test.false))
