use Rattle.std.proofs.Common.{◌≡◌, ◌∙◌, ◌<◌, ◌+◌, ◌*◌, length, get_or, ap, sym, add-one, arith}
use Rattle.ceu_tree.specs.declared.kernel.KCode.{KCode}
use Rattle.ceu_bound.specs.Waking as spec
use Rattle.ceu_bound.proofs.WakeLaws.{codes_more}
use Rattle.ceu_bound.proofs.emissions.codes_wakes.Goals as goal

pub loop-code-preserved : goal.loop-code-preserved
loop-code-preserved c = λ T e.
    let below : c.loop-code.code < length c.args.codes.now = omega (arith, c.loop-code-test.true) in
    let more = codes_more T e c.args.events.now 0 c.args.codes.now c.args.instances.now c.loop-code.code c.index-codes-code.result below c.requires in
    let zero : 0 + c.loop-code.code ≡ c.loop-code.code = omega arith in
    let place =
    ap (λ m. spec.copies c.args.events.now m (get_or c.args.instances.now c.loop-code.code 0) e * spec.body_cost T e (get_or c.args.codes.now c.loop-code.code c.index-codes-code.result).body) zero ∙
    ap (λ (k : KCode). spec.copies c.args.events.now c.loop-code.code (get_or c.args.instances.now c.loop-code.code 0) e * spec.body_cost T e k.body) (sym c.index-codes-code.is) in
    rw add-one (omega (arith, more, place, c.loop-code.invariant T e, c.in_ok-body_wakes.ensures T e))
