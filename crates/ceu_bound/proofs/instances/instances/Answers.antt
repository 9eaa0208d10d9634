use Rattle.std.proofs.Common.{◌≡◌, ◌∙◌, ◌<◌, ◌+◌, ◌-◌, length, get_or, ap, sym, arith}
use Rattle.ceu_tree.specs.Costs.{instances_from}
use Rattle.ceu_paths.specs.Cap.{cap}
use Rattle.ceu_bound.proofs.InstanceLaws.{held_from, instances_length, instances_step, map_by_get}
use Rattle.ceu_bound.proofs.instances.instances.Goals as goal

pub loop-left-preserved : goal.loop-left-preserved
loop-left-preserved c =
    let main = c.args.kernel.now.body in
    let codes = c.args.kernel.now.codes in
    let left = c.loop-left.left in
    let some : 0 < left = omega (arith, c.loop-left-test.true) in
    let next : left - 1 + 1 ≡ left = omega (arith, some) in
    let below : left - 1 < length codes = omega (arith, some, c.loop-left.invariant.0) in
    let seen = c.items-codes.result.now in
    let body = get_or seen (left - 1) c.index-codes-left.result in
    let at : body ≡ get_or codes (left - 1) body = cc (c.index-codes-left.is, c.items-codes.ensures) in
    let step = instances_step main codes (left - 1) body c.loop-left.counts.items c.capped-holders.new.counts.items c.add_body-in-loop-left.new.counts.items c.capped-holders.result below
    (λ j h. c.loop-left.invariant.2 j (omega (arith, h, next)) ∙ ap (λ m. cap (held_from main codes j m)) (sym next))
    (λ j h w. c.loop-left.invariant.3 j (omega (arith, h, next)) w)
    c.capped-holders.ensures.result c.capped-holders.ensures.other c.capped-holders.ensures.same
    c.in_ok-add_body-2.ensures.above
    (λ j h. c.in_ok-add_body-2.ensures.each j h (omega (arith, h, below, c.loop-left.invariant.1, c.capped-holders.ensures.len)))
    at in
    (omega (arith, c.loop-left.invariant.0), omega (arith, c.loop-left.invariant.1, c.capped-holders.ensures.len, c.in_ok-add_body-2.ensures.len), step.0, step.1)

pub returns : goal.returns
returns c =
    map_by_get c.loop-left.counts.items (instances_from c.args.kernel.now.body 0 c.args.kernel.now.codes)
    (omega (arith, c.loop-left.invariant.1, instances_length c.args.kernel.now.body 0 c.args.kernel.now.codes))
    (λ j w. c.loop-left.invariant.3 j (omega (arith, c.loop-left-test.false)) (omega (arith, w, instances_length c.args.kernel.now.body 0 c.args.kernel.now.codes)))
