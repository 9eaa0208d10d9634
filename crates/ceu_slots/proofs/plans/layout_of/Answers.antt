use Rattle.std.proofs.Common.{arith}
use Rattle.std.proofs.lemmas.Grind.{common_steps}
use Rattle.ceu_slots.proofs.Between.{slots_parts, whole_reach}
use Rattle.ceu_slots.proofs.plans.layout_of.Goals as goal

pub place_codes-requires : goal.place_codes-requires
place_codes-requires c =
    let parts = slots_parts c.args.plain c.args.kernel.now in
    grind (arith, common_steps, parts.1, c.requires, c.items.ensures, c.new-frames.ensures.items)

pub offsets-requires : goal.offsets-requires
offsets-requires c =
    let far = whole_reach c.args.plain c.args.kernel.now in
    rw (c.deref-3.ensures.value, c.in_ok-total.ensures.rows) (omega (arith, far, c.requires))

pub sizes-requires : goal.sizes-requires
sizes-requires c =
    let far = whole_reach c.args.plain c.args.kernel.now in
    rw (c.deref-4.ensures.value, c.in_ok-total.ensures.rows) (omega (arith, far, c.requires))

pub shorts-requires : goal.shorts-requires
shorts-requires c =
    let parts = slots_parts c.args.plain c.args.kernel.now in
    grind (arith, common_steps, parts.1, c.requires, c.items.ensures, c.new-frames.ensures.items, c.deref-5.ensures.value, c.in_ok-place_codes.ensures.frames)
