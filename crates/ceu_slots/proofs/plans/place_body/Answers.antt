use Rattle.std.proofs.Common.{arith}
use Rattle.std.proofs.lemmas.Grind.{common_steps}
use Rattle.ceu_slots.proofs.Between.{slots_parts, whole_slots, whole_places}
use Rattle.ceu_slots.proofs.plans.place_body.Goals as goal

pub place_block-requires : goal.place_block-requires
place_block-requires c = let parts = slots_parts c.args.plain c.args.kernel.now in rw c.requires.frames (omega (arith, parts.0, c.requires.fits))

pub overflow_cast-result : goal.overflow_cast-result
overflow_cast-result c =
    let whole = whole_slots c.args.plain c.args.kernel.now in
    grind (arith, common_steps, whole, c.requires.frames, c.requires.fits, c.in_ok-size.ensures.size, c.greatest.ensures, c.max.ensures)

pub returns-clause-total : goal.returns-clause-total
returns-clause-total c =
    let whole = whole_slots c.args.plain c.args.kernel.now in
    grind (arith, common_steps, whole, c.requires.frames, c.in_ok-size.ensures.size, c.greatest.ensures, c.max.ensures)

pub returns-clause-rows : goal.returns-clause-rows
returns-clause-rows c =
    let whole = whole_places c.args.plain c.args.kernel.now in
    grind (arith, common_steps, whole, c.requires.frames, c.requires.bodies, c.requires.empty, c.in_ok-size.ensures.rows, c.in_ok-extend_from_slice.ensures.items)
