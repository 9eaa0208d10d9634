use Rattle.std.proofs.Common.{arith}
use Rattle.std.proofs.lemmas.Grind.{common_steps}
use Rattle.ceu_gates.proofs.Within.{parts_within, whole_ranges}
use Rattle.ceu_gates.proofs.plan.place_all.Goals as goal

pub place_codes-requires : goal.place_codes-requires
place_codes-requires c = let within = (parts_within c.args.kernel.now c.requires).1 in grind (arith, common_steps, within, c.items.ensures, c.new-gates.ensures.items)

pub place_block-requires : goal.place_block-requires
place_block-requires c =
    let within = (parts_within c.args.kernel.now c.requires).0 in
    grind (arith, common_steps, within, c.items.ensures, c.new-gates.ensures.items, c.deref.ensures.value, c.in_ok-place_codes.ensures.gates)

pub returns : goal.returns
returns c =
    let whole = whole_ranges c.args.kernel.now in
    grind (
      arith,
      common_steps,
      whole,
      c.items.ensures,
      c.new-gates.ensures.items,
      c.new-bodies.ensures.items,
      c.new-rows.ensures.items,
      c.deref.ensures.value,
      c.deref-2.ensures.value,
      c.in_ok-place_codes.ensures.gates,
      c.in_ok-place_codes.ensures.rows,
      c.in_ok-place_block.ensures.rows,
      c.in_ok-extend_from_slice.ensures.items,
    )
