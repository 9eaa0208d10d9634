use Rattle.std.proofs.Common.{◌+◌, ◌<◌, length, drop, ap, arith}
use Rattle.ceu_tree.specs.Needs.{frames_from, greatest_of}
use Rattle.ceu_slots.proofs.Walks.{next_item}
use Rattle.ceu_slots.proofs.Between.{frame_among}
use Rattle.ceu_slots.proofs.plans.place_codes.Goals as goal

pub place_code-requires : goal.place_code-requires
place_code-requires c =
    let below : c.loop-code.code-index < length c.args.codes.now = omega arith in
    let next = ap (λ l. greatest_of (frames_from c.args.plain c.loop-code.frames.items l)) (next_item c.args.codes.now c.loop-code.code-index c.code-item.result c.code-item.is below) in
    let among = frame_among c.args.plain c.loop-code.frames.items c.code-item.result (drop (c.loop-code.code-index + 1) c.args.codes.now) in
    let all = ap greatest_of c.loop-code.invariant.frames in
    rw c.deref.ensures.value (omega (arith, next, among, all, c.requires))
