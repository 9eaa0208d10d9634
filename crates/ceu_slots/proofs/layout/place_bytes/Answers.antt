use Rattle.std.proofs.Common.{◌+◌, ◌-◌, ◌<◌, ◌∷◌, ◌++◌, [], arith}
use Rattle.ceu_slots.specs.Layout.{place, byte_places}
use Rattle.ceu_slots.proofs.Walks.{goes_on, bytes_next}
use Rattle.ceu_slots.proofs.layout.place_bytes.Goals as goal

pub loop-k-preserved : goal.loop-k-preserved
loop-k-preserved c =
    let below : c.loop-k.k < c.args.count = omega arith in
    let step = c.in_ok-push.ensures.items in
    goes_on (c.args.rows.now.items ++ byte_places c.args.slot c.args.at c.args.count) c.loop-k.rows.items c.push.new.self.items (place (c.args.slot + c.loop-k.k) (c.args.at + c.loop-k.k) 1 ∷ [])
    (byte_places (c.args.slot + (c.loop-k.k + 1)) (c.args.at + (c.loop-k.k + 1)) (c.args.count - (c.loop-k.k + 1))) (byte_places (c.args.slot + c.loop-k.k) (c.args.at + c.loop-k.k) (c.args.count - c.loop-k.k))
    (bytes_next c.args.slot c.args.at c.loop-k.k c.args.count below) c.loop-k.invariant (rw c.from.ensures at step)
