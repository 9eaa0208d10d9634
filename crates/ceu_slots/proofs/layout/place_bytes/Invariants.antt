use Rattle.std.proofs.Common.{◌≡◌, ◌+◌, ◌-◌, ◌++◌}
use Rattle.ceu_slots.specs.Layout.{byte_places}
use Rattle.ceu_slots.proofs.layout.place_bytes.Given as goal

abbrev pub invariant-loop-k : goal.invariant-loop-k
invariant-loop-k l = l.initial.rows.items ++ byte_places l.slot l.at l.count ≡ l.rows.items ++ byte_places (l.slot + l.k) (l.at + l.k) (l.count - l.k)
