use Rattle.std.proofs.Common.{◌≡◌, ◌≤◌, ◌-◌, ◌+◌, ◌*◌}
use Rattle.ceu_isa.specs.Layout.{end_of}
use Rattle.ceu_isa.specs.Pools.{free_place}
use Rattle.ceu_machine.proofs.spawns.free_place.Given as goal

abbrev pub invariant-loop-i : goal.invariant-loop-i
invariant-loop-i l = (free_place l.n l.size l.fn.at l.mem.bytes ≡ free_place (l.n - l.i) l.size l.at l.mem.bytes) × (l.at + (l.n - l.i) * l.size ≤ end_of l.image)
