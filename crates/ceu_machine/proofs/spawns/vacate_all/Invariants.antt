use Rattle.std.proofs.Common.{◌≡◌, ◌≤◌, ◌-◌, ◌+◌, ◌*◌}
use Rattle.ceu_isa.specs.Layout.{end_of}
use Rattle.ceu_isa.specs.Pools.{vacancies, place_size}
use Rattle.ceu_machine.specs.Holding.{IsMachine}
use Rattle.ceu_machine.proofs.spawns.vacate_all.Given as goal

abbrev pub invariant-loop-i : goal.invariant-loop-i
invariant-loop-i l =
    (vacancies (l.n - l.i) l.pool l.row l.first l.at l.mem.bytes ≡ vacancies l.n l.pool l.row l.fn.first l.fn.at l.fn.mem.bytes)
    × IsMachine l.image l.mem × (l.at + (l.n - l.i) * place_size l.row ≤ end_of l.image) × (l.first + (l.n - l.i) * l.row.gates ≤ l.image.gates)
