use Rattle.std.proofs.Common.{◌≡◌, ◌<◌, ◌-◌, ◌+◌, None}
use Rattle.std.specs.Prelude.{IfSome}
use Rattle.ceu_isa.specs.Layout.{gates_from}
use Rattle.ceu_machine.specs.Ordering.{ahead, wants}
use Rattle.ceu_machine.proofs.Scans.{scan, Among}
use Rattle.ceu_machine.proofs.choosing.pick.Given as goal

abbrev pub invariant-loop-i : goal.invariant-loop-i
invariant-loop-i l =
    (scan (ahead l.image l.mem.bytes l.last) l.best (gates_from l.image l.mem.bytes (wants l.wanted) (l.from + l.i) (l.n - l.i)) ≡ scan (ahead l.image l.mem.bytes l.last) None (gates_from l.image l.mem.bytes (wants l.wanted) l.from l.n))
    × IfSome l.best (λ b. (b < l.from + l.i) × Among b (gates_from l.image l.mem.bytes (wants l.wanted) l.from l.n))
