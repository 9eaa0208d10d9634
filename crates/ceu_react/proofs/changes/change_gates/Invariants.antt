use Rattle.std.proofs.Common.{◌≡◌}
use Rattle.ceu_isa.specs.Layout.{each_gate}
use Rattle.ceu_machine.specs.Holding.{IsMachine}
use Rattle.ceu_react.specs.Changes.{affects, changed_by}
use Rattle.ceu_react.proofs.changes.change_gates.Given as goal

abbrev pub invariant-loop-g : goal.invariant-loop-g
invariant-loop-g l = (l.mem.bytes ≡ each_gate l.image (affects l.change) (changed_by l.change) l.g l.fn.mem.bytes) × IsMachine l.image l.mem
