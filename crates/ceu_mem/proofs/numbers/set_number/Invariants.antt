use Rattle.std.proofs.Common.{◌≡◌, ◌-◌, ◌+◌}
use Rattle.ceu_mem.specs.Bytes.{with_number}
use Rattle.ceu_mem.proofs.numbers.set_number.Given as goal

abbrev pub invariant-loop-i : goal.invariant-loop-i
invariant-loop-i l = with_number (l.width - l.i) l.rest l.bytes (l.at + l.i) ≡ with_number l.width l.fn.number l.fn.bytes l.at
