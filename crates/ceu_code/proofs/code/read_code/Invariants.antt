use Rattle.std.proofs.Common.{◌≡◌, ◌+◌}
use Rattle.std.specs.Prelude.{slice_range}
use Rattle.ceu_code.specs.Table.{IsCode}
use Rattle.ceu_code.specs.Reading.{Reads, Word}
use Rattle.ceu_code.proofs.code.read_code.Given as goal

abbrev pub invariant-loop-left : goal.invariant-loop-left
invariant-loop-left l = record {
  read : Reads (Word IsCode) l.bytes l.at (slice_range l.bytes l.at l.next) l.next;
  total : l.next + l.left ≡ l.at + l.count;
}

abbrev pub decreases-loop-left : goal.decreases-loop-left
decreases-loop-left l = l.left
