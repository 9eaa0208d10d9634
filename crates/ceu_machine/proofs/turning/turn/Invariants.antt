use Rattle.ceu_isa.specs.Turns.{longest_turn}
use Rattle.ceu_machine.specs.States.{state_of}
use Rattle.ceu_machine.proofs.Ticks.{left}
use Rattle.ceu_machine.proofs.Turns.{SoFar}
use Rattle.ceu_machine.proofs.turning.turn.Given as goal

abbrev pub invariant-loop-mem : goal.invariant-loop-mem
invariant-loop-mem g l = SoFar g.W.MarkSink.notes g.W.MarkSink.faults l.image l.gate l.fn.mem.bytes l.fn.out l.state l.mem l.out

abbrev pub decreases-loop-mem : goal.decreases-loop-mem
decreases-loop-mem g l = left l.image longest_turn (state_of l.state l.mem.bytes)
