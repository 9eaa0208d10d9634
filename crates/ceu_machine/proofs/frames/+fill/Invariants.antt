use Rattle.std.proofs.Common.{length}
use Rattle.ceu_machine.proofs.frames.+fill.Given as goal

abbrev pub decreases-fill : goal.decreases-fill
decreases-fill l = length l.params.now
