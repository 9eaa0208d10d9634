use Rattle.ceu_spans.proofs.RangeHeads.{range_heads}
use Rattle.ceu_spans.proofs.ranges_turn.Goals as goal

pub returns : goal.returns
returns c = range_heads
