use Rattle.ceu_spans.proofs.RangeStarts.{range_begins}
use Rattle.ceu_spans.proofs.ranges_begin.Goals as goal

pub returns : goal.returns
returns c = range_begins
