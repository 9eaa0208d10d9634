use Rattle.laws_meaning_counters.proofs.RangesRuns.{done_kept}
use Rattle.laws_meaning_counters.proofs.command_in_range.Goals as goal

pub returns : goal.returns
returns c = λ K n x c h. done_kept K n x c h
