use Rattle.std.proofs.Common.{◌≡◌, ◌+◌, ◌≤◌, length}
use Rattle.ceu_lex.specs.Gaps.{gap_from}
use Rattle.ceu_lex.specs.declared.gaps.Part.TheVariants.{Plain}
use Rattle.ceu_lex.proofs.gaps.past_gap.Given as goal

abbrev pub invariant-loop-bytes : goal.invariant-loop-bytes
invariant-loop-bytes l = record {
  same : gap_from l.part l.opened l.at l.bytes ≡ gap_from Plain l.from l.from l.initial.bytes;
  within : l.at + length l.bytes ≡ l.from + length l.initial.bytes;
  from : l.from ≤ l.at;
  opened_from : l.from ≤ l.opened;
  opened_within : l.opened ≤ l.at;
}

abbrev pub decreases-loop-bytes : goal.decreases-loop-bytes
decreases-loop-bytes l = length l.bytes
