use Rattle.std.proofs.Common.{◌≡◌, ◌≤◌, ◌+◌, length}
use Rattle.ceu_lex.specs.Positions.{pos_after}
use Rattle.ceu_grammar.proofs.terminal.pos_after.Given as goal

abbrev pub invariant-loop-bytes : goal.invariant-loop-bytes
invariant-loop-bytes l = record {
  same : pos_after l.pos l.bytes ≡ pos_after l.fn.from l.initial.bytes;
  line : l.pos.line + length l.bytes ≤ l.fn.from.line + length l.initial.bytes;
  col : (1 ≤ l.pos.col) × (l.pos.col + length l.bytes ≤ l.fn.from.col + length l.initial.bytes);
}

abbrev pub decreases-loop-bytes : goal.decreases-loop-bytes
decreases-loop-bytes l = length l.bytes
