use Rattle.std.proofs.Common.{◌≡◌, ◌≤◌, ◌+◌, ◌-◌, length}
use Rattle.ceu_lex.specs.Positions.{position_of}
use Rattle.ceu_lex.specs.Texts.{ReadsTo}
use Rattle.ceu_lex.proofs.lexer.lex.Given as goal

abbrev pub invariant-loop-begin : goal.invariant-loop-begin
invariant-loop-begin l = record {
  read : ReadsTo l.text 0 l.tokens l.at;
  within : l.at ≤ length l.text;
  place : l.pos ≡ position_of l.text l.at;
  line : l.pos.line ≤ 1 + l.at;
  col : (1 ≤ l.pos.col) × (l.pos.col ≤ 1 + l.at);
}

abbrev pub decreases-loop-begin : goal.decreases-loop-begin
decreases-loop-begin l = length l.text - l.at
