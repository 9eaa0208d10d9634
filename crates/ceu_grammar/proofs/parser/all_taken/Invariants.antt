use Rattle.std.proofs.Common.{◌≡◌, ◌≤◌, take, Some}
use Rattle.ceu_syntax.specs.Limits.{KeepsLimits, operator_count}
use Rattle.ceu_syntax.specs.Runs as spec
use Rattle.ceu_syntax.specs.Steps.{state}
use Rattle.ceu_syntax.specs.Terminals.{terminals}
use Rattle.ceu_grammar.proofs.parser.all_taken.Given as goal

abbrev pub invariant-loop-k : goal.invariant-loop-k
invariant-loop-k l = record {
  runs : spec.run (take l.k (terminals l.text l.tokens)) spec.begun ≡ Some (state l.stack l.mode);
  counted : l.operators ≡ operator_count (state l.stack l.mode);
  few : l.operators ≤ 256;
  kept : KeepsLimits (terminals l.text l.tokens) l.k;
}
