use Rattle.std.proofs.Common.{arith}
use Rattle.ceu_lex.proofs.Values.{all_after}
use Rattle.ceu_lex.proofs.Limits.{more-digits, no-digits, capped_le}
use Rattle.ceu_lex.proofs.times.value.Goals as goal

pub loop-text-preserved : goal.loop-text-preserved
loop-text-preserved c = record {
  same = more-digits c.loop-text.high c.digit.result c.saturating_add.result c.capped-high.result c.loop-text.text.now _ (omega arith) c.digit.ensures.value (omega (arith, c.saturating_add.ensures, c.saturating_mul.ensures)) c.capped-high.ensures c.loop-text.invariant.same;
  small = capped_le c.capped-high.result c.saturating_add.result c.capped-high.ensures;
  digits = all_after _ c.loop-text.text.now (omega arith) c.loop-text.invariant.digits;
}

pub returns : goal.returns
returns c = no-digits c.loop-text.high c.loop-text.text.now _ (omega arith) c.loop-text.invariant.small c.loop-text.invariant.same
