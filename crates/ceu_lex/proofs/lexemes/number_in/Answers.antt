use Rattle.std.proofs.Common.{refl, arith}
use Rattle.ceu_lex.proofs.Values.{overflows_at, fits_at, value_after, all_after}
use Rattle.ceu_lex.proofs.lexemes.number_in.Goals as goal

pub returns-in_default-checked_mul : goal.returns-in_default-checked_mul
returns-in_default-checked_mul c = overflows_at c.args.base c.loop-text.high _ c.loop-text.text.now _ c.requires.base.0 (omega arith) refl (omega (arith, c.in_default-checked_mul.ensures)) c.loop-text.invariant.same

pub returns-in_default-checked_add : goal.returns-in_default-checked_add
returns-in_default-checked_add c = overflows_at c.args.base c.loop-text.high _ c.loop-text.text.now _ c.requires.base.0 (omega arith) refl (omega (arith, c.in_default-checked_add.ensures, c.in-Some.ensures, c.digit.ensures.value)) c.loop-text.invariant.same

pub loop-text-preserved : goal.loop-text-preserved
loop-text-preserved c = record {
  same = value_after c.args.base c.loop-text.high c.in-Some-checked_add.next c.loop-text.text.now _ (omega arith) (omega (arith, c.in-Some-checked_add.ensures, c.in-Some.ensures, c.digit.ensures.value)) c.loop-text.invariant.same;
  digits = all_after _ c.loop-text.text.now (omega arith) c.loop-text.invariant.digits;
  small = omega (arith, c.in-Some-checked_add.ensures);
}

pub returns : goal.returns
returns c = fits_at c.args.base c.loop-text.high c.loop-text.text.now _ (omega arith) c.loop-text.invariant.small c.loop-text.invariant.same
