use Rattle.std.proofs.Common.{◌<◌, refl, subst, sym}
use Rattle.ceu_syntax.specs.Steps.{state}
use Rattle.ceu_grammar.proofs.Finalizes.{other_truth}
use Rattle.ceu_grammar.proofs.parser.judged.Goals as goal

pub returns-then-is_deep : goal.returns-then-is_deep
returns-then-is_deep c = (state c.args.stack.now c.args.next, refl, c.is_deep.ensures.0 c.if-is_deep.true)

pub returns-then-is_long : goal.returns-then-is_long
returns-then-is_long c = (
  state c.args.stack.now c.args.next,
  refl,
  subst (λ n. 256 < n) c.requires (c.is_long.ensures.0 c.if-is_long.true),
  (λ deep. other_truth (c.is_deep.ensures.1 deep) c.if-is_deep.false),
)

pub returns-else-is_long : goal.returns-else-is_long
returns-else-is_long c = (
  refl,
  c.requires,
  (λ deep. other_truth (c.is_deep.ensures.1 deep) c.if-is_deep.false),
  (λ long. other_truth (c.is_long.ensures.1 (subst (λ n. 256 < n) (sym c.requires) long)) c.if-is_long.false),
)
