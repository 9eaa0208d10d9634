use Rattle.std.proofs.Common.{ap}
use Rattle.ceu_syntax.specs.Steps as spec
use Rattle.ceu_grammar.proofs.Moved.{moves_as}
use Rattle.ceu_grammar.proofs.expressions.starts.Goals as goal

pub returns-in-Some : goal.returns-in-Some
returns-in-Some c = moves_as _ _ _ _ (ap (λ o. spec.starts_with o c.args.kind c.args.pos c.args.stack.now) c.in-Some.ensures) c.pushed.ensures

pub returns-in-None : goal.returns-in-None
returns-in-None c = moves_as _ _ _ _ (ap (λ o. spec.starts_with o c.args.kind c.args.pos c.args.stack.now) c.in-None.ensures) c.operand.ensures
