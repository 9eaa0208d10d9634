use Rattle.std.proofs.Common.{refl, ap}
use Rattle.ceu_syntax.specs.Steps as spec
use Rattle.ceu_grammar.proofs.Moved.{refused, moves_as}
use Rattle.ceu_grammar.proofs.blocks.begins.Goals as goal

pub returns-in-Some : goal.returns-in-Some
returns-in-Some c = moves_as _ _ _ _ (ap (λ o. spec.headed o c.args.pos c.args.nodes c.args.stack.now) c.in-Some.ensures) c.pushed.ensures

pub returns-in-None : goal.returns-in-None
returns-in-None c = moves_as _ _ _ _ (ap (λ o. spec.headed o c.args.pos c.args.nodes c.args.stack.now) c.in-None.ensures) (refused _ _ _ c.refuse.ensures refl)
