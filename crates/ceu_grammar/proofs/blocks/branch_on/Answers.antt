use Rattle.std.proofs.Common.{ap}
use Rattle.ceu_syntax.specs.Steps as spec
use Rattle.ceu_syntax.specs.declared.machine.Body.TheVariants as open_body
use Rattle.ceu_grammar.proofs.Moved.{moves_as}
use Rattle.ceu_grammar.proofs.blocks.branch_on.Goals as goal

pub returns-in-Ok : goal.returns-in-Ok
returns-in-Ok c = moves_as _ _ _ _ (ap (λ l. spec.opened (open_body.Branch c.args.kind l) c.args.stack.now) c.in-Ok.ensures) c.opened.ensures
