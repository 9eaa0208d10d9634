use Rattle.std.proofs.Common.{ap}
use Rattle.ceu_syntax.specs.Steps as spec
use Rattle.ceu_tree.specs.declared.source.Stmt as stmt
use Rattle.ceu_grammar.proofs.Moved.{moves_as}
use Rattle.ceu_grammar.proofs.ends.branch_closed.Goals as goal

pub returns-in-Ok : goal.returns-in-Ok
returns-in-Ok c = moves_as _ _ _ _ (ap (λ l. spec.closed (stmt.Par c.args.kind l) c.args.stack.now) c.in-Ok.ensures) c.closed.ensures
