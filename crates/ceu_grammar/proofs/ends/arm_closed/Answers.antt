use Rattle.std.proofs.Common.{ap, None}
use Rattle.ceu_syntax.specs.Steps as spec
use Rattle.ceu_tree.specs.declared.source.Stmt as stmt
use Rattle.ceu_tree.specs.declared.source.Arm.{rolls-Arm'}
use Rattle.ceu_grammar.proofs.Moved.{moves_as}
use Rattle.ceu_grammar.proofs.ends.arm_closed.Goals as goal

pub returns-in-Ok : goal.returns-in-Ok
returns-in-Ok c = let e = simp rolls-Arm' at c.in-Ok.ensures in moves_as _ _ _ _ (ap (λ l. spec.closed (stmt.If l None) c.args.stack.now) e) c.closed.ensures
