use Rattle.std.proofs.Common.{refl}
use Rattle.ceu_tree.specs.declared.source.Do.{rolls-Do'}
use Rattle.ceu_tree.specs.declared.source.Range.{rolls-Range'}
use Rattle.ceu_grammar.proofs.Moved.{refused}
use Rattle.ceu_grammar.proofs.ends.body_end.Goals as goal

pub returns-in-Do : goal.returns-in-Do
returns-in-Do c = rw c.in-Do.is (simp rolls-Do' at c.do_end.ensures)

pub returns-in-Finalize : goal.returns-in-Finalize
returns-in-Finalize c = rw c.in-Finalize.is (c.closed.ensures)

pub returns-in-Arm : goal.returns-in-Arm
returns-in-Arm c = rw c.in-Arm.is (c.arm_closed.ensures)

pub returns-in-Else : goal.returns-in-Else
returns-in-Else c = rw c.in-Else.is (c.closed-in-Else.ensures)

pub returns-in-Loop : goal.returns-in-Loop
returns-in-Loop c = rw c.in-Loop.is (c.closed-in-Loop.ensures)

pub returns-in-Range : goal.returns-in-Range
returns-in-Range c = rw c.in-Range.is (simp rolls-Range' at c.closed-in-Range.ensures)

pub returns-in-Every : goal.returns-in-Every
returns-in-Every c = rw c.in-Every.is (c.closed-in-Every.ensures)

pub returns-in-Watching : goal.returns-in-Watching
returns-in-Watching c = rw c.in-Watching.is (c.closed-in-Watching.ensures)

pub returns-in-Branch : goal.returns-in-Branch
returns-in-Branch c = rw c.in-Branch.is (c.branch_closed.ensures)

pub returns-in-Async : goal.returns-in-Async
returns-in-Async c = rw c.in-Async.is (c.closed-in-Async.ensures)

pub returns-in-Code : goal.returns-in-Code
returns-in-Code c = rw c.in-Code.is (c.closed-in-Code.ensures)

pub returns-in-FirstBranch : goal.returns-in-FirstBranch
returns-in-FirstBranch c = rw c.in-FirstBranch.is (refused _ _ _ c.refuse.ensures refl)
