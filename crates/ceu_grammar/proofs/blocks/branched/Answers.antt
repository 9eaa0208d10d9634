use Rattle.ceu_grammar.proofs.Others as other
use Rattle.ceu_grammar.proofs.Moved.{refused}
use Rattle.ceu_grammar.proofs.blocks.branched.Goals as goal

pub returns-in-FirstBranch : goal.returns-in-FirstBranch
returns-in-FirstBranch c = rw c.in-FirstBranch.is (rw c.new.ensures at c.branch_on.ensures)

pub returns-in-Branch : goal.returns-in-Branch
returns-in-Branch c = rw c.in-Branch.is (c.branch_on-in-Branch.ensures)

pub returns-in_default : goal.returns-in_default
returns-in_default c = refused _ _ _ c.refuse.ensures (other.of_with_body c.args.list c.args.closing c.args.stack.now c.in_default.not-FirstBranch c.in_default.not-Branch)
