use Rattle.ceu_grammar.proofs.Others as other
use Rattle.ceu_grammar.proofs.Moved.{refused}
use Rattle.ceu_grammar.proofs.blocks.alternated.Goals as goal

pub returns-in-Arm : goal.returns-in-Arm
returns-in-Arm c K = rw c.in-Arm.is (c.arm_on.ensures K)

pub returns-in_default : goal.returns-in_default
returns-in_default c K = refused _ _ _ c.refuse.ensures (other.of_else_body c.args.list c.args.closing K c.in_default.not-Arm)
