use Rattle.std.proofs.Common.{sym, arith}
use Rattle.ceu_machine.proofs.Opcodes.{no_reader}
use Rattle.ceu_machine.proofs.fetching.with_more_operands.Goals as goal

pub returns-in_default : goal.returns-in_default
returns-in_default c = sym (no_reader c.args.op c.args.code.now c.args.at (omega arith))
