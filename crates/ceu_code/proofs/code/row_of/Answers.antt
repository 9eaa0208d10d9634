use Rattle.std.proofs.Common.{None}
use Rattle.ceu_code.specs.Table.{row_of, table}
use Rattle.ceu_code.proofs.Codes.{row_there, row_past}
use Rattle.ceu_code.proofs.code.row_of.Goals as goal

pub returns-then-opcode-lt39 : goal.returns-then-opcode-lt39
unfolding row_of table
returns-then-opcode-lt39 c = row_there table c.args.opcode None c.if-opcode-lt39.true

pub returns-else-opcode-lt39 : goal.returns-else-opcode-lt39
unfolding row_of table
returns-else-opcode-lt39 c = row_past table c.args.opcode c.if-opcode-lt39.false
