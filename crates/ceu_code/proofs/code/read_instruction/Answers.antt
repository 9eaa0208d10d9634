use Rattle.std.proofs.Common.{◌<◌, ◌∙◌, sym, get_or, length, arith}
use Rattle.ceu_code.proofs.Numbers.{cut_at}
use Rattle.ceu_code.proofs.Codes.{instruction_ends, opcode_refused}
use Rattle.ceu_code.proofs.code.read_instruction.Goals as goal

pub returns-then-at-bytes-clause-refused : goal.returns-then-at-bytes-clause-refused
returns-then-at-bytes-clause-refused c = instruction_ends c.args.bytes.now c.args.at c.args.left c.requires.some (omega arith)

pub returns-in-None-clause-refused : goal.returns-in-None-clause-refused
returns-in-None-clause-refused c =
    let inside : c.args.at < length c.args.bytes.now = omega arith in
    opcode_refused c.args.bytes.now c.args.at c.args.left c.requires.some (get_or c.args.bytes.now c.args.at 0) inside (cut_at c.args.bytes.now c.args.at inside) (sym c.row_of.ensures ∙ c.in-None.is)
