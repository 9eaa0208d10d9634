use Rattle.std.proofs.Common.{◌<◌, ◌≤◌, get_or, arith}
use Rattle.std.proofs.lemmas.Result.{IfErr-weaker, IfOk-weaker}
use Rattle.ceu_code.specs.Table.{operands, operands_width}
use Rattle.ceu_code.proofs.Numbers.{cut_at}
use Rattle.ceu_code.proofs.Codes.{width_refused, behind_refused, behind_read}
use Rattle.ceu_code.proofs.code.read_behind.Goals as goal

pub returns-then-operands_width-left-clause-refused : goal.returns-then-operands_width-left-clause-refused
returns-then-operands_width-left-clause-refused c =
    let wide : c.args.left ≤ operands_width (operands c.args.row.now) = omega (arith, c.operands_width.ensures.value) in
    width_refused c.args.bytes.now c.args.at c.args.left c.requires.some (get_or c.args.bytes.now c.args.at 0) c.requires.inside (cut_at c.args.bytes.now c.args.at c.requires.inside) c.args.row.now c.requires.known wide

pub returns-clause-ok : goal.returns-clause-ok
returns-clause-ok c =
    let fits : operands_width (operands c.args.row.now) < c.args.left = omega (arith, c.operands_width.ensures.value) in
    IfOk-weaker c.read_operands.result _ _ (λ next r. behind_read c.args.bytes.now c.args.at c.args.left c.requires.some (get_or c.args.bytes.now c.args.at 0) c.requires.inside (cut_at c.args.bytes.now c.args.at c.requires.inside) c.args.row.now c.requires.known next fits r) c.read_operands.ensures.ok

pub returns-clause-refused : goal.returns-clause-refused
returns-clause-refused c =
    let fits : operands_width (operands c.args.row.now) < c.args.left = omega (arith, c.operands_width.ensures.value) in
    IfErr-weaker c.read_operands.result _ _ (λ e r. behind_refused c.args.bytes.now c.args.at c.args.left c.requires.some (get_or c.args.bytes.now c.args.at 0) c.requires.inside (cut_at c.args.bytes.now c.args.at c.requires.inside) c.args.row.now c.requires.known e fits r) c.read_operands.ensures.refused
