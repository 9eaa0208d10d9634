use Rattle.std.proofs.Common.{◌<◌, get_or, length, arith}
use Rattle.std.proofs.lemmas.Result.{IfOk-weaker, IfErr-weaker}
use Rattle.ceu_code.proofs.Numbers.{cut_at}
use Rattle.ceu_code.proofs.Ports.{name_ends, name_refuses, name_refused, name_read}
use Rattle.ceu_code.proofs.row.read_name.Goals as goal

pub returns-then-at-bytes-clause-refused : goal.returns-then-at-bytes-clause-refused
returns-then-at-bytes-clause-refused c = name_ends c.args.behind c.args.bytes.now c.args.at (omega arith)

pub returns-then-not-is_capital-clause-refused : goal.returns-then-not-is_capital-clause-refused
returns-then-not-is_capital-clause-refused c =
    let inside : c.args.at < length c.args.bytes.now = omega arith in
    name_refuses c.args.behind c.args.bytes.now c.args.at (get_or c.args.bytes.now c.args.at 0) inside (cut_at c.args.bytes.now c.args.at inside) (grind arith)

pub returns-clause-ok : goal.returns-clause-ok
returns-clause-ok c =
    let inside : c.args.at < length c.args.bytes.now = omega arith in
    IfOk-weaker c.read_name_bytes.result _ _ (λ next r. name_read c.args.behind c.args.bytes.now c.args.at (get_or c.args.bytes.now c.args.at 0) next (cut_at c.args.bytes.now c.args.at inside) (grind arith) r) c.read_name_bytes.ensures.ok

pub returns-clause-refused : goal.returns-clause-refused
returns-clause-refused c =
    let inside : c.args.at < length c.args.bytes.now = omega arith in
    IfErr-weaker c.read_name_bytes.result _ _ (λ e r. name_refused c.args.behind c.args.bytes.now c.args.at (get_or c.args.bytes.now c.args.at 0) e (cut_at c.args.bytes.now c.args.at inside) (grind arith) r) c.read_name_bytes.ensures.refused
