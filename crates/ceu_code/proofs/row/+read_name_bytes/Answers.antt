use Rattle.std.proofs.Common.{◌<◌, ◌-◌, get_or, length, arith}
use Rattle.std.proofs.lemmas.Result.{IfOk-weaker, IfErr-weaker}
use Rattle.ceu_code.proofs.Numbers.{cut_at}
use Rattle.ceu_code.proofs.Ports.{rest_ends, rest_refuses, rest_refused, rest_read}
use Rattle.ceu_code.proofs.row.+read_name_bytes.Goals as goal

pub returns-then-at-bytes-clause-refused : goal.returns-then-at-bytes-clause-refused
returns-then-at-bytes-clause-refused t c = rest_ends c.args.count (c.args.count - 1) (omega arith) c.args.bytes.now c.args.at (omega arith)

pub returns-then-not-is_name_byte-clause-refused : goal.returns-then-not-is_name_byte-clause-refused
returns-then-not-is_name_byte-clause-refused t c =
    let inside : c.args.at < length c.args.bytes.now = omega arith in
    rest_refuses c.args.count (c.args.count - 1) (omega arith) c.args.bytes.now c.args.at (get_or c.args.bytes.now c.args.at 0) inside (cut_at c.args.bytes.now c.args.at inside) (grind arith)

pub returns-clause-ok : goal.returns-clause-ok
returns-clause-ok t c =
    let inside : c.args.at < length c.args.bytes.now = omega arith in
    IfOk-weaker c.read_name_bytes.result _ _ (λ next r. rest_read c.args.count (c.args.count - 1) (omega arith) c.args.bytes.now c.args.at (get_or c.args.bytes.now c.args.at 0) next (cut_at c.args.bytes.now c.args.at inside) (grind arith) r) c.read_name_bytes.ensures.ok

pub returns-clause-refused : goal.returns-clause-refused
returns-clause-refused t c =
    let inside : c.args.at < length c.args.bytes.now = omega arith in
    IfErr-weaker c.read_name_bytes.result _ _ (λ e r. rest_refused c.args.count (c.args.count - 1) (omega arith) c.args.bytes.now c.args.at (get_or c.args.bytes.now c.args.at 0) e (cut_at c.args.bytes.now c.args.at inside) (grind arith) r) c.read_name_bytes.ensures.refused
