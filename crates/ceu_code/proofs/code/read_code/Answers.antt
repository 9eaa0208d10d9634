use Rattle.std.proofs.Common.{◌≤◌, length, arith}
use Rattle.std.specs.Prelude.{slice_range}
use Rattle.std.proofs.lemmas.Result.{err_from_is_err_and}
use Rattle.ceu_code.proofs.Codes.{code_refused, code_read_on}
use Rattle.ceu_code.proofs.code.read_code.Goals as goal

pub returns-in_err-behind-clause-refused : goal.returns-in_err-behind-clause-refused
returns-in_err-behind-clause-refused c =
    let p = err_from_is_err_and c.from_residual.result c.from_residual.ensures.1 in
    rw (p.1, p.2) (code_refused c.args.bytes.now c.args.at c.loop-left.next c.loop-left.left c.args.count (slice_range c.args.bytes.now c.args.at c.loop-left.next) c.in_err-behind.field-0.0 (omega arith) c.loop-left.invariant.total c.loop-left.invariant.read c.in_err-behind.ensures.refused)

pub loop-left-preserved : goal.loop-left-preserved
loop-left-preserved c =
    let r = c.in_ok-behind.ensures.ok in
    let ahead = r.ahead in
    let fits : length r.word ≤ c.loop-left.left = r.form.0.1 in
    record {
      read = code_read_on c.args.bytes.now c.args.at c.loop-left.next c.in_ok-behind.behind c.loop-left.left c.loop-left.invariant.read r;
      total = let t = c.loop-left.invariant.total in omega arith;
    }
