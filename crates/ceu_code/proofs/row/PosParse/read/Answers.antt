use Rattle.std.proofs.lemmas.Result.{err_from_is_err_and}
use Rattle.ceu_code.proofs.Parsed.{place_line, place_col}
use Rattle.ceu_code.proofs.row.PosParse.read.Goals as goal

pub returns-in_err-line-clause-refused : goal.returns-in_err-line-clause-refused
returns-in_err-line-clause-refused c =
    let p = err_from_is_err_and c.from_residual.result c.from_residual.ensures.1 in
    rw (p.1, p.2) (place_line c.args.bytes.now c.args.at c.in_err-line.field-0.0 c.in_err-line.ensures.refused)

pub returns-in_err-col-clause-refused : goal.returns-in_err-col-clause-refused
returns-in_err-col-clause-refused c =
    let p = err_from_is_err_and c.from_residual-in_err-col.result c.from_residual-in_err-col.ensures.1 in
    rw (p.1, p.2) (place_col c.args.bytes.now c.args.at c.in_ok-line.behind c.in_ok-line.line c.in_err-col.field-0.0 c.in_ok-line.ensures.ok c.in_err-col.ensures.refused)
