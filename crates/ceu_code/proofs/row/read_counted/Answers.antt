use Rattle.std.proofs.lemmas.Result.{err_from_is_err_and}
use Rattle.ceu_code.proofs.Rows.{count_refused, items_refused}
use Rattle.ceu_code.proofs.row.read_counted.Goals as goal

pub returns-in_err-count-clause-refused : goal.returns-in_err-count-clause-refused
returns-in_err-count-clause-refused g c =
    let p = err_from_is_err_and c.from_residual.result c.from_residual.ensures.1 in
    rw (p.1, p.2) (count_refused g.T.Parse.valid g.T.Parse.spelled c.args.least c.args.bytes.now c.args.at c.in_err-count.field-0.0 c.requires.some c.in_err-count.ensures.refused)

pub returns-in_err-items-clause-refused : goal.returns-in_err-items-clause-refused
returns-in_err-items-clause-refused g c =
    let p = err_from_is_err_and c.from_residual-in_err-items.result c.from_residual-in_err-items.ensures.1 in
    rw (p.1, p.2) (items_refused g.T.Parse.valid g.T.Parse.spelled c.args.least c.args.bytes.now c.args.at c.in_ok-count.behind c.in_ok-count.count c.in_err-items.field-0.0 c.in_ok-count.ensures.ok c.in_err-items.ensures.refused)
