use Rattle.std.proofs.lemmas.Result.{err_from_is_err_and}
use Rattle.ceu_code.proofs.Rows.{item_refused}
use Rattle.ceu_code.proofs.row.read_items.Goals as goal

pub returns-in_err-item-clause-refused : goal.returns-in_err-item-clause-refused
returns-in_err-item-clause-refused g c =
    let p = err_from_is_err_and c.from_residual.result c.from_residual.ensures.1 in
    rw (p.1, p.2) (item_refused g.T.Parse.valid g.T.Parse.spelled c.requires.unique c.args.bytes.now c.args.at c.loop.next c.args.count c.loop.counter c.loop.items c.in_err-item.field-0.0 c.loop-test.true c.loop.invariant c.in_err-item.ensures.refused)
