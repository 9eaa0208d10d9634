use Rattle.std.proofs.lemmas.Result.{err_from_is_err_and}
use Rattle.ceu_code.proofs.Heads.{head_refused, head_refused0, head_refused1, head_refused2, head_refused3, head_read, head_as}
use Rattle.ceu_code.proofs.decoder.read_head.Goals as goal

pub returns-in_err-_c-clause-refused : goal.returns-in_err-_c-clause-refused
returns-in_err-_c-clause-refused c =
    let p = err_from_is_err_and c.from_residual.result c.from_residual.ensures.1 in
    rw (p.1, p.2) (head_refused c.args.bytes.now c.in_err-_c.field-0.0 (head_refused0 c.args.bytes.now 0 c.in_err-_c.field-0.0 c.in_err-_c.ensures.refused))

pub returns-in_err-_e-clause-refused : goal.returns-in_err-_e-clause-refused
returns-in_err-_e-clause-refused c =
    let p = err_from_is_err_and c.from_residual-in_err-_e.result c.from_residual-in_err-_e.ensures.1 in
    rw (p.1, p.2) (head_refused c.args.bytes.now c.in_err-_e.field-0.0 (head_refused1 c.args.bytes.now 0 c.in_ok-_c.at_e c.in_ok-_c._c c.in_err-_e.field-0.0 c.in_ok-_c.ensures.ok c.in_err-_e.ensures.refused))

pub returns-in_err-_u-clause-refused : goal.returns-in_err-_u-clause-refused
returns-in_err-_u-clause-refused c =
    let p = err_from_is_err_and c.from_residual-in_err-_u.result c.from_residual-in_err-_u.ensures.1 in
    rw (p.1, p.2) (head_refused c.args.bytes.now c.in_err-_u.field-0.0 (head_refused2 c.args.bytes.now 0 c.in_ok-_c.at_e c.in_ok-_e.at_u c.in_ok-_c._c c.in_ok-_e._e c.in_err-_u.field-0.0 c.in_ok-_c.ensures.ok c.in_ok-_e.ensures.ok c.in_err-_u.ensures.refused))

pub returns-in_err-version-clause-refused : goal.returns-in_err-version-clause-refused
returns-in_err-version-clause-refused c =
    let p = err_from_is_err_and c.from_residual-in_err-version.result c.from_residual-in_err-version.ensures.1 in
    rw (p.1, p.2) (head_refused c.args.bytes.now c.in_err-version.field-0.0 (head_refused3 c.args.bytes.now 0 c.in_ok-_c.at_e c.in_ok-_e.at_u c.in_ok-_u.at_version c.in_ok-_c._c c.in_ok-_e._e c.in_ok-_u._u c.in_err-version.field-0.0 c.in_ok-_c.ensures.ok c.in_ok-_e.ensures.ok c.in_ok-_u.ensures.ok c.in_err-version.ensures.refused))

pub returns-clause-ok : goal.returns-clause-ok
returns-clause-ok c =
    head_as c.args.bytes.now c.in_ok-version.next (c.in_ok-_c._c, (c.in_ok-_e._e, (c.in_ok-_u._u, c.in_ok-version.version)))
    (head_read c.args.bytes.now 0 c.in_ok-_c.at_e c.in_ok-_e.at_u c.in_ok-_u.at_version c.in_ok-version.next c.in_ok-_c._c c.in_ok-_e._e c.in_ok-_u._u c.in_ok-version.version c.in_ok-_c.ensures.ok c.in_ok-_e.ensures.ok c.in_ok-_u.ensures.ok c.in_ok-version.ensures.ok)
