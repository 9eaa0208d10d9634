use Rattle.std.proofs.Common.{sym, subst}
use Rattle.std.proofs.lemmas.Result.{err_from_is_err_and}
use Rattle.ceu_base.specs.declared.kinds.Ty.{Ty}
use Rattle.ceu_code.specs.Table.{type_at}
use Rattle.ceu_code.specs.Reading.{Reads, Spelled, IsBetween}
use Rattle.ceu_code.proofs.Reading.{reads_as}
use Rattle.ceu_code.proofs.Parsed.{IsTyped, ty_bytes, type_to, type_refused}
use Rattle.ceu_code.proofs.row.TyParse.read.Goals as goal

pub returns-in_err-number-clause-refused : goal.returns-in_err-number-clause-refused
returns-in_err-number-clause-refused c =
    let p = err_from_is_err_and c.from_residual.result c.from_residual.ensures.1 in
    rw (p.1, p.2) (type_refused c.args.bytes.now c.args.at c.in_err-number.field-0.0 c.in_err-number.ensures.refused)

pub returns-clause-ok : goal.returns-clause-ok
returns-clause-ok c =
    subst (λ (t : Ty). Reads (Spelled IsTyped ty_bytes) c.args.bytes.now c.args.at t c.in_ok-number.next) (sym c.type_of.ensures)
    (reads_as (IsBetween 1 1 9) (Spelled IsTyped ty_bytes) c.args.bytes.now c.args.at c.in_ok-number.next c.in_ok-number.number (type_at c.in_ok-number.number) (type_to c.in_ok-number.number) c.in_ok-number.ensures.ok)
