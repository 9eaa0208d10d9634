use Rattle.std.proofs.Common.{subst, ap, ◌∙◌}
use Rattle.std.proofs.lemmas.Result.{err_from_is_err_and}
use Rattle.ceu_code.specs.declared.span.Span.{Span}
use Rattle.ceu_code.specs.Table.{small_cells, negative_cells, type_at}
use Rattle.ceu_code.specs.Reading.{Reads, Refused, Words, IsIn}
use Rattle.ceu_code.proofs.Codes.{constant_kind, constant_cell, constant_read}
use Rattle.ceu_code.proofs.code.read_constant.Goals as goal

pub returns-in_err-number-clause-refused : goal.returns-in_err-number-clause-refused
returns-in_err-number-clause-refused c =
    let p = err_from_is_err_and c.from_residual.result c.from_residual.ensures.1 in
    rw (p.1, p.2) (constant_kind c.args.bytes.now c.args.at c.in_err-number.field-0.0 c.in_err-number.ensures.refused)

pub returns-in_err-_cell-clause-refused : goal.returns-in_err-_cell-clause-refused
returns-in_err-_cell-clause-refused c =
    let low = c.small_cells.ensures ∙ ap small_cells c.type_of-ty.ensures in
    let high = c.negative_cells.ensures ∙ ap negative_cells c.type_of-ty.ensures in
    let cell = subst (λ (s : Span). Refused (Words (IsIn 8 (small_cells (type_at c.in_ok-number.number)) s)) c.args.bytes.now c.in_ok-number.behind c.in_err-_cell.field-0.0) high (subst (λ (s : Span). Refused (Words (IsIn 8 s c.negative_cells.result)) c.args.bytes.now c.in_ok-number.behind c.in_err-_cell.field-0.0) low c.in_err-_cell.ensures.refused) in
    let p = err_from_is_err_and c.from_residual-in_err-_cell.result c.from_residual-in_err-_cell.ensures.1 in
    rw (p.1, p.2) (constant_cell c.args.bytes.now c.args.at c.in_ok-number.behind c.in_ok-number.number c.in_err-_cell.field-0.0 c.in_ok-number.ensures.ok cell)

pub returns-clause-ok : goal.returns-clause-ok
returns-clause-ok c =
    let low = c.small_cells.ensures ∙ ap small_cells c.type_of-ty.ensures in
    let high = c.negative_cells.ensures ∙ ap negative_cells c.type_of-ty.ensures in
    let cell = subst (λ (s : Span). Reads (IsIn 8 (small_cells (type_at c.in_ok-number.number)) s) c.args.bytes.now c.in_ok-number.behind c.in_ok-_cell._cell c.in_ok-_cell.next) high (subst (λ (s : Span). Reads (IsIn 8 s c.negative_cells.result) c.args.bytes.now c.in_ok-number.behind c.in_ok-_cell._cell c.in_ok-_cell.next) low c.in_ok-_cell.ensures.ok) in
    constant_read c.args.bytes.now c.args.at c.in_ok-number.behind c.in_ok-_cell.next c.in_ok-number.number c.in_ok-_cell._cell c.in_ok-number.ensures.ok cell
