use Rattle.std.proofs.Common.{ℕ, subst}
use Rattle.ceu_code.specs.Reading.{Reads, Refused, Words, Items}
use Rattle.std.proofs.lemmas.Result.{err_from_is_err_and}
use Rattle.ceu_code.proofs.Parsed.{row_refused, refused_entry, refused_frame, refused_gates, refused_count, refused_params, row_read, IsTyped, ty_bytes}
use Rattle.ceu_code.proofs.row.CodeRowParse.read.Goals as goal

pub returns-in_err-entry-clause-refused : goal.returns-in_err-entry-clause-refused
returns-in_err-entry-clause-refused c =
    let p = err_from_is_err_and c.from_residual.result c.from_residual.ensures.1 in
    rw (p.1, p.2) (row_refused c.args.bytes.now c.args.at c.in_err-entry.field-0.0 (refused_entry c.args.bytes.now c.in_err-entry.field-0.0 c.args.at c.in_err-entry.ensures.refused))

pub returns-in_err-frame-clause-refused : goal.returns-in_err-frame-clause-refused
returns-in_err-frame-clause-refused c =
    let p = err_from_is_err_and c.from_residual-in_err-frame.result c.from_residual-in_err-frame.ensures.1 in
    rw (p.1, p.2) (row_refused c.args.bytes.now c.args.at c.in_err-frame.field-0.0 (refused_frame c.args.bytes.now c.in_err-frame.field-0.0 c.args.at c.in_ok-entry.at_frame c.in_ok-entry.entry c.in_ok-entry.ensures.ok c.in_err-frame.ensures.refused))

pub returns-in_err-gates-clause-refused : goal.returns-in_err-gates-clause-refused
returns-in_err-gates-clause-refused c =
    let p = err_from_is_err_and c.from_residual-in_err-gates.result c.from_residual-in_err-gates.ensures.1 in
    rw (p.1, p.2) (row_refused c.args.bytes.now c.args.at c.in_err-gates.field-0.0 (refused_gates c.args.bytes.now c.in_err-gates.field-0.0 c.args.at c.in_ok-entry.at_frame c.in_ok-frame.at_gates c.in_ok-entry.entry c.in_ok-frame.frame c.in_ok-entry.ensures.ok c.in_ok-frame.ensures.ok c.in_err-gates.ensures.refused))

pub returns-in_err-count-clause-refused : goal.returns-in_err-count-clause-refused
returns-in_err-count-clause-refused c =
    let p = err_from_is_err_and c.from_residual-in_err-count.result c.from_residual-in_err-count.ensures.1 in
    rw (p.1, p.2) (row_refused c.args.bytes.now c.args.at c.in_err-count.field-0.0 (refused_count c.args.bytes.now c.in_err-count.field-0.0 c.args.at c.in_ok-entry.at_frame c.in_ok-frame.at_gates c.in_ok-gates.at_count c.in_ok-entry.entry c.in_ok-frame.frame c.in_ok-gates.gates c.in_ok-entry.ensures.ok c.in_ok-frame.ensures.ok c.in_ok-gates.ensures.ok c.in_err-count.ensures.refused))

pub returns-in_err-params-clause-refused : goal.returns-in_err-params-clause-refused
returns-in_err-params-clause-refused c =
    let p = err_from_is_err_and c.from_residual-in_err-params.result c.from_residual-in_err-params.ensures.1 in
    rw (p.1, p.2) (row_refused c.args.bytes.now c.args.at c.in_err-params.field-0.0 (refused_params c.args.bytes.now c.in_err-params.field-0.0 c.args.at c.in_ok-entry.at_frame c.in_ok-frame.at_gates c.in_ok-gates.at_count c.in_ok-count.at_params c.in_ok-entry.entry c.in_ok-frame.frame c.in_ok-gates.gates c.in_ok-count.count c.in_ok-entry.ensures.ok c.in_ok-frame.ensures.ok c.in_ok-gates.ensures.ok c.in_ok-count.ensures.ok (subst (λ (n : ℕ). Refused (Words (Items IsTyped ty_bytes n)) c.args.bytes.now c.in_ok-count.at_params c.in_err-params.field-0.0) c.from.ensures c.in_err-params.ensures.refused)))

pub returns-clause-ok : goal.returns-clause-ok
returns-clause-ok c = row_read c.args.bytes.now c.args.at c.in_ok-entry.at_frame c.in_ok-frame.at_gates c.in_ok-gates.at_count c.in_ok-count.at_params c.in_ok-params.next c.in_ok-entry.entry c.in_ok-frame.frame c.in_ok-gates.gates c.in_ok-count.count c.in_ok-params.params c.in_ok-entry.ensures.ok c.in_ok-frame.ensures.ok c.in_ok-gates.ensures.ok c.in_ok-count.ensures.ok (subst (λ (n : ℕ). Reads (Items IsTyped ty_bytes n) c.args.bytes.now c.in_ok-count.at_params c.in_ok-params.params c.in_ok-params.next) c.from.ensures c.in_ok-params.ensures.ok)
