use Rattle.std.proofs.Common.{ℕ, subst, sym, List, ◌-◌}
use Rattle.std.specs.Prelude.{slice_range}
use Rattle.std.proofs.lemmas.Result.{err_from_is_err_and}
use Rattle.ceu_base.specs.declared.kinds.Ty.{Ty}
use Rattle.ceu_code.specs.Spelling.{IsPort, port}
use Rattle.ceu_code.specs.Reading.{Reads, Spelled, IsNameOf}
use Rattle.ceu_code.proofs.Ports.{refused_kind, refused_length, refused_name, port_read, name_ascii}
use Rattle.ceu_code.proofs.row.PortParse.read.Goals as goal

pub returns-in_err-number-clause-refused : goal.returns-in_err-number-clause-refused
returns-in_err-number-clause-refused c =
    let p = err_from_is_err_and c.from_residual.result c.from_residual.ensures.1 in
    rw (p.1, p.2) (refused_kind c.args.bytes.now c.in_err-number.field-0.0 c.args.at c.in_err-number.ensures.refused)

pub returns-in_err-length-clause-refused : goal.returns-in_err-length-clause-refused
returns-in_err-length-clause-refused c =
    let p = err_from_is_err_and c.from_residual-in_err-length.result c.from_residual-in_err-length.ensures.1 in
    rw (p.1, p.2) (refused_length c.args.bytes.now c.in_err-length.field-0.0 c.args.at c.in_ok-number.at_length c.in_ok-number.number c.in_ok-number.ensures.ok c.in_err-length.ensures.refused)

pub returns-in_err-next-clause-refused : goal.returns-in_err-next-clause-refused
returns-in_err-next-clause-refused c =
    let p = err_from_is_err_and c.from_residual-in_err-next.result c.from_residual-in_err-next.ensures.1 in
    rw (p.1, p.2) (refused_name c.args.bytes.now c.in_err-next.field-0.0 c.args.at c.in_ok-number.at_length c.in_ok-length.at_name c.in_ok-number.number c.in_ok-length.length c.in_ok-number.ensures.ok c.in_ok-length.ensures.ok c.in_err-next.ensures.refused)

pub name_of-requires : goal.name_of-requires
name_of-requires c = name_ascii (slice_range c.args.bytes.now c.in_ok-length.at_name c.in_ok-next.next) c.in_ok-next.ensures.ok.form.1

pub returns-clause-ok : goal.returns-clause-ok
returns-clause-ok c =
    let name = c.in_ok-name.name in
    let ty = c.type_of-ty.result in
    let named : Reads (IsNameOf (c.in_ok-length.length - 1)) c.args.bytes.now c.in_ok-length.at_name name c.in_ok-next.next = subst (λ (n : List ℕ). Reads (IsNameOf (c.in_ok-length.length - 1)) c.args.bytes.now c.in_ok-length.at_name n c.in_ok-next.next) (sym c.in_ok-name.ensures) c.in_ok-next.ensures.ok in
    subst (λ (t : Ty). Reads (Spelled IsPort port) c.args.bytes.now c.args.at (record { ty = t; name = name }) c.in_ok-next.next) (sym c.type_of-ty.ensures)
    (port_read c.args.bytes.now c.args.at c.in_ok-number.at_length c.in_ok-length.at_name c.in_ok-next.next c.in_ok-number.number c.in_ok-length.length name c.in_ok-number.ensures.ok c.in_ok-length.ensures.ok named)
