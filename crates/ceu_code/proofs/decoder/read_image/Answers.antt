use Rattle.std.proofs.Common.{List, ℕ, sym, subst}
use Rattle.std.proofs.lemmas.Result.{err_from_is_err_and}
use Rattle.ceu_code.specs.declared.image.Image.{Image}
use Rattle.ceu_code.specs.Reading.{Reads, Word, IsCodeOf}
use Rattle.ceu_code.specs.Decoding.{IsImage}
use Rattle.ceu_code.proofs.Images.{image_refused, image_as, image_refused0, image_refused1, image_refused2, image_refused3, image_refused4, image_read}
use Rattle.ceu_code.proofs.decoder.read_image.Goals as goal

pub returns-in_err-version-clause-refused : goal.returns-in_err-version-clause-refused
returns-in_err-version-clause-refused c =
    let p = err_from_is_err_and c.from_residual.result c.from_residual.ensures.1 in
    rw (p.1, p.2) (image_refused c.args.bytes.now c.in_err-version.field-0.0 (image_refused0 c.args.bytes.now 0 c.in_err-version.field-0.0 c.in_err-version.ensures.refused))

pub returns-in_err-numbers-clause-refused : goal.returns-in_err-numbers-clause-refused
returns-in_err-numbers-clause-refused c =
    let p = err_from_is_err_and c.from_residual-in_err-numbers.result c.from_residual-in_err-numbers.ensures.1 in
    rw (p.1, p.2) (image_refused c.args.bytes.now c.in_err-numbers.field-0.0 (image_refused1 c.args.bytes.now 0 c.in_ok-version.at_numbers c.in_ok-version.version c.in_err-numbers.field-0.0 c.in_ok-version.ensures.ok c.in_err-numbers.ensures.refused))

pub returns-in_err-lists-clause-refused : goal.returns-in_err-lists-clause-refused
returns-in_err-lists-clause-refused c =
    let p = err_from_is_err_and c.from_residual-in_err-lists.result c.from_residual-in_err-lists.ensures.1 in
    rw (p.1, p.2) (image_refused c.args.bytes.now c.in_err-lists.field-0.0 (image_refused2 c.args.bytes.now 0 c.in_ok-version.at_numbers c.in_ok-numbers.at_lists c.in_ok-version.version c.in_ok-numbers.numbers c.in_err-lists.field-0.0 c.in_ok-version.ensures.ok c.in_ok-numbers.ensures.ok c.in_err-lists.ensures.refused))

pub returns-in_err-count-clause-refused : goal.returns-in_err-count-clause-refused
returns-in_err-count-clause-refused c =
    let p = err_from_is_err_and c.from_residual-in_err-count.result c.from_residual-in_err-count.ensures.1 in
    rw (p.1, p.2) (image_refused c.args.bytes.now c.in_err-count.field-0.0 (image_refused3 c.args.bytes.now 0 c.in_ok-version.at_numbers c.in_ok-numbers.at_lists c.in_ok-lists.at_count c.in_ok-version.version c.in_ok-numbers.numbers c.in_ok-lists.lists c.in_err-count.field-0.0 c.in_ok-version.ensures.ok c.in_ok-numbers.ensures.ok c.in_ok-lists.ensures.ok c.in_err-count.ensures.refused))

pub returns-in_err-next-clause-refused : goal.returns-in_err-next-clause-refused
returns-in_err-next-clause-refused c =
    let p = err_from_is_err_and c.from_residual-in_err-next.result c.from_residual-in_err-next.ensures.1 in
    rw (p.1, p.2) (image_refused c.args.bytes.now c.in_err-next.field-0.0 (image_refused4 c.args.bytes.now 0 c.in_ok-version.at_numbers c.in_ok-numbers.at_lists c.in_ok-lists.at_count c.in_ok-count.at_code c.in_ok-version.version c.in_ok-numbers.numbers c.in_ok-lists.lists c.in_ok-count.count c.in_err-next.field-0.0 c.in_ok-version.ensures.ok c.in_ok-numbers.ensures.ok c.in_ok-lists.ensures.ok c.in_ok-count.ensures.ok c.in_err-next.ensures.refused))

pub returns-clause-ok : goal.returns-clause-ok
returns-clause-ok c =
    let code = subst (λ (bs : List ℕ). Reads (Word (IsCodeOf c.in_ok-count.count)) c.args.bytes.now c.in_ok-count.at_code bs c.in_ok-next.next) (sym c.in_ok-code.ensures) c.in_ok-next.ensures.ok in
    subst (λ (i : Image). Reads IsImage c.args.bytes.now 0 i c.in_ok-next.next) (sym c.image_of.ensures)
    (image_as c.args.bytes.now c.in_ok-next.next (c.in_ok-version.version, (c.in_ok-numbers.numbers, (c.in_ok-lists.lists, (c.in_ok-count.count, c.in_ok-code.code))))
    (image_read c.args.bytes.now 0 c.in_ok-version.at_numbers c.in_ok-numbers.at_lists c.in_ok-lists.at_count c.in_ok-count.at_code c.in_ok-next.next c.in_ok-version.version c.in_ok-numbers.numbers c.in_ok-lists.lists c.in_ok-count.count c.in_ok-code.code c.in_ok-version.ensures.ok c.in_ok-numbers.ensures.ok c.in_ok-lists.ensures.ok c.in_ok-count.ensures.ok code))
