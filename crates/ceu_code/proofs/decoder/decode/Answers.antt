use Rattle.std.proofs.lemmas.Result.{err_from_is_err_and}
use Rattle.ceu_code.proofs.Images.{cause_of, more_is_none}
use Rattle.ceu_code.proofs.decoder.decode.Goals as goal

pub returns-in_err-image-clause-bad : goal.returns-in_err-image-clause-bad
returns-in_err-image-clause-bad c =
    let p = err_from_is_err_and c.from_residual.result c.from_residual.ensures.1 in
    rw (p.1, p.2) (cause_of c.args.bytes.now c.in_err-image.field-0.0 c.in_err-image.ensures.refused)

pub returns-then-next-bytes-clause-bad : goal.returns-then-next-bytes-clause-bad
returns-then-next-bytes-clause-bad c = more_is_none c.args.bytes.now c.in_ok-image.next c.in_ok-image.image c.if-next-bytes.true c.in_ok-image.ensures.ok
