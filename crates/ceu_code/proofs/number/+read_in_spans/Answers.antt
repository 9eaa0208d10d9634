use Rattle.std.proofs.Common.{◌≡◌, ℕ, suc, ◌+◌, ◌-◌, ◌*◌, ◌<◌, get_or, sym, subst, arith, length}
use Rattle.std.proofs.lemmas.Result.{err_from_is_err_and}
use Rattle.ceu_code.specs.Reading.{Reads, Stops, Words, IsIn}
use Rattle.ceu_code.proofs.Reading.{refused_more}
use Rattle.ceu_code.proofs.Numbers.{reads_nothing, number_ends, refuses_here, refuses_behind, reads_here, bound_left, bound_right, cut_at}
use Rattle.ceu_code.proofs.number.+read_in_spans.Goals as goal

pub returns-then-width-eq0-clause-ok : goal.returns-then-width-eq0-clause-ok
returns-then-width-eq0-clause-ok t c = reads_nothing c.args.width c.args.low c.args.high c.args.bytes.now c.args.at c.if-width-eq0.true c.requires.inside c.requires.low_fits c.requires.high_fits c.requires.some

pub returns-then-at-bytes-clause-refused : goal.returns-then-at-bytes-clause-refused
returns-then-at-bytes-clause-refused t c =
    let width : suc (c.args.width - 1) ≡ c.args.width = omega arith in
    subst (λ (k : ℕ). Stops (Words (IsIn k c.args.low c.args.high)) c.args.bytes.now c.args.at c.args.at) width (number_ends (c.args.width - 1) c.args.low c.args.high c.args.bytes.now c.args.at (omega arith) c.requires.some)

pub returns-then-not-have_numbers-clause-refused : goal.returns-then-not-have_numbers-clause-refused
returns-then-not-have_numbers-clause-refused t c =
    let inside : c.args.at < length c.args.bytes.now = omega arith in
    refuses_here c.args.width c.args.low c.args.high c.args.bytes.now c.args.at (get_or c.args.bytes.now c.args.at 0) c.narrowed-low_rest.result c.narrowed-high_rest.result (omega arith) (cut_at c.args.bytes.now c.args.at inside) (omega (arith, c.type_inv.bytes c.args.at)) c.narrowed-low_rest.ensures.value c.narrowed-high_rest.ensures.value inside c.requires.some (grind arith)

pub read_in_spans-requires : goal.read_in_spans-requires
read_in_spans-requires t c =
    let inside : c.args.at < length c.args.bytes.now = omega arith in
    let low_fits = bound_left c.args.width c.args.low c.args.high c.args.bytes.now c.args.at (get_or c.args.bytes.now c.args.at 0) c.narrowed-low_rest.result c.narrowed-high_rest.result (omega arith) (cut_at c.args.bytes.now c.args.at inside) (omega (arith, c.type_inv.bytes c.args.at)) c.narrowed-low_rest.ensures.value c.narrowed-high_rest.ensures.value c.requires.low_fits c.narrowed-low_rest.ensures.small in
    let high_fits = bound_right c.args.width c.args.low c.args.high c.args.bytes.now c.args.at (get_or c.args.bytes.now c.args.at 0) c.narrowed-low_rest.result c.narrowed-high_rest.result (omega arith) (cut_at c.args.bytes.now c.args.at inside) (omega (arith, c.type_inv.bytes c.args.at)) c.narrowed-low_rest.ensures.value c.narrowed-high_rest.ensures.value c.requires.high_fits c.narrowed-high_rest.ensures.small in
    (omega arith, (omega arith, (grind arith, (low_fits, high_fits))))

pub returns-in_err-rest-clause-refused : goal.returns-in_err-rest-clause-refused
returns-in_err-rest-clause-refused t c =
    let inside : c.args.at < length c.args.bytes.now = omega arith in
    let p = err_from_is_err_and c.from_residual.result c.from_residual.ensures.1 in
    rw (p.1, p.2) (refused_more (Words (IsIn c.args.width c.args.low c.args.high)) (Words (IsIn (c.args.width - 1) c.narrowed-low_rest.result c.narrowed-high_rest.result)) c.args.bytes.now c.args.at (c.args.at + 1) c.in_err-rest.field-0.0 (refuses_behind c.args.width c.args.low c.args.high c.args.bytes.now c.args.at (get_or c.args.bytes.now c.args.at 0) c.narrowed-low_rest.result c.narrowed-high_rest.result (omega arith) (cut_at c.args.bytes.now c.args.at inside) (omega (arith, c.type_inv.bytes c.args.at)) c.narrowed-low_rest.ensures.value c.narrowed-high_rest.ensures.value) c.in_err-rest.ensures.refused)

pub returns-clause-ok : goal.returns-clause-ok
returns-clause-ok t c =
    let inside : c.args.at < length c.args.bytes.now = omega arith in
    let byte : c.from.result ≡ get_or c.args.bytes.now c.args.at 0 = c.from.ensures in
    subst (λ (b : ℕ). Reads (IsIn c.args.width c.args.low c.args.high) c.args.bytes.now c.args.at (b + 256 * c.in_ok-rest.rest) c.in_ok-rest.next) (sym byte)
    (reads_here c.args.width c.args.low c.args.high c.args.bytes.now c.args.at (get_or c.args.bytes.now c.args.at 0) c.narrowed-low_rest.result c.narrowed-high_rest.result (omega arith) (cut_at c.args.bytes.now c.args.at inside) (omega (arith, c.type_inv.bytes c.args.at)) c.narrowed-low_rest.ensures.value c.narrowed-high_rest.ensures.value c.in_ok-rest.rest c.in_ok-rest.next c.in_ok-rest.ensures.ok)
