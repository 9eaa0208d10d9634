use Rattle.std.proofs.Common.{◌≡◌, ◌+◌, ◌-◌, ◌*◌, ℕ, suc, get_or, ap, ◌∙◌, arith}
use Rattle.ceu_code.proofs.Shown.{number_none, number_more, small_more, fits_width}
use Rattle.ceu_code.proofs.listing.+number_at.Goals as goal

pub returns-then-width-eq0-clause-value : goal.returns-then-width-eq0-clause-value
returns-then-width-eq0-clause-value t c = number_none c.args.width c.args.code.now c.args.at c.if-width-eq0.true

pub returns-clause-small : goal.returns-clause-small
returns-clause-small t c =
    let more : suc (c.args.width - 1) ≡ c.args.width = omega arith in
    small_more c.args.width c.from.result c.number_at-rest.result more (omega (arith, c.from.ensures, c.type_inv.code c.args.at)) c.number_at-rest.ensures.small

pub overflow_mul-result : goal.overflow_mul-result
overflow_mul-result t c =
    let more : suc (c.args.width - 1) ≡ c.args.width = omega arith in
    let total = small_more c.args.width c.from.result c.number_at-rest.result more (omega (arith, c.from.ensures, c.type_inv.code c.args.at)) c.number_at-rest.ensures.small in
    let bound = fits_width c.args.width c.requires.few in
    omega (arith, total, bound)

pub overflow_add-result : goal.overflow_add-result
overflow_add-result t c =
    let more : suc (c.args.width - 1) ≡ c.args.width = omega arith in
    let total = small_more c.args.width c.from.result c.number_at-rest.result more (omega (arith, c.from.ensures, c.type_inv.code c.args.at)) c.number_at-rest.ensures.small in
    let bound = fits_width c.args.width c.requires.few in
    omega (arith, total, bound)

pub returns-clause-value : goal.returns-clause-value
returns-clause-value t c =
    let more : suc (c.args.width - 1) ≡ c.args.width = omega arith in
    ap (λ (b : ℕ). b + 256 * c.number_at-rest.result) c.from.ensures
    ∙ ap (λ (n : ℕ). get_or c.args.code.now c.args.at 0 + 256 * n) c.number_at-rest.ensures.value
    ∙ number_more c.args.width c.args.code.now c.args.at more
