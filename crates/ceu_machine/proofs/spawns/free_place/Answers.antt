use Rattle.std.proofs.Common.{◌≡◌, ◌+◌, ◌-◌, sym, ◌∙◌, arith}
use Rattle.ceu_machine.proofs.Lists.{place_none, place_here, place_next, one_more}
use Rattle.ceu_machine.proofs.spawns.free_place.Goals as goal

pub number-requires-clause-within : goal.number-requires-clause-within
number-requires-clause-within c =
    let more : c.args.n - c.loop-i.i ≡ (c.args.n - (c.loop-i.i + 1)) + 1 = omega arith in
    let split = one_more _ _ c.args.size more in
    omega (arith, split, c.loop-i.invariant.1, c.requires.size, c.requires.made.fits.size)

pub returns-then-number-eq0-clause-place : goal.returns-then-number-eq0-clause-place
returns-then-number-eq0-clause-place c = c.loop-i.invariant.0 ∙ place_here _ _ _ _ (omega arith) (sym c.number.ensures.value ∙ c.if-number-eq0.true)

pub overflow_add-at : goal.overflow_add-at
overflow_add-at c =
    let more : c.args.n - c.loop-i.i ≡ (c.args.n - (c.loop-i.i + 1)) + 1 = omega arith in
    let split = one_more _ _ c.args.size more in
    omega (arith, split, c.loop-i.invariant.1, c.requires.made.fits.memory)

pub loop-i-preserved : goal.loop-i-preserved
loop-i-preserved c =
    let more : c.args.n - c.loop-i.i ≡ (c.args.n - (c.loop-i.i + 1)) + 1 = omega arith in
    let split = one_more _ _ c.args.size more in
    (c.loop-i.invariant.0 ∙ place_next _ _ _ _ _ more (λ e. c.if-number-eq0.false (c.number.ensures.value ∙ e)), omega (arith, split, c.loop-i.invariant.1))

pub returns-clause-place : goal.returns-clause-place
returns-clause-place c = c.loop-i.invariant.0 ∙ place_none _ _ _ _ (omega arith)

pub returns-then-number-eq0-clause-near : goal.returns-then-number-eq0-clause-near
returns-then-number-eq0-clause-near c =
    let more : c.args.n - c.loop-i.i ≡ (c.args.n - (c.loop-i.i + 1)) + 1 = omega arith in
    let split = one_more _ _ c.args.size more in
    omega (arith, split, c.loop-i.invariant.1, c.requires.size)
