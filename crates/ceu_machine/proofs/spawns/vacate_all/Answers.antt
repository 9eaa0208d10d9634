use Rattle.std.proofs.Common.{◌≡◌, ◌+◌, ◌-◌, ℕ, List, sym, ap, ◌∙◌, arith}
use Rattle.ceu_isa.specs.Pools.{vacancies, vacant, place_size}
use Rattle.ceu_machine.proofs.Lists.{vacancies_none, vacancies_next, one_more}
use Rattle.ceu_machine.proofs.spawns.vacate_all.Goals as goal

pub vacate-requires-clause-within : goal.vacate-requires-clause-within
vacate-requires-clause-within c =
    let more : c.args.n - c.loop-i.i ≡ (c.args.n - (c.loop-i.i + 1)) + 1 = omega arith in
    let split = one_more _ _ (place_size c.args.row.now) more in
    omega (arith, split, c.loop-i.invariant.2)

pub overflow_add-at-in-loop-i : goal.overflow_add-at-in-loop-i
overflow_add-at-in-loop-i c =
    let more : c.args.n - c.loop-i.i ≡ (c.args.n - (c.loop-i.i + 1)) + 1 = omega arith in
    let split = one_more _ _ (place_size c.args.row.now) more in
    omega (arith, split, c.loop-i.invariant.2, c.requires.made.fits.memory)

pub overflow_add-first : goal.overflow_add-first
overflow_add-first c =
    let more : c.args.n - c.loop-i.i ≡ (c.args.n - (c.loop-i.i + 1)) + 1 = omega arith in
    let split = one_more _ _ c.args.row.now.gates more in
    omega (arith, split, c.loop-i.invariant.3)

pub loop-i-preserved : goal.loop-i-preserved
loop-i-preserved c =
    let n = c.args.n - (c.loop-i.i + 1) in
    let more : c.args.n - c.loop-i.i ≡ (c.args.n - (c.loop-i.i + 1)) + 1 = omega arith in
    let places = one_more _ _ (place_size c.args.row.now) more in
    let gates = one_more _ _ c.args.row.now.gates more in
    let first : c.loop-i.first + c.from-first.result ≡ c.loop-i.first + c.args.row.now.gates = omega (arith, c.from-first.ensures) in
    let at : c.loop-i.at + (9 + c.from.result) ≡ c.loop-i.at + place_size c.args.row.now = omega (arith, c.from.ensures) in (
      ap (λ (b : List ℕ). vacancies n c.args.pool c.args.row.now (c.loop-i.first + c.from-first.result) (c.loop-i.at + (9 + c.from.result)) b) c.vacate.ensures.bytes
          ∙ ap (λ (f : ℕ). vacancies n c.args.pool c.args.row.now f (c.loop-i.at + (9 + c.from.result)) (vacant c.args.pool c.loop-i.first c.loop-i.at c.loop-i.mem.bytes)) first
          ∙ ap (λ (a : ℕ). vacancies n c.args.pool c.args.row.now (c.loop-i.first + c.args.row.now.gates) a (vacant c.args.pool c.loop-i.first c.loop-i.at c.loop-i.mem.bytes)) at
          ∙ sym (vacancies_next _ _ c.args.pool c.args.row.now c.loop-i.first c.loop-i.at c.loop-i.mem.bytes more) ∙ c.loop-i.invariant.0,
      c.vacate.ensures.made,
      omega (arith, places, at, c.loop-i.invariant.2),
      omega (arith, gates, first, c.loop-i.invariant.3),
    )

pub returns-clause-bytes : goal.returns-clause-bytes
returns-clause-bytes c = sym (vacancies_none _ _ _ _ _ _ (omega arith)) ∙ c.loop-i.invariant.0
