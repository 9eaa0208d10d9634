use Rattle.std.proofs.Common.{◌≡◌, ◌+◌, ◌-◌, ◌*◌, ◌^◌, ℕ, suc, sym, ap, ◌∙◌, arith}
use Rattle.std.specs.Prelude.{slice_index}
use Rattle.ceu_mem.specs.Bytes.{number_at}
use Rattle.ceu_mem.proofs.Views.{number_small, number_below, number_step, number_nothing}
use Rattle.ceu_mem.proofs.numbers.number.Goals as goal

pub loop-left-init : goal.loop-left-init
loop-left-init c =
    let z : c.args.width - c.args.width ≡ 0 = omega arith in
    (omega arith, sym (ap (λ (k : ℕ). number_at k c.args.bytes.now (c.args.at + c.args.width)) z ∙ number_nothing c.args.bytes.now (c.args.at + c.args.width)))

pub overflow_mul-found : goal.overflow_mul-found
overflow_mul-found c =
    let small = number_small (c.args.width - c.loop-left.left) c.args.bytes.now (c.args.at + c.loop-left.left) (omega arith) (λ i. omega (arith, c.type_inv.bytes i)) in
    omega (arith, small, c.loop-left.invariant.1)

pub overflow_add-found : goal.overflow_add-found
overflow_add-found c =
    let small = number_small (c.args.width - c.loop-left.left) c.args.bytes.now (c.args.at + c.loop-left.left) (omega arith) (λ i. omega (arith, c.type_inv.bytes i)) in
    omega (arith, small, c.loop-left.invariant.1, c.type_inv.bytes (c.args.at + (c.loop-left.left - 1)))

pub loop-left-preserved : goal.loop-left-preserved
loop-left-preserved c =
    let left = c.loop-left.left in
    let width = c.args.width in
    let bytes = c.args.bytes.now in
    let before = c.args.at + (c.loop-left.left - 1) in
    let more : c.args.width - (c.loop-left.left - 1) ≡ suc (c.args.width - c.loop-left.left) = omega arith in
    let next : c.args.at + (c.loop-left.left - 1) + 1 ≡ c.args.at + c.loop-left.left = omega arith in
    let step : number_at (width - (left - 1)) bytes before ≡ slice_index bytes before + 256 * number_at (width - left) bytes (c.args.at + left) =
    ap (λ (k : ℕ). number_at k bytes before) more ∙ number_step (width - left) bytes before ∙ ap (λ (p : ℕ). slice_index bytes before + 256 * number_at (width - left) bytes p) next in
    (omega arith, omega (arith, step, c.loop-left.invariant.1))

pub returns-clause-value : goal.returns-clause-value
returns-clause-value c =
    let all : c.args.width - c.loop-left.left ≡ c.args.width = omega arith in
    let here : c.args.at + c.loop-left.left ≡ c.args.at = omega arith in
    c.loop-left.invariant.1 ∙ ap (λ (k : ℕ). number_at k c.args.bytes.now (c.args.at + c.loop-left.left)) all ∙ ap (λ (p : ℕ). number_at c.args.width c.args.bytes.now p) here

pub returns-clause-below : goal.returns-clause-below
returns-clause-below c =
    let all : c.args.width - c.loop-left.left ≡ c.args.width = omega arith in
    let below = number_below (c.args.width - c.loop-left.left) c.args.bytes.now (c.args.at + c.loop-left.left) (λ i. omega (arith, c.type_inv.bytes i)) in
    let power : 256 ^ (c.args.width - c.loop-left.left) ≡ 256 ^ c.args.width = ap (λ (k : ℕ). 256 ^ k) all in
    omega (arith, below, power, c.loop-left.invariant.1)
