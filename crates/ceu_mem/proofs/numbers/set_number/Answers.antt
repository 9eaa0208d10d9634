use Rattle.std.proofs.Common.{◌≡◌, ◌+◌, ◌-◌, ◌/◌, ◌%◌, ℕ, suc, sym, ap, ◌∙◌, arith}
use Rattle.std.specs.Prelude.{slice_set}
use Rattle.ceu_mem.specs.Bytes.{with_number}
use Rattle.ceu_mem.proofs.Views.{with_number_step, with_number_nothing}
use Rattle.ceu_mem.proofs.numbers.set_number.Goals as goal

pub loop-i-preserved : goal.loop-i-preserved
loop-i-preserved c =
    let more : c.args.width - c.loop-i.i ≡ suc (c.args.width - (c.loop-i.i + 1)) = omega arith in
    let next : c.args.at + c.loop-i.i + 1 ≡ c.args.at + (c.loop-i.i + 1) = omega arith in
    let k = c.args.width - (c.loop-i.i + 1) in
    let set = slice_set c.loop-i.bytes (c.args.at + c.loop-i.i) (c.loop-i.rest % 256) in
    sym (ap (λ (p : ℕ). with_number k (c.loop-i.rest / 256) set p) next)
    ∙ sym (with_number_step k c.loop-i.rest c.loop-i.bytes (c.args.at + c.loop-i.i))
    ∙ sym (ap (λ (j : ℕ). with_number j c.loop-i.rest c.loop-i.bytes (c.args.at + c.loop-i.i)) more)
    ∙ c.loop-i.invariant

pub returns : goal.returns
returns c =
    let z : c.args.width - c.loop-i.i ≡ 0 = omega arith in
    sym (ap (λ (j : ℕ). with_number j c.loop-i.rest c.loop-i.bytes (c.args.at + c.loop-i.i)) z ∙ with_number_nothing c.loop-i.rest c.loop-i.bytes (c.args.at + c.loop-i.i)) ∙ c.loop-i.invariant
