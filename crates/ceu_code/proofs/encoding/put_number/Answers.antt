use Rattle.std.proofs.Common.{List, ℕ, ◌++◌, ◌-◌, ◌+◌, ◌/◌, ap, ◌∙◌}
use Rattle.ceu_code.specs.Table.{low_first}
use Rattle.ceu_code.proofs.Writing.{digit_put, digits_put}
use Rattle.ceu_code.proofs.encoding.put_number.Goals as goal

pub loop-preserved : goal.loop-preserved
loop-preserved c =
    ap (λ (bs : List ℕ). bs ++ low_first (c.args.width - (c.loop.counter + 1)) (c.loop.rest / 256)) c.in_ok-push.ensures.ok
    ∙ digit_put c.loop.out c.args.width c.loop.counter c.loop.rest c.loop-test.true
    ∙ c.loop.invariant

pub returns : goal.returns
returns c = digits_put c.loop.out c.args.width c.loop.counter c.loop.rest _ c.loop-test.false c.loop.invariant
