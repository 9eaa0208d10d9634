use Rattle.std.proofs.Common.{◌≡◌, ◌∙◌, ◌+◌, ◌*◌, get_or, ap}
use Rattle.ceu_tree.specs.Greatest.{total}
use Rattle.ceu_paths.specs.Cap.{cap}
use Rattle.ceu_paths.specs.Uses as listed
use Rattle.ceu_bound.specs.Using.{times_used}
use Rattle.ceu_bound.proofs.InstanceLaws.{block_listed}
use Rattle.ceu_bound.proofs.instances.add_body.Goals as goal

pub returns-clause-each : goal.returns-clause-each
returns-clause-each c = λ j b w.
    let items : c.deref.result.now ≡ listed.block_uses c.args.body.now = cc (c.deref.ensures.value, c.in_ok-uses_in.ensures, c.new-uses.ensures.items) in
    c.add_uses.ensures.each j b w ∙ ap (λ k. cap (get_or c.args.counts.now.items j 0 + c.args.holders * k)) (ap (total (times_used j)) items ∙ block_listed j c.args.body.now)
