use Rattle.std.proofs.Common.{◌≡◌, ◌∙◌, ◌<◌, ◌++◌, ◌∷◌, [], length, get_or, ap, arith}
use Rattle.ceu_bound.specs.declared.settling.Group.{Group}
use Rattle.ceu_bound.proofs.GroupLaws.{group_more}
use Rattle.ceu_bound.proofs.settling.add_to_group.Goals as goal

pub returns-in_ok-push-clause-each : goal.returns-in_ok-push-clause-each
returns-in_ok-push-clause-each c = λ T e h.
    let gs = c.args.groups.now.items in
    let old = c.index_mut.result.now in
    let own : Group = record { wakes = c.push.new.self } in
    let below : c.args.wake.event < length gs = omega (arith, c.len.ensures) in
    let pushed : own.wakes.items ≡ (get_or gs c.args.wake.event old).wakes.items ++ c.args.wake ∷ [] = c.in_ok-push.ensures.items ∙ ap (λ (x : Group). x.wakes.items ++ c.args.wake ∷ []) c.index_mut.ensures.value in
    group_more T e gs own old c.args.wake below pushed
