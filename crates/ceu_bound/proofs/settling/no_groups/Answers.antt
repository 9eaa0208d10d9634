use Rattle.std.proofs.Common.{◌≡◌, List, sym, subst, arith}
use Rattle.ceu_bound.specs.declared.settling.Group.{Group}
use Rattle.ceu_bound.specs.Waking.{group_cost}
use Rattle.ceu_bound.proofs.GroupLaws.{group_push}
use Rattle.ceu_bound.proofs.settling.no_groups.Goals as goal

pub loop-done-preserved : goal.loop-done-preserved
loop-done-preserved c =
    let own : Group = record { wakes = c.new.result } in (
      omega (arith, c.in_ok-push.ensures.len, c.loop-done.invariant.0),
      λ T e k.
          let P : List Group → Type 0 = λ gs. group_cost T e k gs ≡ 0 in
          subst P (sym c.in_ok-push.ensures.items) (group_push T e k c.loop-done.groups.items own c.new.ensures.items (λ j. c.loop-done.invariant.1 T e j)),
    )
