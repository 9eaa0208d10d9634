use Rattle.std.proofs.Common.{◌≡◌, drop}
use Rattle.ceu_tree.specs.declared.kernel.KBlock.{out-KBlock}
use Rattle.ceu_paths.specs.Found.{seen}
use Rattle.ceu_tree.specs.Greatest.{total}
use Rattle.ceu_bound.specs.declared.emissions.Wake.{Wake}
use Rattle.ceu_bound.specs.Waking as spec
use Rattle.ceu_bound.proofs.WakeLaws.{not_woken, woken_once, woken_push}
use Rattle.ceu_bound.proofs.emissions.add_wake.Goals as goal

pub returns-in-None : goal.returns-in-None
returns-in-None c = λ T e. not_woken T e (seen c.args.found.now) (spec.copies c.args.events.now c.args.code c.args.instances e) (total (spec.wake_cost T e) c.args.wakes.now.items) c.in-None.ensures

pub returns-in_ok-push-in-Some : goal.returns-in_ok-push-in-Some
returns-in_ok-push-in-Some c = λ T e.
    let rest : c.after_first.result.now ≡ drop 1 (out-KBlock c.args.found.now.body.now).list = cc in
    let made : Wake = record { event = c.in-Some.event; copies = c.copies.result; rest = c.after_first.result } in
    woken_push T e c.args.wakes.now.items c.push.new.self.items made _ c.in_ok-push-in-Some.ensures.items
    (woken_once T e (seen c.args.found.now) made c.args.events.now c.args.code c.args.instances c.in-Some.ensures c.copies.ensures rest)
