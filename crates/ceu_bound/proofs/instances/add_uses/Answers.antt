use Rattle.std.proofs.Common.{◌≡◌, ◌∙◌, ◌<◌, ◌+◌, ◌*◌, refl, length, take, get_or, ap, sym, add-one, arith}
use Rattle.ceu_tree.specs.Greatest.{total}
use Rattle.ceu_tree.proofs.TableLaws.{total_more}
use Rattle.ceu_paths.specs.Cap.{cap}
use Rattle.ceu_paths.specs.declared.uses.CodeUse.{CodeUse}
use Rattle.ceu_paths.proofs.CapLaws.{same_plus}
use Rattle.ceu_bound.specs.Using.{times_used}
use Rattle.ceu_bound.proofs.instances.add_uses.Goals as goal

pub loop-code_use-preserved : goal.loop-code_use-preserved
loop-code_use-preserved c =
    let below : c.loop-code_use.code_use-index < length c.args.uses.now = omega arith in
    let none : CodeUse = record { code = 0; times = 0 } in (
      omega (arith, c.loop-code_use.invariant.0, c.add_use.ensures.len),
      λ j h. c.add_use.ensures.above j h ∙ c.loop-code_use.invariant.1 j h,
      λ j b w.
          let within : j < length c.loop-code_use.counts.items = omega (arith, w, c.loop-code_use.invariant.0) in
          let here = times_used j (get_or c.args.uses.now c.loop-code_use.code_use-index none) in
          let before = total (times_used j) (take c.loop-code_use.code_use-index c.args.uses.now) in
          let more = ap (λ k. c.args.holders * k) (total_more (times_used j) c.args.uses.now c.loop-code_use.code_use-index none below) in
          let sum : get_or c.args.counts.now.items j 0 + c.args.holders * before + c.args.holders * here ≡ get_or c.args.counts.now.items j 0 + c.args.holders * (before + here) = omega arith in
          rw add-one (c.add_use.ensures.each j b within ∙
          same_plus (get_or c.loop-code_use.counts.items j 0) (get_or c.args.counts.now.items j 0 + c.args.holders * before) (c.args.holders * here) (c.args.holders * here) (c.loop-code_use.invariant.2 j b w) refl ∙
          ap cap (sum ∙ ap (λ k. get_or c.args.counts.now.items j 0 + k) (sym more))),
    )
