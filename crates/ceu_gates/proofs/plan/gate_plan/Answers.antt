use Rattle.std.proofs.Common.{◌≡◌, ◌∙◌, ap, map, arith}
use Rattle.std.proofs.lemmas.Grind.{common_steps}
use Rattle.ceu_gates.specs.Ranges.{the_first, the_count, ranges}
use Rattle.ceu_gates.proofs.Within.{ranges_within}
use Rattle.ceu_gates.proofs.Numbered.{firsts_listed, counts_listed}
use Rattle.ceu_gates.proofs.plan.gate_plan.Goals as goal

pub place_all-requires : goal.place_all-requires
place_all-requires c = let within = ranges_within c.args.kernel.now c.requires.proper in omega (arith, within, c.requires.few)

pub by_node-requires : goal.by_node-requires
by_node-requires c =
    let within = ranges_within c.args.kernel.now c.requires.proper in
    grind (arith, common_steps, within, c.requires.few, c.deref.ensures.value, c.in_ok-rows.ensures)

pub returns-clause-first : goal.returns-clause-first
returns-clause-first c =
    let rows : c.deref.result.now ≡ ranges c.args.kernel.now = grind (arith, c.deref.ensures.value, c.in_ok-rows.ensures) in
    firsts_listed c.args.kernel.now c.requires.proper c.in_ok-plan.plan.first (c.in_ok-plan.ensures.first ∙ ap (map the_first) rows)

pub returns-clause-count : goal.returns-clause-count
returns-clause-count c =
    let rows : c.deref.result.now ≡ ranges c.args.kernel.now = grind (arith, c.deref.ensures.value, c.in_ok-rows.ensures) in
    counts_listed c.args.kernel.now c.requires.proper c.in_ok-plan.plan.count (c.in_ok-plan.ensures.count ∙ ap (map the_count) rows)
