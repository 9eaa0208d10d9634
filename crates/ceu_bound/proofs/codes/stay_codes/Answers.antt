use Rattle.std.proofs.Common.{◌≡◌, ◌<◌, List, [], length, ap, subst, arith}
use Rattle.std.specs.List.{AllZip}
use Rattle.ceu_tree.specs.declared.kernel.KCode.{KCode}
use Rattle.ceu_tree.specs.Costs.{stays_from}
use Rattle.ceu_paths.specs.Cap.{cap}
use Rattle.ceu_bound.specs.declared.tables.Tables.{Tables}
use Rattle.ceu_bound.specs.Parts.{costs, Same}
use Rattle.ceu_bound.specs.Measured as measured
use Rattle.ceu_bound.proofs.CodeTables.{zip_tables, take_end, stay_push}
use Rattle.ceu_bound.proofs.codes.stay_codes.Goals as goal

pub loop-code-preserved : goal.loop-code-preserved
loop-code-preserved c =
    let below : c.loop-code.code-index < length c.args.codes.now = omega arith in
    let P : Tables → Type 0 = λ t. c.in_ok-cost.cost.stay ≡ cap (measured.stay_block t c.code-item.result.body) in
    let made = subst P c.loop-code.invariant.0 c.in_ok-cost.ensures.stay in
    let T : Tables = record c.args.tables.now { staying = c.loop-code.tables.staying } in (
      ap (λ (t : Tables). record t { staying = c.push.new.self }) c.loop-code.invariant.0,
      λ E N events entering. stay_push T E N c.args.codes.now c.loop-code.code-index c.code-item.result c.in_ok-cost.cost.stay below c.code-item.is events entering made (c.loop-code.invariant.1 E N events entering) c.push.new.self.items c.in_ok-push.ensures.items,
    )

pub returns-clause-staying : goal.returns-clause-staying
returns-clause-staying c = λ E N events entering.
    let P : List KCode → Type 0 = λ cs. AllZip (Same c.args.tables.now.part) (costs c.loop-code.tables.staying.items) (stays_from c.args.tables.now.passing.items E N [] cs) in
    zip_tables c.args.tables.now.part _ _ (subst P (take_end c.loop-code.code-index c.args.codes.now c.loop-code-test.false) (c.loop-code.invariant.1 E N events entering))
