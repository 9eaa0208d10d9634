use Rattle.std.proofs.Common.{◌≡◌, ◌∙◌, ◌+◌, max, ap, arith}
use Rattle.ceu_tree.specs.Costs.{bounds}
use Rattle.ceu_paths.specs.Cap.{cap}
use Rattle.ceu_bound.specs.Parts.{pick, turn}
use Rattle.ceu_bound.specs.Measured.{enter_block, stay_block}
use Rattle.ceu_bound.proofs.BoundLaws.{bounds_same}
use Rattle.ceu_bound.proofs.bounds.part_bound.Goals as goal

pub returns : goal.returns
returns c =
    let tables = c.in_ok-tables.tables in
    let body = c.args.kernel.now.body in
    let made : c.max.result ≡ cap (max (turn tables.part + enter_block tables body) (stay_block tables body)) =
    omega (arith, c.max.ensures, c.plus.ensures, c.turn.ensures, c.in_ok-main.ensures.enter, c.in_ok-main.ensures.stay) in
    made ∙ bounds_same c.args.kernel.now tables c.in_ok-tables.ensures.tables ∙ ap (λ w. cap (pick w (bounds c.args.kernel.now))) c.in_ok-tables.ensures.part
