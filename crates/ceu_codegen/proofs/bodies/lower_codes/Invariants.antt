use Rattle.std.proofs.Common.{drop}
use Rattle.ceu_tree.specs.Greatest.{total}
use Rattle.ceu_tree.specs.Weight.{code_weight}
use Rattle.ceu_asm.specs.Pages.{Page}
use Rattle.ceu_shape.specs.Pieces.{Added}
use Rattle.ceu_shape.specs.Shape.{codes_draft}
use Rattle.ceu_low_expr.specs.Conditions.{HasRoom}
use Rattle.ceu_codegen.specs.Conditions.{CodesFit, planned}
use Rattle.ceu_codegen.proofs.bodies.lower_codes.Given as goal

abbrev pub invariant-loop-code : goal.invariant-loop-code
invariant-loop-code g l =
    let p = g.P.Places.planned l.places in
    let plan = planned p l.gates in
    record {
      whole : (new : Page) → Added l.sheet new (codes_draft plan l.kernel (drop l.code-index l.codes)) → Added l.initial.sheet new (codes_draft plan l.kernel l.codes);
      fits : CodesFit p l.gates l.kernel (drop l.code-index l.codes);
      room : HasRoom l.sheet (total code_weight (drop l.code-index l.codes));
    }
