use Rattle.std.proofs.Common.{◌≡◌, ◌+◌, ◌*◌, drop}
use Rattle.ceu_tree.specs.Greatest.{total}
use Rattle.ceu_tree.specs.Weight.{exp_count}
use Rattle.ceu_asm.specs.Pages.{Page}
use Rattle.ceu_shape.specs.Pieces.{Added}
use Rattle.ceu_shape.specs.Shape.{exp_parts}
use Rattle.ceu_low_expr.specs.Conditions.{HasRoom}
use Rattle.ceu_codegen.specs.Conditions.{AllName, planned}
use Rattle.ceu_codegen.proofs.expressions.lower_all.Given as goal

abbrev pub invariant-loop-exp : goal.invariant-loop-exp
invariant-loop-exp g l =
    let p = g.P.Places.planned l.places in
    let plan = planned p l.gates in
    record {
      whole : (new : Page) → Added l.sheet new (exp_parts plan l.kernel l.at (drop l.exp-index l.exps)) → Added l.initial.sheet new (exp_parts plan l.kernel l.begin l.exps);
      names : AllName p.slot_count (drop l.exp-index l.exps);
      room : HasRoom l.sheet (total exp_count (drop l.exp-index l.exps));
      at : l.at ≡ l.begin + 2 * l.exp-index;
    }
