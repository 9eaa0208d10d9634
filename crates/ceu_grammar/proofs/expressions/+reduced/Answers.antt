use Rattle.std.proofs.Common.{refl, sym, ap, ◌∙◌, arith, length}
use Rattle.ceu_syntax.specs.Steps.{reduce}
use Rattle.ceu_grammar.proofs.Folding as folding
use Rattle.ceu_grammar.proofs.expressions.+reduced.Goals as goal

pub reduced-requires : goal.reduced-requires
reduced-requires t c = omega (arith, ap length c.in-Some.ensures)

pub returns-in-Ok-Done : goal.returns-in-Ok-Done
returns-in-Ok-Done t c = let h = rw c.in-Ok-Done.field-0-is at c.in-Ok-Done.ensures in folding.reduces_as _ _ _ _ (sym (h _) ∙ ap (λ l. reduce c.args.least c.args.e l) (sym c.in-Some.ensures)) c.reduced.ensures

pub returns-in-Ok-Kept : goal.returns-in-Ok-Kept
returns-in-Ok-Kept t c = let h = rw c.in-Ok-Kept.field-0-is at c.in-Ok-Kept.ensures in folding.reduces_as _ _ _ _ (sym (h _) ∙ ap (λ l. reduce c.args.least c.args.e l) (sym c.in-Some.ensures)) c.kept.ensures

pub returns-in-Err : goal.returns-in-Err
returns-in-Err t c = folding.stops _ _ _ _ _ _ c.in-Err.ensures

pub returns-in-None : goal.returns-in-None
returns-in-None t c = rw c.in-None.ensures.0 (rw c.in-None.ensures.1 refl)
