use Rattle.std.proofs.Common.{ap, ◌+◌, suc, pos}
use Rattle.ceu_tree.specs.Residual.{Act, Finish, Run}
use Rattle.ceu_tree.specs.Focus.{leaf}
use Rattle.ceu_tree.specs.Step.{event_code}
use Rattle.laws_meaning_basics.specs.Shape.{program_part, pauses}
use Rattle.laws_bounds_reach.proofs.Bodies.{woken_costs, emitted_fits}
use Rattle.laws_bounds_reach.proofs.emissions_wake.Goals as goal

pub returns : goal.returns
returns c = λ P E N K n f s e x v proper t l q.
    woken_costs P E N (n + 1) e v {A = Act} K (suc n) f (Run n (Finish s (pos 0))) (program_part K) t.part (event_code e K.events) t.around
    (emitted_fits K n t.part (leaf f) s (pos 0) t.acts l (ap pauses q))
