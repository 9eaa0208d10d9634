use Rattle.std.proofs.Common.{List, ℕ, sym, subst}
use Rattle.ceu_bound.specs.Graph.{NeverRises}
use Rattle.ceu_bound.proofs.GraphLaws.{none_rises}
use Rattle.ceu_bound.proofs.bounds.numbers.Goals as goal

pub returns : goal.returns
returns c =
    let P : List ℕ → Type 0 = λ n. NeverRises n c.args.arrows.now in
    subst P (sym c.new.ensures.items) (none_rises c.args.arrows.now)
