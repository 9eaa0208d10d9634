use Rattle.std.proofs.Common.{arith}
use Rattle.ceu_bound.proofs.GraphLaws.{path_falls}
use Rattle.ceu_bound.proofs.graph.reaches_by_number.Goals as goal

pub returns-then-number_of-clause-none : goal.returns-then-number_of-clause-none
returns-then-number_of-clause-none c = λ no path.
    absurd (omega (arith, path_falls c.args.numbers.now c.args.arrows.now c.args.source c.args.target c.requires path))
