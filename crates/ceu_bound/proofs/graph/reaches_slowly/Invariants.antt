use Rattle.ceu_bound.proofs.GraphLaws.{Reached, open_count}
use Rattle.ceu_bound.proofs.graph.reaches_slowly.Given as goal

abbrev pub invariant-search : goal.invariant-search
invariant-search l = Reached l.arrows l.source l.reached.items

abbrev pub decreases-search : goal.decreases-search
decreases-search l = open_count l.reached.items l.arrows
