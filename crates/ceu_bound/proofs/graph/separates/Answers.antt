use Rattle.std.proofs.Common.{◌≡◌, true}
use Rattle.std.specs.Prelude.{None, find}
use Rattle.ceu_tree.specs.Paths.{flag}
use Rattle.ceu_bound.specs.Graph.{leaks}
use Rattle.ceu_bound.proofs.GraphLaws.{path_marked}
use Rattle.ceu_bound.proofs.graph.separates.Goals as goal

pub returns-in-None : goal.returns-in-None
returns-in-None c = λ yes path.
    let closed : find (leaks c.args.marks.now) c.args.arrows.now ≡ None = cc (c.in-None.ensures) in
    let begun : flag c.args.source c.args.marks.now ≡ true = cc (c.is_marked.ensures, c.if-not-is_marked.false) in
    let reached = path_marked c.args.marks.now c.args.arrows.now c.args.source c.args.target closed path begun in
    absurd (cc (reached, c.is_marked-2.ensures, c.if-is_marked.false))
