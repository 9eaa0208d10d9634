use Rattle.std.proofs.Common.{◌≡◌, ◌<◌, ◌∷◌, [], List, ℕ, sym, subst}
use Rattle.std.specs.Prelude.{Some, None, find}
use Rattle.ceu_bound.specs.Graph.{is_member, is_open}
use Rattle.ceu_bound.proofs.GraphLaws.{Reached, open_count, reached_first, reached_more, search_falls, path_closed}
use Rattle.ceu_bound.proofs.graph.reaches_slowly.Goals as goal

pub search-init : goal.search-init
search-init c =
    let made : c.push.new.self.items ≡ c.args.source ∷ [] = cc (c.in_ok-push.ensures.items, c.new-reached.ensures.items) in
    let P : List ℕ → Type 0 = λ r. Reached c.args.arrows.now c.args.source r in
    subst P (sym made) (reached_first c.args.arrows.now c.args.source)

pub search-smaller : goal.search-smaller
search-smaller c =
    let found : find (is_open c.search.reached.items) c.args.arrows.now ≡ Some c.in-Some.arrow = cc (c.in-Some.ensures, c.deref.ensures.value) in
    let P : List ℕ → Type 0 = λ r. open_count r c.args.arrows.now < open_count c.search.reached.items c.args.arrows.now in
    subst P (sym c.in_ok-push-in-Some.ensures.items) (search_falls c.search.reached.items c.args.arrows.now c.in-Some.arrow found)

pub search-preserved : goal.search-preserved
search-preserved c =
    let found : find (is_open c.search.reached.items) c.args.arrows.now ≡ Some c.in-Some.arrow = cc (c.in-Some.ensures, c.deref.ensures.value) in
    let P : List ℕ → Type 0 = λ r. Reached c.args.arrows.now c.args.source r in
    subst P (sym c.in_ok-push-in-Some.ensures.items) (reached_more c.args.arrows.now c.args.source c.search.reached.items c.in-Some.arrow c.search.invariant found)

pub returns-in-None-clause-none : goal.returns-in-None-clause-none
returns-in-None-clause-none c = λ no path.
    let closed : find (is_open c.search.reached.items) c.args.arrows.now ≡ None = cc (c.in-None.ensures, c.deref.ensures.value) in
    let yes = path_closed c.search.reached.items c.args.arrows.now c.args.source c.args.target closed path c.search.invariant.begun in
    let answer : c.is_member.result ≡ is_member c.args.target c.search.reached.items = cc (c.is_member.ensures, c.deref-in-None.ensures.value) in
    absurd (cc (yes, no, answer))
