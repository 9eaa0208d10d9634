use Rattle.std.proofs.Common.{◌∙◌, ◌<◌, ◌++◌, ◌∷◌, [], List, length, take, map, ap, sym, subst, arith}
use Rattle.ceu_paths.specs.Loops.{TrailLoop}
use Rattle.ceu_paths.specs.Found.{seen}
use Rattle.ceu_paths.specs.declared.loops.FoundLoop.{FoundLoop}
use Rattle.ceu_bound.specs.Verdict.{IsFirstOf}
use Rattle.ceu_bound.proofs.VerdictLaws.{seen_take}
use Rattle.ceu_bound.proofs.CodeTables.{take_end}
use Rattle.ceu_bound.proofs.verdict.first_broken.Goals as goal

pub loop-found-preserved : goal.loop-found-preserved
loop-found-preserved c =
    let below : c.loop-found.found-index < length c.args.loops.now = omega arith in
    let before = map seen (take c.loop-found.found-index c.args.loops.now) in
    let more = seen_take c.args.loops.now c.loop-found.found-index c.found-item.result below ∙ ap (λ (l : FoundLoop). before ++ seen l ∷ []) (sym c.found-item.is) in
    let Q : List TrailLoop → Type 0 = λ ls. IsFirstOf c.args.passing.now c.args.arrows.now ls c.in_ok-first.first in
    subst Q (sym more) (c.in_ok-first.ensures before c.loop-found.invariant)

pub returns : goal.returns
returns c =
    let Q : List FoundLoop → Type 0 = λ ls. IsFirstOf c.args.passing.now c.args.arrows.now (map seen ls) c.loop-found.first in
    subst Q (take_end c.loop-found.found-index c.args.loops.now c.loop-found-test.false) c.loop-found.invariant
