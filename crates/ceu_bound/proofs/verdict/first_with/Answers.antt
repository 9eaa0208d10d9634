use Rattle.std.proofs.Common.{sym, subst}
use Rattle.std.specs.Prelude.{Option, ◌++◌, ◌∷◌, []}
use Rattle.ceu_paths.specs.Found.{seen}
use Rattle.ceu_bound.specs.declared.verdict.Broken.{Broken}
use Rattle.ceu_bound.specs.Verdict.{IsFirstOf}
use Rattle.ceu_bound.proofs.VerdictLaws.{first_more, first_kept}
use Rattle.ceu_bound.proofs.verdict.first_with.Goals as goal

pub returns-then-is_behind : goal.returns-then-is_behind
returns-then-is_behind c = λ ls h. first_kept c.args.passing.now c.args.arrows.now ls (seen c.args.found.now) c.args.first (cc (c.is_behind.ensures, c.if-is_behind.true)) h

pub returns : goal.returns
returns c = λ ls h.
    let R : Option Broken → Type 0 = λ f. IsFirstOf c.args.passing.now c.args.arrows.now (ls ++ seen c.args.found.now ∷ []) f in
    subst R (sym c.earlier.ensures) (first_more c.args.passing.now c.args.arrows.now ls (seen c.args.found.now) c.args.first c.in_ok-rule.rule h c.in_ok-rule.ensures)
