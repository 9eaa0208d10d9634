-- How many operators the parser counts behind a token.
use Rattle.std.proofs.Common.{◌≡◌, ◌∙◌, sym, ap, subst, ℕ, Bool, true, false, List, Some, if◌then◌else◌}
use Rattle.ceu_base.specs.declared.kinds.Pos.{Pos}
use Rattle.ceu_syntax.specs.declared.terminal.Kind.{Kind}
use Rattle.ceu_syntax.specs.declared.machine.Frame.{Frame}
use Rattle.ceu_syntax.specs.declared.machine.Mode.{Mode}
use Rattle.ceu_syntax.specs.Counts.{counted, in_expression}
use Rattle.ceu_syntax.specs.Limits.{operator_count}
use Rattle.ceu_syntax.specs.Steps.{moved, state}
use Rattle.ceu_syntax.proofs.Counting.{Counted}
use Rattle.ceu_syntax.proofs.CountingAll.{moved_count}

pub tallied : (kind : Kind) (at : Pos) (K L : List Frame) (mode next : Mode) (n inside : ℕ) → n ≡ operator_count (state K mode) → inside ≡ counted true kind n → moved kind at K mode ≡ Some (state L next) →
    (if in_expression next then inside else 0) ≡ operator_count (state L next)
tallied kind at K L mode next n inside h i e = go (in_expression next) (subst (λ x. Counted kind (operator_count (state K mode)) x) e (moved_count kind at K mode))
  where
    go : (b : Bool) → operator_count (state L next) ≡ counted b kind (operator_count (state K mode)) → (if b then inside else 0) ≡ operator_count (state L next)
    go true c = i ∙ ap (λ j. counted true kind j) h ∙ sym c
    go false c = sym c
