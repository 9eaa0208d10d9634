-- Levels and operators behind some beginnings of programs, by computation.
use Rattle.std.proofs.Common.{◌≡◌, refl, ℕ, Bool, true, false, List, [], ◌∷◌, Option, Some}
use Rattle.std.specs.Prelude.{map, option_map}
use Rattle.ceu_base.specs.declared.kinds.Pos.{Pos}
use Rattle.ceu_base.specs.declared.kinds.Ty.TheVariants as ty
use Rattle.ceu_tree.specs.declared.source.ExpNode.TheBlock.{hidden-the_row-Exp-0}
use denote.Hole.Carrier
use Rattle.ceu_syntax.specs.Levels.{level_count}
use Rattle.ceu_syntax.specs.Limits.{levels, node_operators, open_operators, operator_count, operators}
use Rattle.ceu_syntax.specs.Runs.{begun, run}
use Rattle.ceu_syntax.specs.Steps.{State}
use Rattle.ceu_syntax.specs.Terminals.{token}
use Rattle.ceu_syntax.specs.declared.terminal.Kind.{Kind}
use Rattle.ceu_syntax.specs.declared.terminal.Kind.TheVariants as k

here : Pos
here = record { line = 1; col = 1 }

x : Kind
x = k.Lower (120 ∷ [])

behind : List Kind → Option State
behind kinds = run (map (λ kind. token kind here) kinds) begun

-- the levels behind these tokens, by whether `finalize` follows
open_levels : List Kind → Bool → Option ℕ
open_levels kinds finalize = option_map (λ s. levels s finalize) (behind kinds)

open_operands : List Kind → Option ℕ
open_operands kinds = option_map operator_count (behind kinds)

-- do do
two_blocks : open_levels (k.Do ∷ k.Do ∷ []) false ≡ Some 2
unfolding open_levels behind run level_count
two_blocks = refl

-- do do (finalize): the `do` of the statement doesn't open
before_finalize : open_levels (k.Do ∷ k.Do ∷ []) true ≡ Some 1
unfolding open_levels behind run level_count
before_finalize = refl

-- do do finalize with
behind_with : open_levels (k.Do ∷ k.Do ∷ k.Finalize ∷ k.With ∷ []) false ≡ Some 2
unfolding open_levels behind run level_count
behind_with = refl

-- do x = do (finalize): the `do` of a source opens
in_source : open_levels (k.Do ∷ x ∷ k.Assign ∷ k.Do ∷ []) true ≡ Some 2
unfolding open_levels behind run level_count x
in_source = refl

-- do / x
labelled : open_levels (k.Do ∷ k.Slash ∷ x ∷ []) false ≡ Some 1
unfolding open_levels behind run level_count x
labelled = refl

-- await (: the parenthesis of a time opens none
of_time : open_levels (k.Await ∷ k.OpenParen ∷ []) false ≡ Some 0
unfolding open_levels behind run level_count
of_time = refl

-- escape ((
in_expression : open_levels (k.Escape ∷ k.OpenParen ∷ k.OpenParen ∷ []) false ≡ Some 2
unfolding open_levels behind run level_count
in_expression = refl

-- escape 1 + - 2 * x ? as u8
five_operators : open_operands (k.Escape ∷ k.Number 1 ∷ k.Plus ∷ k.Minus ∷ k.Number 2 ∷ k.Star ∷ x ∷ k.Question ∷ k.As ∷ k.Type ty.U8 ∷ []) ≡ Some 5
unfolding open_operands behind run open_operators operators node_operators hidden-the_row-Exp-0 Carrier.hidden x
five_operators = refl

-- escape (1 + 2) *: those in a parenthesis count with those around it
around_paren : open_operands (k.Escape ∷ k.OpenParen ∷ k.Number 1 ∷ k.Plus ∷ k.Number 2 ∷ k.CloseParen ∷ k.Star ∷ []) ≡ Some 2
unfolding open_operands behind run open_operators operators node_operators hidden-the_row-Exp-0 Carrier.hidden
around_paren = refl

-- loop x in [1 + 2 -> -: each end of a range by itself
ends_of_range : open_operands (k.Loop ∷ x ∷ k.In ∷ k.OpenBracket ∷ k.Number 1 ∷ k.Plus ∷ k.Number 2 ∷ k.Arrow ∷ k.Minus ∷ []) ≡ Some 1
unfolding open_operands behind run open_operators operators node_operators hidden-the_row-Exp-0 Carrier.hidden x
ends_of_range = refl
