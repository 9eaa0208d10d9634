-- The kinds of the tokens of printed expressions, calls and awaits, before those that follow.
use Rattle.std.specs.Prelude.{ℕ, suc, List, [], ◌∷◌, Option, Some, None, if◌then◌else◌, nat_lt}
use Rattle.ceu_tree.specs.declared.source.Exp.{Exp}
use Rattle.ceu_tree.specs.declared.source.ExpNode as exp
use Rattle.ceu_tree.specs.declared.source.ExpNode.{ExpNode, Row_of-Exp, end_of-Exp, more_of-Exp, One', Two', As'}
use Rattle.ceu_tree.specs.declared.source.Call.{Call}
use Rattle.ceu_tree.specs.declared.source.Spawn.{Spawn}
use Rattle.ceu_tree.specs.declared.source.Target.{Target}
use Rattle.ceu_tree.specs.declared.source.Target.TheVariants as target
use Rattle.ceu_tree.specs.declared.source.Await.{Await}
use Rattle.ceu_tree.specs.declared.source.Await.TheVariants as await
use Rattle.ceu_print.specs.Words.{level}
use Rattle.ceu_print.specs.Expressions.{tightness}
use Rattle.ceu_syntax.specs.declared.terminal.Kind.{Kind}
use Rattle.ceu_syntax.specs.declared.terminal.Kind.TheVariants as k
use Rattle.ceu_syntax.specs.Terminals.{unit_name}
use Rattle.laws_text_printed.specs.ReadingWords.{prefix_kind, binary_kind, lower_kinds, ext_kinds, abs_kinds}

unfoldable mutual
  pub node_kinds : ExpNode → (after : List Kind) → List Kind
  node_kinds (exp.Number n) after = k.Number n ∷ after
  node_kinds (exp.Bool b) after = k.Truth b ∷ after
  node_kinds (exp.Var x) after = lower_kinds x after
  node_kinds (exp.Alive x) after = lower_kinds x (k.Question ∷ after)
  node_kinds (One' op _ a) after = prefix_kind op ∷ operand_kinds 10 a after
  node_kinds (Two' op _ a _ b) after = operand_kinds (level op) a (binary_kind op ∷ operand_kinds (suc (level op)) b after)
  node_kinds (As' _ a t) after = operand_kinds 0 a (k.As ∷ k.Type t ∷ after)

  -- at a place that asks for this level or a tighter one
  pub operand_kinds : ℕ → {n : _} → Row_of-Exp n → (after : List Kind) → List Kind
  operand_kinds at end_of-Exp after = after
  operand_kinds at (more_of-Exp p e rest) after =
      if nat_lt (tightness e) at then k.OpenParen ∷ node_kinds e (k.CloseParen ∷ after) else node_kinds e after

abbrev pub exp_kinds : Exp → (after : List Kind) → List Kind
exp_kinds e after = node_kinds e.node after

-- ---- calls

abbrev pub more_arguments : List Exp → (after : List Kind) → List Kind
more_arguments [] after = after
more_arguments (e ∷ es) after = k.Comma ∷ exp_kinds e (more_arguments es after)

abbrev pub argument_kinds : List Exp → (after : List Kind) → List Kind
argument_kinds [] after = after
argument_kinds (e ∷ es) after = exp_kinds e (more_arguments es after)

-- Abs ( exp, .. )
abbrev pub call_kinds : Call → (after : List Kind) → List Kind
call_kinds c after = abs_kinds c.code (k.OpenParen ∷ argument_kinds c.args (k.CloseParen ∷ after))

abbrev pub spawn_kinds : Spawn → (after : List Kind) → List Kind
spawn_kinds s after = k.Spawn ∷ call_kinds s.call (k.In ∷ lower_kinds s.pool after)

-- ---- awaits

abbrev pub target_kinds : Target → (after : List Kind) → List Kind
target_kinds (target.Ext x) after = ext_kinds x after
target_kinds (target.Event x) after = lower_kinds x after
target_kinds (target.Time us) after = k.Time us ∷ after
target_kinds (target.TimeExp e u) after = k.OpenParen ∷ exp_kinds e (k.CloseParen ∷ k.Lower (unit_name u) ∷ after)

abbrev pub until_kinds : Option Exp → (after : List Kind) → List Kind
until_kinds None after = after
until_kinds (Some e) after = k.Until ∷ exp_kinds e after

abbrev pub awaited_kinds : Await → (after : List Kind) → List Kind
awaited_kinds await.Forever after = k.Forever ∷ after
awaited_kinds (await.Code c) after = call_kinds c after
awaited_kinds (await.On t e) after = target_kinds t (until_kinds e after)
