-- Of tokens that are spelled, what is printed of an expression, a call or an await is spelled, and so are the tokens that follow it.
use Rattle.std.proofs.Common.{ℕ, suc, Bool, true, false, List, ◌∷◌, if◌then◌else◌, subst}
use Rattle.std.specs.Prelude.{nat_lt}
use Rattle.ceu_base.specs.declared.kinds.Op1.{Op1}
use Rattle.ceu_base.specs.declared.kinds.Op1.TheVariants as op1
use Rattle.ceu_base.specs.declared.kinds.Op2.{Op2}
use Rattle.ceu_base.specs.declared.kinds.Op2.TheVariants as op2
use Rattle.ceu_tree.specs.declared.source.Ident.{Ident}
use Rattle.ceu_tree.specs.declared.source.Exp.{Exp}
use Rattle.ceu_tree.specs.declared.source.ExpNode.TheBlock.{hidden-the_row-Exp-0}
use Rattle.ceu_tree.specs.declared.source.Call.{Call}
use Rattle.ceu_tree.specs.declared.source.Spawn.{Spawn}
use Rattle.ceu_tree.specs.declared.source.Target.{Target}
use Rattle.ceu_tree.specs.declared.source.Await.{Await}
use Rattle.ceu_print.specs.Words.{level}
use Rattle.ceu_print.specs.Expressions.{tightness}
use Rattle.ceu_syntax.specs.declared.terminal.Kind.{Kind}
use Rattle.ceu_syntax.specs.declared.terminal.Kind.TheVariants as k
use Rattle.ceu_syntax.specs.declared.terminal.Terminal.{Terminal}
use Rattle.ceu_syntax.specs.Terminals.{unit_name}
use Rattle.ceu_syntax.specs.Expressions.{Location, is_here, is_outer, Expression, is_number, is_truth, is_variable, is_alive, is_paren, is_prefix, is_binary, is_cast, Arguments, last_argument, one_argument, Calls, calls_empty, calls_with, Spawns, spawns, Targets, is_input, is_event, is_time, is_time_expression, Awaits, is_forever, is_code, is_target, is_until}
use Rattle.laws_text_printed.specs.ReadingWords.{prefix_kind, binary_kind, lower_kinds}
use Rattle.laws_text_printed.specs.Expressions.{node_kinds, exp_kinds, argument_kinds, call_kinds, spawn_kinds, target_kinds, awaited_kinds}
use Rattle.laws_text_printed.specs.Spelled.{IsSpelled, AllSpelled, TokensSpelled}
use Rattle.laws_text_printed.proofs.ReadingExpressions.{comma_first}
use denote.Hole.Carrier

pub record Kept (tokens : List Terminal) (kinds : List Kind → List Kind) : Type 0 where
  pub rest : TokensSpelled tokens
  pub printed : (after : List Kind) → AllSpelled after → AllSpelled (kinds after)

-- ---- expressions

prefix_spelled : (op : Op1) → IsSpelled (prefix_kind op)
prefix_spelled op1.Not = tt
prefix_spelled _ = tt

binary_spelled : (op : Op2) → IsSpelled (binary_kind op)
binary_spelled op2.Or = tt
binary_spelled _ = tt

pub location_kept : {tokens : List Terminal} {x : Ident} {rest : List Terminal} → Location tokens x rest → TokensSpelled tokens → Kept rest (lower_kinds x)
location_kept (is_here x at rest) h = record { rest = h.1; printed = λ after g. (h.0, g) }
location_kept (is_outer x at dot name rest) h = record { rest = h.1.1.1; printed = λ after g. (tt, (tt, (h.1.1.0, g))) }

enclosed_spelled : (e : Exp) → ((after : List Kind) → AllSpelled after → AllSpelled (exp_kinds e after)) → (loose : Bool) (after : List Kind) → AllSpelled after
    → AllSpelled (if loose then k.OpenParen ∷ node_kinds e.node (k.CloseParen ∷ after) else node_kinds e.node after)
enclosed_spelled e f true after g = (tt, f (k.CloseParen ∷ after) (tt, g))
enclosed_spelled e f false after g = f after g

abbrev at_level : ℕ → Exp → List Kind → List Kind
at_level q e after = if nat_lt (tightness e.node) q then k.OpenParen ∷ node_kinds e.node (k.CloseParen ∷ after) else node_kinds e.node after

pub expression_kept : {l : ℕ} {tokens : List Terminal} {e : Exp} {rest : List Terminal} → Expression l tokens e rest → TokensSpelled tokens → Kept rest (exp_kinds e)
unfolding node_kinds hidden-the_row-Exp-0 Carrier.hidden
expression_kept (is_number n at rest) h = record { rest = h.1; printed = λ after g. (h.0, g) }
expression_kept (is_truth b at rest) h = record { rest = h.1; printed = λ after g. (tt, g) }
expression_kept (is_variable d) h = let r = location_kept d h in record { rest = r.rest; printed = λ after g. r.printed after g }
expression_kept (is_alive x at mark rest) h = record { rest = h.1.1; printed = λ after g. (h.0, (tt, g)) }
expression_kept (is_paren at close d) h = let r = expression_kept d h.1 in record { rest = r.rest.1; printed = r.printed }
expression_kept (is_prefix {e = e} kind op at c known d) h =
    let r = expression_kept d h.1 in
    record { rest = r.rest; printed = λ after g. (prefix_spelled op, enclosed_spelled e r.printed (nat_lt (tightness e.node) 10) after g) }
expression_kept (is_binary {a = a} {b = b} kind op at c known d e) h =
    let r = expression_kept d h in
    let s = expression_kept e r.rest.1 in
    record {
      rest = s.rest;
      printed = λ after g. enclosed_spelled a r.printed (nat_lt (tightness a.node) (level op)) (binary_kind op ∷ at_level (suc (level op)) b after)
          (binary_spelled op, enclosed_spelled b s.printed (nat_lt (tightness b.node) (suc (level op))) after g);
    }
expression_kept (is_cast {e = e} ty at last d) h =
    let r = expression_kept d h in
    record { rest = r.rest.1.1; printed = λ after g. enclosed_spelled e r.printed (nat_lt (tightness e.node) 0) (k.As ∷ k.Type ty ∷ after) (tt, (tt, g)) }

-- ---- calls

arguments_kept : {tokens : List Terminal} {es : List Exp} {rest : List Terminal} → Arguments tokens es rest → TokensSpelled tokens → Kept rest (argument_kinds es)
arguments_kept (last_argument close d) h = let r = expression_kept d h in record { rest = r.rest.1; printed = r.printed }
arguments_kept (one_argument {e = e} {es = es} comma d m) h =
    let r = expression_kept d h in
    let s = arguments_kept m r.rest.1 in
    record { rest = s.rest; printed = λ after g. subst (λ kinds. AllSpelled (exp_kinds e kinds)) (comma_first m after) (r.printed (k.Comma ∷ argument_kinds es after) (tt, s.printed after g)) }

pub calls_kept : {tokens : List Terminal} {c : Call} {rest : List Terminal} → Calls tokens c rest → TokensSpelled tokens → Kept rest (call_kinds c)
calls_kept (calls_empty x at paren close rest) h = record { rest = h.1.1.1; printed = λ after g. (h.0, (tt, (tt, g))) }
calls_kept (calls_with x at paren d) h = let r = arguments_kept d h.1.1 in record { rest = r.rest; printed = λ after g. (h.0, (tt, r.printed (k.CloseParen ∷ after) (tt, g))) }

pub spawns_kept : {tokens : List Terminal} {s : Spawn} {rest : List Terminal} → Spawns tokens s rest → TokensSpelled tokens → Kept rest (spawn_kinds s)
spawns_kept (spawns x at into name d) h = let r = calls_kept d h.1 in record { rest = r.rest.1.1; printed = λ after g. (tt, r.printed (k.In ∷ k.Lower x ∷ after) (tt, (r.rest.1.0, g))) }

-- ---- awaits

pub targets_kept : {tokens : List Terminal} {t : Target} {rest : List Terminal} → Targets tokens t rest → TokensSpelled tokens → Kept rest (target_kinds t)
targets_kept (is_input x at rest) h = record { rest = h.1; printed = λ after g. (h.0, g) }
targets_kept (is_event d) h = let r = location_kept d h in record { rest = r.rest; printed = r.printed }
targets_kept (is_time n at rest) h = record { rest = h.1; printed = λ after g. (h.0, g) }
targets_kept (is_time_expression unit paren close name d) h =
    let r = expression_kept d h.1 in
    record { rest = r.rest.1.1; printed = λ after g. (tt, r.printed (k.CloseParen ∷ k.Lower (unit_name unit) ∷ after) (tt, (r.rest.1.0, g))) }

pub awaits_kept : {tokens : List Terminal} {a : Await} {rest : List Terminal} → Awaits tokens a rest → TokensSpelled tokens → Kept rest (awaited_kinds a)
awaits_kept (is_forever at rest) h = record { rest = h.1; printed = λ after g. (tt, g) }
awaits_kept (is_code d) h = let r = calls_kept d h in record { rest = r.rest; printed = r.printed }
awaits_kept (is_target d) h = let r = targets_kept d h in record { rest = r.rest; printed = r.printed }
awaits_kept (is_until {e = e} until d g) h =
    let r = targets_kept d h in
    let s = expression_kept g r.rest.1 in
    record { rest = s.rest; printed = λ after u. r.printed (k.Until ∷ exp_kinds e after) (tt, s.printed after u) }
