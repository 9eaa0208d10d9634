-- The tokens behind an expression, a call, an await or a list of names are among those before it.
use Rattle.std.proofs.Common.{ℕ, List}
use Rattle.ceu_tree.specs.declared.kernel.ParKind.{ParKind}
use Rattle.ceu_tree.specs.declared.source.Ident.{Ident}
use Rattle.ceu_tree.specs.declared.source.Exp.{Exp}
use Rattle.ceu_tree.specs.declared.source.Call.{Call}
use Rattle.ceu_syntax.specs.declared.machine.Case.TheVariants as case
use Rattle.ceu_syntax.specs.declared.terminal.Terminal.{Terminal}
use Rattle.ceu_syntax.specs.Expressions.{Location, is_here, is_outer, Expression, is_number, is_truth, is_variable, is_alive, is_paren, is_prefix, is_binary, is_cast, Arguments, last_argument, one_argument, Calls, calls_empty, calls_with}
use Rattle.ceu_syntax.specs.Forms.{Names, last_name, one_name, Shares, no_list, empty_list, shared, Pars, is_never, is_or, is_and, Emits, emits_output, emits_event}
use Rattle.laws_kernel_shape.specs.Shaped.{AllOf}

module _ (P : Terminal → Type 0) where
  pub behind_location : {tokens : List Terminal} {x : Ident} {rest : List Terminal} → Location tokens x rest → AllOf P tokens → AllOf P rest
  behind_location (is_here x at rest) h = h.1
  behind_location (is_outer x at dot name rest) h = h.1.1.1

  pub behind_expression : {p : ℕ} {tokens : List Terminal} {e : Exp} {rest : List Terminal} → Expression p tokens e rest → AllOf P tokens → AllOf P rest
  behind_expression (is_number n at rest) h = h.1
  behind_expression (is_truth b at rest) h = h.1
  behind_expression (is_variable l) h = behind_location l h
  behind_expression (is_alive x at mark rest) h = h.1.1
  behind_expression (is_paren at close d) h = (behind_expression d h.1).1
  behind_expression (is_prefix kind op at le is d) h = behind_expression d h.1
  behind_expression (is_binary kind op at le is a b) h = behind_expression b (behind_expression a h).1
  behind_expression (is_cast ty at last d) h = (behind_expression d h).1.1

  behind_arguments : {tokens : List Terminal} {es : List Exp} {rest : List Terminal} → Arguments tokens es rest → AllOf P tokens → AllOf P rest
  behind_arguments (last_argument close d) h = (behind_expression d h).1
  behind_arguments (one_argument comma d m) h = behind_arguments m (behind_expression d h).1

  pub behind_call : {tokens : List Terminal} {c : Call} {rest : List Terminal} → Calls tokens c rest → AllOf P tokens → AllOf P rest
  behind_call (calls_empty x at paren close rest) h = h.1.1.1
  behind_call (calls_with x at paren d) h = behind_arguments d h.1.1

  pub behind_lowers : {tokens : List Terminal} {xs : List Ident} {rest : List Terminal} → Names case.Lower tokens xs rest → AllOf P tokens → AllOf P rest
  behind_lowers (last_name x at rest) h = h.1
  behind_lowers (one_name x at comma d) h = behind_lowers d h.1.1

  pub behind_shares : {tokens : List Terminal} {xs : List Ident} {rest : List Terminal} → Shares tokens xs rest → AllOf P tokens → AllOf P rest
  behind_shares (no_list rest) h = h
  behind_shares (empty_list paren close rest) h = h.1.1
  behind_shares (shared paren close d) h = (behind_lowers d h.1).1

  pub behind_pars : {tokens : List Terminal} {kind : ParKind} {rest : List Terminal} → Pars tokens kind rest → AllOf P tokens → AllOf P rest
  behind_pars (is_never rest) h = h
  behind_pars (is_or slash at rest) h = h.1.1
  behind_pars (is_and slash at rest) h = h.1.1

  pub behind_emits : {tokens : List Terminal} {x : Ident} {rest : List Terminal} → Emits tokens x rest → AllOf P tokens → AllOf P rest
  behind_emits (emits_output x at rest) h = h.1
  behind_emits (emits_event l) h = behind_location l h
