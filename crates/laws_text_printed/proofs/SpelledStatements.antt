-- The same of statements.
use Rattle.std.proofs.Common.{sym, ℕ, ◌<◌, Bool, true, false, List, [], ◌∷◌, Option, if◌then◌else◌, subst, arith}
use Rattle.std.specs.Prelude.{nat_le}
use Rattle.ceu_tree.specs.declared.source.Source.{Source}
use Rattle.ceu_tree.specs.declared.source.Source.TheBlock.{hidden-the_row-Item-0, hidden-the_row-Arm-1, hidden-the_row-Block-2, hidden-the_row-Node-3}
use Rattle.ceu_tree.specs.declared.source.Item.{Item}
use Rattle.ceu_tree.specs.declared.source.Do.{Do}
use Rattle.ceu_tree.specs.declared.source.Block.{Block, roll-Block}
use Rattle.ceu_tree.specs.declared.source.Node.{Node}
use Rattle.ceu_tree.specs.declared.source.Arm.{Arm}
use Rattle.ceu_tree.specs.declared.source.Stmt.{back-Stmt-If-1}
use Rattle.ceu_syntax.specs.declared.terminal.Kind.TheVariants as k
use Rattle.ceu_syntax.specs.declared.terminal.Terminal.{Terminal}
use Rattle.ceu_syntax.specs.Terminals.{saturated, left_bracket, right_bracket}
use Rattle.ceu_syntax.specs.Trees.{block}
use Rattle.ceu_syntax.specs.Grammar.{Forms, is_nothing, is_break, is_continue, is_vars, is_alias, is_alias_of, is_events, is_inputs, is_outputs, is_pool, is_code, is_assign, is_emit, is_emit_empty, is_emit_value, is_await, is_spawn, is_async, is_await_async, is_do, is_kill, is_escape, is_escape_value, is_escape_label, is_escape_both, is_finalize, is_if, is_loop, is_times, is_range, is_every, is_every_in, is_watching, is_par, Does, does_plain, does_under, does_named, Sources, is_value, is_wait, is_start, is_done, ItemOf, is_bare, is_initial, Items, last_item, one_item, Statement, is_simple, is_ended, Statements, no_more, skips, one_more, Branches, last_branch, one_branch, Arms, no_else, last_else, else_if}
use Rattle.ceu_print.specs.Statements.{ends_in_end}
use Rattle.laws_text_printed.specs.Expressions.{exp_kinds, target_kinds}
use Rattle.laws_text_printed.specs.Statements.{ended_kinds, stmt_kinds, source_kinds, do_kinds, items_kinds, more_items, more_arms, last_kinds, branches_kinds, more_branches, nodes_kinds, block_kinds, body_kinds}
use Rattle.laws_text_printed.specs.Spelled.{IsSpelled, AllSpelled, TokensSpelled}
use Rattle.laws_text_printed.proofs.SpelledExpressions.{Kept, location_kept, expression_kept, spawns_kept, targets_kept, awaits_kept}
use Rattle.laws_text_printed.proofs.SpelledForms.{lowers_kept, exts_kept, shares_kept, params_kept, par_spelled, pars_rest, emits_kept}
use Rattle.laws_text_printed.proofs.Ends.{forms_end, item_comma, branch_with}
use denote.Hole.Carrier

saturated_spelled : (n : ℕ) → IsSpelled (k.Number n) → IsSpelled (k.Number (saturated n))
saturated_spelled n h = go (nat_le n 4294967295)
  where
    go : (b : Bool) → (if b then n else 4294967295) < 18446744073709551616
    go true = h
    go false = omega arith

bracket_spelled : (is_open : Bool) → IsSpelled (left_bracket is_open)
bracket_spelled false = tt
bracket_spelled true = tt

close_spelled : (is_open : Bool) → IsSpelled (right_bracket is_open)
close_spelled false = tt
close_spelled true = tt

mutual
  unfolding stmt_kinds hidden-the_row-Item-0 hidden-the_row-Arm-1 hidden-the_row-Block-2 hidden-the_row-Node-3 roll-Block Carrier.hidden Carrier.roll

  pub forms_kept : {tokens : List Terminal} {n : Node} {b : Bool} {rest : List Terminal} → Forms tokens n b rest → TokensSpelled tokens → Kept rest (stmt_kinds n.stmt)
  forms_kept (is_nothing at rest) h = record { rest = h.1; printed = λ after g. (tt, g) }
  forms_kept (is_break at rest) h = record { rest = h.1; printed = λ after g. (tt, g) }
  forms_kept (is_continue at rest) h = record { rest = h.1; printed = λ after g. (tt, g) }
  forms_kept (is_vars ty at of d) h = let r = items_kept d h.1.1 in record { rest = r.rest; printed = λ after g. (tt, (tt, r.printed after g)) }
  forms_kept (is_alias c x at and mark code name rest) h = record { rest = h.1.1.1.1.1; printed = λ after g. (tt, (tt, (tt, (h.1.1.1.0, (h.1.1.1.1.0, g))))) }
  forms_kept (is_alias_of c x at and mark code name equal d) h =
      let r = spawns_kept d h.1.1.1.1.1.1 in
      record { rest = r.rest; printed = λ after g. (tt, (tt, (tt, (h.1.1.1.0, (h.1.1.1.1.0, (tt, r.printed after g)))))) }
  forms_kept (is_events ty at of d) h = let r = lowers_kept d h.1.1 in record { rest = r.rest; printed = λ after g. (tt, (tt, r.printed after g)) }
  forms_kept (is_inputs ty at of d) h = let r = exts_kept d h.1.1 in record { rest = r.rest; printed = λ after g. (tt, (tt, r.printed after g)) }
  forms_kept (is_outputs ty at of d) h = let r = exts_kept d h.1.1 in record { rest = r.rest; printed = λ after g. (tt, (tt, r.printed after g)) }
  forms_kept (is_pool n c x at left count close code name rest) h =
      record { rest = h.1.1.1.1.1.1; printed = λ after g. (tt, (tt, (saturated_spelled n h.1.1.0, (tt, (h.1.1.1.1.0, (h.1.1.1.1.1.0, g)))))) }
  forms_kept (is_code {ns = ns} c ty at slash wait code paren arrow of begin end d m) h =
      let r = params_kept d h.1.1.1.1.1 in
      let s = statements_kept m r.rest.1.1.1 in
      record {
        rest = s.rest.1;
        printed = λ after g. (tt, (tt, (tt, (h.1.1.1.0, (tt, r.printed (k.CloseParen ∷ k.Arrow ∷ k.Type ty ∷ k.Do ∷ body_kinds (block ns) after) (tt, (tt, (tt, (tt, s.printed (k.End ∷ after) (tt, g))))))))));
      }
  forms_kept (is_assign {source = source} equal l d) h =
      let r = location_kept l h in
      let s = sources_kept d r.rest.1 in
      record { rest = s.rest; printed = λ after g. r.printed (k.Assign ∷ source_kinds source after) (tt, s.printed after g) }
  forms_kept (is_emit at d) h = let r = emits_kept d h.1 in record { rest = r.rest; printed = λ after g. (tt, r.printed after g) }
  forms_kept (is_emit_empty at paren close d) h = let r = emits_kept d h.1 in record { rest = r.rest.1.1; printed = λ after g. (tt, r.printed after g) }
  forms_kept (is_emit_value {e = e} at paren close d m) h =
      let r = emits_kept d h.1 in
      let s = expression_kept m r.rest.1 in
      record { rest = s.rest.1; printed = λ after g. (tt, r.printed (k.OpenParen ∷ exp_kinds e (k.CloseParen ∷ after)) (tt, s.printed (k.CloseParen ∷ after) (tt, g))) }
  forms_kept (is_await at d) h = let r = awaits_kept d h.1 in record { rest = r.rest; printed = λ after g. (tt, r.printed after g) }
  forms_kept (is_spawn d) h = let r = spawns_kept d h in record { rest = r.rest; printed = λ after g. r.printed after g }
  forms_kept (is_async {ns = ns} at begin end d m) h =
      let r = shares_kept d h.1 in
      let s = statements_kept m r.rest.1 in
      record { rest = s.rest.1; printed = λ after g. (tt, r.printed (k.Do ∷ body_kinds (block ns) after) (tt, s.printed (k.End ∷ after) (tt, g))) }
  forms_kept (is_await_async {ns = ns} at async begin end d m) h =
      let r = shares_kept d h.1.1 in
      let s = statements_kept m r.rest.1 in
      record { rest = s.rest.1; printed = λ after g. (tt, r.printed (k.Do ∷ body_kinds (block ns) after) (tt, s.printed (k.End ∷ after) (tt, g))) }
  forms_kept (is_do at d) h = let r = does_kept d h.1 in record { rest = r.rest; printed = λ after g. r.printed after g }
  forms_kept (is_kill x at name rest) h = record { rest = h.1.1; printed = λ after g. (tt, (h.1.0, g)) }
  forms_kept (is_escape at rest) h = record { rest = h.1; printed = λ after g. (tt, g) }
  forms_kept (is_escape_value at d) h = let r = expression_kept d h.1 in record { rest = r.rest; printed = λ after g. (tt, r.printed after g) }
  forms_kept (is_escape_label x at slash name rest) h = record { rest = h.1.1.1; printed = λ after g. (tt, (tt, (h.1.1.0, g))) }
  forms_kept (is_escape_both x at slash name d) h = let r = expression_kept d h.1.1.1 in record { rest = r.rest; printed = λ after g. (tt, (tt, (h.1.1.0, r.printed after g))) }
  forms_kept (is_finalize at finalize with end m) h = let s = statements_kept m h.1.1.1 in record { rest = s.rest.1; printed = λ after g. (tt, (tt, (tt, s.printed (k.End ∷ after) (tt, g)))) }
  forms_kept (is_if {ns = ns} {arms = arms} {last = last} at by d m a) h =
      let r = expression_kept d h.1 in
      let s = statements_kept m r.rest.1 in
      let t = arms_kept a s.rest in
      record {
        rest = t.rest;
        printed = λ after g. let others = more_arms (hidden-the_row-Arm-1 arms) (last_kinds (back-Stmt-If-1 last) after) in (tt, r.printed (k.Then ∷ block_kinds (block ns) others) (tt, s.printed others (t.printed after g)));
      }
  forms_kept (is_loop at begin end m) h = let s = statements_kept m h.1.1 in record { rest = s.rest.1; printed = λ after g. (tt, (tt, s.printed (k.End ∷ after) (tt, g))) }
  forms_kept (is_times n at slash count begin end m) h =
      let s = statements_kept m h.1.1.1.1 in
      record { rest = s.rest.1; printed = λ after g. (tt, (tt, (saturated_spelled n h.1.1.0, (tt, s.printed (k.End ∷ after) (tt, g))))) }
  forms_kept (is_range {b = b} {ns = ns} x open_a open_b at name into left arrow right begin end d e m) h =
      let r = expression_kept d h.1.1.1.1 in
      let s = expression_kept e r.rest.1 in
      let t = statements_kept m s.rest.1.1 in
      record {
        rest = t.rest.1;
        printed = λ after g.
            let body = right_bracket open_b ∷ k.Do ∷ body_kinds (block ns) after in
            (tt, (h.1.0, (tt, (bracket_spelled open_a, r.printed (k.Arrow ∷ exp_kinds b body) (tt, s.printed body (close_spelled open_b, (tt, t.printed (k.End ∷ after) (tt, g))))))));
      }
  forms_kept (is_every {ns = ns} at begin end d m) h =
      let r = targets_kept d h.1 in
      let s = statements_kept m r.rest.1 in
      record { rest = s.rest.1; printed = λ after g. (tt, r.printed (k.Do ∷ body_kinds (block ns) after) (tt, s.printed (k.End ∷ after) (tt, g))) }
  forms_kept (is_every_in {t = t} {ns = ns} at into begin end l d m) h =
      let q = location_kept l h.1 in
      let r = targets_kept d q.rest.1 in
      let s = statements_kept m r.rest.1 in
      record {
        rest = s.rest.1;
        printed = λ after g. let body = k.Do ∷ body_kinds (block ns) after in (tt, q.printed (k.In ∷ target_kinds t body) (tt, r.printed body (tt, s.printed (k.End ∷ after) (tt, g))));
      }
  forms_kept (is_watching {ns = ns} at begin end d m) h =
      let r = targets_kept d h.1 in
      let s = statements_kept m r.rest.1 in
      record { rest = s.rest.1; printed = λ after g. (tt, r.printed (k.Do ∷ body_kinds (block ns) after) (tt, s.printed (k.End ∷ after) (tt, g))) }
  forms_kept (is_par {kind = kind} {ns = ns} {bs = bs} at begin with d m bd) h =
      let q = pars_rest d h.1 in
      let s = statements_kept m q.1 in
      let t = branches_kept bd s.rest.1 in
      record {
        rest = t.rest;
        printed = λ after g.
            let others : AllSpelled (k.With ∷ branches_kinds (hidden-the_row-Block-2 bs) (k.End ∷ after)) = (tt, t.printed after g) in
            par_spelled kind (block_kinds (block ns) (more_branches (hidden-the_row-Block-2 bs) (k.End ∷ after))) (s.printed (more_branches (hidden-the_row-Block-2 bs) (k.End ∷ after)) (subst AllSpelled (branch_with bd (k.End ∷ after)) others));
      }

  pub does_kept : {tokens : List Terminal} {d : Do} {rest : List Terminal} → Does tokens d rest → TokensSpelled tokens → Kept rest (do_kinds d)
  does_kept (does_plain end m) h = let s = statements_kept m h in record { rest = s.rest.1; printed = λ after g. (tt, s.printed (k.End ∷ after) (tt, g)) }
  does_kept (does_under slash at end m) h = let s = statements_kept m h.1.1 in record { rest = s.rest.1; printed = λ after g. (tt, (tt, (tt, s.printed (k.End ∷ after) (tt, g)))) }
  does_kept (does_named x slash at end m) h = let s = statements_kept m h.1.1 in record { rest = s.rest.1; printed = λ after g. (tt, (tt, (h.1.0, s.printed (k.End ∷ after) (tt, g)))) }

  pub sources_kept : {tokens : List Terminal} {s : Source} {b : Bool} {rest : List Terminal} → Sources tokens s b rest → TokensSpelled tokens → Kept rest (source_kinds s)
  sources_kept (is_value d) h = let r = expression_kept d h in record { rest = r.rest; printed = λ after g. r.printed after g }
  sources_kept (is_wait at d) h = let r = awaits_kept d h.1 in record { rest = r.rest; printed = λ after g. (tt, r.printed after g) }
  sources_kept (is_start d) h = let r = spawns_kept d h in record { rest = r.rest; printed = λ after g. r.printed after g }
  sources_kept (is_done at d) h = let r = does_kept d h.1 in record { rest = r.rest; printed = λ after g. r.printed after g }

  pub item_kept : {tokens : List Terminal} {i : Item} {b : Bool} {rest : List Terminal} → ItemOf tokens i b rest → TokensSpelled tokens → Kept rest (items_kinds (hidden-the_row-Item-0 (i ∷ [])))
  item_kept (is_bare x at rest) h = record { rest = h.1; printed = λ after g. (h.0, g) }
  item_kept (is_initial x at equal d) h = let r = sources_kept d h.1.1 in record { rest = r.rest; printed = λ after g. (h.0, (tt, r.printed after g)) }

  pub items_kept : {tokens : List Terminal} {is : List Item} {b : Bool} {rest : List Terminal} → Items tokens is b rest → TokensSpelled tokens → Kept rest (items_kinds (hidden-the_row-Item-0 is))
  items_kept (last_item d) h = item_kept d h
  items_kept (one_item {is = is} comma d m) h =
      let r = item_kept d h in
      let s = items_kept m r.rest.1 in
      record {
        rest = s.rest;
        printed = λ after g.
            let both : AllSpelled (k.Comma ∷ items_kinds (hidden-the_row-Item-0 is) after) = (tt, s.printed after g) in
            r.printed (more_items (hidden-the_row-Item-0 is) after) (subst AllSpelled (item_comma m after) both);
      }

  pub statement_kept : {tokens : List Terminal} {n : Node} {rest : List Terminal} → Statement tokens n rest → TokensSpelled tokens → Kept rest (λ after. stmt_kinds n.stmt (ended_kinds (ends_in_end n.stmt) after))
  statement_kept (is_simple {n = n} semicolon d) h =
      let r = forms_kept d h in
      record {
        rest = r.rest.1;
        printed = λ after g. let all : AllSpelled (k.Semicolon ∷ after) = (tt, g) in subst (λ b. AllSpelled (stmt_kinds n.stmt (ended_kinds b after))) (sym (forms_end d)) (r.printed (k.Semicolon ∷ after) all);
      }
  statement_kept (is_ended {n = n} d) h =
      let r = forms_kept d h in
      record { rest = r.rest; printed = λ after g. subst (λ b. AllSpelled (stmt_kinds n.stmt (ended_kinds b after))) (sym (forms_end d)) (r.printed after g) }

  pub statements_kept : {tokens : List Terminal} {ns : List Node} {rest : List Terminal} → Statements tokens ns rest → TokensSpelled tokens → Kept rest (nodes_kinds (hidden-the_row-Node-3 ns))
  statements_kept (no_more rest) h = record { rest = h; printed = λ after g. g }
  statements_kept (skips at d) h = statements_kept d h.1
  statements_kept (one_more {ns = ns} d m) h =
      let r = statement_kept d h in
      let s = statements_kept m r.rest in
      record { rest = s.rest; printed = λ after g. r.printed (nodes_kinds (hidden-the_row-Node-3 ns) after) (s.printed after g) }

  pub branches_kept : {tokens : List Terminal} {bs : List Block} {rest : List Terminal} → Branches tokens bs rest → TokensSpelled tokens → Kept rest (λ after. branches_kinds (hidden-the_row-Block-2 bs) (k.End ∷ after))
  branches_kept (last_branch end m) h = let s = statements_kept m h in record { rest = s.rest.1; printed = λ after g. s.printed (k.End ∷ after) (tt, g) }
  branches_kept (one_branch {bs = bs} with m bd) h =
      let s = statements_kept m h in
      let t = branches_kept bd s.rest.1 in
      record {
        rest = t.rest;
        printed = λ after g.
            let others : AllSpelled (k.With ∷ branches_kinds (hidden-the_row-Block-2 bs) (k.End ∷ after)) = (tt, t.printed after g) in
            s.printed (more_branches (hidden-the_row-Block-2 bs) (k.End ∷ after)) (subst AllSpelled (branch_with bd (k.End ∷ after)) others);
      }

  pub arms_kept : {tokens : List Terminal} {arms : List Arm} {last : Option Block} {rest : List Terminal} → Arms tokens arms last rest → TokensSpelled tokens
      → Kept rest (λ after. more_arms (hidden-the_row-Arm-1 arms) (last_kinds (back-Stmt-If-1 last) after))
  arms_kept (no_else end rest) h = record { rest = h.1; printed = λ after g. (tt, g) }
  arms_kept (last_else at end m) h = let s = statements_kept m h.1 in record { rest = s.rest.1; printed = λ after g. (tt, s.printed (k.End ∷ after) (tt, g)) }
  arms_kept (else_if {ns = ns} {arms = arms} {last = last} at slash again by d m a) h =
      let r = expression_kept d h.1.1.1 in
      let s = statements_kept m r.rest.1 in
      let t = arms_kept a s.rest in
      record {
        rest = t.rest;
        printed = λ after g. let others = more_arms (hidden-the_row-Arm-1 arms) (last_kinds (back-Stmt-If-1 last) after) in (tt, (tt, (tt, r.printed (k.Then ∷ block_kinds (block ns) others) (tt, s.printed others (t.printed after g)))));
      }
