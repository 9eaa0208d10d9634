-- Printed statements read back.
use Rattle.std.proofs.Common.{◌≡◌, refl, sym, ap, ℕ, Bool, true, false, List, [], ◌∷◌, Option, Some, None, if◌then◌else◌, subst}
use Rattle.std.specs.Prelude.{nat_le}
use mathlib.Core.Former.{this, list_count, none_left}
use Rattle.ceu_tree.specs.declared.source.Ident.{Ident}
use Rattle.ceu_tree.specs.declared.source.Label.TheVariants as label
use Rattle.ceu_tree.specs.declared.source.Source.{Source}
use Rattle.ceu_tree.specs.declared.source.Source as source
use Rattle.ceu_tree.specs.declared.source.Source.TheBlock.{hidden-the_row-Item-0, hidden-the_row-Arm-1, hidden-the_row-Block-2, hidden-the_row-Node-3, shape-the_row-Item-0, shape-the_row-Arm-1, shape-the_row-Block-2, shape-the_row-Node-3}
use Rattle.ceu_tree.specs.declared.source.Item.{Item, Held-Item-value, Item-value-Some', back-Item-value}
use Rattle.ceu_tree.specs.declared.source.Do.{Do, Do'}
use Rattle.ceu_tree.specs.declared.source.Block.{Block, Block', roll-Block, Row_of-Node, more_of-Node}
use Rattle.ceu_tree.specs.declared.source.Node.{Node}
use Rattle.ceu_tree.specs.declared.source.Arm.{Arm, Arm'}
use Rattle.ceu_tree.specs.declared.source.Range.{Range'}
use Rattle.ceu_tree.specs.declared.source.Stmt as stmt
use Rattle.ceu_tree.specs.declared.source.Stmt.{Stmt, Vars', If', Par', Row_of-Item, end_of-Item, more_of-Item, Row_of-Arm, end_of-Arm, more_of-Arm, Row_of-Block, end_of-Block, more_of-Block, Held-Stmt-If-1, Stmt-If-1-None', Stmt-If-1-Some', back-Stmt-If-1}
use Rattle.ceu_syntax.specs.declared.terminal.Kind.{Kind}
use Rattle.ceu_syntax.specs.declared.terminal.Kind.TheVariants as k
use Rattle.ceu_syntax.specs.declared.terminal.Terminal.{Terminal}
use Rattle.ceu_syntax.specs.Terminals.{saturated, right_bracket}
use Rattle.ceu_syntax.specs.Trees.{ident, block, node, do_block, item, arm, range}
use Rattle.ceu_syntax.specs.Grammar.{Forms, is_nothing, is_break, is_continue, is_vars, is_alias, is_alias_of, is_events, is_inputs, is_outputs, is_pool, is_code, is_assign, is_emit, is_emit_empty, is_emit_value, is_await, is_spawn, is_async, is_await_async, is_do, is_kill, is_escape, is_escape_value, is_escape_label, is_escape_both, is_finalize, is_if, is_loop, is_times, is_range, is_every, is_every_in, is_watching, is_par, Does, does_plain, does_under, does_named, Sources, is_value, is_wait, is_start, is_done, ItemOf, is_bare, is_initial, Items, last_item, one_item, Statement, is_simple, is_ended, Statements, no_more, skips, one_more, Branches, last_branch, one_branch, Arms, no_else, last_else, else_if}
use Rattle.ceu_print.specs.Statements.{ends_in_end}
use Rattle.laws_text_printed.specs.Expressions.{exp_kinds, target_kinds}
use Rattle.laws_text_printed.specs.Statements.{ended_kinds, label_kinds, stmt_kinds, source_kinds, do_kinds, items_kinds, more_arms, last_kinds, branches_kinds, nodes_kinds, block_kinds, body_kinds}
use Rattle.laws_text_printed.specs.Places.{nowhere, unplaced_ident, unplaced_stmt, unplaced_source, unplaced_value, unplaced_do, unplaced_last, unplaced_items, unplaced_arms, unplaced_branches, unplaced_nodes}
use Rattle.laws_text_printed.specs.Spelled.{TokensSpelled}
use Rattle.laws_text_printed.proofs.Placed.{Places, next, placed, Reading}
use Rattle.laws_text_printed.proofs.ReadingExpressions.{location_reads, whole_reads, spawns_read, targets_read, awaits_read}
use Rattle.laws_text_printed.proofs.Forms.{lowers_read, exts_read, shares_read, params_read, par_first, pars_read, emits_read}
use Rattle.laws_text_printed.proofs.SpelledExpressions.{location_kept, expression_kept, targets_kept}
use Rattle.laws_text_printed.proofs.SpelledForms.{shares_kept, params_kept, pars_rest}
use Rattle.laws_text_printed.proofs.SpelledStatements.{item_kept, statement_kept, statements_kept}
use Rattle.laws_text_printed.proofs.Ends.{forms_end, item_comma, branch_with}
use denote.Hole.Carrier

-- ---- parts without their places

abbrev bare_item : Item → Ident × Held-Item-value
bare_item i = (unplaced_ident i.name, unplaced_value (back-Item-value i.value))

abbrev Shape : Type 0
Shape = List (Unit {0})

abbrev bare_items : List Item → (a : Shape) × Row_of-Item (list_count (this {0}) a none_left)
bare_items is = (shape-the_row-Item-0 is, unplaced_items (hidden-the_row-Item-0 is))

abbrev bare_branches : List Block → (a : Shape) × Row_of-Block (list_count (this {0}) a none_left)
bare_branches bs = (shape-the_row-Block-2 bs, unplaced_branches (hidden-the_row-Block-2 bs))

abbrev bare_arms : List Arm → (a : Shape) × Row_of-Arm (list_count (this {0}) a none_left)
bare_arms arms = (shape-the_row-Arm-1 arms, unplaced_arms (hidden-the_row-Arm-1 arms))

abbrev bare_choices : List Arm × Option Block → ((a : Shape) × Row_of-Arm (list_count (this {0}) a none_left)) × Held-Stmt-If-1
bare_choices a = (bare_arms a.0, unplaced_last (back-Stmt-If-1 a.1))

abbrev bare_node : Node → Node
bare_node n = node nowhere (unplaced_stmt n.stmt)

abbrev bare_nodes : List Node → (a : Shape) × Row_of-Node (list_count (this {0}) a none_left)
bare_nodes ns = (shape-the_row-Node-3 ns, unplaced_nodes (hidden-the_row-Node-3 ns))

abbrev Choices : List Terminal → List Arm × Option Block → List Terminal → Type 0
Choices tokens a rest = Arms tokens a.0 a.1 rest

-- behind `do`
abbrev behind_do : Do → List Kind → List Kind
behind_do (Do' l b) after = label_kinds l (body_kinds b after)

do_first : (d : Do) (after : List Kind) → k.Do ∷ behind_do d after ≡ do_kinds d after
unfolding stmt_kinds
do_first (Do' l b) after = refl

saturated_twice : (n : ℕ) → saturated (saturated n) ≡ saturated n
saturated_twice n = go (nat_le n 4294967295) refl
  where
    go : (b : Bool) → nat_le n 4294967295 ≡ b → saturated (if b then n else 4294967295) ≡ (if b then n else 4294967295)
    go true e = ap (λ (b : Bool). if b then n else 4294967295) e
    go false e = refl

-- ---- statements

mutual
  unfolding stmt_kinds unplaced_stmt shape-the_row-Item-0 shape-the_row-Arm-1 shape-the_row-Block-2 shape-the_row-Node-3 hidden-the_row-Item-0 hidden-the_row-Arm-1 hidden-the_row-Block-2 hidden-the_row-Node-3 roll-Block Carrier.hidden Carrier.roll

  forms_read : {tokens : List Terminal} {n : Node} {b : Bool} {rest : List Terminal} → Forms tokens n b rest → TokensSpelled tokens → (after : List Kind) (p : Places)
      → Reading (λ ts m more. Forms ts m b more) bare_node n (stmt_kinds n.stmt after) after p
  forms_read (is_nothing at rest) h after p = record { found = node (p 0) stmt.Nothing; places = next p; derives = is_nothing (p 0) (placed after (next p)); same = refl }
  forms_read (is_break at rest) h after p = record { found = node (p 0) stmt.Break; places = next p; derives = is_break (p 0) (placed after (next p)); same = refl }
  forms_read (is_continue at rest) h after p = record { found = node (p 0) stmt.Continue; places = next p; derives = is_continue (p 0) (placed after (next p)); same = refl }
  forms_read (is_vars ty at of d) h after p =
      let r = items_read d h.1.1 after (next (next p)) in
      record { found = node (p 0) (stmt.Vars ty r.found); places = r.places; derives = is_vars ty (p 0) (p 1) r.derives; same = λ i. node nowhere (Vars' ty (r.same i).0 (r.same i).1) }
  forms_read (is_alias c x at and mark code name rest) h after p =
      record {
        found = node (p 0) (stmt.AliasDecl (ident c (p 3)) (ident x (p 4)) None);
        places = next (next (next (next (next p))));
        derives = is_alias c x (p 0) (p 1) (p 2) (p 3) (p 4) (placed after (next (next (next (next (next p))))));
        same = refl;
      }
  forms_read (is_alias_of c x at and mark code name equal d) h after p =
      let r = spawns_read d after (next (next (next (next (next (next p)))))) in
      record {
        found = node (p 0) (stmt.AliasDecl (ident c (p 3)) (ident x (p 4)) (Some r.found));
        places = r.places;
        derives = is_alias_of c x (p 0) (p 1) (p 2) (p 3) (p 4) (p 5) r.derives;
        same = λ i. node nowhere (stmt.AliasDecl (ident c nowhere) (ident x nowhere) (Some (r.same i)));
      }
  forms_read (is_events ty at of d) h after p =
      let r = lowers_read d after (next (next p)) in
      record { found = node (p 0) (stmt.Events ty r.found); places = r.places; derives = is_events ty (p 0) (p 1) r.derives; same = λ i. node nowhere (stmt.Events ty (r.same i)) }
  forms_read (is_inputs ty at of d) h after p =
      let r = exts_read d after (next (next p)) in
      record { found = node (p 0) (stmt.Inputs ty r.found); places = r.places; derives = is_inputs ty (p 0) (p 1) r.derives; same = λ i. node nowhere (stmt.Inputs ty (r.same i)) }
  forms_read (is_outputs ty at of d) h after p =
      let r = exts_read d after (next (next p)) in
      record { found = node (p 0) (stmt.Outputs ty r.found); places = r.places; derives = is_outputs ty (p 0) (p 1) r.derives; same = λ i. node nowhere (stmt.Outputs ty (r.same i)) }
  forms_read (is_pool n c x at left count close code name rest) h after p =
      record {
        found = node (p 0) (stmt.Pool (saturated (saturated n)) (ident c (p 4)) (ident x (p 5)));
        places = next (next (next (next (next (next p)))));
        derives = is_pool (saturated n) c x (p 0) (p 1) (p 2) (p 3) (p 4) (p 5) (placed after (next (next (next (next (next (next p)))))));
        same = λ i. node nowhere (stmt.Pool (saturated_twice n i) (ident c nowhere) (ident x nowhere));
      }
  forms_read (is_code {ns = ns} c ty at slash wait code paren arrow of begin end d m) h after p =
      let r = params_read d (k.Arrow ∷ k.Type ty ∷ k.Do ∷ body_kinds (block ns) after) (next (next (next (next (next p))))) in
      let s = statements_read m (params_kept d h.1.1.1.1.1).rest.1.1.1 (k.End ∷ after) (next (next (next r.places))) in
      record {
        found = node (p 0) (stmt.Code (ident c (p 3)) r.found ty (block s.found));
        places = next s.places;
        derives = is_code c ty (p 0) (p 1) (p 2) (p 3) (p 4) (r.places 0) (r.places 1) (r.places 2) (s.places 0) r.derives s.derives;
        same = λ i. node nowhere (stmt.Code (ident c nowhere) (r.same i) ty (Block' (s.same i).0 (s.same i).1));
      }
  forms_read (is_assign {source = source} equal l d) h after p =
      let r = location_reads l (k.Assign ∷ source_kinds source after) p in
      let s = sources_read d (location_kept l h).rest.1 after (next r.places) in
      record { found = node r.found.pos (stmt.Assign r.found s.found); places = s.places; derives = is_assign (r.places 0) r.derives s.derives; same = λ i. node nowhere (stmt.Assign (r.same i) (s.same i)) }
  forms_read (is_emit at d) h after p =
      let r = emits_read d h.1 after (next p) in
      record { found = node (p 0) (stmt.Emit r.found None); places = r.places; derives = is_emit (p 0) r.derives; same = λ i. node nowhere (stmt.Emit (r.same i) None) }
  forms_read (is_emit_empty at paren close d) h after p =
      let r = emits_read d h.1 after (next p) in
      record { found = node (p 0) (stmt.Emit r.found None); places = r.places; derives = is_emit (p 0) r.derives; same = λ i. node nowhere (stmt.Emit (r.same i) None) }
  forms_read (is_emit_value {e = e} at paren close d m) h after p =
      let r = emits_read d h.1 (k.OpenParen ∷ exp_kinds e (k.CloseParen ∷ after)) (next p) in
      let s = whole_reads m (k.CloseParen ∷ after) (next r.places) in
      record {
        found = node (p 0) (stmt.Emit r.found (Some s.found));
        places = next s.places;
        derives = is_emit_value (p 0) (r.places 0) (s.places 0) r.derives s.derives;
        same = λ i. node nowhere (stmt.Emit (r.same i) (Some (s.same i)));
      }
  forms_read (is_await at d) h after p =
      let r = awaits_read d after (next p) in
      record { found = node (p 0) (stmt.Await r.found); places = r.places; derives = is_await (p 0) r.derives; same = λ i. node nowhere (stmt.Await (r.same i)) }
  forms_read (is_spawn d) h after p =
      let r = spawns_read d after p in
      record { found = node r.found.pos (stmt.Spawn r.found); places = r.places; derives = is_spawn r.derives; same = λ i. node nowhere (stmt.Spawn (r.same i)) }
  forms_read (is_async {ns = ns} at begin end d m) h after p =
      let r = shares_read d (k.Do ∷ body_kinds (block ns) after) (next p) in
      let s = statements_read m (shares_kept d h.1).rest.1 (k.End ∷ after) (next r.places) in
      record {
        found = node (p 0) (stmt.Async r.found (block s.found));
        places = next s.places;
        derives = is_async (p 0) (r.places 0) (s.places 0) r.derives s.derives;
        same = λ i. node nowhere (stmt.Async (r.same i) (Block' (s.same i).0 (s.same i).1));
      }
  forms_read (is_await_async {ns = ns} at async begin end d m) h after p =
      let r = shares_read d (k.Do ∷ body_kinds (block ns) after) (next p) in
      let s = statements_read m (shares_kept d h.1.1).rest.1 (k.End ∷ after) (next r.places) in
      record {
        found = node (p 0) (stmt.Async r.found (block s.found));
        places = next s.places;
        derives = is_async (p 0) (r.places 0) (s.places 0) r.derives s.derives;
        same = λ i. node nowhere (stmt.Async (r.same i) (Block' (s.same i).0 (s.same i).1));
      }
  forms_read (is_do {d = d} at x) h after p =
      let r = does_read x h.1 after (next p) in
      subst (λ kinds. Reading (λ ts m more. Forms ts m true more) bare_node (node at (stmt.Do d)) kinds after p) (do_first d after)
      (record { found = node (p 0) (stmt.Do r.found); places = r.places; derives = is_do (p 0) r.derives; same = λ i. node nowhere (stmt.Do (r.same i)) })
  forms_read (is_kill x at name rest) h after p =
      record { found = node (p 0) (stmt.Kill (ident x (p 1))); places = next (next p); derives = is_kill x (p 0) (p 1) (placed after (next (next p))); same = refl }
  forms_read (is_escape at rest) h after p = record { found = node (p 0) (stmt.Escape None None); places = next p; derives = is_escape (p 0) (placed after (next p)); same = refl }
  forms_read (is_escape_value at d) h after p =
      let r = whole_reads d after (next p) in
      record { found = node (p 0) (stmt.Escape None (Some r.found)); places = r.places; derives = is_escape_value (p 0) r.derives; same = λ i. node nowhere (stmt.Escape None (Some (r.same i))) }
  forms_read (is_escape_label x at slash name rest) h after p =
      record {
        found = node (p 0) (stmt.Escape (Some (ident x (p 2))) None);
        places = next (next (next p));
        derives = is_escape_label x (p 0) (p 1) (p 2) (placed after (next (next (next p))));
        same = refl;
      }
  forms_read (is_escape_both x at slash name d) h after p =
      let r = whole_reads d after (next (next (next p))) in
      record {
        found = node (p 0) (stmt.Escape (Some (ident x (p 2))) (Some r.found));
        places = r.places;
        derives = is_escape_both x (p 0) (p 1) (p 2) r.derives;
        same = λ i. node nowhere (stmt.Escape (Some (ident x nowhere)) (Some (r.same i)));
      }
  forms_read (is_finalize at finalize with end m) h after p =
      let s = statements_read m h.1.1.1 (k.End ∷ after) (next (next (next p))) in
      record {
        found = node (p 0) (stmt.Finalize (block s.found));
        places = next s.places;
        derives = is_finalize (p 0) (p 1) (p 2) (s.places 0) s.derives;
        same = λ i. node nowhere (stmt.Finalize (Block' (s.same i).0 (s.same i).1));
      }
  forms_read (is_if {ns = ns} {arms = arms} {last = last} at by d m a) h after p =
      let others = more_arms (hidden-the_row-Arm-1 arms) (last_kinds (back-Stmt-If-1 last) after) in
      let r = whole_reads d (k.Then ∷ block_kinds (block ns) others) (next p) in
      let g = (expression_kept d h.1).rest.1 in
      let s = statements_read m g others (next r.places) in
      let t = arms_read a (statements_kept m g).rest after s.places in
      record {
        found = node (p 0) (stmt.If (arm r.found s.found ∷ t.found.0) t.found.1);
        places = t.places;
        derives = is_if (p 0) (r.places 0) r.derives s.derives t.derives;
        same = λ i. node nowhere (If' (tt ∷ (t.same i).0.0) (more_of-Arm (Arm' (r.same i) (Block' (s.same i).0 (s.same i).1)) (t.same i).0.1) (t.same i).1);
      }
  forms_read (is_loop at begin end m) h after p =
      let s = statements_read m h.1.1 (k.End ∷ after) (next (next p)) in
      record {
        found = node (p 0) (stmt.Loop None (block s.found));
        places = next s.places;
        derives = is_loop (p 0) (p 1) (s.places 0) s.derives;
        same = λ i. node nowhere (stmt.Loop None (Block' (s.same i).0 (s.same i).1));
      }
  forms_read (is_times n at slash count begin end m) h after p =
      let s = statements_read m h.1.1.1.1 (k.End ∷ after) (next (next (next (next p)))) in
      record {
        found = node (p 0) (stmt.Loop (Some (saturated (saturated n))) (block s.found));
        places = next s.places;
        derives = is_times (saturated n) (p 0) (p 1) (p 2) (p 3) (s.places 0) s.derives;
        same = λ i. node nowhere (stmt.Loop (Some (saturated_twice n i)) (Block' (s.same i).0 (s.same i).1));
      }
  forms_read (is_range {b = b} {ns = ns} x open_a open_b at name into left arrow right begin end d e m) h after p =
      let body = right_bracket open_b ∷ k.Do ∷ body_kinds (block ns) after in
      let r = whole_reads d (k.Arrow ∷ exp_kinds b body) (next (next (next (next p)))) in
      let s = whole_reads e body (next r.places) in
      let g = (expression_kept e (expression_kept d h.1.1.1.1).rest.1).rest.1.1 in
      let t = statements_read m g (k.End ∷ after) (next (next s.places)) in
      record {
        found = node (p 0) (stmt.Range (range (ident x (p 1)) open_a r.found s.found open_b t.found));
        places = next t.places;
        derives = is_range x open_a open_b (p 0) (p 1) (p 2) (p 3) (r.places 0) (s.places 0) (s.places 1) (t.places 0) r.derives s.derives t.derives;
        same = λ i. node nowhere (stmt.Range (Range' (ident x nowhere) open_a (r.same i) (s.same i) open_b (Block' (t.same i).0 (t.same i).1)));
      }
  forms_read (is_every {ns = ns} at begin end d m) h after p =
      let r = targets_read d (k.Do ∷ body_kinds (block ns) after) (next p) in
      let s = statements_read m (targets_kept d h.1).rest.1 (k.End ∷ after) (next r.places) in
      record {
        found = node (p 0) (stmt.Every None r.found (block s.found));
        places = next s.places;
        derives = is_every (p 0) (r.places 0) (s.places 0) r.derives s.derives;
        same = λ i. node nowhere (stmt.Every None (r.same i) (Block' (s.same i).0 (s.same i).1));
      }
  forms_read (is_every_in {t = t} {ns = ns} at into begin end l d m) h after p =
      let body = k.Do ∷ body_kinds (block ns) after in
      let q = location_reads l (k.In ∷ target_kinds t body) (next p) in
      let r = targets_read d body (next q.places) in
      let s = statements_read m (targets_kept d (location_kept l h.1).rest.1).rest.1 (k.End ∷ after) (next r.places) in
      record {
        found = node (p 0) (stmt.Every (Some q.found) r.found (block s.found));
        places = next s.places;
        derives = is_every_in (p 0) (q.places 0) (r.places 0) (s.places 0) q.derives r.derives s.derives;
        same = λ i. node nowhere (stmt.Every (Some (q.same i)) (r.same i) (Block' (s.same i).0 (s.same i).1));
      }
  forms_read (is_watching {ns = ns} at begin end d m) h after p =
      let r = targets_read d (k.Do ∷ body_kinds (block ns) after) (next p) in
      let s = statements_read m (targets_kept d h.1).rest.1 (k.End ∷ after) (next r.places) in
      record {
        found = node (p 0) (stmt.Watching r.found (block s.found));
        places = next s.places;
        derives = is_watching (p 0) (r.places 0) (s.places 0) r.derives s.derives;
        same = λ i. node nowhere (stmt.Watching (r.same i) (Block' (s.same i).0 (s.same i).1));
      }
  forms_read (is_par {kind = kind} {ns = ns} {bs = bs} at begin with d m bd) h after p =
      let q = pars_rest d h.1 in
      let others = k.With ∷ branches_kinds (hidden-the_row-Block-2 bs) (k.End ∷ after) in
      let o = pars_read kind (block_kinds (block ns) others) (next p) in
      let s = statements_read m q.1 others (next o.places) in
      let t = branches_read bd (statements_kept m q.1).rest.1 after (next s.places) in
      subst (λ kinds. Reading (λ ts n more. Forms ts n true more) bare_node (node at (stmt.Par kind (block ns ∷ bs))) kinds after p)
      (λ i. par_first kind (block_kinds (block ns) (branch_with bd (k.End ∷ after) i)) i)
      (record {
        found = node (p 0) (stmt.Par o.found (block s.found ∷ t.found));
        places = t.places;
        derives = is_par (p 0) (o.places 0) (s.places 0) o.derives s.derives t.derives;
        same = λ i. node nowhere (Par' (o.same i) (tt ∷ (t.same i).0) (more_of-Block (Block' (s.same i).0 (s.same i).1) (t.same i).1));
      })

  does_read : {tokens : List Terminal} {d : Do} {rest : List Terminal} → Does tokens d rest → TokensSpelled tokens → (after : List Kind) (p : Places) → Reading Does unplaced_do d (behind_do d after) after p
  does_read (does_plain end m) h after p =
      let s = statements_read m h (k.End ∷ after) p in
      record { found = do_block label.Plain s.found; places = next s.places; derives = does_plain (s.places 0) s.derives; same = λ i. Do' label.Plain (Block' (s.same i).0 (s.same i).1) }
  does_read (does_under slash at end m) h after p =
      let s = statements_read m h.1.1 (k.End ∷ after) (next (next p)) in
      record { found = do_block label.Under s.found; places = next s.places; derives = does_under (p 0) (p 1) (s.places 0) s.derives; same = λ i. Do' label.Under (Block' (s.same i).0 (s.same i).1) }
  does_read (does_named x slash at end m) h after p =
      let s = statements_read m h.1.1 (k.End ∷ after) (next (next p)) in
      record {
        found = do_block (label.Named (ident x (p 1))) s.found;
        places = next s.places;
        derives = does_named x (p 0) (p 1) (s.places 0) s.derives;
        same = λ i. Do' (label.Named (ident x nowhere)) (Block' (s.same i).0 (s.same i).1);
      }

  sources_read : {tokens : List Terminal} {s : Source} {b : Bool} {rest : List Terminal} → Sources tokens s b rest → TokensSpelled tokens → (after : List Kind) (p : Places)
      → Reading (λ ts u more. Sources ts u b more) unplaced_source s (source_kinds s after) after p
  sources_read (is_value d) h after p =
      let r = whole_reads d after p in
      record { found = source.Value r.found; places = r.places; derives = is_value r.derives; same = λ i. source.Value (r.same i) }
  sources_read (is_wait at d) h after p =
      let r = awaits_read d after (next p) in
      record { found = source.Wait r.found; places = r.places; derives = is_wait (p 0) r.derives; same = λ i. source.Wait (r.same i) }
  sources_read (is_start d) h after p =
      let r = spawns_read d after p in
      record { found = source.Start r.found; places = r.places; derives = is_start r.derives; same = λ i. source.Start (r.same i) }
  sources_read (is_done {d = d} at x) h after p =
      let r = does_read x h.1 after (next p) in
      subst (λ kinds. Reading (λ ts u more. Sources ts u true more) unplaced_source (source.Done d) kinds after p) (do_first d after)
      (record { found = source.Done r.found; places = r.places; derives = is_done (p 0) r.derives; same = λ i. source.Done (r.same i) })

  item_reads : {tokens : List Terminal} {i : Item} {b : Bool} {rest : List Terminal} → ItemOf tokens i b rest → TokensSpelled tokens → (after : List Kind) (p : Places)
      → Reading (λ ts u more. ItemOf ts u b more) bare_item i (items_kinds (hidden-the_row-Item-0 (i ∷ [])) after) after p
  item_reads (is_bare x at rest) h after p = record { found = item (ident x (p 0)) None; places = next p; derives = is_bare x (p 0) (placed after (next p)); same = refl }
  item_reads (is_initial x at equal d) h after p =
      let r = sources_read d h.1.1 after (next (next p)) in
      record { found = item (ident x (p 0)) (Some r.found); places = r.places; derives = is_initial x (p 0) (p 1) r.derives; same = λ i. (ident x nowhere, Item-value-Some' (r.same i)) }

  items_read : {tokens : List Terminal} {is : List Item} {b : Bool} {rest : List Terminal} → Items tokens is b rest → TokensSpelled tokens → (after : List Kind) (p : Places)
      → Reading (λ ts us more. Items ts us b more) bare_items is (items_kinds (hidden-the_row-Item-0 is) after) after p
  items_read (last_item d) h after p =
      let r = item_reads d h after p in
      record { found = r.found ∷ []; places = r.places; derives = last_item r.derives; same = λ i. (tt ∷ [], more_of-Item (r.same i).0 (r.same i).1 end_of-Item) }
  items_read (one_item {i = i} {is = is} {b = b} comma d m) h after p =
      let r = item_reads d h (k.Comma ∷ items_kinds (hidden-the_row-Item-0 is) after) p in
      let s = items_read m (item_kept d h).rest.1 after (next r.places) in
      subst (λ kinds. Reading (λ ts us more. Items ts us b more) bare_items (i ∷ is) (items_kinds (hidden-the_row-Item-0 (i ∷ [])) kinds) after p) (item_comma m after)
      (record { found = r.found ∷ s.found; places = s.places; derives = one_item (r.places 0) r.derives s.derives; same = λ j. (tt ∷ (s.same j).0, more_of-Item (r.same j).0 (r.same j).1 (s.same j).1) })

  statement_reads : {tokens : List Terminal} {n : Node} {rest : List Terminal} → Statement tokens n rest → TokensSpelled tokens → (after : List Kind) (p : Places)
      → Reading Statement bare_node n (stmt_kinds n.stmt (ended_kinds (ends_in_end n.stmt) after)) after p
  statement_reads (is_simple {n = n} semicolon d) h after p =
      let r = forms_read d h (k.Semicolon ∷ after) p in
      subst (λ b. Reading Statement bare_node n (stmt_kinds n.stmt (ended_kinds b after)) after p) (sym (forms_end d))
      (record { found = r.found; places = next r.places; derives = is_simple (r.places 0) r.derives; same = r.same })
  statement_reads (is_ended {n = n} d) h after p =
      let r = forms_read d h after p in
      subst (λ b. Reading Statement bare_node n (stmt_kinds n.stmt (ended_kinds b after)) after p) (sym (forms_end d)) (record { found = r.found; places = r.places; derives = is_ended r.derives; same = r.same })

  pub statements_read : {tokens : List Terminal} {ns : List Node} {rest : List Terminal} → Statements tokens ns rest → TokensSpelled tokens → (after : List Kind) (p : Places)
      → Reading Statements bare_nodes ns (nodes_kinds (hidden-the_row-Node-3 ns) after) after p
  statements_read (no_more rest) h after p = record { found = []; places = p; derives = no_more (placed after p); same = refl }
  statements_read (skips at d) h after p = statements_read d h.1 after p
  statements_read (one_more {ns = ns} d m) h after p =
      let r = statement_reads d h (nodes_kinds (hidden-the_row-Node-3 ns) after) p in
      let s = statements_read m (statement_kept d h).rest after r.places in
      record { found = r.found ∷ s.found; places = s.places; derives = one_more r.derives s.derives; same = λ i. (tt ∷ (s.same i).0, more_of-Node nowhere (r.same i).stmt (s.same i).1) }

  branches_read : {tokens : List Terminal} {bs : List Block} {rest : List Terminal} → Branches tokens bs rest → TokensSpelled tokens → (after : List Kind) (p : Places)
      → Reading Branches bare_branches bs (branches_kinds (hidden-the_row-Block-2 bs) (k.End ∷ after)) after p
  branches_read (last_branch end m) h after p =
      let s = statements_read m h (k.End ∷ after) p in
      record { found = block s.found ∷ []; places = next s.places; derives = last_branch (s.places 0) s.derives; same = λ i. (tt ∷ [], more_of-Block (Block' (s.same i).0 (s.same i).1) end_of-Block) }
  branches_read (one_branch {ns = ns} {bs = bs} with m bd) h after p =
      let s = statements_read m h (k.With ∷ branches_kinds (hidden-the_row-Block-2 bs) (k.End ∷ after)) p in
      let t = branches_read bd (statements_kept m h).rest.1 after (next s.places) in
      subst (λ kinds. Reading Branches bare_branches (block ns ∷ bs) (block_kinds (block ns) kinds) after p) (branch_with bd (k.End ∷ after))
      (record {
        found = block s.found ∷ t.found;
        places = t.places;
        derives = one_branch (s.places 0) s.derives t.derives;
        same = λ i. (tt ∷ (t.same i).0, more_of-Block (Block' (s.same i).0 (s.same i).1) (t.same i).1);
      })

  arms_read : {tokens : List Terminal} {arms : List Arm} {last : Option Block} {rest : List Terminal} → Arms tokens arms last rest → TokensSpelled tokens → (after : List Kind) (p : Places)
      → Reading Choices bare_choices (arms, last) (more_arms (hidden-the_row-Arm-1 arms) (last_kinds (back-Stmt-If-1 last) after)) after p
  arms_read (no_else end rest) h after p = record { found = ([], None); places = next p; derives = no_else (p 0) (placed after (next p)); same = refl }
  arms_read (last_else at end m) h after p =
      let s = statements_read m h.1 (k.End ∷ after) (next p) in
      record {
        found = ([], Some (block s.found));
        places = next s.places;
        derives = last_else (p 0) (s.places 0) s.derives;
        same = λ i. (([], end_of-Arm), Stmt-If-1-Some' (Block' (s.same i).0 (s.same i).1));
      }
  arms_read (else_if {ns = ns} {arms = arms} {last = last} at slash again by d m a) h after p =
      let others = more_arms (hidden-the_row-Arm-1 arms) (last_kinds (back-Stmt-If-1 last) after) in
      let r = whole_reads d (k.Then ∷ block_kinds (block ns) others) (next (next (next p))) in
      let g = (expression_kept d h.1.1.1).rest.1 in
      let s = statements_read m g others (next r.places) in
      let t = arms_read a (statements_kept m g).rest after s.places in
      record {
        found = (arm r.found s.found ∷ t.found.0, t.found.1);
        places = t.places;
        derives = else_if (p 0) (p 1) (p 2) (r.places 0) r.derives s.derives t.derives;
        same = λ i. ((tt ∷ (t.same i).0.0, more_of-Arm (Arm' (r.same i) (Block' (s.same i).0 (s.same i).1)) (t.same i).0.1), (t.same i).1);
      }
