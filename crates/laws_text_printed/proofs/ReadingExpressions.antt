-- Printed expressions, calls and awaits read back.
use Rattle.std.proofs.Common.{◌≡◌, refl, ℕ, suc, ◌≤◌, Bool, true, false, List, [], ◌∷◌, Some, None, if◌then◌else◌, map, subst, arith}
use Rattle.std.specs.Prelude.{nat_lt}
use Rattle.ceu_base.specs.declared.kinds.Op1.{Op1}
use Rattle.ceu_base.specs.declared.kinds.Op1.TheVariants as op1
use Rattle.ceu_base.specs.declared.kinds.Op2.{Op2}
use Rattle.ceu_base.specs.declared.kinds.Op2.TheVariants as op2
use Rattle.ceu_base.specs.declared.kinds.Pos.{Pos}
use Rattle.ceu_tree.specs.declared.source.Ident.{Ident}
use Rattle.ceu_tree.specs.declared.source.Exp.{Exp}
use Rattle.ceu_tree.specs.declared.source.ExpNode as exp
use Rattle.ceu_tree.specs.declared.source.ExpNode.{ExpNode}
use Rattle.ceu_tree.specs.declared.source.ExpNode.TheBlock.{hidden-the_row-Exp-0}
use Rattle.ceu_tree.specs.declared.source.Call.{Call}
use Rattle.ceu_tree.specs.declared.source.Spawn.{Spawn}
use Rattle.ceu_tree.specs.declared.source.Target.{Target}
use Rattle.ceu_tree.specs.declared.source.Target.TheVariants as target
use Rattle.ceu_tree.specs.declared.source.Await.{Await}
use Rattle.ceu_tree.specs.declared.source.Await.TheVariants as wait
use Rattle.ceu_print.specs.Words.{level}
use Rattle.ceu_print.specs.Expressions.{tightness}
use Rattle.ceu_syntax.specs.declared.terminal.Kind.{Kind}
use Rattle.ceu_syntax.specs.declared.terminal.Kind.TheVariants as k
use Rattle.ceu_syntax.specs.declared.terminal.Terminal.{Terminal}
use Rattle.ceu_syntax.specs.Terminals.{token, binary_of, prefix_of, unit_name}
use Rattle.ceu_syntax.specs.Terminals.{level as grammar_level}
use Rattle.ceu_syntax.specs.Trees.{ident, outer, number, truth, variable, alive, one, two, cast, call, spawn}
use Rattle.ceu_syntax.specs.Expressions.{Location, is_here, is_outer, Expression, is_number, is_truth, is_variable, is_alive, is_paren, is_prefix, is_binary, is_cast, Arguments, last_argument, one_argument, Calls, calls_empty, calls_with, Spawns, spawns, Targets, is_input, is_event, is_time, is_time_expression, Awaits, is_forever, is_code, is_target, is_until}
use Rattle.laws_text_printed.specs.ReadingWords.{prefix_kind, binary_kind, lower_kinds}
use Rattle.laws_text_printed.specs.Expressions.{node_kinds, exp_kinds, more_arguments, argument_kinds, call_kinds, spawn_kinds, target_kinds, awaited_kinds}
use Rattle.laws_text_printed.specs.Places.{nowhere, unplaced_ident, unplaced_node, unplaced_exp, unplaced_call, unplaced_spawn, unplaced_target, unplaced_await}
use Rattle.laws_text_printed.proofs.Placed.{Places, next, placed, Reading}
use denote.Hole.Carrier

-- ---- operators

prefix_known : (op : Op1) → prefix_of (prefix_kind op) ≡ Some op
prefix_known op1.Not = refl
prefix_known op1.Neg = refl
prefix_known op1.Compl = refl

binary_known : (op : Op2) → binary_of (binary_kind op) ≡ Some op
binary_known op2.Or = refl
binary_known _ = refl

levels_agree : (op : Op2) → level op ≡ grammar_level op
levels_agree op2.Or = refl
levels_agree _ = refl

binary_derives : {q : ℕ} {tokens : List Terminal} {a b : Exp} {right rest : List Terminal} (op : Op2) (at : Pos) → q ≤ level op
    → Expression (level op) tokens a (token (binary_kind op) at ∷ right) → Expression (suc (level op)) right b rest → Expression q tokens (two op at a b) rest
binary_derives {q} {tokens} {a} {b} {right} {rest} op at h d e =
    let same = levels_agree op in
    is_binary (binary_kind op) op at (subst (λ n. q ≤ n) same h) (binary_known op) (subst (λ n. Expression n tokens a (token (binary_kind op) at ∷ right)) same d) (subst (λ n. Expression (suc n) right b rest) same e)

-- ---- expressions

pub location_reads : {tokens : List Terminal} {x : Ident} {rest : List Terminal} → Location tokens x rest → (after : List Kind) (p : Places) → Reading Location unplaced_ident x (lower_kinds x after) after p
location_reads (is_here x at rest) after p = record { found = ident x (p 0); places = next p; derives = is_here x (p 0) (placed after (next p)); same = refl }
location_reads (is_outer x at dot name rest) after p = record { found = outer x (p 0); places = next (next (next p)); derives = is_outer x (p 0) (p 1) (p 2) (placed after (next (next (next p)))); same = refl }

-- at a place that asks for no more than the expression's tightness
abbrev Tight : Exp → Type 0
Tight e = (q : ℕ) → q ≤ tightness e.node → (after : List Kind) (p : Places) → Reading (Expression q) unplaced_exp e (exp_kinds e after) after p

not_below : (n q : ℕ) → nat_lt n q ≡ false → q ≤ n
not_below n q h = grind arith

-- at any place, in parentheses where they are printed
enclosed_reads : (e : Exp) → Tight e → (q : ℕ) (loose : Bool) → nat_lt (tightness e.node) q ≡ loose → (after : List Kind) (p : Places)
    → Reading (Expression q) unplaced_exp e (if loose then k.OpenParen ∷ node_kinds e.node (k.CloseParen ∷ after) else node_kinds e.node after) after p
enclosed_reads e f q true h after p =
    let r = f 0 (omega arith) (k.CloseParen ∷ after) (next p) in
    record { found = r.found; places = next r.places; derives = is_paren (p 0) (r.places 0) r.derives; same = r.same }
enclosed_reads e f q false h after p = f q (not_below (tightness e.node) q h) after p

prefix_reads : (op : Op1) (at : Pos) (e : Exp) → Tight e → Tight (one op at e)
unfolding node_kinds unplaced_node hidden-the_row-Exp-0 Carrier.hidden
prefix_reads op at e f q h after p =
    let r = enclosed_reads e f 10 (nat_lt (tightness e.node) 10) refl after (next p) in
    record { found = one op (p 0) r.found; places = r.places; derives = is_prefix (prefix_kind op) op (p 0) h (prefix_known op) r.derives; same = λ i. one op nowhere (r.same i) }

binary_reads : (op : Op2) (at : Pos) (a b : Exp) → Tight a → Tight b → Tight (two op at a b)
unfolding node_kinds unplaced_node hidden-the_row-Exp-0 Carrier.hidden
binary_reads op at a b f g q h after p =
    let right = if nat_lt (tightness b.node) (suc (level op)) then k.OpenParen ∷ node_kinds b.node (k.CloseParen ∷ after) else node_kinds b.node after in
    let r = enclosed_reads a f (level op) (nat_lt (tightness a.node) (level op)) refl (binary_kind op ∷ right) p in
    let s = enclosed_reads b g (suc (level op)) (nat_lt (tightness b.node) (suc (level op))) refl after (next r.places) in
    record { found = two op (r.places 0) r.found s.found; places = s.places; derives = binary_derives op (r.places 0) h r.derives s.derives; same = λ i. two op nowhere (r.same i) (s.same i) }

cast_reads : (ty : _) (at : Pos) (e : Exp) → Tight e → Tight (cast at e ty)
unfolding node_kinds unplaced_node hidden-the_row-Exp-0 Carrier.hidden
cast_reads ty at e f q h after p =
    let r = enclosed_reads e f 0 (nat_lt (tightness e.node) 0) refl (k.As ∷ k.Type ty ∷ after) p in
    let zero_is : 0 ≡ q = omega arith in
    record {
      found = cast (r.places 0) r.found ty;
      places = next (next r.places);
      derives = subst (λ n. Expression n (placed (exp_kinds (cast at e ty) after) p) (cast (r.places 0) r.found ty) (placed after (next (next r.places)))) zero_is (is_cast ty (r.places 0) (r.places 1) r.derives);
      same = λ i. cast nowhere (r.same i) ty;
    }

pub expression_reads : {l : ℕ} {tokens : List Terminal} {e : Exp} {rest : List Terminal} → Expression l tokens e rest → Tight e
unfolding node_kinds unplaced_node
expression_reads (is_number n at rest) q h after p = record { found = number n (p 0); places = next p; derives = is_number n (p 0) (placed after (next p)); same = refl }
expression_reads (is_truth b at rest) q h after p = record { found = truth b (p 0); places = next p; derives = is_truth b (p 0) (placed after (next p)); same = refl }
expression_reads (is_variable d) q h after p =
    let r = location_reads d after p in
    record { found = variable r.found; places = r.places; derives = is_variable r.derives; same = λ i. record { pos = nowhere; node = exp.Var (r.same i) } }
expression_reads (is_alive x at mark rest) q h after p =
    record { found = alive (ident x (p 0)) (p 1); places = next (next p); derives = is_alive x (p 0) (p 1) (placed after (next (next p))); same = refl }
expression_reads (is_paren at close d) q h after p = expression_reads d q h after p
expression_reads (is_prefix {e = e} kind op at c known d) q h after p = prefix_reads op at e (expression_reads d) q h after p
expression_reads (is_binary {a = a} {b = b} kind op at c known d g) q h after p = binary_reads op at a b (expression_reads d) (expression_reads g) q h after p
expression_reads (is_cast {e = e} ty at last d) q h after p = cast_reads ty at e (expression_reads d) q h after p

-- a whole expression
pub whole_reads : {tokens : List Terminal} {e : Exp} {rest : List Terminal} → Expression 0 tokens e rest → (after : List Kind) (p : Places) → Reading (Expression 0) unplaced_exp e (exp_kinds e after) after p
whole_reads d after p = expression_reads d 0 (omega arith) after p

-- ---- calls

pub comma_first : {tokens : List Terminal} {es : List Exp} {rest : List Terminal} → Arguments tokens es rest → (after : List Kind) → k.Comma ∷ argument_kinds es after ≡ more_arguments es after
comma_first (last_argument close d) after = refl
comma_first (one_argument comma d m) after = refl

arguments_read : {tokens : List Terminal} {es : List Exp} {rest : List Terminal} → Arguments tokens es rest → (after : List Kind) (p : Places)
    → Reading Arguments (map unplaced_exp) es (argument_kinds es (k.CloseParen ∷ after)) after p
arguments_read (last_argument close d) after p =
    let r = whole_reads d (k.CloseParen ∷ after) p in
    record { found = r.found ∷ []; places = next r.places; derives = last_argument (r.places 0) r.derives; same = λ i. r.same i ∷ [] }
arguments_read (one_argument {e = e} {es = es} comma d m) after p =
    let r = whole_reads d (k.Comma ∷ argument_kinds es (k.CloseParen ∷ after)) p in
    let s = arguments_read m after (next r.places) in
    subst (λ kinds. Reading Arguments (map unplaced_exp) (e ∷ es) (exp_kinds e kinds) after p) (comma_first m (k.CloseParen ∷ after))
    (record { found = r.found ∷ s.found; places = s.places; derives = one_argument (r.places 0) r.derives s.derives; same = λ i. r.same i ∷ s.same i })

pub calls_read : {tokens : List Terminal} {c : Call} {rest : List Terminal} → Calls tokens c rest → (after : List Kind) (p : Places) → Reading Calls unplaced_call c (call_kinds c after) after p
calls_read (calls_empty x at paren close rest) after p =
    record { found = call (ident x (p 0)) []; places = next (next (next p)); derives = calls_empty x (p 0) (p 1) (p 2) (placed after (next (next (next p)))); same = refl }
calls_read (calls_with x at paren d) after p =
    let r = arguments_read d after (next (next p)) in
    record { found = call (ident x (p 0)) r.found; places = r.places; derives = calls_with x (p 0) (p 1) r.derives; same = λ i. call (ident x nowhere) (r.same i) }

pub spawns_read : {tokens : List Terminal} {s : Spawn} {rest : List Terminal} → Spawns tokens s rest → (after : List Kind) (p : Places) → Reading Spawns unplaced_spawn s (spawn_kinds s after) after p
spawns_read (spawns x at into name d) after p =
    let r = calls_read d (k.In ∷ k.Lower x ∷ after) (next p) in
    record { found = spawn (p 0) r.found (ident x (r.places 1)); places = next (next r.places); derives = spawns x (p 0) (r.places 0) (r.places 1) r.derives; same = λ i. spawn nowhere (r.same i) (ident x nowhere) }

-- ---- awaits

pub targets_read : {tokens : List Terminal} {t : Target} {rest : List Terminal} → Targets tokens t rest → (after : List Kind) (p : Places) → Reading Targets unplaced_target t (target_kinds t after) after p
targets_read (is_input x at rest) after p = record { found = target.Ext (ident x (p 0)); places = next p; derives = is_input x (p 0) (placed after (next p)); same = refl }
targets_read (is_event d) after p =
    let r = location_reads d after p in
    record { found = target.Event r.found; places = r.places; derives = is_event r.derives; same = λ i. target.Event (r.same i) }
targets_read (is_time n at rest) after p = record { found = target.Time n; places = next p; derives = is_time n (p 0) (placed after (next p)); same = refl }
targets_read (is_time_expression unit paren close name d) after p =
    let r = whole_reads d (k.CloseParen ∷ k.Lower (unit_name unit) ∷ after) (next p) in
    record { found = target.TimeExp r.found unit; places = next (next r.places); derives = is_time_expression unit (p 0) (r.places 0) (r.places 1) r.derives; same = λ i. target.TimeExp (r.same i) unit }

pub awaits_read : {tokens : List Terminal} {a : Await} {rest : List Terminal} → Awaits tokens a rest → (after : List Kind) (p : Places) → Reading Awaits unplaced_await a (awaited_kinds a after) after p
awaits_read (is_forever at rest) after p = record { found = wait.Forever; places = next p; derives = is_forever (p 0) (placed after (next p)); same = refl }
awaits_read (is_code d) after p = let r = calls_read d after p in record { found = wait.Code r.found; places = r.places; derives = is_code r.derives; same = λ i. wait.Code (r.same i) }
awaits_read (is_target d) after p = let r = targets_read d after p in record { found = wait.On r.found None; places = r.places; derives = is_target r.derives; same = λ i. wait.On (r.same i) None }
awaits_read (is_until {e = e} until d g) after p =
    let r = targets_read d (k.Until ∷ exp_kinds e after) p in
    let s = whole_reads g after (next r.places) in
    record { found = wait.On r.found (Some s.found); places = s.places; derives = is_until (r.places 0) r.derives s.derives; same = λ i. wait.On (r.same i) (Some (s.same i)) }
