-- One level of the printed text of a statement, by the variants that a tree is made of.
use Rattle.std.proofs.Common.{◌≡◌, refl, sym, ap, ◌∙◌, ◌++◌, List, ◌∷◌, Option, Some, None, map, codes}
use Rattle.std.specs.Prelude.{decimal}
use Rattle.ceu_tree.specs.declared.source.Block.{Block, Block', out-Block, Row_of-Node, end_of-Node, more_of-Node, items-the_row-Node, items_shown-the_row-Node-3}
use Rattle.ceu_tree.specs.declared.source.Do.{Do, Do', out-Do}
use Rattle.ceu_tree.specs.declared.source.Source as source
use Rattle.ceu_tree.specs.declared.source.Arm.{Arm, Arm', out-Arm}
use Rattle.ceu_tree.specs.declared.source.Range.{Range, Range', out-Range}
use Rattle.ceu_tree.specs.declared.source.Item.{Item, Held-Item-value, Item-value-None', Item-value-Some', view-Item-value}
use Rattle.ceu_tree.specs.declared.source.Stmt as stmt
use Rattle.ceu_tree.specs.declared.source.Stmt.{Stmt, Row_of-Item, end_of-Item, more_of-Item, items-the_row-Item, items_hidden-the_row-Item-0, Row_of-Arm, end_of-Arm, more_of-Arm, items-the_row-Arm, items_hidden-the_row-Arm-1, Row_of-Block, end_of-Block, more_of-Block, items-the_row-Block, items_hidden-the_row-Block-2, back-Stmt-If-1}
use Rattle.ceu_tree.specs.declared.source.Source.TheBlock.{hidden-the_row-Item-0, hidden-the_row-Arm-1, hidden-the_row-Block-2}
use Rattle.ceu_print.specs.Lists.{Text, joined}
use Rattle.ceu_print.specs.Words.{type_text, par_text, ident_text}
use Rattle.ceu_print.specs.Expressions.{exp_text, spawn_text, await_text}
use Rattle.ceu_print.specs.Statements.{start_text, names_text, emitted_text, left_text, answer_text, code_head, vars_head, target_head, do_head, loop_head, range_head, every_head, watching_head, async_head, inner_text, deeper, line_text, ends_in_end, stmt_text, source_text, value_text, do_text, body_text, block_text, arm_text, last_text, range_text, item_texts, arm_texts, block_texts, line_texts, if_value_text, item_text, arm_line, branch_text, else_text, node_line}
use denote.Hole.Carrier

-- ---- rows and lists

value_held : (v : Held-Item-value) (m : Text) → value_text v m ≡ if_value_text (view-Item-value v) m
unfolding stmt_text
value_held Item-value-None' m = refl
value_held (Item-value-Some' s) m = refl

items_row : {n : _} (r : Row_of-Item n) (m : Text) → item_texts r m ≡ map (item_text m) (items-the_row-Item n r)
unfolding stmt_text
items_row end_of-Item m = refl
items_row (more_of-Item x v rest) m = λ i. (ident_text x ++ value_held v m i) ∷ items_row rest m i

arms_row : {n : _} (r : Row_of-Arm n) (m : Text) → arm_texts r m ≡ map (arm_line m) (items-the_row-Arm n r)
unfolding stmt_text
arms_row end_of-Arm m = refl
arms_row (more_of-Arm a rest) m = ap (λ (ts : List Text). arm_text a m ∷ ts) (arms_row rest m)

blocks_row : {n : _} (r : Row_of-Block n) (m : Text) → block_texts r m ≡ map (branch_text m) (items-the_row-Block n r)
unfolding stmt_text
blocks_row end_of-Block m = refl
blocks_row (more_of-Block b rest) m = ap (λ (ts : List Text). block_text b m ∷ ts) (blocks_row rest m)

lines_row : {n : _} (r : Row_of-Node n) (m : Text) → line_texts r m ≡ map (node_line m) (items-the_row-Node n r)
unfolding stmt_text
lines_row end_of-Node m = refl
lines_row (more_of-Node p s rest) m = ap (λ (ts : List Text). line_text m (stmt_text s m) (ends_in_end s) ∷ ts) (lines_row rest m)

last_held : (last : Option Block) (m : Text) → last_text (back-Stmt-If-1 last) m ≡ else_text last m
unfolding stmt_text
last_held None m = refl
last_held (Some b) m = refl

-- ---- blocks

pub text_block : (b : Block) (m : Text) → block_text b m ≡ inner_text m (map (node_line (deeper m)) (out-Block b).list)
unfolding stmt_text out-Block Carrier.out
text_block (Block' x list) m = ap (inner_text m) (lines_row list (deeper m) ∙ sym (ap (map (node_line (deeper m))) (items_shown-the_row-Node-3 x list)))

pub text_body : (b : Block) (m : Text) → body_text b m ≡ block_text b m ++ codes "end"
unfolding stmt_text
text_body (Block' x list) m = refl

pub text_do : (d : Do) (m : Text) → do_text d m ≡ do_head (out-Do d).label ++ body_text (out-Do d).body m
unfolding stmt_text out-Do Carrier.out
text_do (Do' l b) m = refl

pub text_arm : (a : Arm) (m : Text) → arm_text a m ≡ codes "if " ++ exp_text (out-Arm a).cond ++ codes " then" ++ block_text (out-Arm a).body m
unfolding stmt_text out-Arm Carrier.out
text_arm (Arm' c b) m = refl

pub text_range_of : (r : Range) (m : Text) → range_text r m ≡ range_head (out-Range r).name (out-Range r).open_a (out-Range r).a (out-Range r).b (out-Range r).open_b ++ body_text (out-Range r).body m
unfolding stmt_text out-Range Carrier.out
text_range_of (Range' x open_a a b open_b body) m = refl

-- ---- sources

pub text_value : (e : _) (m : Text) → source_text (source.Value e) m ≡ exp_text e
unfolding stmt_text
text_value e m = refl

pub text_wait : (a : _) (m : Text) → source_text (source.Wait a) m ≡ await_text a
unfolding stmt_text
text_wait a m = refl

pub text_started : (s : _) (m : Text) → source_text (source.Start s) m ≡ spawn_text s
unfolding stmt_text
text_started s m = refl

pub text_done : (d : Do) (m : Text) → source_text (source.Done d) m ≡ do_text d m
unfolding stmt_text
text_done d m = refl

-- ---- statements

pub text_vars : (t : _) (items : List Item) (m : Text) → stmt_text (stmt.Vars t items) m ≡ vars_head t ++ joined (codes ", ") (map (item_text m) items)
unfolding stmt_text
text_vars t items m = ap (λ (ts : List Text). vars_head t ++ joined (codes ", ") ts) (items_row (hidden-the_row-Item-0 items) m ∙ ap (map (item_text m)) (items_hidden-the_row-Item-0 items))

pub text_if : (arms : List Arm) (last : Option Block) (m : Text) → stmt_text (stmt.If arms last) m ≡ joined (codes "else/") (map (arm_line m) arms) ++ else_text last m
unfolding stmt_text
text_if arms last m = λ i. joined (codes "else/") ((arms_row (hidden-the_row-Arm-1 arms) m ∙ ap (map (arm_line m)) (items_hidden-the_row-Arm-1 arms)) i) ++ last_held last m i

pub text_par : (k : _) (bs : List Block) (m : Text) → stmt_text (stmt.Par k bs) m ≡ par_text k ++ (joined (codes "with") (map (branch_text m) bs) ++ codes "end")
unfolding stmt_text
text_par k bs m = ap (λ (ts : List Text). par_text k ++ (joined (codes "with") ts ++ codes "end")) (blocks_row (hidden-the_row-Block-2 bs) m ∙ ap (map (branch_text m)) (items_hidden-the_row-Block-2 bs))

pub text_nothing : (m : Text) → stmt_text (stmt.Nothing) m ≡ codes "nothing"
unfolding stmt_text
text_nothing m = refl

pub text_break : (m : Text) → stmt_text (stmt.Break) m ≡ codes "break"
unfolding stmt_text
text_break m = refl

pub text_continue : (m : Text) → stmt_text (stmt.Continue) m ≡ codes "continue"
unfolding stmt_text
text_continue m = refl

pub text_alias : (c : _) (x : _) (s : _) (m : Text) → stmt_text (stmt.AliasDecl c x s) m ≡ codes "var&? " ++ ident_text c ++ codes " " ++ ident_text x ++ start_text s
unfolding stmt_text
text_alias c x s m = refl

pub text_events : (t : _) (xs : _) (m : Text) → stmt_text (stmt.Events t xs) m ≡ codes "event " ++ type_text t ++ codes " " ++ names_text xs
unfolding stmt_text
text_events t xs m = refl

pub text_inputs : (t : _) (xs : _) (m : Text) → stmt_text (stmt.Inputs t xs) m ≡ codes "input " ++ type_text t ++ codes " " ++ names_text xs
unfolding stmt_text
text_inputs t xs m = refl

pub text_outputs : (t : _) (xs : _) (m : Text) → stmt_text (stmt.Outputs t xs) m ≡ codes "output " ++ type_text t ++ codes " " ++ names_text xs
unfolding stmt_text
text_outputs t xs m = refl

pub text_pool : (n : _) (c : _) (x : _) (m : Text) → stmt_text (stmt.Pool n c x) m ≡ codes "pool[" ++ decimal n ++ codes "] " ++ ident_text c ++ codes " " ++ ident_text x
unfolding stmt_text
text_pool n c x m = refl

pub text_code : (x : _) (ps : _) (t : _) (b : _) (m : Text) → stmt_text (stmt.Code x ps t b) m ≡ code_head x ps t ++ body_text b m
unfolding stmt_text
text_code x ps t b m = refl

pub text_assign : (x : _) (s : _) (m : Text) → stmt_text (stmt.Assign x s) m ≡ target_head x ++ source_text s m
unfolding stmt_text
text_assign x s m = refl

pub text_emit : (x : _) (e : _) (m : Text) → stmt_text (stmt.Emit x e) m ≡ codes "emit " ++ ident_text x ++ emitted_text e
unfolding stmt_text
text_emit x e m = refl

pub text_await : (a : _) (m : Text) → stmt_text (stmt.Await a) m ≡ await_text a
unfolding stmt_text
text_await a m = refl

pub text_spawn : (s : _) (m : Text) → stmt_text (stmt.Spawn s) m ≡ spawn_text s
unfolding stmt_text
text_spawn s m = refl

pub text_kill : (x : _) (m : Text) → stmt_text (stmt.Kill x) m ≡ codes "kill " ++ ident_text x
unfolding stmt_text
text_kill x m = refl

pub text_escape : (l : _) (e : _) (m : Text) → stmt_text (stmt.Escape l e) m ≡ codes "escape" ++ left_text l ++ answer_text e
unfolding stmt_text
text_escape l e m = refl

pub text_do_block : (d : _) (m : Text) → stmt_text (stmt.Do d) m ≡ do_text d m
unfolding stmt_text
text_do_block d m = refl

pub text_finalize : (b : _) (m : Text) → stmt_text (stmt.Finalize b) m ≡ codes "do finalize with" ++ body_text b m
unfolding stmt_text
text_finalize b m = refl

pub text_loop : (n : _) (b : _) (m : Text) → stmt_text (stmt.Loop n b) m ≡ loop_head n ++ body_text b m
unfolding stmt_text
text_loop n b m = refl

pub text_range : (r : _) (m : Text) → stmt_text (stmt.Range r) m ≡ range_text r m
unfolding stmt_text
text_range r m = refl

pub text_every : (x : _) (t : _) (b : _) (m : Text) → stmt_text (stmt.Every x t b) m ≡ every_head x t ++ body_text b m
unfolding stmt_text
text_every x t b m = refl

pub text_watching : (t : _) (b : _) (m : Text) → stmt_text (stmt.Watching t b) m ≡ watching_head t ++ body_text b m
unfolding stmt_text
text_watching t b m = refl

pub text_async : (xs : _) (b : _) (m : Text) → stmt_text (stmt.Async xs b) m ≡ async_head xs ++ body_text b m
unfolding stmt_text
text_async xs b m = refl

pub ruleset texts = (text_block, text_body, text_do, text_arm, text_range_of, text_value, text_wait, text_started, text_done, text_vars, text_if, text_par, text_nothing, text_break, text_continue, text_alias, text_events, text_inputs, text_outputs, text_pool, text_code, text_assign, text_emit, text_await, text_spawn, text_kill, text_escape, text_do_block, text_finalize, text_loop, text_range, text_every, text_watching, text_async)
