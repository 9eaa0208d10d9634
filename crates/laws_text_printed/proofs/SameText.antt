-- A printed text knows no positions.
use Rattle.std.proofs.Common.{◌≡◌, refl, sym, ap, ◌∙◌, ℕ, suc, Bool, false, List, [], ◌∷◌, ◌++◌, map, codes, Option, Some, None}
use Rattle.std.specs.Prelude.{nat_lt, option_map}
use Rattle.ceu_base.specs.declared.kinds.Ty.{Ty}
use Rattle.ceu_tree.specs.declared.source.Ident.{Ident}
use Rattle.ceu_tree.specs.declared.source.Exp.{Exp}
use Rattle.ceu_tree.specs.declared.source.ExpNode as exp
use Rattle.ceu_tree.specs.declared.source.ExpNode.{ExpNode, Row_of-Exp, end_of-Exp, more_of-Exp, One', Two', As'}
use Rattle.ceu_tree.specs.declared.source.Call.{Call}
use Rattle.ceu_tree.specs.declared.source.Spawn.{Spawn}
use Rattle.ceu_tree.specs.declared.source.Label.{Label}
use Rattle.ceu_tree.specs.declared.source.Label.TheVariants as label
use Rattle.ceu_tree.specs.declared.source.Target.{Target}
use Rattle.ceu_tree.specs.declared.source.Target.TheVariants as target
use Rattle.ceu_tree.specs.declared.source.Await.{Await}
use Rattle.ceu_tree.specs.declared.source.Await.TheVariants as await
use Rattle.ceu_tree.specs.declared.source.Param.{Param}
use Rattle.ceu_tree.specs.declared.source.Source as source
use Rattle.ceu_tree.specs.declared.source.Source.{Source}
use Rattle.ceu_tree.specs.declared.source.Item.{Held-Item-value, Item-value-None', Item-value-Some'}
use Rattle.ceu_tree.specs.declared.source.Do.{Do, Do'}
use Rattle.ceu_tree.specs.declared.source.Block.{Block, Block', Row_of-Node, end_of-Node, more_of-Node}
use Rattle.ceu_tree.specs.declared.source.Arm.{Arm, Arm'}
use Rattle.ceu_tree.specs.declared.source.Range.{Range, Range'}
use Rattle.ceu_tree.specs.declared.source.Stmt as stmt
use Rattle.ceu_tree.specs.declared.source.Stmt.{Stmt, Vars', If', Par', Row_of-Item, end_of-Item, more_of-Item, Row_of-Arm, end_of-Arm, more_of-Arm, Row_of-Block, end_of-Block, more_of-Block, Held-Stmt-If-1, Stmt-If-1-None', Stmt-If-1-Some'}
use Rattle.ceu_tree.specs.declared.source.Tree.{Tree}
use Rattle.ceu_print.specs.Lists.{Text, joined, all}
use Rattle.ceu_print.specs.Words.{level, type_text, prefix_text, binary_text, ident_text, unit_text, par_text}
use Rattle.ceu_print.specs.Expressions.{tightness, enclosed, node_text, operand_text, exp_text, call_text, spawn_text, target_text, until_text, await_text}
use Rattle.ceu_print.specs.Statements.{names_text, param_text, params_text, label_text, start_text, emitted_text, left_text, answer_text, received_text, shared_text, left_bracket, right_bracket, vars_head, target_head, code_name, listed_params, code_head, do_head, loop_head, interval_text, range_head, every_head, watching_head, async_head, inner_text, deeper, line_text, is_do, held_is_done, row_is_done, ends_in_end, stmt_text, source_text, value_text, do_text, body_text, block_text, arm_text, last_text, range_text, item_texts, arm_texts, block_texts, line_texts, program_text}
use Rattle.laws_text_printed.specs.Places.{unplaced_ident, unplaced_node, unplaced_operand, unplaced_exp, unplaced_call, unplaced_spawn, unplaced_target, unplaced_await, unplaced_label, unplaced_param, unplaced_stmt, unplaced_source, unplaced_value, unplaced_do, unplaced_block, unplaced_arm, unplaced_last, unplaced_range, unplaced_items, unplaced_arms, unplaced_branches, unplaced_nodes, unplaced}
use Rattle.laws_text_printed.proofs.PrintedStatements.{rows_text, program_is}

-- ---- expressions

same_tightness : (e : ExpNode) → tightness (unplaced_node e) ≡ tightness e
unfolding unplaced_node
same_tightness (exp.Number n) = refl
same_tightness (exp.Bool b) = refl
same_tightness (exp.Var x) = refl
same_tightness (exp.Alive x) = refl
same_tightness (One' op n a) = refl
same_tightness (Two' op n a m b) = refl
same_tightness (As' n a t) = refl

mutual
  unfolding node_text unplaced_node

  same_node : (e : ExpNode) → node_text (unplaced_node e) ≡ node_text e
  same_node (exp.Number n) = refl
  same_node (exp.Bool b) = refl
  same_node (exp.Var x) = refl
  same_node (exp.Alive x) = refl
  same_node (One' op n a) = ap (λ (t : Text). prefix_text op ++ t) (same_operand 10 a)
  same_node (Two' op n a m b) = λ i. same_operand (level op) a i ++ binary_text op ++ same_operand (suc (level op)) b i
  same_node (As' n a t) = ap (λ (u : Text). u ++ codes " as " ++ type_text t) (same_operand 0 a)

  same_operand : (at : ℕ) {n : _} (r : Row_of-Exp n) → operand_text at (unplaced_operand r) ≡ operand_text at r
  same_operand at end_of-Exp = refl
  same_operand at (more_of-Exp p e rest) = λ i. enclosed (nat_lt (same_tightness e i) at) (same_node e i)

same_exp : (e : Exp) → exp_text (unplaced_exp e) ≡ exp_text e
same_exp e = same_node e.node

same_list : (es : List Exp) → map exp_text (map unplaced_exp es) ≡ map exp_text es
same_list [] = refl
same_list (e ∷ es) = λ i. same_exp e i ∷ same_list es i

same_call : (c : Call) → call_text (unplaced_call c) ≡ call_text c
same_call c = ap (λ (ts : List Text). ident_text c.code ++ codes "(" ++ joined (codes ", ") ts ++ codes ")") (same_list c.args)

same_spawn : (s : Spawn) → spawn_text (unplaced_spawn s) ≡ spawn_text s
same_spawn s = ap (λ (t : Text). codes "spawn " ++ t ++ codes " in " ++ ident_text s.pool) (same_call s.call)

same_target : (t : Target) → target_text (unplaced_target t) ≡ target_text t
same_target (target.Ext x) = refl
same_target (target.Event x) = refl
same_target (target.Time us) = refl
same_target (target.TimeExp e u) = ap (λ (t : Text). codes "(" ++ t ++ codes ") " ++ unit_text u) (same_exp e)

same_until : (e : Option Exp) → until_text (option_map unplaced_exp e) ≡ until_text e
same_until None = refl
same_until (Some e) = ap (λ (t : Text). codes " until " ++ t) (same_exp e)

same_await : (a : Await) → await_text (unplaced_await a) ≡ await_text a
same_await await.Forever = refl
same_await (await.Code c) = ap (λ (t : Text). codes "await " ++ t) (same_call c)
same_await (await.On t e) = λ i. codes "await " ++ (same_target t i ++ same_until e i)

-- ---- parts of statements

same_names : (xs : List Ident) → map ident_text (map unplaced_ident xs) ≡ map ident_text xs
same_names [] = refl
same_names (x ∷ xs) = ap (λ (ts : List Text). ident_text x ∷ ts) (same_names xs)

same_named : (xs : List Ident) → names_text (map unplaced_ident xs) ≡ names_text xs
same_named xs = ap (joined (codes ", ")) (same_names xs)

same_param_list : (ps : List Param) → map param_text (map unplaced_param ps) ≡ map param_text ps
same_param_list [] = refl
same_param_list (p ∷ ps) = ap (λ (ts : List Text). param_text p ∷ ts) (same_param_list ps)

same_params : (ps : List Param) → params_text (map unplaced_param ps) ≡ params_text ps
same_params [] = refl
same_params (p ∷ ps) = ap (joined (codes ", ")) (same_param_list (p ∷ ps))

same_label : (l : Label) → label_text (unplaced_label l) ≡ label_text l
same_label label.Plain = refl
same_label label.Under = refl
same_label (label.Named x) = refl

same_start : (s : Option Spawn) → start_text (option_map unplaced_spawn s) ≡ start_text s
same_start None = refl
same_start (Some s) = ap (λ (t : Text). codes " = " ++ t) (same_spawn s)

same_emitted : (e : Option Exp) → emitted_text (option_map unplaced_exp e) ≡ emitted_text e
same_emitted None = refl
same_emitted (Some e) = ap (λ (t : Text). codes "(" ++ t ++ codes ")") (same_exp e)

same_left : (x : Option Ident) → left_text (option_map unplaced_ident x) ≡ left_text x
same_left None = refl
same_left (Some x) = refl

same_answer : (e : Option Exp) → answer_text (option_map unplaced_exp e) ≡ answer_text e
same_answer None = refl
same_answer (Some e) = ap (λ (t : Text). codes " " ++ t) (same_exp e)

same_received : (x : Option Ident) → received_text (option_map unplaced_ident x) ≡ received_text x
same_received None = refl
same_received (Some x) = refl

same_shared : (xs : List Ident) → shared_text (map unplaced_ident xs) ≡ shared_text xs
same_shared [] = refl
same_shared (x ∷ xs) = ap (λ (t : Text). codes " (" ++ t ++ codes ")") (same_named (x ∷ xs))

same_code : (x : Ident) (ps : List Param) (t : Ty) → code_head (unplaced_ident x) (map unplaced_param ps) t ≡ code_head x ps t
unfolding code_head code_name listed_params
same_code x ps t = ap (λ (u : Text). code_name x ++ (codes "(" ++ u ++ codes ")") ++ codes " -> " ++ type_text t ++ codes " do") (same_params ps)

same_range : (x : Ident) (open_a : Bool) (a b : Exp) (open_b : Bool) → range_head (unplaced_ident x) open_a (unplaced_exp a) (unplaced_exp b) open_b ≡ range_head x open_a a b open_b
unfolding range_head interval_text
same_range x open_a a b open_b = λ i. codes "loop " ++ ident_text x ++ codes " in " ++ (left_bracket open_a ++ same_exp a i ++ codes " -> " ++ same_exp b i ++ right_bracket open_b) ++ codes " do"

same_every : (x : Option Ident) (t : Target) → every_head (option_map unplaced_ident x) (unplaced_target t) ≡ every_head x t
unfolding every_head
same_every x t = λ i. codes "every " ++ same_received x i ++ same_target t i ++ codes " do"

-- ---- whether a statement's last token is `end`

same_is_do : (s : Source) → is_do (unplaced_source s) ≡ is_do s
unfolding unplaced_stmt
same_is_do (source.Value e) = refl
same_is_do (source.Wait a) = refl
same_is_do (source.Start s) = refl
same_is_do (source.Done d) = refl

same_held : (v : Held-Item-value) → held_is_done (unplaced_value v) ≡ held_is_done v
unfolding unplaced_stmt
same_held Item-value-None' = refl
same_held (Item-value-Some' s) = same_is_do s

same_row : {n : _} (b : Bool) (r : Row_of-Item n) → row_is_done b (unplaced_items r) ≡ row_is_done b r
unfolding unplaced_stmt row_is_done
same_row b end_of-Item = refl
same_row b (more_of-Item x v rest) = ap (λ (c : Bool). row_is_done c (unplaced_items rest)) (same_held v) ∙ same_row (held_is_done v) rest

same_ends : (s : Stmt) → ends_in_end (unplaced_stmt s) ≡ ends_in_end s
unfolding unplaced_stmt ends_in_end
same_ends stmt.Nothing = refl
same_ends stmt.Break = refl
same_ends stmt.Continue = refl
same_ends (Vars' t n items) = same_row false items
same_ends (stmt.AliasDecl c x s) = refl
same_ends (stmt.Events t xs) = refl
same_ends (stmt.Inputs t xs) = refl
same_ends (stmt.Outputs t xs) = refl
same_ends (stmt.Pool n c x) = refl
same_ends (stmt.Code x ps t b) = refl
same_ends (stmt.Assign x s) = same_is_do s
same_ends (stmt.Emit x e) = refl
same_ends (stmt.Await a) = refl
same_ends (stmt.Spawn s) = refl
same_ends (stmt.Kill x) = refl
same_ends (stmt.Escape l e) = refl
same_ends (stmt.Do d) = refl
same_ends (stmt.Finalize b) = refl
same_ends (If' n arms last) = refl
same_ends (stmt.Loop n b) = refl
same_ends (stmt.Range r) = refl
same_ends (stmt.Every x t b) = refl
same_ends (stmt.Watching t b) = refl
same_ends (Par' p n bs) = refl
same_ends (stmt.Async xs b) = refl

-- ---- statements

mutual
  unfolding stmt_text unplaced_stmt target_head do_head watching_head async_head

  same_stmt : (s : Stmt) (m : Text) → stmt_text (unplaced_stmt s) m ≡ stmt_text s m
  same_stmt stmt.Nothing m = refl
  same_stmt stmt.Break m = refl
  same_stmt stmt.Continue m = refl
  same_stmt (Vars' t n items) m = ap (λ (ts : List Text). vars_head t ++ joined (codes ", ") ts) (same_items items m)
  same_stmt (stmt.AliasDecl c x s) m = ap (λ (t : Text). codes "var&? " ++ ident_text c ++ codes " " ++ ident_text x ++ t) (same_start s)
  same_stmt (stmt.Events t xs) m = ap (λ (u : Text). codes "event " ++ type_text t ++ codes " " ++ u) (same_named xs)
  same_stmt (stmt.Inputs t xs) m = ap (λ (u : Text). codes "input " ++ type_text t ++ codes " " ++ u) (same_named xs)
  same_stmt (stmt.Outputs t xs) m = ap (λ (u : Text). codes "output " ++ type_text t ++ codes " " ++ u) (same_named xs)
  same_stmt (stmt.Pool n c x) m = refl
  same_stmt (stmt.Code x ps t b) m = λ i. same_code x ps t i ++ same_body b m i
  same_stmt (stmt.Assign x s) m = ap (λ (t : Text). target_head x ++ t) (same_source s m)
  same_stmt (stmt.Emit x e) m = ap (λ (t : Text). codes "emit " ++ ident_text x ++ t) (same_emitted e)
  same_stmt (stmt.Await a) m = same_await a
  same_stmt (stmt.Spawn s) m = same_spawn s
  same_stmt (stmt.Kill x) m = refl
  same_stmt (stmt.Escape l e) m = λ i. codes "escape" ++ same_left l i ++ same_answer e i
  same_stmt (stmt.Do d) m = same_do d m
  same_stmt (stmt.Finalize b) m = ap (λ (t : Text). codes "do finalize with" ++ t) (same_body b m)
  same_stmt (If' n arms last) m = λ i. joined (codes "else/") (same_arms arms m i) ++ same_last last m i
  same_stmt (stmt.Loop n b) m = ap (λ (t : Text). loop_head n ++ t) (same_body b m)
  same_stmt (stmt.Range r) m = same_range_of r m
  same_stmt (stmt.Every x t b) m = λ i. same_every x t i ++ same_body b m i
  same_stmt (stmt.Watching t b) m = λ i. (codes "watching " ++ same_target t i ++ codes " do") ++ same_body b m i
  same_stmt (Par' p n bs) m = ap (λ (ts : List Text). par_text p ++ (joined (codes "with") ts ++ codes "end")) (same_branches bs m)
  same_stmt (stmt.Async xs b) m = λ i. (codes "async" ++ same_shared xs i ++ codes " do") ++ same_body b m i

  same_source : (s : Source) (m : Text) → source_text (unplaced_source s) m ≡ source_text s m
  same_source (source.Value e) m = same_exp e
  same_source (source.Wait a) m = same_await a
  same_source (source.Start s) m = same_spawn s
  same_source (source.Done d) m = same_do d m

  same_value : (v : Held-Item-value) (m : Text) → value_text (unplaced_value v) m ≡ value_text v m
  same_value Item-value-None' m = refl
  same_value (Item-value-Some' s) m = ap (λ (t : Text). codes " = " ++ t) (same_source s m)

  same_do : (d : Do) (m : Text) → do_text (unplaced_do d) m ≡ do_text d m
  same_do (Do' l b) m = λ i. (codes "do" ++ same_label l i) ++ same_body b m i

  same_body : (b : Block) (m : Text) → body_text (unplaced_block b) m ≡ body_text b m
  same_body (Block' n list) m = ap (λ (ts : List Text). inner_text m ts ++ codes "end") (same_lines list (deeper m))

  same_block : (b : Block) (m : Text) → block_text (unplaced_block b) m ≡ block_text b m
  same_block (Block' n list) m = ap (λ (ts : List Text). inner_text m ts) (same_lines list (deeper m))

  same_arm : (a : Arm) (m : Text) → arm_text (unplaced_arm a) m ≡ arm_text a m
  same_arm (Arm' c b) m = λ i. codes "if " ++ same_exp c i ++ codes " then" ++ same_block b m i

  same_last : (last : Held-Stmt-If-1) (m : Text) → last_text (unplaced_last last) m ≡ last_text last m
  same_last Stmt-If-1-None' m = refl
  same_last (Stmt-If-1-Some' b) m = ap (λ (t : Text). codes "else" ++ t) (same_body b m)

  same_range_of : (r : Range) (m : Text) → range_text (unplaced_range r) m ≡ range_text r m
  same_range_of (Range' x open_a a c open_b body) m = λ i. same_range x open_a a c open_b i ++ same_body body m i

  same_items : {n : _} (r : Row_of-Item n) (m : Text) → item_texts (unplaced_items r) m ≡ item_texts r m
  same_items end_of-Item m = refl
  same_items (more_of-Item x v rest) m = λ i. (ident_text x ++ same_value v m i) ∷ same_items rest m i

  same_arms : {n : _} (r : Row_of-Arm n) (m : Text) → arm_texts (unplaced_arms r) m ≡ arm_texts r m
  same_arms end_of-Arm m = refl
  same_arms (more_of-Arm a rest) m = λ i. same_arm a m i ∷ same_arms rest m i

  same_branches : {n : _} (r : Row_of-Block n) (m : Text) → block_texts (unplaced_branches r) m ≡ block_texts r m
  same_branches end_of-Block m = refl
  same_branches (more_of-Block b rest) m = λ i. same_block b m i ∷ same_branches rest m i

  same_lines : {n : _} (r : Row_of-Node n) (m : Text) → line_texts (unplaced_nodes r) m ≡ line_texts r m
  same_lines end_of-Node m = refl
  same_lines (more_of-Node p s rest) m = λ i. line_text m (same_stmt s m i) (same_ends s i) ∷ same_lines rest m i

-- ---- programs

same_rows : (b : Block) → rows_text (unplaced_block b) ≡ rows_text b
unfolding unplaced_stmt
same_rows (Block' n list) = ap all (same_lines list [])

unplaced_text : (t : Tree) → program_text (unplaced t) ≡ program_text t
unplaced_text t = program_is (unplaced t).body ∙ same_rows t.body ∙ sym (program_is t.body)

pub same_text : (t u : Tree) → unplaced u ≡ unplaced t → program_text u ≡ program_text t
same_text t u same = sym (unplaced_text u) ∙ ap program_text same ∙ unplaced_text t
