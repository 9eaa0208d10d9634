-- One level of the rows of a listing: each kind of statement, as the code builds it, and blocks by the lists that the code sees.
use Rattle.std.proofs.Common.{◌≡◌, refl, sym, ap, ◌∙◌, ℕ, suc, List, [], ◌∷◌, ◌++◌, length, codes}
use Rattle.ceu_base.specs.declared.kinds.Pos.{Pos}
use Rattle.ceu_tree.specs.declared.kernel.KExp.{KExp}
use Rattle.ceu_tree.specs.declared.kernel.KArm.{KArm, KArm', out-KArm}
use Rattle.ceu_tree.specs.declared.kernel.KBlock.{KBlock, KBlock', out-KBlock, Row_of-KNode, end_of-KNode, more_of-KNode, items-the_row-KNode, items_shown-the_row-KNode-2}
use Rattle.ceu_tree.specs.declared.kernel.KStmt as k
use Rattle.ceu_tree.specs.declared.kernel.KStmt.{KStmt, Row_of-KArm, end_of-KArm, more_of-KArm, items-the_row-KArm, items_hidden-the_row-KArm-0, items_hidden-the_row-KBlock-1, Row_of-KBlock, end_of-KBlock, more_of-KBlock, items-the_row-KBlock}
use Rattle.ceu_tree.specs.declared.kernel.KStmt.TheBlock.{hidden-the_row-KArm-0, hidden-the_row-KBlock-1}
use Rattle.ceu_tree.specs.Numbering.{par_slots, row_length}
use Rattle.ceu_listing.specs.Rows.{SlotRow, GateRow, decl_rows, turn_rows, byte_rows, stmt_rows, block_rows, arm_rows, nodes_rows, arms_rows, blocks_rows, node_rows, list_rows}
use denote.Hole.Carrier

pub rows_of_nothing : (node : ℕ) (at : Pos) → stmt_rows node at k.Nothing ≡ []
unfolding stmt_rows
rows_of_nothing node at = refl

pub rows_of_assign : (node : ℕ) (at : Pos) (l : _) (e : KExp) → stmt_rows node at (k.Assign l e) ≡ []
unfolding stmt_rows
rows_of_assign node at l e = refl

pub rows_of_out : (node : ℕ) (at : Pos) (n : ℕ) (e : _) → stmt_rows node at (k.Out n e) ≡ []
unfolding stmt_rows
rows_of_out node at n e = refl

pub rows_of_kill : (node : ℕ) (at : Pos) (n : ℕ) → stmt_rows node at (k.Kill n) ≡ []
unfolding stmt_rows
rows_of_kill node at n = refl

pub rows_of_unset : (node : ℕ) (at : Pos) (n : ℕ) → stmt_rows node at (k.Unset n) ≡ []
unfolding stmt_rows
rows_of_unset node at n = refl

pub rows_of_escape : (node : ℕ) (at : Pos) (n : ℕ) (e : _) → stmt_rows node at (k.Escape n e) ≡ []
unfolding stmt_rows
rows_of_escape node at n e = refl

pub rows_of_break : (node : ℕ) (at : Pos) (n : ℕ) → stmt_rows node at (k.Break n) ≡ []
unfolding stmt_rows
rows_of_break node at n = refl

pub rows_of_continue : (node : ℕ) (at : Pos) (n : ℕ) → stmt_rows node at (k.Continue n) ≡ []
unfolding stmt_rows
rows_of_continue node at n = refl

pub rows_of_emit : (node : ℕ) (at : Pos) (n : ℕ) (e : _) → stmt_rows node at (k.Emit n e) ≡ GateRow node at ∷ []
unfolding stmt_rows
rows_of_emit node at n e = refl

pub rows_of_await_in : (node : ℕ) (at : Pos) (n : ℕ) (t : _) → stmt_rows node at (k.AwaitIn n t) ≡ GateRow node at ∷ []
unfolding stmt_rows
rows_of_await_in node at n t = refl

pub rows_of_await_time : (node : ℕ) (at : Pos) (e : KExp) (u : _) (t : _) → stmt_rows node at (k.AwaitTime e u t) ≡ GateRow node at ∷ []
unfolding stmt_rows
rows_of_await_time node at e u t = refl

pub rows_of_await_event : (node : ℕ) (at : Pos) (n : ℕ) (t : _) → stmt_rows node at (k.AwaitEvent n t) ≡ GateRow node at ∷ []
unfolding stmt_rows
rows_of_await_event node at n t = refl

pub rows_of_forever : (node : ℕ) (at : Pos) → stmt_rows node at k.Forever ≡ GateRow node at ∷ []
unfolding stmt_rows
rows_of_forever node at = refl

pub rows_of_spawn : (node : ℕ) (at : Pos) (c : ℕ) (es : List KExp) (p : ℕ) (a : _) → stmt_rows node at (k.Spawn c es p a) ≡ GateRow node at ∷ []
unfolding stmt_rows
rows_of_spawn node at c es p a = refl

pub rows_of_await_code : (node : ℕ) (at : Pos) (c : ℕ) (es : List KExp) (f : ℕ) (t : _) → stmt_rows node at (k.AwaitCode c es f t) ≡ SlotRow f (codes ".frame") at ∷ []
unfolding stmt_rows
rows_of_await_code node at c es f t = refl

pub rows_of_async : (node : ℕ) (at : Pos) (b : KBlock) → stmt_rows node at (k.Async b) ≡ (GateRow node at ∷ []) ++ block_rows b
unfolding stmt_rows
rows_of_async node at b = refl

pub rows_of_finalize : (node : ℕ) (at : Pos) (b : KBlock) → stmt_rows node at (k.Finalize b) ≡ (GateRow node at ∷ []) ++ block_rows b
unfolding stmt_rows
rows_of_finalize node at b = refl

pub rows_of_do : (node : ℕ) (at : Pos) (t : _) (b : KBlock) → stmt_rows node at (k.Do t b) ≡ block_rows b
unfolding stmt_rows
rows_of_do node at t b = refl

pub rows_of_loop : (node : ℕ) (at : Pos) (kind : _) (b : KBlock) → stmt_rows node at (k.Loop kind b) ≡ turn_rows at kind ++ block_rows b
unfolding stmt_rows
rows_of_loop node at kind b = refl

nodes_row : {n : _} (r : Row_of-KNode n) → nodes_rows r ≡ list_rows node_rows (items-the_row-KNode n r)
unfolding stmt_rows
nodes_row end_of-KNode = refl
nodes_row (more_of-KNode n p s rest) = ap (λ l. stmt_rows n p s ++ l) (nodes_row rest)

arms_row : {n : _} (r : Row_of-KArm n) → arms_rows r ≡ list_rows arm_rows (items-the_row-KArm n r)
unfolding stmt_rows
arms_row end_of-KArm = refl
arms_row (more_of-KArm a rest) = ap (λ l. arm_rows a ++ l) (arms_row rest)

blocks_row : {n : _} (r : Row_of-KBlock n) → blocks_rows r ≡ list_rows block_rows (items-the_row-KBlock n r)
unfolding stmt_rows
blocks_row end_of-KBlock = refl
blocks_row (more_of-KBlock b rest) = ap (λ l. block_rows b ++ l) (blocks_row rest)

count_row : {n : _} (r : Row_of-KBlock n) → row_length r ≡ length (items-the_row-KBlock n r)
count_row end_of-KBlock = refl
count_row (more_of-KBlock b rest) = ap suc (count_row rest)

pub rows_of_block : (b : KBlock) → block_rows b ≡ decl_rows (out-KBlock b).decls ++ list_rows node_rows (out-KBlock b).list
unfolding stmt_rows out-KBlock Carrier.out
rows_of_block (KBlock' n ds x list) = ap (λ l. decl_rows ds ++ l) (nodes_row list ∙ sym (ap (list_rows node_rows) (items_shown-the_row-KNode-2 x list)))

pub rows_of_arm : (a : KArm) → arm_rows a ≡ block_rows (out-KArm a).body
unfolding stmt_rows out-KArm Carrier.out
rows_of_arm (KArm' c b) = refl

pub rows_of_if : (node : ℕ) (at : Pos) (arms : List KArm) (last : KBlock) → stmt_rows node at (k.If arms last) ≡ list_rows arm_rows arms ++ block_rows last
unfolding stmt_rows
rows_of_if node at arms last = ap (λ l. l ++ block_rows last) (arms_row (hidden-the_row-KArm-0 arms) ∙ ap (list_rows arm_rows) (items_hidden-the_row-KArm-0 arms))

pub rows_of_par : (node : ℕ) (at : Pos) (kind : _) (slot : ℕ) (bs : List KBlock) → stmt_rows node at (k.Par kind slot bs) ≡ byte_rows at (par_slots kind slot (length bs)) ++ list_rows block_rows bs
unfolding stmt_rows
rows_of_par node at kind slot bs =
    let row = hidden-the_row-KBlock-1 bs in
    ap (λ n. byte_rows at (par_slots kind slot n) ++ blocks_rows row) (count_row row ∙ ap length (items_hidden-the_row-KBlock-1 bs)) ∙
    ap (λ l. byte_rows at (par_slots kind slot (length bs)) ++ l) (blocks_row row ∙ ap (list_rows block_rows) (items_hidden-the_row-KBlock-1 bs))

pub ruleset shown = (rows_of_nothing, rows_of_assign, rows_of_out, rows_of_kill, rows_of_unset, rows_of_escape, rows_of_break, rows_of_continue, rows_of_emit, rows_of_await_in, rows_of_await_time, rows_of_await_event, rows_of_forever, rows_of_spawn, rows_of_await_code, rows_of_async, rows_of_finalize, rows_of_do, rows_of_loop, rows_of_block, rows_of_arm, rows_of_if, rows_of_par)
