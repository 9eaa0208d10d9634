-- One level of the search for the first statement whose form doesn't run.
use Rattle.std.proofs.Common.{◌≡◌, refl, sym, ap, ◌∙◌, ℕ, List, Some, None}
use Rattle.ceu_base.specs.declared.kinds.Pos.{Pos}
use Rattle.ceu_tree.specs.declared.kernel.KExp.{KExp}
use Rattle.ceu_tree.specs.declared.kernel.KArm.{KArm, KArm', out-KArm}
use Rattle.ceu_tree.specs.declared.kernel.KBlock.{KBlock, KBlock', out-KBlock, Row_of-KNode, end_of-KNode, more_of-KNode, items-the_row-KNode, items_shown-the_row-KNode-2}
use Rattle.ceu_tree.specs.declared.kernel.KStmt as k
use Rattle.ceu_tree.specs.declared.kernel.KStmt.{KStmt, Row_of-KArm, end_of-KArm, more_of-KArm, items-the_row-KArm, items_hidden-the_row-KArm-0}
use Rattle.ceu_tree.specs.declared.kernel.KStmt.TheBlock.{hidden-the_row-KArm-0}
use Rattle.ceu_forms.specs.Forms.{or_else, first_in, other_decl, other_stmt, other_in_block, other_in_arm, other_in_nodes, other_in_arms, other_node}
use denote.Hole.Carrier

pub other_of_nothing : (place : Pos) → other_stmt place k.Nothing ≡ None
unfolding other_stmt
other_of_nothing place = refl

pub other_of_assign : (place : Pos) (l : _) (e : KExp) → other_stmt place (k.Assign l e) ≡ None
unfolding other_stmt
other_of_assign place l e = refl

pub other_of_out : (place : Pos) (n : ℕ) (e : _) → other_stmt place (k.Out n e) ≡ None
unfolding other_stmt
other_of_out place n e = refl

pub other_of_emit : (place : Pos) (n : ℕ) (e : _) → other_stmt place (k.Emit n e) ≡ Some place
unfolding other_stmt
other_of_emit place n e = refl

pub other_of_await_in : (place : Pos) (n : ℕ) (t : _) → other_stmt place (k.AwaitIn n t) ≡ None
unfolding other_stmt
other_of_await_in place n t = refl

pub other_of_await_time : (place : Pos) (e : KExp) (u : _) (t : _) → other_stmt place (k.AwaitTime e u t) ≡ None
unfolding other_stmt
other_of_await_time place e u t = refl

pub other_of_await_event : (place : Pos) (n : ℕ) (t : _) → other_stmt place (k.AwaitEvent n t) ≡ Some place
unfolding other_stmt
other_of_await_event place n t = refl

pub other_of_forever : (place : Pos) → other_stmt place k.Forever ≡ None
unfolding other_stmt
other_of_forever place = refl

pub other_of_await_code : (place : Pos) (c : ℕ) (es : List KExp) (f : ℕ) (t : _) → other_stmt place (k.AwaitCode c es f t) ≡ Some place
unfolding other_stmt
other_of_await_code place c es f t = refl

pub other_of_spawn : (place : Pos) (c : ℕ) (es : List KExp) (p : ℕ) (a : _) → other_stmt place (k.Spawn c es p a) ≡ Some place
unfolding other_stmt
other_of_spawn place c es p a = refl

pub other_of_kill : (place : Pos) (n : ℕ) → other_stmt place (k.Kill n) ≡ Some place
unfolding other_stmt
other_of_kill place n = refl

pub other_of_unset : (place : Pos) (n : ℕ) → other_stmt place (k.Unset n) ≡ Some place
unfolding other_stmt
other_of_unset place n = refl

pub other_of_async : (place : Pos) (b : KBlock) → other_stmt place (k.Async b) ≡ Some place
unfolding other_stmt
other_of_async place b = refl

pub other_of_finalize : (place : Pos) (b : KBlock) → other_stmt place (k.Finalize b) ≡ Some place
unfolding other_stmt
other_of_finalize place b = refl

pub other_of_do : (place : Pos) (t : _) (b : KBlock) → other_stmt place (k.Do t b) ≡ other_in_block b
unfolding other_stmt
other_of_do place t b = refl

pub other_of_escape : (place : Pos) (n : ℕ) (e : _) → other_stmt place (k.Escape n e) ≡ None
unfolding other_stmt
other_of_escape place n e = refl

pub other_of_break : (place : Pos) (n : ℕ) → other_stmt place (k.Break n) ≡ None
unfolding other_stmt
other_of_break place n = refl

pub other_of_continue : (place : Pos) (n : ℕ) → other_stmt place (k.Continue n) ≡ None
unfolding other_stmt
other_of_continue place n = refl

pub other_of_loop : (place : Pos) (kind : _) (b : KBlock) → other_stmt place (k.Loop kind b) ≡ other_in_block b
unfolding other_stmt
other_of_loop place kind b = refl

pub other_of_par : (place : Pos) (kind : _) (slot : ℕ) (bs : List KBlock) → other_stmt place (k.Par kind slot bs) ≡ Some place
unfolding other_stmt
other_of_par place kind slot bs = refl

node_row : {n : _} (r : Row_of-KNode n) → other_in_nodes r ≡ first_in other_node (items-the_row-KNode n r)
unfolding other_stmt
node_row end_of-KNode = refl
node_row (more_of-KNode n place s rest) = ap (or_else (other_stmt place s)) (node_row rest)

arm_row : {n : _} (r : Row_of-KArm n) → other_in_arms r ≡ first_in other_in_arm (items-the_row-KArm n r)
unfolding other_stmt
arm_row end_of-KArm = refl
arm_row (more_of-KArm a rest) = ap (or_else (other_in_arm a)) (arm_row rest)

pub other_of_block : (b : KBlock) → other_in_block b ≡ or_else (first_in other_node (out-KBlock b).list) (first_in other_decl (out-KBlock b).decls)
unfolding other_stmt out-KBlock Carrier.out
other_of_block (KBlock' n ds x list) = ap (λ o. or_else o (first_in other_decl ds)) (node_row list ∙ sym (ap (first_in other_node) (items_shown-the_row-KNode-2 x list)))

pub other_of_arm : (a : KArm) → other_in_arm a ≡ other_in_block (out-KArm a).body
unfolding other_stmt out-KArm Carrier.out
other_of_arm (KArm' c b) = refl

pub other_of_if : (place : Pos) (arms : List KArm) (last : KBlock) → other_stmt place (k.If arms last) ≡ or_else (first_in other_in_arm arms) (other_in_block last)
unfolding other_stmt
other_of_if place arms last = ap (λ o. or_else o (other_in_block last)) (arm_row (hidden-the_row-KArm-0 arms) ∙ ap (first_in other_in_arm) (items_hidden-the_row-KArm-0 arms))

pub ruleset forms = (other_of_nothing, other_of_assign, other_of_out, other_of_emit, other_of_await_in, other_of_await_time, other_of_await_event, other_of_forever, other_of_await_code, other_of_spawn, other_of_kill, other_of_unset, other_of_async, other_of_finalize, other_of_do, other_of_escape, other_of_break, other_of_continue, other_of_loop, other_of_par, other_of_block, other_of_arm, other_of_if)
