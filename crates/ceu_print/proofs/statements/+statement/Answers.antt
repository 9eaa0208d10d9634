use Rattle.std.proofs.Common.{◌≡◌, ◌++◌, List, sym, ap, ◌∙◌, map, codes, arith}
use Rattle.std.specs.Prelude.{string_bytes}
use Rattle.ceu_tree.specs.declared.source.Block.{out-Block}
use Rattle.ceu_tree.specs.declared.source.Do.{out-Do}
use Rattle.ceu_tree.specs.declared.source.Arm.{out-Arm}
use Rattle.ceu_tree.specs.declared.source.Range.{out-Range}
use Rattle.ceu_tree.specs.declared.source.Stmt.{Stmt}
use Rattle.ceu_print.specs.Lists.{joined}
use Rattle.ceu_print.specs.Expressions.{exp_text}
use Rattle.ceu_print.specs.Statements.{stmt_text, source_text, do_text, range_text, body_text, block_text, arm_text, arm_line, branch_text, item_text, node_line, lines_text, else_text, deeper, do_head, range_head, vars_head, code_head, target_head, loop_head, every_head, watching_head, async_head}
use Rattle.ceu_print.proofs.Chains.{one_more, last_one, each_step, lines_step, fewer_left}
use Rattle.ceu_print.proofs.StatementSizes.{item_size, arm_size, body_size, node_size, total_size}
use Rattle.ceu_print.proofs.StatementTexts.{text_block, text_body, text_do, text_arm, text_range_of, text_vars, text_code, text_assign, text_finalize, text_if, text_loop, text_every, text_watching, text_par, text_async}
use Rattle.ceu_print.proofs.statements.+statement.Goals as goal

-- ---- lists

pub put_items-loop-rest-preserved : goal.put_items-loop-rest-preserved
put_items-loop-rest-preserved t c = record {
  same = each_step (codes ", ") (item_text c.args.margin.now) c.loop-rest.rest.now c.item-item.result (string_bytes c.loop-rest.out) (string_bytes c.put.new.out) (string_bytes c.put_item-in-len1-up-rest.new.out) _ c.in-len1-up-rest.len_at_least c.item-item.is c.in_ok-put.ensures c.in_ok-put_item-2.ensures c.loop-rest.invariant.same;
  fewer = fewer_left item_size c.loop-rest.rest.now c.item-item.result _ c.in-len1-up-rest.len_at_least (omega (arith, c.loop-rest.invariant.fewer));
}

pub put_arms-loop-rest-preserved : goal.put_arms-loop-rest-preserved
put_arms-loop-rest-preserved t c = record {
  same = each_step (codes "else/") (arm_line c.args.margin.now) c.loop-rest.rest.now c.arm-item.result (string_bytes c.loop-rest.out) (string_bytes c.put.new.out) (string_bytes c.put_arm-in-len1-up-rest.new.out) _ c.in-len1-up-rest.len_at_least c.arm-item.is c.in_ok-put.ensures c.in_ok-put_arm-2.ensures c.loop-rest.invariant.same;
  fewer = fewer_left arm_size c.loop-rest.rest.now c.arm-item.result _ c.in-len1-up-rest.len_at_least (omega (arith, c.loop-rest.invariant.fewer));
}

pub put_branches-loop-rest-preserved : goal.put_branches-loop-rest-preserved
put_branches-loop-rest-preserved t c = record {
  same = each_step (codes "with") (branch_text c.args.margin.now) c.loop-rest.rest.now c.branch-item.result (string_bytes c.loop-rest.out) (string_bytes c.put-in-len1-up-rest.new.out) (string_bytes c.put_block-in-len1-up-rest.new.out) _ c.in-len1-up-rest.len_at_least c.branch-item.is c.in_ok-put.ensures c.in_ok-put_block-2.ensures c.loop-rest.invariant.same;
  fewer = fewer_left body_size c.loop-rest.rest.now c.branch-item.result _ c.in-len1-up-rest.len_at_least (omega (arith, c.loop-rest.invariant.fewer));
}

pub put_lines-loop-rest-preserved : goal.put_lines-loop-rest-preserved
put_lines-loop-rest-preserved t c = record {
  same = lines_step (node_line c.args.margin.now) c.loop-rest.rest.now c.node-item.result (string_bytes c.loop-rest.out) (string_bytes c.put_line.new.out) _ c.in-len1-up.len_at_least c.node-item.is c.in_ok-put_line.ensures c.loop-rest.invariant.same;
  fewer = omega (arith, fewer_left node_size c.loop-rest.rest.now c.node-item.result (total_size node_size c.args.nodes.now) c.in-len1-up.len_at_least c.loop-rest.invariant.fewer);
}

-- ---- blocks

pub put_body-returns : goal.put_body-returns
put_body-returns t c =
    let m = c.args.margin.now in
    let b = c.args.block.now in
    last_one c.put.result (string_bytes c.args.out.now) (string_bytes c.put_block.new.out) (string_bytes c.put.new.out) (block_text b m) (codes "end") (body_text b m) c.in_ok-put_block.ensures (sym (text_body b m)) c.put.ensures

pub put_block-returns : goal.put_block-returns
put_block-returns t c =
    let m = c.args.margin.now in
    let b = c.args.block.now in
    let lines = lines_text (deeper m) (out-Block b).list in
    let e : string_bytes c.put_lines.new.out ≡ string_bytes c.put.new.out ++ lines =
    c.in_ok-put_lines.ensures ∙ (λ i. string_bytes c.put.new.out ++ lines_text ((c.as_str.ensures.value ∙ c.in_ok-inner.ensures) i) (c.items.ensures i)) in
    last_one c.put-2.result (string_bytes c.args.out.now) (string_bytes c.put_lines.new.out) (string_bytes c.put-2.new.out) (codes "\n" ++ lines) m (block_text b m)
    (one_more (string_bytes c.args.out.now) (string_bytes c.put.new.out) (string_bytes c.put_lines.new.out) (codes "\n") lines c.in_ok-put.ensures e) (sym (text_block b m)) c.put-2.ensures

pub put_do-returns : goal.put_do-returns
put_do-returns t c =
    let m = c.args.margin.now in
    let d = c.args.block.now in
    last_one c.put_body.result (string_bytes c.args.out.now) (string_bytes c.put_do_head.new.out) (string_bytes c.put_body.new.out) (do_head (out-Do d).label) (body_text (out-Do d).body m) (do_text d m) c.in_ok-put_do_head.ensures (sym (text_do d m)) c.put_body.ensures

pub put_range-returns : goal.put_range-returns
put_range-returns t c =
    let m = c.args.margin.now in
    let r = c.args.range.now in
    last_one c.put_body.result (string_bytes c.args.out.now) (string_bytes c.put_range_head.new.out) (string_bytes c.put_body.new.out) (range_head (out-Range r).name (out-Range r).open_a (out-Range r).a (out-Range r).b (out-Range r).open_b) (body_text (out-Range r).body m) (range_text r m) c.in_ok-put_range_head.ensures (sym (text_range_of r m)) c.put_body.ensures

pub put_arm-returns : goal.put_arm-returns
put_arm-returns t c =
    let m = c.args.margin.now in
    let a = c.args.arm.now in
    let out = string_bytes c.args.out.now in
    let condition = exp_text (out-Arm a).cond in
    last_one c.put_block.result out (string_bytes c.put-2.new.out) (string_bytes c.put_block.new.out) (codes "if " ++ condition ++ codes " then") (block_text (out-Arm a).body m) (arm_text a m)
    (one_more out (string_bytes c.put_exp.new.out) (string_bytes c.put-2.new.out) (codes "if " ++ condition) (codes " then")
    (one_more out (string_bytes c.put.new.out) (string_bytes c.put_exp.new.out) (codes "if ") condition c.in_ok-put.ensures c.in_ok-put_exp.ensures) c.in_ok-put-2.ensures)
    (sym (text_arm a m)) c.put_block.ensures

-- ---- statements

pub put_stmt-returns-in_ok-put_vars_head-in-Vars : goal.put_stmt-returns-in_ok-put_vars_head-in-Vars
put_stmt-returns-in_ok-put_vars_head-in-Vars t c =
    let m = c.args.margin.now in
    let v = c.in-Vars in
    last_one c.put_items.result (string_bytes c.args.out.now) (string_bytes c.put_vars_head.new.out) (string_bytes c.put_items.new.out) (vars_head v.ty) (joined (codes ", ") (map (item_text m) c.items.result.now)) (stmt_text c.args.stmt.now m)
    c.in_ok-put_vars_head-in-Vars.ensures
    (ap (λ (l : List _). vars_head v.ty ++ joined (codes ", ") (map (item_text m) l)) c.items.ensures ∙ sym (text_vars v.ty v.items m) ∙ ap (λ (s : Stmt). stmt_text s m) (sym v.is))
    c.put_items.ensures

pub put_stmt-returns-in_ok-put_code_head-in-Code : goal.put_stmt-returns-in_ok-put_code_head-in-Code
put_stmt-returns-in_ok-put_code_head-in-Code t c =
    let m = c.args.margin.now in
    let v = c.in-Code in
    last_one c.put_body.result (string_bytes c.args.out.now) (string_bytes c.put_code_head.new.out) (string_bytes c.put_body.new.out) (code_head v.name c.items-in-Code.result.now v.ty) (body_text v.body m) (stmt_text c.args.stmt.now m)
    c.in_ok-put_code_head-in-Code.ensures
    (ap (λ (l : List _). code_head v.name l v.ty ++ body_text v.body m) c.items-in-Code.ensures ∙ sym (text_code v.name v.params v.ty v.body m) ∙ ap (λ (s : Stmt). stmt_text s m) (sym v.is))
    c.put_body.ensures

pub put_stmt-returns-in_ok-put_target_head-in-Assign : goal.put_stmt-returns-in_ok-put_target_head-in-Assign
put_stmt-returns-in_ok-put_target_head-in-Assign t c =
    let m = c.args.margin.now in
    let v = c.in-Assign in
    last_one c.put_source.result (string_bytes c.args.out.now) (string_bytes c.put_target_head.new.out) (string_bytes c.put_source.new.out) (target_head v.name) (source_text v.source m) (stmt_text c.args.stmt.now m)
    c.in_ok-put_target_head-in-Assign.ensures
    (sym (text_assign v.name v.source m) ∙ ap (λ (s : Stmt). stmt_text s m) (sym v.is))
    c.put_source.ensures

pub put_stmt-returns-in_ok-put-in-Finalize : goal.put_stmt-returns-in_ok-put-in-Finalize
put_stmt-returns-in_ok-put-in-Finalize t c =
    let m = c.args.margin.now in
    let v = c.in-Finalize in
    last_one c.put_body-in-Finalize.result (string_bytes c.args.out.now) (string_bytes c.put-in-Finalize.new.out) (string_bytes c.put_body-in-Finalize.new.out) (codes "do finalize with") (body_text v.body m) (stmt_text c.args.stmt.now m)
    c.in_ok-put-in-Finalize.ensures
    (sym (text_finalize v.body m) ∙ ap (λ (s : Stmt). stmt_text s m) (sym v.is))
    c.put_body-in-Finalize.ensures

pub put_stmt-returns-in_ok-put_arms-in-If : goal.put_stmt-returns-in_ok-put_arms-in-If
put_stmt-returns-in_ok-put_arms-in-If t c =
    let m = c.args.margin.now in
    let v = c.in-If in
    last_one c.put_else.result (string_bytes c.args.out.now) (string_bytes c.put_arms.new.out) (string_bytes c.put_else.new.out) (joined (codes "else/") (map (arm_line m) c.items-in-If.result.now)) (else_text v.last m) (stmt_text c.args.stmt.now m)
    c.in_ok-put_arms-in-If.ensures
    (ap (λ (l : List _). joined (codes "else/") (map (arm_line m) l) ++ else_text v.last m) c.items-in-If.ensures ∙ sym (text_if v.arms v.last m) ∙ ap (λ (s : Stmt). stmt_text s m) (sym v.is))
    c.put_else.ensures

pub put_stmt-returns-in_ok-put_loop_head-in-Loop : goal.put_stmt-returns-in_ok-put_loop_head-in-Loop
put_stmt-returns-in_ok-put_loop_head-in-Loop t c =
    let m = c.args.margin.now in
    let v = c.in-Loop in
    last_one c.put_body-in-Loop.result (string_bytes c.args.out.now) (string_bytes c.put_loop_head.new.out) (string_bytes c.put_body-in-Loop.new.out) (loop_head v.limit) (body_text v.body m) (stmt_text c.args.stmt.now m)
    c.in_ok-put_loop_head-in-Loop.ensures
    (sym (text_loop v.limit v.body m) ∙ ap (λ (s : Stmt). stmt_text s m) (sym v.is))
    c.put_body-in-Loop.ensures

pub put_stmt-returns-in_ok-put_every_head-in-Every : goal.put_stmt-returns-in_ok-put_every_head-in-Every
put_stmt-returns-in_ok-put_every_head-in-Every t c =
    let m = c.args.margin.now in
    let v = c.in-Every in
    last_one c.put_body-in-Every.result (string_bytes c.args.out.now) (string_bytes c.put_every_head.new.out) (string_bytes c.put_body-in-Every.new.out) (every_head v.name v.target) (body_text v.body m) (stmt_text c.args.stmt.now m)
    c.in_ok-put_every_head-in-Every.ensures
    (sym (text_every v.name v.target v.body m) ∙ ap (λ (s : Stmt). stmt_text s m) (sym v.is))
    c.put_body-in-Every.ensures

pub put_stmt-returns-in_ok-put_watching_head-in-Watching : goal.put_stmt-returns-in_ok-put_watching_head-in-Watching
put_stmt-returns-in_ok-put_watching_head-in-Watching t c =
    let m = c.args.margin.now in
    let v = c.in-Watching in
    last_one c.put_body-in-Watching.result (string_bytes c.args.out.now) (string_bytes c.put_watching_head.new.out) (string_bytes c.put_body-in-Watching.new.out) (watching_head v.target) (body_text v.body m) (stmt_text c.args.stmt.now m)
    c.in_ok-put_watching_head-in-Watching.ensures
    (sym (text_watching v.target v.body m) ∙ ap (λ (s : Stmt). stmt_text s m) (sym v.is))
    c.put_body-in-Watching.ensures

pub put_stmt-returns-in_ok-put-in-Par : goal.put_stmt-returns-in_ok-put-in-Par
put_stmt-returns-in_ok-put-in-Par t c =
    let m = c.args.margin.now in
    let v = c.in-Par in
    last_one c.put_branches.result (string_bytes c.args.out.now) (string_bytes c.put-in-Par.new.out) (string_bytes c.put_branches.new.out) (c.par_text.result.now) (joined (codes "with") (map (branch_text m) c.items-in-Par.result.now) ++ codes "end") (stmt_text c.args.stmt.now m)
    c.in_ok-put-in-Par.ensures
    ((λ i. c.par_text.ensures i ++ (joined (codes "with") (map (branch_text m) (c.items-in-Par.ensures i)) ++ codes "end")) ∙ sym (text_par v.kind v.branches m) ∙ ap (λ (s : Stmt). stmt_text s m) (sym v.is))
    c.put_branches.ensures

pub put_stmt-returns-in_ok-put_async_head-in-Async : goal.put_stmt-returns-in_ok-put_async_head-in-Async
put_stmt-returns-in_ok-put_async_head-in-Async t c =
    let m = c.args.margin.now in
    let v = c.in-Async in
    last_one c.put_body-in-Async.result (string_bytes c.args.out.now) (string_bytes c.put_async_head.new.out) (string_bytes c.put_body-in-Async.new.out) (async_head c.items-in-Async.result.now) (body_text v.body m) (stmt_text c.args.stmt.now m)
    c.in_ok-put_async_head-in-Async.ensures
    (ap (λ (l : List _). async_head l ++ body_text v.body m) c.items-in-Async.ensures ∙ sym (text_async v.names v.body m) ∙ ap (λ (s : Stmt). stmt_text s m) (sym v.is))
    c.put_body-in-Async.ensures
