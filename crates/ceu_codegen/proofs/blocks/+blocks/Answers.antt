use Rattle.std.proofs.Common.{◌≡◌, refl, sym, ap, subst, ◌∙◌, ℕ, ◌+◌, ◌*◌, ◌<◌, List, [], ◌∷◌, ◌++◌, length, drop, rules, arith}
use Rattle.ceu_tree.specs.declared.kernel.KExp.{KExp}
use Rattle.ceu_tree.specs.declared.kernel.KNode.{KNode}
use Rattle.ceu_tree.specs.declared.kernel.KArm.{KArm, out-KArm}
use Rattle.ceu_tree.specs.declared.kernel.KBlock.{KBlock}
use Rattle.ceu_tree.specs.declared.kernel.KStmt.{KStmt}
use Rattle.ceu_tree.specs.Greatest.{total}
use Rattle.ceu_tree.specs.Weight.{exp_count, block_weight, branch_weight, node_weight}
use Rattle.ceu_tree.proofs.Sizes.{stmt_size, block_size, node_list_size, arm_size, arm_list_size, block_list_size, size_block, size_arm, size_if, size_par, size_loop, size_do, size_async, size_finalize, member_node, member_block, member_arm}
use Rattle.ceu_asm.specs.declared.line.Labels.{Labels}
use Rattle.ceu_shape.specs.Plans.{Plan}
use Rattle.ceu_shape.specs.Pieces.{Draft, both, nothing}
use Rattle.ceu_shape.specs.Words.{mark, goto}
use Rattle.ceu_shape.specs.Shape.{expression_count, parts_draft, arm_parts, exp_part, exp_parts, turn_parts}
use Rattle.ceu_shape.proofs.Adding.{added_nothing, added_both}
use Rattle.ceu_low_expr.specs.Conditions.{HasRoom}
use Rattle.ceu_low_flow.proofs.Adding.{arms_counted}
use Rattle.ceu_codegen.specs.Conditions.{AllName, PartsFit, part_nodes, planned}
use Rattle.ceu_codegen.specs.Lists.{one_draft, node_list_draft, arm_list_draft, block_list_draft, branch_draft, NodeListFits, ArmListFits, BlockListFits}
use Rattle.ceu_codegen.specs.Rooms.{arm_room, turns_room, parts_room}
use Rattle.ceu_codegen.proofs.Levels.{arm_is, if_is, par_is, block_own_fits, block_nodes_fit, arm_cond_fits, arm_body_fits, if_arms_fit, if_last_fits, par_fits, room_of_if, room_of_par, room_of_arm}
use Rattle.ceu_codegen.proofs.Parts as parts
use Rattle.ceu_codegen.proofs.Small.{part_small, turns_small, stmt_needs, one_small, branch_small, arm_small, arms_list_small}
use Rattle.ceu_codegen.proofs.Labelled.{parts_length}
use Rattle.ceu_codegen.proofs.Joined.{are_more, node_added, own_room, rest_room, block_added, block_room, branch_added}
use Rattle.ceu_codegen.proofs.Walks.{on_ok, drafted, item, total_item, walked, arrived, room_less, room_after}
use Rattle.ceu_codegen.proofs.blocks.+blocks.Goals as goal

-- ---- blocks

pub lower_block-begin_block-requires-clause-fits : goal.lower_block-begin_block-requires-clause-fits
lower_block-begin_block-requires-clause-fits g t c = block_own_fits (g.P.Places.planned c.args.places.now) c.args.gates.now c.args.kernel.now c.args.block.now c.requires.fits

pub lower_block-lower_nodes-requires : goal.lower_block-lower_nodes-requires
lower_block-lower_nodes-requires g t c κs within =
    let p = g.P.Places.planned c.args.places.now in
    let b = c.args.block.now in
    let fits = subst (λ (xs : List KNode). NodeListFits p c.args.gates.now c.args.kernel.now xs) (sym c.items.ensures) (block_nodes_fit p c.args.gates.now c.args.kernel.now b c.requires.fits) in
    let room = block_room (planned p c.args.gates.now) c.args.kernel.now b c.items.result.now c.args.sheet.now c.begin_block.new.sheet _ c.items.ensures c.in_ok-begin_block.ensures c.requires.room in
    let size = size_block b in
    let same = ap node_list_size c.items.ensures in
    search (rules, fits, room, size, same)

pub lower_block-end_block-requires-clause-fits : goal.lower_block-end_block-requires-clause-fits
lower_block-end_block-requires-clause-fits g t c = block_own_fits (g.P.Places.planned c.args.places.now) c.args.gates.now c.args.kernel.now c.args.block.now c.requires.fits

pub lower_block-returns : goal.lower_block-returns
lower_block-returns g t c =
    let plan : Plan = planned (g.P.Places.planned c.args.places.now) c.args.gates.now in
    on_ok c.end_block.result (λ e. block_added plan c.args.kernel.now c.args.block.now c.items.result.now c.args.sheet.now c.begin_block.new.sheet c.lower_nodes.new.sheet c.end_block.new.sheet
    c.items.ensures c.in_ok-begin_block.ensures c.in_ok-lower_nodes.ensures e) c.end_block.ensures

pub lower_branch-end_label-requires : goal.lower_branch-end_label-requires
lower_branch-end_label-requires g t c =
    let own = block_own_fits (g.P.Places.planned c.args.places.now) c.args.gates.now c.args.kernel.now c.args.block.now c.requires.fits in
    omega (arith, own.node, c.requires.ready.few_nodes)

pub lower_branch-returns : goal.lower_branch-returns
lower_branch-returns g t c =
    let plan : Plan = planned (g.P.Places.planned c.args.places.now) c.args.gates.now in
    on_ok c.add.result (λ e. branch_added plan c.args.kernel.now c.args.block.now c.args.sheet.now c.lower_block.new.sheet c.add.new.self c.goto.result c.in_ok-lower_block.ensures
    (c.goto.ensures ∙ ap goto c.end_label.ensures) e) c.add.ensures.ok

-- ---- lists

pub lower_nodes-lower_node-requires : goal.lower_nodes-lower_node-requires
lower_nodes-lower_node-requires g t c κs within =
    let p = g.P.Places.planned c.args.places.now in
    let K = c.args.kernel.now in
    let xs = c.args.nodes.now in
    let i = c.loop-node.node-index in
    let x = c.node-item.result in
    let below : i < length xs = omega arith in
    let fits = (subst (λ (ys : List KNode). NodeListFits p c.args.gates.now K ys) (item xs i x c.node-item.is below) c.loop-node.invariant.fits).0 in
    let few = total_item node_weight xs i x c.node-item.is below in
    let room = room_less c.loop-node.sheet (node_weight x) (total node_weight (drop i xs)) (omega (arith, few)) c.loop-node.invariant.room in
    let size = member_node xs i x below in
    let same = ap (λ (y : KNode). stmt_size y.stmt) c.node-item.is in
    search (rules, fits.0, fits.1, room, size, same)

pub lower_nodes-loop-node-preserved : goal.lower_nodes-loop-node-preserved
lower_nodes-loop-node-preserved g t c =
    let p = g.P.Places.planned c.args.places.now in
    let plan : Plan = planned p c.args.gates.now in
    let K = c.args.kernel.now in
    let xs = c.args.nodes.now in
    let i = c.loop-node.node-index in
    let x = c.node-item.result in
    let mid = c.loop-node.sheet in
    let next = c.lower_node.new.sheet in
    let below : i < length xs = omega arith in
    let few = total_item node_weight xs i x c.node-item.is below in
    record {
      whole = walked (node_list_draft plan K) (node_list_draft plan K) (one_draft plan K x) (node_list_draft plan K xs) xs i x c.args.sheet.now mid next c.node-item.is below refl c.loop-node.invariant.whole c.in_ok-lower_node.ensures;
      fits = (subst (λ (ys : List KNode). NodeListFits p c.args.gates.now K ys) (item xs i x c.node-item.is below) c.loop-node.invariant.fits).1;
      room = room_after mid next (one_draft plan K x) (node_weight x) (total node_weight (drop (i + 1) xs)) (total node_weight (drop i xs)) (omega (arith, few)) (one_small plan K x) c.in_ok-lower_node.ensures c.loop-node.invariant.room;
    }

pub lower_nodes-returns : goal.lower_nodes-returns
lower_nodes-returns g t c =
    let p = g.P.Places.planned c.args.places.now in
    let plan : Plan = planned p c.args.gates.now in
    let K = c.args.kernel.now in
    arrived (node_list_draft plan K) (node_list_draft plan K c.args.nodes.now) c.args.nodes.now c.loop-node.node-index c.args.sheet.now c.loop-node.sheet (omega arith) refl c.loop-node.invariant.whole

pub lower_arms-lower_arm-requires : goal.lower_arms-lower_arm-requires
lower_arms-lower_arm-requires g t c κs within =
    let p = g.P.Places.planned c.args.places.now in
    let K = c.args.kernel.now in
    let xs = c.args.arms.now in
    let i = c.loop-arm.arm-index in
    let x = c.arm-item.result in
    let below : i < length xs = omega arith in
    let fits = (subst (λ (ys : List KArm). ArmListFits p c.args.gates.now K ys) (item xs i x c.arm-item.is below) c.loop-arm.invariant.fits).0 in
    let few = total_item arm_room xs i x c.arm-item.is below in
    let room = room_less c.loop-arm.sheet (arm_room x) (total arm_room (drop i xs)) (omega (arith, few)) c.loop-arm.invariant.room in
    let size = member_arm xs i x below in
    let same = ap (λ (y : KArm). arm_size y) c.arm-item.is in
    let labels : c.loop-arm.at + 2 < 4294967296 = omega (arith, c.loop-arm.invariant.at, c.requires.labels) in
    search (rules, fits, room, size, same, labels)

pub lower_arms-loop-arm-preserved : goal.lower_arms-loop-arm-preserved
lower_arms-loop-arm-preserved g t c =
    let p = g.P.Places.planned c.args.places.now in
    let plan : Plan = planned p c.args.gates.now in
    let K = c.args.kernel.now in
    let xs = c.args.arms.now in
    let i = c.loop-arm.arm-index in
    let x = c.arm-item.result in
    let at = c.loop-arm.at in
    let mid = c.loop-arm.sheet in
    let next = c.lower_arm.new.sheet in
    let below : i < length xs = omega arith in
    let few = total_item arm_room xs i x c.arm-item.is below in
    record {
      whole = walked (arm_list_draft plan K at) (arm_list_draft plan K (at + 2)) (arm_parts plan K x at) (arm_list_draft plan K c.args.begin xs) xs i x c.args.sheet.now mid next c.arm-item.is below refl c.loop-arm.invariant.whole c.in_ok-lower_arm.ensures;
      fits = (subst (λ (ys : List KArm). ArmListFits p c.args.gates.now K ys) (item xs i x c.arm-item.is below) c.loop-arm.invariant.fits).1;
      room = room_after mid next (arm_parts plan K x at) (arm_room x) (total arm_room (drop (i + 1) xs)) (total arm_room (drop i xs)) (omega (arith, few)) (arm_small plan K x at) c.in_ok-lower_arm.ensures c.loop-arm.invariant.room;
      at = omega (arith, c.loop-arm.invariant.at);
    }

pub lower_arms-returns : goal.lower_arms-returns
lower_arms-returns g t c =
    let p = g.P.Places.planned c.args.places.now in
    let plan : Plan = planned p c.args.gates.now in
    let K = c.args.kernel.now in
    arrived (arm_list_draft plan K c.loop-arm.at) (arm_list_draft plan K c.args.begin c.args.arms.now) c.args.arms.now c.loop-arm.arm-index c.args.sheet.now c.loop-arm.sheet (omega arith) refl c.loop-arm.invariant.whole

pub lower_branches-lower_branch-requires : goal.lower_branches-lower_branch-requires
lower_branches-lower_branch-requires g t c κs within =
    let p = g.P.Places.planned c.args.places.now in
    let K = c.args.kernel.now in
    let xs = c.args.branches.now in
    let i = c.loop-branch.branch-index in
    let x = c.branch-item.result in
    let below : i < length xs = omega arith in
    let fits = (subst (λ (ys : List KBlock). BlockListFits p c.args.gates.now K ys) (item xs i x c.branch-item.is below) c.loop-branch.invariant.fits).0 in
    let few = total_item branch_weight xs i x c.branch-item.is below in
    let room = room_less c.loop-branch.sheet (block_weight x) (total branch_weight (drop i xs)) (omega (arith, few)) c.loop-branch.invariant.room in
    let size = member_block xs i x below in
    let same = ap (λ (y : KBlock). block_size y) c.branch-item.is in
    search (rules, fits, room, size, same)

pub lower_branches-loop-branch-preserved : goal.lower_branches-loop-branch-preserved
lower_branches-loop-branch-preserved g t c =
    let p = g.P.Places.planned c.args.places.now in
    let plan : Plan = planned p c.args.gates.now in
    let K = c.args.kernel.now in
    let xs = c.args.branches.now in
    let i = c.loop-branch.branch-index in
    let x = c.branch-item.result in
    let mid = c.loop-branch.sheet in
    let next = c.lower_branch.new.sheet in
    let below : i < length xs = omega arith in
    let few = total_item branch_weight xs i x c.branch-item.is below in
    record {
      whole = walked (block_list_draft plan K) (block_list_draft plan K) (branch_draft plan K x) (block_list_draft plan K xs) xs i x c.args.sheet.now mid next c.branch-item.is below refl c.loop-branch.invariant.whole c.in_ok-lower_branch.ensures;
      fits = (subst (λ (ys : List KBlock). BlockListFits p c.args.gates.now K ys) (item xs i x c.branch-item.is below) c.loop-branch.invariant.fits).1;
      room = room_after mid next (branch_draft plan K x) (block_weight x) (total branch_weight (drop (i + 1) xs)) (total branch_weight (drop i xs)) (omega (arith, few)) (branch_small plan K x) c.in_ok-lower_branch.ensures c.loop-branch.invariant.room;
    }

pub lower_branches-returns : goal.lower_branches-returns
lower_branches-returns g t c =
    let p = g.P.Places.planned c.args.places.now in
    let plan : Plan = planned p c.args.gates.now in
    let K = c.args.kernel.now in
    arrived (block_list_draft plan K) (block_list_draft plan K c.args.branches.now) c.args.branches.now c.loop-branch.branch-index c.args.sheet.now c.loop-branch.sheet (omega arith) refl c.loop-branch.invariant.whole

-- ---- an arm

pub lower_arm-lower_part-requires-clause-names : goal.lower_arm-lower_part-requires-clause-names
lower_arm-lower_part-requires-clause-names g t c = arm_cond_fits (g.P.Places.planned c.args.places.now) c.args.gates.now c.args.kernel.now c.args.arm.now c.requires.fits

pub lower_arm-lower_branch-requires : goal.lower_arm-lower_branch-requires
lower_arm-lower_branch-requires g t c κs within =
    let p = g.P.Places.planned c.args.places.now in
    let plan : Plan = planned p c.args.gates.now in
    let K = c.args.kernel.now in
    let a = c.args.arm.now in
    let cond = (out-KArm a).cond in
    let body = (out-KArm a).body in
    let fits = arm_body_fits p c.args.gates.now K a c.requires.fits in
    let room = room_after c.args.sheet.now c.lower_part.new.sheet (exp_part plan K c.args.begin cond) (exp_count cond) (block_weight body) (arm_room a) (omega (arith, room_of_arm a))
    (part_small plan K c.args.begin cond) c.in_ok-lower_part.ensures c.requires.room in
    let size = size_arm a in
    search (rules, fits, room, size)

pub lower_arm-returns : goal.lower_arm-returns
lower_arm-returns g t c =
    let plan : Plan = planned (g.P.Places.planned c.args.places.now) c.args.gates.now in
    let K = c.args.kernel.now in
    let a = c.args.arm.now in
    let s0 = c.args.sheet.now in
    let s1 = c.lower_part.new.sheet in
    let s2 = c.lower_branch.new.sheet in
    let first : Draft = exp_part plan K c.args.begin (out-KArm a).cond in
    let last : Draft = branch_draft plan K (out-KArm a).body in
    on_ok c.lower_branch.result (λ h. drafted s0 s2 (both first last) (arm_parts plan K a c.args.begin) (arm_is plan K a c.args.begin) (added_both s0 s1 s2 first last c.in_ok-lower_part.ensures h)) c.lower_branch.ensures

-- ---- a statement with its parts

pub lower_node-overflow_mul-expression_count : goal.lower_node-overflow_mul-expression_count
lower_node-overflow_mul-expression_count g t c = let needs = stmt_needs c.args.node.now.stmt in omega (arith, needs, c.expression_count.ensures, c.requires.room.labels)

pub lower_node-take_labels-fresh-requires : goal.lower_node-take_labels-fresh-requires
lower_node-take_labels-fresh-requires g t c = let needs = stmt_needs c.args.node.now.stmt in omega (arith, needs, c.expression_count.ensures, c.requires.room.labels)

pub lower_node-labels_of-requires-clause-nodes : goal.lower_node-labels_of-requires-clause-nodes
lower_node-labels_of-requires-clause-nodes g t c = are_more (length c.args.gates.now.first) 65536 (part_nodes c.args.node.now.stmt) (omega (arith, c.requires.ready.few_nodes)) c.requires.fits.parts

pub lower_node-lower_stmt-requires-clause-parts : goal.lower_node-lower_stmt-requires-clause-parts
lower_node-lower_stmt-requires-clause-parts g t c =
    ap (λ (l : Labels). length l.parts) c.in_ok-labels.ensures ∙ parts_length c.args.node.now.stmt c.take_labels-fresh.result

pub lower_node-lower_stmt-requires-clause-room : goal.lower_node-lower_stmt-requires-clause-room
lower_node-lower_stmt-requires-clause-room g t c =
    let plan : Plan = planned (g.P.Places.planned c.args.places.now) c.args.gates.now in
    let K = c.args.kernel.now in
    let x = c.args.node.now in
    own_room plan K c.args.sheet.now c.take_labels-fresh.new.sheet x.stmt (c.take_labels-fresh.ensures.given ∙ ap (λ (n : ℕ). record c.args.sheet.now { labels = c.args.sheet.now.labels + 2 * n }) c.expression_count.ensures) c.requires.room

pub lower_node-lower_parts-requires : goal.lower_node-lower_parts-requires
lower_node-lower_parts-requires g t c κs within =
    let plan : Plan = planned (g.P.Places.planned c.args.places.now) c.args.gates.now in
    let K = c.args.kernel.now in
    let x = c.args.node.now in
    let s0 = c.args.sheet.now in
    let given = c.take_labels-fresh.ensures.given ∙ ap (λ (n : ℕ). record s0 { labels = s0.labels + 2 * n }) c.expression_count.ensures in
    let room = rest_room plan K x s0 c.take_labels-fresh.new.sheet c.lower_stmt.new.sheet c.in_ok-labels.labels given c.requires.room c.in_ok-lower_stmt.ensures in
    let labels : c.take_labels-fresh.result + 2 * expression_count x.stmt < 4294967296 = omega (arith, c.take_labels-fresh.ensures.below, c.expression_count.ensures) in
    let fits = c.requires.parts in
    search (rules, fits, room, labels)

pub lower_node-returns : goal.lower_node-returns
lower_node-returns g t c =
    let plan : Plan = planned (g.P.Places.planned c.args.places.now) c.args.gates.now in
    let K = c.args.kernel.now in
    let x = c.args.node.now in
    let s0 = c.args.sheet.now in
    let r = c.take_labels-fresh.result in
    let given = c.take_labels-fresh.ensures.given ∙ ap (λ (n : ℕ). record s0 { labels = s0.labels + 2 * n }) c.expression_count.ensures in
    let first : 0 < 2 * expression_count x.stmt → r ≡ s0.labels = λ h. c.take_labels-fresh.ensures.first (omega (arith, h, c.expression_count.ensures)) in
    on_ok c.add.result (λ e. node_added plan K x s0 c.take_labels-fresh.new.sheet c.lower_stmt.new.sheet c.lower_parts.new.sheet c.add.new.self r c.in_ok-labels.labels first given c.in_ok-labels.ensures
    c.in_ok-lower_stmt.ensures c.in_ok-lower_parts.ensures (e ∙ ap (λ (n : ℕ). record c.lower_parts.new.sheet { lines = c.lower_parts.new.sheet.lines ++ (mark n ∷ []) }) c.end_label.ensures)) c.add.ensures.ok

-- ---- the parts of a statement

pub lower_parts-lower_part-requires-clause-names : goal.lower_parts-lower_part-requires-clause-names
lower_parts-lower_part-requires-clause-names g t c = parts.assign_fits (g.P.Places.planned c.args.places.now) c.args.gates.now c.args.kernel.now c.args.stmt.now c.in-Assign.field-0 c.in-Assign.exp c.in-Assign.is c.requires.fits

pub lower_parts-lower_part-requires-clause-room : goal.lower_parts-lower_part-requires-clause-room
lower_parts-lower_part-requires-clause-room g t c = subst (λ (n : ℕ). HasRoom c.args.sheet.now n) (parts.assign_room c.args.stmt.now c.in-Assign.field-0 c.in-Assign.exp c.in-Assign.is) c.requires.room

pub lower_parts-returns-in-Assign : goal.lower_parts-returns-in-Assign
lower_parts-returns-in-Assign g t c =
    let plan : Plan = planned (g.P.Places.planned c.args.places.now) c.args.gates.now in
    let is = ap (λ (s : KStmt). parts_draft plan c.args.kernel.now s c.args.begin) c.in-Assign.is ∙ parts.assign_is plan c.args.kernel.now c.args.begin c.in-Assign.field-0 c.in-Assign.exp in
    on_ok c.lower_part.result (λ h. drafted c.args.sheet.now c.lower_part.new.sheet _ (parts_draft plan c.args.kernel.now c.args.stmt.now c.args.begin) is h) c.lower_part.ensures

pub lower_parts-lower_part_if-requires-clause-names : goal.lower_parts-lower_part_if-requires-clause-names
lower_parts-lower_part_if-requires-clause-names g t c = parts.out_fits (g.P.Places.planned c.args.places.now) c.args.gates.now c.args.kernel.now c.args.stmt.now c.in-Out.field-0 c.in-Out.exp c.in-Out.is c.requires.fits

pub lower_parts-lower_part_if-requires-clause-room : goal.lower_parts-lower_part_if-requires-clause-room
lower_parts-lower_part_if-requires-clause-room g t c = subst (λ (n : ℕ). HasRoom c.args.sheet.now n) (parts.out_room c.args.stmt.now c.in-Out.field-0 c.in-Out.exp c.in-Out.is) c.requires.room

pub lower_parts-returns-in-Out : goal.lower_parts-returns-in-Out
lower_parts-returns-in-Out g t c =
    let plan : Plan = planned (g.P.Places.planned c.args.places.now) c.args.gates.now in
    let is = ap (λ (s : KStmt). parts_draft plan c.args.kernel.now s c.args.begin) c.in-Out.is ∙ parts.out_is plan c.args.kernel.now c.args.begin c.in-Out.field-0 c.in-Out.exp in
    on_ok c.lower_part_if.result (λ h. drafted c.args.sheet.now c.lower_part_if.new.sheet _ (parts_draft plan c.args.kernel.now c.args.stmt.now c.args.begin) is h) c.lower_part_if.ensures

pub lower_parts-lower_part_if-requires-in-Emit-clause-names : goal.lower_parts-lower_part_if-requires-in-Emit-clause-names
lower_parts-lower_part_if-requires-in-Emit-clause-names g t c = parts.emit_fits (g.P.Places.planned c.args.places.now) c.args.gates.now c.args.kernel.now c.args.stmt.now c.in-Emit.field-0 c.in-Emit.exp c.in-Emit.is c.requires.fits

pub lower_parts-lower_part_if-requires-in-Emit-clause-room : goal.lower_parts-lower_part_if-requires-in-Emit-clause-room
lower_parts-lower_part_if-requires-in-Emit-clause-room g t c = subst (λ (n : ℕ). HasRoom c.args.sheet.now n) (parts.emit_room c.args.stmt.now c.in-Emit.field-0 c.in-Emit.exp c.in-Emit.is) c.requires.room

pub lower_parts-returns-in-Emit : goal.lower_parts-returns-in-Emit
lower_parts-returns-in-Emit g t c =
    let plan : Plan = planned (g.P.Places.planned c.args.places.now) c.args.gates.now in
    let is = ap (λ (s : KStmt). parts_draft plan c.args.kernel.now s c.args.begin) c.in-Emit.is ∙ parts.emit_is plan c.args.kernel.now c.args.begin c.in-Emit.field-0 c.in-Emit.exp in
    on_ok c.lower_part_if-in-Emit.result (λ h. drafted c.args.sheet.now c.lower_part_if-in-Emit.new.sheet _ (parts_draft plan c.args.kernel.now c.args.stmt.now c.args.begin) is h) c.lower_part_if-in-Emit.ensures

pub lower_parts-lower_part-requires-in-AwaitTime-clause-names : goal.lower_parts-lower_part-requires-in-AwaitTime-clause-names
lower_parts-lower_part-requires-in-AwaitTime-clause-names g t c = parts.await_time_fits (g.P.Places.planned c.args.places.now) c.args.gates.now c.args.kernel.now c.args.stmt.now c.in-AwaitTime.exp c.in-AwaitTime.field-1 c.in-AwaitTime.field-2 c.in-AwaitTime.is c.requires.fits

pub lower_parts-lower_part-requires-in-AwaitTime-clause-room : goal.lower_parts-lower_part-requires-in-AwaitTime-clause-room
lower_parts-lower_part-requires-in-AwaitTime-clause-room g t c = subst (λ (n : ℕ). HasRoom c.args.sheet.now n) (parts.await_time_room c.args.stmt.now c.in-AwaitTime.exp c.in-AwaitTime.field-1 c.in-AwaitTime.field-2 c.in-AwaitTime.is) c.requires.room

pub lower_parts-returns-in-AwaitTime : goal.lower_parts-returns-in-AwaitTime
lower_parts-returns-in-AwaitTime g t c =
    let plan : Plan = planned (g.P.Places.planned c.args.places.now) c.args.gates.now in
    let is = ap (λ (s : KStmt). parts_draft plan c.args.kernel.now s c.args.begin) c.in-AwaitTime.is ∙ parts.await_time_is plan c.args.kernel.now c.args.begin c.in-AwaitTime.exp c.in-AwaitTime.field-1 c.in-AwaitTime.field-2 in
    on_ok c.lower_part-in-AwaitTime.result (λ h. drafted c.args.sheet.now c.lower_part-in-AwaitTime.new.sheet _ (parts_draft plan c.args.kernel.now c.args.stmt.now c.args.begin) is h) c.lower_part-in-AwaitTime.ensures

pub lower_parts-lower_part_if-requires-in-Escape-clause-names : goal.lower_parts-lower_part_if-requires-in-Escape-clause-names
lower_parts-lower_part_if-requires-in-Escape-clause-names g t c = parts.escape_fits (g.P.Places.planned c.args.places.now) c.args.gates.now c.args.kernel.now c.args.stmt.now c.in-Escape.field-0 c.in-Escape.exp c.in-Escape.is c.requires.fits

pub lower_parts-lower_part_if-requires-in-Escape-clause-room : goal.lower_parts-lower_part_if-requires-in-Escape-clause-room
lower_parts-lower_part_if-requires-in-Escape-clause-room g t c = subst (λ (n : ℕ). HasRoom c.args.sheet.now n) (parts.escape_room c.args.stmt.now c.in-Escape.field-0 c.in-Escape.exp c.in-Escape.is) c.requires.room

pub lower_parts-returns-in-Escape : goal.lower_parts-returns-in-Escape
lower_parts-returns-in-Escape g t c =
    let plan : Plan = planned (g.P.Places.planned c.args.places.now) c.args.gates.now in
    let is = ap (λ (s : KStmt). parts_draft plan c.args.kernel.now s c.args.begin) c.in-Escape.is ∙ parts.escape_is plan c.args.kernel.now c.args.begin c.in-Escape.field-0 c.in-Escape.exp in
    on_ok c.lower_part_if-in-Escape.result (λ h. drafted c.args.sheet.now c.lower_part_if-in-Escape.new.sheet _ (parts_draft plan c.args.kernel.now c.args.stmt.now c.args.begin) is h) c.lower_part_if-in-Escape.ensures

pub lower_parts-lower_all-requires-clause-names : goal.lower_parts-lower_all-requires-clause-names
lower_parts-lower_all-requires-clause-names g t c =
    let p = g.P.Places.planned c.args.places.now in
    subst (λ (es : List KExp). AllName p.slot_count es) (sym c.items.ensures) (parts.await_code_fits p c.args.gates.now c.args.kernel.now c.args.stmt.now c.in-AwaitCode.field-0 c.in-AwaitCode.exps c.in-AwaitCode.field-2 c.in-AwaitCode.field-3 c.in-AwaitCode.is c.requires.fits)

pub lower_parts-lower_all-requires-clause-room : goal.lower_parts-lower_all-requires-clause-room
lower_parts-lower_all-requires-clause-room g t c =
    subst (λ (n : ℕ). HasRoom c.args.sheet.now n) (parts.await_code_room c.args.stmt.now c.in-AwaitCode.field-0 c.in-AwaitCode.exps c.in-AwaitCode.field-2 c.in-AwaitCode.field-3 c.in-AwaitCode.is ∙ ap (λ (es : List KExp). total exp_count es) (sym c.items.ensures)) c.requires.room

pub lower_parts-returns-in-AwaitCode : goal.lower_parts-returns-in-AwaitCode
lower_parts-returns-in-AwaitCode g t c =
    let plan : Plan = planned (g.P.Places.planned c.args.places.now) c.args.gates.now in
    let K = c.args.kernel.now in
    let is = ap (λ (s : KStmt). parts_draft plan K s c.args.begin) c.in-AwaitCode.is ∙ parts.await_code_is plan K c.args.begin c.in-AwaitCode.field-0 c.in-AwaitCode.exps c.in-AwaitCode.field-2 c.in-AwaitCode.field-3 ∙ ap (λ (es : List KExp). exp_parts plan K c.args.begin es) (sym c.items.ensures) in
    on_ok c.lower_all.result (λ h. drafted c.args.sheet.now c.lower_all.new.sheet _ (parts_draft plan K c.args.stmt.now c.args.begin) is h) c.lower_all.ensures

pub lower_parts-lower_all-requires-in-Spawn-clause-names : goal.lower_parts-lower_all-requires-in-Spawn-clause-names
lower_parts-lower_all-requires-in-Spawn-clause-names g t c =
    let p = g.P.Places.planned c.args.places.now in
    subst (λ (es : List KExp). AllName p.slot_count es) (sym c.items-in-Spawn.ensures) (parts.spawn_fits p c.args.gates.now c.args.kernel.now c.args.stmt.now c.in-Spawn.field-0 c.in-Spawn.exps c.in-Spawn.field-2 c.in-Spawn.field-3 c.in-Spawn.is c.requires.fits)

pub lower_parts-lower_all-requires-in-Spawn-clause-room : goal.lower_parts-lower_all-requires-in-Spawn-clause-room
lower_parts-lower_all-requires-in-Spawn-clause-room g t c =
    subst (λ (n : ℕ). HasRoom c.args.sheet.now n) (parts.spawn_room c.args.stmt.now c.in-Spawn.field-0 c.in-Spawn.exps c.in-Spawn.field-2 c.in-Spawn.field-3 c.in-Spawn.is ∙ ap (λ (es : List KExp). total exp_count es) (sym c.items-in-Spawn.ensures)) c.requires.room

pub lower_parts-returns-in-Spawn : goal.lower_parts-returns-in-Spawn
lower_parts-returns-in-Spawn g t c =
    let plan : Plan = planned (g.P.Places.planned c.args.places.now) c.args.gates.now in
    let K = c.args.kernel.now in
    let is = ap (λ (s : KStmt). parts_draft plan K s c.args.begin) c.in-Spawn.is ∙ parts.spawn_is plan K c.args.begin c.in-Spawn.field-0 c.in-Spawn.exps c.in-Spawn.field-2 c.in-Spawn.field-3 ∙ ap (λ (es : List KExp). exp_parts plan K c.args.begin es) (sym c.items-in-Spawn.ensures) in
    on_ok c.lower_all-in-Spawn.result (λ h. drafted c.args.sheet.now c.lower_all-in-Spawn.new.sheet _ (parts_draft plan K c.args.stmt.now c.args.begin) is h) c.lower_all-in-Spawn.ensures

pub lower_parts-lower_branch-requires : goal.lower_parts-lower_branch-requires
lower_parts-lower_branch-requires g t c κs within =
    let fits = parts.async_fits (g.P.Places.planned c.args.places.now) c.args.gates.now c.args.kernel.now c.args.stmt.now c.in-Async.body c.in-Async.is c.requires.fits in
    let room = subst (λ (n : ℕ). HasRoom c.args.sheet.now n) (parts.async_room c.args.stmt.now c.in-Async.body c.in-Async.is) c.requires.room in
    let size = ap (λ (s : KStmt). stmt_size s) c.in-Async.is ∙ size_async c.in-Async.body in
    search (rules, fits, room, size)

pub lower_parts-returns-in-Async : goal.lower_parts-returns-in-Async
lower_parts-returns-in-Async g t c =
    let plan : Plan = planned (g.P.Places.planned c.args.places.now) c.args.gates.now in
    let is = ap (λ (s : KStmt). parts_draft plan c.args.kernel.now s c.args.begin) c.in-Async.is ∙ parts.async_is plan c.args.kernel.now c.args.begin c.in-Async.body in
    on_ok c.lower_branch.result (λ h. drafted c.args.sheet.now c.lower_branch.new.sheet _ (parts_draft plan c.args.kernel.now c.args.stmt.now c.args.begin) is h) c.lower_branch.ensures

pub lower_parts-lower_branch-requires-in-Finalize : goal.lower_parts-lower_branch-requires-in-Finalize
lower_parts-lower_branch-requires-in-Finalize g t c κs within =
    let fits = parts.finalize_fits (g.P.Places.planned c.args.places.now) c.args.gates.now c.args.kernel.now c.args.stmt.now c.in-Finalize.body c.in-Finalize.is c.requires.fits in
    let room = subst (λ (n : ℕ). HasRoom c.args.sheet.now n) (parts.finalize_room c.args.stmt.now c.in-Finalize.body c.in-Finalize.is) c.requires.room in
    let size = ap (λ (s : KStmt). stmt_size s) c.in-Finalize.is ∙ size_finalize c.in-Finalize.body in
    search (rules, fits, room, size)

pub lower_parts-returns-in-Finalize : goal.lower_parts-returns-in-Finalize
lower_parts-returns-in-Finalize g t c =
    let plan : Plan = planned (g.P.Places.planned c.args.places.now) c.args.gates.now in
    let is = ap (λ (s : KStmt). parts_draft plan c.args.kernel.now s c.args.begin) c.in-Finalize.is ∙ parts.finalize_is plan c.args.kernel.now c.args.begin c.in-Finalize.body in
    on_ok c.lower_branch-in-Finalize.result (λ h. drafted c.args.sheet.now c.lower_branch-in-Finalize.new.sheet _ (parts_draft plan c.args.kernel.now c.args.stmt.now c.args.begin) is h) c.lower_branch-in-Finalize.ensures

pub lower_parts-lower_branch-requires-in-Do : goal.lower_parts-lower_branch-requires-in-Do
lower_parts-lower_branch-requires-in-Do g t c κs within =
    let fits = parts.do_fits (g.P.Places.planned c.args.places.now) c.args.gates.now c.args.kernel.now c.args.stmt.now c.in-Do.field-0 c.in-Do.body c.in-Do.is c.requires.fits in
    let room = subst (λ (n : ℕ). HasRoom c.args.sheet.now n) (parts.do_room c.args.stmt.now c.in-Do.field-0 c.in-Do.body c.in-Do.is) c.requires.room in
    let size = ap (λ (s : KStmt). stmt_size s) c.in-Do.is ∙ size_do c.in-Do.field-0 c.in-Do.body in
    search (rules, fits, room, size)

pub lower_parts-returns-in-Do : goal.lower_parts-returns-in-Do
lower_parts-returns-in-Do g t c =
    let plan : Plan = planned (g.P.Places.planned c.args.places.now) c.args.gates.now in
    let is = ap (λ (s : KStmt). parts_draft plan c.args.kernel.now s c.args.begin) c.in-Do.is ∙ parts.do_is plan c.args.kernel.now c.args.begin c.in-Do.field-0 c.in-Do.body in
    on_ok c.lower_branch-in-Do.result (λ h. drafted c.args.sheet.now c.lower_branch-in-Do.new.sheet _ (parts_draft plan c.args.kernel.now c.args.stmt.now c.args.begin) is h) c.lower_branch-in-Do.ensures

pub lower_parts-lower_arms-requires : goal.lower_parts-lower_arms-requires
lower_parts-lower_arms-requires g t c κs within =
    let p = g.P.Places.planned c.args.places.now in
    let K = c.args.kernel.now in
    let arms = c.in-If.arms in
    let last = c.in-If.last in
    let all = subst (λ (s : KStmt). PartsFit p c.args.gates.now K s) c.in-If.is c.requires.fits in
    let fits = subst (λ (xs : List KArm). ArmListFits p c.args.gates.now K xs) (sym c.items-in-If.ensures) (if_arms_fit p c.args.gates.now K arms last all) in
    let few = ap (λ (s : KStmt). parts_room s) c.in-If.is ∙ room_of_if arms last in
    let same = ap (λ (xs : List KArm). total arm_room xs) c.items-in-If.ensures in
    let room = room_less c.args.sheet.now (total arm_room c.items-in-If.result.now) (parts_room c.args.stmt.now) (omega (arith, few, same)) c.requires.room in
    let counted = ap (λ (s : KStmt). expression_count s) c.in-If.is ∙ arms_counted arms ∙ ap (length {A = KArm}) (sym c.items-in-If.ensures) in
    let labels : c.args.begin + 2 * length c.items-in-If.result.now < 4294967296 = omega (arith, counted, c.requires.labels) in
    let size = ap (λ (s : KStmt). stmt_size s) c.in-If.is ∙ size_if arms last in
    let smaller = ap (λ (xs : List KArm). arm_list_size xs) c.items-in-If.ensures in
    search (rules, fits, room, labels, size, smaller)

pub lower_parts-lower_branch-requires-in-If : goal.lower_parts-lower_branch-requires-in-If
lower_parts-lower_branch-requires-in-If g t c κs within =
    let p = g.P.Places.planned c.args.places.now in
    let plan : Plan = planned p c.args.gates.now in
    let K = c.args.kernel.now in
    let arms = c.in-If.arms in
    let last = c.in-If.last in
    let xs = c.items-in-If.result.now in
    let fits = if_last_fits p c.args.gates.now K arms last (subst (λ (s : KStmt). PartsFit p c.args.gates.now K s) c.in-If.is c.requires.fits) in
    let few = ap (λ (s : KStmt). parts_room s) c.in-If.is ∙ room_of_if arms last in
    let same = ap (λ (ys : List KArm). total arm_room ys) c.items-in-If.ensures in
    let room = room_after c.args.sheet.now c.lower_arms.new.sheet (arm_list_draft plan K c.args.begin xs) (total arm_room xs) (block_weight last) (parts_room c.args.stmt.now) (omega (arith, few, same))
    (arms_list_small plan K c.args.begin xs) c.in_ok-lower_arms-in-If.ensures c.requires.room in
    let size = ap (λ (s : KStmt). stmt_size s) c.in-If.is ∙ size_if arms last in
    search (rules, fits, room, size)

pub lower_parts-returns-in_ok-lower_arms-in-If : goal.lower_parts-returns-in_ok-lower_arms-in-If
lower_parts-returns-in_ok-lower_arms-in-If g t c =
    let plan : Plan = planned (g.P.Places.planned c.args.places.now) c.args.gates.now in
    let K = c.args.kernel.now in
    let begin = c.args.begin in
    let arms = c.in-If.arms in
    let last : Draft = branch_draft plan K c.in-If.last in
    let xs = c.items-in-If.result.now in
    let s0 = c.args.sheet.now in
    let s1 = c.lower_arms.new.sheet in
    let s2 = c.lower_branch-in-If.new.sheet in
    let is = ap (λ (s : KStmt). parts_draft plan K s begin) c.in-If.is ∙ if_is plan K arms c.in-If.last begin ∙ ap (λ (ys : List KArm). both (arm_list_draft plan K begin ys) last) (sym c.items-in-If.ensures) in
    on_ok c.lower_branch-in-If.result (λ h. drafted s0 s2 (both (arm_list_draft plan K begin xs) last) (parts_draft plan K c.args.stmt.now begin) is
    (added_both s0 s1 s2 (arm_list_draft plan K begin xs) last c.in_ok-lower_arms-in-If.ensures h)) c.lower_branch-in-If.ensures

pub lower_parts-lower_turns-requires-clause-names : goal.lower_parts-lower_turns-requires-clause-names
lower_parts-lower_turns-requires-clause-names g t c = (parts.loop_fits (g.P.Places.planned c.args.places.now) c.args.gates.now c.args.kernel.now c.args.stmt.now c.in-Loop.kind c.in-Loop.body c.in-Loop.is c.requires.fits).0

pub lower_parts-lower_turns-requires-clause-room : goal.lower_parts-lower_turns-requires-clause-room
lower_parts-lower_turns-requires-clause-room g t c =
    let few = parts.loop_room c.args.stmt.now c.in-Loop.kind c.in-Loop.body c.in-Loop.is in
    room_less c.args.sheet.now (turns_room c.in-Loop.kind) (parts_room c.args.stmt.now) (omega (arith, few)) c.requires.room

pub lower_parts-lower_branch-requires-in-Loop : goal.lower_parts-lower_branch-requires-in-Loop
lower_parts-lower_branch-requires-in-Loop g t c κs within =
    let p = g.P.Places.planned c.args.places.now in
    let plan : Plan = planned p c.args.gates.now in
    let K = c.args.kernel.now in
    let kind = c.in-Loop.kind in
    let body = c.in-Loop.body in
    let fits = (parts.loop_fits p c.args.gates.now K c.args.stmt.now kind body c.in-Loop.is c.requires.fits).1 in
    let few = parts.loop_room c.args.stmt.now kind body c.in-Loop.is in
    let room = room_after c.args.sheet.now c.lower_turns.new.sheet (turn_parts plan K c.args.begin kind) (turns_room kind) (block_weight body) (parts_room c.args.stmt.now) (omega (arith, few))
    (turns_small plan K c.args.begin kind) c.in_ok-lower_turns-in-Loop.ensures c.requires.room in
    let size = ap (λ (s : KStmt). stmt_size s) c.in-Loop.is ∙ size_loop kind body in
    search (rules, fits, room, size)

pub lower_parts-returns-in_ok-lower_turns-in-Loop : goal.lower_parts-returns-in_ok-lower_turns-in-Loop
lower_parts-returns-in_ok-lower_turns-in-Loop g t c =
    let plan : Plan = planned (g.P.Places.planned c.args.places.now) c.args.gates.now in
    let K = c.args.kernel.now in
    let begin = c.args.begin in
    let first : Draft = turn_parts plan K begin c.in-Loop.kind in
    let last : Draft = branch_draft plan K c.in-Loop.body in
    let s0 = c.args.sheet.now in
    let s1 = c.lower_turns.new.sheet in
    let s2 = c.lower_branch-in-Loop.new.sheet in
    let is = ap (λ (s : KStmt). parts_draft plan K s begin) c.in-Loop.is ∙ parts.loop_is plan K begin c.in-Loop.kind c.in-Loop.body in
    on_ok c.lower_branch-in-Loop.result (λ h. drafted s0 s2 (both first last) (parts_draft plan K c.args.stmt.now begin) is
    (added_both s0 s1 s2 first last c.in_ok-lower_turns-in-Loop.ensures h)) c.lower_branch-in-Loop.ensures

pub lower_parts-lower_branches-requires : goal.lower_parts-lower_branches-requires
lower_parts-lower_branches-requires g t c κs within =
    let p = g.P.Places.planned c.args.places.now in
    let K = c.args.kernel.now in
    let kind = c.in-Par.field-0 in
    let slot = c.in-Par.field-1 in
    let bs = c.in-Par.branches in
    let all = subst (λ (s : KStmt). PartsFit p c.args.gates.now K s) c.in-Par.is c.requires.fits in
    let fits = subst (λ (xs : List KBlock). BlockListFits p c.args.gates.now K xs) (sym c.items-in-Par.ensures) (par_fits p c.args.gates.now K kind slot bs all) in
    let few = ap (λ (s : KStmt). parts_room s) c.in-Par.is ∙ room_of_par kind slot bs ∙ ap (λ (xs : List KBlock). total branch_weight xs) (sym c.items-in-Par.ensures) in
    let room = subst (λ (n : ℕ). HasRoom c.args.sheet.now n) few c.requires.room in
    let size = ap (λ (s : KStmt). stmt_size s) c.in-Par.is ∙ size_par kind slot bs in
    let smaller = ap (λ (xs : List KBlock). block_list_size xs) c.items-in-Par.ensures in
    search (rules, fits, room, size, smaller)

pub lower_parts-returns-in-Par : goal.lower_parts-returns-in-Par
lower_parts-returns-in-Par g t c =
    let plan : Plan = planned (g.P.Places.planned c.args.places.now) c.args.gates.now in
    let K = c.args.kernel.now in
    let is = ap (λ (s : KStmt). parts_draft plan K s c.args.begin) c.in-Par.is ∙ par_is plan K c.in-Par.field-0 c.in-Par.field-1 c.in-Par.branches c.args.begin
    ∙ ap (λ (xs : List KBlock). block_list_draft plan K xs) (sym c.items-in-Par.ensures) in
    on_ok c.lower_branches.result (λ h. drafted c.args.sheet.now c.lower_branches.new.sheet _ (parts_draft plan K c.args.stmt.now c.args.begin) is h) c.lower_branches.ensures

pub lower_parts-returns-in-Nothing : goal.lower_parts-returns-in-Nothing
lower_parts-returns-in-Nothing g t c =
    let plan : Plan = planned (g.P.Places.planned c.args.places.now) c.args.gates.now in
    let is = ap (λ (s : KStmt). parts_draft plan c.args.kernel.now s c.args.begin) c.in-Nothing.is ∙ parts.nothing_is plan c.args.kernel.now c.args.begin in
    drafted c.args.sheet.now c.args.sheet.now nothing (parts_draft plan c.args.kernel.now c.args.stmt.now c.args.begin) is (added_nothing c.args.sheet.now)

pub lower_parts-returns-in-AwaitIn : goal.lower_parts-returns-in-AwaitIn
lower_parts-returns-in-AwaitIn g t c =
    let plan : Plan = planned (g.P.Places.planned c.args.places.now) c.args.gates.now in
    let is = ap (λ (s : KStmt). parts_draft plan c.args.kernel.now s c.args.begin) c.in-AwaitIn.is ∙ parts.await_in_is plan c.args.kernel.now c.args.begin c.in-AwaitIn.field-0 c.in-AwaitIn.field-1 in
    drafted c.args.sheet.now c.args.sheet.now nothing (parts_draft plan c.args.kernel.now c.args.stmt.now c.args.begin) is (added_nothing c.args.sheet.now)

pub lower_parts-returns-in-AwaitEvent : goal.lower_parts-returns-in-AwaitEvent
lower_parts-returns-in-AwaitEvent g t c =
    let plan : Plan = planned (g.P.Places.planned c.args.places.now) c.args.gates.now in
    let is = ap (λ (s : KStmt). parts_draft plan c.args.kernel.now s c.args.begin) c.in-AwaitEvent.is ∙ parts.await_event_is plan c.args.kernel.now c.args.begin c.in-AwaitEvent.field-0 c.in-AwaitEvent.field-1 in
    drafted c.args.sheet.now c.args.sheet.now nothing (parts_draft plan c.args.kernel.now c.args.stmt.now c.args.begin) is (added_nothing c.args.sheet.now)

pub lower_parts-returns-in-Forever : goal.lower_parts-returns-in-Forever
lower_parts-returns-in-Forever g t c =
    let plan : Plan = planned (g.P.Places.planned c.args.places.now) c.args.gates.now in
    let is = ap (λ (s : KStmt). parts_draft plan c.args.kernel.now s c.args.begin) c.in-Forever.is ∙ parts.forever_is plan c.args.kernel.now c.args.begin in
    drafted c.args.sheet.now c.args.sheet.now nothing (parts_draft plan c.args.kernel.now c.args.stmt.now c.args.begin) is (added_nothing c.args.sheet.now)

pub lower_parts-returns-in-Kill : goal.lower_parts-returns-in-Kill
lower_parts-returns-in-Kill g t c =
    let plan : Plan = planned (g.P.Places.planned c.args.places.now) c.args.gates.now in
    let is = ap (λ (s : KStmt). parts_draft plan c.args.kernel.now s c.args.begin) c.in-Kill.is ∙ parts.kill_is plan c.args.kernel.now c.args.begin c.in-Kill.field-0 in
    drafted c.args.sheet.now c.args.sheet.now nothing (parts_draft plan c.args.kernel.now c.args.stmt.now c.args.begin) is (added_nothing c.args.sheet.now)

pub lower_parts-returns-in-Unset : goal.lower_parts-returns-in-Unset
lower_parts-returns-in-Unset g t c =
    let plan : Plan = planned (g.P.Places.planned c.args.places.now) c.args.gates.now in
    let is = ap (λ (s : KStmt). parts_draft plan c.args.kernel.now s c.args.begin) c.in-Unset.is ∙ parts.unset_is plan c.args.kernel.now c.args.begin c.in-Unset.field-0 in
    drafted c.args.sheet.now c.args.sheet.now nothing (parts_draft plan c.args.kernel.now c.args.stmt.now c.args.begin) is (added_nothing c.args.sheet.now)

pub lower_parts-returns-in-Break : goal.lower_parts-returns-in-Break
lower_parts-returns-in-Break g t c =
    let plan : Plan = planned (g.P.Places.planned c.args.places.now) c.args.gates.now in
    let is = ap (λ (s : KStmt). parts_draft plan c.args.kernel.now s c.args.begin) c.in-Break.is ∙ parts.break_is plan c.args.kernel.now c.args.begin c.in-Break.field-0 in
    drafted c.args.sheet.now c.args.sheet.now nothing (parts_draft plan c.args.kernel.now c.args.stmt.now c.args.begin) is (added_nothing c.args.sheet.now)

pub lower_parts-returns-in-Continue : goal.lower_parts-returns-in-Continue
lower_parts-returns-in-Continue g t c =
    let plan : Plan = planned (g.P.Places.planned c.args.places.now) c.args.gates.now in
    let is = ap (λ (s : KStmt). parts_draft plan c.args.kernel.now s c.args.begin) c.in-Continue.is ∙ parts.continue_is plan c.args.kernel.now c.args.begin c.in-Continue.field-0 in
    drafted c.args.sheet.now c.args.sheet.now nothing (parts_draft plan c.args.kernel.now c.args.stmt.now c.args.begin) is (added_nothing c.args.sheet.now)
