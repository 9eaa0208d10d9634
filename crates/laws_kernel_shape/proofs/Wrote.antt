-- Each statement adds nodes and slots that are counted one after the other.
use Rattle.std.proofs.Common.{◌≡◌, refl, sym, ap, ◌∙◌, subst, ℕ, ◌+◌, length, arith, [], ◌∷◌, ◌++◌, Option, Some, None}
use Rattle.ceu_base.specs.declared.kinds.Ty.{Ty}
use Rattle.ceu_base.specs.declared.kinds.Pos.{Pos}
use Rattle.ceu_tree.specs.declared.source.Ident.{Ident}
use Rattle.ceu_tree.specs.declared.source.Target.{Target}
use Rattle.ceu_tree.specs.declared.source.Exp.{Exp}
use Rattle.ceu_tree.specs.declared.source.Source as source
use Rattle.ceu_tree.specs.declared.source.Source.{Source}
use Rattle.ceu_tree.specs.declared.source.Item.{Held-Item-value, Item-value-None', Item-value-Some'}
use Rattle.ceu_tree.specs.declared.source.Do.{Do, Do'}
use Rattle.ceu_tree.specs.declared.source.Block.{Block, Block', Row_of-Node, end_of-Node, more_of-Node}
use Rattle.ceu_tree.specs.declared.source.Arm.{Arm, Arm'}
use Rattle.ceu_tree.specs.declared.source.Range.{Range, Range'}
use Rattle.ceu_tree.specs.declared.source.Stmt as stmt
use Rattle.ceu_tree.specs.declared.source.Stmt.{Stmt, Vars', If', Par', Row_of-Item, end_of-Item, more_of-Item, Row_of-Arm, end_of-Arm, more_of-Arm, Row_of-Block, end_of-Block, more_of-Block, Held-Stmt-If-1, Stmt-If-1-None', Stmt-If-1-Some'}
use Rattle.ceu_tree.specs.declared.kernel.Loc.{Loc}
use Rattle.ceu_tree.specs.declared.kernel.KKind.TheVariants as kind
use Rattle.ceu_tree.specs.declared.kernel.KLoop.TheVariants as turns
use Rattle.ceu_tree.specs.declared.kernel.ParKind.{ParKind}
use Rattle.ceu_tree.specs.declared.kernel.ParKind.TheVariants as par
use Rattle.ceu_tree.specs.declared.kernel.KStmt as kernel
use Rattle.ceu_tree.specs.Numbering.{loop_slots, par_slots, stmt_nodes, stmt_slots, block_nodes, block_slots, arm_nodes, arm_slots}
use Rattle.ceu_scopes.specs.declared.known.Scopes.{Scopes}
use Rattle.ceu_types.specs.declared.typing.Types.{Types}
use Rattle.ceu_expand.specs.declared.around.Around.{Around}
use Rattle.ceu_expand.specs.declared.draft.Draft.{Draft}
use Rattle.ceu_expand.specs.Draft.{in_loop, in_do, begun, hidden, opened, block_of, around_block, declared, event_declared, input_declared, output_declared, own, labelled, unlabelled}
use Rattle.ceu_expand.specs.Lists.{each}
use Rattle.ceu_expand.specs.Uses.{variable, used, if_variable, if_used}
use Rattle.ceu_expand.specs.Expressions.{exp_passed}
use Rattle.ceu_expand.specs.Parts.{target_awaited, name_passed}
use Rattle.ceu_expand.specs.Expansion.{row_items, row_blocks, declared_by, declared_in, par_hidden, par_slot, turns_written, turns_passed, range_hidden, range_written, range_passed, stmt_written, source_written, value_written, do_written, ranged, every_written, every_passed, block_written, block_passed, arm_written, arm_passed, last_written, last_passed, nodes_written, items_written, arms_written, arms_passed, blocks_written, blocks_passed}
use Rattle.laws_kernel_shape.proofs.Codes.{NoCode, NoCodeInSource, NoCodeInValue, NoCodeInDo, NoCodeInBlock, NoCodeInArm, NoCodeInLast, NoCodeInRange, NoCodeInItems, NoCodeInArms, NoCodeInBlocks, NoCodeInNodes}
use Rattle.laws_kernel_shape.proofs.Counts.{turns_hide, stmt_adds, source_adds, value_adds, do_adds, range_adds, every_adds, block_adds, arm_adds, last_adds, nodes_add, items_add, arms_add, blocks_add, stmt_hides, source_hides, value_hides, do_hides, range_hides, every_hides, block_hides, arm_hides, last_hides, nodes_hide, items_hide, arms_hide, blocks_hide}
use Rattle.laws_kernel_shape.proofs.Frames.{frame, frame_used, frame_if_used, frame_standing, frame_labelled, frame_unlabelled, frame_exp, frame_each}
use Rattle.laws_kernel_shape.proofs.Shapes.{arms_nodes_of, arms_slots_of, blocks_nodes_of, blocks_slots_of, if_nodes, if_slots, par_nodes, par_stmt_slots}
use Rattle.laws_kernel_shape.proofs.Inside.{Inside, append_none, inside_same, inside_then, inside_hidden, inside_as, Wrote, wrote_same, wrote_then, wrote_stmt, block_inside, empty_inside}
use Rattle.laws_kernel_shape.proofs.Parts.{simple_wrote, zeroed_wrote, declared_wrote, assigned_wrote, emitted_wrote, escaped_wrote, target_wrote, awaited_wrote, spawned_wrote, alias_wrote, pool_wrote, killed_wrote}

-- ---- names that are declared

event_frame : (code : Option ℕ) (t : Ty) (x : Ident) (d : Draft) → frame (event_declared code t x d) ≡ frame d
unfolding event_declared
event_frame code t x d = refl

input_frame : (t : Ty) (x : Ident) (d : Draft) → frame (input_declared t x d) ≡ frame d
unfolding input_declared
input_frame t x d = refl

output_frame : (t : Ty) (x : Ident) (d : Draft) → frame (output_declared t x d) ≡ frame d
unfolding output_declared
output_frame t x d = refl

-- ---- the kinds of loops, and par

turns_inside : (limit : Option ℕ) (d : Draft) → Inside 0 (turns_hide limit) d [] (loop_slots (turns_written limit d)) (turns_passed limit d)
unfolding turns_written turns_passed
turns_inside None d = inside_same d d refl
turns_inside (Some n) d = inside_hidden 1 d

range_inside : (s : Scopes) (t : Types) (open_a : _) (a b : Exp) (open_b : _) (d : Draft) →
    Inside 0 3 d [] (loop_slots (range_written s t open_a a b open_b d)) (range_passed a b d)
unfolding range_written range_passed hidden
range_inside s t open_a a b open_b d =
    let inside = range_hidden d in
    let three : Inside 0 3 d [] (d.slot ∷ (d.slot + 1) ∷ (d.slot + 1 + 1) ∷ []) inside =
    record { node_is = omega arith; slot_is = omega arith; stays = refl; node_runs = refl; slot_runs = (refl, (refl, (refl, refl))) } in
    inside_then three (inside_same inside (range_passed a b d) (frame_standing d.slot (exp_passed b (exp_passed a inside)) ∙ frame_exp b (exp_passed a inside) ∙ frame_exp a inside))

par_inside : (k : ParKind) (n : ℕ) (d : Draft) → Inside 0 (par_hidden k n) d [] (par_slots k (par_slot k d.slot) n) (hidden (par_hidden k n) d)
unfolding par_hidden par_slot
par_inside par.And n d = inside_hidden n d
par_inside par.Or n d = inside_hidden 0 d
par_inside par.Never n d = inside_hidden 0 d

par_begun : (k : ParKind) (n : ℕ) (d : Draft) → Inside 0 (par_hidden k n) (begun d) [] (par_slots k (par_slot k d.slot) n) (hidden (par_hidden k n) (begun d))
unfolding begun
par_begun k n d = par_inside k n (begun d)

module _ (s : Scopes) (t : Types) where
  blocks_counted : {n : _} (a : Around) (r : Row_of-Block n) (d : Draft) → row_blocks r ≡ length (blocks_written s t a r d)
  unfolding stmt_written
  blocks_counted a end_of-Block d = refl
  blocks_counted a (more_of-Block b rest) d = let e = blocks_counted a rest (block_passed s t a b d) in omega (arith, e)

  mutual
    unfolding NoCode stmt_written stmt_adds stmt_hides declared_by declared_in stmt_nodes stmt_slots

    pub stmt_wrote : (a : Around) (p : Pos) (st : Stmt) → NoCode st → (d : Draft) → Wrote (declared_by st) (stmt_adds st) (stmt_hides st) d (stmt_written s t a p st d)
    stmt_wrote a p stmt.Nothing h d = simple_wrote p kernel.Nothing d refl refl
    stmt_wrote a p stmt.Break h d = simple_wrote p (kernel.Break a.turns) d refl refl
    stmt_wrote a p stmt.Continue h d = simple_wrote p (kernel.Continue a.turns) d refl refl
    stmt_wrote a p (Vars' ty _ items) h d = items_wrote a p ty items h d
    stmt_wrote a p (stmt.AliasDecl code x start) h d = alias_wrote s t p x start d
    stmt_wrote a p (stmt.Events ty xs) h d = wrote_same d (each (event_declared a.code ty) xs d) (frame_each (event_declared a.code ty) (event_frame a.code ty) xs d)
    stmt_wrote a p (stmt.Inputs ty xs) h d = wrote_same d (each (input_declared ty) xs d) (frame_each (input_declared ty) (input_frame ty) xs d)
    stmt_wrote a p (stmt.Outputs ty xs) h d = wrote_same d (each (output_declared ty) xs d) (frame_each (output_declared ty) (output_frame ty) xs d)
    stmt_wrote a p (stmt.Pool n code x) h d = pool_wrote s n x d
    stmt_wrote a p (stmt.Code x ps result b) h d = absurd h
    stmt_wrote a p (stmt.Assign x v) h d = wrote_then (wrote_same d (used d) (frame_used d)) (source_wrote a p (variable s x d) v h (used d))
    stmt_wrote a p (stmt.Emit x e) h d = emitted_wrote s t p e d
    stmt_wrote a p (stmt.Await w) h d = awaited_wrote s t p None w d
    stmt_wrote a p (stmt.Spawn x) h d = spawned_wrote s t None x d
    stmt_wrote a p (stmt.Kill x) h d = killed_wrote s p d
    stmt_wrote a p (stmt.Escape l e) h d = escaped_wrote s t a p l e d
    stmt_wrote a p (stmt.Do b) h d = do_wrote a p None b h d
    stmt_wrote a p (stmt.Finalize b) h d = wrote_stmt d p (kernel.Finalize (block_written s t a b (begun d))) (block_passed s t a b (begun d)) (block_in a b h (begun d))
    stmt_wrote a p (If' _ arms last) h d =
        let behind = arms_passed s t a arms (begun d) in
        let made = arms_written s t a arms (begun d) in
        let rest = last_written s t a last behind in
        wrote_stmt d p (kernel.If made rest) (last_passed s t a last behind)
        (inside_as (if_nodes made rest) (if_slots made rest) (inside_then (arms_in a arms h.0 (begun d)) (last_in a last h.1 behind)))
    stmt_wrote a p (stmt.Loop limit b) h d =
        let inside = turns_passed limit (begun d) in
        wrote_stmt d p (kernel.Loop (turns_written limit (begun d)) (block_written s t (in_loop d.node a) b inside)) (block_passed s t (in_loop d.node a) b inside)
        (inside_then (turns_inside limit (begun d)) (block_in (in_loop d.node a) b h inside))
    stmt_wrote a p (stmt.Range r) h d = ranged_wrote a p r h d
    stmt_wrote a p (stmt.Every x target b) h d =
        wrote_stmt d p (kernel.Loop turns.Free (every_written s t a d.node p x target b (begun d))) (every_passed s t a d.node p x target b (begun d))
        (every_in a d.node p x target b h (begun d))
    stmt_wrote a p (stmt.Watching target b) h d =
        let wait = target_awaited s t p None target in
        let inside = around_block 0 wait (begun d) in
        let made = block_of 0 wait (begun d) ∷ block_written s t a b inside ∷ [] in
        wrote_stmt d p (kernel.Par par.Or 0 made) (block_passed s t a b inside)
        (inside_as (par_nodes par.Or 0 made) (par_stmt_slots par.Or 0 made)
        (inside_then (block_inside 0 wait (begun d) (target_wrote s t p None target (opened 0 (begun d)))) (inside_then (block_in a b h inside) (inside_same _ _ refl))))
    stmt_wrote a p (Par' k _ bs) h d =
        let inside = hidden (par_hidden k (row_blocks bs)) (begun d) in
        let made = blocks_written s t a bs inside in
        let count : par_slots k (par_slot k d.slot) (row_blocks bs) ≡ par_slots k (par_slot k d.slot) (length made) = ap (par_slots k (par_slot k d.slot)) (blocks_counted a bs inside) in
        wrote_stmt d p (kernel.Par k (par_slot k d.slot) made) (blocks_passed s t a bs inside)
        (inside_as (par_nodes k (par_slot k d.slot) made) (par_stmt_slots k (par_slot k d.slot) made ∙ ap (λ x. x ++ blocks_slots_of made) (sym count))
        (inside_then (par_begun k (row_blocks bs) d) (blocks_in a bs h inside)))
    stmt_wrote a p (stmt.Async xs b) h d =
        let inside = each name_passed xs (begun d) in
        wrote_stmt d p (kernel.Async (block_written s t a b inside)) (block_passed s t a b inside)
        (inside_then (inside_same (begun d) inside (frame_each name_passed (λ x. frame_used) xs (begun d))) (block_in a b h inside))

    source_wrote : (a : Around) (p : Pos) (into : Loc) (v : Source) → NoCodeInSource v → (d : Draft) → Wrote 0 (source_adds v) (source_hides v) d (source_written s t a p into v d)
    source_wrote a p into (source.Value e) h d = assigned_wrote s t p into e d
    source_wrote a p into (source.Wait w) h d = awaited_wrote s t p (Some into) w d
    source_wrote a p into (source.Start x) h d = spawned_wrote s t (Some into.slot) x d
    source_wrote a p into (source.Done b) h d = do_wrote a p (Some into) b h d

    value_wrote : (a : Around) (p : Pos) (into : Loc) (v : Held-Item-value) → NoCodeInValue v → (d : Draft) → Wrote 0 (value_adds v) (value_hides v) d (value_written s t a p into v d)
    value_wrote a p into Item-value-None' h d = zeroed_wrote p into d
    value_wrote a p into (Item-value-Some' v) h d = source_wrote a p into v h d

    do_wrote : (a : Around) (p : Pos) (into : Option Loc) (b : Do) → NoCodeInDo b → (d : Draft) → Wrote 0 (do_adds b) (do_hides b) d (do_written s t a p into b d)
    do_wrote a p into (Do' l b) h d =
        let inside = labelled l d.node (begun d) in
        let around = in_do l d.node a in
        let after = block_passed s t around b inside in
        let made = block_written s t around b inside in
        wrote_stmt d p (kernel.Do into made) (unlabelled l after)
        (inside_as (append_none (block_nodes made)) (append_none (block_slots made))
        (inside_then (inside_same (begun d) inside (frame_labelled l d.node (begun d)))
        (inside_then (block_in around b h inside) (inside_same after (unlabelled l after) (frame_unlabelled l after)))))

    ranged_wrote : (a : Around) (p : Pos) (r : Range) → NoCodeInRange r → (d : Draft) → Wrote 0 (range_adds r) (range_hides r) d (ranged s t a p r d)
    ranged_wrote a p (Range' x open_a low high open_b b) h d =
        let inside = range_passed low high (begun d) in
        wrote_stmt d p (kernel.Loop (range_written s t open_a low high open_b (begun d)) (block_written s t (in_loop d.node a) b inside)) (block_passed s t (in_loop d.node a) b inside)
        (inside_then (range_inside s t open_a low high open_b (begun d)) (block_in (in_loop d.node a) b h inside))

    every_in : (a : Around) (loop : ℕ) (p : Pos) (x : Option Ident) (target : Target) (b : Block) → NoCodeInBlock b → (d : Draft) →
        Inside (every_adds b) (every_hides b) d (block_nodes (every_written s t a loop p x target b d)) (block_slots (every_written s t a loop p x target b d)) (every_passed s t a loop p x target b d)
    every_in a loop p x target (Block' _ list) h d =
        let begin : Draft = opened (declared_in list) d in
        let first : Draft = target_awaited s t p (if_variable s x begin) target (if_used x begin) in
        let all : Wrote (0 + 0 + declared_in list) (0 + 1 + nodes_add list) (0 + 0 + nodes_hide list) begin (nodes_written s t (in_loop loop a) list first) =
        wrote_then (wrote_then (wrote_same begin (if_used x begin) (frame_if_used x begin)) (target_wrote s t p (if_variable s x begin) target (if_used x begin)))
        (nodes_wrote (in_loop loop a) list h first) in
        let count : 0 + 0 + declared_in list ≡ declared_in list = omega arith in
        block_inside (declared_in list) (λ inside. nodes_written s t (in_loop loop a) list (target_awaited s t p (if_variable s x inside) target (if_used x inside))) d
        (subst (λ n. Wrote n (0 + 1 + nodes_add list) (0 + 0 + nodes_hide list) begin (nodes_written s t (in_loop loop a) list first)) count all)

    pub block_in : (a : Around) (b : Block) → NoCodeInBlock b → (d : Draft) →
        Inside (block_adds b) (block_hides b) d (block_nodes (block_written s t a b d)) (block_slots (block_written s t a b d)) (block_passed s t a b d)
    block_in a (Block' _ list) h d = block_inside (declared_in list) (nodes_written s t a list) d (nodes_wrote a list h (opened (declared_in list) d))

    arm_in : (a : Around) (arm : Arm) → NoCodeInArm arm → (d : Draft) →
        Inside (arm_adds arm) (arm_hides arm) d (arm_nodes (arm_written s t a arm d)) (arm_slots (arm_written s t a arm d)) (arm_passed s t a arm d)
    arm_in a (Arm' c b) h d = inside_then (inside_same d (exp_passed c d) (frame_exp c d)) (block_in a b h (exp_passed c d))

    last_in : (a : Around) (b : Held-Stmt-If-1) → NoCodeInLast b → (d : Draft) →
        Inside (last_adds b) (last_hides b) d (block_nodes (last_written s t a b d)) (block_slots (last_written s t a b d)) (last_passed s t a b d)
    last_in a Stmt-If-1-None' h d = empty_inside d
    last_in a (Stmt-If-1-Some' b) h d = block_in a b h d

    pub nodes_wrote : {n : _} (a : Around) (r : Row_of-Node n) → NoCodeInNodes r → (d : Draft) → Wrote (declared_in r) (nodes_add r) (nodes_hide r) d (nodes_written s t a r d)
    nodes_wrote a end_of-Node h d = wrote_same d d refl
    nodes_wrote a (more_of-Node p st rest) h d = wrote_then (stmt_wrote a p st h.0 d) (nodes_wrote a rest h.1 (stmt_written s t a p st d))

    items_wrote : {n : _} (a : Around) (p : Pos) (ty : Ty) (r : Row_of-Item n) → NoCodeInItems r → (d : Draft) → Wrote (row_items r) (items_add r) (items_hide r) d (items_written s t a p ty r d)
    items_wrote a p ty end_of-Item h d = wrote_same d d refl
    items_wrote a p ty (more_of-Item x v rest) h d =
        let first = declared (kind.Var ty) x d in
        let behind = value_written s t a p (own d.parts.slot ty) v first in
        let all : Wrote (1 + 0 + row_items rest) (0 + value_adds v + items_add rest) (0 + value_hides v + items_hide rest) d (items_written s t a p ty rest behind) =
        wrote_then (wrote_then (declared_wrote (kind.Var ty) x d) (value_wrote a p (own d.parts.slot ty) v h.0 first)) (items_wrote a p ty rest h.1 behind) in
        let count : 1 + 0 + row_items rest ≡ row_items rest + 1 = omega arith in
        subst (λ n. Wrote n (0 + value_adds v + items_add rest) (0 + value_hides v + items_hide rest) d (items_written s t a p ty rest behind)) count all

    arms_in : {n : _} (a : Around) (r : Row_of-Arm n) → NoCodeInArms r → (d : Draft) →
        Inside (arms_add r) (arms_hide r) d (arms_nodes_of (arms_written s t a r d)) (arms_slots_of (arms_written s t a r d)) (arms_passed s t a r d)
    arms_in a end_of-Arm h d = inside_same d d refl
    arms_in a (more_of-Arm arm rest) h d = inside_then (arm_in a arm h.0 d) (arms_in a rest h.1 (arm_passed s t a arm d))

    blocks_in : {n : _} (a : Around) (r : Row_of-Block n) → NoCodeInBlocks r → (d : Draft) →
        Inside (blocks_add r) (blocks_hide r) d (blocks_nodes_of (blocks_written s t a r d)) (blocks_slots_of (blocks_written s t a r d)) (blocks_passed s t a r d)
    blocks_in a end_of-Block h d = inside_same d d refl
    blocks_in a (more_of-Block b rest) h d = inside_then (block_in a b h.0 d) (blocks_in a rest h.1 (block_passed s t a b d))
