-- Each statement of a text that breaks no rule on names and types is typed in the kernel.
use Rattle.std.proofs.Common.{◌≡◌, refl, ◌∙◌, subst, ℕ, List, [], ◌∷◌, Option, Some, None, Ok, false}
use Rattle.std.specs.Prelude.{⊤}
use Rattle.ceu_base.specs.declared.kinds.Ty.{Ty}
use Rattle.ceu_base.specs.declared.kinds.Ty.TheVariants as ty
use Rattle.ceu_base.specs.declared.kinds.Pos.{Pos}
use Rattle.ceu_tree.specs.declared.source.Class.TheVariants as class
use Rattle.ceu_tree.specs.declared.source.Ident.{Ident}
use Rattle.ceu_tree.specs.declared.source.Target.{Target}
use Rattle.ceu_tree.specs.declared.source.Source as source
use Rattle.ceu_tree.specs.declared.source.Source.{Source}
use Rattle.ceu_tree.specs.declared.source.Item.{Held-Item-value, Item-value-None', Item-value-Some'}
use Rattle.ceu_tree.specs.declared.source.Do.{Do, Do'}
use Rattle.ceu_tree.specs.declared.source.Block.{Block, Block', Row_of-Node, end_of-Node, more_of-Node}
use Rattle.ceu_tree.specs.declared.source.Arm.{Arm'}
use Rattle.ceu_tree.specs.declared.source.Range.{Range, Range'}
use Rattle.ceu_tree.specs.declared.source.Stmt as stmt
use Rattle.ceu_tree.specs.declared.source.Stmt.{Stmt, Vars', If', Par', Row_of-Item, end_of-Item, more_of-Item, Row_of-Arm, end_of-Arm, more_of-Arm, Row_of-Block, end_of-Block, more_of-Block, Held-Stmt-If-1, Stmt-If-1-None', Stmt-If-1-Some'}
use Rattle.ceu_tree.specs.declared.kernel.Kernel.{Kernel}
use Rattle.ceu_tree.specs.declared.kernel.Loc.{Loc}
use Rattle.ceu_tree.specs.declared.kernel.KKind.TheVariants as kind
use Rattle.ceu_tree.specs.declared.kernel.KLoop.TheVariants as turns
use Rattle.ceu_tree.specs.declared.kernel.ParKind.TheVariants as par
use Rattle.ceu_tree.specs.declared.kernel.KStmt as kernel
use Rattle.ceu_tree.specs.Proper.{LoopAim, InFinalizer}
use Rattle.ceu_scopes.specs.declared.known.Scopes.{Scopes}
use Rattle.ceu_scopes.specs.declared.scope.Border.{Border}
use Rattle.ceu_scopes.specs.declared.scope.Border.TheVariants.{Plain, Async}
use Rattle.ceu_scopes.specs.declared.walk.Walk.{Walk}
use Rattle.ceu_scopes.specs.Walk.{◌>>=◌, opened, closed, shown, fresh}
use Rattle.ceu_scopes.specs.Rules.{declared}
use Rattle.ceu_scopes.specs.Names.{exp_walked, ident_declared, port_declared, value_broken, labelled, unlabelled, every_walked, target_assigned, target_walked, range_opened, list_walked, stmt_walked, source_walked, value_walked, do_walked, block_walked, arm_walked, last_walked, range_walked, items_walked, arms_walked, blocks_walked, nodes_walked}
use Rattle.ceu_types.specs.declared.typing.Types.{Types}
use Rattle.ceu_types.specs.declared.found.Found.{Found}
use Rattle.ceu_types.specs.declared.around.Around as types_around
use Rattle.ceu_types.specs.Notes.{passed, not_in_finalizer, begun, ended}
use Rattle.ceu_types.specs.Uses.{use_type}
use Rattle.ceu_types.specs.Expressions.{condition, given}
use Rattle.ceu_types.specs.Around as types
use Rattle.ceu_types.specs.Around.{async_around, loop_around, do_around}
use Rattle.ceu_types.specs.Statements.{target_found, waits, acts, name_typed, uses_passed, every_takes, every_begun, every_ended, finalizer_begun, finalizer_ended, async_begun, stmt_found, source_found, value_found, do_found, block_found, last_found, range_found, items_found, arms_found, blocks_found, nodes_found}
use Rattle.ceu_expand.specs.declared.around.Around as draft_around
use Rattle.ceu_expand.specs.declared.draft.Draft.{Draft}
use Rattle.ceu_expand.specs.Draft as draft
use Rattle.ceu_expand.specs.Draft.{in_loop, in_do, hidden, placed, block_of, around_block, standing, event_declared, input_declared, output_declared, own}
use Rattle.ceu_expand.specs.Lists.{each}
use Rattle.ceu_expand.specs.Uses as uses
use Rattle.ceu_expand.specs.Uses.{variable, if_variable, if_used}
use Rattle.ceu_expand.specs.Expressions.{exp_passed}
use Rattle.ceu_expand.specs.Parts.{nothing_in, target_awaited, name_passed}
use Rattle.ceu_expand.specs.Expansion.{row_blocks, par_hidden, par_slot, turns_written, turns_passed, range_hidden, range_written, range_passed, declared_in, stmt_written, source_written, value_written, do_written, ranged, every_written, every_passed, block_written, block_passed, last_written, last_passed, nodes_written, items_written, arms_written, arms_passed, blocks_written, blocks_passed}
use Rattle.laws_kernel_shape.specs.Shaped.{AllOf}
use Rattle.laws_kernel_shape.proofs.Codes.{NoCode, NoCodeInSource, NoCodeInValue, NoCodeInDo, NoCodeInBlock, NoCodeInLast, NoCodeInRange, NoCodeInItems, NoCodeInArms, NoCodeInBlocks, NoCodeInNodes}
use Rattle.laws_kernel_shape.proofs.Frames.{frame_labelled, frame_unlabelled, frame_exp}
use Rattle.laws_kernel_shape.specs.Exits.{aim_of}
use Rattle.laws_kernel_shape.proofs.Held.{around_parts, value_of, rel_step, rel_loop, rel_do, rel_finalizer}
use Rattle.laws_kernel_types.specs.Times.{Timed, TimedSource, TimedValue, TimedDo, TimedBlock, TimedLast, TimedRange, TimedItems, TimedArms, TimedBlocks, TimedNodes, TargetTimed}
use Rattle.laws_kernel_types.specs.Typed.{LocTyped, MaybeTyped, StmtTyped, BlockTyped, ArmTyped}
use Rattle.laws_kernel_types.proofs.Noting as noting
use Rattle.laws_kernel_types.proofs.Noting.{none_step, acts_step, waits_step, finalizer_step, hidden_step, declared_step, used_step}
use Rattle.laws_kernel_types.proofs.Passing.{given_step, condition_step}
use Rattle.laws_kernel_types.proofs.Giving.{given_ok, condition_ok}
use Rattle.laws_kernel_types.proofs.Naming.{then_ok, ok_is, alias_goes}
use Rattle.laws_kernel_types.proofs.Walking.{calm_same, calm_hidden, calm_opened, exp_goes}
use Rattle.laws_kernel_types.proofs.Running.{of_goes, step_then, found_step, calm_step, first_run, last_run, at_run, begin_step, block_step, block_run}
use Rattle.laws_kernel_types.proofs.Holding.{holds_opened, holds_block, if_typed, par_typed}
use Rattle.laws_kernel_types.proofs.Leaves.{simple_part, zeroed_part, assigned_part, emitted_part, killed_part, spawned_part, parts_of, begun_parts, hidden_parts}
use Rattle.laws_kernel_types.proofs.Awaiting.{target_part, await_part, empty_block, empty_step}
use Rattle.laws_kernel_types.proofs.Declaring.{event_goes, input_goes, output_goes, each_goes, loop_goes, alias_part, pool_part}
use Rattle.laws_kernel_types.proofs.Wrapping.{finalizer_names, finalizer_labels, fine_closed, fine_opened, closed_same, entered_async, finalizer_begun_types, finalizer_ended_types, wrap_step, wrap_run, closed_step, closed_run}
use Rattle.laws_kernel_types.proofs.Around.{MainIf, Main, Inner, of_part, main_then, found_then, placed_main, if_main, jump_main, escape_main, node_main}
use Rattle.laws_kernel_types.proofs.Blocks.{loop_code, do_code, each_parts, event_parts, input_parts, output_parts, turns_typed, turns_parts, range_parts, each_notes, event_notes, input_notes, output_notes, every_notes, turns_step, three_hidden, do_step, do_run}
use Rattle.laws_kernel_types.proofs.Setting.{Wants, WantsValue, moved_main, assign_main, alias_main, wait_main, names_main, async_main, item_main, every_part, cleared_step}

module _ (s : Scopes) (t : Types) (numbers : List ℕ) (K : Kernel) (code : Option ℕ) where
  mutual
    unfolding NoCode Timed stmt_found stmt_written stmt_walked StmtTyped async_begun every_begun range_passed range_written

    pub stmt_main : (a : types_around.Around) (b : draft_around.Around) → b.code ≡ code → (p : Pos) (st : Stmt) → NoCode st → Timed st → (w v : Walk) (f : Found) (d : Draft) → stmt_walked st w ≡ Ok v →
        Main s t numbers K code a b w f d v (stmt_found s a st f) (stmt_written s t b p st d)
    stmt_main a b c p stmt.Nothing k z w v f d h = moved_main s t numbers K code a b w v f f d _ (Ok w) refl h (of_part s t numbers K code a b (simple_part s t numbers K code ⊤ p kernel.Nothing w f d (λ q aims. tt)))
    stmt_main a b c p stmt.Break k z w v f d h = moved_main s t numbers K code a b w v f _ d _ (Ok w) refl h (jump_main s t numbers K code a b p (kernel.Break b.turns) w f d (λ aims. tt))
    stmt_main a b c p stmt.Continue k z w v f d h = moved_main s t numbers K code a b w v f _ d _ (Ok w) refl h (jump_main s t numbers K code a b p (kernel.Continue b.turns) w f d (λ aims. tt))
    stmt_main a b c p (Vars' u _ items) k z w v f d h = found_then s t numbers K code a b (finalizer_step s t f d) (items_main a b c p u items k z w v (not_in_finalizer f) d h)
    stmt_main a b c p (stmt.AliasDecl name x start) k z w v f d h = of_part s t numbers K code a b (alias_part s t numbers K code p name x start w v f d h)
    stmt_main a b c p (stmt.Events u xs) k z w v f d h =
        names_main s t numbers K code a b w v f d (each (event_declared b.code u) xs d) (each_notes s t (event_declared b.code u) (acts f) (event_notes s t b.code u (acts f)) xs d) (each_parts (event_declared b.code u) (event_parts b.code u) xs d)
        (each_goes s numbers K code (ident_declared class.Event u None) (event_declared b.code u) (event_goes s numbers K code b.code c u) xs w v d h)
    stmt_main a b c p (stmt.Inputs u xs) k z w v f d h =
        names_main s t numbers K code a b w v f d (each (input_declared u) xs d) (each_notes s t (input_declared u) (acts f) (input_notes s t u (acts f)) xs d) (each_parts (input_declared u) (input_parts u) xs d)
        (each_goes s numbers K code (port_declared class.Input u) (input_declared u) (input_goes s numbers K code u) xs w v d h)
    stmt_main a b c p (stmt.Outputs u xs) k z w v f d h =
        names_main s t numbers K code a b w v f d (each (output_declared u) xs d) (each_notes s t (output_declared u) (acts f) (output_notes s t u (acts f)) xs d) (each_parts (output_declared u) (output_parts u) xs d)
        (each_goes s numbers K code (port_declared class.Output u) (output_declared u) (output_goes s numbers K code u) xs w v d h)
    stmt_main a b c p (stmt.Pool n name x) k z w v f d h = of_part s t numbers K code a b (pool_part s t numbers K code n name x w v f d h)
    stmt_main a b c p (stmt.Code x ps result blk) k z w v f d h = absurd k
    stmt_main a b c p (stmt.Assign x (source.Start sp)) k z w v f d h =
        let m = then_ok (target_assigned (source.Start sp) x w) (source_walked (source.Start sp)) v h in
        alias_main s t numbers K code a b w m.0 v f _ d _ (alias_goes s numbers K code sp x w m.0 d m.1) (source_main a b c p (variable s x d) (use_type s f.names) (source.Start sp) k z m.0 v (passed s f) (uses.used d) m.2)
    stmt_main a b c p (stmt.Assign x (source.Value e)) k z w v f d h =
        let m = then_ok (target_assigned (source.Value e) x w) (source_walked (source.Value e)) v h in
        assign_main s t numbers K code a b x w m.0 v f _ d _ m.1 (source_main a b c p (variable s x d) (use_type s f.names) (source.Value e) k z m.0 v (passed s f) (uses.used d) m.2)
    stmt_main a b c p (stmt.Assign x (source.Wait e)) k z w v f d h =
        let m = then_ok (target_assigned (source.Wait e) x w) (source_walked (source.Wait e)) v h in
        assign_main s t numbers K code a b x w m.0 v f _ d _ m.1 (source_main a b c p (variable s x d) (use_type s f.names) (source.Wait e) k z m.0 v (passed s f) (uses.used d) m.2)
    stmt_main a b c p (stmt.Assign x (source.Done e)) k z w v f d h =
        let m = then_ok (target_assigned (source.Done e) x w) (source_walked (source.Done e)) v h in
        assign_main s t numbers K code a b x w m.0 v f _ d _ m.1 (source_main a b c p (variable s x d) (use_type s f.names) (source.Done e) k z m.0 v (passed s f) (uses.used d) m.2)
    stmt_main a b c p (stmt.Emit x e) k z w v f d h = of_part s t numbers K code a b (emitted_part s t numbers K code p x e w v f d h)
    stmt_main a b c p (stmt.Await x) k z w v f d h = found_then s t numbers K code a b (waits_step s t f d) (of_part s t numbers K code a b (await_part s t numbers K code p None x z w v (waits f) d h))
    stmt_main a b c p (stmt.Spawn x) k z w v f d h = of_part s t numbers K code a b (spawned_part s t numbers K code None x w v f d h)
    stmt_main a b c p (stmt.Kill x) k z w v f d h = of_part s t numbers K code a b (killed_part s t numbers K code p x w v f d h)
    stmt_main a b c p (stmt.Escape l e) k z w v f d h = escape_main s t numbers K code a b p l e w v f d h
    stmt_main a b c p (stmt.Do blk) k z w v f d h =
        found_then s t numbers K code a b (finalizer_step s t f d) (if_main s t numbers K code a b (refl, tt) (do_main a b c p None ty.None blk k z w v (not_in_finalizer f) d h))
    stmt_main a b c p (stmt.Finalize blk) k z w v f d h =
        let begin = finalizer_begun f in
        let d' = draft.begun d in
        let e = block_passed s t b blk d' in
        let inner = block_main a b c blk Plain k z w v begin d' h in
        let g = block_found s a blk begin in
        let x = closed_same s g in
        let step =
        wrap_step s t numbers K code w v f begin g (finalizer_ended g) d' e (finalizer_names s f) x.1 (x.0 ∙ inner.step.notes.under.labels ∙ finalizer_labels s f) (finalizer_begun_types s f) (finalizer_ended_types s t g) inner.step
        (λ place m. let r = fine_closed s place g m in fine_opened s place f r.0 (inner.step.notes.under.back InFinalizer r.1)) (λ place m. (InFinalizer, (fine_closed s place g m).1)) in
        placed_main s t numbers K code a b ⊤ p (kernel.Finalize (block_written s t b blk d')) w v f (finalizer_ended g) d e step (inner.same ∙ begun_parts d)
        (λ q place aims rel run.
        let r = fine_closed s place g run.fine in
        let run' = wrap_run s t numbers K code place InFinalizer w v f begin g (finalizer_ended g) d' e (finalizer_names s f) (finalizer_begun_types s f) (finalizer_ended_types s t g) r.1 run in
        inner.typed InFinalizer [] (rel_finalizer s a b begin d' run'.level) run')
    stmt_main a b c p (If' _ arms last) k z w v f d h =
        let f' = not_in_finalizer f in
        let d' = draft.begun d in
        let m = then_ok (arms_walked arms w) (last_walked last) v h in
        let one = arms_main a b c arms k.0 z.0 w m.0 f' d' m.1 in
        let f'' = arms_found s a arms f' in
        let d'' = arms_passed s t b arms d' in
        let two = last_main a b c last k.1 z.1 m.0 v f'' d'' m.2 in
        let start = found_step s t numbers K code w f f' d' (finalizer_step s t f d') in
        let rest = step_then s t numbers K code one.step two.step in
        placed_main s t numbers K code a b ⊤ p (kernel.If (arms_written s t b arms d') (last_written s t b last d'')) w v f (last_found s a last f'') d (last_passed s t b last d'')
        (step_then s t numbers K code start rest) (two.same ∙ one.same ∙ begun_parts d)
        (λ q place aims rel run.
        let run' = last_run s t numbers K code place start rest run in
        let rel' = rel_step s place aims a b f f' d d' (step_then s t numbers K code (begin_step s t numbers K code w f d) start).notes.under rel in
        if_typed K code aims d.node (arms_written s t b arms d') (last_written s t b last d'') (one.typed place aims rel' (first_run s t numbers K code place two.step run'))
        (two.typed place aims (rel_step s place aims a b f' f'' d' d'' one.step.notes.under rel') (last_run s t numbers K code place one.step two.step run')))
    stmt_main a b c p (stmt.Loop limit blk) k z w v f d h =
        let f' = not_in_finalizer f in
        let d1 = draft.begun d in
        let d' = turns_passed limit d1 in
        let b' = in_loop d.node b in
        let inner = block_main (loop_around a) b' (loop_code d.node b ∙ c) blk Plain k z w v f' d' h in
        let first = step_then s t numbers K code (found_step s t numbers K code w f f' d1 (finalizer_step s t f d1)) (turns_step s t numbers K code limit w f' d1) in
        placed_main s t numbers K code a b ⊤ p (kernel.Loop (turns_written limit d1) (block_written s t b' blk d')) w v f (block_found s (loop_around a) blk f') d (block_passed s t b' blk d')
        (step_then s t numbers K code first inner.step) (inner.same ∙ turns_parts limit d1 ∙ begun_parts d)
        (λ q place aims rel run. (
          turns_typed limit d1,
          inner.typed place (LoopAim d.node ∷ aims) (rel_step s place (LoopAim d.node ∷ aims) (loop_around a) b' f f' d1 d' first.notes.under (rel_loop s place aims a b f d rel)) (last_run s t numbers K code place first inner.step run),
        ))
    stmt_main a b c p (stmt.Range r) k z w v f d h = found_then s t numbers K code a b (finalizer_step s t f d) (range_main a b c p r k z w v (not_in_finalizer f) d h)
    stmt_main a b c p (stmt.Every x target blk) k z w v f d h = every_main a b c p x target blk k z.0 z.1 w v f d h
    stmt_main a b c p (stmt.Watching target blk) k z w v f d h =
        let f' = waits f in
        let d' = draft.begun d in
        let m = then_ok (target_walked target w) (λ u. block_walked blk Plain u) v h in
        let wait = target_part s t numbers K code p None target z.0 w m.0 f' (draft.opened 0 d') m.1 in
        let f'' = target_found s target f' in
        let body = target_awaited s t p None target in
        let inside = around_block 0 body d' in
        let made = block_of 0 body d' in
        let inner = block_main a b c blk Plain k z.1 m.0 v f'' inside m.2 in
        let start = found_step s t numbers K code w f f' d' (waits_step s t f d') in
        let waited = block_step s t numbers K code 0 body w m.0 f' f'' d' wait.step in
        let rest = step_then s t numbers K code waited inner.step in
        placed_main s t numbers K code a b ⊤ p (kernel.Par par.Or 0 (made ∷ block_written s t b blk inside ∷ [])) w v f (block_found s a blk f'') d (block_passed s t b blk inside)
        (step_then s t numbers K code start rest) (inner.same ∙ around_parts 0 body d' ∙ begun_parts d)
        (λ q place aims rel run.
        let run' = last_run s t numbers K code place start rest run in
        let one = first_run s t numbers K code place inner.step run' in
        let rel' = rel_step s place aims a b f f'' d inside (step_then s t numbers K code (begin_step s t numbers K code w f d) (step_then s t numbers K code start waited)).notes.under rel in
        par_typed K code aims d.node par.Or 0 (made ∷ block_written s t b blk inside ∷ []) (
          holds_block K code aims 0 body d' (wait.holds tt place aims (block_run s t numbers K code place 0 body w m.0 f' f'' d' wait.step one) (holds_opened K code aims 0 d')),
          (inner.typed place aims rel' (last_run s t numbers K code place waited inner.step run'), tt),
        ))
    stmt_main a b c p (Par' kind _ bs) k z w v f d h =
        let f' = waits f in
        let d1 = draft.begun d in
        let n = par_hidden kind (row_blocks bs) in
        let d' = hidden n d1 in
        let inner = blocks_main a b c bs k z w v f' d' h in
        let first = step_then s t numbers K code (found_step s t numbers K code w f f' d1 (waits_step s t f d1)) (calm_step s t numbers K code w f' f' d1 d' (hidden_step s t n f' d1) (calm_hidden n d1)) in
        placed_main s t numbers K code a b ⊤ p (kernel.Par kind (par_slot kind d.slot) (blocks_written s t b bs d')) w v f (blocks_found s a bs f') d (blocks_passed s t b bs d')
        (step_then s t numbers K code first inner.step) (inner.same ∙ hidden_parts n d1 ∙ begun_parts d)
        (λ q place aims rel run.
        par_typed K code aims d.node kind (par_slot kind d.slot) (blocks_written s t b bs d')
        (inner.typed place aims (rel_step s place aims a b f f' d d' (step_then s t numbers K code (begin_step s t numbers K code w f d) first).notes.under rel) (last_run s t numbers K code place first inner.step run)))
    stmt_main a b c p (stmt.Async xs blk) k z w v f d h =
        let m = then_ok (list_walked xs ([], w)) (λ listed. block_walked blk (Async listed.0) listed.1) v h in
        let f' = uses_passed s xs (entered_async s f) in
        let inside = each name_passed xs (draft.begun d) in
        async_main s t numbers K code a b p xs (block_written s t b blk inside) w v m.0 f (block_found s async_around blk f') d (block_passed s t b blk inside) m.1 (block_main async_around b c blk (Async m.0.0) k z m.0.1 v f' inside m.2)

    source_main : (a : types_around.Around) (b : draft_around.Around) → b.code ≡ code → (p : Pos) (into : Loc) (u : Ty) (x : Source) → NoCodeInSource x → TimedSource x → (w v : Walk) (f : Found) (d : Draft) → source_walked x w ≡ Ok v →
        MainIf s t numbers K code (Wants x u into) a b w f d v (source_found s a u x f) (source_written s t b p into x d)
    source_main a b c p into u (source.Value e) k z w v f d h = of_part s t numbers K code a b (assigned_part s t numbers K code p into e u w v f d h)
    source_main a b c p into u (source.Wait e) k z w v f d h = wait_main s t numbers K code a b p into u e z w v f d h
    source_main a b c p into u (source.Start x) k z w v f d h = of_part s t numbers K code a b (spawned_part s t numbers K code (Some into.slot) x w v f d h)
    source_main a b c p into u (source.Done blk) k z w v f d h = found_then s t numbers K code a b (acts_step s t f d) (do_main a b c p (Some into) u blk k z w v (acts f) d h)

    value_main : (a : types_around.Around) (b : draft_around.Around) → b.code ≡ code → (p : Pos) (into : Loc) (u : Ty) (x : Held-Item-value) → NoCodeInValue x → TimedValue x → (w v : Walk) (f : Found) (d : Draft) → value_walked x w ≡ Ok v →
        MainIf s t numbers K code (WantsValue x u into) a b w f d v (value_found s a u x f) (value_written s t b p into x d)
    value_main a b c p into u Item-value-None' k z w v f d h =
        subst (λ v. MainIf s t numbers K code (LocTyped into) a b w f d v f (value_written s t b p into Item-value-None' d)) (ok_is w v (Ok w) refl h) (of_part s t numbers K code a b (zeroed_part s t numbers K code p into w f d))
    value_main a b c p into u (Item-value-Some' x) k z w v f d h = source_main a b c p into u x k z w v f d h

    do_main : (a : types_around.Around) (b : draft_around.Around) → b.code ≡ code → (p : Pos) (into : Option Loc) (u : Ty) (made : Do) → NoCodeInDo made → TimedDo made → (w v : Walk) (f : Found) (d : Draft) → do_walked made w ≡ Ok v →
        MainIf s t numbers K code ((u ≡ value_of into) × MaybeTyped into) a b w f d v (do_found s a u made f) (do_written s t b p into made d)
    do_main a b c p into u (Do' l blk) k z w v f d h =
        let d' = draft.begun d in
        let inside = draft.labelled l d.node d' in
        let a' = do_around l u a in
        let b' = in_do l d.node b in
        let m = then_ok (block_walked blk Plain (labelled l w)) (unlabelled l) v h in
        let f' = types.labelled l u f in
        let inner = block_main a' b' (do_code l d.node b ∙ c) blk Plain k z (labelled l w) m.0 f' inside m.1 in
        let g = block_found s a' blk f' in
        let e = block_passed s t b' blk inside in
        let whole = do_step s t numbers K code l u d.node w m.0 v f g d' e m.2 inner.step in
        placed_main s t numbers K code a b ((u ≡ value_of into) × MaybeTyped into) p (kernel.Do into (block_written s t b' blk inside)) w v f (types.unlabelled l g) d (draft.unlabelled l e) whole
        (parts_of e (draft.unlabelled l e) (frame_unlabelled l e) ∙ inner.same ∙ parts_of d' inside (frame_labelled l d.node d') ∙ begun_parts d)
        (λ q place aims rel run. (
          q.1,
          inner.typed place (aim_of d.node into ∷ aims) (rel_do s place aims a b l into u q.0 f d rel) (do_run s t numbers K code place l u d.node w m.0 v f g d' e m.2 inner.step run),
        ))

    range_main : (a : types_around.Around) (b : draft_around.Around) → b.code ≡ code → (p : Pos) (r : Range) → NoCodeInRange r → TimedRange r → (w v : Walk) (f : Found) (d : Draft) → range_walked r w ≡ Ok v →
        Main s t numbers K code a b w f d v (range_found s a r f) (ranged s t b p r d)
    range_main a b c p (Range' x open_a low high open_b blk) k z w v f d h =
        let d' = draft.begun d in
        let b' = in_loop d.node b in
        let m4 = then_ok (exp_walked low w >>= exp_walked high >>= range_opened x >>= block_walked blk Plain) closed v h in
        let m3 = then_ok (exp_walked low w >>= exp_walked high >>= range_opened x) (block_walked blk Plain) m4.0 m4.1 in
        let m2 = then_ok (exp_walked low w >>= exp_walked high) (range_opened x) m3.0 m3.1 in
        let m1 = then_ok (exp_walked low w) (exp_walked high) m2.0 m2.1 in
        let three = range_hidden d' in
        let d1 = exp_passed low three in
        let d2 = exp_passed high d1 in
        let inside = standing d'.slot d2 in
        let f1 = given s low ty.S32 f in
        let f2 = given s high ty.S32 f1 in
        let g = block_found s (loop_around a) blk f2 in
        let e = block_passed s t b' blk inside in
        let hide = three_hidden s t numbers K code w f d' in
        let one = of_goes s t numbers K code (given_step s t low ty.S32 f three) (exp_goes s numbers K code low w m1.0 three m1.1) in
        let two = of_goes s t numbers K code (given_step s t high ty.S32 f1 d1) (exp_goes s numbers K code high m1.0 m2.0 d1 m1.2) in
        let stand = of_goes s t numbers K code (noting.standing_step s t d'.slot f2 d2) (loop_goes s numbers K code x d'.slot (opened Plain m2.0) m3.0 d2 m2.2) in
        let inner = block_main (loop_around a) b' (loop_code d.node b ∙ c) blk Plain k z m3.0 m4.0 f2 inside m3.2 in
        let shut = closed_step s t numbers K code Plain m2.0 m4.0 v f2 g d2 e (step_then s t numbers K code stand inner.step) m4.2 in
        let rest1 = step_then s t numbers K code two shut in
        let rest0 = step_then s t numbers K code one rest1 in
        placed_main s t numbers K code a b ⊤ p (kernel.Loop (range_written s t open_a low high open_b d') (block_written s t b' blk inside)) w v f g d e
        (step_then s t numbers K code hide rest0) (inner.same ∙ range_parts low high d' ∙ begun_parts d)
        (λ q place aims rel run.
        let in_aims = LoopAim d.node ∷ aims in
        let run0 = last_run s t numbers K code place hide rest0 run in
        let run1 = last_run s t numbers K code place one rest1 run0 in
        let run2 = last_run s t numbers K code place two shut run1 in
        let run3 = closed_run s t numbers K code place Plain m2.0 m4.0 v f2 g d2 e m4.2 run2 in
        let run4 = last_run s t numbers K code place stand inner.step run3 in
        let notes = noting.step_then s t hide.notes (noting.step_then s t one.notes (noting.step_then s t two.notes stand.notes)) in (
          (given_ok s t place low ty.S32 f three (at_run s t numbers K code place (first_run s t numbers K code place rest1 run0)), given_ok s t place high ty.S32 f1 d1 (at_run s t numbers K code place (first_run s t numbers K code place shut run1))),
          inner.typed place in_aims (rel_step s place in_aims (loop_around a) b' f f2 d' inside notes.under (rel_loop s place aims a b f d rel)) run4,
        ))

    every_main : (a : types_around.Around) (b : draft_around.Around) → b.code ≡ code → (p : Pos) (x : Option Ident) (target : Target) (blk : Block) → NoCodeInBlock blk → TargetTimed target → TimedBlock blk → (w v : Walk) (f : Found) (d : Draft) →
        every_walked x target w >>= (λ u. block_walked blk Plain u) ≡ Ok v →
        Main s t numbers K code a b w f d v (every_ended (block_found s (loop_around a) blk (every_begun s x target f))) (placed d.node p (kernel.Loop turns.Free (every_written s t b d.node p x target blk (draft.begun d))) (every_passed s t b d.node p x target blk (draft.begun d)))
    every_main a b c p x target (Block' _ list) k y z w v f d h =
        let d' = draft.begun d in
        let n = declared_in list in
        let b' = in_loop d.node b in
        let body : Draft → Draft = λ inside. nodes_written s t b' list (target_awaited s t p (if_variable s x inside) target (if_used x inside)) in
        let m = then_ok (every_walked x target w) (λ u. block_walked (Block' _ list) Plain u) v h in
        let i = then_ok (nodes_walked list (opened Plain m.0)) closed v m.2 in
        let begin = draft.opened n d' in
        let f1 = acts f in
        let f3 = target_found s target (every_takes s x target f1) in
        let d3 = target_awaited s t p (if_variable s x begin) target (if_used x begin) in
        let f4 : Found = record f3 { beyond_every = false } in
        let g = nodes_found s (loop_around a) list f4 in
        let part = every_part s t numbers K code p x target y w m.0 f1 begin m.1 in
        let act = found_step s t numbers K code w f f1 begin (acts_step s t f begin) in
        let cleared = cleared_step s t numbers K code m.0 f3 d3 in
        let nodes = nodes_main (loop_around a) b' (loop_code d.node b ∙ c) list k z (opened Plain m.0) i.0 f4 d3 i.1 in
        let shut = closed_step s t numbers K code Plain m.0 i.0 v f4 g d3 (body begin) nodes.step i.2 in
        let rest1 = step_then s t numbers K code cleared shut in
        let rest0 = step_then s t numbers K code part.step rest1 in
        let inside = step_then s t numbers K code act rest0 in
        let whole = block_step s t numbers K code n body w v f g d' inside in
        let flag = found_step s t numbers K code v g (every_ended g) (around_block n body d') (every_notes s t g (around_block n body d')) in
        placed_main s t numbers K code a b ⊤ p (kernel.Loop turns.Free (block_of n body d')) w v f (every_ended g) d (around_block n body d')
        (step_then s t numbers K code whole flag) (around_parts n body d' ∙ begun_parts d)
        (λ q place aims rel run.
        let in_aims = LoopAim d.node ∷ aims in
        let run2 = block_run s t numbers K code place n body w v f g d' inside (first_run s t numbers K code place flag run) in
        let run3 = last_run s t numbers K code place act rest0 run2 in
        let run5 = last_run s t numbers K code place cleared shut (last_run s t numbers K code place part.step rest1 run3) in
        let run6 = closed_run s t numbers K code place Plain m.0 i.0 v f4 g d3 (body begin) i.2 run5 in
        let notes = noting.step_then s t (noting.opened_step s t n f d') (noting.step_then s t act.notes (noting.step_then s t part.step.notes cleared.notes)) in
        let rel' = rel_step s place in_aims (loop_around a) b' f f4 d' d3 notes.under (rel_loop s place aims a b f d rel) in
        (tt, holds_block K code in_aims n body d' (nodes.holds tt place in_aims rel' run6 (part.holds tt place in_aims (first_run s t numbers K code place rest1 run3) (holds_opened K code in_aims n d')))))

    pub block_main : (a : types_around.Around) (b : draft_around.Around) → b.code ≡ code → (blk : Block) (border : Border) → NoCodeInBlock blk → TimedBlock blk → (w v : Walk) (f : Found) (d : Draft) → block_walked blk border w ≡ Ok v →
        Inner s t numbers K code a b w f d v (block_found s a blk f) (block_passed s t b blk d) (λ aims. BlockTyped K code aims (block_written s t b blk d))
    block_main a b c (Block' _ list) border k z w v f d h =
        let n = declared_in list in
        let w' = opened border w in
        let m = then_ok (nodes_walked list w') closed v h in
        let start = draft.opened n d in
        let body = nodes_written s t b list in
        let g = nodes_found s a list f in
        let nodes = nodes_main a b c list k z w' m.0 f start m.1 in
        let whole = block_step s t numbers K code n body w' m.0 f g d nodes.step in
        record {
          step = closed_step s t numbers K code border w m.0 v f g d (around_block n body d) whole m.2;
          same = around_parts n body d;
          typed = λ place aims rel run.
              let inside = closed_run s t numbers K code place border w m.0 v f g d (around_block n body d) m.2 run in
              let rel' = rel_step s place aims a b f f d start (calm_step s t numbers K code w f f d start (noting.opened_step s t n f d) (calm_opened n d)).notes.under rel in
              holds_block K code aims n body d (nodes.holds tt place aims rel' (block_run s t numbers K code place n body w' m.0 f g d nodes.step inside) (holds_opened K code aims n d));
        }

    last_main : (a : types_around.Around) (b : draft_around.Around) → b.code ≡ code → (blk : Held-Stmt-If-1) → NoCodeInLast blk → TimedLast blk → (w v : Walk) (f : Found) (d : Draft) → last_walked blk w ≡ Ok v →
        Inner s t numbers K code a b w f d v (last_found s a blk f) (last_passed s t b blk d) (λ aims. BlockTyped K code aims (last_written s t b blk d))
    last_main a b c Stmt-If-1-None' k z w v f d h =
        subst (λ v. Inner s t numbers K code a b w f d v f (around_block 0 nothing_in d) (λ aims. BlockTyped K code aims (block_of 0 nothing_in d))) (ok_is w v (Ok w) refl h)
        (record { step = empty_step s t numbers K code w f d; same = around_parts 0 nothing_in d; typed = λ place aims rel run. empty_block s t numbers K code aims d })
    last_main a b c (Stmt-If-1-Some' blk) k z w v f d h = block_main a b c blk Plain k z w v f d h

    pub nodes_main : {n : _} (a : types_around.Around) (b : draft_around.Around) → b.code ≡ code → (r : Row_of-Node n) → NoCodeInNodes r → TimedNodes r → (w v : Walk) (f : Found) (d : Draft) → nodes_walked r w ≡ Ok v →
        Main s t numbers K code a b w f d v (nodes_found s a r f) (nodes_written s t b r d)
    nodes_main a b c end_of-Node k z w v f d h =
        moved_main s t numbers K code a b w v f f d d (Ok w) refl h (record { step = calm_step s t numbers K code w f f d d (none_step s t f d) (calm_same d); holds = λ q place aims rel run m. m })
    nodes_main a b c (more_of-Node p st rest) k z w v f d h =
        let m = then_ok (stmt_walked st w) (nodes_walked rest) v h in
        let e = stmt_written s t b p st d in
        let g = stmt_found s a st (begun f) in
        main_then s t numbers K code a b (node_main s t numbers K code a b p w m.0 f g d e (stmt_main a b c p st k.0 z.0 w m.0 (begun f) d m.1)) (nodes_main a b c rest k.1 z.1 m.0 v (ended p f g) e m.2)

    items_main : {n : _} (a : types_around.Around) (b : draft_around.Around) → b.code ≡ code → (p : Pos) (u : Ty) (r : Row_of-Item n) → NoCodeInItems r → TimedItems r → (w v : Walk) (f : Found) (d : Draft) → items_walked r u w ≡ Ok v →
        Main s t numbers K code a b w f d v (items_found s a u r f) (items_written s t b p u r d)
    items_main a b c p u end_of-Item k z w v f d h =
        moved_main s t numbers K code a b w v f f d d (Ok w) refl h (record { step = calm_step s t numbers K code w f f d d (none_step s t f d) (calm_same d); holds = λ q place aims rel run m. m })
    items_main a b c p u (more_of-Item x y rest) k z w v f d h =
        let name = fresh class.Var 0 w in
        let m3 = then_ok (declared class.Var u (value_broken y) x w >>= value_walked y >>= shown x name) (λ i. items_walked rest u i) v h in
        let m2 = then_ok (declared class.Var u (value_broken y) x w >>= value_walked y) (shown x name) m3.0 m3.1 in
        let m1 = then_ok (declared class.Var u (value_broken y) x w) (value_walked y) m2.0 m2.1 in
        let first = draft.declared (kind.Var u) x d in
        let f' = name_typed u x f in
        let into = own d.parts.slot u in
        let value = value_main a b c p into u y k.0 z.0 m1.0 m2.0 f' first m1.2 in
        main_then s t numbers K code a b (item_main s t numbers K code a b u x y w m1.0 m2.0 m3.0 f (value_found s a u y f') d (value_written s t b p into y first) m1.1 m2.2 value)
        (items_main a b c p u rest k.1 z.1 m3.0 v (value_found s a u y f') (value_written s t b p into y first) m3.2)

    arms_main : {n : _} (a : types_around.Around) (b : draft_around.Around) → b.code ≡ code → (r : Row_of-Arm n) → NoCodeInArms r → TimedArms r → (w v : Walk) (f : Found) (d : Draft) → arms_walked r w ≡ Ok v →
        Inner s t numbers K code a b w f d v (arms_found s a r f) (arms_passed s t b r d) (λ aims. AllOf (ArmTyped K code aims) (arms_written s t b r d))
    arms_main a b c end_of-Arm k z w v f d h =
        subst (λ v. Inner s t numbers K code a b w f d v f d (λ aims. ⊤)) (ok_is w v (Ok w) refl h) (record { step = calm_step s t numbers K code w f f d d (none_step s t f d) (calm_same d); same = refl; typed = λ place aims rel run. tt })
    arms_main a b c (more_of-Arm (Arm' e blk) rest) k z w v f d h =
        let m = then_ok (arm_walked (Arm' e blk) w) (arms_walked rest) v h in
        let i = then_ok (exp_walked e w) (λ u. block_walked blk Plain u) m.0 m.1 in
        let f' = condition s e f in
        let d' = exp_passed e d in
        let asked = of_goes s t numbers K code (condition_step s t e f d) (exp_goes s numbers K code e w i.0 d i.1) in
        let inner = block_main a b c blk Plain k.0 z.0 i.0 m.0 f' d' i.2 in
        let f'' = block_found s a blk f' in
        let d'' = block_passed s t b blk d' in
        let behind = arms_main a b c rest k.1 z.1 m.0 v f'' d'' m.2 in
        let first = step_then s t numbers K code asked inner.step in
        record {
          step = step_then s t numbers K code first behind.step;
          same = behind.same ∙ inner.same ∙ parts_of d d' (frame_exp e d);
          typed = λ place aims rel run.
              let one = first_run s t numbers K code place behind.step run in (
                (condition_ok s t place e f d (at_run s t numbers K code place (first_run s t numbers K code place inner.step one)), inner.typed place aims (rel_step s place aims a b f f' d d' asked.notes.under rel) (last_run s t numbers K code place asked inner.step one)),
                behind.typed place aims (rel_step s place aims a b f f'' d d'' first.notes.under rel) (last_run s t numbers K code place first behind.step run),
              );
        }

    blocks_main : {n : _} (a : types_around.Around) (b : draft_around.Around) → b.code ≡ code → (r : Row_of-Block n) → NoCodeInBlocks r → TimedBlocks r → (w v : Walk) (f : Found) (d : Draft) → blocks_walked r w ≡ Ok v →
        Inner s t numbers K code a b w f d v (blocks_found s a r f) (blocks_passed s t b r d) (λ aims. AllOf (BlockTyped K code aims) (blocks_written s t b r d))
    blocks_main a b c end_of-Block k z w v f d h =
        subst (λ v. Inner s t numbers K code a b w f d v f d (λ aims. ⊤)) (ok_is w v (Ok w) refl h) (record { step = calm_step s t numbers K code w f f d d (none_step s t f d) (calm_same d); same = refl; typed = λ place aims rel run. tt })
    blocks_main a b c (more_of-Block blk rest) k z w v f d h =
        let m = then_ok (block_walked blk Plain w) (blocks_walked rest) v h in
        let f' = block_found s a blk f in
        let d' = block_passed s t b blk d in
        let inner = block_main a b c blk Plain k.0 z.0 w m.0 f d m.1 in
        let behind = blocks_main a b c rest k.1 z.1 m.0 v f' d' m.2 in
        record {
          step = step_then s t numbers K code inner.step behind.step;
          same = behind.same ∙ inner.same;
          typed = λ place aims rel run. (
            inner.typed place aims rel (first_run s t numbers K code place behind.step run),
            behind.typed place aims (rel_step s place aims a b f f' d d' inner.step.notes.under rel) (last_run s t numbers K code place inner.step behind.step run),
          );
        }
