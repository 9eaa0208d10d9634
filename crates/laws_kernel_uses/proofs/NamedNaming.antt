-- Statements name what is there.
use Rattle.std.proofs.Common.{◌≡◌, refl, sym, ap, ◌∙◌, subst, ℕ, ◌+◌, List, [], ◌∷◌, ◌++◌, Option, Some, None, Ok, false}
use Rattle.std.specs.Prelude.{⊤}
use Rattle.ceu_base.specs.declared.kinds.Ty.{Ty}
use Rattle.ceu_base.specs.declared.kinds.Pos.{Pos}
use Rattle.ceu_tree.specs.declared.source.Class.TheVariants as class
use Rattle.ceu_tree.specs.declared.source.Ident.{Ident}
use Rattle.ceu_tree.specs.declared.source.Target.{Target}
use Rattle.ceu_tree.specs.declared.source.Source as source
use Rattle.ceu_tree.specs.declared.source.Source.{Source}
use Rattle.ceu_tree.specs.declared.source.Item.{Held-Item-value, Item-value-None', Item-value-Some'}
use Rattle.ceu_tree.specs.declared.source.Do.{Do, Do'}
use Rattle.ceu_tree.specs.declared.source.Label.{Label}
use Rattle.ceu_tree.specs.declared.source.Label.TheVariants as label
use Rattle.ceu_tree.specs.declared.source.Block.{Block, Block', Row_of-Node, end_of-Node, more_of-Node}
use Rattle.ceu_tree.specs.declared.source.Arm.{Arm'}
use Rattle.ceu_tree.specs.declared.source.Range.{Range, Range'}
use Rattle.ceu_tree.specs.declared.source.Stmt as stmt
use Rattle.ceu_tree.specs.declared.source.Stmt.{Stmt, Vars', If', Par', Row_of-Item, end_of-Item, more_of-Item, Row_of-Arm, end_of-Arm, more_of-Arm, Row_of-Block, end_of-Block, more_of-Block, Held-Stmt-If-1, Stmt-If-1-None', Stmt-If-1-Some'}
use Rattle.ceu_tree.specs.declared.kernel.Loc.{Loc}
use Rattle.ceu_tree.specs.declared.kernel.KDecl.{KDecl}
use Rattle.ceu_tree.specs.declared.kernel.KKind.TheVariants as kind
use Rattle.ceu_tree.specs.declared.kernel.KLoop.TheVariants as turns
use Rattle.ceu_tree.specs.declared.kernel.ParKind.TheVariants as par
use Rattle.ceu_tree.specs.declared.kernel.KStmt as kernel
use Rattle.ceu_tree.specs.declared.kernel.KStmt.{KStmt, Row_of-KArm, end_of-KArm, more_of-KArm, items-the_row-KArm, items_hidden-the_row-KArm-0, items_hidden-the_row-KBlock-1, Row_of-KBlock, end_of-KBlock, more_of-KBlock, items-the_row-KBlock}
use Rattle.ceu_scopes.specs.declared.known.Scopes.{Scopes}
use Rattle.ceu_scopes.specs.declared.scope.Border.{Border}
use Rattle.ceu_scopes.specs.declared.scope.Border.TheVariants.{Plain, Async}
use Rattle.ceu_scopes.specs.declared.walk.Walk.{Walk}
use Rattle.ceu_scopes.specs.Walk.{Broken, ◌>>=◌, opened, closed, shown, fresh, is_body}
use Rattle.ceu_scopes.specs.Walk as walk
use Rattle.ceu_scopes.specs.Rules.{declared}
use Rattle.ceu_scopes.specs.Names.{exp_walked, target_walked, ident_declared, port_declared, value_broken, name_listed, target_assigned, every_walked, stmt_walked, source_walked, value_walked, do_walked, block_walked, last_walked, range_walked, items_walked, arms_walked, blocks_walked, nodes_walked}
use Rattle.ceu_types.specs.declared.typing.Types.{Types}
use Rattle.ceu_expand.specs.declared.around.Around.{Around}
use Rattle.ceu_expand.specs.declared.draft.Draft.{Draft}
use Rattle.ceu_expand.specs.Draft as draft
use Rattle.ceu_expand.specs.Draft.{in_loop, in_do, begun, hidden, placed, outside, written, block_of, around_block, standing, event_declared, input_declared, output_declared, own}
use Rattle.ceu_expand.specs.Lists.{each}
use Rattle.ceu_expand.specs.Uses as uses
use Rattle.ceu_expand.specs.Uses.{names_output, use_number, variable, if_variable, if_used}
use Rattle.ceu_expand.specs.Expressions.{exp_passed, exp_written}
use Rattle.ceu_expand.specs.Parts.{nothing_in, target_awaited, name_passed}
use Rattle.ceu_expand.specs.Expansion.{row_blocks, par_hidden, par_slot, turns_written, turns_passed, range_hidden, range_written, range_passed, declared_in, stmt_written, source_written, value_written, do_written, ranged, every_written, every_passed, block_written, block_passed, last_written, last_passed, nodes_written, items_written, arms_written, arms_passed, blocks_written, blocks_passed}
use Rattle.laws_kernel_shape.specs.Shaped.{AllOf}
use Rattle.laws_kernel_shape.proofs.Codes.{NoCode, NoCodeInSource, NoCodeInValue, NoCodeInDo, NoCodeInBlock, NoCodeInLast, NoCodeInRange, NoCodeInItems, NoCodeInArms, NoCodeInBlocks, NoCodeInNodes}
use Rattle.laws_kernel_shape.proofs.Steps.{always_ok, always_then}
use Rattle.laws_kernel_shape.proofs.Frames.{frame_used, frame_labelled, frame_unlabelled, frame_each}
use Rattle.laws_kernel_shape.proofs.Wrote.{nodes_wrote}
use Rattle.ceu_tree.specs.declared.kernel.Kernel.{Kernel}
use Rattle.ceu_tree.specs.Proper.{InsideAsync, InFinalizer}
use Rattle.ceu_scopes.specs.Walk.{decl_of}
use Rattle.laws_kernel_names.proofs.Holding.{parts_of, parts_hid, parts_begun, around_parts}
use Rattle.laws_kernel_names.proofs.Blocks.{opened_none, target_decls, block_runs}
use Rattle.laws_kernel_names.proofs.Naming.{block_same, bind_ok}
use Rattle.laws_kernel_uses.specs.Named.{TargetNamed, MaybeTarget}
use Rattle.laws_kernel_uses.proofs.Sites.{scope_of, site_in, ExpHeld, StmtHeld, BlockHeld, ArmHeld}
use Rattle.laws_kernel_uses.proofs.Reach.{Quiet}
use Rattle.laws_kernel_uses.proofs.Walking.{Ground, View, Both, step_then}
use Rattle.laws_kernel_uses.proofs.Exps.{Made, Gives, made_then, still, still_made, draft_made, exp_made}
use Rattle.laws_kernel_uses.proofs.Holding.{if_held, par_held, Part, PartIf, if_part, PartsIf, Parts, parts_then, hidden_step, of_made, of_made_if, simple_parts}
use Rattle.laws_kernel_uses.proofs.NamedSingle.{assigned_parts, emitted_parts, escaped_parts, killed_parts, target_parts, spawned_parts, bare_spawn, pool_parts, alias_parts, each_parts, event_parts, input_parts, output_parts}
use Rattle.laws_kernel_uses.proofs.Opening.{Moved, unmoved, head_of, inner, ListedIn, plain_quiet, finalizer_quiet, async_quiet}
use Rattle.laws_kernel_uses.proofs.NamedBlocks.{close_block, bare_block, await_parts, new_view, still_part, block_gives, do_gives}
use Rattle.laws_kernel_uses.proofs.NamedRanges.{loop_ground, range_made}
use Rattle.laws_kernel_uses.proofs.Sources.{turns_step, turns_parts, turns_held, range_held, Listing, list_made, if_then, TargetOf, assign_made, item_parts, last_same, arms_same, blocks_same, range_parts, zero_held, every_wrote, every_head}

-- a plain block, which lists nothing
pub in_plain : (s : Scopes) (K : Kernel) (g : Ground) (w : Walk) (ds : List KDecl) (base : ℕ) (d : Draft) → Both s K (head_of ds g) base w d → Quiet g.site.place (ds ++ g.site.since) (opened Plain w).scopes
in_plain s K g w ds base d both = plain_quiet s K (head_of ds g) base w d both

in_loop_code : (n : ℕ) (a : Around) (c : Option ℕ) → a.code ≡ c → (in_loop n a).code ≡ c
unfolding in_loop
in_loop_code n a c h = h

in_do_code : (l : Label) (n : ℕ) (a : Around) (c : Option ℕ) → a.code ≡ c → (in_do l n a).code ≡ c
unfolding in_do
in_do_code label.Plain n a c h = h
in_do_code label.Under n a c h = h
in_do_code (label.Named x) n a c h = h

module _ (s : Scopes) (t : Types) (K : Kernel) where
  mutual
    unfolding NoCode stmt_walked stmt_written StmtHeld

    pub stmt_parts : (g : Ground) (ds : List KDecl) (base : ℕ) → View g ds base → (a : Around) → a.code ≡ g.site.code → (p : Pos) (st : Stmt) → NoCode st → (w : Walk) (d : Draft) → Parts s t K g ds base w d (stmt_walked st w) (stmt_written s t a p st d)
    stmt_parts g ds base env a c p stmt.Nothing k w d = simple_parts s t K g ds base p kernel.Nothing w d tt
    stmt_parts g ds base env a c p stmt.Break k w d = simple_parts s t K g ds base p (kernel.Break a.turns) w d tt
    stmt_parts g ds base env a c p stmt.Continue k w d = simple_parts s t K g ds base p (kernel.Continue a.turns) w d tt
    stmt_parts g ds base env a c p (Vars' u _ items) k w d = items_parts g ds base env a c p u items k w d
    stmt_parts g ds base env a c p (stmt.AliasDecl code x start) k w d = alias_parts s t K g ds base env p code x start w d
    stmt_parts g ds base env a c p (stmt.Events u xs) k w d = each_parts s t K g ds base (ident_declared class.Event u None) (event_declared a.code u) (event_parts s t K g ds base a.code c u) xs w d
    stmt_parts g ds base env a c p (stmt.Inputs u xs) k w d = each_parts s t K g ds base (port_declared class.Input u) (input_declared u) (input_parts s t K g ds base u) xs w d
    stmt_parts g ds base env a c p (stmt.Outputs u xs) k w d = each_parts s t K g ds base (port_declared class.Output u) (output_declared u) (output_parts s t K g ds base u) xs w d
    stmt_parts g ds base env a c p (stmt.Pool n code x) k w d = pool_parts s t K g ds base env n code x w d
    stmt_parts g ds base env a c p (stmt.Code x ps result b) k w d = absurd k
    stmt_parts g ds base env a c p (stmt.Assign x v) k w d =
        if_then s t K g ds base (λ u. TargetOf s t K g v (variable s x d) u (uses.used d)) w d (uses.used d) (source_written s t a p (variable s x d) v (uses.used d)) (target_assigned v x w) (source_walked v)
        (ap (λ p. p.list) (parts_of d (uses.used d) (frame_used d))) (assign_made s t K g ds base v x w d) (λ u. source_parts g ds base env a c p (variable s x d) v k u (uses.used d))
    stmt_parts g ds base env a c p (stmt.Emit x e) k w d = emitted_parts s t K g ds base p x e w d
    stmt_parts g ds base env a c p (stmt.Await x) k w d = λ v e. if_part s t K g ds base ⊤ tt (await_parts s t K g ds base p None x w d v e)
    stmt_parts g ds base env a c p (stmt.Spawn x) k w d = bare_spawn s t K g ds base x w d
    stmt_parts g ds base env a c p (stmt.Kill x) k w d = killed_parts s t K g ds base p x w d
    stmt_parts g ds base env a c p (stmt.Escape l e) k w d = escaped_parts s t K g ds base a p l e w d
    stmt_parts g ds base env a c p (stmt.Do b) k w d = λ v e. if_part s t K g ds base ⊤ tt (do_parts g ds base env a c p None b k w d v e)
    stmt_parts g ds base env a c p (stmt.Finalize b) k w d =
        let d' = begun d in
        let m : Moved = record { place = InFinalizer; since = g.site.since } in
        let made = block_written s t a b d' in
        of_made s t K g ds base p (kernel.Finalize made) (BlockHeld K (site_in InFinalizer g.site.since g.site) made) w d (block_passed s t a b d') (block_walked b Plain w) (block_same s t a b d' ∙ parts_begun d) (λ u. u)
        (block_parts g ds base m a c b Plain k w d' refl (λ ds' base' d2 both. finalizer_quiet s K (ds' ++ g.site.since) (opened Plain w).scopes))
    stmt_parts g ds base env a c p (If' _ arms last) k w d =
        let d' = begun d in
        let e = arms_passed s t a arms d' in
        let made = arms_written s t a arms d' in
        let rest = last_written s t a last e in
        of_made s t K g ds base p (kernel.If made rest) (AllOf (ArmHeld K g.site) made × BlockHeld K g.site rest) w d (last_passed s t a last e) (arms_walked arms w >>= last_walked last)
        (last_same s t K a last e ∙ arms_same s t K a arms d' ∙ parts_begun d) (λ u. if_held K g.site made rest u.0 u.1)
        (made_then s t K g ds base (AllOf (ArmHeld K g.site) made) (BlockHeld K g.site rest) w d' e (last_passed s t a last e) (arms_walked arms w) (last_walked last) (arms_parts g ds base a c arms k.0 w d') (λ v. last_parts g ds base a c last k.1 v e))
    stmt_parts g ds base env a c p (stmt.Loop limit b) k w d =
        let d' = turns_passed limit (begun d) in
        let a' = in_loop d.node a in
        let made = block_written s t a' b d' in
        let e = block_passed s t a' b d' in
        of_made s t K g ds base p (kernel.Loop (turns_written limit (begun d)) made) (BlockHeld K g.site made) w d e (block_walked b Plain w) (block_same s t a' b d' ∙ turns_parts s t K limit (begun d) ∙ parts_begun d) (λ u. turns_held s t K g limit (begun d) made u)
        (draft_made s t K g ds base (BlockHeld K g.site made) w (begun d) d' e (block_walked b Plain w) (turns_step s t K g ds base limit w (begun d)) (block_parts g ds base (unmoved g) a' (in_loop_code d.node a g.site.code c) b Plain k w d' refl (in_plain s K g w)))
    stmt_parts g ds base env a c p (stmt.Range r) k w d = ranged_parts g ds base a c p r k w d
    stmt_parts g ds base env a c p (stmt.Every x target b) k w d = every_parts g ds base a c p x target b k w d
    stmt_parts g ds base env a c p (stmt.Watching target b) k w d =
        let d' = begun d in
        let f = target_awaited s t p None target in
        let inside = around_block 0 f d' in
        let first = block_of 0 f d' in
        let second = block_written s t a b inside in
        of_made s t K g ds base p (kernel.Par par.Or 0 (first ∷ second ∷ [])) ((⊤ → BlockHeld K g.site first) × BlockHeld K g.site second) w d (block_passed s t a b inside) (target_walked target w >>= block_walked b Plain)
        (block_same s t a b inside ∙ around_parts 0 f d' ∙ parts_begun d) (λ u. par_held K g.site par.Or 0 (first ∷ second ∷ []) (u.0 tt, (u.1, tt)))
        (made_then s t K g ds base (⊤ → BlockHeld K g.site first) (BlockHeld K g.site second) w d' inside (block_passed s t a b inside) (target_walked target w) (block_walked b Plain)
        (λ v e. bare_block s t K g ds base ⊤ f w v d' (target_decls s t p None target (draft.opened 0 d') ∙ opened_none s t 0 d') (target_parts s t K g [] base p None target w (draft.opened 0 d') v e))
        (λ v. block_parts g ds base (unmoved g) a c b Plain k v inside refl (in_plain s K g v)))
    stmt_parts g ds base env a c p (Par' kind' _ bs) k w d =
        let d' = hidden (par_hidden kind' (row_blocks bs)) (begun d) in
        let made = blocks_written s t a bs d' in
        of_made s t K g ds base p (kernel.Par kind' (par_slot kind' d.slot) made) (AllOf (BlockHeld K g.site) made) w d (blocks_passed s t a bs d') (blocks_walked bs w)
        (blocks_same s t K a bs d' ∙ parts_hid (par_hidden kind' (row_blocks bs)) (begun d) ∙ parts_begun d) (λ u. par_held K g.site kind' (par_slot kind' d.slot) made u)
        (draft_made s t K g ds base (AllOf (BlockHeld K g.site) made) w (begun d) d' (blocks_passed s t a bs d') (blocks_walked bs w) (hidden_step s t K g ds base (par_hidden kind' (row_blocks bs)) w (begun d)) (blocks_parts g ds base a c bs k w d'))
    stmt_parts g ds base env a c p (stmt.Async xs b) k w d =
        let d' = begun d in
        let inside = each name_passed xs d' in
        let m : Moved = record { place = InsideAsync; since = [] } in
        let made = block_written s t a b inside in
        let e = block_passed s t a b inside in
        let U = BlockHeld K (site_in InsideAsync [] g.site) made in
        of_made s t K g ds base p (kernel.Async made) U w d e (stmt_walked (stmt.Async xs b) w) (block_same s t a b inside ∙ parts_of d' inside (frame_each name_passed (λ x e. frame_used e) xs d') ∙ parts_begun d) (λ u. u)
        (always_then (λ (q : List ℕ × Walk). Listing s t K g ds base ([], w) d' q inside) (λ v. Made s t K g ds base w d' v e U) (walk.each name_listed xs ([], w)) (λ listed. block_walked b (Async listed.0) listed.1) (list_made s t K g ds base xs ([], w) d')
        (λ q one u h.
        let listed = subst (λ sc. AllOf (ListedIn sc) q.0) (sym one.scopes) (one.listed tt) in
        let two = block_parts g ds base m a c b (Async q.0) k q.1 inside refl (λ ds' base' d2 both. async_quiet s K (head_of ds' g) base' q.0 q.1 d2 (ds' ++ []) listed both) u h in
        record { step = step_then s K g ds base one.step two.step; so = λ fits begun both. two.so fits begun (one.step.both (two.step.fits fits) (two.step.begun begun) both) }))

    source_parts : (g : Ground) (ds : List KDecl) (base : ℕ) → View g ds base → (a : Around) → a.code ≡ g.site.code → (p : Pos) (into : Loc) (v : Source) → NoCodeInSource v → (w : Walk) (d : Draft) → PartsIf s t K g ds base (TargetOf s t K g v into w d) w d (source_walked v w) (source_written s t a p into v d)
    source_parts g ds base env a c p into (source.Value e) k w d = assigned_parts s t K g ds base p into e w d
    source_parts g ds base env a c p into (source.Wait x) k w d = await_parts s t K g ds base p (Some into) x w d
    source_parts g ds base env a c p into (source.Start x) k w d = spawned_parts s t K g ds base (Some into.slot) x w d
    source_parts g ds base env a c p into (source.Done b) k w d = do_parts g ds base env a c p (Some into) b k w d

    value_parts : (g : Ground) (ds : List KDecl) (base : ℕ) → View g ds base → (a : Around) → a.code ≡ g.site.code → (p : Pos) (into : Loc) (v : Held-Item-value) → NoCodeInValue v → value_broken v ≡ None → (w : Walk) (d : Draft) →
        PartsIf s t K g ds base (TargetNamed K (scope_of g.site) into) w d (value_walked v w) (value_written s t a p into v d)
    value_parts g ds base env a c p into Item-value-None' k none w d =
        of_made_if s t K g ds base (TargetNamed K (scope_of g.site) into) p _ ⊤ w d (begun d) (Ok w) (parts_begun d) (λ m u. (m, zero_held s t K g into p)) (still_made s t K g ds base ⊤ w (begun d) (begun d) (still s t K g ds base w (begun d)) tt)
    value_parts g ds base env a c p into (Item-value-Some' (source.Value e)) k none w d = assigned_parts s t K g ds base p into e w d
    value_parts g ds base env a c p into (Item-value-Some' (source.Wait x)) k none w d = await_parts s t K g ds base p (Some into) x w d
    value_parts g ds base env a c p into (Item-value-Some' (source.Start x)) k none w d = absurd (cc)
    value_parts g ds base env a c p into (Item-value-Some' (source.Done b)) k none w d = do_parts g ds base env a c p (Some into) b k w d

    do_parts : (g : Ground) (ds : List KDecl) (base : ℕ) → View g ds base → (a : Around) → a.code ≡ g.site.code → (p : Pos) (into : Option Loc) (made : Do) → NoCodeInDo made → (w : Walk) (d : Draft) →
        PartsIf s t K g ds base (MaybeTarget K (scope_of g.site) into) w d (do_walked made w) (do_written s t a p into made d)
    do_parts g ds base env a c p into (Do' l b) k w d =
        let d' = begun d in
        let a' = in_do l d.node a in
        let inside = draft.labelled l d.node d' in
        let made = block_written s t a' b inside in
        let e = block_passed s t a' b inside in
        of_made_if s t K g ds base (MaybeTarget K (scope_of g.site) into) p (kernel.Do into made) (BlockHeld K g.site made) w d (draft.unlabelled l e) (do_walked (Do' l b) w)
        (parts_of e (draft.unlabelled l e) (frame_unlabelled l e) ∙ block_same s t a' b inside ∙ parts_of d' inside (frame_labelled l d.node d') ∙ parts_begun d) (λ m u. (m, u))
        (do_gives s t K g ds base l d.node (BlockHeld K g.site made) w d' e (block_walked b Plain) (λ v. block_parts g ds base (unmoved g) a' (in_do_code l d.node a g.site.code c) b Plain k v inside refl (in_plain s K g v)))

    ranged_parts : (g : Ground) (ds : List KDecl) (base : ℕ) (a : Around) → a.code ≡ g.site.code → (p : Pos) (r : Range) → NoCodeInRange r → (w : Walk) (d : Draft) → Parts s t K g ds base w d (range_walked r w) (ranged s t a p r d)
    ranged_parts g ds base a c p (Range' x open_a low high open_b b) k w d =
        let d' = begun d in
        let a' = in_loop d.node a in
        let inside = range_passed low high d' in
        let made = block_written s t a' b inside in
        let e = block_passed s t a' b inside in
        let gl = loop_ground d'.slot g in
        let U = BlockHeld K gl.site made in
        let same = block_same s t a' b inside ∙ range_parts s t K low high d' in
        of_made s t K g ds base p (kernel.Loop (range_written s t open_a low high open_b d') made) (ExpHeld K g.site (exp_written s t low (range_hidden d')) × ExpHeld K g.site (exp_written s t high (exp_passed low (range_hidden d'))) × U) w d e
        (range_walked (Range' x open_a low high open_b b) w) (same ∙ parts_begun d) (λ u. range_held s t K g open_a low high open_b d' made u.0 u.1 u.2)
        (range_made s t K g ds base x low high w d' e U (block_walked b Plain) same (λ v. block_parts gl ds (d'.slot + 1) (unmoved gl) a' (in_loop_code d.node a g.site.code c) b Plain k v inside refl (in_plain s K gl v)))

    every_parts : (g : Ground) (ds : List KDecl) (base : ℕ) (a : Around) → a.code ≡ g.site.code → (p : Pos) (x : Option Ident) (target : Target) (b : Block) → NoCodeInBlock b → (w : Walk) (d : Draft) →
        Parts s t K g ds base w d (every_walked x target w >>= block_walked b Plain) (placed d.node p (kernel.Loop turns.Free (every_written s t a d.node p x target b (begun d))) (every_passed s t a d.node p x target b (begun d)))
    every_parts g ds base a c p x target (Block' _ list) k w d =
        let d' = begun d in
        let n = declared_in list in
        let start = draft.opened n d' in
        let a' = in_loop d.node a in
        let f : Draft → Draft = λ inside. nodes_written s t a' list (target_awaited s t p (if_variable s x inside) target (if_used x inside)) in
        let d2 = target_awaited s t p (if_variable s x start) target (if_used x start) in
        let D = (f start).parts.decls in
        let made = block_of n f d' in
        let runs = block_runs s t n _ _ f d' (every_wrote s t K a d.node p x target list k d') in
        of_made s t K g ds base p (kernel.Loop turns.Free made) (BlockHeld K g.site made) w d (around_block n f d') (every_walked x target w >>= block_walked (Block' _ list) Plain) (around_parts n f d' ∙ parts_begun d) (λ u. (tt, u))
        (λ z k'.
        let split = bind_ok s t (every_walked x target w) (block_walked (Block' _ list) Plain) z k' in
        let w1 = split.0 in
        let split' = bind_ok s t (nodes_walked list (opened Plain w1)) closed z split.2 in
        close_block s t K g (unmoved g) ds base n f Plain w w1 split'.0 z d' d2 refl runs (every_head s t K (head_of D g) D start.slot p x target w start w1 split.1) (every_head s t K g D base p x target w start w1 split.1).step
        (λ both. in_plain s K g w1 D start.slot d2 both) (λ held. held)
        (nodes_parts (inner (unmoved g) D g) D start.slot (new_view s t K g (unmoved g) n f d' runs) a' (in_loop_code d.node a g.site.code c) list k (opened Plain w1) d2 split'.0 split'.1) split'.2)

    pub block_parts : (g : Ground) (ds : List KDecl) (base : ℕ) (m : Moved) (a : Around) → a.code ≡ g.site.code → (b : Block) (border : Border) → NoCodeInBlock b → (w : Walk) (d : Draft) → is_body border ≡ false →
        ((ds' : List KDecl) (base' : ℕ) (d2 : Draft) → Both s K (head_of ds' g) base' w d2 → Quiet m.place (ds' ++ m.since) (opened border w).scopes) →
        Gives s t K g ds base w d (block_walked b border w) (block_passed s t a b d) (BlockHeld K (site_in m.place m.since g.site) (block_written s t a b d))
    block_parts g ds base m a c (Block' _ list) border k w d plain quiet =
        let n = declared_in list in
        let f = nodes_written s t a list in
        let start = draft.opened n d in
        let D = (f start).parts.decls in
        let runs = block_runs s t n _ _ f d (nodes_wrote s t a list k start) in
        block_gives s t K g m ds base n f border w d (nodes_walked list) plain runs (quiet D start.slot start) (λ v. nodes_parts (inner m D g) D start.slot (new_view s t K g m n f d runs) a c list k v start)

    last_parts : (g : Ground) (ds : List KDecl) (base : ℕ) (a : Around) → a.code ≡ g.site.code → (b : Held-Stmt-If-1) → NoCodeInLast b → (w : Walk) (d : Draft) → Gives s t K g ds base w d (last_walked b w) (last_passed s t a b d) (BlockHeld K g.site (last_written s t a b d))
    last_parts g ds base a c Stmt-If-1-None' k w d =
        let nothing : PartIf s t K g [] base ⊤ w (draft.opened 0 d) w (draft.opened 0 d) = record { step = still s t K g [] base w (draft.opened 0 d); sees = λ m a b c h. h } in
        let m = bare_block s t K g ds base ⊤ nothing_in w w d (opened_none s t 0 d) nothing in
        always_ok (λ v. Made s t K g ds base w d v (around_block 0 nothing_in d) (BlockHeld K g.site (block_of 0 nothing_in d))) w (record { step = m.step; so = λ f b o. m.so f b o tt })
    last_parts g ds base a c (Stmt-If-1-Some' b) k w d = block_parts g ds base (unmoved g) a c b Plain k w d refl (in_plain s K g w)

    pub nodes_parts : {n : _} (g : Ground) (ds : List KDecl) (base : ℕ) → View g ds base → (a : Around) → a.code ≡ g.site.code → (r : Row_of-Node n) → NoCodeInNodes r → (w : Walk) (d : Draft) → Parts s t K g ds base w d (nodes_walked r w) (nodes_written s t a r d)
    nodes_parts g ds base env a c end_of-Node k w d = always_ok (λ v. Part s t K g ds base w d v d) w (still_part s t K g ds base w d)
    nodes_parts g ds base env a c (more_of-Node p st rest) k w d =
        let e = stmt_written s t a p st d in
        parts_then s t K g ds base w d e (nodes_written s t a rest e) (stmt_walked st w) (nodes_walked rest) (stmt_parts g ds base env a c p st k.0 w d) (λ v. nodes_parts g ds base env a c rest k.1 v e)

    items_parts : {n : _} (g : Ground) (ds : List KDecl) (base : ℕ) → View g ds base → (a : Around) → a.code ≡ g.site.code → (p : Pos) (u : Ty) (r : Row_of-Item n) → NoCodeInItems r → (w : Walk) (d : Draft) → Parts s t K g ds base w d (items_walked r u w) (items_written s t a p u r d)
    items_parts g ds base env a c p u end_of-Item k w d = always_ok (λ v. Part s t K g ds base w d v d) w (still_part s t K g ds base w d)
    items_parts g ds base env a c p u (more_of-Item x v rest) k w d =
        let first = draft.declared (kind.Var u) x d in
        let e = value_written s t a p (own d.parts.slot u) v first in
        parts_then s t K g ds base w d e (items_written s t a p u rest e) (declared class.Var u (value_broken v) x w >>= value_walked v >>= shown x (fresh class.Var 0 w)) (items_walked rest u)
        (item_parts s t K g ds base env u (value_broken v) x w d e (value_walked v) (λ none y. value_parts g ds base env a c p (own d.parts.slot u) v k.0 none y first)) (λ y. items_parts g ds base env a c p u rest k.1 y e)

    arms_parts : {n : _} (g : Ground) (ds : List KDecl) (base : ℕ) (a : Around) → a.code ≡ g.site.code → (r : Row_of-Arm n) → NoCodeInArms r → (w : Walk) (d : Draft) → Gives s t K g ds base w d (arms_walked r w) (arms_passed s t a r d) (AllOf (ArmHeld K g.site) (arms_written s t a r d))
    arms_parts g ds base a c end_of-Arm k w d = still_made s t K g ds base ⊤ w d d (still s t K g ds base w d) tt
    arms_parts g ds base a c (more_of-Arm (Arm' x b) rest) k w d =
        let d' = exp_passed x d in
        let e = block_passed s t a b d' in
        let made = block_written s t a b d' in
        let C = ExpHeld K g.site (exp_written s t x d) in
        made_then s t K g ds base (C × BlockHeld K g.site made) (AllOf (ArmHeld K g.site) (arms_written s t a rest e)) w d e (arms_passed s t a rest e) (exp_walked x w >>= block_walked b Plain) (arms_walked rest)
        (made_then s t K g ds base C (BlockHeld K g.site made) w d d' e (exp_walked x w) (block_walked b Plain) (exp_made s t K g ds base x w d) (λ v. block_parts g ds base (unmoved g) a c b Plain k.0 v d' refl (in_plain s K g v))) (λ v. arms_parts g ds base a c rest k.1 v e)

    blocks_parts : {n : _} (g : Ground) (ds : List KDecl) (base : ℕ) (a : Around) → a.code ≡ g.site.code → (r : Row_of-Block n) → NoCodeInBlocks r → (w : Walk) (d : Draft) → Gives s t K g ds base w d (blocks_walked r w) (blocks_passed s t a r d) (AllOf (BlockHeld K g.site) (blocks_written s t a r d))
    blocks_parts g ds base a c end_of-Block k w d = still_made s t K g ds base ⊤ w d d (still s t K g ds base w d) tt
    blocks_parts g ds base a c (more_of-Block b rest) k w d =
        let e = block_passed s t a b d in
        made_then s t K g ds base (BlockHeld K g.site (block_written s t a b d)) (AllOf (BlockHeld K g.site) (blocks_written s t a rest e)) w d e (blocks_passed s t a rest e) (block_walked b Plain w) (blocks_walked rest)
        (block_parts g ds base (unmoved g) a c b Plain k.0 w d refl (in_plain s K g w)) (λ v. blocks_parts g ds base a c rest k.1 v e)
