-- Statements of the text: what they declare is set behind the declaration, and they name no slot but those that are shown.
use Rattle.std.proofs.Common.{◌≡◌, ◌≢◌, refl, Bool, true, ◌∙◌, ℕ, arith, List, [], ◌∷◌, ◌++◌, Option, Some, None, Result}
use Rattle.std.specs.Prelude.{⊤}
use Rattle.ceu_base.specs.declared.kinds.Ty.{Ty}
use Rattle.ceu_base.specs.declared.kinds.Pos.{Pos}
use Rattle.ceu_tree.specs.declared.source.Class.TheVariants as class
use Rattle.ceu_tree.specs.declared.source.Ident.{Ident}
use Rattle.ceu_tree.specs.declared.source.Target.{Target}
use Rattle.ceu_tree.specs.declared.source.Exp.{Exp}
use Rattle.ceu_tree.specs.declared.source.Source as source
use Rattle.ceu_tree.specs.declared.source.Source.{Source}
use Rattle.ceu_tree.specs.declared.source.Item.{Held-Item-value, Item-value-None', Item-value-Some'}
use Rattle.ceu_tree.specs.declared.source.Do.{Do, Do'}
use Rattle.ceu_tree.specs.declared.source.Block.{Block, Block', Row_of-Node, end_of-Node, more_of-Node}
use Rattle.ceu_tree.specs.declared.source.Arm.{Arm'}
use Rattle.ceu_tree.specs.declared.source.Range.{Range, Range'}
use Rattle.ceu_tree.specs.declared.source.Stmt as stmt
use Rattle.ceu_tree.specs.declared.source.Stmt.{Stmt, Vars', If', Par', Row_of-Item, end_of-Item, more_of-Item, Row_of-Arm, end_of-Arm, more_of-Arm, Row_of-Block, end_of-Block, more_of-Block, Held-Stmt-If-1, Stmt-If-1-None', Stmt-If-1-Some'}
use Rattle.ceu_tree.specs.declared.kernel.Loc.{Loc}
use Rattle.ceu_tree.specs.declared.kernel.KKind.TheVariants as kind
use Rattle.ceu_tree.specs.declared.kernel.KLoop.TheVariants as turns
use Rattle.ceu_tree.specs.declared.kernel.ParKind.TheVariants as par
use Rattle.ceu_tree.specs.declared.kernel.KBlock.{KBlock}
use Rattle.ceu_tree.specs.declared.kernel.KArm.{KArm}
use Rattle.ceu_tree.specs.declared.kernel.KStmt as kernel
use Rattle.ceu_tree.specs.declared.kernel.KStmt.{KStmt, Row_of-KArm, end_of-KArm, more_of-KArm, items-the_row-KArm, items_hidden-the_row-KArm-0, items_hidden-the_row-KBlock-1, Row_of-KBlock, end_of-KBlock, more_of-KBlock, items-the_row-KBlock}
use Rattle.ceu_scopes.specs.declared.known.Role.TheVariants as role
use Rattle.ceu_scopes.specs.declared.known.Scopes.{Scopes}
use Rattle.ceu_scopes.specs.declared.scope.Border.{Border}
use Rattle.ceu_scopes.specs.declared.scope.Border.TheVariants.{Plain, Async}
use Rattle.ceu_scopes.specs.declared.walk.Walk.{Walk}
use Rattle.ceu_scopes.specs.Walk.{Broken, ◌>>=◌, opened, closed, shown, fresh, is_body}
use Rattle.ceu_scopes.specs.Walk as walk
use Rattle.ceu_scopes.specs.Rules.{used, named, declared}
use Rattle.ceu_scopes.specs.Names.{exp_walked, target_walked, ident_declared, port_declared, value_broken, name_listed, target_assigned, every_walked, stmt_walked, source_walked, value_walked, do_walked, block_walked, last_walked, range_walked, items_walked, arms_walked, blocks_walked, nodes_walked}
use Rattle.ceu_types.specs.declared.typing.Types.{Types}
use Rattle.ceu_expand.specs.declared.around.Around.{Around}
use Rattle.ceu_expand.specs.declared.draft.Draft.{Draft}
use Rattle.ceu_expand.specs.Draft as draft
use Rattle.ceu_expand.specs.Draft.{in_loop, in_do, begun, hidden, placed, outside, written, block_of, around_block, standing, event_declared, input_declared, output_declared, own}
use Rattle.ceu_expand.specs.Lists.{each}
use Rattle.ceu_expand.specs.Uses as uses
use Rattle.ceu_expand.specs.Uses.{names_output, use_number, variable, if_variable, if_used}
use Rattle.ceu_expand.specs.Expressions.{exp_passed, exp_written}
use Rattle.ceu_expand.specs.Parts.{nothing_in, target_awaited, name_passed}
use Rattle.ceu_expand.specs.Expansion.{row_blocks, par_hidden, par_slot, turns_written, turns_passed, range_hidden, range_written, range_passed, declared_in, stmt_written, source_written, value_written, do_written, ranged, every_written, every_passed, block_written, block_passed, last_written, last_passed, nodes_written, items_written, arms_written, arms_passed, blocks_written, blocks_passed}
use Rattle.laws_kernel_shape.specs.Shaped.{AllOf}
use Rattle.laws_kernel_shape.proofs.Codes.{NoCode, NoCodeInSource, NoCodeInValue, NoCodeInDo, NoCodeInBlock, NoCodeInLast, NoCodeInRange, NoCodeInItems, NoCodeInArms, NoCodeInBlocks, NoCodeInNodes}
use Rattle.laws_kernel_shape.proofs.Steps.{Always, always_ok, always_then}
use Rattle.ceu_scopes.specs.Shown.{added}
use Rattle.laws_kernel_shape.proofs.Frames.{frame_used, frame_if_used, frame_labelled, frame_unlabelled, frame_each}
use Rattle.laws_kernel_shape.proofs.Inside.{wrote_same, wrote_then}
use Rattle.ceu_tree.specs.Mentions.{loc_names, own_names, maybe_loc, exp_names, stmt_names, block_names, arm_names, count_of}
use Rattle.laws_kernel_shape.proofs.Wrote.{nodes_wrote}
use Rattle.laws_kernel_shape.proofs.Parts.{target_wrote}
use Rattle.laws_kernel_names.proofs.Holding.{parts_of, parts_hid, parts_begun, around_parts, starts}
use Rattle.laws_kernel_names.proofs.Naming.{block_same}
use Rattle.laws_kernel_uses.proofs.Same.{turns_parts, last_same, arms_same, blocks_same, range_parts}
use Rattle.ceu_tree.specs.declared.source.Await.TheVariants as await
use Rattle.laws_kernel_names.proofs.Stepping.{Fits}
use Rattle.laws_kernel_uses.specs.Settled.{StmtSettled, BlockSettled, ArmSettled}
use Rattle.laws_kernel_uses.proofs.Absent.{count_both, count_left, count_right, count_once, loc_other, own_other}
use Rattle.laws_kernel_uses.proofs.Sets.{if_settled, par_settled, ArmAbsent, BlockAbsent, if_absent, par_absent}
use Rattle.laws_kernel_uses.proofs.Knowing.{Knows, Step, step_then, still, Found, used_found, named_found, alias_found, slot_other, opened_step, closed_goes}
use Rattle.laws_kernel_uses.proofs.Passing.{no_names, Made, Gives, made_map, made_then, step_made, made_step, calm_made, draft_made, variable_other, exp_made}
use Rattle.laws_kernel_uses.proofs.Parts.{Puts, PutsBy, hidden_step, put, step_puts, Part, PartBy, part_then, parts_then, puts_part, plain_part, same_part, decl_part}
use Rattle.laws_kernel_uses.proofs.SettledSingle.{slot_of, loc_target, target_is, target_first, simple_part, zeroed_put, assigned_put, emitted_part, escaped_part, killed_part, target_put, spawned_put, pool_part, alias_part, each_part, event_part, input_part, output_part}
use Rattle.laws_kernel_uses.proofs.SettledBlocks.{bind_ok, opened_own, end_block, block_gives, empty_block, do_gives, await_put}
use Rattle.laws_kernel_uses.proofs.SettledRanges.{range_made}
use Rattle.laws_kernel_uses.proofs.Waiting.{Ends, SourceEnds, ValueEnds, DoEnds, BlockEnds, LastEnds, RangeEnds, ItemsEnd, ArmsEnd, BlocksEnd, NodesEnd}

module _ (T : List (List ℕ)) where
  -- ---- lists of arms and blocks

  abbrev arms_list : Bool → List KArm → List ℕ
  arms_list own [] = []
  arms_list own (a ∷ arms) = arm_names own T a ++ arms_list own arms

  abbrev blocks_list : Bool → List KBlock → List ℕ
  blocks_list own [] = []
  blocks_list own (b ∷ bs) = block_names own T b ++ blocks_list own bs

  arms_all : (own : Bool) (n : ℕ) (arms : List KArm) → count_of n (arms_list own arms) ≡ 0 → AllOf (ArmAbsent T own n) arms
  arms_all own n [] h = tt
  arms_all own n (a ∷ arms) h = (count_left n (arm_names own T a) (arms_list own arms) h, arms_all own n arms (count_right n (arm_names own T a) (arms_list own arms) h))

  blocks_all : (own : Bool) (n : ℕ) (bs : List KBlock) → count_of n (blocks_list own bs) ≡ 0 → AllOf (BlockAbsent T own n) bs
  blocks_all own n [] h = tt
  blocks_all own n (b ∷ bs) h = (count_left n (block_names own T b) (blocks_list own bs) h, blocks_all own n bs (count_right n (block_names own T b) (blocks_list own bs) h))

  watching_count : (own : Bool) (n : ℕ) (first second : KBlock) → count_of n (block_names own T first ++ block_names own T second) ≡ 0 → count_of n (blocks_list own (first ∷ second ∷ [])) ≡ 0
  watching_count own n first second h =
      count_both n (block_names own T first) (block_names own T second ++ []) (count_left n (block_names own T first) (block_names own T second) h)
      (count_both n (block_names own T second) [] (count_right n (block_names own T first) (block_names own T second) h) refl)

  if_count : (own : Bool) (n : ℕ) (arms : List KArm) (last : KBlock) → count_of n (arms_list own arms ++ block_names own T last) ≡ 0 → count_of n (stmt_names own T (kernel.If arms last)) ≡ 0
  if_count own n arms last h =
      if_absent T own n arms last (arms_all own n arms (count_left n (arms_list own arms) (block_names own T last) h)) (count_right n (arms_list own arms) (block_names own T last) h)

  par_count : (own : Bool) (n : ℕ) (k : _) (slot : ℕ) (bs : List KBlock) → count_of n (blocks_list own bs) ≡ 0 → count_of n (stmt_names own T (kernel.Par k slot bs)) ≡ 0
  par_count own n k slot bs h = par_absent T own n k slot bs (blocks_all own n bs h)

  -- ---- what the value of a variable names besides

  abbrev source_target : Loc → Source → Bool → List ℕ
  source_target into (source.Start x) own = own_names own T into.slot
  source_target into v own = loc_names own T into

  abbrev value_target : Loc → Held-Item-value → Bool → List ℕ
  value_target into Item-value-None' own = loc_names own T into
  value_target into (Item-value-Some' v) own = source_target into v own

  source_other : (into : Loc) (v : Source) (n : ℕ) (own : Bool) → into.slot ≢ n → count_of n (source_target into v own) ≡ 0
  source_other into (source.Start x) n own h = own_other T n own into.slot h
  source_other into (source.Value x) n own h = loc_other T n own into h
  source_other into (source.Wait x) n own h = loc_other T n own into h
  source_other into (source.Done x) n own h = loc_other T n own into h

  value_other : (into : Loc) (v : Held-Item-value) (n : ℕ) (own : Bool) → into.slot ≢ n → count_of n (value_target into v own) ≡ 0
  value_other into Item-value-None' n own h = loc_other T n own into h
  value_other into (Item-value-Some' v) n own h = source_other into v n own h

  value_once : (into : Loc) (v : Held-Item-value) → count_of into.slot (value_target into v true) ≡ 1
  value_once into Item-value-None' = count_once into.slot
  value_once into (Item-value-Some' (source.Start x)) = count_once into.slot
  value_once into (Item-value-Some' (source.Value x)) = count_once into.slot
  value_once into (Item-value-Some' (source.Wait x)) = count_once into.slot
  value_once into (Item-value-Some' (source.Done x)) = count_once into.slot

  module _ (s : Scopes) (t : Types) where
    turns_step : (n : Option ℕ) (w : Walk) (d : Draft) → Step T s w d w (turns_passed n d)
    unfolding turns_passed
    turns_step None w d = still T s w d
    turns_step (Some n) w d = hidden_step T s 1 w d

    turns_count : (own : Bool) (n : ℕ) (limit : Option ℕ) (d : Draft) (b : KBlock) → count_of n (stmt_names own T (kernel.Loop (turns_written limit d) b)) ≡ count_of n (block_names own T b)
    unfolding turns_written stmt_names
    turns_count own n None d b = refl
    turns_count own n (Some k) d b = refl

    range_count : (own : Bool) (n : ℕ) (open_a : _) (low high : Exp) (open_b : _) (d : Draft) (b : KBlock) →
        count_of n ((exp_names own T (exp_written s t low (range_hidden d)) ++ exp_names own T (exp_written s t high (exp_passed low (range_hidden d)))) ++ block_names own T b) ≡ 0 →
        count_of n (stmt_names own T (kernel.Loop (range_written s t open_a low high open_b d) b)) ≡ 0
    unfolding range_written stmt_names
    range_count own n open_a low high open_b d b h = h

    list_step : (xs : List Ident) (p : List ℕ × Walk) (d : Draft) → Always (λ (q : List ℕ × Walk). Step T s p.1 d q.1 (each name_passed xs d)) (walk.each name_listed xs p)
    unfolding each walk.each
    list_step [] p d = always_ok (λ (q : List ℕ × Walk). Step T s p.1 d q.1 d) p (still T s p.1 d)
    list_step (x ∷ xs) p d =
        always_then (λ (q : List ℕ × Walk). Step T s p.1 d q.1 (uses.used d)) (λ (q : List ℕ × Walk). Step T s p.1 d q.1 (each name_passed xs (uses.used d))) (name_listed x p) (walk.each name_listed xs)
        (always_then (λ q. Found T s role.Listed p.1 d q.0 q.1) (λ (q : List ℕ × Walk). Step T s p.1 d q.1 (uses.used d)) (used role.Listed x p.1) _ (used_found T s role.Listed x p.1 d)
        (λ q k. always_ok (λ (q : List ℕ × Walk). Step T s p.1 d q.1 (uses.used d)) (added p.0 q.0.number, q.1) k.step))
        (λ q k r e. step_then T s k (list_step xs q (uses.used d) r e))

    -- what is assigned is another slot than those that aren't shown
    record Assigned (w : Walk) (d : Draft) (u : Walk) : Type 0 where
      step : Step T s w d u (uses.used d)
      other : Fits s u → (n : ℕ) → Knows T n w d → use_number s d ≢ n

    written_found : (x : Ident) (w : Walk) (d : Draft) → Always (λ u. Assigned w d u) (named role.Written x w)
    written_found x w d u e = let f = named_found T s role.Written x w d u e in record { step = f.1.step; other = slot_other T s role.Written w u d f.0 refl f.1 }

    assign_found : (v : Source) (x : Ident) (w : Walk) (d : Draft) → Always (λ u. Assigned w d u) (target_assigned v x w)
    assign_found (source.Start sp) x w d = λ u e. let f = alias_found T s sp x w d u e in record { step = f.1.step; other = slot_other T s role.Alias w u d f.0 refl f.1 }
    assign_found (source.Value y) x w d = written_found x w d
    assign_found (source.Wait y) x w d = written_found x w d
    assign_found (source.Done y) x w d = written_found x w d

    assigned_part : (x : Ident) (slot : Option ℕ) (target : Bool → List ℕ) (w u z : Walk) (d e : Draft) → ((n : ℕ) (own : Bool) → (variable s x d).slot ≢ n → count_of n (target own) ≡ 0) → Assigned w d u → Puts T s u (uses.used d) z e slot target → Part T s w d z e
    assigned_part x slot target w u z d e other a h =
        puts_part T s slot target (step_puts T s slot target a.step (parts_of d (uses.used d) (frame_used d)) h) (λ fits n o k own. other n own (variable_other T s t x d n (a.other (h.step.fits fits) n k)))

    -- ---- the slots of a block's declarations are all taken behind it

    nodes_full : {n : _} (a : Around) (list : Row_of-Node n) → NoCodeInNodes list → (d : Draft) → let start = draft.opened (declared_in list) d in (nodes_written s t a list start).parts.slot ≡ start.slot
    nodes_full a list k d =
        let n = declared_in list in
        let start = draft.opened n d in
        let wrote = (nodes_wrote s t a list k start).slot_is in
        let own = opened_own T n d in
        let slot = (starts n d).slot in
        omega (arith, wrote, own, slot)

    every_full : {n : _} (a : Around) (loop : ℕ) (p : Pos) (x : Option Ident) (target : Target) (list : Row_of-Node n) → NoCodeInNodes list → (d : Draft) →
        let start = draft.opened (declared_in list) d in (nodes_written s t (in_loop loop a) list (target_awaited s t p (if_variable s x start) target (if_used x start))).parts.slot ≡ start.slot
    every_full a loop p x target list k d =
        let n = declared_in list in
        let start = draft.opened n d in
        let first = target_awaited s t p (if_variable s x start) target (if_used x start) in
        let head = (wrote_then (wrote_same start (if_used x start) (frame_if_used x start)) (target_wrote s t p (if_variable s x start) target (if_used x start))).slot_is in
        let wrote = (nodes_wrote s t (in_loop loop a) list k first).slot_is in
        let own = opened_own T n d in
        let slot = (starts n d).slot in
        omega (arith, head, wrote, own, slot)

    -- ---- the parts of statements

    target_own : (p : Pos) (target : Target) (d : Draft) → (target_awaited s t p None target d).parts.slot ≡ d.parts.slot
    target_own p target d = let h = (target_wrote s t p None target d).slot_is in omega (arith, h)

    target_full : (p : Pos) (target : Target) (d : Draft) → (target_awaited s t p None target (draft.opened 0 d)).parts.slot ≡ (draft.opened 0 d).slot
    target_full p target d =
        let own = target_own p target (draft.opened 0 d) in
        let first = opened_own T 0 d in
        let slot = (starts 0 d).slot in
        omega (arith, own, first, slot)

    every_head : (p : Pos) (x : Option Ident) (target : Target) (w : Walk) (d : Draft) → PartBy T s w d (every_walked x target w) (target_awaited s t p (if_variable s x d) target (if_used x d))
    every_head p None target w d v e = puts_part T s None (loc_target T None) (target_put T s t p None target w d v e) (λ fits n o k own. refl)
    every_head p (Some x) target w d v e =
        let split = bind_ok (named role.Written x w) (target_walked target) v e in
        let into : Option Loc = Some (variable s x d) in
        assigned_part x (slot_of into) (loc_target T into) w split.0 v d _ (λ n own other. loc_other T n own (variable s x d) other) (written_found x w d split.0 split.1) (target_put T s t p into target split.0 (uses.used d) v split.2)

    -- a statement that holds blocks
    holds_part : (p : Pos) (st : KStmt) (xs : Bool → List ℕ) (S : Type 0) (w : Walk) (d c : Draft) (x : Result Walk Broken) → c.parts ≡ d.parts → ((n : ℕ) (own : Bool) → count_of n (xs own) ≡ 0 → count_of n (stmt_names own T st) ≡ 0) → (S → StmtSettled T st) → Gives T s w (begun d) x c xs S →
        PartBy T s w d x (placed d.node p st c)
    holds_part p st xs S w d c x same count stands h = plain_part T s w d _ x (put T s p st xs S None no_names w d c x same (λ m e. absurd (cc)) count stands h)

    mutual
      unfolding NoCode Ends stmt_walked stmt_written stmt_names StmtSettled

      pub stmt_part : (a : Around) (p : Pos) (st : Stmt) → NoCode st → Ends st → (w : Walk) (d : Draft) → PartBy T s w d (stmt_walked st w) (stmt_written s t a p st d)
      stmt_part a p stmt.Nothing k i w d = simple_part T s t p kernel.Nothing w d (λ n own. refl) tt
      stmt_part a p stmt.Break k i w d = simple_part T s t p (kernel.Break a.turns) w d (λ n own. refl) tt
      stmt_part a p stmt.Continue k i w d = simple_part T s t p (kernel.Continue a.turns) w d (λ n own. refl) tt
      stmt_part a p (Vars' u _ items) k i w d = items_part a p u items k i w d
      stmt_part a p (stmt.AliasDecl code x start) k i w d = alias_part T s t p code x start w d
      stmt_part a p (stmt.Events u xs) k i w d = each_part T s t (ident_declared class.Event u None) (event_declared a.code u) (event_part T s t a.code u) xs w d
      stmt_part a p (stmt.Inputs u xs) k i w d = each_part T s t (port_declared class.Input u) (input_declared u) (input_part T s t u) xs w d
      stmt_part a p (stmt.Outputs u xs) k i w d = each_part T s t (port_declared class.Output u) (output_declared u) (output_part T s t u) xs w d
      stmt_part a p (stmt.Pool n code x) k i w d = pool_part T s t n code x w d
      stmt_part a p (stmt.Code x ps result b) k i w d = absurd k
      stmt_part a p (stmt.Assign x v) k i w d = λ z e.
          let split = bind_ok (target_assigned v x w) (source_walked v) z e in
          let into = variable s x d in
          assigned_part x (Some into.slot) (source_target into v) w split.0 z d _ (λ n own other. source_other into v n own other) (assign_found v x w d split.0 split.1) (source_put a p into v k i split.0 (uses.used d) z split.2)
      stmt_part a p (stmt.Emit x e) k i w d = emitted_part T s t p x e w d
      stmt_part a p (stmt.Await x) k i w d = λ v e. puts_part T s None (loc_target T None) (await_put T s t p None x tt w d v e) (λ fits n o k own. refl)
      stmt_part a p (stmt.Spawn x) k i w d = plain_part T s w d _ _ (spawned_put T s t None x w d)
      stmt_part a p (stmt.Kill x) k i w d = killed_part T s t p x w d
      stmt_part a p (stmt.Escape l e) k i w d = escaped_part T s t a p l e w d
      stmt_part a p (stmt.Do b) k i w d = λ v e. puts_part T s None (loc_target T None) (do_put a p None b k i w d v e) (λ fits n o k own. refl)
      stmt_part a p (stmt.Finalize b) k i w d =
          let made = block_written s t a b (begun d) in
          holds_part p (kernel.Finalize made) (λ own. block_names own T (block_written s t a b (begun d))) (BlockSettled T made) w d (block_passed s t a b (begun d)) (block_walked b Plain w) (block_same s t a b (begun d) ∙ parts_begun d) (λ n own u. u) (λ u. u) (block_made a b Plain k i w (begun d))
      stmt_part a p (If' _ arms last) k i w d =
          let d' = begun d in
          let e = arms_passed s t a arms d' in
          let made = arms_written s t a arms d' in
          let rest = last_written s t a last e in
          let xs : Bool → List ℕ = λ own. arms_list own made in
          let ys : Bool → List ℕ = λ own. block_names own T rest in
          holds_part p (kernel.If made rest) (λ own. arms_list own (arms_written s t a arms (begun d)) ++ block_names own T (last_written s t a last (arms_passed s t a arms (begun d)))) (AllOf (ArmSettled T) made × BlockSettled T rest) w d (last_passed s t a last e) (arms_walked arms w >>= last_walked last)
          (last_same s t a last e ∙ arms_same s t a arms d' ∙ parts_begun d) (λ n own u. if_count own n made rest u) (λ u. if_settled T made rest u.0 u.1)
          (made_then T s xs ys (AllOf (ArmSettled T) made) (BlockSettled T rest) w d' e (last_passed s t a last e) (arms_walked arms w) (last_walked last) (arms_made a arms k.0 i.0 w d') (λ v. last_made a last k.1 i.1 v e))
      stmt_part a p (stmt.Loop limit b) k i w d =
          let c = turns_passed limit (begun d) in
          let made = block_written s t (in_loop d.node a) b c in
          let e = block_passed s t (in_loop d.node a) b c in
          let xs : Bool → List ℕ = λ own. block_names own T made in
          holds_part p (kernel.Loop (turns_written limit (begun d)) made) xs (BlockSettled T made) w d e (block_walked b Plain w) (block_same s t (in_loop d.node a) b c ∙ turns_parts limit (begun d) ∙ parts_begun d) (λ n own u. turns_count own n limit (begun d) made ∙ u) (λ u. u)
          (draft_made T s xs (BlockSettled T made) w (begun d) c e (block_walked b Plain w) (turns_step limit w (begun d)) (block_made (in_loop d.node a) b Plain k i w c))
      stmt_part a p (stmt.Range r) k i w d = ranged_part a p r k i w d
      stmt_part a p (stmt.Every x target b) k i w d = every_part a p x target b k i w d
      stmt_part a p (stmt.Watching target b) k i w d =
          let d' = begun d in
          let f = target_awaited s t p None target in
          let inside = around_block 0 f d' in
          let first = block_of 0 f d' in
          let second = block_written s t a b inside in
          let xs : Bool → List ℕ = λ own. block_names own T first in
          let ys : Bool → List ℕ = λ own. block_names own T second in
          holds_part p (kernel.Par par.Or 0 (first ∷ second ∷ [])) (λ own. block_names own T (block_of 0 (target_awaited s t p None target) (begun d)) ++ block_names own T (block_written s t a b (around_block 0 (target_awaited s t p None target) (begun d)))) (BlockSettled T first × BlockSettled T second) w d (block_passed s t a b inside) (target_walked target w >>= block_walked b Plain)
          (block_same s t a b inside ∙ around_parts 0 f d' ∙ parts_begun d)
          (λ n own u. par_count own n par.Or 0 (first ∷ second ∷ []) (watching_count own n first second u)) (λ u. par_settled T par.Or 0 (first ∷ second ∷ []) (u.0, (u.1, tt)))
          (made_then T s xs ys (BlockSettled T first) (BlockSettled T second) w d' inside (block_passed s t a b inside) (target_walked target w) (block_walked b Plain)
          (λ v e. end_block T s 0 f w v d' (target_full p target d') (puts_part T s None (loc_target T None) (target_put T s t p None target w (draft.opened 0 d') v e) (λ fits n o k own. refl)))
          (λ v. block_made a b Plain k i v inside))
      stmt_part a p (Par' kind' _ bs) k i w d =
          let c = hidden (par_hidden kind' (row_blocks bs)) (begun d) in
          let made = blocks_written s t a bs c in
          let xs : Bool → List ℕ = λ own. blocks_list own made in
          holds_part p (kernel.Par kind' (par_slot kind' d.slot) made) xs (AllOf (BlockSettled T) made) w d (blocks_passed s t a bs c) (blocks_walked bs w) (blocks_same s t a bs c ∙ parts_hid (par_hidden kind' (row_blocks bs)) (begun d) ∙ parts_begun d)
          (λ n own u. par_count own n kind' (par_slot kind' d.slot) made u) (λ u. par_settled T kind' (par_slot kind' d.slot) made u)
          (draft_made T s xs (AllOf (BlockSettled T) made) w (begun d) c (blocks_passed s t a bs c) (blocks_walked bs w) (hidden_step T s (par_hidden kind' (row_blocks bs)) w (begun d)) (blocks_made a bs k i w c))
      stmt_part a p (stmt.Async xs b) k i w d =
          let d' = begun d in
          let inside = each name_passed xs d' in
          let made = block_written s t a b inside in
          let e = block_passed s t a b inside in
          let ys : Bool → List ℕ = λ own. block_names own T made in
          holds_part p (kernel.Async made) ys (BlockSettled T made) w d e (stmt_walked (stmt.Async xs b) w) (block_same s t a b inside ∙ parts_of d' inside (frame_each name_passed (λ x e. frame_used e) xs d') ∙ parts_begun d) (λ n own u. u) (λ u. u)
          (always_then (λ (q : List ℕ × Walk). Step T s w d' q.1 inside) (λ v. Made T s w d' v e ys (BlockSettled T made)) (walk.each name_listed xs ([], w)) (λ listed. block_walked b (Async listed.0) listed.1) (list_step xs ([], w) d')
          (λ q step u h. step_made T s ys (BlockSettled T made) step (block_made a b (Async q.0) k i q.1 inside u h)))

      source_put : (a : Around) (p : Pos) (into : Loc) (v : Source) → NoCodeInSource v → SourceEnds v → (w : Walk) (d : Draft) → PutsBy T s w d (source_walked v w) (source_written s t a p into v d) (Some into.slot) (source_target into v)
      source_put a p into (source.Value e) k i w d = assigned_put T s t p into e w d
      source_put a p into (source.Wait await.Forever) k i w d = absurd i
      source_put a p into (source.Wait (await.Code c)) k i w d = await_put T s t p (Some into) (await.Code c) tt w d
      source_put a p into (source.Wait (await.On x until)) k i w d = await_put T s t p (Some into) (await.On x until) tt w d
      source_put a p into (source.Start x) k i w d = spawned_put T s t (Some into.slot) x w d
      source_put a p into (source.Done b) k i w d = do_put a p (Some into) b k i w d

      value_put : (a : Around) (p : Pos) (into : Loc) (v : Held-Item-value) → NoCodeInValue v → ValueEnds v → (w : Walk) (d : Draft) → PutsBy T s w d (value_walked v w) (value_written s t a p into v d) (Some into.slot) (value_target into v)
      value_put a p into Item-value-None' k i w d = zeroed_put T s t p into w d
      value_put a p into (Item-value-Some' v) k i w d = source_put a p into v k i w d

      do_put : (a : Around) (p : Pos) (into : Option Loc) (made : Do) → NoCodeInDo made → DoEnds made → (w : Walk) (d : Draft) → PutsBy T s w d (do_walked made w) (do_written s t a p into made d) (slot_of into) (loc_target T into)
      do_put a p into (Do' l b) k i w d =
          let d' = begun d in
          let inside = draft.labelled l d.node d' in
          let made = block_written s t (in_do l d.node a) b inside in
          let c = block_passed s t (in_do l d.node a) b inside in
          let xs : Bool → List ℕ = λ own. block_names own T made in
          put T s p (kernel.Do into made) xs (BlockSettled T made) (slot_of into) (loc_target T into) w d (draft.unlabelled l c) (do_walked (Do' l b) w)
          (parts_of c (draft.unlabelled l c) (frame_unlabelled l c) ∙ block_same s t (in_do l d.node a) b inside ∙ parts_of d' inside (frame_labelled l d.node d') ∙ parts_begun d) (target_is T into)
          (λ n own u. target_first T n (maybe_loc own T into) (block_names own T made) u) (λ u. u)
          (do_gives T s l d.node xs (BlockSettled T made) w d' c (block_walked b Plain) (λ v. block_made (in_do l d.node a) b Plain k i v inside))

      ranged_part : (a : Around) (p : Pos) (r : Range) → NoCodeInRange r → RangeEnds r → (w : Walk) (d : Draft) → PartBy T s w d (range_walked r w) (ranged s t a p r d)
      ranged_part a p (Range' x open_a low high open_b b) k i w d =
          let d' = begun d in
          let inside = range_passed low high d' in
          let made = block_written s t (in_loop d.node a) b inside in
          let e = block_passed s t (in_loop d.node a) b inside in
          let zs : Bool → List ℕ = λ own. block_names own T made in
          holds_part p (kernel.Loop (range_written s t open_a low high open_b d') made) (λ own. (exp_names own T (exp_written s t low (range_hidden (begun d))) ++ exp_names own T (exp_written s t high (exp_passed low (range_hidden (begun d))))) ++ block_names own T (block_written s t (in_loop d.node a) b (range_passed low high (begun d)))) ((⊤ × ⊤) × BlockSettled T made) w d e
          (range_walked (Range' x open_a low high open_b b) w) (block_same s t (in_loop d.node a) b inside ∙ range_parts low high d' ∙ parts_begun d) (λ n own u. range_count own n open_a low high open_b d' made u) (λ u. u.1)
          (range_made T s t x low high zs (BlockSettled T made) w d' e (block_walked b Plain) (λ v. block_made (in_loop d.node a) b Plain k i v inside))

      every_part : (a : Around) (p : Pos) (x : Option Ident) (target : Target) (b : Block) → NoCodeInBlock b → BlockEnds b → (w : Walk) (d : Draft) →
          PartBy T s w d (every_walked x target w >>= block_walked b Plain) (placed d.node p (kernel.Loop turns.Free (every_written s t a d.node p x target b (begun d))) (every_passed s t a d.node p x target b (begun d)))
      every_part a p x target (Block' _ list) k i w d =
          let d' = begun d in
          let n = declared_in list in
          let start = draft.opened n d' in
          let f : Draft → Draft = λ inside. nodes_written s t (in_loop d.node a) list (target_awaited s t p (if_variable s x inside) target (if_used x inside)) in
          let d2 = target_awaited s t p (if_variable s x start) target (if_used x start) in
          let made = block_of n f d' in
          let xs : Bool → List ℕ = λ own. block_names own T made in
          holds_part p (kernel.Loop turns.Free made) xs (BlockSettled T made) w d (around_block n f d') (every_walked x target w >>= block_walked (Block' _ list) Plain) (around_parts n f d' ∙ parts_begun d) (λ n own u. u) (λ u. u)
          (λ z e.
          let one = bind_ok (every_walked x target w) (block_walked (Block' _ list) Plain) z e in
          let w1 = one.0 in
          let two = bind_ok (nodes_walked list (opened Plain w1)) closed z one.2 in
          let head = every_head p x target w start w1 one.1 in
          let enter = same_part T s refl (opened_step T s Plain w1 d2) in
          let rest = nodes_part (in_loop d.node a) list k i (opened Plain w1) d2 two.0 two.1 in
          made_step T s xs (BlockSettled T made) (end_block T s n f w two.0 d' (every_full a d.node p x target list k d') (part_then T s head (part_then T s enter rest))) (closed_goes T s two.0 (around_block n f d') z two.2))

      pub block_made : (a : Around) (b : Block) (border : Border) → NoCodeInBlock b → BlockEnds b → (w : Walk) (d : Draft) → Gives T s w d (block_walked b border w) (block_passed s t a b d) (λ own. block_names own T (block_written s t a b d)) (BlockSettled T (block_written s t a b d))
      block_made a (Block' _ list) border k i w d =
          block_gives T s (declared_in list) (nodes_written s t a list) border w d (nodes_walked list) (nodes_full a list k d) (λ v. nodes_part a list k i v (draft.opened (declared_in list) d))

      last_made : (a : Around) (b : Held-Stmt-If-1) → NoCodeInLast b → LastEnds b → (w : Walk) (d : Draft) → Gives T s w d (last_walked b w) (last_passed s t a b d) (λ own. block_names own T (last_written s t a b d)) (BlockSettled T (last_written s t a b d))
      last_made a Stmt-If-1-None' k i w d =
          always_ok (λ v. Made T s w d v (around_block 0 nothing_in d) (λ own. block_names own T (block_of 0 nothing_in d)) (BlockSettled T (block_of 0 nothing_in d))) w (empty_block T s w d)
      last_made a (Stmt-If-1-Some' b) k i w d = block_made a b Plain k i w d

      pub nodes_part : {n : _} (a : Around) (r : Row_of-Node n) → NoCodeInNodes r → NodesEnd r → (w : Walk) (d : Draft) → PartBy T s w d (nodes_walked r w) (nodes_written s t a r d)
      nodes_part a end_of-Node k i w d = always_ok (λ v. Part T s w d v d) w (same_part T s refl (still T s w d))
      nodes_part a (more_of-Node p st rest) k i w d =
          let e = stmt_written s t a p st d in
          parts_then T s w d e (nodes_written s t a rest e) (stmt_walked st w) (nodes_walked rest) (stmt_part a p st k.0 i.0 w d) (λ v. nodes_part a rest k.1 i.1 v e)

      items_part : {n : _} (a : Around) (p : Pos) (u : Ty) (r : Row_of-Item n) → NoCodeInItems r → ItemsEnd r → (w : Walk) (d : Draft) → PartBy T s w d (items_walked r u w) (items_written s t a p u r d)
      items_part a p u end_of-Item k i w d = always_ok (λ v. Part T s w d v d) w (same_part T s refl (still T s w d))
      items_part a p u (more_of-Item x v rest) k i w d =
          let first = draft.declared (kind.Var u) x d in
          let into = own d.parts.slot u in
          let e = value_written s t a p into v first in
          parts_then T s w d e (items_written s t a p u rest e) (declared class.Var u (value_broken v) x w >>= value_walked v >>= shown x (fresh class.Var 0 w)) (items_walked rest u)
          (decl_part T s class.Var 0 u (value_broken v) (kind.Var u) x w d e (value_walked v) (value_target into v) refl (λ n own other. value_other into v n own other) (value_once into v) (λ y. value_put a p into v k.0 i.0 y first)) (λ y. items_part a p u rest k.1 i.1 y e)

      arms_made : {n : _} (a : Around) (r : Row_of-Arm n) → NoCodeInArms r → ArmsEnd r → (w : Walk) (d : Draft) → Gives T s w d (arms_walked r w) (arms_passed s t a r d) (λ own. arms_list own (arms_written s t a r d)) (AllOf (ArmSettled T) (arms_written s t a r d))
      arms_made a end_of-Arm k i w d = calm_made T s w d d (still T s w d)
      arms_made a (more_of-Arm (Arm' c b) rest) k i w d =
          let d' = exp_passed c d in
          let e = block_passed s t a b d' in
          let made = block_written s t a b d' in
          let cs : Bool → List ℕ = λ own. exp_names own T (exp_written s t c d) in
          let bs : Bool → List ℕ = λ own. block_names own T made in
          let ms : Bool → List ℕ = λ own. exp_names own T (exp_written s t c d) ++ block_names own T made in
          let rs : Bool → List ℕ = λ own. arms_list own (arms_written s t a rest e) in
          let R = AllOf (ArmSettled T) (arms_written s t a rest e) in
          made_map T s (λ own. (exp_names own T (exp_written s t c d) ++ block_names own T (block_written s t a b (exp_passed c d))) ++ arms_list own (arms_written s t a rest (block_passed s t a b (exp_passed c d)))) (λ own. arms_list own (arms_written s t a (more_of-Arm (Arm' c b) rest) d)) ((⊤ × BlockSettled T made) × R) (AllOf (ArmSettled T) (arms_written s t a (more_of-Arm (Arm' c b) rest) d)) w d (arms_passed s t a rest e) (arms_walked (more_of-Arm (Arm' c b) rest) w) (λ n own u. u) (λ u. (u.0.1, u.1))
          (made_then T s ms rs (⊤ × BlockSettled T made) R w d e (arms_passed s t a rest e) (exp_walked c w >>= block_walked b Plain) (arms_walked rest)
          (made_then T s cs bs ⊤ (BlockSettled T made) w d d' e (exp_walked c w) (block_walked b Plain) (exp_made T s t c w d) (λ v. block_made a b Plain k.0 i.0 v d')) (λ v. arms_made a rest k.1 i.1 v e))

      blocks_made : {n : _} (a : Around) (r : Row_of-Block n) → NoCodeInBlocks r → BlocksEnd r → (w : Walk) (d : Draft) → Gives T s w d (blocks_walked r w) (blocks_passed s t a r d) (λ own. blocks_list own (blocks_written s t a r d)) (AllOf (BlockSettled T) (blocks_written s t a r d))
      blocks_made a end_of-Block k i w d = calm_made T s w d d (still T s w d)
      blocks_made a (more_of-Block b rest) k i w d =
          let e = block_passed s t a b d in
          let xs : Bool → List ℕ = λ own. block_names own T (block_written s t a b d) in
          let ys : Bool → List ℕ = λ own. blocks_list own (blocks_written s t a rest e) in
          made_then T s xs ys (BlockSettled T (block_written s t a b d)) (AllOf (BlockSettled T) (blocks_written s t a rest e)) w d e (blocks_passed s t a rest e) (block_walked b Plain w) (blocks_walked rest) (block_made a b Plain k.0 i.0 w d) (λ v. blocks_made a rest k.1 i.1 v e)
