-- Each statement of a text that breaks no rule on types has in the kernel what it needs around it.
use Rattle.std.proofs.Common.{◌≡◌, refl, sym, ap, ◌∙◌, subst, ℕ, length, arith, List, [], ◌∷◌, ◌++◌, Option, Some, None, Bool, true, false}
use Rattle.std.specs.Prelude.{IsTrue, not, if◌then◌else◌}
use Rattle.std.specs.List.{list_any}
use Rattle.ceu_base.specs.declared.kinds.Ty.{Ty}
use Rattle.ceu_base.specs.declared.kinds.Ty.TheVariants as ty
use Rattle.ceu_base.specs.declared.kinds.Pos.{Pos}
use Rattle.ceu_base.specs.declared.kinds.Rule.TheVariants.{T5, T6}
use Rattle.ceu_tree.specs.declared.source.Ident.{Ident}
use Rattle.ceu_tree.specs.declared.source.Label.{Label}
use Rattle.ceu_tree.specs.declared.source.Label.TheVariants as label
use Rattle.ceu_tree.specs.declared.source.Target.{Target}
use Rattle.ceu_tree.specs.declared.source.Exp.{Exp}
use Rattle.ceu_tree.specs.declared.source.Source as source
use Rattle.ceu_tree.specs.declared.source.Source.{Source}
use Rattle.ceu_tree.specs.declared.source.Item.{Held-Item-value, Item-value-None', Item-value-Some'}
use Rattle.ceu_tree.specs.declared.source.Do.{Do, Do'}
use Rattle.ceu_tree.specs.declared.source.Block.{Block, Block', Row_of-Node, end_of-Node, more_of-Node}
use Rattle.ceu_tree.specs.declared.source.Arm.{Arm'}
use Rattle.ceu_tree.specs.declared.source.Range.{Range, Range'}
use Rattle.ceu_tree.specs.declared.source.Stmt as stmt
use Rattle.ceu_tree.specs.declared.source.Stmt.{Stmt, Vars', If', Par', Row_of-Item, end_of-Item, more_of-Item, Row_of-Arm, end_of-Arm, more_of-Arm, Row_of-Block, end_of-Block, more_of-Block, Held-Stmt-If-1, Stmt-If-1-None', Stmt-If-1-Some'}
use Rattle.ceu_tree.specs.declared.kernel.Loc.{Loc}
use Rattle.ceu_tree.specs.declared.kernel.KArm.{KArm}
use Rattle.ceu_tree.specs.declared.kernel.KBlock.{KBlock}
use Rattle.ceu_tree.specs.declared.kernel.KKind.TheVariants as kind
use Rattle.ceu_tree.specs.declared.kernel.KLoop.TheVariants as turns
use Rattle.ceu_tree.specs.declared.kernel.ParKind.TheVariants as par
use Rattle.ceu_tree.specs.declared.kernel.KStmt as kernel
use Rattle.ceu_tree.specs.declared.kernel.KStmt.{KStmt}
use Rattle.ceu_tree.specs.Typing.{same_ty}
use Rattle.ceu_tree.specs.Proper.{Aim, LoopAim, Where, InTrail, InsideAsync, InFinalizer, is_trail, outside_finalizers}
use Rattle.ceu_scopes.specs.declared.known.Scopes.{Scopes}
use Rattle.ceu_types.specs.declared.typing.Types.{Types}
use Rattle.ceu_types.specs.declared.found.Found.{Found}
use Rattle.ceu_types.specs.declared.found.LabelTarget.{LabelTarget}
use Rattle.ceu_types.specs.declared.around.Around as types_around
use Rattle.ceu_types.specs.Typing.{is_none_type}
use Rattle.ceu_types.specs.Notes.{asks_own, passed, not_in_every, not_in_async, not_in_finalizer, begun, ended_after, ended}
use Rattle.ceu_types.specs.Uses.{use_type}
use Rattle.ceu_types.specs.Expressions.{condition, given, or_none}
use Rattle.ceu_types.specs.Around as types
use Rattle.ceu_types.specs.Around.{async_around, loop_around, do_around, label_takes, target_takes, takes_value, jumped}
use Rattle.ceu_types.specs.Statements.{target_found, taken, waits, acts, await_type, escape_found, name_typed, uses_passed, every_takes, every_begun, every_ended, finalizer_begun, finalizer_ended, async_begun, async_ended, stmt_found, source_found, value_found, do_found, block_found, last_found, range_found, items_found, arms_found, blocks_found, nodes_found}
use Rattle.ceu_expand.specs.declared.around.Around as draft_around
use Rattle.ceu_expand.specs.declared.draft.Draft.{Draft}
use Rattle.ceu_expand.specs.declared.draft.LabelNode.{LabelNode}
use Rattle.ceu_expand.specs.Draft as draft
use Rattle.ceu_expand.specs.Draft.{in_loop, in_do, hidden, placed, opened, block_of, around_block, standing, declared, event_declared, input_declared, output_declared, own}
use Rattle.ceu_expand.specs.Lists.{each}
use Rattle.ceu_expand.specs.Uses as uses
use Rattle.ceu_expand.specs.Uses.{variable, used, if_variable, if_used}
use Rattle.ceu_expand.specs.Expressions.{exp_passed, if_exp_passed, if_exp_written}
use Rattle.ceu_expand.specs.Parts.{simple, nothing_in, escaped, target_awaited, name_passed}
use Rattle.ceu_expand.specs.Expansion.{row_blocks, par_hidden, par_slot, turns_written, turns_passed, range_written, range_passed, declared_in, stmt_written, source_written, value_written, do_written, ranged, every_written, every_passed, block_written, block_passed, last_written, last_passed, nodes_written, items_written, arms_written, arms_passed, blocks_written, blocks_passed}
use Rattle.laws_kernel_shape.specs.Shaped.{AllOf}
use Rattle.laws_kernel_shape.proofs.Codes.{NoCode, NoCodeInSource, NoCodeInValue, NoCodeInDo, NoCodeInBlock, NoCodeInLast, NoCodeInRange, NoCodeInItems, NoCodeInArms, NoCodeInBlocks, NoCodeInNodes}
use Rattle.laws_kernel_shape.proofs.Frames.{frame_used, frame_if_used, frame_standing, frame_labelled, frame_unlabelled, frame_exp, frame_if_exp, frame_each}
use Rattle.laws_kernel_shape.specs.Exits.{taken_at, is_given, is_left, is_loop, aim_of, StmtStands, BlockStands, ArmStands}
use Rattle.laws_kernel_shape.proofs.Fine.{Fine, Allows, fine_as, fine_own, fine_every, fine_async, fine_finalizer, fine_acts, fine_waits, fine_ended, fine_begun, outside_trail}
use Rattle.laws_kernel_shape.proofs.Beside.{Level, Step, none_step, step_then, found_step, draft_step, used_step, own_step, acts_step, waits_step, finalizer_step, begun_step, hidden_step, standing_step, placed_step, opened_step, block_step, same_type, own_names, own_labels, Alike}
use Rattle.laws_kernel_shape.proofs.Pieces.{given_step, condition_step, if_given_step, taken_step, typed_name_step, escape_step, jumped_step, names_step, every_step}
use Rattle.laws_kernel_shape.proofs.Held.{Holds, holds_as, holds_placed, holds_opened, holds_block, around_parts, if_stands, par_stands, value_of, dropped_target, dropped_node, Rel, rel_step, rel_loop, rel_do, rel_async, rel_finalizer}
use Rattle.laws_kernel_shape.proofs.Leaves.{Part, simple_part, same_part, assigned_part, emitted_part, killed_part, target_wait, await_wait, spawned_part, declared_part, alias_part, pool_part, begun_parts, hidden_parts, parts_of}

module _ (s : Scopes) (t : Types) where
  -- a statement, with what is around it in the text and in the kernel
  pub record Main (a : types_around.Around) (b : draft_around.Around) (f : Found) (d : Draft) (g : Found) (e : Draft) : Type 0 where
    pub step : Step s f d g e
    pub holds : (place : Where) (aims : List Aim) → Rel s place aims a b f d → Fine place g → Holds place aims d → Holds place aims e

  -- a block, as a part of a statement
  pub record Inner (a : types_around.Around) (b : draft_around.Around) (f : Found) (d : Draft) (g : Found) (e : Draft) (made : KBlock) : Type 0 where
    pub step : Step s f d g e
    pub same : e.parts ≡ d.parts
    pub stands : (place : Where) (aims : List Aim) → Rel s place aims a b f d → Fine place g → BlockStands place aims made

  module _ (a : types_around.Around) (b : draft_around.Around) where
    of_part : {f g : Found} {d e : Draft} → Part s t f d g e → Main a b f d g e
    of_part p = record { step = p.step; holds = λ place aims rel fine h. p.holds place aims rel.level fine h }

    main_then : {f g h : Found} {d e c : Draft} → Main a b f d g e → Main a b g e h c → Main a b f d h c
    main_then {f = f} {g = g} {d = d} {e = e} x y =
        record {
          step = step_then s x.step y.step;
          holds = λ place aims rel fine k. y.holds place aims (rel_step s place aims a b f g d e x.step rel) fine (x.holds place aims rel (y.step.back place fine) k);
        }

    -- a step of the walk alone comes first
    found_then : {f g h : Found} {d c : Draft} → Step s f d g d → Main a b g d h c → Main a b f d h c
    found_then {f = f} {g = g} {d = d} x y =
        record { step = step_then s x y.step; holds = λ place aims rel fine k. y.holds place aims (rel_step s place aims a b f g d d x rel) fine k }

    placed_main : (p : Pos) (st : KStmt) (f g : Found) (d e : Draft) → Step s f (draft.begun d) g e → e.parts ≡ d.parts →
        ((place : Where) (aims : List Aim) → Rel s place aims a b f d → Fine place g → StmtStands place aims d.node st) → Main a b f d g (placed d.node p st e)
    placed_main p st f g d e step same stands =
        record {
          step = step_then s (begun_step s f d) (step_then s step (placed_step s d.node p st g e));
          holds = λ place aims rel fine h. holds_placed place aims d.node p st d e same (stands place aims rel fine) h;
        }

  -- the same, where the types of a target and of what it takes agree
  record MainIf (Q : Type 0) (a : types_around.Around) (b : draft_around.Around) (f : Found) (d : Draft) (g : Found) (e : Draft) : Type 0 where
    step : Step s f d g e
    holds : Q → (place : Where) (aims : List Aim) → Rel s place aims a b f d → Fine place g → Holds place aims d → Holds place aims e

  main_if : (Q : Type 0) (a : types_around.Around) (b : draft_around.Around) {f g : Found} {d e : Draft} → Main a b f d g e → MainIf Q a b f d g e
  main_if Q a b m = record { step = m.step; holds = λ q. m.holds }

  if_main : (Q : Type 0) (a : types_around.Around) (b : draft_around.Around) {f g : Found} {d e : Draft} → Q → MainIf Q a b f d g e → Main a b f d g e
  if_main Q a b q m = record { step = m.step; holds = m.holds q }

  variable_type : (x : Ident) (d : Draft) → uses.type_at s d.uses ≡ (variable s x d).ty
  unfolding variable
  variable_type x d = refl

  begun_level : (f : Found) (d : Draft) → Level s f d → Level s f (draft.begun d)
  unfolding draft.begun
  begun_level f d h = h

  -- ---- exits

  jump_stands : (place : Where) (aims : List Aim) (n : ℕ) (b : Bool) (f : Found) → (outside_finalizers place ≡ true → b ≡ true → list_any (is_loop n) aims ≡ true) →
      Fine place (if b then not_in_finalizer f else not_in_async (asks_own false T5 (not_in_finalizer f))) → IsTrue (outside_finalizers place) × IsTrue (list_any (is_loop n) aims)
  jump_stands place aims n true f any fine = let o = (fine_finalizer place f fine).1 in (o, any o refl)
  jump_stands place aims n false f any fine =
      let broken : (false ≡ true) = (fine_own place false T5 (not_in_finalizer f) (fine_async place (asks_own false T5 (not_in_finalizer f)) fine).0).0 in absurd (cc)

  jump_main : (a : types_around.Around) (b : draft_around.Around) (p : Pos) (st : KStmt) (f : Found) (d : Draft) →
      ((place : Where) (aims : List Aim) (n : ℕ) → IsTrue (outside_finalizers place) × IsTrue (list_any (is_loop b.turns) aims) → StmtStands place aims n st) →
      Main a b f d (jumped a (not_in_finalizer f)) (simple p st d)
  unfolding jumped
  jump_main a b p st f d stands =
      placed_main a b p st f (jumped a (not_in_finalizer f)) d (draft.begun d) (step_then s (finalizer_step s f (draft.begun d)) (jumped_step s a (not_in_finalizer f) (draft.begun d))) (begun_parts d)
      (λ place aims rel fine. stands place aims d.node (jump_stands place aims b.turns a.in_loop f rel.turns fine))

  value_given : (u : Ty) (x : Option Exp) (c : Draft) → takes_value u x ≡ true → is_given (if_exp_written s t x c) u ≡ true
  unfolding takes_value
  value_given u None c h = none_type u h
    where
      none_type : (u : Ty) → is_none_type u ≡ true → same_ty u ty.None ≡ true
      none_type ty.None h = refl
      none_type ty.Bool h = absurd (cc)
      none_type ty.U8 h = absurd (cc)
      none_type ty.S8 h = absurd (cc)
      none_type ty.U16 h = absurd (cc)
      none_type ty.S16 h = absurd (cc)
      none_type ty.U32 h = absurd (cc)
      none_type ty.S32 h = absurd (cc)
      none_type ty.U64 h = absurd (cc)
      none_type ty.S64 h = absurd (cc)
  value_given u (Some e) c h = some_type u h
    where
      some_type : (u : Ty) → not (is_none_type u) ≡ true → not (same_ty u ty.None) ≡ true
      some_type ty.None h = absurd (cc)
      some_type ty.Bool h = refl
      some_type ty.U8 h = refl
      some_type ty.S8 h = refl
      some_type ty.U16 h = refl
      some_type ty.S16 h = refl
      some_type ty.U32 h = refl
      some_type ty.S32 h = refl
      some_type ty.U64 h = refl
      some_type ty.S64 h = refl

  -- an escape finds what its target takes
  left_given : (place : Where) (aims : List Aim) (n : ℕ) (r : Option Ty) (x : Option Exp) (c : Draft) (f : Found) → ((u : Ty) → r ≡ Some u → taken_at n aims ≡ Some u) →
      Fine place (types.escaped r x f) → IsTrue (is_left (if_exp_written s t x c) (taken_at n aims))
  unfolding types.escaped
  left_given place aims n None x c f target fine =
      let broken : (false ≡ true) = (fine_own place false T5 f (fine_async place (asks_own false T5 f) fine).0).0 in absurd (cc)
  left_given place aims n (Some u) x c f target fine =
      subst (λ r. IsTrue (is_left (if_exp_written s t x c) r)) (sym (target u refl)) (value_given u x c (fine_own place (takes_value u x) T5 f fine).0)

  target_here : (place : Where) (aims : List Aim) (a : types_around.Around) (b : draft_around.Around) (f : Found) (d : Draft) → Rel s place aims a b f d → outside_finalizers place ≡ true →
      (l : Option Ident) (u : Ty) → target_takes a f l ≡ Some u → taken_at (uses.target b l d) aims ≡ Some u
  unfolding target_takes uses.target
  target_here place aims a b f d rel o None u h = rel.plain o u h
  target_here place aims a b f d rel o (Some l) u h = rel.labels o l.name u h

  left_back : (place : Where) (r : Option Ty) (x : Option Exp) (g : Found) → Fine place (types.escaped r x g) → Fine place g
  unfolding types.escaped
  left_back place None x g h = (fine_own place false T5 g (fine_async place (asks_own false T5 g) h).0).1
  left_back place (Some u) x g h = (fine_own place (takes_value u x) T5 g h).1

  escape_main : (a : types_around.Around) (b : draft_around.Around) (p : Pos) (l : Option Ident) (x : Option Exp) (f : Found) (d : Draft) → Main a b f d (escape_found s a l x f) (escaped s t b p l x d)
  unfolding escape_found escaped StmtStands
  escape_main a b p l x f d =
      let r = target_takes a f l in
      placed_main a b p (kernel.Escape (uses.target b l d) (if_exp_written s t x (draft.begun d))) f (escape_found s a l x f) d (if_exp_passed x (draft.begun d))
      (escape_step s a l x f (draft.begun d))
      (parts_of (draft.begun d) (if_exp_passed x (draft.begun d)) (frame_if_exp x (draft.begun d)) ∙ begun_parts d)
      (λ place aims rel fine.
      let left : Fine place (types.escaped r x (not_in_finalizer f)) = (if_given_step s x (or_none r) (types.escaped r x (not_in_finalizer f)) d).back place fine in
      let o : outside_finalizers place ≡ true = (fine_finalizer place f (left_back place r x (not_in_finalizer f) left)).1 in
      (o, left_given place aims (uses.target b l d) r x (draft.begun d) (not_in_finalizer f) (target_here place aims a b f d rel o l) left))

  -- ---- steps around a block

  every_flag_step : (f : Found) (d : Draft) → Step s f d (every_ended f) d
  unfolding every_ended not_in_every
  every_flag_step f d =
      let g : Found = asks_own (not f.beyond_every) T6 f in
      step_then s (own_step s (not f.beyond_every) T6 f d) (found_step s g (not_in_every g) d refl refl (λ place h. fine_every place g h))

  turns_step : (limit : Option ℕ) (f : Found) (d : Draft) → Step s f d f (turns_passed limit d)
  unfolding turns_passed
  turns_step None f d = none_step s f d
  turns_step (Some n) f d = hidden_step s 1 f d

  turns_parts : (limit : Option ℕ) (d : Draft) → (turns_passed limit d).parts ≡ d.parts
  unfolding turns_passed
  turns_parts None d = refl
  turns_parts (Some n) d = hidden_parts 1 d

  range_step : (low high : Exp) (f : Found) (d : Draft) → Step s f d (given s high ty.S32 (given s low ty.S32 f)) (range_passed low high d)
  unfolding range_passed
  range_step low high f d =
      let one = hidden 1 d in
      let two = hidden 1 one in
      let three = hidden 1 two in
      let g = given s low ty.S32 f in
      step_then s (hidden_step s 1 f d) (step_then s (hidden_step s 1 f one) (step_then s (hidden_step s 1 f two)
      (step_then s (given_step s low ty.S32 f three) (step_then s (given_step s high ty.S32 g (exp_passed low three))
      (standing_step s d.slot (given s high ty.S32 g) (exp_passed high (exp_passed low three)))))))

  range_parts : (low high : Exp) (d : Draft) → (range_passed low high d).parts ≡ d.parts
  unfolding range_passed hidden
  range_parts low high d =
      let three = hidden 1 (hidden 1 (hidden 1 d)) in
      parts_of three (standing d.slot (exp_passed high (exp_passed low three))) (frame_standing d.slot (exp_passed high (exp_passed low three)) ∙ frame_exp high (exp_passed low three) ∙ frame_exp low three)

  -- a walk that begins and ends in its own way
  wrap_step : (f f' g' g : Found) (d e : Draft) → f'.names ≡ f.names → g.names ≡ g'.names → g.labels ≡ f.labels → Step s f' d g' e → ((place : Where) → Fine place g → Fine place f) → Step s f d g e
  wrap_step f f' g' g d e before after labels inner back =
      record {
        labels = labels;
        node_labels = inner.node_labels;
        up = inner.up;
        level = λ h. subst (λ k. Alike (length s.uses) k e.uses) (sym after) (inner.level (subst (λ k. Alike (length s.uses) k d.uses) (sym before) h));
        back = back;
      }

  -- ---- finalizers

  allows_trail : (place : Where) (f : Found) → IsTrue (is_trail place) → Allows place f
  allows_trail InTrail f h = tt
  allows_trail InsideAsync f h = absurd (cc)
  allows_trail InFinalizer f h = absurd (cc)

  not_true : (b : Bool) → not b ≡ true → b ≡ false
  not_true true h = absurd (cc)
  not_true false h = refl

  finalizer_names : (f : Found) → (finalizer_begun f).names ≡ f.names
  unfolding finalizer_begun
  finalizer_names f = refl

  finalizer_labels : (f : Found) → (finalizer_begun f).labels ≡ f.labels
  unfolding finalizer_begun
  finalizer_labels f = refl

  finalizer_level : (f : Found) (d : Draft) → Level s f d → Level s (finalizer_begun f) (draft.begun d)
  unfolding finalizer_begun draft.begun
  finalizer_level f d h = h

  fine_closed : (place : Where) (g : Found) → Fine place (finalizer_ended g) → IsTrue (is_trail place) × Fine InFinalizer g
  unfolding finalizer_ended
  fine_closed place g h =
      let a = fine_acts place (asks_own (not g.beyond_finalizer) T6 g) h in
      let o = fine_own place (not g.beyond_finalizer) T6 g a.0 in
      let k : Fine place g = o.1 in
      (a.1, record { broken = k.broken; own = k.own; allows = not_true g.beyond_finalizer o.0 })

  fine_opened : (place : Where) (f : Found) → IsTrue (is_trail place) → Fine InFinalizer (finalizer_begun f) → Fine place f
  unfolding finalizer_begun
  fine_opened place f trail h = record { broken = h.broken; own = h.own; allows = allows_trail place f trail }

  closed_same : (g : Found) → ((finalizer_ended g).labels ≡ g.labels) × ((finalizer_ended g).names ≡ g.names)
  unfolding finalizer_ended acts not_in_async not_in_finalizer
  closed_same g = (own_labels s (not g.beyond_finalizer) T6 g, own_names s (not g.beyond_finalizer) T6 g)

  -- ---- asyncs

  fine_left : (place : Where) (labels : List LabelTarget) (g : Found) → Fine place (async_ended labels g) → IsTrue (is_trail place) × Fine InsideAsync g
  unfolding async_ended
  fine_left place labels g h =
      let noted : Found = asks_own (not g.beyond_async) T6 g in
      let a = fine_waits place (record noted { labels = labels }) h in
      let k : Fine place (record noted { labels = labels }) = a.0 in
      let o = fine_own place (not g.beyond_async) T6 g (fine_as place noted (record noted { labels = labels }) refl refl refl refl k) in
      let m : Fine place g = o.1 in
      (a.1, record { broken = m.broken; own = m.own; allows = not_true g.beyond_async o.0 })

  left_names : (labels : List LabelTarget) (g : Found) → (async_ended labels g).names ≡ g.names
  unfolding async_ended waits not_in_every not_in_async not_in_finalizer
  left_names labels g = own_names s (not g.beyond_async) T6 g

  left_labels : (labels : List LabelTarget) (g : Found) → (async_ended labels g).labels ≡ labels
  unfolding async_ended waits not_in_every not_in_async not_in_finalizer
  left_labels labels g = refl

  abbrev entered_async : Found → Found
  entered_async f = record f { beyond_async = false; labels = [] }

  fine_entered : (place : Where) (f : Found) → IsTrue (is_trail place) → Fine InsideAsync (entered_async f) → Fine place f
  fine_entered place f trail h = record { broken = h.broken; own = h.own; allows = allows_trail place f trail }

  -- ---- `do`

  do_around_step : (l : Label) (u : Ty) (n : ℕ) (f g : Found) (d e : Draft) → Step s (types.labelled l u f) (draft.labelled l n d) g e → Step s f d (types.unlabelled l g) (draft.unlabelled l e)
  unfolding types.labelled draft.labelled types.unlabelled draft.unlabelled
  do_around_step label.Plain u n f g d e h = record { labels = h.labels; node_labels = h.node_labels; up = h.up; level = h.level; back = h.back }
  do_around_step label.Under u n f g d e h = record { labels = h.labels; node_labels = h.node_labels; up = h.up; level = h.level; back = h.back }
  do_around_step (label.Named l) u n f g d e h =
      let new : LabelTarget = record { name = l.name; takes = u } in
      let node : LabelNode = record { name = l.name; node = n } in
      record {
        labels = ap types.all_but_last h.labels ∙ dropped_target f.labels new;
        node_labels = ap draft.all_but_last h.node_labels ∙ dropped_node d.labels node;
        up = h.up;
        level = h.level;
        back = λ place k.
            fine_as place f (record f { labels = f.labels ++ new ∷ [] }) refl refl refl refl
            (h.back place (fine_as place g (record g { labels = types.all_but_last g.labels }) refl refl refl refl k));
      }

  unlabelled_fine : (l : Label) (place : Where) (g : Found) → Fine place (types.unlabelled l g) → Fine place g
  unfolding types.unlabelled
  unlabelled_fine label.Plain place g h = h
  unlabelled_fine label.Under place g h = h
  unlabelled_fine (label.Named l) place g h = fine_as place g (record g { labels = types.all_but_last g.labels }) refl refl refl refl h

  -- ---- a statement begins and ends

  rel_begun : (place : Where) (aims : List Aim) (a : types_around.Around) (b : draft_around.Around) (f : Found) (d : Draft) → Rel s place aims a b f d → Rel s place aims a b (begun f) d
  unfolding begun
  rel_begun place aims a b f d h = record { level = h.level; plain = h.plain; turns = h.turns; labels = h.labels; fresh = h.fresh }

  pub ended_same : (p : Pos) (f g : Found) → ((ended p f g).labels ≡ g.labels) × ((ended p f g).names ≡ g.names)
  unfolding ended_after
  ended_same p f g = (refl, refl)

  begun_same : (f : Found) → ((begun f).labels ≡ f.labels) × ((begun f).names ≡ f.names)
  unfolding begun
  begun_same f = (refl, refl)

  pub node_main : (a : types_around.Around) (b : draft_around.Around) (p : Pos) (f g : Found) (d e : Draft) → Main a b (begun f) d g e → Main a b f d (ended p f g) e
  node_main a b p f g d e m =
      let x = ended_same p f g in
      let y = begun_same f in
      record {
        step = wrap_step f (begun f) g (ended p f g) d e y.1 x.1 (x.0 ∙ m.step.labels ∙ y.0) m.step (λ place h. let k = fine_ended place p f g h in fine_begun place f k.0 k.1 (m.step.back place k.2));
        holds = λ place aims rel fine h. m.holds place aims (rel_begun place aims a b f d rel) (fine_ended place p f g fine).2 h;
      }

  -- ---- names that take no slots

  record Bare (d e : Draft) : Type 0 where
    labels : e.labels ≡ d.labels
    node : e.node ≡ d.node
    uses : e.uses ≡ d.uses
    parts : e.parts ≡ d.parts

  bare_each : {A : Type 0} (pass : A → Draft → Draft) → ((x : A) (d : Draft) → Bare d (pass x d)) → (xs : List A) (d : Draft) → Bare d (each pass xs d)
  unfolding each
  bare_each pass h [] d = record { labels = refl; node = refl; uses = refl; parts = refl }
  bare_each pass h (x ∷ xs) d =
      let one = h x d in
      let rest = bare_each pass h xs (pass x d) in
      record { labels = rest.labels ∙ one.labels; node = rest.node ∙ one.node; uses = rest.uses ∙ one.uses; parts = rest.parts ∙ one.parts }

  bare_event : (code : Option ℕ) (u : Ty) (x : Ident) (d : Draft) → Bare d (event_declared code u x d)
  unfolding event_declared
  bare_event code u x d = record { labels = refl; node = refl; uses = refl; parts = refl }

  bare_input : (u : Ty) (x : Ident) (d : Draft) → Bare d (input_declared u x d)
  unfolding input_declared
  bare_input u x d = record { labels = refl; node = refl; uses = refl; parts = refl }

  bare_output : (u : Ty) (x : Ident) (d : Draft) → Bare d (output_declared u x d)
  unfolding output_declared
  bare_output u x d = record { labels = refl; node = refl; uses = refl; parts = refl }

  bare_part : (f : Found) (d e : Draft) → Bare d e → Part s t f d (acts f) e
  bare_part f d e h =
      let same : e.node ≡ d.node = h.node in
      same_part s t f (acts f) d e (step_then s (acts_step s f d) (draft_step s (acts f) d e h.labels (omega arith) h.uses)) h.parts

  names_parts : (xs : List Ident) (d : Draft) → (each name_passed xs d).parts ≡ d.parts
  names_parts xs d = parts_of d (each name_passed xs d) (frame_each name_passed (λ x e. frame_used e) xs d)

  record Arms (a : types_around.Around) (b : draft_around.Around) (f : Found) (d : Draft) (g : Found) (e : Draft) (made : List KArm) : Type 0 where
    step : Step s f d g e
    same : e.parts ≡ d.parts
    stand : (place : Where) (aims : List Aim) → Rel s place aims a b f d → Fine place g → AllOf (ArmStands place aims) made

  record Blocks (a : types_around.Around) (b : draft_around.Around) (f : Found) (d : Draft) (g : Found) (e : Draft) (made : List KBlock) : Type 0 where
    step : Step s f d g e
    same : e.parts ≡ d.parts
    stand : (place : Where) (aims : List Aim) → Rel s place aims a b f d → Fine place g → AllOf (BlockStands place aims) made

  -- ---- what stands around a part of the text

  assign_main : (a : types_around.Around) (b : draft_around.Around) (x : Ident) (f g : Found) (d e : Draft) →
      MainIf (use_type s f.names ≡ (variable s x d).ty) a b (passed s f) (used d) g e → Main a b f d g e
  assign_main a b x f g d e value =
      record {
        step = step_then s (used_step s f d) value.step;
        holds = λ place aims rel fine h.
            value.holds (same_type s f.names d.uses rel.level ∙ variable_type x d) place aims (rel_step s place aims a b f (passed s f) d (used d) (used_step s f d) rel) fine
            (holds_as place aims d (used d) (parts_of d (used d) (frame_used d)) h);
      }

  async_main : (a : types_around.Around) (b : draft_around.Around) (p : Pos) (xs : List Ident) (made : KBlock) (f g : Found) (d e : Draft) →
      Inner async_around b (uses_passed s xs (entered_async f)) (each name_passed xs (draft.begun d)) g e made → Main a b f d (async_ended f.labels g) (placed d.node p (kernel.Async made) e)
  unfolding StmtStands
  async_main a b p xs made f g d e inner =
      let d' = draft.begun d in
      let f' = entered_async f in
      let f'' = uses_passed s xs f' in
      let inside = each name_passed xs d' in
      let names = names_step s xs f' d' in
      let step = wrap_step f f' g (async_ended f.labels g) d' e refl (left_names f.labels g) (left_labels f.labels g) (step_then s names inner.step)
      (λ place h. let c = fine_left place f.labels g h in fine_entered place f c.0 (names.back InsideAsync (inner.step.back InsideAsync c.1))) in
      placed_main a b p (kernel.Async made) f (async_ended f.labels g) d e step (inner.same ∙ names_parts xs d' ∙ begun_parts d)
      (λ place aims rel fine.
      let c = fine_left place f.labels g fine in
      let level : Level s f' d' = begun_level f' d rel.level in
      (c.0, inner.stands InsideAsync [] (rel_async s b f'' inside names.labels (names.level level)) c.1))

  mutual
    unfolding NoCode stmt_found stmt_written StmtStands async_begun every_begun

    pub stmt_main : (a : types_around.Around) (b : draft_around.Around) (p : Pos) (st : Stmt) → NoCode st → (f : Found) (d : Draft) → Main a b f d (stmt_found s a st f) (stmt_written s t b p st d)
    stmt_main a b p stmt.Nothing k f d = of_part a b (simple_part s t p kernel.Nothing f f d (none_step s f (draft.begun d)) (λ place aims level fine. tt))
    stmt_main a b p stmt.Break k f d = jump_main a b p (kernel.Break b.turns) f d (λ place aims n h. h)
    stmt_main a b p stmt.Continue k f d = jump_main a b p (kernel.Continue b.turns) f d (λ place aims n h. h)
    stmt_main a b p (Vars' u _ items) k f d =
        found_then a b (finalizer_step s f d) (items_main a b p u items k (not_in_finalizer f) d (λ place fine. (fine_finalizer place f fine).1))
    stmt_main a b p (stmt.AliasDecl code x start) k f d = of_part a b (alias_part s t p x start f d)
    stmt_main a b p (stmt.Events u xs) k f d = of_part a b (bare_part f d (each (event_declared b.code u) xs d) (bare_each (event_declared b.code u) (bare_event b.code u) xs d))
    stmt_main a b p (stmt.Inputs u xs) k f d = of_part a b (bare_part f d (each (input_declared u) xs d) (bare_each (input_declared u) (bare_input u) xs d))
    stmt_main a b p (stmt.Outputs u xs) k f d = of_part a b (bare_part f d (each (output_declared u) xs d) (bare_each (output_declared u) (bare_output u) xs d))
    stmt_main a b p (stmt.Pool n code x) k f d = of_part a b (pool_part s t n x f d)
    stmt_main a b p (stmt.Code x ps result blk) k f d = absurd k
    stmt_main a b p (stmt.Assign x v) k f d =
        assign_main a b x f (source_found s a (use_type s f.names) v (passed s f)) d (source_written s t b p (variable s x d) v (used d))
        (source_main a b p (variable s x d) (use_type s f.names) v k (passed s f) (used d))
    stmt_main a b p (stmt.Emit x e) k f d = of_part a b (emitted_part s t p e f d)
    stmt_main a b p (stmt.Await w) k f d =
        let wait = await_wait s t p None w (waits f) d in
        record { step = step_then s (waits_step s f d) wait.step; holds = λ place aims rel fine h. wait.holds place aims (fine_waits place f (wait.step.back place fine)).1 h }
    stmt_main a b p (stmt.Spawn x) k f d = of_part a b (spawned_part s t None x f d)
    stmt_main a b p (stmt.Kill x) k f d = of_part a b (killed_part s t p f d)
    stmt_main a b p (stmt.Escape l e) k f d = escape_main a b p l e f d
    stmt_main a b p (stmt.Do blk) k f d =
        found_then a b (finalizer_step s f d) (if_main (ty.None ≡ value_of None) a b refl (do_main a b p None ty.None blk k (not_in_finalizer f) d (λ place fine. (fine_finalizer place f fine).1)))
    stmt_main a b p (stmt.Finalize blk) k f d =
        let begin = finalizer_begun f in
        let inner = block_main a b blk k begin (draft.begun d) in
        let g = block_found s a blk begin in
        let x = closed_same g in
        let step = wrap_step f begin g (finalizer_ended g) (draft.begun d) (block_passed s t b blk (draft.begun d)) (finalizer_names f) x.1 (x.0 ∙ inner.step.labels ∙ finalizer_labels f) inner.step
        (λ place h. let c = fine_closed place g h in fine_opened place f c.0 (inner.step.back InFinalizer c.1)) in
        placed_main a b p (kernel.Finalize (block_written s t b blk (draft.begun d))) f (finalizer_ended g) d (block_passed s t b blk (draft.begun d)) step (inner.same ∙ begun_parts d)
        (λ place aims rel fine.
        let c = fine_closed place g fine in
        (c.0, inner.stands InFinalizer [] (rel_finalizer s a b begin (draft.begun d) (finalizer_level f d rel.level)) c.1))
    stmt_main a b p (If' _ arms last) k f d =
        let f' = not_in_finalizer f in
        let d' = draft.begun d in
        let one = arms_main a b arms k.0 f' d' in
        let f'' = arms_found s a arms f' in
        let d'' = arms_passed s t b arms d' in
        let two = last_main a b last k.1 f'' d'' in
        placed_main a b p (kernel.If (arms_written s t b arms d') (last_written s t b last d'')) f (last_found s a last f'') d (last_passed s t b last d'')
        (step_then s (finalizer_step s f d') (step_then s one.step two.step)) (two.same ∙ one.same ∙ begun_parts d)
        (λ place aims rel fine.
        let middle = two.step.back place fine in
        let rel' = rel_step s place aims a b f f' d d' (step_then s (begun_step s f d) (finalizer_step s f d')) rel in
        if_stands place aims d.node (arms_written s t b arms d') (last_written s t b last d'') (fine_finalizer place f (one.step.back place middle)).1
        (one.stand place aims rel' middle) (two.stands place aims (rel_step s place aims a b f' f'' d' d'' one.step rel') fine))
    stmt_main a b p (stmt.Loop limit blk) k f d =
        let f' = not_in_finalizer f in
        let d' = turns_passed limit (draft.begun d) in
        let inner = block_main (loop_around a) (in_loop d.node b) blk k f' d' in
        let first = step_then s (finalizer_step s f (draft.begun d)) (turns_step limit f' (draft.begun d)) in
        placed_main a b p (kernel.Loop (turns_written limit (draft.begun d)) (block_written s t (in_loop d.node b) blk d')) f (block_found s (loop_around a) blk f') d (block_passed s t (in_loop d.node b) blk d')
        (step_then s first inner.step) (inner.same ∙ turns_parts limit (draft.begun d) ∙ begun_parts d)
        (λ place aims rel fine. (
          (fine_finalizer place f (inner.step.back place fine)).1,
          inner.stands place (LoopAim d.node ∷ aims) (rel_step s place (LoopAim d.node ∷ aims) (loop_around a) (in_loop d.node b) f f' (draft.begun d) d' first (rel_loop s place aims a b f d rel)) fine,
        ))
    stmt_main a b p (stmt.Range r) k f d = found_then a b (finalizer_step s f d) (range_main a b p r k (not_in_finalizer f) d (λ place fine. (fine_finalizer place f fine).1))
    stmt_main a b p (stmt.Every x target blk) k f d = every_main a b p x target blk k f d
    stmt_main a b p (stmt.Watching target blk) k f d =
        let f' = waits f in
        let d' = draft.begun d in
        let wait = target_wait s t p None target f' (opened 0 d') in
        let f'' = target_found s target f' in
        let inside = around_block 0 (target_awaited s t p None target) d' in
        let made = block_of 0 (target_awaited s t p None target) d' in
        let inner = block_main a b blk k f'' inside in
        let waited = block_step s 0 (target_awaited s t p None target) f' f'' d' wait.step in
        placed_main a b p (kernel.Par par.Or 0 (made ∷ block_written s t b blk inside ∷ [])) f (block_found s a blk f'') d (block_passed s t b blk inside)
        (step_then s (waits_step s f d') (step_then s waited inner.step)) (inner.same ∙ around_parts 0 (target_awaited s t p None target) d' ∙ begun_parts d)
        (λ place aims rel fine.
        let middle = inner.step.back place fine in
        let trail = (fine_waits place f (waited.back place middle)).1 in
        let rel' = rel_step s place aims a b f f'' d inside (step_then s (begun_step s f d) (step_then s (waits_step s f d') waited)) rel in
        par_stands place aims d.node par.Or 0 (made ∷ block_written s t b blk inside ∷ []) trail
        (holds_block place aims 0 (target_awaited s t p None target) d' (wait.holds place aims trail (holds_opened place aims 0 d')), (inner.stands place aims rel' fine, tt)))
    stmt_main a b p (Par' kind _ bs) k f d =
        let f' = waits f in
        let d' = hidden (par_hidden kind (row_blocks bs)) (draft.begun d) in
        let inner = blocks_main a b bs k f' d' in
        let first = step_then s (waits_step s f (draft.begun d)) (hidden_step s (par_hidden kind (row_blocks bs)) f' (draft.begun d)) in
        placed_main a b p (kernel.Par kind (par_slot kind d.slot) (blocks_written s t b bs d')) f (blocks_found s a bs f') d (blocks_passed s t b bs d')
        (step_then s first inner.step) (inner.same ∙ hidden_parts (par_hidden kind (row_blocks bs)) (draft.begun d) ∙ begun_parts d)
        (λ place aims rel fine.
        par_stands place aims d.node kind (par_slot kind d.slot) (blocks_written s t b bs d') (fine_waits place f (inner.step.back place fine)).1
        (inner.stand place aims (rel_step s place aims a b f f' d d' (step_then s (begun_step s f d) first) rel) fine))
    stmt_main a b p (stmt.Async xs blk) k f d =
        let f' = uses_passed s xs (entered_async f) in
        let inside = each name_passed xs (draft.begun d) in
        async_main a b p xs (block_written s t b blk inside) f (block_found s async_around blk f') d (block_passed s t b blk inside) (block_main async_around b blk k f' inside)

    source_main : (a : types_around.Around) (b : draft_around.Around) (p : Pos) (into : Loc) (u : Ty) (v : Source) → NoCodeInSource v → (f : Found) (d : Draft) →
        MainIf (u ≡ into.ty) a b f d (source_found s a u v f) (source_written s t b p into v d)
    source_main a b p into u (source.Value e) k f d = main_if (u ≡ into.ty) a b (of_part a b (assigned_part s t p into e u f d))
    source_main a b p into u (source.Wait w) k f d =
        let f' = taken u (await_type s w f.names) (waits f) in
        let wait = await_wait s t p (Some into) w f' d in
        let first = step_then s (waits_step s f d) (taken_step s u (await_type s w f.names) (waits f) d) in
        record {
          step = step_then s first wait.step;
          holds = λ same place aims rel fine h.
              wait.holds place aims (fine_waits place f ((taken_step s u (await_type s w f.names) (waits f) d).back place (wait.step.back place fine))).1 h;
        }
    source_main a b p into u (source.Start x) k f d = main_if (u ≡ into.ty) a b (of_part a b (spawned_part s t (Some into.slot) x f d))
    source_main a b p into u (source.Done blk) k f d =
        let made = do_main a b p (Some into) u blk k (acts f) d (λ place fine. outside_trail place (fine_acts place f fine).1) in
        record {
          step = step_then s (acts_step s f d) made.step;
          holds = λ same place aims rel fine h. made.holds same place aims (rel_step s place aims a b f (acts f) d d (acts_step s f d) rel) fine h;
        }

    value_main : (a : types_around.Around) (b : draft_around.Around) (p : Pos) (into : Loc) (u : Ty) (v : Held-Item-value) → NoCodeInValue v → u ≡ into.ty → (f : Found) (d : Draft) →
        Main a b f d (value_found s a u v f) (value_written s t b p into v d)
    value_main a b p into u Item-value-None' k same f d = of_part a b (simple_part s t p _ f f d (none_step s f (draft.begun d)) (λ place aims level fine. tt))
    value_main a b p into u (Item-value-Some' v) k same f d = if_main (u ≡ into.ty) a b same (source_main a b p into u v k f d)

    do_main : (a : types_around.Around) (b : draft_around.Around) (p : Pos) (into : Option Loc) (u : Ty) (made : Do) → NoCodeInDo made → (f : Found) (d : Draft) →
        ((place : Where) → Fine place f → IsTrue (outside_finalizers place)) → MainIf (u ≡ value_of into) a b f d (do_found s a u made f) (do_written s t b p into made d)
    do_main a b p into u (Do' l blk) k f d outside =
        let d' = draft.begun d in
        let inside = draft.labelled l d.node d' in
        let a' = do_around l u a in
        let b' = in_do l d.node b in
        let inner = block_main a' b' blk k (types.labelled l u f) inside in
        let g = block_found s a' blk (types.labelled l u f) in
        let e = block_passed s t b' blk inside in
        let whole = do_around_step l u d.node f g d' e inner.step in
        let same_parts : (draft.unlabelled l e).parts ≡ d.parts =
        parts_of e (draft.unlabelled l e) (frame_unlabelled l e) ∙ inner.same ∙ parts_of d' inside (frame_labelled l d.node d') ∙ begun_parts d in
        let st = kernel.Do into (block_written s t b' blk inside) in
        record {
          step = step_then s (begun_step s f d) (step_then s whole (placed_step s d.node p st (types.unlabelled l g) (draft.unlabelled l e)));
          holds = λ same place aims rel fine h.
              holds_placed place aims d.node p st d (draft.unlabelled l e) same_parts
              (outside place (whole.back place fine), inner.stands place (aim_of d.node into ∷ aims) (rel_do s place aims a b l into u same f d rel) (unlabelled_fine l place g fine)) h;
        }

    range_main : (a : types_around.Around) (b : draft_around.Around) (p : Pos) (r : Range) → NoCodeInRange r → (f : Found) (d : Draft) →
        ((place : Where) → Fine place f → IsTrue (outside_finalizers place)) → Main a b f d (range_found s a r f) (ranged s t b p r d)
    range_main a b p (Range' x open_a low high open_b blk) k f d outside =
        let d' = draft.begun d in
        let inside = range_passed low high d' in
        let f' = given s high ty.S32 (given s low ty.S32 f) in
        let first = range_step low high f d' in
        let inner = block_main (loop_around a) (in_loop d.node b) blk k f' inside in
        placed_main a b p (kernel.Loop (range_written s t open_a low high open_b d') (block_written s t (in_loop d.node b) blk inside)) f (block_found s (loop_around a) blk f') d (block_passed s t (in_loop d.node b) blk inside)
        (step_then s first inner.step) (inner.same ∙ range_parts low high d' ∙ begun_parts d)
        (λ place aims rel fine. (
          outside place (first.back place (inner.step.back place fine)),
          inner.stands place (LoopAim d.node ∷ aims) (rel_step s place (LoopAim d.node ∷ aims) (loop_around a) (in_loop d.node b) f f' d' inside first (rel_loop s place aims a b f d rel)) fine,
        ))

    every_main : (a : types_around.Around) (b : draft_around.Around) (p : Pos) (x : Option Ident) (target : Target) (blk : Block) → NoCodeInBlock blk → (f : Found) (d : Draft) →
        Main a b f d (every_ended (block_found s (loop_around a) blk (every_begun s x target f))) (placed d.node p (kernel.Loop turns.Free (every_written s t b d.node p x target blk (draft.begun d))) (every_passed s t b d.node p x target blk (draft.begun d)))
    every_main a b p x target (Block' _ list) k f d =
        let d' = draft.begun d in
        let n = declared_in list in
        let body : Draft → Draft = λ inside. nodes_written s t (in_loop d.node b) list (target_awaited s t p (if_variable s x inside) target (if_used x inside)) in
        let begin = opened n d' in
        let f1 = acts f in
        let f2 = every_takes s x target f1 in
        let d2 = if_used x begin in
        let wait = target_wait s t p (if_variable s x begin) target f2 d2 in
        let f3 = target_found s target f2 in
        let d3 = target_awaited s t p (if_variable s x begin) target d2 in
        let f4 : Found = record f3 { beyond_every = false } in
        let nodes = nodes_main (loop_around a) (in_loop d.node b) list k f4 d3 in
        let g = nodes_found s (loop_around a) list f4 in
        let named = every_step s x target f1 begin in
        let cleared : Step s f3 d3 f4 d3 = found_step s f3 f4 d3 refl refl (λ place h. fine_as place f3 f4 refl refl refl refl h) in
        let before : Step s f d' f4 d3 = step_then s (opened_step s n f d') (step_then s (acts_step s f begin) (step_then s named (step_then s wait.step cleared))) in
        let inner : Step s f (opened n d') g (body (opened n d')) = step_then s (acts_step s f begin) (step_then s named (step_then s wait.step (step_then s cleared nodes.step))) in
        placed_main a b p (kernel.Loop turns.Free (block_of n body d')) f (every_ended g) d (around_block n body d')
        (step_then s (block_step s n body f g d' inner) (every_flag_step g (around_block n body d'))) (around_parts n body d' ∙ begun_parts d)
        (λ place aims rel fine.
        let fine_g = (every_flag_step g d').back place fine in
        let fine4 = nodes.step.back place fine_g in
        let trail = (fine_acts place f (named.back place (wait.step.back place (cleared.back place fine4)))).1 in
        let in_aims = LoopAim d.node ∷ aims in
        let rel' = rel_step s place in_aims (loop_around a) (in_loop d.node b) f f4 d' d3 before (rel_loop s place aims a b f d rel) in (
          outside_trail place trail,
          holds_block place in_aims n body d'
              (nodes.holds place in_aims rel' fine_g
              (wait.holds place in_aims trail (holds_as place in_aims begin d2 (parts_of begin d2 (frame_if_used x begin)) (holds_opened place in_aims n d')))),
        ))

    pub block_main : (a : types_around.Around) (b : draft_around.Around) (blk : Block) → NoCodeInBlock blk → (f : Found) (d : Draft) →
        Inner a b f d (block_found s a blk f) (block_passed s t b blk d) (block_written s t b blk d)
    block_main a b (Block' _ list) k f d =
        let n = declared_in list in
        let nodes = nodes_main a b list k f (opened n d) in
        record {
          step = block_step s n (nodes_written s t b list) f (nodes_found s a list f) d nodes.step;
          same = around_parts n (nodes_written s t b list) d;
          stands = λ place aims rel fine.
              holds_block place aims n (nodes_written s t b list) d
              (nodes.holds place aims (rel_step s place aims a b f f d (opened n d) (opened_step s n f d) rel) fine (holds_opened place aims n d));
        }

    last_main : (a : types_around.Around) (b : draft_around.Around) (blk : Held-Stmt-If-1) → NoCodeInLast blk → (f : Found) (d : Draft) →
        Inner a b f d (last_found s a blk f) (last_passed s t b blk d) (last_written s t b blk d)
    last_main a b Stmt-If-1-None' k f d =
        record {
          step = block_step s 0 nothing_in f f d (none_step s f (opened 0 d));
          same = around_parts 0 nothing_in d;
          stands = λ place aims rel fine. holds_block place aims 0 nothing_in d (holds_opened place aims 0 d);
        }
    last_main a b (Stmt-If-1-Some' blk) k f d = block_main a b blk k f d

    pub nodes_main : {n : _} (a : types_around.Around) (b : draft_around.Around) (r : Row_of-Node n) → NoCodeInNodes r → (f : Found) (d : Draft) → Main a b f d (nodes_found s a r f) (nodes_written s t b r d)
    nodes_main a b end_of-Node k f d = record { step = none_step s f d; holds = λ place aims rel fine h. h }
    nodes_main a b (more_of-Node p st rest) k f d =
        let e = stmt_written s t b p st d in
        let g = stmt_found s a st (begun f) in
        main_then a b (node_main a b p f g d e (stmt_main a b p st k.0 (begun f) d)) (nodes_main a b rest k.1 (ended p f g) e)

    items_main : {n : _} (a : types_around.Around) (b : draft_around.Around) (p : Pos) (u : Ty) (r : Row_of-Item n) → NoCodeInItems r → (f : Found) (d : Draft) →
        ((place : Where) → Fine place f → IsTrue (outside_finalizers place)) → Main a b f d (items_found s a u r f) (items_written s t b p u r d)
    items_main a b p u end_of-Item k f d outside = record { step = none_step s f d; holds = λ place aims rel fine h. h }
    items_main a b p u (more_of-Item x v rest) k f d outside =
        let first = declared (kind.Var u) x d in
        let f' = name_typed u x f in
        let into = own d.parts.slot u in
        let named = typed_name_step s u x f first in
        let value = value_main a b p into u v k.0 refl f' first in
        main_then a b (of_part a b (declared_part s t (kind.Var u) x f d outside))
        (found_then a b named (main_then a b value
        (items_main a b p u rest k.1 (value_found s a u v f') (value_written s t b p into v first) (λ place fine. outside place (named.back place (value.step.back place fine))))))

    arms_main : {n : _} (a : types_around.Around) (b : draft_around.Around) (r : Row_of-Arm n) → NoCodeInArms r → (f : Found) (d : Draft) →
        Arms a b f d (arms_found s a r f) (arms_passed s t b r d) (arms_written s t b r d)
    arms_main a b end_of-Arm k f d = record { step = none_step s f d; same = refl; stand = λ place aims rel fine. tt }
    arms_main a b (more_of-Arm (Arm' c blk) rest) k f d =
        let f' = condition s c f in
        let d' = exp_passed c d in
        let asked = condition_step s c f d in
        let inner = block_main a b blk k.0 f' d' in
        let f'' = block_found s a blk f' in
        let d'' = block_passed s t b blk d' in
        let behind = arms_main a b rest k.1 f'' d'' in
        let first = step_then s asked inner.step in
        record {
          step = step_then s first behind.step;
          same = behind.same ∙ inner.same ∙ parts_of d d' (frame_exp c d);
          stand = λ place aims rel fine.
              let middle = behind.step.back place fine in
              (inner.stands place aims (rel_step s place aims a b f f' d d' asked rel) middle, behind.stand place aims (rel_step s place aims a b f f'' d d'' first rel) fine);
        }

    blocks_main : {n : _} (a : types_around.Around) (b : draft_around.Around) (r : Row_of-Block n) → NoCodeInBlocks r → (f : Found) (d : Draft) →
        Blocks a b f d (blocks_found s a r f) (blocks_passed s t b r d) (blocks_written s t b r d)
    blocks_main a b end_of-Block k f d = record { step = none_step s f d; same = refl; stand = λ place aims rel fine. tt }
    blocks_main a b (more_of-Block blk rest) k f d =
        let f' = block_found s a blk f in
        let d' = block_passed s t b blk d in
        let inner = block_main a b blk k.0 f d in
        let behind = blocks_main a b rest k.1 f' d' in
        record {
          step = step_then s inner.step behind.step;
          same = behind.same ∙ inner.same;
          stand = λ place aims rel fine. (inner.stands place aims rel (behind.step.back place fine), behind.stand place aims (rel_step s place aims a b f f' d d' inner.step rel) fine);
        }
