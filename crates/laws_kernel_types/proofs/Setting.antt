-- Variables that are set or declared, the await of an `every`, and asyncs.
use Rattle.std.proofs.Common.{◌≡◌, refl, sym, ap, ◌∙◌, subst, ℕ, ◌+◌, length, arith, List, [], Option, Some, None, Result, Ok, true, false}
use Rattle.std.specs.Prelude.{⊤, not}
use Rattle.ceu_base.specs.declared.kinds.Ty.{Ty}
use Rattle.ceu_base.specs.declared.kinds.Ty.TheVariants as ty
use Rattle.ceu_base.specs.declared.kinds.Pos.{Pos}
use Rattle.ceu_tree.specs.declared.source.Class.TheVariants as class
use Rattle.ceu_tree.specs.declared.source.Ident.{Ident}
use Rattle.ceu_tree.specs.declared.source.Target.{Target}
use Rattle.ceu_tree.specs.declared.source.Source as source
use Rattle.ceu_tree.specs.declared.source.Source.{Source}
use Rattle.ceu_tree.specs.declared.source.Item.{Held-Item-value, Item-value-None', Item-value-Some'}
use Rattle.ceu_tree.specs.declared.kernel.Kernel.{Kernel}
use Rattle.ceu_tree.specs.declared.kernel.Loc.{Loc}
use Rattle.ceu_tree.specs.declared.kernel.KKind.TheVariants as kind
use Rattle.ceu_tree.specs.declared.kernel.KStmt as kernel
use Rattle.ceu_tree.specs.Typing.{same_ty}
use Rattle.ceu_tree.specs.Proper.{Where, InsideAsync}
use Rattle.ceu_scopes.specs.declared.known.Role.TheVariants as role
use Rattle.ceu_scopes.specs.declared.known.Scopes.{Scopes}
use Rattle.ceu_scopes.specs.declared.walk.Walk.{Walk}
use Rattle.ceu_scopes.specs.Walk as walk
use Rattle.ceu_scopes.specs.Walk.{Broken, ◌>>=◌, opened, closed, shown, fresh}
use Rattle.ceu_scopes.specs.Rules.{named, declared}
use Rattle.ceu_scopes.specs.Names.{value_broken, every_walked, target_walked, name_listed, source_walked}
use Rattle.ceu_types.specs.declared.typing.Types.{Types}
use Rattle.ceu_types.specs.declared.found.Found.{Found}
use Rattle.ceu_types.specs.declared.around.Around as types_around
use Rattle.ceu_types.specs.Notes.{past, passed}
use Rattle.ceu_types.specs.Uses.{use_type}
use Rattle.ceu_types.specs.Around.{async_around}
use Rattle.ceu_types.specs.Statements.{target_found, target_type, taken, waits, acts, await_found, await_type, name_typed, uses_passed, every_takes, async_ended}
use Rattle.ceu_expand.specs.declared.around.Around as draft_around
use Rattle.ceu_expand.specs.declared.draft.Draft.{Draft}
use Rattle.ceu_expand.specs.Draft as draft
use Rattle.ceu_expand.specs.Draft.{in_loop, in_do, hidden, placed, block_of, around_block, standing, event_declared, input_declared, output_declared, own}
use Rattle.ceu_expand.specs.Lists.{each}
use Rattle.ceu_expand.specs.Uses as uses
use Rattle.ceu_expand.specs.Uses.{variable, if_variable, if_used}
use Rattle.ceu_expand.specs.Parts.{awaited, target_awaited, name_passed}
use Rattle.laws_kernel_shape.proofs.Frames.{frame_used, frame_each}
use Rattle.laws_kernel_names.proofs.Stepping.{length_more}
use Rattle.laws_kernel_shape.proofs.Fine.{Fine, fine_as, fine_passed}
use Rattle.laws_kernel_shape.proofs.Beside as exits
use Rattle.laws_kernel_shape.proofs.Beside.{same_type}
use Rattle.laws_kernel_shape.proofs.Held.{rel_step, rel_async}
use Rattle.laws_kernel_types.specs.Times.{AwaitTimed, TargetTimed}
use Rattle.laws_kernel_types.specs.Typed.{LocTyped, MaybeTakes, StmtTyped, BlockTyped}
use Rattle.laws_kernel_types.proofs.Noting as noting
use Rattle.laws_kernel_types.proofs.Noting.{none_step, acts_step, waits_step, finalizer_step, hidden_step, declared_step, used_step}
use Rattle.laws_kernel_types.proofs.Passing.{taken_step, typed_name_step, names_step}
use Rattle.laws_kernel_types.proofs.Meaning.{HasType}
use Rattle.laws_kernel_types.proofs.Naming.{then_ok, ok_is, Goes, named_ok, named_goes, declared_ok, declared_goes, shown_by, stands_there}
use Rattle.laws_kernel_types.proofs.Walking.{list_goes}
use Rattle.laws_kernel_types.proofs.Using.{written_here}
use Rattle.laws_kernel_types.proofs.Running.{Step, Run, of_goes, step_then, found_step, last_run}
use Rattle.laws_kernel_types.proofs.Holding.{holds_as, holds_declared}
use Rattle.laws_kernel_types.proofs.Leaves.{Part, same_part, parts_of, begun_parts}
use Rattle.laws_kernel_types.proofs.Awaiting.{target_part, await_part}
use Rattle.laws_kernel_types.proofs.Declaring.{declared_takes, means_there}
use Rattle.laws_kernel_types.proofs.Wrapping.{fine_left, left_names, left_labels, entered_async, fine_entered, async_ended_types, wrap_step, wrap_run}
use Rattle.laws_kernel_types.proofs.Around.{MainIf, Main, Inner, of_part, main_then, placed_main}
use Rattle.laws_kernel_types.proofs.Blocks.{taken_names, taken_same, passed_names, taken_takes, name_has_type}

-- what a variable or an alias needs that is set so
abbrev pub Wants : Source → Ty → Loc → Type 0
Wants (source.Start x) u into = ⊤
Wants _ u into = (u ≡ into.ty) × LocTyped into

abbrev pub WantsValue : Held-Item-value → Ty → Loc → Type 0
WantsValue Item-value-None' u into = LocTyped into
WantsValue (Item-value-Some' v) u into = Wants v u into

pub wants_value : (v : Held-Item-value) (u : Ty) (into : Loc) → u ≡ into.ty → LocTyped into → WantsValue v u into
wants_value Item-value-None' u into same h = h
wants_value (Item-value-Some' (source.Value e)) u into same h = (same, h)
wants_value (Item-value-Some' (source.Wait e)) u into same h = (same, h)
wants_value (Item-value-Some' (source.Start e)) u into same h = tt
wants_value (Item-value-Some' (source.Done e)) u into same h = (same, h)

module _ (s : Scopes) (t : Types) (numbers : List ℕ) (K : Kernel) (code : Option ℕ) where
  pub moved_main : (a : types_around.Around) (b : draft_around.Around) (w v : Walk) (f g : Found) (d e : Draft) (x : Result Walk Broken) → x ≡ Ok w → x ≡ Ok v → Main s t numbers K code a b w f d w g e → Main s t numbers K code a b w f d v g e
  moved_main a b w v f g d e x i k m = subst (λ v. Main s t numbers K code a b w f d v g e) (ok_is w v x i k) m

  -- ---- a variable that is set

  pub assign_main : (a : types_around.Around) (b : draft_around.Around) (x : Ident) (w u v : Walk) (f g : Found) (d e : Draft) → named role.Written x w ≡ Ok u →
      MainIf s t numbers K code ((use_type s f.names ≡ (variable s x d).ty) × LocTyped (variable s x d)) a b u (passed s f) (uses.used d) v g e → Main s t numbers K code a b w f d v g e
  unfolding variable
  assign_main a b x w u v f g d e h value =
      let first = of_goes s t numbers K code (used_step s t f d) (named_goes s numbers K code role.Written x w u d h) in
      record {
        step = step_then s t numbers K code first value.step;
        holds = λ q place aims rel run k.
            let name = named_ok s numbers K code role.Written x w u h in
            let here = (written_here s numbers K code x w u d name run.now (value.step.ends run.ends)).1 in
            value.holds (same_type s f.names d.uses rel.level, ap (λ y. not (same_ty y ty.None)) here.typed ∙ here.so) place aims
            (rel_step s place aims a b f (passed s f) d (uses.used d) first.notes.under rel) (last_run s t numbers K code place first value.step run) (holds_as K code aims d (uses.used d) (parts_of d (uses.used d) (frame_used d)) k);
      }

  pub alias_main : (a : types_around.Around) (b : draft_around.Around) (w u v : Walk) (f g : Found) (d e : Draft) → Goes s numbers K code w d u (uses.used d) → Main s t numbers K code a b u (passed s f) (uses.used d) v g e → Main s t numbers K code a b w f d v g e
  alias_main a b w u v f g d e goes value =
      main_then s t numbers K code a b (of_part s t numbers K code a b (same_part s t numbers K code ⊤ w u f (passed s f) d (uses.used d) (of_goes s t numbers K code (used_step s t f d) goes) (parts_of d (uses.used d) (frame_used d)))) value

  -- an await whose value a variable takes
  pub wait_main : (a : types_around.Around) (b : draft_around.Around) (p : Pos) (into : Loc) (u : Ty) (x : _) → AwaitTimed x → (w v : Walk) (f : Found) (d : Draft) → source_walked (source.Wait x) w ≡ Ok v →
      MainIf s t numbers K code ((u ≡ into.ty) × LocTyped into) a b w f d v (await_found s x (taken u (await_type s x f.names) (waits f))) (awaited s t p (Some into) x d)
  unfolding source_walked
  wait_main a b p into u x timed w v f d h =
      let value = await_type s x f.names in
      let f1 = taken u value (waits f) in
      let first = found_step s t numbers K code w f f1 d (noting.step_then s t (waits_step s t f d) (taken_step s t u value (waits f) d)) in
      let part = await_part s t numbers K code p (Some into) x timed w v f1 d h in
      record {
        step = step_then s t numbers K code first part.step;
        holds = λ q place aims rel run k.
            let takes = taken_takes place u value (waits f) into (part.step.notes.under.back place run.fine) q.0 in
            part.holds (subst (λ n. MaybeTakes (await_type s x n) (Some into)) (sym (taken_names s u value f)) takes) place aims (last_run s t numbers K code place first part.step run) k;
      }

  -- ---- names that take no slots

  pub names_main : (a : types_around.Around) (b : draft_around.Around) (w v : Walk) (f : Found) (d e : Draft) → noting.Step s t (acts f) d (acts f) e → e.parts ≡ d.parts → Goes s numbers K code w d v e → Main s t numbers K code a b w f d v (acts f) e
  names_main a b w v f d e notes same goes =
      of_part s t numbers K code a b (same_part s t numbers K code ⊤ w v f (acts f) d e (of_goes s t numbers K code (noting.step_then s t (acts_step s t f d) notes) goes) same)

  pub names_parts : (xs : List Ident) (d : Draft) → (each name_passed xs d).parts ≡ d.parts
  names_parts xs d = parts_of d (each name_passed xs d) (frame_each name_passed (λ x e. frame_used e) xs d)

  -- ---- asyncs

  pub async_main : (a : types_around.Around) (b : draft_around.Around) (p : Pos) (xs : List Ident) (made : _) (w v : Walk) (q : List ℕ × Walk) (f g : Found) (d e : Draft) → walk.each name_listed xs ([], w) ≡ Ok q →
      Inner s t numbers K code async_around b q.1 (uses_passed s xs (entered_async s f)) (each name_passed xs (draft.begun d)) v g e (λ aims. BlockTyped K code aims made) → Main s t numbers K code a b w f d v (async_ended f.labels g) (placed d.node p (kernel.Async made) e)
  unfolding StmtTyped
  async_main a b p xs made w v q f g d e h inner =
      let d' = draft.begun d in
      let f' = entered_async s f in
      let f'' = uses_passed s xs f' in
      let inside = each name_passed xs d' in
      let names = of_goes s t numbers K code (names_step s t xs f' d') (list_goes s numbers K code xs ([], w) q d' h) in
      let whole = step_then s t numbers K code names inner.step in
      let step =
      wrap_step s t numbers K code w v f f' g (async_ended f.labels g) d' e refl (left_names s f.labels g) (left_labels s f.labels g) refl (async_ended_types s t f.labels g) whole
      (λ place k. let c = fine_left s place f.labels g k in fine_entered s place f c.0 (whole.notes.under.back InsideAsync c.1)) (λ place k. (InsideAsync, (fine_left s place f.labels g k).1)) in
      placed_main s t numbers K code a b ⊤ p (kernel.Async made) w v f (async_ended f.labels g) d e step (inner.same ∙ names_parts xs d' ∙ begun_parts d)
      (λ q place aims rel run.
      let c = fine_left s place f.labels g run.fine in
      let run' = wrap_run s t numbers K code place InsideAsync w v f f' g (async_ended f.labels g) d' e refl refl (async_ended_types s t f.labels g) c.1 run in
      let after = last_run s t numbers K code InsideAsync names inner.step run' in
      inner.typed InsideAsync [] (rel_async s b f'' inside names.notes.under.labels after.level) after)

  -- ---- a variable that is declared

  pub item_main : (a : types_around.Around) (b : draft_around.Around) (u : Ty) (x : Ident) (y : Held-Item-value) (w w1 w2 v : Walk) (f g : Found) (d e : Draft) → declared class.Var u (value_broken y) x w ≡ Ok w1 → shown x (fresh class.Var 0 w) w2 ≡ Ok v →
      MainIf s t numbers K code (WantsValue y u (own d.parts.slot u)) a b w1 (name_typed u x f) (draft.declared (kind.Var u) x d) w2 g e → Main s t numbers K code a b w f d v g e
  item_main a b u x y w w1 w2 v f g d e h i value =
      let into = own d.parts.slot u in
      let f' = name_typed u x f in
      let first = draft.declared (kind.Var u) x d in
      let takes = declared_takes s numbers K code (kind.Var u) x d in
      let goes = declared_goes s numbers K code class.Var u (value_broken y) x d.parts.slot w w1 d first refl takes h in
      let one = of_goes s t numbers K code (noting.step_then s t (typed_name_step s t u x f d) (declared_step s t (kind.Var u) x f' d)) goes in
      let two = value.step in
      let show = shown_by s numbers K code x (fresh class.Var 0 w) w2 v e i in
      let has_type : (place : Where) → Fine place g → not (same_ty u ty.None) ≡ true = λ place fine. name_has_type place u x f (two.notes.under.back place fine) in
      let more : length w1.decls ≡ length w.decls + 1 = ap (λ (w : Walk). length w.decls) (declared_ok s numbers K code class.Var u (value_broken y) x w w1 h) ∙ length_more w.decls _ in
      let up1 = one.up in
      let up2 = two.up in
      let same : length v.decls ≡ length w2.decls = ap length show.decls in
      record {
        step = record {
          notes = noting.step_then s t one.notes two.notes;
          ends = λ k. one.ends (two.ends (show.ends k));
          now = λ place fine k now.
              let below = show.ends k in
              let inner = two.ends below in
              let later = two.now place fine below (one.now place (two.notes.under.back place fine) inner now) in
              let count = later.decls in
              let there = stands_there s numbers K code class.Var u (value_broken y) x d.parts.slot w w1 d first h takes.takes inner.decls inner.given now HasType (λ z p q. ap (λ r. not (same_ty r ty.None)) q ∙ has_type place fine) in
              show.now (means_there s numbers K code class.Var 0 (length e.numbers) w (omega (arith, more, up2, count)) there) later;
          rest = show.rest ∙ two.rest ∙ one.rest;
          up = omega (arith, up1, up2, same);
        };
        holds = λ q place aims rel run k.
            let typed = has_type place run.fine in
            let run1 : Run s t numbers K code place w f d w2 g e = record { level = run.level; count = run.count; now = run.now; fine = run.fine; more = run.more; ends = show.ends run.ends } in
            value.holds (wants_value y u into refl typed) place aims (rel_step s place aims a b f f' d first one.notes.under rel) (last_run s t numbers K code place one two run1) (holds_declared K code aims (kind.Var u) x d typed k);
      }

  -- ---- the await of an `every`

  pub every_part : (p : Pos) (x : Option Ident) (target : Target) → TargetTimed target → (w v : Walk) (f : Found) (d : Draft) → every_walked x target w ≡ Ok v →
      Part s t numbers K code w f d v (target_found s target (every_takes s x target f)) (target_awaited s t p (if_variable s x d) target (if_used x d))
  unfolding variable
  every_part p None target timed w v f d h = target_part s t numbers K code p None target timed w v f d h
  every_part p (Some x) target timed w v f d h =
      let u = use_type s f.names in
      let value = target_type s target (past s f.names) in
      let f1 = taken u value f in
      let f2 = passed s f1 in
      let d2 = uses.used d in
      let into = variable s x d in
      let m = then_ok (named role.Written x w) (target_walked target) v h in
      let first = of_goes s t numbers K code (noting.step_then s t (taken_step s t u value f d) (used_step s t f1 d)) (named_goes s numbers K code role.Written x w m.0 d m.1) in
      let part = target_part s t numbers K code p (Some into) target timed m.0 v f2 d2 m.2 in
      let names : f2.names ≡ past s f.names = passed_names s f1 ∙ ap (past s) (taken_same s u value f) in
      record {
        step = step_then s t numbers K code first part.step;
        holds = λ q place aims run k.
            let takes = taken_takes place u value f into (fine_passed s place f1 (part.step.notes.under.back place run.fine)) (same_type s f.names d.uses run.level) in
            part.holds (subst (λ n. MaybeTakes (target_type s target n) (Some into)) (sym names) takes) place aims (last_run s t numbers K code place first part.step run) (holds_as K code aims d d2 (parts_of d d2 (frame_used d)) k);
      }

  pub cleared_step : (w : Walk) (f : Found) (d : Draft) → Step s t numbers K code w f d w (record f { beyond_every = false }) d
  cleared_step w f d =
      let g : Found = record f { beyond_every = false } in
      found_step s t numbers K code w f g d (noting.found_step s t f g d (exits.found_step s f g d refl refl (λ place h. fine_as place f g refl refl refl refl h)) refl)
