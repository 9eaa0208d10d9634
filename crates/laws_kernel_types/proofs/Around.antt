-- A statement with what is around it in the text and in the kernel; exits are typed.
use Rattle.std.proofs.Common.{◌≡◌, refl, ap, ◌∙◌, subst, ℕ, List, Option, Some, None, Ok, true, false}
use Rattle.std.specs.Prelude.{⊤}
use Rattle.ceu_base.specs.declared.kinds.Ty.{Ty}
use Rattle.ceu_base.specs.declared.kinds.Pos.{Pos}
use Rattle.ceu_base.specs.declared.kinds.Rule.TheVariants.{T5}
use Rattle.ceu_tree.specs.declared.source.Ident.{Ident}
use Rattle.ceu_tree.specs.declared.source.Exp.{Exp}
use Rattle.ceu_tree.specs.declared.kernel.Kernel.{Kernel}
use Rattle.ceu_tree.specs.declared.kernel.KStmt as kernel
use Rattle.ceu_tree.specs.declared.kernel.KStmt.{KStmt}
use Rattle.ceu_tree.specs.Proper.{Aim, Where, outside_finalizers}
use Rattle.ceu_scopes.specs.declared.known.Scopes.{Scopes}
use Rattle.ceu_scopes.specs.declared.walk.Walk.{Walk}
use Rattle.ceu_scopes.specs.Names.{if_exp_walked, escape_walked, leave_walked}
use Rattle.ceu_types.specs.declared.typing.Types.{Types}
use Rattle.ceu_types.specs.declared.found.Found.{Found}
use Rattle.ceu_types.specs.declared.around.Around as types_around
use Rattle.ceu_types.specs.Notes.{asks_own, not_in_finalizer, begun, ended}
use Rattle.ceu_types.specs.Expressions.{or_none}
use Rattle.ceu_types.specs.Around as types
use Rattle.ceu_types.specs.Around.{target_takes, takes_value, jumped}
use Rattle.ceu_types.specs.Statements.{if_given, escape_found}
use Rattle.ceu_expand.specs.declared.around.Around as draft_around
use Rattle.ceu_expand.specs.declared.draft.Draft.{Draft}
use Rattle.ceu_expand.specs.Draft as draft
use Rattle.ceu_expand.specs.Draft.{placed}
use Rattle.ceu_expand.specs.Uses as uses
use Rattle.ceu_expand.specs.Expressions.{if_exp_passed, if_exp_written}
use Rattle.ceu_expand.specs.Parts.{simple, escaped}
use Rattle.laws_kernel_shape.proofs.Frames.{frame_if_exp}
use Rattle.laws_kernel_shape.specs.Exits.{taken_at}
use Rattle.laws_kernel_shape.proofs.Fine.{Fine, fine_own, fine_async, fine_finalizer, fine_ended, fine_begun}
use Rattle.laws_kernel_shape.proofs.Held.{Rel, rel_step}
use Rattle.laws_kernel_types.specs.Typed.{MaybeGiven, StmtTyped}
use Rattle.laws_kernel_types.proofs.Noting as noting
use Rattle.laws_kernel_types.proofs.Passing.{if_given_step, left_step, escape_step, jumped_step}
use Rattle.laws_kernel_types.proofs.Expressing.{At}
use Rattle.laws_kernel_types.proofs.Naming.{then_ok, goes_then}
use Rattle.laws_kernel_types.proofs.Walking.{if_exp_goes, escape_goes}
use Rattle.laws_kernel_types.proofs.Running.{Step, Run, of_goes, step_then, found_step, first_run, last_run, around_step, inside_run}
use Rattle.laws_kernel_types.proofs.Holding.{Holds, holds_placed}
use Rattle.laws_kernel_types.proofs.Leaves.{PartIf, parts_of, begun_parts, on_ty, maybe_given}
use Rattle.laws_kernel_types.proofs.Wrapping.{ended_same, begun_same, wrap_step, wrap_run}

module _ (s : Scopes) (t : Types) (numbers : List ℕ) (K : Kernel) (code : Option ℕ) where
  -- a statement, with what is around it in the text and in the kernel, where this is so
  pub record MainIf (Q : Type 0) (a : types_around.Around) (b : draft_around.Around) (w : Walk) (f : Found) (d : Draft) (v : Walk) (g : Found) (e : Draft) : Type 0 where
    pub step : Step s t numbers K code w f d v g e
    pub holds : Q → (place : Where) (aims : List Aim) → Rel s place aims a b f d → Run s t numbers K code place w f d v g e → Holds K code aims d → Holds K code aims e

  abbrev pub Main : types_around.Around → draft_around.Around → Walk → Found → Draft → Walk → Found → Draft → Type 0
  Main a b w f d v g e = MainIf ⊤ a b w f d v g e

  -- parts of a statement, which leave the block around as it is
  pub record Inner (a : types_around.Around) (b : draft_around.Around) (w : Walk) (f : Found) (d : Draft) (v : Walk) (g : Found) (e : Draft) (U : List Aim → Type 0) : Type 0 where
    pub step : Step s t numbers K code w f d v g e
    pub same : e.parts ≡ d.parts
    pub typed : (place : Where) (aims : List Aim) → Rel s place aims a b f d → Run s t numbers K code place w f d v g e → U aims

  module _ (a : types_around.Around) (b : draft_around.Around) where
    pub of_part : {Q : Type 0} {w v : Walk} {f g : Found} {d e : Draft} → PartIf s t numbers K code Q w f d v g e → MainIf Q a b w f d v g e
    of_part p = record { step = p.step; holds = λ q place aims rel. p.holds q place aims }

    pub main_then : {Q : Type 0} {w v u : Walk} {f g h : Found} {d e c : Draft} → MainIf Q a b w f d v g e → MainIf Q a b v g e u h c → MainIf Q a b w f d u h c
    main_then {f = f} {g = g} {d = d} {e = e} x y =
        record {
          step = step_then s t numbers K code x.step y.step;
          holds = λ q place aims rel run k.
              y.holds q place aims (rel_step s place aims a b f g d e x.step.notes.under rel) (last_run s t numbers K code place x.step y.step run) (x.holds q place aims rel (first_run s t numbers K code place y.step run) k);
        }

    -- a step of the walk through types alone comes first
    pub found_then : {Q : Type 0} {w v : Walk} {f g h : Found} {d c : Draft} → noting.Step s t f d g d → MainIf Q a b w g d v h c → MainIf Q a b w f d v h c
    found_then {w = w} {f = f} {g = g} {d = d} x y =
        let first = found_step s t numbers K code w f g d x in
        record {
          step = step_then s t numbers K code first y.step;
          holds = λ q place aims rel run k. y.holds q place aims (rel_step s place aims a b f g d d x.under rel) (last_run s t numbers K code place first y.step run) k;
        }

    pub placed_main : (Q : Type 0) (p : Pos) (st : KStmt) (w v : Walk) (f g : Found) (d e : Draft) → Step s t numbers K code w f (draft.begun d) v g e → e.parts ≡ d.parts →
        (Q → (place : Where) (aims : List Aim) → Rel s place aims a b f d → Run s t numbers K code place w f (draft.begun d) v g e → StmtTyped K code aims d.node st) → MainIf Q a b w f d v g (placed d.node p st e)
    placed_main Q p st w v f g d e step same typed =
        record {
          step = around_step s t numbers K code d.node p st w v f g d e step;
          holds = λ q place aims rel run h. holds_placed K code aims d.node p st d e same (typed q place aims rel (inside_run s t numbers K code place d.node p st w v f g d e step run)) h;
        }

    pub if_main : {Q : Type 0} {w v : Walk} {f g : Found} {d e : Draft} → Q → MainIf Q a b w f d v g e → Main a b w f d v g e
    if_main q m = record { step = m.step; holds = λ k. m.holds q }

    -- ---- exits

    pub jump_main : (p : Pos) (st : KStmt) (w : Walk) (f : Found) (d : Draft) → ((aims : List Aim) → StmtTyped K code aims d.node st) → Main a b w f d w (jumped a (not_in_finalizer f)) (simple p st d)
    jump_main p st w f d typed =
        let d' = draft.begun d in
        placed_main ⊤ p st w w f (jumped a (not_in_finalizer f)) d d'
        (found_step s t numbers K code w f (jumped a (not_in_finalizer f)) d' (noting.step_then s t (noting.finalizer_step s t f d') (jumped_step s t a (not_in_finalizer f) d'))) (begun_parts d) (λ q place aims rel run. typed aims)

    left_back : (place : Where) (r : Option Ty) (x : Option Exp) (f : Found) → Fine place (types.escaped r x f) → (u : Ty) × (r ≡ Some u) × (takes_value u x ≡ true) × Fine place f
    unfolding types.escaped
    left_back place None x f h = let broken : (false ≡ true) = (fine_own place false T5 f (fine_async place (asks_own false T5 f) h).0).0 in absurd (cc)
    left_back place (Some u) x f h = let k = fine_own place (takes_value u x) T5 f h in (u, refl, k.0, k.1)

    target_here : (place : Where) (aims : List Aim) (f : Found) (d : Draft) → Rel s place aims a b f d → outside_finalizers place ≡ true → (l : Option Ident) (u : Ty) → target_takes a f l ≡ Some u → taken_at (uses.target b l d) aims ≡ Some u
    unfolding target_takes uses.target
    target_here place aims f d rel o None u h = rel.plain o u h
    target_here place aims f d rel o (Some l) u h = rel.labels o l.name u h

    pub escape_main : (p : Pos) (l : Option Ident) (x : Option Exp) (w v : Walk) (f : Found) (d : Draft) → leave_walked l x w ≡ Ok v → Main a b w f d v (escape_found s a l x f) (escaped s t b p l x d)
    unfolding escape_found escaped StmtTyped
    escape_main p l x w v f d h =
        let r = target_takes a f l in
        let d' = draft.begun d in
        let c = if_exp_passed x d' in
        let k = then_ok (escape_walked l w) (if_exp_walked x) v h in
        let f1 = not_in_finalizer f in
        let f2 = types.escaped r x f1 in
        let g = if_given s x (or_none r) f2 in
        let first = noting.step_then s t (noting.finalizer_step s t f d') (left_step s t r x f1 d') in
        let last = if_given_step s t x (or_none r) f2 d' in
        placed_main ⊤ p (kernel.Escape (uses.target b l d) (if_exp_written s t x d')) w v f g d c
        (of_goes s t numbers K code (escape_step s t a l x f d') (goes_then s numbers K code (escape_goes s numbers K code l w k.0 d' k.1) (if_exp_goes s numbers K code x k.0 v d' k.2)))
        (parts_of d' c (frame_if_exp x d') ∙ begun_parts d)
        (λ q place aims rel run.
        let left = left_back place r x f1 (last.under.back place run.fine) in
        let o : outside_finalizers place ≡ true = (fine_finalizer place f left.3).1 in
        let at : At s t place f2 d' (if_given s x left.0 f2) =
        subst (λ u. At s t place f2 d' (if_given s x u f2)) (ap or_none left.1) (record { fine = run.fine; more = run.more; level = first.under.level run.level; count = first.counts run.count }) in
        on_ty (taken_at (uses.target b l d) aims) left.0 (λ u. MaybeGiven u (if_exp_written s t x d')) (target_here place aims f d rel o l left.0 left.1) (maybe_given s t place left.0 x f2 d' left.2 at))

    -- ---- a statement begins and ends

    rel_begun : (place : Where) (aims : List Aim) (f : Found) (d : Draft) → Rel s place aims a b f d → Rel s place aims a b (begun f) d
    unfolding begun
    rel_begun place aims f d h = record { level = h.level; plain = h.plain; turns = h.turns; labels = h.labels; fresh = h.fresh }

    pub node_main : (p : Pos) (w v : Walk) (f g : Found) (d e : Draft) → Main a b w (begun f) d v g e → Main a b w f d v (ended p f g) e
    node_main p w v f g d e m =
        let x = ended_same s p f g in
        let y = begun_same s f in
        record {
          step =
              wrap_step s t numbers K code w v f (begun f) g (ended p f g) d e y.1 x.1 (x.0 ∙ m.step.notes.under.labels ∙ y.0) y.2 x.2 m.step
              (λ place h. let k = fine_ended place p f g h in fine_begun place f k.0 k.1 (m.step.notes.under.back place k.2)) (λ place h. (place, (fine_ended place p f g h).2));
          holds = λ q place aims rel run h.
              m.holds q place aims (rel_begun place aims f d rel) (wrap_run s t numbers K code place place w v f (begun f) g (ended p f g) d e y.1 y.2 x.2 (fine_ended place p f g run.fine).2 run) h;
        }
