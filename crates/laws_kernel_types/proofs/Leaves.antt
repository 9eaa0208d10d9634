-- Statements without blocks of the text's own are typed.
use Rattle.std.proofs.Common.{◌≡◌, refl, sym, ap, ◌∙◌, subst, ℕ, List, Option, Some, None, Ok, true, false, ◌⊎◌, inl, inr}
use Rattle.std.specs.Prelude.{⊤, pos, not}
use Rattle.ceu_base.specs.declared.kinds.Ty.{Ty}
use Rattle.ceu_base.specs.declared.kinds.Ty.TheVariants as ty
use Rattle.ceu_base.specs.declared.kinds.Pos.{Pos}
use Rattle.ceu_base.specs.declared.kinds.Rule.TheVariants.{T4}
use Rattle.ceu_tree.specs.declared.source.Class.TheVariants as class
use Rattle.ceu_tree.specs.declared.source.Ident.{Ident}
use Rattle.ceu_tree.specs.declared.source.Spawn.{Spawn}
use Rattle.ceu_tree.specs.declared.source.Exp.{Exp}
use Rattle.ceu_tree.specs.declared.kernel.Kernel.{Kernel}
use Rattle.ceu_tree.specs.declared.kernel.KCode.{KCode}
use Rattle.ceu_tree.specs.declared.kernel.Loc.{Loc}
use Rattle.ceu_tree.specs.declared.kernel.KStmt as kernel
use Rattle.ceu_tree.specs.declared.kernel.KStmt.{KStmt}
use Rattle.ceu_tree.specs.Typing.{same_ty, node_typed, node_open}
use Rattle.ceu_tree.specs.Leaf.{code_at}
use Rattle.ceu_tree.specs.Proper.{Aim, Where, port_ty, event_at}
use Rattle.ceu_scopes.specs.declared.known.Role.TheVariants as role
use Rattle.ceu_scopes.specs.declared.known.Scopes.{Scopes}
use Rattle.ceu_scopes.specs.declared.walk.Walk.{Walk}
use Rattle.ceu_scopes.specs.Rules.{named, used, pool_used}
use Rattle.ceu_scopes.specs.Names.{exp_walked, exps_walked, if_exp_walked, emit_walked, spawned, spawn_walked}
use Rattle.ceu_types.specs.declared.typing.Types.{Types}
use Rattle.ceu_types.specs.declared.found.Found.{Found}
use Rattle.ceu_types.specs.Typing.{is_none_type}
use Rattle.ceu_types.specs.Notes.{asks_own, passed, not_in_async, not_in_finalizer}
use Rattle.ceu_types.specs.Uses.{use_type}
use Rattle.ceu_types.specs.Expressions.{given}
use Rattle.ceu_types.specs.Around.{takes_value}
use Rattle.ceu_types.specs.Statements.{if_given, call_found, spawn_found, emitted, emit_found, acts}
use Rattle.ceu_expand.specs.declared.draft.Draft.{Draft}
use Rattle.ceu_expand.specs.Draft.{begun, hidden, placed}
use Rattle.ceu_expand.specs.Lists.{each, gathered}
use Rattle.ceu_expand.specs.Uses.{names_output, use_number}
use Rattle.ceu_expand.specs.Uses as uses
use Rattle.ceu_expand.specs.Expressions.{constant, exp_passed, if_exp_passed, exp_written, if_exp_written}
use Rattle.ceu_expand.specs.Parts as parts
use Rattle.ceu_expand.specs.Parts.{simple, zeroed, assigned, sent, started, killed}
use Rattle.laws_kernel_shape.proofs.Frames.{frame, frame_used, frame_exp, frame_if_exp, frame_each}
use Rattle.laws_kernel_shape.proofs.Fine.{Fine, fine_own, fine_passed}
use Rattle.laws_kernel_shape.proofs.Beside.{same_type}
use Rattle.laws_kernel_types.specs.Typed.{ExpGiven, MaybeGiven, ArgsGiven, LocTyped, OnTy, OnCode, event_ty, StmtTyped}
use Rattle.laws_kernel_types.proofs.Meeting.{implied, is_none, not_none}
use Rattle.laws_kernel_types.proofs.Noting as noting
use Rattle.laws_kernel_types.proofs.Noting.{none_step}
use Rattle.laws_kernel_types.proofs.Passing.{given_step, if_given_step, emitted_step, emit_step, spawn_step}
use Rattle.laws_kernel_types.proofs.Expressing.{At}
use Rattle.laws_kernel_types.proofs.Giving.{given_ok}
use Rattle.laws_kernel_types.proofs.Arguments.{call_given}
use Rattle.laws_kernel_types.proofs.Meaning.{PortIs, EventIs}
use Rattle.laws_kernel_types.proofs.Naming.{then_ok, Here, goes_then, named_ok, used_ok, named_goes, used_goes, pool_goes}
use Rattle.laws_kernel_types.proofs.Walking.{calm_same, exp_goes, exps_go, if_exp_goes}
use Rattle.laws_kernel_types.proofs.Using.{emitted_here, code_here}
use Rattle.laws_kernel_types.proofs.Running.{Step, Run, of_goes, step_then, calm_step, first_run, last_run, at_run, around_step, inside_run}
use Rattle.laws_kernel_types.proofs.Holding.{Holds, holds_as, holds_placed}

-- ---- the parts of a draft stay

pub parts_of : (d e : Draft) → frame e ≡ frame d → e.parts ≡ d.parts
parts_of d e h = ap (λ (x : Draft). x.parts) h

pub begun_parts : (d : Draft) → (begun d).parts ≡ d.parts
unfolding begun
begun_parts d = refl

pub begun_uses : (d : Draft) → (begun d).uses ≡ d.uses
unfolding begun
begun_uses d = refl

pub hidden_parts : (n : ℕ) (d : Draft) → (hidden n d).parts ≡ d.parts
unfolding hidden
hidden_parts n d = refl

-- zero, or false
zero_given : (p : Pos) (u : Ty) → not (same_ty u ty.None) ≡ true → ExpGiven u (constant u p (pos 0))
unfolding node_typed node_open
zero_given p ty.None h reads asks leaves = absurd (cc)
zero_given p ty.Bool h reads asks leaves = refl
zero_given p ty.U8 h reads asks leaves = refl
zero_given p ty.S8 h reads asks leaves = refl
zero_given p ty.U16 h reads asks leaves = refl
zero_given p ty.S16 h reads asks leaves = refl
zero_given p ty.U32 h reads asks leaves = refl
zero_given p ty.S32 h reads asks leaves = refl
zero_given p ty.U64 h reads asks leaves = refl
zero_given p ty.S64 h reads asks leaves = refl

-- what has this type
pub on_ty : (o : Option Ty) (u : Ty) (P : Ty → Type 0) → o ≡ Some u → P u → OnTy o P
on_ty o u P e h = subst (λ o. OnTy o P) (sym e) h

pub on_code : (o : Option KCode) (c : KCode) (P : KCode → Type 0) → o ≡ Some c → P c → OnCode o P
on_code o c P e h = subst (λ o. OnCode o P) (sym e) h

module _ (s : Scopes) (t : Types) where
  -- a value exactly where there is one to be given
  pub maybe_given : (place : Where) (u : Ty) (x : Option Exp) (f : Found) (d : Draft) → takes_value u x ≡ true → At s t place f d (if_given s x u f) → MaybeGiven u (if_exp_written s t x d)
  unfolding takes_value
  maybe_given place u None f d h at = implied (is_none_type u) (same_ty u ty.None) (is_none u) h
  maybe_given place u (Some e) f d h at = (implied (not (is_none_type u)) (not (same_ty u ty.None)) (not_none u) h, given_ok s t place e u f d at)

  module _ (numbers : List ℕ) (K : Kernel) (code : Option ℕ) where
    -- a statement of the text, by both walks and by the draft, where this is so
    pub record PartIf (Q : Type 0) (w : Walk) (f : Found) (d : Draft) (v : Walk) (g : Found) (e : Draft) : Type 0 where
      pub step : Step s t numbers K code w f d v g e
      pub holds : Q → (place : Where) (aims : List Aim) → Run s t numbers K code place w f d v g e → Holds K code aims d → Holds K code aims e

    abbrev pub Part : Walk → Found → Draft → Walk → Found → Draft → Type 0
    Part w f d v g e = PartIf ⊤ w f d v g e

    pub part_then : {Q : Type 0} {w v u : Walk} {f g h : Found} {d e c : Draft} → PartIf Q w f d v g e → PartIf Q v g e u h c → PartIf Q w f d u h c
    part_then a b =
        record {
          step = step_then s t numbers K code a.step b.step;
          holds = λ q place aims run k. b.holds q place aims (last_run s t numbers K code place a.step b.step run) (a.holds q place aims (first_run s t numbers K code place b.step run) k);
        }

    -- nothing stands in the draft that didn't
    pub same_part : (Q : Type 0) (w v : Walk) (f g : Found) (d e : Draft) → Step s t numbers K code w f d v g e → e.parts ≡ d.parts → PartIf Q w f d v g e
    same_part Q w v f g d e step same = record { step = step; holds = λ q place aims run h. holds_as K code aims d e same h }

    -- a statement of the kernel without blocks
    pub placed_part : (Q : Type 0) (p : Pos) (st : KStmt) (w v : Walk) (f g : Found) (d e : Draft) → Step s t numbers K code w f (begun d) v g e → e.parts ≡ d.parts →
        (Q → (place : Where) (aims : List Aim) → Run s t numbers K code place w f (begun d) v g e → StmtTyped K code aims d.node st) → PartIf Q w f d v g (placed d.node p st e)
    placed_part Q p st w v f g d e step same typed =
        record {
          step = around_step s t numbers K code d.node p st w v f g d e step;
          holds = λ q place aims run h. holds_placed K code aims d.node p st d e same (typed q place aims (inside_run s t numbers K code place d.node p st w v f g d e step run)) h;
        }

    pub simple_part : (Q : Type 0) (p : Pos) (st : KStmt) (w : Walk) (f : Found) (d : Draft) → (Q → (aims : List Aim) → StmtTyped K code aims d.node st) → PartIf Q w f d w f (simple p st d)
    simple_part Q p st w f d typed =
        placed_part Q p st w w f f d (begun d) (calm_step s t numbers K code w f f (begun d) (begun d) (none_step s t f (begun d)) (calm_same (begun d))) (begun_parts d) (λ q place aims run. typed q aims)

    -- ---- assignments

    pub zeroed_part : (p : Pos) (into : Loc) (w : Walk) (f : Found) (d : Draft) → PartIf (LocTyped into) w f d w f (zeroed p into d)
    unfolding StmtTyped
    zeroed_part p into w f d = simple_part (LocTyped into) p (kernel.Assign into (constant into.ty p (pos 0))) w f d (λ q aims. (q, zero_given p into.ty q))

    pub assigned_part : (p : Pos) (into : Loc) (x : Exp) (u : Ty) (w v : Walk) (f : Found) (d : Draft) → exp_walked x w ≡ Ok v → PartIf ((u ≡ into.ty) × LocTyped into) w f d v (given s x u f) (assigned s t p into x d)
    unfolding StmtTyped
    assigned_part p into x u w v f d h =
        let d' = begun d in
        placed_part ((u ≡ into.ty) × LocTyped into) p (kernel.Assign into (exp_written s t x d')) w v f (given s x u f) d (exp_passed x d')
        (of_goes s t numbers K code (given_step s t x u f d') (exp_goes s numbers K code x w v d' h))
        (parts_of d' (exp_passed x d') (frame_exp x d') ∙ begun_parts d)
        (λ q place aims run. (q.1, subst (λ u. ExpGiven u (exp_written s t x d')) q.0 (given_ok s t place x u f d' (at_run s t numbers K code place run))))

    -- ---- emissions

    output_typed : (aims : List Aim) (n : ℕ) (x : Option Exp) (d c : Draft) (u : Ty) → Here s numbers K code class.Output d (PortIs s numbers K K.outputs) → uses.type_at s d.uses ≡ u → MaybeGiven u (if_exp_written s t x c) →
        StmtTyped K code aims n (sent s t (names_output s d.uses) (use_number s d) x c)
    unfolding StmtTyped
    output_typed aims n x d c u h same m =
        let output : names_output s d.uses ≡ true = h.output ∙ ap uses.is_output h.class_is in
        subst (λ b. StmtTyped K code aims n (sent s t b (use_number s d) x c)) (sym output)
        (on_ty (port_ty K (use_number s d) K.outputs) h.decl.ty (λ v. MaybeGiven v (if_exp_written s t x c)) h.so (subst (λ v. MaybeGiven v (if_exp_written s t x c)) (sym same ∙ h.typed) m))

    event_typed : (aims : List Aim) (n : ℕ) (x : Option Exp) (d c : Draft) (u : Ty) → Here s numbers K code class.Event d (EventIs s numbers K code) → uses.type_at s d.uses ≡ u → MaybeGiven u (if_exp_written s t x c) →
        StmtTyped K code aims n (sent s t (names_output s d.uses) (use_number s d) x c)
    unfolding StmtTyped
    event_typed aims n x d c u h same m =
        let output : names_output s d.uses ≡ false = h.output ∙ ap uses.is_output h.class_is in
        subst (λ b. StmtTyped K code aims n (sent s t b (use_number s d) x c)) (sym output)
        (on_ty (event_ty code (event_at K (use_number s d) K.events)) h.decl.ty (λ v. MaybeGiven v (if_exp_written s t x c)) h.so (subst (λ v. MaybeGiven v (if_exp_written s t x c)) (sym same ∙ h.typed) m))

    pub emitted_part : (p : Pos) (x : Ident) (e : Option Exp) (w v : Walk) (f : Found) (d : Draft) → emit_walked x e w ≡ Ok v → Part w f d v (emit_found s e f) (parts.emitted s t p e d)
    unfolding parts.emitted emit_found
    emitted_part p x e w v f d h =
        let d' = begun d in
        let d2 = uses.used d' in
        let c = if_exp_passed e d2 in
        let k = then_ok (named role.Emitted x w) (if_exp_walked e) v h in
        let name = named_ok s numbers K code role.Emitted x w k.0 k.1 in
        let u = use_type s f.names in
        let noted = passed s (asks_own (takes_value u e) T4 (emitted s f)) in
        let g = if_given s e u noted in
        let moves = goes_then s numbers K code (named_goes s numbers K code role.Emitted x w k.0 d' k.1) (if_exp_goes s numbers K code e k.0 v d2 k.2) in
        let first = noting.step_then s t (emitted_step s t f d') (noting.step_then s t (noting.own_step s t (takes_value u e) T4 (emitted s f) d') (noting.used_step s t (asks_own (takes_value u e) T4 (emitted s f)) d')) in
        placed_part ⊤ p (sent s t (names_output s d'.uses) (use_number s d') e d2) w v f g d c
        (of_goes s t numbers K code (emit_step s t e f d') moves)
        (parts_of d' c (frame_if_exp e d2 ∙ frame_used d') ∙ begun_parts d)
        (λ q place aims run.
        let given_it = if_given_step s t e u noted d2 in
        let fine_noted = given_it.under.back place run.fine in
        let asked = fine_own place (takes_value u e) T4 (emitted s f) (fine_passed s place (asks_own (takes_value u e) T4 (emitted s f)) fine_noted) in
        let at : At s t place noted d2 g = record { fine = run.fine; more = run.more; level = first.under.level run.level; count = first.counts run.count } in
        let value = maybe_given place u e noted d2 asked.0 at in
        let ends = (if_exp_goes s numbers K code e k.0 v d2 k.2).ends run.ends in
        let same : uses.type_at s d'.uses ≡ u = sym (same_type s f.names d'.uses run.level) in
        by_class aims value same (emitted_here s numbers K code x w k.0 d' name run.now ends))
      where
        by_class : (aims : List Aim) → MaybeGiven (use_type s f.names) (if_exp_written s t e (uses.used (begun d))) → uses.type_at s (begun d).uses ≡ use_type s f.names →
            Here s numbers K code class.Output (begun d) (PortIs s numbers K K.outputs) ⊎ Here s numbers K code class.Event (begun d) (EventIs s numbers K code) →
            StmtTyped K code aims d.node (sent s t (names_output s (begun d).uses) (use_number s (begun d)) e (uses.used (begun d)))
        by_class aims value same (inl k) = output_typed aims d.node e (begun d) (uses.used (begun d)) (use_type s f.names) k same value
        by_class aims value same (inr k) = event_typed aims d.node e (begun d) (uses.used (begun d)) (use_type s f.names) k same value

    pub killed_part : (p : Pos) (x : Ident) (w v : Walk) (f : Found) (d : Draft) → named role.Alias x w ≡ Ok v → Part w f d v (passed s (acts f)) (killed s p d)
    unfolding killed StmtTyped
    killed_part p x w v f d h =
        let d' = begun d in
        placed_part ⊤ p (kernel.Kill (use_number s d')) w v f (passed s (acts f)) d (uses.used d')
        (of_goes s t numbers K code (noting.step_then s t (noting.acts_step s t f d') (noting.used_step s t (acts f) d')) (named_goes s numbers K code role.Alias x w v d' h))
        (parts_of d' (uses.used d') (frame_used d') ∙ begun_parts d) (λ q place aims run. tt)

    -- ---- spawns

    spawn_types : (x : Spawn) (f : Found) → spawn_found s x f ≡ passed s (call_found s x.call (not_in_async (not_in_finalizer f)))
    unfolding spawn_found
    spawn_types x f = refl

    pub spawned_part : (alias : Option ℕ) (x : Spawn) (w v : Walk) (f : Found) (d : Draft) → spawn_walked x w ≡ Ok v → Part w f d v (spawn_found s x f) (parts.spawned s t alias x d)
    unfolding parts.spawned StmtTyped
    spawned_part alias x w v f d h =
        let d' = begun d in
        let inside = uses.used d' in
        let behind = each exp_passed x.call.args inside in
        let last = uses.used behind in
        let k = then_ok (used role.Code x.call.code w) (spawned x) v h in
        let name = (used_ok s numbers K code role.Code x.call.code w k.0 k.1).0 in
        let m = then_ok (exps_walked x.call.args k.0.1) (pool_used k.0.0.number x.pool) v k.2 in
        let one = used_goes s numbers K code role.Code x.call.code w k.0.1 d' name in
        let rest = goes_then s numbers K code (exps_go s numbers K code x.call.args k.0.1 m.0 inside m.1) (pool_goes s numbers K code k.0.0.number x.pool m.0 v behind m.2) in
        let f1 = not_in_async (not_in_finalizer f) in
        let g1 = call_found s x.call f1 in
        let start = noting.step_then s t (noting.finalizer_step s t f d') (noting.async_step s t (not_in_finalizer f) d') in
        let es = gathered (exp_written s t) exp_passed x.call.args inside in
        placed_part ⊤ x.pos (kernel.Spawn (use_number s d') es (use_number s behind) alias) w v f (spawn_found s x f) d last
        (of_goes s t numbers K code (spawn_step s t x f d') (goes_then s numbers K code one rest))
        (parts_of d' last (frame_used behind ∙ frame_each exp_passed frame_exp x.call.args inside ∙ frame_used d') ∙ begun_parts d)
        (λ q place aims run.
        let at = at_run s t numbers K code place run in
        let gone : Fine place (passed s g1) = subst (Fine place) (spawn_types x f) at.fine in
        let more = (noting.used_step s t g1 behind).grows (subst (λ (y : Found). noting.Prefix y.types t.exps) (spawn_types x f) at.more) in
        let call : At s t place f1 d' g1 = record { fine = fine_passed s place g1 gone; more = more; level = start.under.level at.level; count = start.counts at.count } in
        let use_it = code_here s numbers K code x.call.code w k.0.1 d' name run.now (rest.ends run.ends) in
        let is = use_it.is.so in
        on_code (code_at (use_number s d') K.codes) is.code (λ k. ArgsGiven k.params es) is.there (call_given s t place x.call f1 d' call use_it.place use_it.listed is.code.params is.params))
