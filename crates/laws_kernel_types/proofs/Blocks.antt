-- Blocks, labels and loops around statements.
use Rattle.std.proofs.Common.{◌≡◌, refl, sym, ap, ◌∙◌, subst, ℕ, length, arith, List, [], ◌∷◌, Option, Some, None, Ok, Bool, true, false}
use Rattle.std.specs.Prelude.{not, if◌then◌else◌}
use Rattle.ceu_base.specs.declared.kinds.Ty.{Ty}
use Rattle.ceu_base.specs.declared.kinds.Ty.TheVariants as ty
use Rattle.ceu_base.specs.declared.kinds.Rule.TheVariants.{T1, T2, T5}
use Rattle.ceu_tree.specs.declared.source.Ident.{Ident}
use Rattle.ceu_tree.specs.declared.source.Label.{Label}
use Rattle.ceu_tree.specs.declared.source.Label.TheVariants as label
use Rattle.ceu_tree.specs.declared.source.Exp.{Exp}
use Rattle.ceu_tree.specs.declared.kernel.Kernel.{Kernel}
use Rattle.ceu_tree.specs.declared.kernel.Loc.{Loc}
use Rattle.ceu_tree.specs.Typing.{same_ty, holds_all}
use Rattle.ceu_tree.specs.Proper.{Where}
use Rattle.ceu_scopes.specs.declared.known.Scopes.{Scopes}
use Rattle.ceu_scopes.specs.declared.walk.Walk.{Walk}
use Rattle.ceu_scopes.specs.Names.{labelled, unlabelled}
use Rattle.ceu_types.specs.declared.typing.Types.{Types}
use Rattle.ceu_types.specs.declared.found.Found.{Found}
use Rattle.ceu_types.specs.Typing.{is_none_type, holds}
use Rattle.ceu_types.specs.Notes.{asks_own, past, passed, not_in_every, not_in_async, not_in_finalizer}
use Rattle.ceu_types.specs.Around as types
use Rattle.ceu_types.specs.Statements.{taken, waits, name_typed, every_ended}
use Rattle.ceu_expand.specs.declared.around.Around as draft_around
use Rattle.ceu_expand.specs.declared.draft.Draft.{Draft}
use Rattle.ceu_expand.specs.Draft as draft
use Rattle.ceu_expand.specs.Draft.{in_loop, in_do, hidden, standing, event_declared, input_declared, output_declared}
use Rattle.ceu_expand.specs.Lists.{each}
use Rattle.ceu_expand.specs.Expressions.{exp_passed}
use Rattle.ceu_expand.specs.Expansion.{turns_written, turns_passed, range_hidden, range_passed}
use Rattle.laws_kernel_shape.proofs.Frames.{frame_standing, frame_exp}
use Rattle.laws_kernel_shape.proofs.Fine.{Fine, fine_asks, fine_own}
use Rattle.laws_kernel_shape.proofs.Beside as exits
use Rattle.laws_kernel_shape.proofs.Beside.{Alike, own_names}
use Rattle.laws_kernel_types.specs.Typed.{MaybeTakes, TurnsTyped}
use Rattle.laws_kernel_types.proofs.Meeting.{implied, held, not_none}
use Rattle.laws_kernel_types.proofs.Noting as noting
use Rattle.laws_kernel_types.proofs.Noting.{prefix_as, none_step, hidden_step, standing_step, draft_step}
use Rattle.laws_kernel_types.proofs.Naming.{Goes, goes_then, calm_goes}
use Rattle.laws_kernel_types.proofs.Walking.{calm_same, calm_hidden, calm_labelled, calm_unlabelled, labelled_goes, unlabelled_goes}
use Rattle.laws_kernel_types.proofs.Running.{Step, Run, calm_step, step_then}
use Rattle.laws_kernel_types.proofs.Leaves.{parts_of, hidden_parts}
use Rattle.laws_kernel_types.proofs.Wrapping.{do_around_step, unlabelled_fine, labelled_types, unlabelled_types, labelled_names, labelled_exps, unlabelled_exps, every_fine, every_same, every_ended_types}

pub loop_code : (n : ℕ) (b : draft_around.Around) → (in_loop n b).code ≡ b.code
unfolding in_loop
loop_code n b = refl

pub do_code : (l : Label) (n : ℕ) (b : draft_around.Around) → (in_do l n b).code ≡ b.code
unfolding in_do
do_code label.Plain n b = refl
do_code label.Under n b = refl
do_code (label.Named x) n b = refl

-- ---- names that take no slots

pub each_parts : {A : Type 0} (pass : A → Draft → Draft) → ((x : A) (d : Draft) → (pass x d).parts ≡ d.parts) → (xs : List A) (d : Draft) → (each pass xs d).parts ≡ d.parts
unfolding each
each_parts pass h [] d = refl
each_parts pass h (x ∷ xs) d = each_parts pass h xs (pass x d) ∙ h x d

pub event_parts : (c : Option ℕ) (u : Ty) (x : Ident) (d : Draft) → (event_declared c u x d).parts ≡ d.parts
unfolding event_declared
event_parts c u x d = refl

pub input_parts : (u : Ty) (x : Ident) (d : Draft) → (input_declared u x d).parts ≡ d.parts
unfolding input_declared
input_parts u x d = refl

pub output_parts : (u : Ty) (x : Ident) (d : Draft) → (output_declared u x d).parts ≡ d.parts
unfolding output_declared
output_parts u x d = refl

-- ---- loops

pub turns_typed : (limit : Option ℕ) (d : Draft) → TurnsTyped (turns_written limit d)
unfolding turns_written
turns_typed None d = tt
turns_typed (Some n) d = tt

pub turns_parts : (limit : Option ℕ) (d : Draft) → (turns_passed limit d).parts ≡ d.parts
unfolding turns_passed
turns_parts None d = refl
turns_parts (Some n) d = hidden_parts 1 d

pub range_parts : (low high : Exp) (d : Draft) → (range_passed low high d).parts ≡ d.parts
unfolding range_passed hidden
range_parts low high d =
    let three = hidden 1 (hidden 1 (hidden 1 d)) in
    parts_of three (standing d.slot (exp_passed high (exp_passed low three))) (frame_standing d.slot (exp_passed high (exp_passed low three)) ∙ frame_exp high (exp_passed low three) ∙ frame_exp low three)

-- ---- what takes the value of an await

names_by : (s : Scopes) (b : Bool) (u value : Ty) (g : Found) → (if b then asks_own false T5 g else asks_own (holds u value) T2 g).names ≡ g.names
names_by s true u value g = own_names s false T5 g
names_by s false u value g = own_names s (holds u value) T2 g

waits_names : (f : Found) → (waits f).names ≡ f.names
unfolding waits not_in_every not_in_async not_in_finalizer
waits_names f = refl

pub taken_names : (s : Scopes) (u value : Ty) (f : Found) → (taken u value (waits f)).names ≡ f.names
unfolding taken
taken_names s u value f = names_by s (is_none_type value) u value (waits f) ∙ waits_names f

pub taken_same : (s : Scopes) (u value : Ty) (f : Found) → (taken u value f).names ≡ f.names
unfolding taken
taken_same s u value f = names_by s (is_none_type value) u value f

pub passed_names : (s : Scopes) (f : Found) → (passed s f).names ≡ past s f.names
unfolding passed
passed_names s f = refl

pub taken_takes : (place : Where) (u value : Ty) (f : Found) (l : Loc) → Fine place (taken u value f) → u ≡ l.ty → MaybeTakes value (Some l)
unfolding taken
taken_takes place u value f l h same = by_none (is_none_type value) refl h
  where
    by_none : (b : Bool) → is_none_type value ≡ b → Fine place (if b then asks_own false T5 f else asks_own (holds u value) T2 f) → MaybeTakes value (Some l)
    by_none true e h = let broken : (false ≡ true) = (fine_own place false T5 f h).0 in absurd (cc)
    by_none false e h = (
      implied (not (is_none_type value)) (not (same_ty value ty.None)) (not_none value) (ap not e),
      subst (λ v. holds_all v value ≡ true) same (implied (holds u value) (holds_all u value) (held u value) (fine_own place (holds u value) T2 f h).0),
    )

-- a variable that is declared has a type
pub name_has_type : (place : Where) (u : Ty) (x : Ident) (f : Found) → Fine place (name_typed u x f) → not (same_ty u ty.None) ≡ true
unfolding name_typed
name_has_type place u x f h = implied (not (is_none_type u)) (not (same_ty u ty.None)) (not_none u) (fine_asks place (not (is_none_type u)) T1 x.pos f h).0

module _ (s : Scopes) (t : Types) where
  pub each_notes : {A : Type 0} (pass : A → Draft → Draft) (f : Found) → ((x : A) (d : Draft) → noting.Step s t f d f (pass x d)) → (xs : List A) (d : Draft) → noting.Step s t f d f (each pass xs d)
  unfolding each
  each_notes pass f h [] d = none_step s t f d
  each_notes pass f h (x ∷ xs) d = noting.step_then s t (h x d) (each_notes pass f h xs (pass x d))

  pub event_notes : (c : Option ℕ) (u : Ty) (f : Found) (x : Ident) (d : Draft) → noting.Step s t f d f (event_declared c u x d)
  unfolding event_declared
  event_notes c u f x d = draft_step s t f d _ (exits.draft_step s f d _ refl (omega arith) refl) refl

  pub input_notes : (u : Ty) (f : Found) (x : Ident) (d : Draft) → noting.Step s t f d f (input_declared u x d)
  unfolding input_declared
  input_notes u f x d = draft_step s t f d _ (exits.draft_step s f d _ refl (omega arith) refl) refl

  pub output_notes : (u : Ty) (f : Found) (x : Ident) (d : Draft) → noting.Step s t f d f (output_declared u x d)
  unfolding output_declared
  output_notes u f x d = draft_step s t f d _ (exits.draft_step s f d _ refl (omega arith) refl) refl

  pub every_notes : (f : Found) (d : Draft) → noting.Step s t f d (every_ended f) d
  every_notes f d = let k = every_same s f in noting.found_step s t f (every_ended f) d (exits.found_step s f (every_ended f) d k.0 k.1 (λ place h. every_fine s place f h)) (every_ended_types s t f)

  module _ (numbers : List ℕ) (K : Kernel) (code : Option ℕ) where
    pub turns_step : (limit : Option ℕ) (w : Walk) (f : Found) (d : Draft) → Step s t numbers K code w f d w f (turns_passed limit d)
    unfolding turns_passed
    turns_step None w f d = calm_step s t numbers K code w f f d d (none_step s t f d) (calm_same d)
    turns_step (Some n) w f d = calm_step s t numbers K code w f f d (hidden 1 d) (hidden_step s t 1 f d) (calm_hidden 1 d)

    hide_step : (w : Walk) (f : Found) (d : Draft) → Step s t numbers K code w f d w f (hidden 1 d)
    hide_step w f d = calm_step s t numbers K code w f f d (hidden 1 d) (hidden_step s t 1 f d) (calm_hidden 1 d)

    pub three_hidden : (w : Walk) (f : Found) (d : Draft) → Step s t numbers K code w f d w f (range_hidden d)
    three_hidden w f d =
        let one = hidden 1 d in
        step_then s t numbers K code (hide_step w f d) (step_then s t numbers K code (hide_step w f one) (hide_step w f (hidden 1 one)))

    -- ---- `do`

    do_before : (l : Label) (n : ℕ) (w : Walk) (d : Draft) → Goes s numbers K code w d (labelled l w) (draft.labelled l n d)
    do_before l n w d = goes_then s numbers K code (labelled_goes s numbers K code l w d) (calm_goes s numbers K code (labelled l w) d (draft.labelled l n d) (calm_labelled l n d))

    do_after : (l : Label) (v u : Walk) (e : Draft) → unlabelled l v ≡ Ok u → Goes s numbers K code v e u (draft.unlabelled l e)
    do_after l v u e h = goes_then s numbers K code (unlabelled_goes s numbers K code l v u e h) (calm_goes s numbers K code u e (draft.unlabelled l e) (calm_unlabelled l e))

    pub do_step : (l : Label) (u : Ty) (n : ℕ) (w v y : Walk) (f g : Found) (d e : Draft) → unlabelled l v ≡ Ok y → Step s t numbers K code (labelled l w) (types.labelled l u f) (draft.labelled l n d) v g e →
        Step s t numbers K code w f d y (types.unlabelled l g) (draft.unlabelled l e)
    do_step l u n w v y f g d e h inner =
        let before = do_before l n w d in
        let after = do_after l v y e h in
        let exps = labelled_exps s l n d in
        let a = before.up in
        let b = inner.up in
        let c = after.up in
        record {
          notes = record {
            under = do_around_step s l u n f g d e inner.notes.under;
            grows = λ k. prefix_as f.types (types.labelled l u f).types t.exps (labelled_types s l u f) (inner.notes.grows (prefix_as g.types (types.unlabelled l g).types t.exps (unlabelled_types s l g) k));
            counts = λ k. ap length (unlabelled_types s l g) ∙ inner.notes.counts (ap length (labelled_types s l u f) ∙ k ∙ sym exps.0) ∙ sym (unlabelled_exps s l e);
          };
          ends = λ k. before.ends (inner.ends (after.ends k));
          now = λ place fine k now. after.now k (inner.now place (unlabelled_fine s l place g fine) (after.ends k) (before.now (inner.ends (after.ends k)) now));
          rest = after.rest ∙ inner.rest ∙ before.rest;
          up = omega (arith, a, b, c);
        }

    pub do_run : (place : Where) (l : Label) (u : Ty) (n : ℕ) (w v y : Walk) (f g : Found) (d e : Draft) → unlabelled l v ≡ Ok y → Step s t numbers K code (labelled l w) (types.labelled l u f) (draft.labelled l n d) v g e →
        Run s t numbers K code place w f d y (types.unlabelled l g) (draft.unlabelled l e) → Run s t numbers K code place (labelled l w) (types.labelled l u f) (draft.labelled l n d) v g e
    do_run place l u n w v y f g d e h inner run =
        let before = do_before l n w d in
        let after = do_after l v y e h in
        let exps = labelled_exps s l n d in
        record {
          level = subst (λ k. Alike (length s.uses) k (draft.labelled l n d).uses) (sym (labelled_names s l u f)) (subst (λ k. Alike (length s.uses) f.names k) (sym exps.1) run.level);
          count = ap length (labelled_types s l u f) ∙ run.count ∙ sym exps.0;
          now = before.now (inner.ends (after.ends run.ends)) run.now;
          fine = unlabelled_fine s l place g run.fine;
          more = prefix_as g.types (types.unlabelled l g).types t.exps (unlabelled_types s l g) run.more;
          ends = after.ends run.ends;
        }
