-- The walk through a program's types beside the draft of its kernel: both go past the same uses and keep their labels.
use Rattle.std.proofs.Common.{◌≡◌, refl, sym, ap, ◌∙◌, subst, ℕ, ◌+◌, ◌≤◌, ◌<◌, length, arith, List, Option, Some, None, Bool, true, false, inl, inr, ◌⊎◌}
use Rattle.std.specs.Prelude.{nat_lt, slice_get, if◌then◌else◌}
use Rattle.std.proofs.lemmas.Bool.{ltb-true, ltb-false}
use Rattle.std.proofs.lemmas.Option.{slice_get_past}
use Rattle.ceu_base.specs.declared.kinds.Ty.{Ty}
use Rattle.ceu_base.specs.declared.kinds.Pos.{Pos}
use Rattle.ceu_base.specs.declared.kinds.Rule.{Rule}
use Rattle.ceu_tree.specs.declared.source.Decl.{Decl}
use Rattle.ceu_scopes.specs.declared.known.Scopes.{Scopes}
use Rattle.ceu_types.specs.declared.found.Found.{Found}
use Rattle.ceu_types.specs.Notes.{asks, asks_own, typed, past, passed, not_in_every, not_in_async, not_in_finalizer}
use Rattle.ceu_types.specs.Statements.{waits, acts}
use Rattle.ceu_types.specs.Uses as found
use Rattle.ceu_types.specs.Uses.{use_type, is_output_use}
use Rattle.ceu_expand.specs.declared.draft.Draft.{Draft}
use Rattle.ceu_expand.specs.Draft as draft
use Rattle.ceu_expand.specs.Draft.{outside, closed, opened, around_block}
use Rattle.ceu_expand.specs.Uses as uses
use Rattle.ceu_expand.specs.Expressions as expressions
use Rattle.ceu_tree.specs.declared.source.Ident.{Ident}
use Rattle.ceu_tree.specs.declared.kernel.KKind.{KKind}
use Rattle.ceu_tree.specs.declared.kernel.KStmt.{KStmt}
use Rattle.ceu_expand.specs.Uses.{used, names_output}
use Rattle.ceu_tree.specs.Proper.{Where}
use Rattle.laws_kernel_shape.proofs.Fine.{Fine, fine_asks, fine_own, fine_typed, fine_passed, fine_async, fine_finalizer, fine_acts, fine_waits}

-- ---- the place in the list of uses

-- the same place, or both behind the end
abbrev pub Alike : ℕ → ℕ → ℕ → Type 0
Alike n k u = (k ≡ u) ⊎ ((n ≤ k) × (n ≤ u))

past_at : (n k u : ℕ) (b : Bool) → (b ≡ true → k < n) → (b ≡ false → n ≤ k) → Alike n k u → Alike n (if b then k + 1 else k) (u + 1)
past_at n k u true below' end' (inl e) = inl (ap (λ x. x + 1) e)
past_at n k u true below' end' (inr h) = inr (omega (arith, h.0), omega (arith, h.1))
past_at n k u false below' end' (inl e) = inr (end' refl, let m = end' refl in omega (arith, m, e))
past_at n k u false below' end' (inr h) = inr (h.0, omega (arith, h.1))

pub past_alike : (s : Scopes) (k u : ℕ) → Alike (length s.uses) k u → Alike (length s.uses) (past s k) (u + 1)
unfolding past
past_alike s k u h = past_at (length s.uses) k u (nat_lt k (length s.uses)) (ltb-true k (length s.uses)) (ltb-false k (length s.uses)) h

same_get : (xs : List ℕ) (k u : ℕ) → Alike (length xs) k u → slice_get xs k ≡ slice_get xs u
same_get xs k u (inl e) = ap (slice_get xs) e
same_get xs k u (inr h) = slice_get_past xs k h.0 ∙ sym (slice_get_past xs u h.1)

types_agree : (d : Option Decl) → found.type_of_decl d ≡ uses.type_of_decl d
types_agree None = refl
types_agree (Some d) = refl

type_agrees : (ds : List Decl) (n : Option ℕ) → found.type_at ds n ≡ uses.type_of_decl (uses.decl_at ds n)
type_agrees ds None = refl
type_agrees ds (Some n) = types_agree (slice_get ds n)

outputs_agree : (d : Option Decl) → found.is_output_decl d ≡ uses.is_output_decl d
outputs_agree None = refl
outputs_agree (Some d) = output_agrees d
  where
    output_agrees : (d : Decl) → found.is_output d.class ≡ uses.is_output d.class
    output_agrees d = refl

output_agrees_at : (ds : List Decl) (n : Option ℕ) → found.is_output_at ds n ≡ uses.is_output_decl (uses.decl_at ds n)
output_agrees_at ds None = refl
output_agrees_at ds (Some n) = outputs_agree (slice_get ds n)

-- both find the same type, and the same kind of port
pub same_type : (s : Scopes) (k u : ℕ) → Alike (length s.uses) k u → use_type s k ≡ uses.type_at s u
unfolding use_type
same_type s k u h = ap (found.type_at s.decls) (same_get s.uses k u h) ∙ type_agrees s.decls (slice_get s.uses u)

pub same_output : (s : Scopes) (k u : ℕ) → Alike (length s.uses) k u → is_output_use s k ≡ names_output s u
unfolding is_output_use
same_output s k u h = ap (found.is_output_at s.decls) (same_get s.uses k u h) ∙ output_agrees_at s.decls (slice_get s.uses u)

-- ---- steps of both

module _ (s : Scopes) where
  abbrev pub Level : Found → Draft → Type 0
  Level f d = Alike (length s.uses) f.names d.uses

  pub record Step (f : Found) (d : Draft) (g : Found) (e : Draft) : Type 0 where
    pub labels : g.labels ≡ f.labels
    pub node_labels : e.labels ≡ d.labels
    pub up : d.node ≤ e.node
    pub level : Level f d → Level g e
    pub back : (place : Where) → Fine place g → Fine place f

  pub none_step : (f : Found) (d : Draft) → Step f d f d
  none_step f d = record { labels = refl; node_labels = refl; up = omega arith; level = λ h. h; back = λ place h. h }

  pub step_then : {f g h : Found} {d e c : Draft} → Step f d g e → Step g e h c → Step f d h c
  step_then a b =
      record {
        labels = b.labels ∙ a.labels;
        node_labels = b.node_labels ∙ a.node_labels;
        up = let x = a.up in let y = b.up in omega (arith, x, y);
        level = λ l. b.level (a.level l);
        back = λ place k. a.back place (b.back place k);
      }

  -- only the walk goes on
  pub found_step : (f g : Found) (d : Draft) → g.labels ≡ f.labels → g.names ≡ f.names → ((place : Where) → Fine place g → Fine place f) → Step f d g d
  found_step f g d l n b =
      record { labels = l; node_labels = refl; up = omega arith; level = λ h. subst (λ k. Alike (length s.uses) k d.uses) (sym n) h; back = b }

  -- only the draft goes on
  pub draft_step : (f : Found) (d e : Draft) → e.labels ≡ d.labels → d.node ≤ e.node → e.uses ≡ d.uses → Step f d f e
  draft_step f d e l up u =
      record { labels = refl; node_labels = l; up = up; level = λ h. subst (λ k. Alike (length s.uses) f.names k) (sym u) h; back = λ place h. h }

  pub used_step : (f : Found) (d : Draft) → Step f d (passed s f) (used d)
  unfolding passed used
  used_step f d = record { labels = refl; node_labels = refl; up = omega arith; level = λ h. past_alike s f.names d.uses h; back = λ place h. fine_passed s place f h }

  asked_names : (b : Bool) (f g : Found) → g.names ≡ f.names → (if b then f else g).names ≡ f.names
  asked_names true f g e = refl
  asked_names false f g e = e

  asked_labels : (b : Bool) (f g : Found) → g.labels ≡ f.labels → (if b then f else g).labels ≡ f.labels
  asked_labels true f g e = refl
  asked_labels false f g e = e

  asks_names : (test : Bool) (r : Rule) (p : Pos) (f : Found) → (asks test r p f).names ≡ f.names
  unfolding asks
  asks_names test r p f = asked_names test f _ refl

  asks_labels : (test : Bool) (r : Rule) (p : Pos) (f : Found) → (asks test r p f).labels ≡ f.labels
  unfolding asks
  asks_labels test r p f = asked_labels test f _ refl

  pub own_names : (test : Bool) (r : Rule) (f : Found) → (asks_own test r f).names ≡ f.names
  unfolding asks_own
  own_names test r f = asked_names test f _ refl

  pub own_labels : (test : Bool) (r : Rule) (f : Found) → (asks_own test r f).labels ≡ f.labels
  unfolding asks_own
  own_labels test r f = asked_labels test f _ refl

  pub asks_step : (test : Bool) (r : Rule) (p : Pos) (f : Found) (d : Draft) → Step f d (asks test r p f) d
  asks_step test r p f d = found_step f (asks test r p f) d (asks_labels test r p f) (asks_names test r p f) (λ place h. (fine_asks place test r p f h).1)

  pub own_step : (test : Bool) (r : Rule) (f : Found) (d : Draft) → Step f d (asks_own test r f) d
  own_step test r f d = found_step f (asks_own test r f) d (own_labels test r f) (own_names test r f) (λ place h. (fine_own place test r f h).1)

  pub type_step : (t : Ty) (f : Found) (d : Draft) → Step f d (typed t f) d
  unfolding typed
  type_step t f d = found_step f _ d refl refl (λ place h. fine_typed place t f h)

  acts_same : (f : Found) → ((acts f).labels ≡ f.labels) × ((acts f).names ≡ f.names)
  unfolding acts not_in_async not_in_finalizer
  acts_same f = (refl, refl)

  waits_same : (f : Found) → ((waits f).labels ≡ f.labels) × ((waits f).names ≡ f.names)
  unfolding waits not_in_every not_in_async not_in_finalizer
  waits_same f = (refl, refl)

  finalizer_same : (f : Found) → ((not_in_finalizer f).labels ≡ f.labels) × ((not_in_finalizer f).names ≡ f.names)
  unfolding not_in_finalizer
  finalizer_same f = (refl, refl)

  async_same : (f : Found) → ((not_in_async f).labels ≡ f.labels) × ((not_in_async f).names ≡ f.names)
  unfolding not_in_async
  async_same f = (refl, refl)

  pub acts_step : (f : Found) (d : Draft) → Step f d (acts f) d
  acts_step f d = let e = acts_same f in found_step f (acts f) d e.0 e.1 (λ place h. (fine_acts place f h).0)

  pub waits_step : (f : Found) (d : Draft) → Step f d (waits f) d
  waits_step f d = let e = waits_same f in found_step f (waits f) d e.0 e.1 (λ place h. (fine_waits place f h).0)

  pub finalizer_step : (f : Found) (d : Draft) → Step f d (not_in_finalizer f) d
  finalizer_step f d = let e = finalizer_same f in found_step f (not_in_finalizer f) d e.0 e.1 (λ place h. (fine_finalizer place f h).0)

  pub async_step : (f : Found) (d : Draft) → Step f d (not_in_async f) d
  async_step f d = let e = async_same f in found_step f (not_in_async f) d e.0 e.1 (λ place h. (fine_async place f h).0)

  -- ---- steps of the draft alone

  pub typed_step : (f : Found) (d : Draft) → Step f d f (expressions.typed d)
  unfolding expressions.typed
  typed_step f d = draft_step f d _ refl (omega arith) refl

  pub begun_step : (f : Found) (d : Draft) → Step f d f (draft.begun d)
  unfolding draft.begun
  begun_step f d = draft_step f d _ refl (omega arith) refl

  pub hidden_step : (n : ℕ) (f : Found) (d : Draft) → Step f d f (draft.hidden n d)
  unfolding draft.hidden
  hidden_step n f d = draft_step f d _ refl (omega arith) refl

  pub standing_step : (n : ℕ) (f : Found) (d : Draft) → Step f d f (draft.standing n d)
  unfolding draft.standing
  standing_step n f d = draft_step f d _ refl (omega arith) refl

  pub declared_step : (k : KKind) (x : Ident) (f : Found) (d : Draft) → Step f d f (draft.declared k x d)
  unfolding draft.declared
  declared_step k x f d = draft_step f d _ refl (omega arith) refl

  pub placed_step : (n : ℕ) (p : Pos) (st : KStmt) (f : Found) (d : Draft) → Step f d f (draft.placed n p st d)
  unfolding draft.placed
  placed_step n p st f d = draft_step f d _ refl (omega arith) refl

  pub opened_step : (n : ℕ) (f : Found) (d : Draft) → Step f d f (opened n d)
  unfolding opened
  opened_step n f d = draft_step f d _ refl (omega arith) refl

  closed_step : (f : Found) (d e : Draft) → Step f e f (closed (outside d) e)
  unfolding closed outside
  closed_step f d e = draft_step f e _ refl (omega arith) refl

  -- a block, whose inside goes so
  pub block_step : (n : ℕ) (inside : Draft → Draft) (f g : Found) (d : Draft) → Step f (opened n d) g (inside (opened n d)) → Step f d g (around_block n inside d)
  block_step n inside f g d h = step_then (opened_step n f d) (step_then h (closed_step g d (inside (opened n d))))
