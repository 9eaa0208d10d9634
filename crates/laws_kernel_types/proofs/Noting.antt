-- The walk through a program's types beside the draft of its kernel: both go past the same expressions, so that each has its type.
use Rattle.std.proofs.Common.{◌≡◌, refl, sym, ap, ◌∙◌, subst, ℕ, ◌+◌, length, List, [], ◌∷◌, ◌++◌, Bool, true, false}
use Rattle.std.specs.Prelude.{if◌then◌else◌, slice_get, unwrap_or}
use Rattle.ceu_base.specs.declared.kinds.Ty.{Ty}
use Rattle.ceu_base.specs.declared.kinds.Ty.TheVariants as ty
use Rattle.ceu_base.specs.declared.kinds.Pos.{Pos}
use Rattle.ceu_base.specs.declared.kinds.Rule.{Rule}
use Rattle.ceu_tree.specs.declared.source.Ident.{Ident}
use Rattle.ceu_tree.specs.declared.kernel.KKind.{KKind}
use Rattle.ceu_tree.specs.declared.kernel.KStmt.{KStmt}
use Rattle.ceu_scopes.specs.declared.known.Scopes.{Scopes}
use Rattle.ceu_types.specs.declared.typing.Types.{Types}
use Rattle.ceu_types.specs.declared.found.Found.{Found}
use Rattle.ceu_types.specs.Notes.{asks, asks_own, typed, passed, not_in_every, not_in_async, not_in_finalizer}
use Rattle.ceu_types.specs.Statements.{waits, acts}
use Rattle.ceu_expand.specs.declared.draft.Draft.{Draft}
use Rattle.ceu_expand.specs.Draft as draft
use Rattle.ceu_expand.specs.Draft.{outside, closed, opened, around_block}
use Rattle.ceu_expand.specs.Expressions as expressions
use Rattle.ceu_expand.specs.Expressions.{type_at}
use Rattle.ceu_expand.specs.Uses.{used}
use Rattle.laws_kernel_shape.proofs.Inside.{append_assoc}
use Rattle.laws_kernel_names.proofs.Stepping.{get_next, length_more}
use Rattle.laws_kernel_shape.proofs.Beside as exits

-- a list goes on
abbrev pub Prefix : {A : Type 0} → List A → List A → Type 0
Prefix {A = A} xs ys = (rest : List A) × (ys ≡ xs ++ rest)

pub prefix_less : {A : Type 0} (xs ys zs : List A) → Prefix (xs ++ ys) zs → Prefix xs zs
prefix_less xs ys zs h = (ys ++ h.0, h.1 ∙ append_assoc xs ys h.0)

pub prefix_as : {A : Type 0} (xs ys zs : List A) → ys ≡ xs → Prefix ys zs → Prefix xs zs
prefix_as xs ys zs e h = (h.0, h.1 ∙ ap (λ x. x ++ h.0) e)

pub level_as : (s : Scopes) (f : Found) (d e : Draft) → e.uses ≡ d.uses → exits.Level s f d → exits.Level s f e
level_as s f d e same h = subst (λ n. exits.Alike (length s.uses) f.names n) (sym same) h

module _ (s : Scopes) (t : Types) where
  pub record Step (f : Found) (d : Draft) (g : Found) (e : Draft) : Type 0 where
    pub under : exits.Step s f d g e
    pub grows : Prefix g.types t.exps → Prefix f.types t.exps
    pub counts : length f.types ≡ d.exps → length g.types ≡ e.exps

  pub none_step : (f : Found) (d : Draft) → Step f d f d
  none_step f d = record { under = exits.none_step s f d; grows = λ h. h; counts = λ h. h }

  pub step_then : {f g h : Found} {d e c : Draft} → Step f d g e → Step g e h c → Step f d h c
  step_then a b = record { under = exits.step_then s a.under b.under; grows = λ h. a.grows (b.grows h); counts = λ h. b.counts (a.counts h) }

  -- only the walk goes on, or only the draft
  pub found_step : (f g : Found) (d : Draft) → exits.Step s f d g d → g.types ≡ f.types → Step f d g d
  found_step f g d under same = record { under = under; grows = λ h. prefix_as f.types g.types t.exps same h; counts = λ h. ap length same ∙ h }

  pub draft_step : (f : Found) (d e : Draft) → exits.Step s f d f e → e.exps ≡ d.exps → Step f d f e
  draft_step f d e under same = record { under = under; grows = λ h. h; counts = λ h. h ∙ sym same }

  pub used_step : (f : Found) (d : Draft) → Step f d (passed s f) (used d)
  unfolding passed used
  used_step f d = record { under = exits.used_step s f d; grows = λ h. h; counts = λ h. h }

  pub note_step : (u : Ty) (f : Found) (d : Draft) → Step f d (typed u f) (expressions.typed d)
  unfolding typed expressions.typed
  note_step u f d =
      record {
        under = exits.step_then s (exits.type_step s u f d) (exits.typed_step s _ d);
        grows = λ h. prefix_less f.types (u ∷ []) t.exps h;
        counts = λ h. length_more f.types u ∙ ap (λ n. n + 1) h;
      }

  -- the type that is noted is that of the expression
  pub noted : (u : Ty) (f : Found) (d : Draft) → Prefix (typed u f).types t.exps → length f.types ≡ d.exps → type_at t d.exps ≡ u
  unfolding typed
  noted u f d h count =
      ap (λ k. unwrap_or (slice_get t.exps k) ty.None) (sym count) ∙
      ap (λ xs. unwrap_or (slice_get xs (length f.types)) ty.None) (h.1 ∙ append_assoc f.types (u ∷ []) h.0) ∙
      ap (λ o. unwrap_or o ty.None) (get_next f.types u h.0)

  asked_types : (b : Bool) (f g : Found) → g.types ≡ f.types → (if b then f else g).types ≡ f.types
  asked_types true f g e = refl
  asked_types false f g e = e

  asks_types : (test : Bool) (r : Rule) (p : Pos) (f : Found) → (asks test r p f).types ≡ f.types
  unfolding asks
  asks_types test r p f = asked_types test f _ refl

  pub own_types : (test : Bool) (r : Rule) (f : Found) → (asks_own test r f).types ≡ f.types
  unfolding asks_own
  own_types test r f = asked_types test f _ refl

  acts_types : (f : Found) → (acts f).types ≡ f.types
  unfolding acts not_in_async not_in_finalizer
  acts_types f = refl

  waits_types : (f : Found) → (waits f).types ≡ f.types
  unfolding waits not_in_every not_in_async not_in_finalizer
  waits_types f = refl

  finalizer_types : (f : Found) → (not_in_finalizer f).types ≡ f.types
  unfolding not_in_finalizer
  finalizer_types f = refl

  async_types : (f : Found) → (not_in_async f).types ≡ f.types
  unfolding not_in_async
  async_types f = refl

  pub asks_step : (test : Bool) (r : Rule) (p : Pos) (f : Found) (d : Draft) → Step f d (asks test r p f) d
  asks_step test r p f d = found_step f (asks test r p f) d (exits.asks_step s test r p f d) (asks_types test r p f)

  pub own_step : (test : Bool) (r : Rule) (f : Found) (d : Draft) → Step f d (asks_own test r f) d
  own_step test r f d = found_step f (asks_own test r f) d (exits.own_step s test r f d) (own_types test r f)

  pub acts_step : (f : Found) (d : Draft) → Step f d (acts f) d
  acts_step f d = found_step f (acts f) d (exits.acts_step s f d) (acts_types f)

  pub waits_step : (f : Found) (d : Draft) → Step f d (waits f) d
  waits_step f d = found_step f (waits f) d (exits.waits_step s f d) (waits_types f)

  pub finalizer_step : (f : Found) (d : Draft) → Step f d (not_in_finalizer f) d
  finalizer_step f d = found_step f (not_in_finalizer f) d (exits.finalizer_step s f d) (finalizer_types f)

  pub async_step : (f : Found) (d : Draft) → Step f d (not_in_async f) d
  async_step f d = found_step f (not_in_async f) d (exits.async_step s f d) (async_types f)

  -- ---- steps of the draft alone

  pub begun_step : (f : Found) (d : Draft) → Step f d f (draft.begun d)
  unfolding draft.begun
  begun_step f d = draft_step f d _ (exits.begun_step s f d) refl

  pub hidden_step : (n : ℕ) (f : Found) (d : Draft) → Step f d f (draft.hidden n d)
  unfolding draft.hidden
  hidden_step n f d = draft_step f d _ (exits.hidden_step s n f d) refl

  pub standing_step : (n : ℕ) (f : Found) (d : Draft) → Step f d f (draft.standing n d)
  unfolding draft.standing
  standing_step n f d = draft_step f d _ (exits.standing_step s n f d) refl

  pub declared_step : (k : KKind) (x : Ident) (f : Found) (d : Draft) → Step f d f (draft.declared k x d)
  unfolding draft.declared
  declared_step k x f d = draft_step f d _ (exits.declared_step s k x f d) refl

  pub placed_step : (n : ℕ) (p : Pos) (st : KStmt) (f : Found) (d : Draft) → Step f d f (draft.placed n p st d)
  unfolding draft.placed
  placed_step n p st f d = draft_step f d _ (exits.placed_step s n p st f d) refl

  pub opened_step : (n : ℕ) (f : Found) (d : Draft) → Step f d f (opened n d)
  unfolding opened
  opened_step n f d = draft_step f d _ (exits.opened_step s n f d) refl

  block_exps : (n : ℕ) (inside : Draft → Draft) (d : Draft) → ((opened n d).exps ≡ d.exps) × ((around_block n inside d).exps ≡ (inside (opened n d)).exps)
  unfolding closed outside opened
  block_exps n inside d = (refl, refl)

  -- a block, whose inside goes so
  pub block_step : (n : ℕ) (inside : Draft → Draft) (f g : Found) (d : Draft) → Step f (opened n d) g (inside (opened n d)) → Step f d g (around_block n inside d)
  block_step n inside f g d h =
      let e = block_exps n inside d in
      record { under = exits.block_step s n inside f g d h.under; grows = h.grows; counts = λ c. h.counts (c ∙ sym e.0) ∙ sym e.1 }
