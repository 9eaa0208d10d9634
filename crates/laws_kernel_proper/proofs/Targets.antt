-- Variables that are assigned, events, code and exits of a kernel are there and fit.
use Rattle.std.proofs.Common.{◌≡◌, refl, sym, ap, ◌∙◌, subst, ℕ, zero, suc, ◌<◌, ◌≤◌, length, arith, List, [], ◌∷◌, Option, Some, None, Bool, true, false}
use Rattle.std.specs.Prelude.{not, ◌||◌, ◌==◌, if◌then◌else◌}
use Rattle.std.proofs.lemmas.Bool.{lt-ltb}
use Rattle.std.specs.List.{list_any}
use Rattle.ceu_base.specs.declared.kinds.Ty.{Ty}
use Rattle.ceu_base.specs.declared.kinds.Ty.TheVariants as ty
use Rattle.ceu_tree.specs.declared.kernel.Kernel.{Kernel}
use Rattle.ceu_tree.specs.declared.kernel.KCode.{KCode}
use Rattle.ceu_tree.specs.declared.kernel.KEvent.{KEvent}
use Rattle.ceu_tree.specs.declared.kernel.KExp.{KExp}
use Rattle.ceu_tree.specs.declared.kernel.Loc.{Loc}
use Rattle.ceu_tree.specs.declared.kernel.KBlock.{out-KBlock}
use Rattle.ceu_tree.specs.Typing.{same_ty, holds_all}
use Rattle.ceu_tree.specs.Leaf.{code_at}
use Rattle.ceu_tree.specs.Proper.{Scope, Aim, DoAim, BodyAim, LoopAim, is_in_code, declared_seen, find, is_loop_variable, looked_up, takes, takes_if, gives_if, on_ty, event_seen, is_above, on_code, escape_ok, is_loop_aim}
use Rattle.laws_kernel_shape.specs.Exits.{taken_at, is_loop}
use Rattle.laws_kernel_names.specs.Sees.{TargetSeen}
use Rattle.laws_kernel_names.specs.Sees as sees
use Rattle.laws_kernel_names.proofs.Looking.{same_type}
use Rattle.laws_kernel_types.specs.Typed.{MaybeGiven, LocTyped, MaybeTakes, OnTy, OnCode, event_ty}
use Rattle.laws_kernel_uses.specs.Named.{TargetNamed}
use Rattle.laws_kernel_uses.specs.Named as named
use Rattle.laws_kernel_proper.proofs.Leaves.{both, bare, loc_reads}

-- ---- code

-- code that the body of this code may use has lower numbers
abbrev pub bound_of : Kernel → Option ℕ → ℕ
bound_of K None = length K.codes
bound_of K (Some k) = k

code_there : (c : ℕ) (cs : List KCode) → c < length cs → (k : KCode) × (code_at c cs ≡ Some k)
code_there c [] h = absurd (omega (arith, h))
code_there zero (k ∷ cs) h = (k, refl)
code_there (suc c) (k ∷ cs) h = code_there c cs (omega (arith, h))

code_found : (o : Option KCode) (k : KCode) (f : KCode → Bool) → o ≡ Some k → f k ≡ true → (elim o as (λ _. Bool) [ None ↦ false | Some k ↦ f k ]) ≡ true
code_found None k f e h = absurd (cc)
code_found (Some j) k f e h = let same : k ≡ j = cc in subst (λ i. f i ≡ true) same h

code_of : (o : Option KCode) (P : KCode → Type 0) (f : KCode → Bool) → OnCode o P → ((k : KCode) → P k → f k ≡ true) → (elim o as (λ _. Bool) [ None ↦ false | Some k ↦ f k ]) ≡ true
code_of None P f h g = absurd h
code_of (Some k) P f h g = g k h

module _ (K : Kernel) (sc : Scope) where
  above_ok : (c : ℕ) (code : Option ℕ) → c < bound_of K code → is_above K c code ≡ true
  above_ok c None h = refl
  above_ok c (Some k) h = lt-ltb c k h

  pub on_code_of : (c : ℕ) (P : KCode → Type 0) (f : KCode → Bool) → c < bound_of K sc.code → OnCode (code_at c K.codes) P → ((k : KCode) → P k → f k ≡ true) → on_code K sc c f ≡ true
  on_code_of c P f low h g = both (above_ok c sc.code low) (code_of (code_at c K.codes) P f h g)

  pub code_is : (c : ℕ) → c < bound_of K sc.code → bound_of K sc.code ≤ length K.codes → on_code K sc c (λ k. true) ≡ true
  code_is c low all = let k = code_there c K.codes (omega (arith, low, all)) in both (above_ok c sc.code low) (code_found (code_at c K.codes) k.0 (λ k. true) k.1 refl)

  -- ---- variables that are assigned

  no_loop : (l : Loc) → TargetSeen sc.seen l → TargetNamed K (bare sc) l → not (is_loop_variable (looked_up K sc l)) ≡ true
  no_loop l h k = by_outer l.outer refl
    where
      by_outer : (b : Bool) → l.outer ≡ b → not (is_loop_variable (looked_up K sc l)) ≡ true
      by_outer true e = k.1 e
      by_outer false e = ap (λ b. not (is_loop_variable (if b then (if is_in_code sc.code then find l.slot (declared_seen [] (out-KBlock K.body).decls []) else None) else find l.slot sc.seen))) e ∙ h.1 e

  takes_one : (t : Ty) (l : Loc) → TargetSeen sc.seen l → TargetNamed K (bare sc) l → not (same_ty t ty.None) ≡ true → holds_all l.ty t ≡ true → takes K sc t l ≡ true
  takes_one t l h k n g = both (both (both (loc_reads K sc l h.0 k.0) (no_loop l h k)) n) g

  pub takes_maybe : (t : Ty) (l : Option Loc) → sees.MaybeTarget sc.seen l → named.MaybeTarget K (bare sc) l → MaybeTakes t l → takes_if K sc t l ≡ true
  takes_maybe t None h k g = refl
  takes_maybe t (Some l) h k g = takes_one t l h k g.0 g.1

  or_true : (a b : Bool) → a ≡ true → (a || b) ≡ true
  or_true true b h = refl
  or_true false b h = absurd (cc)

  pub takes_own : (l : Loc) → TargetSeen sc.seen l → TargetNamed K (bare sc) l → LocTyped l → takes K sc l.ty l ≡ true
  takes_own l h k g = takes_one l.ty l h k g (or_true (same_ty l.ty l.ty) _ (same_type l.ty))

  -- ---- ports and events

  pub on_ty_of : (o : Option Ty) (P : Ty → Type 0) (f : Ty → Bool) → OnTy o P → ((t : Ty) → P t → f t ≡ true) → on_ty K o f ≡ true
  on_ty_of None P f h g = absurd h
  on_ty_of (Some t) P f h g = g t h

  event_same : (o : Option KEvent) → event_seen K sc o ≡ event_ty sc.code o
  event_same None = refl
  event_same (Some e) = refl

  pub on_event_of : (o : Option KEvent) (P : Ty → Type 0) (f : Ty → Bool) → OnTy (event_ty sc.code o) P → ((t : Ty) → P t → f t ≡ true) → on_ty K (event_seen K sc o) f ≡ true
  on_event_of o P f h g = on_ty_of (event_seen K sc o) P f (subst (λ x. OnTy x P) (sym (event_same o)) h) g

  -- ---- exits

  left_by : (b : Bool) (t : Ty) (e : Option KExp) (rest : Option Ty) (r : Bool) → ((u : Ty) → MaybeGiven u e → gives_if K sc u e ≡ true) → OnTy (if b then Some t else rest) (λ u. MaybeGiven u e) → (OnTy rest (λ u. MaybeGiven u e) → r ≡ true) → (if b then gives_if K sc t e else r) ≡ true
  left_by true t e rest r g h k = g t h
  left_by false t e rest r g h k = k h

  pub escape_of : (m : ℕ) (e : Option KExp) (aims : List Aim) → ((u : Ty) → MaybeGiven u e → gives_if K sc u e ≡ true) → OnTy (taken_at m aims) (λ u. MaybeGiven u e) → escape_ok K sc m e aims ≡ true
  escape_of m e [] g h = absurd h
  escape_of m e (DoAim n None ∷ aims) g h = left_by (n == m) ty.None e (taken_at m aims) (escape_ok K sc m e aims) g h (escape_of m e aims g)
  escape_of m e (DoAim n (Some t) ∷ aims) g h = left_by (n == m) t e (taken_at m aims) (escape_ok K sc m e aims) g h (escape_of m e aims g)
  escape_of m e (BodyAim n t ∷ aims) g h = left_by (n == m) t e (taken_at m aims) (escape_ok K sc m e aims) g h (escape_of m e aims g)
  escape_of m e (LoopAim n ∷ aims) g h = escape_of m e aims g h

  loop_same : (m : ℕ) (a : Aim) → is_loop_aim K m a ≡ is_loop m a
  loop_same m (DoAim n t) = refl
  loop_same m (BodyAim n t) = refl
  loop_same m (LoopAim n) = refl

  or_later : (b r r' : Bool) → (r ≡ true → r' ≡ true) → (b || r) ≡ true → (b || r') ≡ true
  or_later true r r' f h = refl
  or_later false r r' f h = f h

  pub loop_of : (m : ℕ) (aims : List Aim) → list_any (is_loop m) aims ≡ true → list_any (is_loop_aim K m) aims ≡ true
  loop_of m [] h = h
  loop_of m (a ∷ aims) h =
      ap (λ b. b || list_any (is_loop_aim K m) aims) (loop_same m a) ∙ or_later (is_loop m a) (list_any (is_loop m) aims) (list_any (is_loop_aim K m) aims) (loop_of m aims) h
