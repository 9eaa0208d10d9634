-- What holds of a walk through a program's names whenever it goes on.
use Rattle.std.proofs.Common.{◌≡◌, refl, sym, ap, ◌∙◌, subst, ℕ, suc, ◌≤◌, length, arith, List, [], ◌∷◌, ◌++◌, Option, Some, None, Result, Ok, Err}
use Rattle.std.specs.Prelude.{⊤, if◌then◌else◌, Bool, true, false}
use Rattle.ceu_base.specs.declared.kinds.Rule.{Rule}
use Rattle.ceu_base.specs.declared.kinds.Rule.TheVariants.{N2, N3}
use Rattle.ceu_base.specs.declared.kinds.Pos.{Pos}
use Rattle.ceu_base.specs.declared.kinds.Ty.{Ty}
use Rattle.ceu_tree.specs.declared.source.Class.{Class}
use Rattle.ceu_tree.specs.declared.source.Ident.{Ident}
use Rattle.ceu_tree.specs.declared.source.Spawn.{Spawn}
use Rattle.ceu_scopes.specs.declared.known.Known.{Known}
use Rattle.ceu_scopes.specs.declared.known.Role.{Role}
use Rattle.ceu_scopes.specs.declared.scope.Border.{Border}
use Rattle.ceu_scopes.specs.declared.scope.Scope.{Scope}
use Rattle.ceu_scopes.specs.declared.walk.Walk.{Walk}
use Rattle.ceu_scopes.specs.Shown.{rest_of}
use Rattle.ceu_scopes.specs.Walk.{Broken, ◌>>=◌, each, opened, closed, shown, with_name}
use Rattle.ceu_scopes.specs.Rules.{checked, resolved, noted, used, named, and_on, pool_used, alias_used, inside_broken, is_taken, declared}

module _ {A : Type 0} where
  -- where the walk goes on, this holds
  abbrev pub Always : (A → Type 0) → Result A Broken → Type 0
  Always P x = (a : A) → x ≡ Ok a → P a

  pub always_ok : (P : A → Type 0) (a : A) → P a → Always P (Ok a)
  always_ok P a h b e = let same : a ≡ b = cc in subst P same h

  pub always_err : (P : A → Type 0) (r : Broken) → Always P (Err r)
  always_err P r b e = absurd (cc)

  pub always_checked : (P : A → Type 0) (r : Option Rule) (place : Pos) (a : A) → P a → Always P (checked r place a)
  always_checked P None place a h = always_ok P a h
  always_checked P (Some r) place a h = always_err P (r, place)

  pub always_some : (P : A → Type 0) (r : Rule) (place : Pos) (a : A) → Always P (checked (Some r) place a)
  always_some P r place a = always_err P (r, place)

pub always_then : {A B : Type 0} (P : A → Type 0) (Q : B → Type 0) (x : Result A Broken) (f : A → Result B Broken) → Always P x → ((a : A) → P a → Always Q (f a)) → Always Q (x >>= f)
unfolding ◌>>=◌
always_then P Q (Ok a) f h k = k a (h a refl)
always_then P Q (Err r) f h k = always_err Q r

pub always_each : {A S : Type 0} (P : S → Type 0) (f : A → S → Result S Broken) → ((x : A) (s : S) → P s → Always P (f x s)) → (xs : List A) (s : S) → P s → Always P (each f xs s)
unfolding each
always_each P f h [] s p = always_ok P s p
always_each P f h (x ∷ xs) s p = always_then P P (f x s) (each f xs) (h x s p) (λ a q. always_each P f h xs a q)

-- so many blocks are open
abbrev pub Deep : ℕ → Walk → Type 0
Deep n w = length w.scopes ≡ n

abbrev pub DeepOf : {A : Type 0} → ℕ → A × Walk → Type 0
DeepOf n p = Deep n p.1

any : {A : Type 0} (x : Result A Broken) → Always (λ a. ⊤) x
any x a e = tt

pub used_deep : (r : Role) (x : Ident) (n : ℕ) (w : Walk) → Deep n w → Always (DeepOf n) (used r x w)
unfolding used
used_deep r x n w h = always_then (λ k. ⊤) (DeepOf n) (resolved r w.scopes x) (noted w) (any (resolved r w.scopes x)) (λ k u. always_ok (DeepOf n) (k, record w { uses = w.uses ++ k.number ∷ [] }) h)

pub on_deep : (n : ℕ) (p : Known × Walk) → DeepOf n p → Always (Deep n) (and_on p)
on_deep n p h = always_ok (Deep n) p.1 h

pub named_deep : (r : Role) (x : Ident) (n : ℕ) (w : Walk) → Deep n w → Always (Deep n) (named r x w)
unfolding named
named_deep r x n w h = always_then (DeepOf n) (Deep n) (used r x w) and_on (used_deep r x n w h) (on_deep n)

pub pool_deep : (code : ℕ) (x : Ident) (n : ℕ) (w : Walk) → Deep n w → Always (Deep n) (pool_used code x w)
unfolding pool_used
pool_deep code x n w h =
    always_then (DeepOf n) (Deep n) _ and_on
    (always_then (λ k. ⊤) (DeepOf n) _ (noted w) (any _) (λ k u. always_ok (DeepOf n) (k, record w { uses = w.uses ++ k.number ∷ [] }) h))
    (on_deep n)

pub alias_deep : (s : Spawn) (x : Ident) (n : ℕ) (w : Walk) → Deep n w → Always (Deep n) (alias_used s x w)
unfolding alias_used
alias_deep s x n w h =
    always_then (DeepOf n) (Deep n) _ and_on
    (always_then (λ k. ⊤) (DeepOf n) _ (noted w) (any _) (λ k u. always_ok (DeepOf n) (k, record w { uses = w.uses ++ k.number ∷ [] }) h))
    (on_deep n)

pub declared_deep : (c : Class) (t : Ty) (r : Option Rule) (x : Ident) (n : ℕ) (w : Walk) → Deep n w → Always (Deep n) (declared c t r x w)
unfolding declared
declared_deep c t r x n w h = always_checked (Deep n) (if is_taken w.scopes x.name then Some N2 else r) x.pos _ h

-- what may be declared in the outermost block alone isn't declared inside
inside_some : (s : List Scope) → 2 ≤ length s → inside_broken s ≡ Some N3
inside_some [] h = absurd (omega arith)
inside_some (x ∷ []) h = absurd (omega arith)
inside_some (x ∷ y ∷ s) h = refl

never : {A : Type 0} (P : A → Type 0) (b : Bool) (place : Pos) (a : A) → Always P (checked (if b then Some N2 else Some N3) place a)
never P true place a = always_some P N2 place a
never P false place a = always_some P N3 place a

pub inside_deep : (c : Class) (t : Ty) (x : Ident) (w : Walk) (P : Walk → Type 0) → 2 ≤ length w.scopes → Always P (declared c t (inside_broken w.scopes) x w)
unfolding declared
inside_deep c t x w P h =
    subst (λ r. Always P (declared c t r x w)) (sym (inside_some w.scopes h)) (never P (is_taken w.scopes x.name) x.pos _)

pub with_name_length : (x : List ℕ) (k : Known) (s : List Scope) → length (with_name x k s) ≡ length s
with_name_length x k [] = refl
with_name_length x k (s ∷ outside) = refl

pub shown_deep : (x : Ident) (k : Known) (n : ℕ) (w : Walk) → Deep n w → Always (Deep n) (shown x k w)
unfolding shown
shown_deep x k n w h = always_ok (Deep n) (record w { scopes = with_name x.name k w.scopes }) (with_name_length x.name k w.scopes ∙ h)

pub opened_deep : (b : Border) (n : ℕ) (w : Walk) → Deep n w → Deep (suc n) (opened b w)
unfolding opened
opened_deep b n w h = ap suc h

rest_length : (n : ℕ) (s : List Scope) → length s ≡ suc n → length (rest_of s) ≡ n
rest_length n [] h = absurd (omega (arith, h))
rest_length n (x ∷ xs) h = omega (arith, h)

pub closed_deep : (n : ℕ) (w : Walk) → Deep (suc n) w → Always (Deep n) (closed w)
unfolding closed
closed_deep n w h = always_ok (Deep n) (record w { scopes = rest_of w.scopes }) (rest_length n w.scopes h)
