-- The walk through a program's names beside the draft of its kernel: both count the same uses and declarations, and the code that is shown has
-- its number in the draft.
use Rattle.std.proofs.Common.{◌≡◌, refl, sym, ap, ◌∙◌, subst, ℕ, suc, zero, ◌+◌, ◌<◌, length, arith, List, [], ◌∷◌, ◌++◌, Option, Some, None, Result, Ok, Err, Bool, true, false}
use Rattle.std.specs.Prelude.{⊤, if◌then◌else◌, slice_get, not, ◌&&◌, bytes_eq, ok_or, unwrap_or}
use Rattle.ceu_base.specs.declared.kinds.Ty.{Ty}
use Rattle.ceu_base.specs.declared.kinds.Rule.{Rule}
use Rattle.ceu_base.specs.declared.kinds.Rule.TheVariants.{N1, N3, N4, N5, N6}
use Rattle.ceu_tree.specs.declared.source.Class.{Class}
use Rattle.ceu_tree.specs.declared.source.Class.TheVariants as class
use Rattle.ceu_tree.specs.declared.source.Ident.{Ident}
use Rattle.ceu_tree.specs.declared.source.Spawn.{Spawn}
use Rattle.ceu_scopes.specs.declared.known.Known.{Known}
use Rattle.ceu_scopes.specs.declared.known.Role.{Role}
use Rattle.ceu_scopes.specs.declared.known.Scopes.{Scopes}
use Rattle.ceu_scopes.specs.declared.scope.Border.{Border}
use Rattle.ceu_scopes.specs.declared.scope.Border.TheVariants.{Plain, Async, Body}
use Rattle.ceu_scopes.specs.declared.scope.Scope.{Scope}
use Rattle.ceu_scopes.specs.declared.walk.Walk.{Walk}
use Rattle.ceu_scopes.specs.Shown.{found, entered, rest_of}
use Rattle.ceu_scopes.specs.Walk.{Broken, ◌>>=◌, opened, closed, shown, with_name, only, is_global, is_shared, through, or_outside, seen, is_own, in_code, outermost, seen_outer, decl_of, is_listed}
use Rattle.ceu_scopes.specs.Rules.{checked, is_code, takes, needs_list, judged, resolved, noted, used, named, and_on, pool_used, alias_used, declared}
use Rattle.ceu_expand.specs.declared.draft.Draft.{Draft}
use Rattle.ceu_expand.specs.Uses as uses
use Rattle.ceu_expand.specs.Uses.{number_at, number_of, use_number}
use Rattle.laws_kernel_shape.proofs.Inside.{append_assoc}
use Rattle.laws_kernel_shape.proofs.Steps.{Always, always_ok, always_err, always_checked, always_then}

-- ---- what is shown

-- code that a name stands for has its number below the limit
abbrev pub CodeMeans : ℕ → List ℕ → Known → Type 0
CodeMeans limit numbers k = is_code k.class ≡ true → (n : ℕ) × (slice_get numbers k.number ≡ Some n) × (n < limit)

abbrev pub Entries : (Known → Type 0) → List (List ℕ × Known) → Type 0
Entries P [] = ⊤
Entries P (e ∷ es) = P e.1 × Entries P es

abbrev pub AllScopes : (Known → Type 0) → List Scope → Type 0
AllScopes P [] = ⊤
AllScopes P (s ∷ outside) = Entries P s.names × AllScopes P outside

module _ (P : Known → Type 0) where
  first_found : (b : Bool) (e : List ℕ × Known) (es : List (List ℕ × Known)) (x : List ℕ) (k : Known) → P e.1 → (found es x ≡ Some k → P k) → (if b then Some e.1 else found es x) ≡ Some k → P k
  first_found true e es x k h rest same = let one : e.1 ≡ k = cc in subst P one h
  first_found false e es x k h rest same = rest same

  pub found_in : (es : List (List ℕ × Known)) (x : List ℕ) (k : Known) → Entries P es → found es x ≡ Some k → P k
  found_in [] x k h e = absurd (cc)
  found_in (c ∷ es) x k h e = first_found (bytes_eq x c.0) c es x k h.0 (found_in es x k h.1) e

  through_in : (b : Border) (o : Option Known) (k : Known) → through b o ≡ Some k → o ≡ Some k
  through_in (Body name) None k e = e
  through_in (Body name) (Some j) k e = by_class (is_global j.class) e
    where
      by_class : (b : Bool) → (if b then Some j else None) ≡ Some k → Some j ≡ Some k
      by_class true e = e
      by_class false e = absurd (cc)
  through_in Plain o k e = e
  through_in (Async ns) o k e = e

  first_seen : (o rest : Option Known) (k : Known) → (o ≡ Some k → P k) → (rest ≡ Some k → P k) → or_outside o rest ≡ Some k → P k
  first_seen None rest k one two e = two e
  first_seen (Some j) rest k one two e = one e

  seen_in : (scopes : List Scope) (x : List ℕ) (k : Known) → AllScopes P scopes → seen scopes x ≡ Some k → P k
  seen_in [] x k h e = absurd (cc)
  seen_in (s ∷ outside) x k h e =
      first_seen (found s.names x) (through s.border (seen outside x)) k (found_in s.names x k h.0) (λ i. seen_in outside x k h.1 (through_in s.border (seen outside x) k i)) e

  -- one more name is shown
  entered_first : (b : Bool) (c : List ℕ × Known) (es rest : List (List ℕ × Known)) (k : Known) → P k → Entries P (c ∷ es) → Entries P rest → Entries P (if b then (c.0, k) ∷ es else c ∷ rest)
  entered_first true c es rest k p h r = (p, h.1)
  entered_first false c es rest k p h r = (h.0, r)

  entered_all : (es : List (List ℕ × Known)) (x : List ℕ) (k : Known) → P k → Entries P es → Entries P (entered es x k)
  entered_all [] x k p h = (p, tt)
  entered_all (c ∷ es) x k p h = entered_first (bytes_eq x c.0) c es (entered es x k) k p h (entered_all es x k p h.1)

  pub with_name_all : (x : List ℕ) (k : Known) (scopes : List Scope) → P k → AllScopes P scopes → AllScopes P (with_name x k scopes)
  with_name_all x k [] p h = tt
  with_name_all x k (s ∷ outside) p h = (entered_all s.names x k p h.0, h.1)

  pub rest_all : (scopes : List Scope) → AllScopes P scopes → AllScopes P (rest_of scopes)
  rest_all [] h = tt
  rest_all (s ∷ outside) h = h.1

module _ (P Q : Known → Type 0) (f : (k : Known) → P k → Q k) where
  entries_map : (es : List (List ℕ × Known)) → Entries P es → Entries Q es
  entries_map [] h = tt
  entries_map (e ∷ es) h = (f e.1 h.0, entries_map es h.1)

  pub scopes_map : (scopes : List Scope) → AllScopes P scopes → AllScopes Q scopes
  scopes_map [] h = tt
  scopes_map (s ∷ outside) h = (entries_map s.names h.0, scopes_map outside h.1)

-- ---- lists that go on

pub get_more : {A : Type 0} (xs ys : List A) (k : ℕ) (x : A) → slice_get xs k ≡ Some x → slice_get (xs ++ ys) k ≡ Some x
get_more [] ys k x h = absurd (cc)
get_more (y ∷ xs) ys zero x h = h
get_more (y ∷ xs) ys (suc k) x h = get_more xs ys k x h

pub get_next : {A : Type 0} (xs : List A) (x : A) (ys : List A) → slice_get (xs ++ x ∷ ys) (length xs) ≡ Some x
get_next [] x ys = refl
get_next (y ∷ xs) x ys = get_next xs x ys

-- ---- what a use finds

pub ok_some : {A : Type 0} (o : Option A) (n : Rule) (k : A) → ok_or o n ≡ Ok k → o ≡ Some k
ok_some None n k e = absurd (cc)
ok_some (Some j) n k e = let same : j ≡ k = cc in ap Some same

no_shared_code : (c : Class) → is_shared c ≡ true → is_code c ≡ true → ⊥
no_shared_code class.Var s e = absurd (cc)
no_shared_code class.Event s e = absurd (cc)
no_shared_code class.Code s e = absurd (cc)
no_shared_code class.Param s e = absurd (cc)
no_shared_code class.LoopVar s e = absurd (cc)
no_shared_code class.Alias s e = absurd (cc)
no_shared_code class.Pool s e = absurd (cc)
no_shared_code class.Input s e = absurd (cc)
no_shared_code class.Output s e = absurd (cc)

only_shared : (o : Option Known) (k : Known) → only is_shared o ≡ Some k → is_shared k.class ≡ true
only_shared None k e = absurd (cc)
only_shared (Some j) k e = by_class (is_shared j.class) refl e
  where
    by_class : (b : Bool) → is_shared j.class ≡ b → (if b then Some j else None) ≡ Some k → is_shared k.class ≡ true
    by_class true same e = let one : j ≡ k = cc in subst (λ i. is_shared i.class ≡ true) one same
    by_class false same e = absurd (cc)

outer_shared : (scopes : List Scope) (x : List ℕ) (k : Known) → seen_outer scopes x ≡ Some k → is_shared k.class ≡ true
outer_shared scopes x k e = by_code (in_code scopes) e
  where
    by_code : (b : Bool) → (if b then only is_shared (found (outermost scopes) x) else None) ≡ Some k → is_shared k.class ≡ true
    by_code true e = only_shared (found (outermost scopes) x) k e
    by_code false e = absurd (cc)

-- what is found is shown, unless it is a variable or an event of the outermost block
decl_means : (P : Known → Type 0) (scopes : List Scope) (x : Ident) (k : Known) → decl_of scopes x ≡ Ok k → AllScopes (λ k. is_code k.class ≡ true → P k) scopes → is_code k.class ≡ true → P k
decl_means P scopes x k e h code = by_outer x.outer e
  where
    by_outer : (b : Bool) → (if b then ok_or (seen_outer scopes x.name) N4 else ok_or (seen scopes x.name) (if is_own scopes x.name then N5 else N1)) ≡ Ok k → P k
    by_outer true e = absurd (no_shared_code k.class (outer_shared scopes x.name k (ok_some (seen_outer scopes x.name) N4 k e)) code)
    by_outer false e = seen_in (λ k. is_code k.class ≡ true → P k) scopes x.name k h (ok_some (seen scopes x.name) (if is_own scopes x.name then N5 else N1) k e) code

resolved_tests : (r : Role) (scopes : List Scope) (x : Ident) (k : Known) (a b : Bool) → decl_of scopes x ≡ Ok k → takes r k.class ≡ a →
    Always (λ k. (decl_of scopes x ≡ Ok k) × (takes r k.class ≡ true)) (checked (if not a then Some N3 else (if b then Some N6 else None)) x.pos k)
resolved_tests r scopes x k true true e c = always_err (λ k. (decl_of scopes x ≡ Ok k) × (takes r k.class ≡ true)) (N6, x.pos)
resolved_tests r scopes x k true false e c = always_ok (λ k. (decl_of scopes x ≡ Ok k) × (takes r k.class ≡ true)) k (e, c)
resolved_tests r scopes x k false b e c = always_err (λ k. (decl_of scopes x ≡ Ok k) × (takes r k.class ≡ true)) (N3, x.pos)

pub resolved_decl : (r : Role) (scopes : List Scope) (x : Ident) → Always (λ k. (decl_of scopes x ≡ Ok k) × (takes r k.class ≡ true)) (resolved r scopes x)
unfolding resolved
resolved_decl r scopes x = by_decl (decl_of scopes x) refl
  where
    by_decl : (o : Result Known Rule) → decl_of scopes x ≡ o → Always (λ k. (decl_of scopes x ≡ Ok k) × (takes r k.class ≡ true)) (judged r scopes x.pos o)
    by_decl (Err n) e = always_err (λ k. (decl_of scopes x ≡ Ok k) × (takes r k.class ≡ true)) (n, x.pos)
    by_decl (Ok k) e = resolved_tests r scopes x k (takes r k.class) (needs_list r && not (is_listed scopes k)) e refl

pub length_more : {A : Type 0} (xs : List A) (x : A) → length (xs ++ x ∷ []) ≡ length xs + 1
length_more [] x = refl
length_more (y ∷ ys) x = let e = length_more ys x in omega (arith, e)

-- ---- both

-- the uses of the whole program begin with those of the walk
pub record Fits (s : Scopes) (w : Walk) : Type 0 where
  pub rest : List ℕ
  pub is : s.uses ≡ w.uses ++ rest

module _ (s : Scopes) (limit : ℕ) where
  pub record Both (w : Walk) (d : Draft) : Type 0 where
    pub uses : length w.uses ≡ d.uses
    pub decls : length w.decls ≡ length d.numbers
    pub codes : AllScopes (CodeMeans limit d.numbers) w.scopes

  pub record Step (w : Walk) (d : Draft) (v : Walk) (e : Draft) : Type 0 where
    pub both : Both w d → Both v e
    pub fits : Fits s v → Fits s w

  pub step_then : {w v u : Walk} {d e c : Draft} → Step w d v e → Step v e u c → Step w d u c
  step_then a b = record { both = λ h. b.both (a.both h); fits = λ h. a.fits (b.fits h) }

  abbrev pub Goes : Walk → Draft → Result Walk Broken → Draft → Type 0
  Goes w d x e = Always (λ v. Step w d v e) x

  pub goes_ok : (w : Walk) (d e : Draft) → (Both w d → Both w e) → Goes w d (Ok w) e
  goes_ok w d e h = always_ok (λ v. Step w d v e) w (record { both = h; fits = λ k. k })

  pub goes_then : (w : Walk) (d e c : Draft) (x : Result Walk Broken) (f : Walk → Result Walk Broken) → Goes w d x e → ((v : Walk) → Goes v e (f v) c) → Goes w d (x >>= f) c
  goes_then w d e c x f a b = always_then (λ v. Step w d v e) (λ v. Step w d v c) x f a (λ v k u h. step_then k (b v u h))

  -- ---- uses

  more_uses : (w : Walk) (k : ℕ) → Fits s (record w { uses = w.uses ++ k ∷ [] }) → Fits s w
  more_uses w k h = record { rest = k ∷ h.rest; is = h.is ∙ append_assoc w.uses (k ∷ []) h.rest }

  count_more : (xs : List ℕ) (k n : ℕ) → length xs ≡ n → length (xs ++ k ∷ []) ≡ n + 1
  count_more xs k n h = length_more xs k ∙ ap (λ m. m + 1) h

  noted_both : (w : Walk) (d : Draft) (k : ℕ) → Both w d → Both (record w { uses = w.uses ++ k ∷ [] }) (uses.used d)
  unfolding uses.used
  noted_both w d k h = record { uses = count_more w.uses k d.uses h.uses; decls = h.decls; codes = h.codes }

  -- what a use finds
  pub record Use (w : Walk) (d : Draft) (p : Known × Walk) : Type 0 where
    pub step : Step w d p.1 (uses.used d)
    pub code : is_code p.0.class ≡ true → Both w d → Fits s p.1 → use_number s d < limit

  number_below : (numbers : List ℕ) (k n : ℕ) (o : Option ℕ) → o ≡ Some k → slice_get numbers k ≡ Some n → n < limit → number_at numbers o < limit
  number_below numbers k n None e g lt = absurd (cc)
  number_below numbers k n (Some j) e g lt =
      let same : j ≡ k = cc in
      let value : unwrap_or (slice_get numbers j) 0 ≡ n = ap (λ i. unwrap_or (slice_get numbers i) 0) same ∙ ap (λ o. unwrap_or o 0) g in
      omega (arith, value, lt)

  use_below : (w : Walk) (d : Draft) (k : Known) → CodeMeans limit d.numbers k → is_code k.class ≡ true → length w.uses ≡ d.uses → Fits s (record w { uses = w.uses ++ k.number ∷ [] }) → use_number s d < limit
  unfolding use_number
  use_below w d k means code count fits =
      let m = means code in
      let here : slice_get ((w.uses ++ k.number ∷ []) ++ fits.rest) d.uses ≡ Some k.number =
      ap (λ xs. slice_get xs d.uses) (append_assoc w.uses (k.number ∷ []) fits.rest) ∙ ap (slice_get (w.uses ++ (k.number ∷ fits.rest))) (sym count) ∙ get_next w.uses k.number fits.rest in
      number_below d.numbers k.number m.0 (slice_get s.uses d.uses) (ap (λ xs. slice_get xs d.uses) fits.is ∙ here) m.1 m.2

  pub used_use : (r : Role) (x : Ident) (w : Walk) (d : Draft) → Always (λ p. Use w d p × (takes r p.0.class ≡ true)) (used r x w)
  unfolding used
  used_use r x w d =
      always_then (λ k. (decl_of w.scopes x ≡ Ok k) × (takes r k.class ≡ true)) (λ p. Use w d p × (takes r p.0.class ≡ true)) (resolved r w.scopes x) (noted w) (resolved_decl r w.scopes x)
      (λ k h.
      always_ok (λ p. Use w d p × (takes r p.0.class ≡ true)) (k, record w { uses = w.uses ++ k.number ∷ [] }) (
        record {
          step = record { both = noted_both w d k.number; fits = more_uses w k.number };
          code = λ code both fits. use_below w d k (decl_means (λ k. (n : ℕ) × (slice_get d.numbers k.number ≡ Some n) × (n < limit)) w.scopes x k h.0 both.codes) code both.uses fits;
        },
        h.1,
      ))

  pub used_goes : (r : Role) (x : Ident) (w : Walk) (d : Draft) → Goes w d (named r x w) (uses.used d)
  unfolding named
  used_goes r x w d =
      always_then (λ p. Use w d p × (takes r p.0.class ≡ true)) (λ v. Step w d v (uses.used d)) (used r x w) and_on (used_use r x w d)
      (λ p h. always_ok (λ v. Step w d v (uses.used d)) p.1 h.0.step)

  noted_goes : (w : Walk) (d : Draft) (x : Result Known Broken) → Always (λ v. Step w d v (uses.used d)) (x >>= noted w >>= and_on)
  noted_goes w d x =
      always_then (λ (p : Known × Walk). Step w d p.1 (uses.used d)) (λ v. Step w d v (uses.used d)) (x >>= noted w) and_on
      (always_then (λ k. ⊤) (λ (p : Known × Walk). Step w d p.1 (uses.used d)) x (noted w) (λ k e. tt)
      (λ k u.
      always_ok (λ (p : Known × Walk). Step w d p.1 (uses.used d)) (k, record w { uses = w.uses ++ k.number ∷ [] })
      (record { both = noted_both w d k.number; fits = more_uses w k.number })))
      (λ p h. always_ok (λ v. Step w d v (uses.used d)) p.1 h)

  pub pool_goes : (code : ℕ) (x : Ident) (w : Walk) (d : Draft) → Goes w d (pool_used code x w) (uses.used d)
  unfolding pool_used
  pool_goes code x w d = noted_goes w d _

  pub alias_goes : (sp : Spawn) (x : Ident) (w : Walk) (d : Draft) → Goes w d (alias_used sp x w) (uses.used d)
  unfolding alias_used
  alias_goes sp x w d = noted_goes w d _

  -- ---- declarations

  pub means_more : (numbers more : List ℕ) (k : Known) → CodeMeans limit numbers k → CodeMeans limit (numbers ++ more) k
  means_more numbers more k h code = let m = h code in (m.0, get_more numbers more k.number m.0 m.1, m.2)

  -- a declaration gets its number in the draft
  pub declared_goes : (c : Class) (t : Ty) (r : Option Rule) (x : Ident) (n : ℕ) (w : Walk) (d e : Draft) → e.uses ≡ d.uses → e.numbers ≡ d.numbers ++ n ∷ [] → Goes w d (declared c t r x w) e
  unfolding declared
  declared_goes c t r x n w d e same numbers =
      always_checked (λ v. Step w d v e) _ x.pos _ (record {
        both = λ h. record {
          uses = h.uses ∙ sym same;
          decls = length_more w.decls _ ∙ ap (λ m. m + 1) h.decls ∙ sym (length_more d.numbers n) ∙ ap length (sym numbers);
          codes =
              subst (λ ns. AllScopes (CodeMeans limit ns) w.scopes) (sym numbers)
              (scopes_map (CodeMeans limit d.numbers) (CodeMeans limit (d.numbers ++ n ∷ [])) (means_more d.numbers (n ∷ [])) w.scopes h.codes);
        };
        fits = λ h. record { rest = h.rest; is = h.is };
      })

  -- a name that isn't code's is shown
  pub shown_goes : (x : Ident) (k : Known) (w : Walk) (d : Draft) → is_code k.class ≡ false → Goes w d (shown x k w) d
  unfolding shown
  shown_goes x k w d other =
      always_ok (λ v. Step w d v d) (record w { scopes = with_name x.name k w.scopes }) (record {
        both = λ h. record { uses = h.uses; decls = h.decls; codes = with_name_all (CodeMeans limit d.numbers) x.name k w.scopes (λ code. absurd (cc)) h.codes };
        fits = λ h. record { rest = h.rest; is = h.is };
      })

  -- ---- blocks, labels

  pub opened_step : (b : Border) (w : Walk) (d : Draft) → Step w d (opened b w) d
  unfolding opened
  opened_step b w d = record { both = λ h. record { uses = h.uses; decls = h.decls; codes = (tt, h.codes) }; fits = λ h. record { rest = h.rest; is = h.is } }

  pub closed_goes : (w : Walk) (d : Draft) → Goes w d (closed w) d
  unfolding closed
  closed_goes w d =
      always_ok (λ v. Step w d v d) (record w { scopes = rest_of w.scopes }) (record {
        both = λ h. record { uses = h.uses; decls = h.decls; codes = rest_all (CodeMeans limit d.numbers) w.scopes h.codes };
        fits = λ h. record { rest = h.rest; is = h.is };
      })

  pub labels_step : (ls : List (List ℕ)) (w : Walk) (d : Draft) → Step w d (record w { labels = ls }) d
  labels_step ls w d = record { both = λ h. record { uses = h.uses; decls = h.decls; codes = h.codes }; fits = λ h. record { rest = h.rest; is = h.is } }

  -- the draft alone goes on
  pub draft_step : (w : Walk) (d e : Draft) → e.uses ≡ d.uses → e.numbers ≡ d.numbers → Step w d w e
  draft_step w d e u n =
      record {
        both = λ h. record { uses = h.uses ∙ sym u; decls = h.decls ∙ ap length (sym n); codes = subst (λ ns. AllScopes (CodeMeans limit ns) w.scopes) (sym n) h.codes };
        fits = λ h. h;
      }
