-- The walk through a program's names beside the draft of its kernel: what is shown stands for other slots than the one that is looked at.
use Rattle.std.proofs.Common.{◌≡◌, ◌≢◌, refl, sym, ap, ◌∙◌, subst, ℕ, ◌≤◌, ◌<◌, ◌+◌, length, arith, List, [], ◌∷◌, ◌++◌, Option, Some, None, Result, Ok, Bool, true, false}
use Rattle.std.specs.Prelude.{⊤, ◌||◌, if◌then◌else◌, slice_get, unwrap_or, ok_or}
use Rattle.ceu_base.specs.declared.kinds.Ty.{Ty}
use Rattle.ceu_base.specs.declared.kinds.Rule.{Rule}
use Rattle.ceu_base.specs.declared.kinds.Rule.TheVariants.{N1, N4, N5}
use Rattle.ceu_tree.specs.declared.source.Class.{Class}
use Rattle.ceu_tree.specs.declared.source.Class.TheVariants as class
use Rattle.ceu_tree.specs.declared.source.Ident.{Ident}
use Rattle.ceu_tree.specs.declared.source.Spawn.{Spawn}
use Rattle.ceu_tree.specs.Mentions.{named_by, count_of}
use Rattle.ceu_scopes.specs.declared.known.Known.{Known}
use Rattle.ceu_scopes.specs.declared.known.Role.{Role}
use Rattle.ceu_scopes.specs.declared.known.Role.TheVariants as role
use Rattle.ceu_scopes.specs.declared.known.Scopes.{Scopes}
use Rattle.ceu_scopes.specs.declared.scope.Border.{Border}
use Rattle.ceu_scopes.specs.declared.scope.Border.TheVariants.{Plain, Async, Body}
use Rattle.ceu_scopes.specs.declared.scope.Scope.{Scope}
use Rattle.ceu_scopes.specs.declared.walk.Walk.{Walk}
use Rattle.ceu_scopes.specs.Shown.{found, rest_of}
use Rattle.ceu_scopes.specs.Walk.{Broken, ◌>>=◌, opened, closed, shown, with_name, only, is_global, is_shared, through, or_outside, seen, is_own, in_code, outermost, seen_outer, decl_of}
use Rattle.ceu_scopes.specs.Rules.{is_variable, is_assigned, is_alias, is_code, takes, resolved, asked, set_broken, noted, used, named, and_on, pool_used, alias_used, declared}
use Rattle.ceu_expand.specs.declared.draft.Draft.{Draft}
use Rattle.ceu_expand.specs.Uses as uses
use Rattle.ceu_expand.specs.Uses.{number_at, use_number}
use Rattle.laws_kernel_shape.proofs.Inside.{append_assoc}
use Rattle.laws_kernel_shape.proofs.Steps.{Always, always_ok, always_checked, always_then}
use Rattle.laws_kernel_names.proofs.Stepping.{Entries, AllScopes, found_in, with_name_all, rest_all, scopes_map, get_more, get_next, ok_some, resolved_decl, length_more, Fits}

-- ---- what is found is shown somewhere

module _ (P : Known → Type 0) where
  only_some : (test : _) (o : Option Known) (k : Known) → only test o ≡ Some k → o ≡ Some k
  only_some test None k e = e
  only_some test (Some j) k e = by_class (test j.class) e
    where
      by_class : (b : Bool) → (if b then Some j else None) ≡ Some k → Some j ≡ Some k
      by_class true e = e
      by_class false e = absurd (cc)

  through_some : (b : Border) (o : Option Known) (k : Known) → through b o ≡ Some k → o ≡ Some k
  through_some (Body name) o k e = only_some is_global o k e
  through_some Plain o k e = e
  through_some (Async ns) o k e = e

  first_seen : (o rest : Option Known) (k : Known) → (o ≡ Some k → P k) → (rest ≡ Some k → P k) → or_outside o rest ≡ Some k → P k
  first_seen None rest k one two e = two e
  first_seen (Some j) rest k one two e = one e

  seen_in : (scopes : List Scope) (x : List ℕ) (k : Known) → AllScopes P scopes → seen scopes x ≡ Some k → P k
  seen_in [] x k h e = absurd (cc)
  seen_in (s ∷ outside) x k h e =
      first_seen (found s.names x) (through s.border (seen outside x)) k (found_in P s.names x k h.0) (λ i. seen_in outside x k h.1 (through_some s.border (seen outside x) k i)) e

  outermost_in : (scopes : List Scope) → AllScopes P scopes → Entries P (outermost scopes)
  outermost_in [] h = tt
  outermost_in (s ∷ []) h = h.0
  outermost_in (s ∷ o ∷ outside) h = outermost_in (o ∷ outside) h.1

  outer_in : (scopes : List Scope) (x : List ℕ) (k : Known) → AllScopes P scopes → seen_outer scopes x ≡ Some k → P k
  outer_in scopes x k h e = by_code (in_code scopes) e
    where
      by_code : (b : Bool) → (if b then only is_shared (found (outermost scopes) x) else None) ≡ Some k → P k
      by_code true e = found_in P (outermost scopes) x k (outermost_in scopes h) (only_some is_shared (found (outermost scopes) x) k e)
      by_code false e = absurd (cc)

  decl_in : (scopes : List Scope) (x : Ident) (k : Known) → AllScopes P scopes → decl_of scopes x ≡ Ok k → P k
  decl_in scopes x k h e = by_outer x.outer e
    where
      by_outer : (b : Bool) → (if b then ok_or (seen_outer scopes x.name) N4 else ok_or (seen scopes x.name) (if is_own scopes x.name then N5 else N1)) ≡ Ok k → P k
      by_outer true e = outer_in scopes x.name k h (ok_some (seen_outer scopes x.name) N4 k e)
      by_outer false e = seen_in scopes x.name k h (ok_some (seen scopes x.name) (if is_own scopes x.name then N5 else N1) k e)

-- ---- which declarations have slots

abbrev pub is_slotted : Class → Bool
is_slotted c = is_variable c || is_alias c

abbrev pub names_slot : Role → Bool
names_slot role.Read = true
names_slot role.Written = true
names_slot role.Asked = true
names_slot role.Alias = true
names_slot _ = false

assigned_slotted : (c : Class) → is_assigned c ≡ true → is_slotted c ≡ true
assigned_slotted class.Var h = refl
assigned_slotted class.Param h = refl
assigned_slotted c h = absurd (cc)

or_right : (a b : Bool) → b ≡ true → (a || b) ≡ true
or_right true b h = refl
or_right false b h = h

takes_slotted : (r : Role) (c : Class) → names_slot r ≡ true → takes r c ≡ true → is_slotted c ≡ true
takes_slotted role.Read c n h = ap (λ b. b || is_alias c) h
takes_slotted role.Written c n h = assigned_slotted c h
takes_slotted role.Asked c n h = or_right (is_variable c) (is_alias c) h
takes_slotted role.Alias c n h = or_right (is_variable c) (is_alias c) h
takes_slotted r c n h = absurd (cc)

-- n isn't in the range
abbrev pub Outside : (from to n : ℕ) → Type 0
Outside from to n = from ≤ n → n < to → ⊥

module _ (T : List (List ℕ)) where
  -- ---- what a name stands for: another slot than n, or code that doesn't name n

  module _ (n : ℕ) (numbers : List ℕ) (k : Known) where
    abbrev pub Slot : Type 0
    Slot = (m : ℕ) × (slice_get numbers k.number ≡ Some m) × (m ≢ n)

    abbrev pub Body' : Type 0
    Body' = (m : ℕ) × (slice_get numbers k.number ≡ Some m) × (count_of n (named_by m T) ≡ 0)

    abbrev pub MeansOf : Class → Type 0
    MeansOf class.Var = Slot
    MeansOf class.Param = Slot
    MeansOf class.LoopVar = Slot
    MeansOf class.Alias = Slot
    MeansOf class.Code = Body'
    MeansOf _ = ⊤

    abbrev pub Means : Type 0
    Means = MeansOf k.class

    pub slot_means : (c : Class) → is_slotted c ≡ true → Slot → MeansOf c
    slot_means class.Var h m = m
    slot_means class.Param h m = m
    slot_means class.LoopVar h m = m
    slot_means class.Alias h m = m
    slot_means class.Code h m = absurd (cc)
    slot_means class.Event h m = tt
    slot_means class.Input h m = tt
    slot_means class.Output h m = tt
    slot_means class.Pool h m = tt

    pub other_means : (c : Class) → is_slotted c ≡ false → is_code c ≡ false → MeansOf c
    other_means class.Event h k = tt
    other_means class.Input h k = tt
    other_means class.Output h k = tt
    other_means class.Pool h k = tt
    other_means class.Code h k = absurd (cc)
    other_means class.Var h k = absurd (cc)
    other_means class.Param h k = absurd (cc)
    other_means class.LoopVar h k = absurd (cc)
    other_means class.Alias h k = absurd (cc)

    slot_of : (c : Class) → is_slotted c ≡ true → MeansOf c → Slot
    slot_of class.Var h m = m
    slot_of class.Param h m = m
    slot_of class.LoopVar h m = m
    slot_of class.Alias h m = m
    slot_of c h m = absurd (cc)

    body_of : (c : Class) → is_code c ≡ true → MeansOf c → Body'
    body_of class.Code h m = m
    body_of c h m = absurd (cc)

  means_of : (n : ℕ) (numbers more : List ℕ) (k : Known) (c : Class) → MeansOf n numbers k c → MeansOf n (numbers ++ more) k c
  means_of n numbers more k class.Var h = (h.0, get_more numbers more k.number h.0 h.1, h.2)
  means_of n numbers more k class.Param h = (h.0, get_more numbers more k.number h.0 h.1, h.2)
  means_of n numbers more k class.LoopVar h = (h.0, get_more numbers more k.number h.0 h.1, h.2)
  means_of n numbers more k class.Alias h = (h.0, get_more numbers more k.number h.0 h.1, h.2)
  means_of n numbers more k class.Code h = (h.0, get_more numbers more k.number h.0 h.1, h.2)
  means_of n numbers more k class.Event h = tt
  means_of n numbers more k class.Input h = tt
  means_of n numbers more k class.Output h = tt
  means_of n numbers more k class.Pool h = tt

  pub means_more : (n : ℕ) (numbers more : List ℕ) (k : Known) → Means n numbers k → Means n (numbers ++ more) k
  means_more n numbers more k h = means_of n numbers more k k.class h

  -- the walk and the draft count the same, and what is shown doesn't stand for n
  pub record Knows (n : ℕ) (w : Walk) (d : Draft) : Type 0 where
    pub uses : length w.uses ≡ d.uses
    pub decls : length w.decls ≡ length d.numbers
    pub means : AllScopes (Means n d.numbers) w.scopes

  module _ (s : Scopes) where
    -- a part of both, which takes slots from those that are free
    pub record Step (w : Walk) (d : Draft) (v : Walk) (e : Draft) : Type 0 where
      pub fits : Fits s v → Fits s w
      pub slots : d.slot ≤ e.slot
      pub knows : (n : ℕ) → Outside d.slot e.slot n → Knows n w d → Knows n v e
      pub means : (n : ℕ) (k : Known) → Means n d.numbers k → Means n e.numbers k

    pub step_then : {w v u : Walk} {d e c : Draft} → Step w d v e → Step v e u c → Step w d u c
    step_then {d = d} {e = e} {c = c} a b =
        let x : d.slot ≤ e.slot = a.slots in
        let y : e.slot ≤ c.slot = b.slots in
        record {
          fits = λ h. a.fits (b.fits h);
          slots = omega (arith, x, y);
          knows = λ n o k. b.knows n (λ lo hi. o (omega (arith, x, lo)) hi) (a.knows n (λ lo hi. o lo (omega (arith, y, hi))) k);
          means = λ n k m. b.means n k (a.means n k m);
        }

    abbrev pub Goes : Walk → Draft → Result Walk Broken → Draft → Type 0
    Goes w d x e = Always (λ v. Step w d v e) x

    pub goes_then : (w : Walk) (d e c : Draft) (x : Result Walk Broken) (f : Walk → Result Walk Broken) → Goes w d x e → ((v : Walk) → Goes v e (f v) c) → Goes w d (x >>= f) c
    goes_then w d e c x f a b = always_then (λ v. Step w d v e) (λ v. Step w d v c) x f a (λ v k u h. step_then k (b v u h))

    -- the draft alone goes on
    pub calm_knows : (n : ℕ) (w : Walk) (d e : Draft) → e.uses ≡ d.uses → e.numbers ≡ d.numbers → Knows n w d → Knows n w e
    calm_knows n w d e u ns k = record { uses = k.uses ∙ sym u; decls = k.decls ∙ ap length (sym ns); means = subst (λ x. AllScopes (Means n x) w.scopes) (sym ns) k.means }

    pub calm_step : (w : Walk) (d e : Draft) → e.uses ≡ d.uses → e.numbers ≡ d.numbers → d.slot ≤ e.slot → Step w d w e
    calm_step w d e u ns le =
        record {
          fits = λ h. h;
          slots = le;
          knows = λ n o k. calm_knows n w d e u ns k;
          means = λ n k m. subst (λ x. Means n x k) (sym ns) m;
        }

    pub still : (w : Walk) (d : Draft) → Step w d w d
    still w d = calm_step w d d refl refl (omega arith)

    -- ---- uses

    more_uses : (w : Walk) (k : ℕ) → Fits s (record w { uses = w.uses ++ k ∷ [] }) → Fits s w
    more_uses w k h = record { rest = k ∷ h.rest; is = h.is ∙ append_assoc w.uses (k ∷ []) h.rest }

    noted_step : (w : Walk) (d : Draft) (k : ℕ) → Step w d (record w { uses = w.uses ++ k ∷ [] }) (uses.used d)
    unfolding uses.used
    noted_step w d k =
        record {
          fits = more_uses w k;
          slots = omega arith;
          knows = λ n o h. record { uses = length_more w.uses k ∙ ap (λ m. m + 1) h.uses; decls = h.decls; means = h.means };
          means = λ n k m. m;
        }

    -- what a use finds
    pub record Found (r : Role) (w : Walk) (d : Draft) (k : Known) (v : Walk) : Type 0 where
      pub step : Step w d v (uses.used d)
      pub takes_it : takes r k.class ≡ true
      pub means : (n : ℕ) → Knows n w d → Means n d.numbers k
      pub listed : length w.uses ≡ d.uses → Fits s v → slice_get s.uses d.uses ≡ Some k.number

    listed_at : (w : Walk) (d : Draft) (k : ℕ) → length w.uses ≡ d.uses → (f : Fits s (record w { uses = w.uses ++ k ∷ [] })) → slice_get s.uses d.uses ≡ Some k
    listed_at w d k count f =
        ap (λ xs. slice_get xs d.uses) f.is ∙ ap (λ xs. slice_get xs d.uses) (append_assoc w.uses (k ∷ []) f.rest) ∙ ap (slice_get (w.uses ++ (k ∷ f.rest))) (sym count) ∙ get_next w.uses k f.rest

    noted_found : (r : Role) (x : Ident) (w : Walk) (d : Draft) (k : Known) → (decl_of w.scopes x ≡ Ok k) × (takes r k.class ≡ true) → Found r w d k (record w { uses = w.uses ++ k.number ∷ [] })
    noted_found r x w d k h =
        record { step = noted_step w d k.number; takes_it = h.1; means = λ n o. decl_in (Means n d.numbers) w.scopes x k o.means h.0; listed = λ count f. listed_at w d k.number count f }

    pub used_found : (r : Role) (x : Ident) (w : Walk) (d : Draft) → Always (λ p. Found r w d p.0 p.1) (used r x w)
    unfolding used
    used_found r x w d =
        always_then (λ k. (decl_of w.scopes x ≡ Ok k) × (takes r k.class ≡ true)) (λ p. Found r w d p.0 p.1) (resolved r w.scopes x) (noted w) (resolved_decl r w.scopes x)
        (λ k h. always_ok (λ p. Found r w d p.0 p.1) (k, record w { uses = w.uses ++ k.number ∷ [] }) (noted_found r x w d k h))

    on_found : (r : Role) (w : Walk) (d : Draft) (x : Result (Known × Walk) Broken) → Always (λ p. Found r w d p.0 p.1) x → Always (λ v. (k : Known) × Found r w d k v) (x >>= and_on)
    on_found r w d x h =
        always_then (λ p. Found r w d p.0 p.1) (λ v. (k : Known) × Found r w d k v) x and_on h (λ p f. always_ok (λ v. (k : Known) × Found r w d k v) p.1 (p.0, f))

    pub named_found : (r : Role) (x : Ident) (w : Walk) (d : Draft) → Always (λ v. (k : Known) × Found r w d k v) (named r x w)
    unfolding named
    named_found r x w d = on_found r w d (used r x w) (used_found r x w d)

    asked_found : (r : Role) (rule : Known → Option Rule) (x : Ident) (w : Walk) (d : Draft) → Always (λ p. Found r w d p.0 p.1) (resolved r w.scopes x >>= asked rule x.pos >>= noted w)
    asked_found r rule x w d =
        let P : Known → Type 0 = λ k. (decl_of w.scopes x ≡ Ok k) × (takes r k.class ≡ true) in
        always_then P (λ p. Found r w d p.0 p.1) (resolved r w.scopes x >>= asked rule x.pos) (noted w)
        (always_then P P (resolved r w.scopes x) (asked rule x.pos) (resolved_decl r w.scopes x) (λ k h. always_checked P (rule k) x.pos k h))
        (λ k h. always_ok (λ p. Found r w d p.0 p.1) (k, record w { uses = w.uses ++ k.number ∷ [] }) (noted_found r x w d k h))

    pub pool_found : (code : ℕ) (x : Ident) (w : Walk) (d : Draft) → Always (λ v. (k : Known) × Found role.Pool w d k v) (pool_used code x w)
    unfolding pool_used
    pool_found code x w d = on_found role.Pool w d _ (asked_found role.Pool _ x w d)

    pub alias_found : (sp : Spawn) (x : Ident) (w : Walk) (d : Draft) → Always (λ v. (k : Known) × Found role.Alias w d k v) (alias_used sp x w)
    unfolding alias_used
    alias_found sp x w d = on_found role.Alias w d _ (asked_found role.Alias (set_broken w.scopes sp) x w d)

    number_is : (numbers : List ℕ) (k m : ℕ) (o : Option ℕ) → o ≡ Some k → slice_get numbers k ≡ Some m → number_at numbers o ≡ m
    number_is numbers k m None e g = absurd (cc)
    number_is numbers k m (Some j) e g = let same : j ≡ k = cc in ap (λ i. unwrap_or (slice_get numbers i) 0) same ∙ ap (λ o. unwrap_or o 0) g

    -- a slot that a use names isn't n
    pub slot_other : (r : Role) (w v : Walk) (d : Draft) (k : Known) → names_slot r ≡ true → Found r w d k v → Fits s v → (n : ℕ) → Knows n w d → use_number s d ≢ n
    unfolding use_number
    slot_other r w v d k role f fits n knows =
        let m = slot_of n d.numbers k k.class (takes_slotted r k.class role f.takes_it) (f.means n knows) in
        subst (λ i. i ≢ n) (sym (number_is d.numbers k.number m.0 (slice_get s.uses d.uses) (f.listed knows.uses fits) m.1)) m.2

    -- code that a use names doesn't name n
    pub code_other : (w v : Walk) (d : Draft) (k : Known) → Found role.Code w d k v → Fits s v → (n : ℕ) → Knows n w d → count_of n (named_by (use_number s d) T) ≡ 0
    unfolding use_number
    code_other w v d k f fits n knows =
        let m = body_of n d.numbers k k.class f.takes_it (f.means n knows) in
        subst (λ i. count_of n (named_by i T) ≡ 0) (sym (number_is d.numbers k.number m.0 (slice_get s.uses d.uses) (f.listed knows.uses fits) m.1)) m.2

    -- ---- declarations

    -- a declaration whose number the draft has
    pub record Declares (m : ℕ) (w : Walk) (d : Draft) (v : Walk) (e : Draft) : Type 0 where
      pub step : Step w d v e
      pub number : length w.decls ≡ length d.numbers → slice_get e.numbers (length w.decls) ≡ Some m

    pub declares : (c : Class) (t : Ty) (r : Option Rule) (x : Ident) (m : ℕ) (w : Walk) (d e : Draft) → e.uses ≡ d.uses → e.numbers ≡ d.numbers ++ m ∷ [] → e.slot ≡ d.slot →
        Always (λ v. Declares m w d v e) (declared c t r x w)
    unfolding declared
    declares c t r x m w d e u ns same =
        always_checked (λ v. Declares m w d v e) _ x.pos _ (record {
          step = record {
            fits = λ h. record { rest = h.rest; is = h.is };
            slots = omega (arith, same);
            knows = λ n o h. record {
              uses = h.uses ∙ sym u;
              decls = length_more w.decls _ ∙ ap (λ m. m + 1) h.decls ∙ sym (length_more d.numbers m) ∙ ap length (sym ns);
              means = subst (λ x. AllScopes (Means n x) w.scopes) (sym ns) (scopes_map (Means n d.numbers) (Means n (d.numbers ++ m ∷ [])) (means_more n d.numbers (m ∷ [])) w.scopes h.means);
            };
            means = λ n k i. subst (λ x. Means n x k) (sym ns) (means_more n d.numbers (m ∷ []) k i);
          };
          number = λ count. ap (λ xs. slice_get xs (length w.decls)) ns ∙ ap (slice_get (d.numbers ++ m ∷ [])) count ∙ get_next d.numbers m [];
        })

    -- a name is shown that doesn't stand for n
    pub record Shows (n : ℕ) (k : Known) (w : Walk) (d : Draft) (v : Walk) : Type 0 where
      pub fits : Fits s v → Fits s w
      pub knows : Knows n w d → Means n d.numbers k → Knows n v d

    pub shown_shows : (x : Ident) (k : Known) (w : Walk) (d : Draft) → Always (λ v. (n : ℕ) → Shows n k w d v) (shown x k w)
    unfolding shown
    shown_shows x k w d =
        always_ok (λ v. (n : ℕ) → Shows n k w d v) (record w { scopes = with_name x.name k w.scopes })
        (λ n. record {
          fits = λ f. record { rest = f.rest; is = f.is };
          knows = λ h m. record { uses = h.uses; decls = h.decls; means = with_name_all (Means n d.numbers) x.name k w.scopes m h.means };
        })

    -- ---- blocks, labels

    pub opened_step : (b : Border) (w : Walk) (d : Draft) → Step w d (opened b w) d
    unfolding opened
    opened_step b w d = record { fits = λ h. record { rest = h.rest; is = h.is }; slots = omega arith; knows = λ n o h. record { uses = h.uses; decls = h.decls; means = (tt, h.means) }; means = λ n k m. m }

    pub closed_goes : (w : Walk) (d : Draft) → Goes w d (closed w) d
    unfolding closed
    closed_goes w d =
        always_ok (λ v. Step w d v d) (record w { scopes = rest_of w.scopes }) (record {
          fits = λ h. record { rest = h.rest; is = h.is };
          slots = omega arith;
          knows = λ n o h. record { uses = h.uses; decls = h.decls; means = rest_all (Means n d.numbers) w.scopes h.means };
          means = λ n k m. m;
        })

    pub labels_step : (ls : List (List ℕ)) (w : Walk) (d : Draft) → Step w d (record w { labels = ls }) d
    labels_step ls w d = record { fits = λ h. record { rest = h.rest; is = h.is }; slots = omega arith; knows = λ n o h. record { uses = h.uses; decls = h.decls; means = h.means }; means = λ n k m. m }
