-- The walk through a program's names beside the draft of its kernel, with what is visible in the block that is being written.
use Rattle.std.proofs.Common.{◌≡◌, refl, sym, ap, ◌∙◌, subst, ℕ, ◌+◌, ◌≤◌, length, arith, List, [], ◌∷◌, ◌++◌, Option, Some, Result, Ok, true}
use Rattle.std.specs.Prelude.{⊤, slice_get}
use Rattle.ceu_base.specs.declared.kinds.Ty.{Ty}
use Rattle.ceu_base.specs.declared.kinds.Rule.{Rule}
use Rattle.ceu_tree.specs.declared.source.Class.{Class}
use Rattle.ceu_tree.specs.declared.source.Decl.{Decl}
use Rattle.ceu_tree.specs.declared.source.Ident.{Ident}
use Rattle.ceu_tree.specs.declared.source.Spawn.{Spawn}
use Rattle.ceu_tree.specs.declared.kernel.KDecl.{KDecl}
use Rattle.ceu_tree.specs.Numbering.{decl_slots}
use Rattle.ceu_tree.specs.Proper.{Seen, declared_seen}
use Rattle.ceu_scopes.specs.declared.known.Known.{Known}
use Rattle.ceu_scopes.specs.declared.known.Role.{Role}
use Rattle.ceu_scopes.specs.declared.known.Scopes.{Scopes}
use Rattle.ceu_scopes.specs.declared.walk.Walk.{Walk}
use Rattle.ceu_scopes.specs.Shown.{rest_of}
use Rattle.ceu_scopes.specs.Walk.{Broken, ◌>>=◌, shown, with_name, decl_of}
use Rattle.ceu_scopes.specs.Rules.{takes, resolved, noted, used, named, and_on, pool_used, alias_used, declared}
use Rattle.ceu_expand.specs.declared.draft.Draft.{Draft}
use Rattle.ceu_expand.specs.Uses as uses
use Rattle.ceu_expand.specs.Uses.{use_number}
use Rattle.laws_kernel_shape.proofs.Inside.{append_none, append_assoc}
use Rattle.laws_kernel_shape.proofs.Runs.{Runs}
use Rattle.laws_kernel_shape.proofs.Steps.{Always, always_ok, always_checked, always_then}
use Rattle.laws_kernel_names.proofs.Stepping.{get_next, length_more, resolved_decl}
use Rattle.laws_kernel_names.proofs.Views.{Means, means_more, decl_ty, Shown, shown_map, with_name_shown, with_name_rest}

-- the uses and declarations of the whole program begin with those of the walk
pub record Fits (s : Scopes) (w : Walk) : Type 0 where
  pub rest : List ℕ
  pub is : s.uses ≡ w.uses ++ rest
  pub later : List Decl
  pub decls : s.decls ≡ w.decls ++ later

-- the declarations of the block begin with those that are written
pub record Begun (ds : List KDecl) (d : Draft) : Type 0 where
  pub more : List KDecl
  pub is : ds ≡ d.parts.decls ++ more

abbrev pub Begins : List ℕ → Draft → Type 0
Begins ns d = (more : List ℕ) × (d.numbers ≡ ns ++ more)

-- the view of a block with these declarations, whose slots end at the base
pub record View (view : List Seen) (ds : List KDecl) (base : ℕ) : Type 0 where
  pub first : ℕ
  pub runs : Runs first (decl_slots ds) base
  pub pools : List ℕ
  pub older : List Seen
  pub is : view ≡ declared_seen pools ds older

module _ (s : Scopes) where
  pub record Both (view : List Seen) (base : ℕ) (w : Walk) (d : Draft) : Type 0 where
    pub uses : length w.uses ≡ d.uses
    pub decls : length w.decls ≡ length d.numbers
    pub room : base ≤ d.slot
    pub means : Shown (λ k. Means s view base d.numbers k) w.scopes

  module _ (view : List Seen) (ds : List KDecl) (base : ℕ) where
    pub record Step (w : Walk) (d : Draft) (v : Walk) (e : Draft) : Type 0 where
      pub fits : Fits s v → Fits s w
      pub begun : Begun ds e → Begun ds d
      pub both : Fits s v → Begun ds e → Both view base w d → Both view base v e
      pub slots : d.slot ≤ e.slot
      pub more : Begins d.numbers e
      pub rest : rest_of v.scopes ≡ rest_of w.scopes

    pub step_then : {w v u : Walk} {d e c : Draft} → Step w d v e → Step v e u c → Step w d u c
    step_then {d = d} {e = e} {c = c} a b =
        record {
          fits = λ h. a.fits (b.fits h);
          begun = λ h. a.begun (b.begun h);
          both = λ f p h. b.both f p (a.both (b.fits f) (b.begun p) h);
          slots = let x = a.slots in let y = b.slots in omega (arith, x, y);
          more = (a.more.0 ++ b.more.0, b.more.1 ∙ ap (λ ns. ns ++ b.more.0) a.more.1 ∙ append_assoc d.numbers a.more.0 b.more.0);
          rest = b.rest ∙ a.rest;
        }

    abbrev pub Goes : Walk → Draft → Result Walk Broken → Draft → Type 0
    Goes w d x e = Always (λ v. Step w d v e) x

    pub goes_then : (w : Walk) (d e c : Draft) (x : Result Walk Broken) (f : Walk → Result Walk Broken) → Goes w d x e → ((v : Walk) → Goes v e (f v) c) → Goes w d (x >>= f) c
    goes_then w d e c x f a b = always_then (λ v. Step w d v e) (λ v. Step w d v c) x f a (λ v k u h. step_then k (b v u h))

    pub means_up : (d e : Draft) → Begins d.numbers e → (k : Known) → Means s view base d.numbers k → Means s view base e.numbers k
    means_up d e more k h = subst (λ ns. Means s view base ns k) (sym more.1) (means_more s view view base base d.numbers more.0 k (λ n lt. refl) (omega arith) h)

    -- the draft alone goes on
    pub calm_step : (w : Walk) (d e : Draft) → e.uses ≡ d.uses → e.numbers ≡ d.numbers → d.slot ≤ e.slot → e.parts.decls ≡ d.parts.decls → Step w d w e
    calm_step w d e u n le ps =
        let more : Begins d.numbers e = ([], n ∙ append_none d.numbers) in
        record {
          fits = λ h. h;
          begun = λ h. record { more = h.more; is = h.is ∙ ap (λ x. x ++ h.more) ps };
          both = λ f p h. let r = h.room in record {
            uses = h.uses ∙ sym u;
            decls = h.decls ∙ ap length (sym n);
            room = omega (arith, r, le);
            means = shown_map (λ k. Means s view base d.numbers k) (λ k. Means s view base e.numbers k) (means_up d e more) w.scopes h.means;
          };
          slots = le;
          more = more;
          rest = refl;
        }

    -- ---- uses

    more_uses : (w : Walk) (k : ℕ) → Fits s (record w { uses = w.uses ++ k ∷ [] }) → Fits s w
    more_uses w k h = record { rest = k ∷ h.rest; is = h.is ∙ append_assoc w.uses (k ∷ []) h.rest; later = h.later; decls = h.decls }

    noted_step : (w : Walk) (d : Draft) (k : ℕ) → Step w d (record w { uses = w.uses ++ k ∷ [] }) (uses.used d)
    unfolding uses.used
    noted_step w d k =
        record {
          fits = more_uses w k;
          begun = λ h. record { more = h.more; is = h.is };
          both = λ f p h. record { uses = length_more w.uses k ∙ ap (λ m. m + 1) h.uses; decls = h.decls; room = h.room; means = h.means };
          slots = omega arith;
          more = ([], append_none d.numbers);
          rest = refl;
        }

    -- what a use finds: the declaration, which the list of uses has at its place
    pub record Found (r : Role) (x : Ident) (w : Walk) (d : Draft) (k : Known) (v : Walk) : Type 0 where
      pub step : Step w d v (uses.used d)
      pub decl : decl_of w.scopes x ≡ Ok k
      pub takes_it : takes r k.class ≡ true
      pub listed : length w.uses ≡ d.uses → Fits s v → slice_get s.uses d.uses ≡ Some k.number

    listed_at : (w : Walk) (d : Draft) (k : ℕ) → length w.uses ≡ d.uses → (f : Fits s (record w { uses = w.uses ++ k ∷ [] })) → slice_get s.uses d.uses ≡ Some k
    listed_at w d k count f =
        ap (λ xs. slice_get xs d.uses) f.is ∙ ap (λ xs. slice_get xs d.uses) (append_assoc w.uses (k ∷ []) f.rest) ∙ ap (slice_get (w.uses ++ (k ∷ f.rest))) (sym count) ∙ get_next w.uses k f.rest

    pub used_found : (r : Role) (x : Ident) (w : Walk) (d : Draft) → Always (λ p. Found r x w d p.0 p.1) (used r x w)
    unfolding used
    used_found r x w d =
        always_then (λ k. (decl_of w.scopes x ≡ Ok k) × (takes r k.class ≡ true)) (λ p. Found r x w d p.0 p.1) (resolved r w.scopes x) (noted w) (resolved_decl r w.scopes x)
        (λ k h.
        always_ok (λ p. Found r x w d p.0 p.1) (k, record w { uses = w.uses ++ k.number ∷ [] })
        (record { step = noted_step w d k.number; decl = h.0; takes_it = h.1; listed = λ count f. listed_at w d k.number count f }))

    pub named_found : (r : Role) (x : Ident) (w : Walk) (d : Draft) → Always (λ v. (k : Known) × Found r x w d k v) (named r x w)
    unfolding named
    named_found r x w d =
        always_then (λ p. Found r x w d p.0 p.1) (λ v. (k : Known) × Found r x w d k v) (used r x w) and_on (used_found r x w d)
        (λ p h. always_ok (λ v. (k : Known) × Found r x w d k v) p.1 (p.0, h))

    pub used_goes : (r : Role) (x : Ident) (w : Walk) (d : Draft) → Goes w d (named r x w) (uses.used d)
    used_goes r x w d v e = (named_found r x w d v e).1.step

    noted_goes : (w : Walk) (d : Draft) (x : Result Known Broken) → Always (λ v. Step w d v (uses.used d)) (x >>= noted w >>= and_on)
    noted_goes w d x =
        always_then (λ (p : Known × Walk). Step w d p.1 (uses.used d)) (λ v. Step w d v (uses.used d)) (x >>= noted w) and_on
        (always_then (λ k. ⊤) (λ (p : Known × Walk). Step w d p.1 (uses.used d)) x (noted w) (λ k e. tt)
        (λ k u. always_ok (λ (p : Known × Walk). Step w d p.1 (uses.used d)) (k, record w { uses = w.uses ++ k.number ∷ [] }) (noted_step w d k.number)))
        (λ p h. always_ok (λ v. Step w d v (uses.used d)) p.1 h)

    pub pool_goes : (code : ℕ) (x : Ident) (w : Walk) (d : Draft) → Goes w d (pool_used code x w) (uses.used d)
    unfolding pool_used
    pool_goes code x w d = noted_goes w d _

    pub alias_goes : (sp : Spawn) (x : Ident) (w : Walk) (d : Draft) → Goes w d (alias_used sp x w) (uses.used d)
    unfolding alias_used
    alias_goes sp x w d = noted_goes w d _

    -- ---- declarations

    -- a declaration whose number the draft has
    pub record Declares (t : Ty) (n : ℕ) (w : Walk) (d : Draft) (v : Walk) (e : Draft) : Type 0 where
      pub step : Step w d v e
      pub number : length w.decls ≡ length d.numbers → slice_get e.numbers (length w.decls) ≡ Some n
      pub type : Fits s v → decl_ty s (length w.decls) ≡ t
      pub scopes : v.scopes ≡ w.scopes

    pub declares : (c : Class) (t : Ty) (r : Option Rule) (x : Ident) (n : ℕ) (w : Walk) (d e : Draft) → e.uses ≡ d.uses → e.numbers ≡ d.numbers ++ n ∷ [] → d.slot ≤ e.slot → (Begun ds e → Begun ds d) →
        Always (λ v. Declares t n w d v e) (declared c t r x w)
    unfolding declared
    declares c t r x n w d e u ns le begun =
        always_checked (λ v. Declares t n w d v e) _ x.pos _ (record {
          step = record {
            fits = λ h. record { rest = h.rest; is = h.is; later = _ ∷ h.later; decls = h.decls ∙ append_assoc w.decls (_ ∷ []) h.later };
            begun = begun;
            both = λ f p h. let m = h.room in record {
              uses = h.uses ∙ sym u;
              decls = length_more w.decls _ ∙ ap (λ m. m + 1) h.decls ∙ sym (length_more d.numbers n) ∙ ap length (sym ns);
              room = omega (arith, m, le);
              means = shown_map (λ k. Means s view base d.numbers k) (λ k. Means s view base e.numbers k) (means_up d e (n ∷ [], ns)) w.scopes h.means;
            };
            slots = le;
            more = (n ∷ [], ns);
            rest = refl;
          };
          number = λ count. ap (λ xs. slice_get xs (length w.decls)) ns ∙ ap (slice_get (d.numbers ++ n ∷ [])) count ∙ get_next d.numbers n [];
          type = λ f. ap uses.type_of_decl (ap (λ xs. slice_get xs (length w.decls)) (f.decls ∙ append_assoc w.decls (_ ∷ []) f.later) ∙ get_next w.decls _ f.later);
          scopes = refl;
        })

    -- a name is shown that means what it stands for
    pub shown_step : (x : Ident) (k : Known) (w : Walk) (d : Draft) → Always (λ v. (Both view base w d → Means s view base d.numbers k → Both view base v d) × (Fits s v → Fits s w) × (rest_of v.scopes ≡ rest_of w.scopes)) (shown x k w)
    unfolding shown
    shown_step x k w d =
        always_ok (λ v. (Both view base w d → Means s view base d.numbers k → Both view base v d) × (Fits s v → Fits s w) × (rest_of v.scopes ≡ rest_of w.scopes)) (record w { scopes = with_name x.name k w.scopes }) (
          λ h m. record { uses = h.uses; decls = h.decls; room = h.room; means = with_name_shown (λ j. Means s view base d.numbers j) x.name k w.scopes m h.means },
          λ f. record { rest = f.rest; is = f.is; later = f.later; decls = f.decls },
          with_name_rest x.name k w.scopes,
        )

    -- a name that is no variable's
    pub shown_goes : (x : Ident) (k : Known) (w : Walk) (d : Draft) → Means s view base d.numbers k → Goes w d (shown x k w) d
    shown_goes x k w d m v e =
        let h = shown_step x k w d v e in
        record { fits = h.1; begun = λ p. p; both = λ f p b. h.0 b m; slots = omega arith; more = ([], append_none d.numbers); rest = h.2 }
