-- The walk through a program's names beside the draft of its kernel, with what is around the block that is being written.
use Rattle.std.proofs.Common.{◌≡◌, refl, sym, ap, ◌∙◌, subst, ℕ, ◌+◌, ◌≤◌, length, arith, List, [], ◌∷◌, ◌++◌, Option, Some, None, Result, Ok, Err, Bool, true, false}
use Rattle.std.specs.Prelude.{if◌then◌else◌, slice_get, not, ◌&&◌}
use Rattle.ceu_base.specs.declared.kinds.Ty.{Ty}
use Rattle.ceu_base.specs.declared.kinds.Pos.{Pos}
use Rattle.ceu_base.specs.declared.kinds.Rule.{Rule}
use Rattle.ceu_base.specs.declared.kinds.Rule.TheVariants.{N2, N3, N6}
use Rattle.ceu_tree.specs.declared.source.Class.{Class}
use Rattle.ceu_tree.specs.declared.source.Ident.{Ident}
use Rattle.ceu_tree.specs.declared.source.Spawn.{Spawn}
use Rattle.ceu_tree.specs.declared.kernel.Kernel.{Kernel}
use Rattle.ceu_tree.specs.declared.kernel.KDecl.{KDecl}
use Rattle.ceu_tree.specs.declared.kernel.KEvent.{KEvent}
use Rattle.ceu_base.specs.declared.kinds.Port.{Port}
use Rattle.ceu_tree.specs.Numbering.{decl_slots}
use Rattle.ceu_tree.specs.Proper.{Seen, declared_seen, pool_slots, pools_seen}
use Rattle.ceu_scopes.specs.declared.known.Known.{Known}
use Rattle.ceu_scopes.specs.declared.known.Role.{Role}
use Rattle.ceu_scopes.specs.declared.known.Role.TheVariants as role
use Rattle.ceu_scopes.specs.declared.known.Scopes.{Scopes}
use Rattle.ceu_scopes.specs.declared.scope.Scope.{Scope}
use Rattle.ceu_scopes.specs.declared.walk.Walk.{Walk}
use Rattle.ceu_scopes.specs.Shown.{rest_of}
use Rattle.ceu_scopes.specs.Walk.{Broken, ◌>>=◌, shown, with_name, decl_of, is_listed, block_of}
use Rattle.ceu_scopes.specs.Rules.{checked, is_alias, takes, needs_list, judged, resolved, asked, noted, used, named, and_on, pool_broken, set_broken, pool_used, alias_used, is_taken, declared}
use Rattle.ceu_expand.specs.declared.draft.Draft.{Draft}
use Rattle.ceu_expand.specs.Uses as uses
use Rattle.laws_kernel_shape.proofs.Inside.{append_none, append_assoc}
use Rattle.laws_kernel_shape.proofs.Runs.{Runs}
use Rattle.laws_kernel_shape.proofs.Steps.{Always, always_ok, always_err, always_then}
use Rattle.laws_kernel_names.proofs.Stepping.{AllScopes, scopes_map, with_name_all, get_next, length_more}
use Rattle.laws_kernel_names.proofs.Views.{decl_ty, Shown, shown_map, with_name_shown, with_name_rest}
use Rattle.laws_kernel_names.proofs.Seeing.{Fits}
use Rattle.laws_kernel_uses.proofs.Sites.{Site, NoAlias}
use Rattle.laws_kernel_uses.proofs.Means.{class_of, class_at, Stands, stands_more, Means, means_more, Shared, shared_more}
use Rattle.laws_kernel_uses.proofs.Reach.{Top, named_top, named_block, named_listed, Outer, outer_named, outer_map, Unlisted, Quiet}

-- what is around the block that is being written, and whether the walk has opened it
pub record Ground : Type 0 where
  pub site : Site
  pub entered : Bool

-- events and ports of the kernel begin with those that are written
pub record Lists (K : Kernel) (d : Draft) : Type 0 where
  pub events : List KEvent
  pub events_are : K.events ≡ d.events ++ events
  pub inputs : List Port
  pub inputs_are : K.inputs ≡ d.inputs ++ inputs
  pub outputs : List Port
  pub outputs_are : K.outputs ≡ d.outputs ++ outputs

pub record SameLists (d e : Draft) : Type 0 where
  pub events : e.events ≡ d.events
  pub inputs : e.inputs ≡ d.inputs
  pub outputs : e.outputs ≡ d.outputs

pub lists_as : (K : Kernel) (d e : Draft) → SameLists d e → Lists K e → Lists K d
lists_as K d e same h =
    record {
      events = h.events;
      events_are = h.events_are ∙ ap (λ xs. xs ++ h.events) same.events;
      inputs = h.inputs;
      inputs_are = h.inputs_are ∙ ap (λ xs. xs ++ h.inputs) same.inputs;
      outputs = h.outputs;
      outputs_are = h.outputs_are ∙ ap (λ xs. xs ++ h.outputs) same.outputs;
    }

-- the declarations of the block begin with those that are written
pub record Begun (K : Kernel) (ds : List KDecl) (d : Draft) : Type 0 where
  pub more : List KDecl
  pub is : ds ≡ d.parts.decls ++ more
  pub lists : Lists K d

abbrev pub Begins : List ℕ → Draft → Type 0
Begins ns d = (more : List ℕ) × (d.numbers ≡ ns ++ more)

-- what is seen in a block with these declarations, whose slots end at the base
pub record View (g : Ground) (ds : List KDecl) (base : ℕ) : Type 0 where
  pub first : ℕ
  pub runs : Runs first (decl_slots ds) base
  pub older : List Seen
  pub is : g.site.seen ≡ declared_seen (pool_slots ds ++ pools_seen older) ds older
  pub later : List KDecl
  pub since : g.site.since ≡ ds ++ later
  pub entered : g.entered ≡ true

-- ---- steps that ask for a rule

pub always_when : {A : Type 0} (P : A → Type 0) (r : Option Rule) (place : Pos) (a : A) → (r ≡ None → P a) → Always P (checked r place a)
always_when P None place a h = always_ok P a (h refl)
always_when P (Some r) place a h = always_err P (r, place)

pub record Uses (r : Role) (scopes : List Scope) (x : Ident) (k : Known) : Type 0 where
  pub decl : decl_of scopes x ≡ Ok k
  pub takes_it : takes r k.class ≡ true
  pub is_in : needs_list r ≡ true → is_listed scopes k ≡ true

use_tests : (r : Role) (scopes : List Scope) (x : Ident) (k : Known) (a b c : Bool) → decl_of scopes x ≡ Ok k → takes r k.class ≡ a → needs_list r ≡ b → is_listed scopes k ≡ c →
    Always (Uses r scopes x) (checked (if not a then Some N3 else (if b && not c then Some N6 else None)) x.pos k)
use_tests r scopes x k false b c e i j l = always_err (Uses r scopes x) (N3, x.pos)
use_tests r scopes x k true true false e i j l = always_err (Uses r scopes x) (N6, x.pos)
use_tests r scopes x k true true true e i j l = always_ok (Uses r scopes x) k (record { decl = e; takes_it = i; is_in = λ n. l })
use_tests r scopes x k true false c e i j l = always_ok (Uses r scopes x) k (record { decl = e; takes_it = i; is_in = λ n. absurd (cc) })

pub resolved_uses : (r : Role) (scopes : List Scope) (x : Ident) → Always (Uses r scopes x) (resolved r scopes x)
unfolding resolved
resolved_uses r scopes x = by_decl (decl_of scopes x) refl
  where
    by_decl : (o : Result Known Rule) → decl_of scopes x ≡ o → Always (Uses r scopes x) (judged r scopes x.pos o)
    by_decl (Err n) e = always_err (Uses r scopes x) (n, x.pos)
    by_decl (Ok k) e = use_tests r scopes x k (takes r k.class) (needs_list r) (is_listed scopes k) e refl refl refl

module _ (s : Scopes) (K : Kernel) where
  pub record Both (g : Ground) (base : ℕ) (w : Walk) (d : Draft) : Type 0 where
    pub uses : length w.uses ≡ d.uses
    pub decls : length w.decls ≡ length d.numbers
    pub room : base ≤ d.slot
    -- where the slots of each open block end
    pub limits : ℕ → ℕ
    pub grows : (a b : ℕ) → a ≤ b → limits a ≤ limits b
    pub within : (a : ℕ) → limits a ≤ base
    pub here : g.entered ≡ true → limits (block_of w.scopes) ≡ base
    pub top : Top w.blocks w.scopes
    pub means : Shown (λ k. Means s K g.site limits base w.blocks d.numbers k) w.scopes
    pub stands : AllScopes (λ k. Stands s K d.numbers k) w.scopes
    pub outer : Outer (λ k. Shared s K d.numbers k) g.site.code w.scopes
    pub quiet : Quiet g.site.place g.site.since w.scopes

  module _ (g : Ground) (ds : List KDecl) (base : ℕ) where
    pub record Step (w : Walk) (d : Draft) (v : Walk) (e : Draft) : Type 0 where
      pub fits : Fits s v → Fits s w
      pub begun : Begun K ds e → Begun K ds d
      pub both : Fits s v → Begun K ds e → Both g base w d → Both g base v e
      pub slots : d.slot ≤ e.slot
      pub more : Begins d.numbers e
      pub rest : rest_of v.scopes ≡ rest_of w.scopes
      pub blocks : w.blocks ≤ v.blocks

    pub step_then : {w v u : Walk} {d e c : Draft} → Step w d v e → Step v e u c → Step w d u c
    step_then {d = d} {e = e} {c = c} a b =
        record {
          fits = λ h. a.fits (b.fits h);
          begun = λ h. a.begun (b.begun h);
          both = λ f p h. b.both f p (a.both (b.fits f) (b.begun p) h);
          slots = let x = a.slots in let y = b.slots in omega (arith, x, y);
          more = (a.more.0 ++ b.more.0, b.more.1 ∙ ap (λ ns. ns ++ b.more.0) a.more.1 ∙ append_assoc d.numbers a.more.0 b.more.0);
          rest = b.rest ∙ a.rest;
          blocks = let x = a.blocks in let y = b.blocks in omega (arith, x, y);
        }

    abbrev pub Goes : Walk → Draft → Result Walk Broken → Draft → Type 0
    Goes w d x e = Always (λ v. Step w d v e) x

    pub goes_then : (w : Walk) (d e c : Draft) (x : Result Walk Broken) (f : Walk → Result Walk Broken) → Goes w d x e → ((v : Walk) → Goes v e (f v) c) → Goes w d (x >>= f) c
    goes_then w d e c x f a b = always_then (λ v. Step w d v e) (λ v. Step w d v c) x f a (λ v k u h. step_then k (b v u h))

    pub means_up : (limits : ℕ → ℕ) (top top' : ℕ) (ns : List ℕ) (e : Draft) → top ≤ top' → ((b : ℕ) → limits b ≤ base) → Begins ns e → (k : Known) → Means s K g.site limits base top ns k → Means s K g.site limits base top' e.numbers k
    means_up limits top top' ns e up within more k h =
        subst (λ ns. Means s K g.site limits base top' ns k) (sym more.1)
        (means_more s K g.site g.site base base ns more.0 k (λ n lt. refl) refl (omega arith) limits limits top top' up within (λ b lt. refl) h)

    pub stands_up : (ns : List ℕ) (e : Draft) → Begins ns e → (k : Known) → Stands s K ns k → Stands s K e.numbers k
    stands_up ns e more k h = subst (λ ns. Stands s K ns k) (sym more.1) (stands_more s K ns more.0 k h)

    pub shared_up : (ns : List ℕ) (e : Draft) → Begins ns e → (k : Known) → Shared s K ns k → Shared s K e.numbers k
    shared_up ns e more k h = subst (λ ns. Shared s K ns k) (sym more.1) (shared_more s K ns more.0 k h)

    -- the names that are shown stay, with more numbers, slots and blocks
    pub both_up : (w v : Walk) (d e : Draft) → Both g base w d → v.scopes ≡ w.scopes → w.blocks ≤ v.blocks → length v.uses ≡ e.uses → length v.decls ≡ length e.numbers → d.slot ≤ e.slot → Begins d.numbers e → Both g base v e
    both_up w v d e h scopes blocks us ds le more =
        let r = h.room in
        record {
          uses = us;
          decls = ds;
          room = omega (arith, r, le);
          limits = h.limits;
          grows = h.grows;
          within = h.within;
          here = λ o. ap (λ x. h.limits (block_of x)) scopes ∙ h.here o;
          top = subst (λ sc. Top v.blocks sc) (sym scopes) (top_more w.scopes w.blocks v.blocks blocks h.top);
          means =
              subst (λ sc. Shown (λ k. Means s K g.site h.limits base v.blocks e.numbers k) sc) (sym scopes)
              (shown_map (λ k. Means s K g.site h.limits base w.blocks d.numbers k) (λ k. Means s K g.site h.limits base v.blocks e.numbers k)
              (means_up h.limits w.blocks v.blocks d.numbers e blocks h.within more) w.scopes h.means);
          stands = subst (λ sc. AllScopes (λ k. Stands s K e.numbers k) sc) (sym scopes) (scopes_map (λ k. Stands s K d.numbers k) (λ k. Stands s K e.numbers k) (stands_up d.numbers e more) w.scopes h.stands);
          outer =
              subst (λ sc. Outer (λ k. Shared s K e.numbers k) g.site.code sc) (sym scopes)
              (outer_map (λ k. Shared s K d.numbers k) (λ k. Shared s K e.numbers k) (shared_up d.numbers e more) g.site.code w.scopes h.outer);
          quiet = subst (λ sc. Quiet g.site.place g.site.since sc) (sym scopes) h.quiet;
        }
      where
        top_more : (scopes : List Scope) (m n : ℕ) → m ≤ n → Top m scopes → Top n scopes
        top_more [] m n le t = absurd t
        top_more (x ∷ xs) m n le t = omega (arith, le, t)

    -- the draft alone goes on
    pub calm_step : (w : Walk) (d e : Draft) → e.uses ≡ d.uses → e.numbers ≡ d.numbers → d.slot ≤ e.slot → e.parts.decls ≡ d.parts.decls → SameLists d e → Step w d w e
    calm_step w d e u n le ps lists =
        let more : Begins d.numbers e = ([], n ∙ append_none d.numbers) in
        record {
          fits = λ h. h;
          begun = λ h. record { more = h.more; is = h.is ∙ ap (λ x. x ++ h.more) ps; lists = lists_as K d e lists h.lists };
          both = λ f p h. both_up w w d e h refl (omega arith) (h.uses ∙ sym u) (h.decls ∙ ap length (sym n)) le more;
          slots = le;
          more = more;
          rest = refl;
          blocks = omega arith;
        }

    -- ---- uses

    more_uses : (w : Walk) (k : ℕ) → Fits s (record w { uses = w.uses ++ k ∷ [] }) → Fits s w
    more_uses w k h = record { rest = k ∷ h.rest; is = h.is ∙ append_assoc w.uses (k ∷ []) h.rest; later = h.later; decls = h.decls }

    noted_step : (w : Walk) (d : Draft) (k : ℕ) → Step w d (record w { uses = w.uses ++ k ∷ [] }) (uses.used d)
    unfolding uses.used
    noted_step w d k =
        record {
          fits = more_uses w k;
          begun = λ h. record { more = h.more; is = h.is; lists = lists_as K d _ (record { events = refl; inputs = refl; outputs = refl }) h.lists };
          both = λ f p h. both_up w (record w { uses = w.uses ++ k ∷ [] }) d _ h refl (omega arith) (length_more w.uses k ∙ ap (λ m. m + 1) h.uses) h.decls (omega arith) ([], append_none d.numbers);
          slots = omega arith;
          more = ([], append_none d.numbers);
          rest = refl;
          blocks = omega arith;
        }

    -- what a use finds: the declaration, which the list of uses has at its place
    pub record Found (r : Role) (x : Ident) (w : Walk) (d : Draft) (k : Known) (v : Walk) : Type 0 where
      pub step : Step w d v (uses.used d)
      pub use_of : Uses r w.scopes x k
      pub scopes : v.scopes ≡ w.scopes
      pub listed : length w.uses ≡ d.uses → Fits s v → slice_get s.uses d.uses ≡ Some k.number

    listed_at : (w : Walk) (d : Draft) (k : ℕ) → length w.uses ≡ d.uses → (f : Fits s (record w { uses = w.uses ++ k ∷ [] })) → slice_get s.uses d.uses ≡ Some k
    listed_at w d k count f =
        ap (λ xs. slice_get xs d.uses) f.is ∙ ap (λ xs. slice_get xs d.uses) (append_assoc w.uses (k ∷ []) f.rest) ∙ ap (slice_get (w.uses ++ (k ∷ f.rest))) (sym count) ∙ get_next w.uses k f.rest

    noted_found : (r : Role) (x : Ident) (w : Walk) (d : Draft) (k : Known) → Uses r w.scopes x k → Found r x w d k (record w { uses = w.uses ++ k.number ∷ [] })
    noted_found r x w d k h = record { step = noted_step w d k.number; use_of = h; scopes = refl; listed = λ count f. listed_at w d k.number count f }

    pub used_found : (r : Role) (x : Ident) (w : Walk) (d : Draft) → Always (λ p. Found r x w d p.0 p.1) (used r x w)
    unfolding used
    used_found r x w d =
        always_then (Uses r w.scopes x) (λ p. Found r x w d p.0 p.1) (resolved r w.scopes x) (noted w) (resolved_uses r w.scopes x)
        (λ k h. always_ok (λ p. Found r x w d p.0 p.1) (k, record w { uses = w.uses ++ k.number ∷ [] }) (noted_found r x w d k h))

    pub named_found : (r : Role) (x : Ident) (w : Walk) (d : Draft) → Always (λ v. (k : Known) × Found r x w d k v) (named r x w)
    unfolding named
    named_found r x w d =
        always_then (λ p. Found r x w d p.0 p.1) (λ v. (k : Known) × Found r x w d k v) (used r x w) and_on (used_found r x w d)
        (λ p h. always_ok (λ v. (k : Known) × Found r x w d k v) p.1 (p.0, h))

    pub used_goes : (r : Role) (x : Ident) (w : Walk) (d : Draft) → Goes w d (named r x w) (uses.used d)
    used_goes r x w d v e = (named_found r x w d v e).1.step

    -- a use of which a rule is asked besides
    pub record Asked (r : Role) (rule : Known → Option Rule) (x : Ident) (w : Walk) (d : Draft) (v : Walk) : Type 0 where
      pub known : Known
      pub found : Found r x w d known v
      pub unbroken : rule known ≡ None

    asked_found : (r : Role) (rule : Known → Option Rule) (x : Ident) (w : Walk) (d : Draft) → Always (λ v. Asked r rule x w d v) (resolved r w.scopes x >>= asked rule x.pos >>= noted w >>= and_on)
    asked_found r rule x w d =
        let U : Known → Type 0 = λ k. Uses r w.scopes x k × (rule k ≡ None) in
        let F : Known × Walk → Type 0 = λ p. Found r x w d p.0 p.1 × (rule p.0 ≡ None) in
        always_then F (λ v. Asked r rule x w d v) (resolved r w.scopes x >>= asked rule x.pos >>= noted w) and_on
        (always_then U F (resolved r w.scopes x >>= asked rule x.pos) (noted w)
        (always_then (Uses r w.scopes x) U (resolved r w.scopes x) (asked rule x.pos) (resolved_uses r w.scopes x) (λ k h. always_when U (rule k) x.pos k (λ e. (h, e))))
        (λ k h. always_ok F (k, record w { uses = w.uses ++ k.number ∷ [] }) (noted_found r x w d k h.0, h.1)))
        (λ p h. always_ok (λ v. Asked r rule x w d v) p.1 (record { known = p.0; found = h.0; unbroken = h.1 }))

    pub pool_found : (code : ℕ) (x : Ident) (w : Walk) (d : Draft) → Always (λ v. Asked role.Pool (pool_broken code) x w d v) (pool_used code x w)
    unfolding pool_used
    pool_found code x w d = asked_found role.Pool (pool_broken code) x w d

    pub alias_found : (sp : Spawn) (x : Ident) (w : Walk) (d : Draft) → Always (λ v. Asked role.Alias (set_broken w.scopes sp) x w d v) (alias_used sp x w)
    unfolding alias_used
    alias_found sp x w d = asked_found role.Alias (set_broken w.scopes sp) x w d

    -- ---- declarations

    -- a declaration whose number the draft has
    pub record Declares (c : Class) (t : Ty) (r : Option Rule) (n : ℕ) (w : Walk) (d : Draft) (v : Walk) (e : Draft) : Type 0 where
      pub step : Step w d v e
      pub number : length w.decls ≡ length d.numbers → slice_get e.numbers (length w.decls) ≡ Some n
      pub type : Fits s v → decl_ty s (length w.decls) ≡ t
      pub class_is : Fits s v → class_at s (length w.decls) ≡ Some c
      pub scopes : v.scopes ≡ w.scopes
      pub blocks : v.blocks ≡ w.blocks
      pub unbroken : r ≡ None

    second : (b : Bool) (r : Option Rule) → (if b then Some N2 else r) ≡ None → r ≡ None
    second true r h = absurd (cc)
    second false r h = h

    pub declares : (c : Class) (t : Ty) (r : Option Rule) (x : Ident) (n : ℕ) (w : Walk) (d e : Draft) → e.uses ≡ d.uses → e.numbers ≡ d.numbers ++ n ∷ [] → d.slot ≤ e.slot → (Begun K ds e → Begun K ds d) →
        Always (λ v. Declares c t r n w d v e) (declared c t r x w)
    unfolding declared
    declares c t r x n w d e u ns le begun =
        always_when (λ v. Declares c t r n w d v e) _ x.pos _ (λ none. record {
          step = record {
            fits = λ h. record { rest = h.rest; is = h.is; later = _ ∷ h.later; decls = h.decls ∙ append_assoc w.decls (_ ∷ []) h.later };
            begun = begun;
            both = λ f p h.
                both_up w _ d e h refl (omega arith) (h.uses ∙ sym u) (length_more w.decls _ ∙ ap (λ m. m + 1) h.decls ∙ sym (length_more d.numbers n) ∙ ap length (sym ns)) le (n ∷ [], ns);
            slots = le;
            more = (n ∷ [], ns);
            rest = refl;
            blocks = omega arith;
          };
          number = λ count. ap (λ xs. slice_get xs (length w.decls)) ns ∙ ap (slice_get (d.numbers ++ n ∷ [])) count ∙ get_next d.numbers n [];
          type = λ f. ap uses.type_of_decl (ap (λ xs. slice_get xs (length w.decls)) (f.decls ∙ append_assoc w.decls (_ ∷ []) f.later) ∙ get_next w.decls _ f.later);
          class_is = λ f. ap class_of (ap (λ xs. slice_get xs (length w.decls)) (f.decls ∙ append_assoc w.decls (_ ∷ []) f.later) ∙ get_next w.decls _ f.later);
          scopes = refl;
          blocks = refl;
          unbroken = second (is_taken w.scopes x.name) r none;
        })

    -- what has to be known of a name before it is shown
    pub record Entry (limits : ℕ → ℕ) (w : Walk) (d : Draft) (k : Known) : Type 0 where
      pub means : Means s K g.site limits base w.blocks d.numbers k
      pub stands : Stands s K d.numbers k
      pub still : is_alias k.class ≡ true → NoAlias g.site.since → ⊥

    -- what is so when a name is shown
    pub record Shows (k : Known) (w : Walk) (d : Draft) (v : Walk) : Type 0 where
      pub both : (h : Both g base w d) → Entry h.limits w d k → Both g base v d
      pub fits : Fits s v → Fits s w
      pub rest : rest_of v.scopes ≡ rest_of w.scopes
      pub blocks : v.blocks ≡ w.blocks

    shown_quiet : (x : List ℕ) (k : Known) (scopes : List Scope) → (is_alias k.class ≡ true → NoAlias g.site.since → ⊥) → Quiet g.site.place g.site.since scopes → Quiet g.site.place g.site.since (with_name x k scopes)
    shown_quiet x k scopes still q inside none =
        with_name_shown (Unlisted (with_name x k scopes)) x k scopes (λ alias. absurd (still alias none))
        (shown_map (Unlisted scopes) (Unlisted (with_name x k scopes)) (λ j h alias. named_listed x k j scopes ∙ h alias) scopes (q inside none))

    pub shown_step : (x : Ident) (k : Known) (w : Walk) (d : Draft) → Always (λ v. Shows k w d v) (shown x k w)
    unfolding shown
    shown_step x k w d =
        always_ok (λ v. Shows k w d v) (record w { scopes = with_name x.name k w.scopes }) (record {
          both = λ h m. record {
            uses = h.uses;
            decls = h.decls;
            room = h.room;
            limits = h.limits;
            grows = h.grows;
            within = h.within;
            here = λ o. ap h.limits (named_block x.name k w.scopes) ∙ h.here o;
            top = named_top w.blocks x.name k w.scopes h.top;
            means = with_name_shown (λ j. Means s K g.site h.limits base w.blocks d.numbers j) x.name k w.scopes m.means h.means;
            stands = with_name_all (λ j. Stands s K d.numbers j) x.name k w.scopes m.stands h.stands;
            outer = outer_named (λ j. Shared s K d.numbers j) g.site.code x.name k w.scopes h.outer;
            quiet = shown_quiet x.name k w.scopes m.still h.quiet;
          };
          fits = λ f. record { rest = f.rest; is = f.is; later = f.later; decls = f.decls };
          rest = with_name_rest x.name k w.scopes;
          blocks = refl;
        })
