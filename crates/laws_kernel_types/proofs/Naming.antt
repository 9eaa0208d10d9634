-- The walk through a program's names beside the draft of its kernel, with what the visible names stand for.
use Rattle.std.proofs.Common.{◌≡◌, refl, sym, ap, ◌∙◌, subst, ℕ, zero, suc, ◌+◌, ◌<◌, ◌≤◌, length, arith, List, [], ◌∷◌, ◌++◌, Option, Some, None, Result, Ok, Err, true, false}
use Rattle.std.specs.Prelude.{⊤, if◌then◌else◌, slice_get, unwrap_or}
use Rattle.ceu_base.specs.declared.kinds.Ty.{Ty}
use Rattle.ceu_base.specs.declared.kinds.Pos.{Pos}
use Rattle.ceu_base.specs.declared.kinds.Rule.{Rule}
use Rattle.ceu_base.specs.declared.kinds.Rule.TheVariants.{N2}
use Rattle.ceu_tree.specs.declared.source.Class.{Class}
use Rattle.ceu_tree.specs.declared.source.Decl.{Decl}
use Rattle.ceu_tree.specs.declared.source.Ident.{Ident}
use Rattle.ceu_tree.specs.declared.source.Spawn.{Spawn}
use Rattle.ceu_tree.specs.declared.kernel.Kernel.{Kernel}
use Rattle.ceu_scopes.specs.declared.known.Known.{Known}
use Rattle.ceu_scopes.specs.declared.known.Role.{Role}
use Rattle.ceu_scopes.specs.declared.known.Scopes.{Scopes}
use Rattle.ceu_scopes.specs.declared.scope.Border.{Border}
use Rattle.ceu_scopes.specs.declared.scope.Scope.{Scope}
use Rattle.ceu_scopes.specs.declared.walk.Walk.{Walk}
use Rattle.ceu_scopes.specs.Shown.{rest_of}
use Rattle.ceu_scopes.specs.Walk.{Broken, ◌>>=◌, opened, closed, shown, with_name, decl_of, block_of}
use Rattle.ceu_scopes.specs.Rules.{checked, takes, resolved, noted, used, named, and_on, pool_used, alias_used, is_taken, declared}
use Rattle.ceu_types.specs.Uses.{is_parameter}
use Rattle.ceu_expand.specs.declared.draft.Draft.{Draft}
use Rattle.ceu_expand.specs.Uses as uses
use Rattle.ceu_expand.specs.Uses.{number_at, use_number, names_output, is_output}
use Rattle.laws_kernel_shape.proofs.Inside.{append_assoc, append_none}
use Rattle.laws_kernel_names.proofs.Stepping.{AllScopes, with_name_all, rest_all, scopes_map, get_next, length_more, resolved_decl}
use Rattle.laws_kernel_types.proofs.Noting.{Prefix, prefix_less, prefix_as}
use Rattle.laws_kernel_types.proofs.Meaning.{Means, means_more, Stands, decl_in}

-- ---- steps of a walk

pub then_ok : {A B : Type 0} (x : Result A Broken) (f : A → Result B Broken) (b : B) → x >>= f ≡ Ok b → (a : A) × (x ≡ Ok a) × (f a ≡ Ok b)
unfolding ◌>>=◌
then_ok (Ok a) f b e = (a, refl, e)
then_ok (Err r) f b e = absurd (cc)

pub ok_is : {A : Type 0} (a b : A) (x : Result A Broken) → x ≡ Ok a → x ≡ Ok b → a ≡ b
ok_is a b x d e = cc

pub checked_ok : {A : Type 0} (r : Option Rule) (p : Pos) (a b : A) → checked r p a ≡ Ok b → a ≡ b
checked_ok None p a b e = ok_is a b (Ok a) refl e
checked_ok (Some r) p a b e = absurd (cc)

-- ---- lists that go on

pub prefix_then : {A : Type 0} (xs ys zs : List A) → Prefix xs ys → Prefix ys zs → Prefix xs zs
prefix_then xs ys zs a b = (a.0 ++ b.0, b.1 ∙ ap (λ x. x ++ b.0) a.1 ∙ append_assoc xs a.0 b.0)

pub prefix_same : {A : Type 0} (xs ys : List A) → ys ≡ xs → Prefix xs ys
prefix_same xs ys e = ([], e ∙ append_none xs)

get_less : {A : Type 0} (xs ys : List A) (n : ℕ) → n < length xs → slice_get (xs ++ ys) n ≡ slice_get xs n
get_less [] ys n h = absurd (omega (arith, h))
get_less (x ∷ xs) ys zero h = refl
get_less (x ∷ xs) ys (suc n) h = get_less xs ys n (omega (arith, h))

-- the list doesn't begin with a parameter
abbrev pub Plainly : List Decl → Type 0
Plainly [] = ⊤
Plainly (d ∷ ds) = is_parameter d.class ≡ false

-- the tables of a kernel go on
pub record Tables (d e : Draft) : Type 0 where
  pub inputs : Prefix d.inputs e.inputs
  pub outputs : Prefix d.outputs e.outputs
  pub events : Prefix d.events e.events
  pub codes : Prefix d.codes e.codes

pub record Calm (d e : Draft) : Type 0 where
  pub uses : e.uses ≡ d.uses
  pub numbers : e.numbers ≡ d.numbers
  pub tables : Tables d e

pub same_tables : (d e : Draft) → e.inputs ≡ d.inputs → e.outputs ≡ d.outputs → e.events ≡ d.events → e.codes ≡ d.codes → Tables d e
same_tables d e i o v c = record { inputs = prefix_same d.inputs e.inputs i; outputs = prefix_same d.outputs e.outputs o; events = prefix_same d.events e.events v; codes = prefix_same d.codes e.codes c }

module _ (s : Scopes) (numbers : List ℕ) (K : Kernel) where
  -- the whole program begins with what is there
  pub record Ends (w : Walk) (d : Draft) : Type 0 where
    pub uses : Prefix w.uses s.uses
    pub decls : Prefix w.decls s.decls
    pub plain : Plainly decls.0
    pub given : Prefix d.numbers numbers
    pub inputs : Prefix d.inputs K.inputs
    pub outputs : Prefix d.outputs K.outputs
    pub events : Prefix d.events K.events
    pub codes : Prefix d.codes K.codes

  module _ (code : Option ℕ) where
    pub record Now (w : Walk) (d : Draft) : Type 0 where
      pub uses : length w.uses ≡ d.uses
      pub decls : length w.decls ≡ length d.numbers
      pub shows : AllScopes (Means s numbers K code (length d.numbers)) w.scopes

    pub record Goes (w : Walk) (d : Draft) (v : Walk) (e : Draft) : Type 0 where
      pub ends : Ends v e → Ends w d
      pub now : Ends v e → Now w d → Now v e
      pub rest : rest_of v.scopes ≡ rest_of w.scopes
      pub up : length w.decls ≤ length v.decls

    pub goes_then : {w v u : Walk} {d e c : Draft} → Goes w d v e → Goes v e u c → Goes w d u c
    goes_then a b =
        let x = a.up in
        let y = b.up in
        record { ends = λ h. a.ends (b.ends h); now = λ h n. b.now h (a.now (b.ends h) n); rest = b.rest ∙ a.rest; up = omega (arith, x, y) }

    -- the draft alone goes on
    pub calm_goes : (w : Walk) (d e : Draft) → Calm d e → Goes w d w e
    calm_goes w d e c =
        let t = c.tables in
        record {
          ends = λ h. record {
            uses = h.uses;
            decls = h.decls;
            plain = h.plain;
            given = prefix_as d.numbers e.numbers numbers c.numbers h.given;
            inputs = prefix_then d.inputs e.inputs K.inputs t.inputs h.inputs;
            outputs = prefix_then d.outputs e.outputs K.outputs t.outputs h.outputs;
            events = prefix_then d.events e.events K.events t.events h.events;
            codes = prefix_then d.codes e.codes K.codes t.codes h.codes;
          };
          now = λ h n. record {
            uses = n.uses ∙ sym c.uses;
            decls = n.decls ∙ ap length (sym c.numbers);
            shows = subst (λ xs. AllScopes (Means s numbers K code (length xs)) w.scopes) (sym c.numbers) n.shows;
          };
          rest = refl;
          up = omega arith;
        }

    -- ---- uses

    pub record Used (r : Role) (x : Ident) (w : Walk) (v : Walk) : Type 0 where
      pub known : Known
      pub is : v ≡ record w { uses = w.uses ++ known.number ∷ [] }
      pub decl : decl_of w.scopes x ≡ Ok known
      pub takes_it : takes r known.class ≡ true

    pub used_ok : (r : Role) (x : Ident) (w : Walk) (p : Known × Walk) → used r x w ≡ Ok p → (u : Used r x w p.1) × (u.known ≡ p.0)
    unfolding used
    used_ok r x w p e =
        let a = then_ok (resolved r w.scopes x) (noted w) p e in
        let k = a.0 in
        let found = resolved_decl r w.scopes x k a.1 in
        let same : (k, record w { uses = w.uses ++ k.number ∷ [] }) ≡ p = ok_is (k, record w { uses = w.uses ++ k.number ∷ [] }) p (Ok (k, record w { uses = w.uses ++ k.number ∷ [] })) refl a.2 in
        (record { known = k; is = sym (ap (λ (q : Known × Walk). q.1) same); decl = found.0; takes_it = found.1 }, ap (λ (q : Known × Walk). q.0) same)

    pub named_ok : (r : Role) (x : Ident) (w v : Walk) → named r x w ≡ Ok v → Used r x w v
    unfolding named
    named_ok r x w v e =
        let a = then_ok (used r x w) and_on v e in
        let u = (used_ok r x w a.0 a.1).0 in
        let same : a.0.1 ≡ v = ok_is a.0.1 v (Ok a.0.1) refl a.2 in
        record { known = u.known; is = sym same ∙ u.is; decl = u.decl; takes_it = u.takes_it }

    noted_goes : (w : Walk) (d : Draft) (k : ℕ) → Goes w d (record w { uses = w.uses ++ k ∷ [] }) (uses.used d)
    unfolding uses.used
    noted_goes w d k =
        record {
          ends = λ h. record { uses = prefix_less w.uses (k ∷ []) s.uses h.uses; decls = h.decls; plain = h.plain; given = h.given; inputs = h.inputs; outputs = h.outputs; events = h.events; codes = h.codes };
          now = λ h n. record { uses = length_more w.uses k ∙ ap (λ m. m + 1) n.uses; decls = n.decls; shows = n.shows };
          rest = refl;
          up = omega arith;
        }

    pub used_goes : (r : Role) (x : Ident) (w v : Walk) (d : Draft) → Used r x w v → Goes w d v (uses.used d)
    used_goes r x w v d u = subst (λ v. Goes w d v (uses.used d)) (sym u.is) (noted_goes w d u.known.number)

    pub named_goes : (r : Role) (x : Ident) (w v : Walk) (d : Draft) → named r x w ≡ Ok v → Goes w d v (uses.used d)
    named_goes r x w v d e = used_goes r x w v d (named_ok r x w v e)

    -- a use of which nothing is asked here
    noted_ok : (w v : Walk) (d : Draft) (x : Result Known Broken) → x >>= noted w >>= and_on ≡ Ok v → Goes w d v (uses.used d)
    noted_ok w v d x e =
        let a = then_ok (x >>= noted w) and_on v e in
        let b = then_ok x (noted w) a.0 a.1 in
        let same : a.0.1 ≡ v = ok_is a.0.1 v (Ok a.0.1) refl a.2 in
        let is : (b.0, record w { uses = w.uses ++ b.0.number ∷ [] }) ≡ a.0 = ok_is (b.0, record w { uses = w.uses ++ b.0.number ∷ [] }) a.0 (Ok (b.0, record w { uses = w.uses ++ b.0.number ∷ [] })) refl b.2 in
        subst (λ v. Goes w d v (uses.used d)) (ap (λ (q : Known × Walk). q.1) is ∙ same) (noted_goes w d b.0.number)

    pub pool_goes : (c : ℕ) (x : Ident) (w v : Walk) (d : Draft) → pool_used c x w ≡ Ok v → Goes w d v (uses.used d)
    unfolding pool_used
    pool_goes c x w v d e = noted_ok w v d _ e

    pub alias_goes : (sp : Spawn) (x : Ident) (w v : Walk) (d : Draft) → alias_used sp x w ≡ Ok v → Goes w d v (uses.used d)
    unfolding alias_used
    alias_goes sp x w v d e = noted_ok w v d _ e

    -- what a use stands for
    pub use_means : (r : Role) (x : Ident) (w v : Walk) (d : Draft) (u : Used r x w v) → Now w d → Means s numbers K code (length d.numbers) u.known
    use_means r x w v d u n = decl_in (Means s numbers K code (length d.numbers)) w.scopes x u.known n.shows u.decl

    pub use_listed : (r : Role) (x : Ident) (w v : Walk) (d e : Draft) (u : Used r x w v) → Now w d → Ends v e → slice_get s.uses d.uses ≡ Some u.known.number
    use_listed r x w v d e u n h =
        let k = u.known.number in
        let is : s.uses ≡ w.uses ++ (k ∷ h.uses.0) = h.uses.1 ∙ ap (λ (v : Walk). v.uses ++ h.uses.0) u.is ∙ append_assoc w.uses (k ∷ []) h.uses.0 in
        ap (λ xs. slice_get xs d.uses) is ∙ ap (slice_get (w.uses ++ (k ∷ h.uses.0))) (sym n.uses) ∙ get_next w.uses k h.uses.0

    -- ---- declarations

    pub declared_ok : (c : Class) (t : Ty) (r : Option Rule) (x : Ident) (w v : Walk) → declared c t r x w ≡ Ok v → v ≡ record w { decls = w.decls ++ record { class = c; ty = t; pos = x.pos; block = block_of w.scopes; name = x.name } ∷ [] }
    unfolding declared
    declared_ok c t r x w v e = sym (checked_ok (if is_taken w.scopes x.name then Some N2 else r) x.pos (record w { decls = w.decls ++ record { class = c; ty = t; pos = x.pos; block = block_of w.scopes; name = x.name } ∷ [] }) v e)

    -- the draft takes the number
    pub record Takes (n : ℕ) (d e : Draft) : Type 0 where
      pub uses : e.uses ≡ d.uses
      pub takes : e.numbers ≡ d.numbers ++ n ∷ []
      pub tables : Tables d e

    pub shows_more : (m n : ℕ) → m ≤ n → (scopes : List Scope) → AllScopes (Means s numbers K code m) scopes → AllScopes (Means s numbers K code n) scopes
    shows_more m n le scopes h = scopes_map (Means s numbers K code m) (Means s numbers K code n) (means_more s numbers K code m n le) scopes h

    more_now : (n : ℕ) (x : Decl) (w : Walk) (d e : Draft) → Takes n d e → Now w d → Now (record w { decls = w.decls ++ x ∷ [] }) e
    more_now n x w d e t m =
        let one : length e.numbers ≡ length d.numbers + 1 = ap length t.takes ∙ length_more d.numbers n in
        let count : length (w.decls ++ x ∷ []) ≡ length w.decls + 1 = length_more w.decls x in
        record {
          uses = m.uses ∙ sym t.uses;
          decls = let before = m.decls in omega (arith, one, count, before);
          shows = shows_more (length d.numbers) (length e.numbers) (omega (arith, one)) w.scopes m.shows;
        }

    pub declared_now : (c : Class) (t : Ty) (r : Option Rule) (x : Ident) (n : ℕ) (w v : Walk) (d e : Draft) → Takes n d e → declared c t r x w ≡ Ok v → Now w d → Now v e
    declared_now c t r x n w v d e h is now = subst (λ v. Now v e) (sym (declared_ok c t r x w v is)) (more_now n _ w d e h now)

    more_goes : (n : ℕ) (x : Decl) (w : Walk) (d e : Draft) → is_parameter x.class ≡ false → Takes n d e → Goes w d (record w { decls = w.decls ++ x ∷ [] }) e
    more_goes n x w d e plain t =
        let k = t.tables in
        let count : length (w.decls ++ x ∷ []) ≡ length w.decls + 1 = length_more w.decls x in
        record {
          ends = λ h. record {
            uses = h.uses;
            decls = (x ∷ h.decls.0, h.decls.1 ∙ append_assoc w.decls (x ∷ []) h.decls.0);
            plain = plain;
            given = prefix_less d.numbers (n ∷ []) numbers (prefix_as (d.numbers ++ n ∷ []) e.numbers numbers t.takes h.given);
            inputs = prefix_then d.inputs e.inputs K.inputs k.inputs h.inputs;
            outputs = prefix_then d.outputs e.outputs K.outputs k.outputs h.outputs;
            events = prefix_then d.events e.events K.events k.events h.events;
            codes = prefix_then d.codes e.codes K.codes k.codes h.codes;
          };
          now = λ h m. more_now n x w d e t m;
          rest = refl;
          up = omega (arith, count);
        }

    pub declared_goes : (c : Class) (t : Ty) (r : Option Rule) (x : Ident) (n : ℕ) (w v : Walk) (d e : Draft) → is_parameter c ≡ false → Takes n d e → declared c t r x w ≡ Ok v → Goes w d v e
    declared_goes c t r x n w v d e plain h is = subst (λ v. Goes w d v e) (sym (declared_ok c t r x w v is)) (more_goes n _ w d e plain h)

    with_name_rest : (x : List ℕ) (k : Known) (scopes : List Scope) → rest_of (with_name x k scopes) ≡ rest_of scopes
    with_name_rest x k [] = refl
    with_name_rest x k (s ∷ outside) = refl

    shown_ok : (x : Ident) (k : Known) (w v : Walk) → shown x k w ≡ Ok v → v ≡ record w { scopes = with_name x.name k w.scopes }
    unfolding shown
    shown_ok x k w v e = sym (ok_is (record w { scopes = with_name x.name k w.scopes }) v (Ok (record w { scopes = with_name x.name k w.scopes })) refl e)

    -- a name is shown, which stands for something
    pub record Shown (k : Known) (w v : Walk) (d : Draft) : Type 0 where
      pub ends : Ends v d → Ends w d
      pub now : Means s numbers K code (length d.numbers) k → Now w d → Now v d
      pub rest : rest_of v.scopes ≡ rest_of w.scopes
      pub decls : v.decls ≡ w.decls
      pub uses : v.uses ≡ w.uses

    shown_at : (x : Ident) (k : Known) (w : Walk) (d : Draft) → Shown k w (record w { scopes = with_name x.name k w.scopes }) d
    shown_at x k w d =
        record {
          ends = λ h. record { uses = h.uses; decls = h.decls; plain = h.plain; given = h.given; inputs = h.inputs; outputs = h.outputs; events = h.events; codes = h.codes };
          now = λ means n. record { uses = n.uses; decls = n.decls; shows = with_name_all (Means s numbers K code (length d.numbers)) x.name k w.scopes means n.shows };
          rest = with_name_rest x.name k w.scopes;
          decls = refl;
          uses = refl;
        }

    pub shown_by : (x : Ident) (k : Known) (w v : Walk) (d : Draft) → shown x k w ≡ Ok v → Shown k w v d
    shown_by x k w v d e = subst (λ v. Shown k w v d) (sym (shown_ok x k w v e)) (shown_at x k w d)

    -- what was declared stands there
    pub stands_there : (c : Class) (t : Ty) (r : Option Rule) (x : Ident) (n : ℕ) (w v : Walk) (d e : Draft) → declared c t r x w ≡ Ok v → e.numbers ≡ d.numbers ++ n ∷ [] → Prefix v.decls s.decls → Prefix e.numbers numbers → Now w d →
        (P : Decl → ℕ → Type 0) → ((y : Decl) → y.class ≡ c → y.ty ≡ t → P y n) → Stands s numbers K c (length w.decls) P
    stands_there c t r x n w v d e is takes decls given now P so =
        let y : Decl = record { class = c; ty = t; pos = x.pos; block = block_of w.scopes; name = x.name } in
        let all : s.decls ≡ w.decls ++ (y ∷ decls.0) = decls.1 ∙ ap (λ (v : Walk). v.decls ++ decls.0) (declared_ok c t r x w v is) ∙ append_assoc w.decls (y ∷ []) decls.0 in
        let ns : numbers ≡ d.numbers ++ (n ∷ given.0) = given.1 ∙ ap (λ xs. xs ++ given.0) takes ∙ append_assoc d.numbers (n ∷ []) given.0 in
        record {
          decl = y;
          is = ap (λ xs. slice_get xs (length w.decls)) all ∙ get_next w.decls y decls.0;
          class_is = refl;
          number = n;
          at = ap (λ xs. slice_get xs (length w.decls)) ns ∙ ap (slice_get (d.numbers ++ (n ∷ given.0))) now.decls ∙ get_next d.numbers n given.0;
          so = so y refl refl;
        }

    -- ---- blocks, labels

    pub opened_now : (b : Border) (w : Walk) (d : Draft) → Now w d → Now (opened b w) d
    unfolding opened
    opened_now b w d n = record { uses = n.uses; decls = n.decls; shows = (tt, n.shows) }

    pub opened_ends : (b : Border) (w : Walk) (d : Draft) → Ends (opened b w) d → Ends w d
    unfolding opened
    opened_ends b w d h = record { uses = h.uses; decls = h.decls; plain = h.plain; given = h.given; inputs = h.inputs; outputs = h.outputs; events = h.events; codes = h.codes }

    pub opened_rest : (b : Border) (w : Walk) → (rest_of (opened b w).scopes ≡ w.scopes) × ((opened b w).decls ≡ w.decls)
    unfolding opened
    opened_rest b w = (refl, refl)

    pub closed_ok : (w v : Walk) → closed w ≡ Ok v → v ≡ record w { scopes = rest_of w.scopes }
    unfolding closed
    closed_ok w v e = sym (ok_is (record w { scopes = rest_of w.scopes }) v (Ok (record w { scopes = rest_of w.scopes })) refl e)

    closed_at : (b : Border) (w v : Walk) (d e : Draft) → Goes (opened b w) d v e → Goes w d (record v { scopes = rest_of v.scopes }) e
    closed_at b w v d e h =
        let out = opened_rest b w in
        let back : Ends (record v { scopes = rest_of v.scopes }) e → Ends v e = λ k. record { uses = k.uses; decls = k.decls; plain = k.plain; given = k.given; inputs = k.inputs; outputs = k.outputs; events = k.events; codes = k.codes } in
        let up = h.up in
        let same : length (opened b w).decls ≡ length w.decls = ap length out.1 in
        record {
          ends = λ k. opened_ends b w d (h.ends (back k));
          now = λ k n. let m = h.now (back k) (opened_now b w d n) in record { uses = m.uses; decls = m.decls; shows = rest_all (Means s numbers K code (length e.numbers)) v.scopes m.shows };
          rest = ap rest_of (h.rest ∙ out.0);
          up = omega (arith, up, same);
        }

    -- a block of the walk, whose inside goes so
    pub block_goes : (b : Border) (w v u : Walk) (d e : Draft) → Goes (opened b w) d v e → closed v ≡ Ok u → Goes w d u e
    block_goes b w v u d e h is = subst (λ u. Goes w d u e) (sym (closed_ok v u is)) (closed_at b w v d e h)

    pub labels_goes : (ls : List (List ℕ)) (w : Walk) (d : Draft) → Goes w d (record w { labels = ls }) d
    labels_goes ls w d =
        record {
          ends = λ h. record { uses = h.uses; decls = h.decls; plain = h.plain; given = h.given; inputs = h.inputs; outputs = h.outputs; events = h.events; codes = h.codes };
          now = λ h n. record { uses = n.uses; decls = n.decls; shows = n.shows };
          rest = refl;
          up = omega arith;
        }

    -- ---- what a use stands for in the kernel

    number_is : (ns : List ℕ) (o : Option ℕ) (k n : ℕ) → o ≡ Some k → slice_get ns k ≡ Some n → number_at ns o ≡ n
    number_is ns None k n e g = absurd (cc)
    number_is ns (Some j) k n e g = let same : j ≡ k = cc in ap (λ i. unwrap_or (slice_get ns i) 0) same ∙ ap (λ o. unwrap_or o 0) g

    pub record Here (c : Class) (d : Draft) (P : Decl → ℕ → Type 0) : Type 0 where
      pub decl : Decl
      pub class_is : decl.class ≡ c
      pub typed : uses.type_at s d.uses ≡ decl.ty
      pub output : names_output s d.uses ≡ is_output decl.class
      pub so : P decl (use_number s d)

    pub here : (c : Class) (P : Decl → ℕ → Type 0) (d : Draft) (n : ℕ) → n < length d.numbers → Prefix d.numbers numbers → slice_get s.uses d.uses ≡ Some n → Stands s numbers K c n P → Here c d P
    unfolding use_number
    here c P d n lt given listed h =
        let at : slice_get d.numbers n ≡ Some h.number = sym (get_less d.numbers given.0 n lt) ∙ ap (λ xs. slice_get xs n) (sym given.1) ∙ h.at in
        let decl : uses.decl_of s d.uses ≡ Some h.decl = ap (uses.decl_at s.decls) listed ∙ h.is in
        record {
          decl = h.decl;
          class_is = h.class_is;
          typed = ap uses.type_of_decl decl;
          output = ap uses.is_output_decl decl;
          so = subst (P h.decl) (sym (number_is d.numbers (slice_get s.uses d.uses) n h.number listed at)) h.so;
        }
