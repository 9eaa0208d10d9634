-- A block opens: the names around stay, and more slots, numbers and blocks are there.
use Rattle.std.proofs.Common.{◌≡◌, refl, sym, ap, ◌∙◌, subst, ℕ, ◌+◌, ◌≤◌, ◌<◌, length, arith, List, [], ◌∷◌, ◌++◌, Some, Ok, Bool, true, false}
use Rattle.std.specs.Prelude.{nat_lt, if◌then◌else◌, ◌||◌, ◌==◌}
use Rattle.std.proofs.lemmas.Bool.{ltb-true, ltb-false, lt-ltb, le-ltb}
use Rattle.std.proofs.lemmas.Bool.Decides.{Decides-eqb}
use Rattle.ceu_tree.specs.declared.source.Class.{Class}
use Rattle.ceu_tree.specs.declared.source.Ident.{Ident}
use Rattle.ceu_tree.specs.declared.kernel.Kernel.{Kernel}
use Rattle.ceu_tree.specs.declared.kernel.KDecl.{KDecl}
use Rattle.ceu_tree.specs.Numbering.{decl_slots}
use Rattle.ceu_tree.specs.Proper.{Where, InsideAsync, InFinalizer, find, pool_slots, pools_seen}
use Rattle.ceu_scopes.specs.declared.known.Known.{Known}
use Rattle.ceu_scopes.specs.declared.known.Scopes.{Scopes}
use Rattle.ceu_scopes.specs.declared.scope.Border.{Border}
use Rattle.ceu_scopes.specs.declared.scope.Border.TheVariants.{Plain, Async}
use Rattle.ceu_scopes.specs.declared.scope.Scope.{Scope}
use Rattle.ceu_scopes.specs.declared.walk.Walk.{Walk}
use Rattle.ceu_scopes.specs.Shown.{is_among}
use Rattle.ceu_scopes.specs.Walk.{opened, is_body, decl_of, is_listed}
use Rattle.ceu_scopes.specs.Rules.{is_alias, is_variable}
use Rattle.ceu_expand.specs.declared.draft.Draft.{Draft}
use Rattle.ceu_expand.specs.Draft as draft
use Rattle.laws_kernel_shape.specs.Shaped.{AllOf}
use Rattle.laws_kernel_shape.proofs.Inside.{append_none}
use Rattle.laws_kernel_shape.proofs.Runs.{Runs}
use Rattle.laws_kernel_names.proofs.Stepping.{AllScopes}
use Rattle.laws_kernel_names.proofs.Views.{find_older, Shown, shown_map}
use Rattle.laws_kernel_names.proofs.Holding.{starts}
use Rattle.laws_kernel_uses.proofs.Sites.{site_with, site_in, NoAlias}
use Rattle.laws_kernel_uses.proofs.Means.{class_at, Stands, Means, means_more, Shared}
use Rattle.laws_kernel_uses.proofs.Reach.{Outer, outer_around, Unlisted, Quiet, shown_zip, unlisted_in, false_and}
use Rattle.laws_kernel_uses.proofs.Walking.{Ground, Both}
use Rattle.laws_kernel_uses.proofs.Finding.{decl_stands, alias_class}

-- where a block stands, whose place may be another than that of its statement
pub record Moved : Type 0 where
  pub place : Where
  pub since : List KDecl

abbrev pub unmoved : Ground → Moved
unmoved g = record { place = g.site.place; since = g.site.since }

-- with the block's declarations, before it is opened
abbrev pub head_of : List KDecl → Ground → Ground
head_of ds g = record { site = site_with ds g.site; entered = false }

-- and inside
abbrev pub inner : Moved → List KDecl → Ground → Ground
inner m ds g = record { site = site_with ds (site_in m.place m.since g.site); entered = true }

-- ---- where the slots of each block end, with one block more

unfoldable extended : (ℕ → ℕ) → (top end : ℕ) → ℕ → ℕ
extended limits top end b = if nat_lt b top then limits b else end

extended_old : (limits : ℕ → ℕ) (top end b : ℕ) → b < top → extended limits top end b ≡ limits b
unfolding extended
extended_old limits top end b lt = ap (λ c. if c then limits b else end) (lt-ltb b top lt)

extended_new : (limits : ℕ → ℕ) (top end b : ℕ) → top ≤ b → extended limits top end b ≡ end
unfolding extended
extended_new limits top end b le = ap (λ c. if c then limits b else end) (le-ltb b top le)

extended_within : (limits : ℕ → ℕ) (top end : ℕ) → ((b : ℕ) → limits b ≤ end) → (b : ℕ) → extended limits top end b ≤ end
unfolding extended
extended_within limits top end h b = by_test (nat_lt b top)
  where
    by_test : (c : Bool) → (if c then limits b else end) ≤ end
    by_test true = h b
    by_test false = omega arith

extended_grows : (limits : ℕ → ℕ) (top end : ℕ) → ((a b : ℕ) → a ≤ b → limits a ≤ limits b) → ((b : ℕ) → limits b ≤ end) → (a b : ℕ) → a ≤ b → extended limits top end a ≤ extended limits top end b
extended_grows limits top end grows h a b le = by_place (nat_lt b top) refl
  where
    by_place : (c : Bool) → nat_lt b top ≡ c → extended limits top end a ≤ extended limits top end b
    by_place true e =
        let lt = ltb-true b top e in
        let old = extended_old limits top end a (omega (arith, lt, le)) in
        let old' = extended_old limits top end b lt in
        let up = grows a b le in
        omega (arith, old, old', up)
    by_place false e =
        let new = extended_new limits top end b (ltb-false b top e) in
        let in_end = extended_within limits top end h a in
        omega (arith, new, in_end)

-- ---- names in a list of an async

-- a number that an async lists is a variable's that is found there
pub record ListedIn (scopes : List Scope) (n : ℕ) : Type 0 where
  pub name : Ident
  pub known : Known
  pub decl : decl_of scopes name ≡ Ok known
  pub number : known.number ≡ n
  pub variable : is_variable known.class ≡ true

no_alias_variable : (c : Class) → is_variable c ≡ true → is_alias c ≡ true → ⊥
no_alias_variable c v a = let e = ap is_variable (alias_class c a) in absurd (cc)

pub all_shown : (P : Known → Type 0) (scopes : List Scope) → AllScopes P scopes → Shown P scopes
all_shown P [] h = tt
all_shown P (s ∷ outside) h = (h.0, λ inside. all_shown P outside h.1)

module _ (s : Scopes) (K : Kernel) where
  -- in the block's view, where the walk hasn't opened it yet
  pub both_head : (g : Ground) (base n : ℕ) (D : List KDecl) (w : Walk) (d : Draft) → Runs d.slot (decl_slots D) (draft.opened n d).slot → Both s K g base w d → Both s K (head_of D g) (draft.opened n d).slot w (draft.opened n d)
  both_head g base n D w d runs h =
      let start = starts n d in
      let b' = (draft.opened n d).slot in
      let room = h.room in
      let slot = start.slot in
      let le : base ≤ b' = omega (arith, room, slot) in
      let site = site_with D g.site in
      let older : (m : ℕ) → m < base → find m site.seen ≡ find m g.site.seen = λ m lt. find_older (pool_slots D ++ pools_seen g.site.seen) D g.site.seen d.slot b' m runs (omega (arith, lt, room)) in
      let numbers : d.numbers ++ [] ≡ (draft.opened n d).numbers = sym (append_none d.numbers) ∙ sym start.numbers in
      record {
        uses = h.uses ∙ sym start.uses;
        decls = h.decls ∙ ap length (sym start.numbers);
        room = omega arith;
        limits = h.limits;
        grows = h.grows;
        within = λ a. let k = h.within a in omega (arith, k, le);
        here = λ e. absurd (cc);
        top = h.top;
        means =
            shown_map (λ k. Means s K g.site h.limits base w.blocks d.numbers k) (λ k. Means s K site h.limits b' w.blocks (draft.opened n d).numbers k)
            (λ k m. subst (λ ns. Means s K site h.limits b' w.blocks ns k) numbers (means_more s K g.site site base b' d.numbers [] k older refl le h.limits h.limits w.blocks w.blocks (omega arith) h.within (λ b lt. refl) m)) w.scopes h.means;
        stands = subst (λ ns. AllScopes (λ k. Stands s K ns k) w.scopes) (sym start.numbers) h.stands;
        outer = subst (λ ns. Outer (λ k. Shared s K ns k) g.site.code w.scopes) (sym start.numbers) h.outer;
        quiet = λ inside none. h.quiet inside (no_later D g.site.since none);
      }
    where
      no_later : (ds since : List KDecl) → NoAlias (ds ++ since) → NoAlias since
      no_later [] since h = h
      no_later (d ∷ ds) since h = no_later ds since h.1

  -- the walk opens it
  pub both_open : (g : Ground) (place : Where) (since : List KDecl) (base : ℕ) (border : Border) (w : Walk) (d : Draft) → is_body border ≡ false → Quiet place since (opened border w).scopes → Both s K g base w d →
      Both s K (record { site = site_in place since g.site; entered = true }) base (opened border w) d
  unfolding opened
  both_open g place since base border w d plain quiet h =
      let site = site_in place since g.site in
      let limits = extended h.limits w.blocks base in
      record {
        uses = h.uses;
        decls = h.decls;
        room = h.room;
        limits = limits;
        grows = extended_grows h.limits w.blocks base h.grows h.within;
        within = extended_within h.limits w.blocks base h.within;
        here = λ e. extended_new h.limits w.blocks base w.blocks (omega arith);
        top = omega arith;
        means = (
          tt,
          λ inside.
              shown_map (λ k. Means s K g.site h.limits base w.blocks d.numbers k) (λ k. Means s K site limits base (w.blocks + 1) d.numbers k)
              (λ k m. subst (λ ns. Means s K site limits base (w.blocks + 1) ns k) (sym (append_none d.numbers))
              (means_more s K g.site site base base d.numbers [] k (λ n lt. refl) refl (omega arith) h.limits limits w.blocks (w.blocks + 1) (omega arith) h.within (λ b lt. extended_old h.limits w.blocks base b lt) m)) w.scopes h.means,
        );
        stands = (tt, h.stands);
        outer = outer_around (λ k. Shared s K d.numbers k) g.site.code _ w.scopes plain h.outer;
        quiet = quiet;
      }

  -- a plain block lists nothing
  pub plain_quiet : (g : Ground) (base : ℕ) (w : Walk) (d : Draft) → Both s K g base w d → Quiet g.site.place g.site.since (opened Plain w).scopes
  unfolding opened
  plain_quiet g base w d h inside none = (
    tt,
    λ out. shown_zip (λ k. Means s K g.site h.limits base w.blocks d.numbers k) (Unlisted w.scopes) (Unlisted (opened Plain w).scopes) (λ k m q. unlisted_in w.blocks Plain [] w.scopes k m.below q) w.scopes h.means (h.quiet inside none),
  )

  pub finalizer_quiet : (since : List KDecl) (scopes : List Scope) → Quiet InFinalizer since scopes
  finalizer_quiet since scopes inside none = absurd (cc)

  among_none : (scopes : List Scope) (ns : List ℕ) (k : Known) → AllOf (ListedIn scopes) ns → ((n : ℕ) → ListedIn scopes n → k.number ≡ n → ⊥) → is_among k.number ns ≡ false
  among_none scopes [] k h other = refl
  among_none scopes (n ∷ ns) k h other = by_test (k.number == n) (Decides-eqb k.number n).0 (among_none scopes ns k h.1 other)
    where
      by_test : (b : Bool) → (b ≡ true → k.number ≡ n) → is_among k.number ns ≡ false → (b || is_among k.number ns) ≡ false
      by_test true same rest = absurd (other n h.0 (same refl))
      by_test false same rest = rest

  -- an async lists no alias
  pub async_quiet : (g : Ground) (base : ℕ) (ns : List ℕ) (w : Walk) (d : Draft) (since : List KDecl) → AllOf (ListedIn w.scopes) ns → Both s K g base w d → Quiet InsideAsync since (opened (Async ns) w).scopes
  unfolding opened
  async_quiet g base ns w d since listed h inside none = (
    tt,
    λ out.
        shown_zip (λ k. Means s K g.site h.limits base w.blocks d.numbers k) (λ k. Stands s K d.numbers k) (Unlisted (opened (Async ns) w).scopes)
        (λ k m st. unlisted_in w.blocks (Async ns) [] w.scopes k m.below (λ alias. false_and (is_among k.number ns) (is_listed w.scopes k) (among_none w.scopes ns k listed (λ n l same. not_alias k n st alias l same)))) w.scopes h.means
        (all_shown (λ k. Stands s K d.numbers k) w.scopes h.stands),
  )
    where
      not_alias : (k : Known) (n : ℕ) → Stands s K d.numbers k → is_alias k.class ≡ true → ListedIn w.scopes n → k.number ≡ n → ⊥
      not_alias k n st alias l same =
          let other = decl_stands s K g [] base l.name w d l.known l.decl h in
          let one : Some l.known.class ≡ Some k.class = sym other.class_is ∙ ap (λ m. class_at s m) (l.number ∙ sym same) ∙ st.class_is in
          no_alias_variable k.class (by_same l.known.class k.class one l.variable) alias
        where
          by_same : (a b : Class) → Some a ≡ Some b → is_variable a ≡ true → is_variable b ≡ true
          by_same a b e v = let i : a ≡ b = cc in subst (λ c. is_variable c ≡ true) i v
