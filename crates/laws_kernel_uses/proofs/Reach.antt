-- What is reached from a place through the open blocks: names of outside, of the outermost block, and aliases, which no async lists.
use Rattle.std.proofs.Common.{◌≡◌, refl, sym, ap, ◌∙◌, subst, ℕ, ◌<◌, arith, List, [], ◌∷◌, Option, Some, None, Ok, Bool, true, false}
use Rattle.std.specs.Prelude.{◌&&◌, ◌||◌, ◌==◌, if◌then◌else◌, ok_or}
use Rattle.std.proofs.lemmas.Bool.Decides.{Decides-eqb}
use Rattle.ceu_base.specs.declared.kinds.Rule.TheVariants.{N1, N4, N5}
use Rattle.ceu_tree.specs.declared.kernel.KDecl.{KDecl}
use Rattle.ceu_tree.specs.declared.source.Ident.{Ident}
use Rattle.ceu_tree.specs.Proper.{Where, InsideAsync}
use Rattle.ceu_scopes.specs.declared.known.Known.{Known}
use Rattle.ceu_scopes.specs.declared.scope.Border.{Border}
use Rattle.ceu_scopes.specs.declared.scope.Border.TheVariants.{Plain, Async, Body}
use Rattle.ceu_scopes.specs.declared.scope.Scope.{Scope}
use Rattle.ceu_scopes.specs.Shown.{found}
use Rattle.ceu_scopes.specs.Walk.{only, is_global, is_shared, through, or_outside, seen, is_own, is_body, in_code, outermost, seen_outer, decl_of, admits, is_listed, block_of, with_name}
use Rattle.ceu_scopes.specs.Rules.{is_alias}
use Rattle.laws_kernel_names.proofs.Stepping.{Entries, AllScopes, found_in, ok_some}
use Rattle.laws_kernel_names.proofs.Views.{Shown}
use Rattle.laws_kernel_uses.proofs.Sites.{NoAlias}

pub differs : (m n : ℕ) → n < m → (m == n) ≡ false
differs m n h = by_test (m == n) (Decides-eqb m n).0
  where
    by_test : (b : Bool) → (b ≡ true → m ≡ n) → b ≡ false
    by_test false same = refl
    by_test true same = let e = same refl in absurd (omega (arith, e, h))

-- ---- the innermost block

-- its number is one of those so far
abbrev pub Top : ℕ → List Scope → Type 0
Top n [] = ⊥
Top n (s ∷ outside) = s.block < n

pub top_block : (n : ℕ) (scopes : List Scope) → Top n scopes → block_of scopes < n
top_block n [] h = absurd h
top_block n (s ∷ outside) h = h

pub named_top : (n : ℕ) (x : List ℕ) (k : Known) (scopes : List Scope) → Top n scopes → Top n (with_name x k scopes)
named_top n x k [] h = absurd h
named_top n x k (s ∷ outside) h = h

pub named_block : (x : List ℕ) (k : Known) (scopes : List Scope) → block_of (with_name x k scopes) ≡ block_of scopes
named_block x k [] = refl
named_block x k (s ∷ outside) = refl

pub named_code : (x : List ℕ) (k : Known) (scopes : List Scope) → in_code (with_name x k scopes) ≡ in_code scopes
named_code x k [] = refl
named_code x k (s ∷ outside) = refl

pub named_listed : (x : List ℕ) (k j : Known) (scopes : List Scope) → is_listed (with_name x k scopes) j ≡ is_listed scopes j
named_listed x k j [] = refl
named_listed x k j (s ∷ outside) = refl

-- ---- the outermost block

module _ (P : Known → Type 0) where
  -- in code: there is a block around, and this holds of the names of the outermost one
  abbrev pub Deep : List Scope → Type 0
  Deep [] = ⊥
  Deep (s ∷ []) = ⊥
  Deep (s ∷ t ∷ outside) = Entries P (outermost (t ∷ outside))

  abbrev pub Outer : Option ℕ → List Scope → Type 0
  Outer None scopes = in_code scopes ≡ false
  Outer (Some c) scopes = Deep scopes

  deep_named : (x : List ℕ) (k : Known) (scopes : List Scope) → Deep scopes → Deep (with_name x k scopes)
  deep_named x k [] h = absurd h
  deep_named x k (s ∷ []) h = absurd h
  deep_named x k (s ∷ t ∷ outside) h = h

  pub outer_named : (code : Option ℕ) (x : List ℕ) (k : Known) (scopes : List Scope) → Outer code scopes → Outer code (with_name x k scopes)
  outer_named None x k scopes h = named_code x k scopes ∙ h
  outer_named (Some c) x k scopes h = deep_named x k scopes h

  deep_around : (s : Scope) (scopes : List Scope) → Deep scopes → Deep (s ∷ scopes)
  deep_around s [] h = absurd h
  deep_around s (t ∷ []) h = absurd h
  deep_around s (t ∷ u ∷ outside) h = h

  or_false : (a b : Bool) → a ≡ false → b ≡ false → (a || b) ≡ false
  or_false false b h k = k
  or_false true b h k = absurd (cc)

  pub outer_around : (code : Option ℕ) (s : Scope) (scopes : List Scope) → is_body s.border ≡ false → Outer code scopes → Outer code (s ∷ scopes)
  outer_around None s scopes b h = or_false (is_body s.border) (in_code scopes) b h
  outer_around (Some c) s scopes b h = deep_around s scopes h

  deep_found : (scopes : List Scope) (x : List ℕ) (k : Known) → Deep scopes → found (outermost scopes) x ≡ Some k → P k
  deep_found [] x k h e = absurd h
  deep_found (s ∷ []) x k h e = absurd h
  deep_found (s ∷ t ∷ outside) x k h e = found_in P (outermost (t ∷ outside)) x k h e

  -- what is found in the outermost block
  pub outer_found : (code : Option ℕ) (scopes : List Scope) (x : List ℕ) (k : Known) → Outer code scopes → in_code scopes ≡ true → found (outermost scopes) x ≡ Some k → (c : ℕ) × (code ≡ Some c) × P k
  outer_found None scopes x k h inside e = absurd (cc)
  outer_found (Some c) scopes x k h inside e = (c, refl, deep_found scopes x k h e)

module _ (P Q : Known → Type 0) (f : (k : Known) → P k → Q k) where
  entries_map : (es : List (List ℕ × Known)) → Entries P es → Entries Q es
  entries_map [] h = tt
  entries_map (e ∷ es) h = (f e.1 h.0, entries_map es h.1)

  deep_map : (scopes : List Scope) → Deep P scopes → Deep Q scopes
  deep_map [] h = absurd h
  deep_map (s ∷ []) h = absurd h
  deep_map (s ∷ t ∷ outside) h = entries_map (outermost (t ∷ outside)) h

  pub outer_map : (code : Option ℕ) (scopes : List Scope) → Outer P code scopes → Outer Q code scopes
  outer_map None scopes h = h
  outer_map (Some c) scopes h = deep_map scopes h

-- ---- declarations of names

pub record OuterDecl (scopes : List Scope) (x : Ident) (k : Known) : Type 0 where
  pub inside : in_code scopes ≡ true
  pub there : found (outermost scopes) x.name ≡ Some k
  pub shares : is_shared k.class ≡ true

only_some : (test : _) (o : Option Known) (k : Known) → only test o ≡ Some k → (o ≡ Some k) × (test k.class ≡ true)
only_some test None k e = absurd (cc)
only_some test (Some j) k e = by_class (test j.class) refl e
  where
    by_class : (b : Bool) → test j.class ≡ b → (if b then Some j else None) ≡ Some k → (Some j ≡ Some k) × (test k.class ≡ true)
    by_class true same e = let one : j ≡ k = cc in (e, subst (λ i. test i.class ≡ true) one same)
    by_class false same e = absurd (cc)

outer_some : (scopes : List Scope) (x : Ident) (k : Known) (b : Bool) → in_code scopes ≡ b → (if b then only is_shared (found (outermost scopes) x.name) else None) ≡ Some k → OuterDecl scopes x k
outer_some scopes x k true inside e = let h = only_some is_shared (found (outermost scopes) x.name) k e in record { inside = inside; there = h.0; shares = h.1 }
outer_some scopes x k false inside e = absurd (cc)

pub outer_decl : (scopes : List Scope) (x : Ident) (k : Known) → decl_of scopes x ≡ Ok k → x.outer ≡ true → OuterDecl scopes x k
outer_decl scopes x k e outer =
    let found_there : ok_or (seen_outer scopes x.name) N4 ≡ Ok k =
    ap (λ b. if b then ok_or (seen_outer scopes x.name) N4 else ok_or (seen scopes x.name) (if is_own scopes x.name then N5 else N1)) (sym outer) ∙ e in
    outer_some scopes x k (in_code scopes) refl (ok_some (seen_outer scopes x.name) N4 k found_there)

pub own_decl : (scopes : List Scope) (x : Ident) (k : Known) → decl_of scopes x ≡ Ok k → x.outer ≡ false → seen scopes x.name ≡ Some k
own_decl scopes x k e outer =
    let own : ok_or (seen scopes x.name) (if is_own scopes x.name then N5 else N1) ≡ Ok k =
    ap (λ b. if b then ok_or (seen_outer scopes x.name) N4 else ok_or (seen scopes x.name) (if is_own scopes x.name then N5 else N1)) (sym outer) ∙ e in
    ok_some (seen scopes x.name) (if is_own scopes x.name then N5 else N1) k own

-- a name that no variable and no event has is one of the place's own
pub not_outer : (scopes : List Scope) (x : Ident) (k : Known) → decl_of scopes x ≡ Ok k → is_shared k.class ≡ false → x.outer ≡ false
not_outer scopes x k e other = by_outer x.outer refl
  where
    by_outer : (b : Bool) → x.outer ≡ b → x.outer ≡ false
    by_outer false same = same
    by_outer true same = let h = (outer_decl scopes x k e same).shares in absurd (cc)

-- names of any block
module _ (P : Known → Type 0) where
  through_in : (b : Border) (o : Option Known) (k : Known) → through b o ≡ Some k → o ≡ Some k
  through_in (Body name) o k e = (only_some is_global o k e).0
  through_in Plain o k e = e
  through_in (Async ns) o k e = e

  first_seen : (o rest : Option Known) (k : Known) → (o ≡ Some k → P k) → (rest ≡ Some k → P k) → or_outside o rest ≡ Some k → P k
  first_seen None rest k one two e = two e
  first_seen (Some j) rest k one two e = one e

  pub any_seen : (scopes : List Scope) (x : List ℕ) (k : Known) → AllScopes P scopes → seen scopes x ≡ Some k → P k
  any_seen [] x k h e = absurd (cc)
  any_seen (s ∷ outside) x k h e =
      first_seen (found s.names x) (through s.border (seen outside x)) k (found_in P s.names x k h.0) (λ i. any_seen outside x k h.1 (through_in s.border (seen outside x) k i)) e

  any_outermost : (scopes : List Scope) (x : List ℕ) (k : Known) → AllScopes P scopes → found (outermost scopes) x ≡ Some k → P k
  any_outermost [] x k h e = absurd (cc)
  any_outermost (s ∷ []) x k h e = found_in P s.names x k h.0 e
  any_outermost (s ∷ t ∷ outside) x k h e = any_outermost (t ∷ outside) x k h.1 e

  pub any_decl : (scopes : List Scope) (x : Ident) (k : Known) → AllScopes P scopes → decl_of scopes x ≡ Ok k → P k
  any_decl scopes x k h e = by_outer x.outer refl
    where
      by_outer : (b : Bool) → x.outer ≡ b → P k
      by_outer true same = any_outermost scopes x.name k h (outer_decl scopes x k e same).there
      by_outer false same = any_seen scopes x.name k h (own_decl scopes x k e same)

-- ---- aliases and asyncs

module _ (P Q R : Known → Type 0) (f : (k : Known) → P k → Q k → R k) where
  entries_zip : (es : List (List ℕ × Known)) → Entries P es → Entries Q es → Entries R es
  entries_zip [] h k = tt
  entries_zip (e ∷ es) h k = (f e.1 h.0 k.0, entries_zip es h.1 k.1)

  pub shown_zip : (scopes : List Scope) → Shown P scopes → Shown Q scopes → Shown R scopes
  shown_zip [] h k = tt
  shown_zip (s ∷ outside) h k = (entries_zip s.names h.0 k.0, λ inside. shown_zip outside (h.1 inside) (k.1 inside))

-- an alias of outside, which the asyncs between here and there don't list
abbrev pub Unlisted : List Scope → Known → Type 0
Unlisted scopes k = is_alias k.class ≡ true → is_listed scopes k ≡ false

abbrev pub Quiet : Where → List KDecl → List Scope → Type 0
Quiet place since scopes = place ≡ InsideAsync → NoAlias since → Shown (Unlisted scopes) scopes

-- a new block around lists no alias
pub unlisted_in : (n : ℕ) (border : Border) (names : List (List ℕ × Known)) (scopes : List Scope) (k : Known) → k.block < n → (is_alias k.class ≡ true → (admits border k.number && is_listed scopes k) ≡ false) →
    Unlisted (record { block = n; border = border; names = names } ∷ scopes) k
unlisted_in n border names scopes k lt h alias = ap (λ b. b || (admits border k.number && is_listed scopes k)) (differs n k.block lt) ∙ h alias

pub false_and : (a b : Bool) → a ≡ false → (a && b) ≡ false
false_and false b h = refl
false_and true b h = absurd (cc)
