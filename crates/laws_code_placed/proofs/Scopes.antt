-- What is found from a place in a proper kernel is there: variables, aliases and pools that are seen, ports, events and codes.
use Rattle.std.proofs.Common.{◌≡◌, refl, subst, ℕ, zero, suc, ◌<◌, ◌^◌, Bool, true, false, not, ◌&&◌, if◌then◌else◌, ◌==◌, List, [], ◌∷◌, length, Option, Some, None, arith}
use Rattle.std.specs.Prelude.{nat_lt, nat_le}
use Rattle.std.specs.List.{AllByRecursion, list_all}
use Rattle.std.proofs.lemmas.Bool.{eqb-true, and_parts, false≢true}
use Rattle.ceu_base.specs.declared.kinds.Ty.{Ty}
use Rattle.ceu_base.specs.declared.kinds.Ty.TheVariants as ty
use Rattle.ceu_base.specs.declared.kinds.Port.{Port}
use Rattle.ceu_tree.specs.declared.kernel.Kernel.{Kernel}
use Rattle.ceu_tree.specs.declared.kernel.KCode.{KCode}
use Rattle.ceu_tree.specs.declared.kernel.KEvent.{KEvent}
use Rattle.ceu_tree.specs.declared.kernel.KDecl.{KDecl}
use Rattle.ceu_tree.specs.declared.kernel.KKind.{KKind}
use Rattle.ceu_tree.specs.declared.kernel.KKind.TheVariants as kind
use Rattle.ceu_tree.specs.declared.kernel.KExp.{KExp}
use Rattle.ceu_tree.specs.declared.kernel.Loc.{Loc}
use Rattle.ceu_tree.specs.declared.kernel.KBlock.{out-KBlock}
use Rattle.ceu_tree.specs.Typing.{same_ty, holds_all}
use Rattle.ceu_tree.specs.Numbering.{decl_slots}
use Rattle.ceu_tree.specs.Leaf.{code_at}
use Rattle.ceu_tree.specs.Proper.{SlotKind, IsVariable, IsLoopVariable, IsPool, IsAlias, Seen, Scope, find, slot_kind, declared_seen, is_in_code, is_trail, outside_asyncs, outside_finalizers, variable_ty, has_ty, is_loop_variable, is_alias, is_pool_of, alias_takes, is_code, looked_up, reads, asks, takes, takes_if, gives, gives_if, gives_all, port_ty, event_at, event_seen, on_ty, is_above, on_code, decl_ok, is_parameter}
use Rattle.ceu_shape.specs.Plans.{Plan}
use Rattle.ceu_shape.specs.Searches.{ty_or_none, ty_of_event}
use Rattle.laws_code_placed.specs.There.{IsSome, SlotThere, LocThere, KeptThere, AliasThere, ExpThere, ExpIfThere, ExpsThere}
use Rattle.laws_code_placed.proofs.Typed.{not_none, same_some, given_there, given_if_there}

pub code_within : (c : ℕ) (cs : List KCode) (k : KCode) → code_at c cs ≡ Some k → c < length cs
code_within c [] k e = absurd (cc)
code_within zero (x ∷ cs) k e = omega arith
code_within (suc c) (x ∷ cs) k e = omega (arith, code_within c cs k e)

module _ (P : Plan) (K : Kernel) where
  -- ---- what is seen

  abbrev KindFine : SlotKind → Type 0
  KindFine (IsVariable t) = IsSome t
  KindFine _ = Unit {0}

  abbrev pub SeenFine : Seen → Type 0
  SeenFine x = SlotThere P K x.slot × KindFine x.kind

  abbrev pub AllSeen : List Seen → Type 0
  AllSeen xs = AllByRecursion SeenFine xs

  found_there : (slot : ℕ) (xs : List Seen) (k : SlotKind) → AllSeen xs → find slot xs ≡ Some k → SlotThere P K slot × KindFine k
  found_there slot [] k h e = absurd (cc)
  found_there slot (x ∷ xs) k h e = go (x.slot == slot) refl (λ q. found_there slot xs k h.1 q) e
    where
      go : (b : Bool) → (x.slot == slot) ≡ b → (find slot xs ≡ Some k → SlotThere P K slot × KindFine k) → (if b then Some x.kind else find slot xs) ≡ Some k → SlotThere P K slot × KindFine k
      go true q rest e =
          let same : x.slot ≡ slot = eqb-true x.slot slot q in
          let kinds : x.kind ≡ k = cc in
          (subst (λ (n : ℕ). SlotThere P K n) same h.0.0, subst KindFine kinds h.0.1)
      go false q rest e = rest e

  -- a variable that is found has its type
  variable_there : (o : Option SlotKind) (slot : ℕ) (t : Ty) → ((k : SlotKind) → o ≡ Some k → SlotThere P K slot × KindFine k) → has_ty (variable_ty o) t ≡ true → SlotThere P K slot × IsSome t
  variable_there None slot t h e = absurd (false≢true e)
  variable_there (Some (IsVariable u)) slot t h e = let x = h (IsVariable u) refl in (x.0, same_some u t e x.1)
  variable_there (Some IsLoopVariable) slot t h e = let x = h IsLoopVariable refl in (x.0, same_some ty.S32 t e (λ q. cc))
  variable_there (Some (IsPool c)) slot t h e = absurd (false≢true e)
  variable_there (Some (IsAlias c pools)) slot t h e = absurd (false≢true e)

  -- the slots of the program's outermost block, which are seen from codes
  abbrev pub OuterFine : Type 0
  OuterFine = AllSeen (declared_seen [] (out-KBlock K.body).decls [])

  module _ (outer : OuterFine) where
    looked_there : (sc : Scope) (l : Loc) (k : SlotKind) → AllSeen sc.seen → looked_up K sc l ≡ Some k → SlotThere P K l.slot × KindFine k
    looked_there sc l k h e = go l.outer (is_in_code sc.code) e
      where
        go : (a b : Bool) → (if a then (if b then find l.slot (declared_seen [] (out-KBlock K.body).decls []) else None) else find l.slot sc.seen) ≡ Some k → SlotThere P K l.slot × KindFine k
        go true true e = found_there l.slot (declared_seen [] (out-KBlock K.body).decls []) k outer e
        go true false e = absurd (cc)
        go false b e = found_there l.slot sc.seen k h e

    pub reads_there : (sc : Scope) → AllSeen sc.seen → (l : Loc) → reads K sc l ≡ true → LocThere P K l
    reads_there sc h l e = variable_there (looked_up K sc l) l.slot l.ty (λ k q. looked_there sc l k h q) e

    pub alias_there : (sc : Scope) → AllSeen sc.seen → (c : ℕ) → is_alias (find c sc.seen) ≡ true → SlotThere P K c
    alias_there sc h c e = go (find c sc.seen) refl e
      where
        go : (o : Option SlotKind) → find c sc.seen ≡ o → is_alias o ≡ true → SlotThere P K c
        go None q e = absurd (false≢true e)
        go (Some k) q e = (found_there c sc.seen k h q).0

    pub asks_there : (sc : Scope) → AllSeen sc.seen → (c : ℕ) → asks K sc c ≡ true → SlotThere P K c
    asks_there sc h c e = alias_there sc h c (and_parts (outside_asyncs sc.place) (is_alias (find c sc.seen)) e).1

    pub pool_there : (sc : Scope) → AllSeen sc.seen → (code pool : ℕ) → is_pool_of code (find pool sc.seen) ≡ true → SlotThere P K pool
    pool_there sc h code pool e = go (find pool sc.seen) refl e
      where
        go : (o : Option SlotKind) → find pool sc.seen ≡ o → is_pool_of code o ≡ true → SlotThere P K pool
        go None q e = absurd (false≢true e)
        go (Some k) q e = (found_there pool sc.seen k h q).0

    pub taken_alias_there : (sc : Scope) → AllSeen sc.seen → (code pool : ℕ) (alias : Option ℕ) → (elim alias [ None ↦ true | Some a ↦ alias_takes code pool (find a sc.seen) ]) ≡ true → AliasThere P K alias
    taken_alias_there sc h code pool None e = tt
    taken_alias_there sc h code pool (Some a) e = go (find a sc.seen) refl e
      where
        go : (o : Option SlotKind) → find a sc.seen ≡ o → alias_takes code pool o ≡ true → SlotThere P K a
        go None q e = absurd (false≢true e)
        go (Some k) q e = (found_there a sc.seen k h q).0

    -- ---- targets and values

    pub takes_there : (sc : Scope) → AllSeen sc.seen → (t : Ty) (l : Loc) → takes K sc t l ≡ true → IsSome t × LocThere P K l
    takes_there sc h t l e =
        let x = and_parts (reads K sc l && not (is_loop_variable (looked_up K sc l)) && not (same_ty t ty.None)) (holds_all l.ty t) e in
        let y = and_parts (reads K sc l && not (is_loop_variable (looked_up K sc l))) (not (same_ty t ty.None)) x.0 in
        (not_none t y.1, reads_there sc h l (and_parts (reads K sc l) _ y.0).0)

    pub takes_if_there : (sc : Scope) → AllSeen sc.seen → (t : Ty) (l : Option Loc) → takes_if K sc t l ≡ true → KeptThere P K t l
    takes_if_there sc h t None e = tt
    takes_if_there sc h t (Some l) e = takes_there sc h t l e

    pub gives_there : (sc : Scope) → AllSeen sc.seen → (t : Ty) (e : KExp) → gives K sc t e ≡ true → ExpThere P K e × IsSome e.ty
    gives_there sc h t e ok = given_there P K (reads K sc) (asks K sc) (reads_there sc h) (asks_there sc h) t e ok

    pub gives_if_there : (sc : Scope) → AllSeen sc.seen → (t : Ty) (e : Option KExp) → gives_if K sc t e ≡ true → ExpIfThere P K e
    gives_if_there sc h t e ok = given_if_there P K (reads K sc) (asks K sc) (reads_there sc h) (asks_there sc h) t e ok

    pub gives_all_there : (sc : Scope) → AllSeen sc.seen → (ds : List KDecl) (es : List KExp) → gives_all K sc ds es ≡ true → ExpsThere P K es
    gives_all_there sc h [] [] ok = tt
    gives_all_there sc h [] (e ∷ es) ok = absurd (false≢true ok)
    gives_all_there sc h (d ∷ ds) [] ok = absurd (false≢true ok)
    gives_all_there sc h (d ∷ ds) (e ∷ es) ok =
        let x = and_parts (elim d.kind [ kind.Var t ↦ gives K sc t e | _ ↦ false ]) (gives_all K sc ds es) ok in
        (one d.kind x.0, gives_all_there sc h ds es x.1)
      where
        one : (k : KKind) → (elim k [ kind.Var t ↦ gives K sc t e | _ ↦ false ]) ≡ true → ExpThere P K e
        one (kind.Var t) ok = (gives_there sc h t e ok).0
        one (kind.Alias c) ok = absurd (false≢true ok)
        one (kind.Pool n c) ok = absurd (false≢true ok)

  -- ---- declarations

  abbrev pub SlotsThere : List ℕ → Type 0
  SlotsThere ns = AllByRecursion (SlotThere P K) ns

  kind_fine : (sc : Scope) (pools : List ℕ) (d : KDecl) → decl_ok K sc d ≡ true → KindFine (slot_kind pools d.kind)
  kind_fine sc pools d ok = go d.kind (and_parts _ (nat_le 1 d.pos.line) (and_parts _ (nat_le 1 d.pos.col) ok).0).0
    where
      go : (k : KKind) → (elim k [
        | kind.Var t ↦ not (same_ty t ty.None) && outside_finalizers sc.place
        | kind.Alias c ↦ is_trail sc.place && on_code K sc c (λ k. true)
        | kind.Pool n c ↦ is_trail sc.place && nat_lt n (2 ^ 32) && on_code K sc c (λ k. true)
      ]) ≡ true → KindFine (slot_kind pools k)
      go (kind.Var t) ok = not_none t (and_parts (not (same_ty t ty.None)) _ ok).0
      go (kind.Alias c) ok = tt
      go (kind.Pool n c) ok = tt

  pub declared_fine : (sc : Scope) (pools : List ℕ) (ds : List KDecl) (seen : List Seen) → list_all (decl_ok K sc) ds ≡ true → SlotsThere (decl_slots ds) → AllSeen seen → AllSeen (declared_seen pools ds seen)
  declared_fine sc pools [] seen ok s h = h
  declared_fine sc pools (d ∷ ds) seen ok s h =
      let x = and_parts (decl_ok K sc d) (list_all (decl_ok K sc) ds) ok in
      ((s.0, kind_fine sc pools d x.0), declared_fine sc pools ds seen x.1 s.1 h)

  pub parameters_fine : (pools : List ℕ) (ds : List KDecl) (names : List (List ℕ)) (seen : List Seen) → list_all (is_parameter K names) ds ≡ true → SlotsThere (decl_slots ds) → AllSeen seen → AllSeen (declared_seen pools ds seen)
  parameters_fine pools [] names seen ok s h = h
  parameters_fine pools (d ∷ ds) names seen ok s h =
      let x = and_parts (is_parameter K names d) (list_all (is_parameter K names) ds) ok in
      ((s.0, go d.kind x.0), parameters_fine pools ds names seen x.1 s.1 h)
    where
      go : (k : KKind) → (elim k [ kind.Var t ↦ not (same_ty t ty.None) | _ ↦ false ]) ≡ true → KindFine (slot_kind pools k)
      go (kind.Var t) ok = not_none t ok
      go (kind.Alias c) ok = tt
      go (kind.Pool n c) ok = tt

  -- ---- ports, events and codes

  pub port_there : (k : ℕ) (ps : List Port) (f : Ty → Bool) → on_ty K (port_ty K k ps) f ≡ true → (k < length ps) × (f (ty_or_none (port_ty K k ps)) ≡ true)
  port_there k [] f ok = absurd (false≢true ok)
  port_there zero (p ∷ ps) f ok = (omega arith, ok)
  port_there (suc k) (p ∷ ps) f ok = let h = port_there k ps f ok in (omega (arith, h.0), h.1)

  event_within : (k : ℕ) (es : List KEvent) (e : KEvent) → event_at K k es ≡ Some e → k < length es
  event_within k [] e q = absurd (cc)
  event_within zero (x ∷ es) e q = omega arith
  event_within (suc k) (x ∷ es) e q = omega (arith, event_within k es e q)

  pub event_there : (sc : Scope) (k : ℕ) (es : List KEvent) (f : Ty → Bool) → on_ty K (event_seen K sc (event_at K k es)) f ≡ true → (k < length es) × (f (ty_of_event (event_at K k es)) ≡ true)
  event_there sc k es f ok = go (event_at K k es) refl ok
    where
      typed_event : (e : KEvent) (c : Option ℕ) → on_ty K (elim c [ None ↦ Some e.ty | Some d ↦ (if is_code d sc.code then Some e.ty else None) ]) f ≡ true → f e.ty ≡ true
      typed_event e None ok = ok
      typed_event e (Some d) ok = inside (is_code d sc.code) ok
        where
          inside : (b : Bool) → on_ty K (if b then Some e.ty else None) f ≡ true → f e.ty ≡ true
          inside true ok = ok
          inside false ok = absurd (false≢true ok)

      go : (o : Option KEvent) → event_at K k es ≡ o → on_ty K (event_seen K sc o) f ≡ true → (k < length es) × (f (ty_of_event o) ≡ true)
      go None q ok = absurd (false≢true ok)
      go (Some e) q ok = (event_within k es e q, typed_event e e.code ok)

  -- code that may be used there
  pub record CodeThere (sc : Scope) (c : ℕ) (f : KCode → Bool) : Type 0 where
    pub code : KCode
    pub is : code_at c K.codes ≡ Some code
    pub within : c < length K.codes
    pub above : is_above K c sc.code ≡ true
    pub holds : f code ≡ true

  pub code_there : (sc : Scope) (c : ℕ) (f : KCode → Bool) → on_code K sc c f ≡ true → CodeThere sc c f
  code_there sc c f ok = let x = and_parts (is_above K c sc.code) _ ok in go (code_at c K.codes) refl x.0 x.1
    where
      go : (o : Option KCode) → code_at c K.codes ≡ o → is_above K c sc.code ≡ true → (elim o [ None ↦ false | Some k ↦ f k ]) ≡ true → CodeThere sc c f
      go None q up ok = absurd (false≢true ok)
      go (Some k) q up ok = record { code = k; is = q; within = code_within c K.codes k q; above = up; holds = ok }
