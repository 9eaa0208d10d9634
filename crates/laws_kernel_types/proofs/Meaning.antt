-- What the names that are visible stand for in the whole kernel, with their types.
use Rattle.std.proofs.Common.{◌≡◌, ℕ, ◌+◌, ◌<◌, ◌≤◌, drop, arith, List, [], ◌∷◌, Option, Some, None, Ok, Bool, true, false}
use Rattle.std.specs.Prelude.{⊤, IsTrue, not, if◌then◌else◌, slice_get, ok_or}
use Rattle.ceu_base.specs.declared.kinds.Ty.{Ty}
use Rattle.ceu_base.specs.declared.kinds.Ty.TheVariants as ty
use Rattle.ceu_base.specs.declared.kinds.Port.{Port}
use Rattle.ceu_base.specs.declared.kinds.Rule.TheVariants.{N1, N4, N5}
use Rattle.ceu_tree.specs.declared.source.Class.{Class}
use Rattle.ceu_tree.specs.declared.source.Class.TheVariants as class
use Rattle.ceu_tree.specs.declared.source.Decl.{Decl}
use Rattle.ceu_tree.specs.declared.source.Ident.{Ident}
use Rattle.ceu_tree.specs.declared.kernel.Kernel.{Kernel}
use Rattle.ceu_tree.specs.declared.kernel.KCode.{KCode}
use Rattle.ceu_tree.specs.declared.kernel.KDecl.{KDecl}
use Rattle.ceu_tree.specs.declared.kernel.KEvent.{KEvent}
use Rattle.ceu_tree.specs.declared.kernel.KKind.TheVariants as kind
use Rattle.ceu_tree.specs.Typing.{same_ty}
use Rattle.ceu_tree.specs.Leaf.{code_at}
use Rattle.ceu_tree.specs.Proper.{port_ty, event_at, is_code}
use Rattle.ceu_scopes.specs.declared.known.Known.{Known}
use Rattle.ceu_scopes.specs.declared.known.Scopes.{Scopes}
use Rattle.ceu_scopes.specs.declared.scope.Border.{Border}
use Rattle.ceu_scopes.specs.declared.scope.Border.TheVariants.{Plain, Async, Body}
use Rattle.ceu_scopes.specs.declared.scope.Scope.{Scope}
use Rattle.ceu_scopes.specs.Shown.{found}
use Rattle.ceu_scopes.specs.Walk.{only, is_global, is_shared, through, or_outside, seen, is_own, in_code, outermost, seen_outer, decl_of}
use Rattle.ceu_types.specs.Uses.{is_parameter, leading_parameters}
use Rattle.laws_kernel_names.proofs.Stepping.{AllScopes, found_in, ok_some}
use Rattle.laws_kernel_types.specs.Typed.{event_ty}

-- ---- what is found is shown

module _ (P : Known → Type 0) where
  only_is : (test : Class → Bool) (o : Option Known) (k : Known) → only test o ≡ Some k → o ≡ Some k
  only_is test None k e = e
  only_is test (Some j) k e = by_class (test j.class) e
    where
      by_class : (b : Bool) → (if b then Some j else None) ≡ Some k → Some j ≡ Some k
      by_class true e = e
      by_class false e = absurd (cc)

  through_is : (b : Border) (o : Option Known) (k : Known) → through b o ≡ Some k → o ≡ Some k
  through_is (Body name) o k e = only_is is_global o k e
  through_is Plain o k e = e
  through_is (Async ns) o k e = e

  first_seen : (o rest : Option Known) (k : Known) → (o ≡ Some k → P k) → (rest ≡ Some k → P k) → or_outside o rest ≡ Some k → P k
  first_seen None rest k one two e = two e
  first_seen (Some j) rest k one two e = one e

  seen_in : (scopes : List Scope) (x : List ℕ) (k : Known) → AllScopes P scopes → seen scopes x ≡ Some k → P k
  seen_in [] x k h e = absurd (cc)
  seen_in (s ∷ outside) x k h e =
      first_seen (found s.names x) (through s.border (seen outside x)) k (found_in P s.names x k h.0) (λ i. seen_in outside x k h.1 (through_is s.border (seen outside x) k i)) e

  outermost_in : (scopes : List Scope) (x : List ℕ) (k : Known) → AllScopes P scopes → found (outermost scopes) x ≡ Some k → P k
  outermost_in [] x k h e = absurd (cc)
  outermost_in (s ∷ []) x k h e = found_in P s.names x k h.0 e
  outermost_in (s ∷ t ∷ outside) x k h e = outermost_in (t ∷ outside) x k h.1 e

  outer_in : (scopes : List Scope) (x : List ℕ) (k : Known) → AllScopes P scopes → seen_outer scopes x ≡ Some k → P k
  outer_in scopes x k h e = by_code (in_code scopes) e
    where
      by_code : (b : Bool) → (if b then only is_shared (found (outermost scopes) x) else None) ≡ Some k → P k
      by_code true e = outermost_in scopes x k h (only_is is_shared (found (outermost scopes) x) k e)
      by_code false e = absurd (cc)

  pub decl_in : (scopes : List Scope) (x : Ident) (k : Known) → AllScopes P scopes → decl_of scopes x ≡ Ok k → P k
  decl_in scopes x k h e = by_outer x.outer e
    where
      by_outer : (b : Bool) → (if b then ok_or (seen_outer scopes x.name) N4 else ok_or (seen scopes x.name) (if is_own scopes x.name then N5 else N1)) ≡ Ok k → P k
      by_outer true e = outer_in scopes x.name k h (ok_some (seen_outer scopes x.name) N4 k e)
      by_outer false e = seen_in scopes x.name k h (ok_some (seen scopes x.name) (if is_own scopes x.name then N5 else N1) k e)

-- ---- what a declaration stands for

-- the parameters that a list of declarations begins with
abbrev pub Matches : List KDecl → List Decl → Type 0
Matches [] ds = leading_parameters ds ≡ 0
Matches (p ∷ ps) [] = ⊥
Matches (p ∷ ps) (d ∷ ds) = (p.kind ≡ kind.Var d.ty) × (is_parameter d.class ≡ true) × Matches ps ds

abbrev pub HasType : Decl → ℕ → Type 0
HasType d n = IsTrue (not (same_ty d.ty ty.None))

module _ (s : Scopes) (numbers : List ℕ) (K : Kernel) where
  pub record Stands (c : Class) (n : ℕ) (P : Decl → ℕ → Type 0) : Type 0 where
    pub decl : Decl
    pub is : slice_get s.decls n ≡ Some decl
    pub class_is : decl.class ≡ c
    pub number : ℕ
    pub at : slice_get numbers n ≡ Some number
    pub so : P decl number

  abbrev pub PortIs : List Port → Decl → ℕ → Type 0
  PortIs ports d n = port_ty K n ports ≡ Some d.ty

  abbrev pub EventIs : Option ℕ → Decl → ℕ → Type 0
  EventIs code d n = event_ty code (event_at K n K.events) ≡ Some d.ty

  pub record CodeIs (place : ℕ) (d : Decl) (n : ℕ) : Type 0 where
    pub code : KCode
    pub there : code_at n K.codes ≡ Some code
    pub result : code.result ≡ d.ty
    pub params : Matches code.params (drop (place + 1) s.decls)

  abbrev pub MeansOf : Option ℕ → Class → ℕ → Type 0
  MeansOf code class.Var n = Stands class.Var n HasType
  MeansOf code class.Param n = Stands class.Param n HasType
  MeansOf code class.LoopVar n = Stands class.LoopVar n HasType
  MeansOf code class.Event n = Stands class.Event n (EventIs code)
  MeansOf code class.Input n = Stands class.Input n (PortIs K.inputs)
  MeansOf code class.Output n = Stands class.Output n (PortIs K.outputs)
  MeansOf code class.Code n = Stands class.Code n (CodeIs n)
  MeansOf code class.Alias n = ⊤
  MeansOf code class.Pool n = ⊤

  -- a name that is visible in the program's text, or in this code
  pub record Means (code : Option ℕ) (count : ℕ) (k : Known) : Type 0 where
    pub below : k.number < count
    pub so : MeansOf code k.class k.number

  pub means_more : (code : Option ℕ) (m n : ℕ) → m ≤ n → (k : Known) → Means code m k → Means code n k
  means_more code m n le k h = let b = h.below in record { below = omega (arith, le, b); so = h.so }

  -- what is visible in the program's text is so in code
  event_inside : (code : Option ℕ) (e : Option KEvent) (u : Ty) → event_ty None e ≡ Some u → event_ty code e ≡ Some u
  event_inside code None u h = absurd (cc)
  event_inside code (Some e) u h = by_code e.code h
    where
      by_code : (c : Option ℕ) → elim c [ None ↦ Some e.ty | Some c ↦ (if is_code c None then Some e.ty else None) ] ≡ Some u → elim c [ None ↦ Some e.ty | Some c ↦ (if is_code c code then Some e.ty else None) ] ≡ Some u
      by_code None h = h
      by_code (Some c) h = absurd (cc)

  means_of : (code : Option ℕ) (c : Class) (n : ℕ) → MeansOf None c n → MeansOf code c n
  means_of code class.Var n h = h
  means_of code class.Param n h = h
  means_of code class.LoopVar n h = h
  means_of code class.Event n h = record { decl = h.decl; is = h.is; class_is = h.class_is; number = h.number; at = h.at; so = event_inside code (event_at K h.number K.events) h.decl.ty h.so }
  means_of code class.Input n h = h
  means_of code class.Output n h = h
  means_of code class.Code n h = h
  means_of code class.Alias n h = h
  means_of code class.Pool n h = h

  pub means_inside : (code : Option ℕ) (n : ℕ) (k : Known) → Means None n k → Means code n k
  means_inside code n k h = record { below = h.below; so = means_of code k.class k.number h.so }
