-- What is found by slot in a block, and what names stand for there.
use Rattle.std.proofs.Common.{◌≡◌, refl, ◌∙◌, subst, ℕ, ◌+◌, ◌≤◌, ◌<◌, arith, List, [], ◌∷◌, ◌++◌, Option, Some, None, Bool, true, false}
use Rattle.std.specs.Prelude.{⊤, ◌==◌, if◌then◌else◌, slice_get, bytes_eq}
use Rattle.std.proofs.lemmas.Bool.Decides.{Decides-eqb}
use Rattle.ceu_base.specs.declared.kinds.Ty.{Ty}
use Rattle.ceu_base.specs.declared.kinds.Ty.TheVariants as ty
use Rattle.ceu_tree.specs.declared.source.Class.{Class}
use Rattle.ceu_tree.specs.declared.source.Class.TheVariants as class
use Rattle.ceu_tree.specs.declared.kernel.KDecl.{KDecl}
use Rattle.ceu_tree.specs.Numbering.{decl_slots}
use Rattle.ceu_tree.specs.Proper.{SlotKind, IsVariable, IsLoopVariable, Seen, find, slot_kind, declared_seen}
use Rattle.ceu_scopes.specs.declared.known.Known.{Known}
use Rattle.ceu_scopes.specs.declared.known.Scopes.{Scopes}
use Rattle.ceu_scopes.specs.declared.scope.Border.{Border}
use Rattle.ceu_scopes.specs.declared.scope.Border.TheVariants.{Plain, Async, Body}
use Rattle.ceu_scopes.specs.declared.scope.Scope.{Scope}
use Rattle.ceu_scopes.specs.Shown.{found, entered, rest_of}
use Rattle.ceu_scopes.specs.Walk.{only, is_global, through, or_outside, seen, is_body, with_name}
use Rattle.ceu_expand.specs.Uses as uses
use Rattle.laws_kernel_shape.proofs.Runs.{Runs}
use Rattle.laws_kernel_names.proofs.Stepping.{Entries, found_in, get_more}

-- ---- slots of a block

differs : (m n : ℕ) → m < n → (m == n) ≡ false
differs m n h = by_test (m == n) (Decides-eqb m n).0
  where
    by_test : (b : Bool) → (b ≡ true → m ≡ n) → b ≡ false
    by_test false same = refl
    by_test true same = let e = same refl in absurd (omega (arith, e, h))

differs' : (m n : ℕ) → n < m → (m == n) ≡ false
differs' m n h = by_test (m == n) (Decides-eqb m n).0
  where
    by_test : (b : Bool) → (b ≡ true → m ≡ n) → b ≡ false
    by_test false same = refl
    by_test true same = let e = same refl in absurd (omega (arith, e, h))

pick : (b : Bool) (k : SlotKind) (rest r : Option SlotKind) → b ≡ false → rest ≡ r → (if b then Some k else rest) ≡ r
pick false k rest r e h = h
pick true k rest r e h = absurd (cc)

here : (b : Bool) (k : SlotKind) (rest : Option SlotKind) → b ≡ true → (if b then Some k else rest) ≡ Some k
here true k rest e = refl
here false k rest e = absurd (cc)

-- slots before those of the block are found where they were
pub find_older : (pools : List ℕ) (ds : List KDecl) (view : List Seen) (a b n : ℕ) → Runs a (decl_slots ds) b → n < a → find n (declared_seen pools ds view) ≡ find n view
find_older pools [] view a b n h lt = refl
find_older pools (d ∷ ds) view a b n h lt =
    let e : d.slot ≡ a = h.0 in
    pick (d.slot == n) (slot_kind pools d.kind) (find n (declared_seen pools ds view)) (find n view) (differs' d.slot n (omega (arith, e, lt))) (find_older pools ds view (a + 1) b n h.1 (omega (arith, lt)))

runs_from : (a : ℕ) (xs : List ℕ) (b : ℕ) → Runs a xs b → a ≤ b
runs_from a [] b h = omega (arith, h)
runs_from a (x ∷ xs) b h = let k = runs_from (a + 1) xs b h.1 in omega (arith, k)

-- the place of a declaration among them
pub slot_within : (pre : List KDecl) (x : KDecl) (post : List KDecl) (a b : ℕ) → Runs a (decl_slots (pre ++ x ∷ post)) b → (a ≤ x.slot) × (x.slot < b)
slot_within [] x post a b h = let e : x.slot ≡ a = h.0 in let k = runs_from (a + 1) (decl_slots post) b h.1 in (omega (arith, e), omega (arith, e, k))
slot_within (y ∷ pre) x post a b h = let k = slot_within pre x post (a + 1) b h.1 in let lo = k.0 in (omega (arith, lo), k.1)

pub find_own : (pools : List ℕ) (pre : List KDecl) (x : KDecl) (post : List KDecl) (view : List Seen) (a b : ℕ) → Runs a (decl_slots (pre ++ x ∷ post)) b → find x.slot (declared_seen pools (pre ++ x ∷ post) view) ≡ Some (slot_kind pools x.kind)
find_own pools [] x post view a b h = here (x.slot == x.slot) (slot_kind pools x.kind) (find x.slot (declared_seen pools post view)) ((Decides-eqb x.slot x.slot).1 refl)
find_own pools (y ∷ pre) x post view a b h =
    let e : y.slot ≡ a = h.0 in
    let lo = (slot_within pre x post (a + 1) b h.1).0 in
    pick (y.slot == x.slot) (slot_kind pools y.kind) (find x.slot (declared_seen pools (pre ++ x ∷ post) view)) (Some (slot_kind pools x.kind)) (differs y.slot x.slot (omega (arith, e, lo))) (find_own pools pre x post view (a + 1) b h.1)

-- ---- what a name stands for

pub record Slot (view : List Seen) (slot : ℕ) (numbers : List ℕ) (k : Known) (x : SlotKind) : Type 0 where
  pub number : ℕ
  pub is : slice_get numbers k.number ≡ Some number
  pub below : number < slot
  pub there : find number view ≡ Some x

module _ (s : Scopes) where
  abbrev pub decl_ty : ℕ → Ty
  decl_ty n = uses.type_of_decl (slice_get s.decls n)

  module _ (view : List Seen) (slot : ℕ) (numbers : List ℕ) (k : Known) where
    -- variables have their slots
    abbrev pub MeansOf : Class → Type 0
    MeansOf class.Var = Slot view slot numbers k (IsVariable (decl_ty k.number))
    MeansOf class.Param = Slot view slot numbers k (IsVariable (decl_ty k.number))
    MeansOf class.LoopVar = Slot view slot numbers k IsLoopVariable × (decl_ty k.number ≡ ty.S32)
    MeansOf _ = ⊤

    abbrev pub Means : Type 0
    Means = MeansOf k.class

  -- in a view that finds the same of the older slots, with more slots and more numbers
  module _ (view other : List Seen) (slot slot' : ℕ) (numbers more : List ℕ) (k : Known) (same : (n : ℕ) → n < slot → find n other ≡ find n view) (le : slot ≤ slot') where
    slot_more : (x : SlotKind) → Slot view slot numbers k x → Slot other slot' (numbers ++ more) k x
    slot_more x h =
        let b = h.below in
        record { number = h.number; is = get_more numbers more k.number h.number h.is; below = omega (arith, le, b); there = same h.number h.below ∙ h.there }

    means_of : (c : Class) → MeansOf view slot numbers k c → MeansOf other slot' (numbers ++ more) k c
    means_of class.Var h = slot_more (IsVariable (decl_ty k.number)) h
    means_of class.Param h = slot_more (IsVariable (decl_ty k.number)) h
    means_of class.LoopVar h = (slot_more IsLoopVariable h.0, h.1)
    means_of class.Event h = tt
    means_of class.Input h = tt
    means_of class.Output h = tt
    means_of class.Code h = tt
    means_of class.Alias h = tt
    means_of class.Pool h = tt

    pub means_more : Means view slot numbers k → Means other slot' (numbers ++ more) k
    means_more h = means_of k.class h

-- ---- the open blocks of a body

abbrev pub Shown : (Known → Type 0) → List Scope → Type 0
Shown P [] = ⊤
Shown P (s ∷ outside) = Entries P s.names × (is_body s.border ≡ false → Shown P outside)

module _ (P Q : Known → Type 0) (f : (k : Known) → P k → Q k) where
  entries_map : (es : List (List ℕ × Known)) → Entries P es → Entries Q es
  entries_map [] h = tt
  entries_map (e ∷ es) h = (f e.1 h.0, entries_map es h.1)

  pub shown_map : (scopes : List Scope) → Shown P scopes → Shown Q scopes
  shown_map [] h = tt
  shown_map (s ∷ outside) h = (entries_map s.names h.0, λ inside. shown_map outside (h.1 inside))

module _ (P : Known → Type 0) where
  only_global : (o : Option Known) (k : Known) → only is_global o ≡ Some k → is_global k.class ≡ false → ⊥
  only_global None k e other = absurd (cc)
  only_global (Some j) k e other = by_class (is_global j.class) refl e
    where
      by_class : (b : Bool) → is_global j.class ≡ b → (if b then Some j else None) ≡ Some k → ⊥
      by_class true same e = let one : j ≡ k = cc in let same' : is_global k.class ≡ true = subst (λ i. is_global i.class ≡ true) one same in absurd (cc)
      by_class false same e = absurd (cc)

  behind_in : (b : Border) (o : Option Known) (k : Known) → (o ≡ Some k → is_body b ≡ false → P k) → through b o ≡ Some k → is_global k.class ≡ false → P k
  behind_in (Body name) o k h e other = absurd (only_global o k e other)
  behind_in Plain o k h e other = h e refl
  behind_in (Async ns) o k h e other = h e refl

  first_seen : (o rest : Option Known) (k : Known) → (o ≡ Some k → P k) → (rest ≡ Some k → P k) → or_outside o rest ≡ Some k → P k
  first_seen None rest k one two e = two e
  first_seen (Some j) rest k one two e = one e

  pub shown_in : (scopes : List Scope) (x : List ℕ) (k : Known) → Shown P scopes → seen scopes x ≡ Some k → is_global k.class ≡ false → P k
  shown_in [] x k h e other = absurd (cc)
  shown_in (s ∷ outside) x k h e other =
      first_seen (found s.names x) (through s.border (seen outside x)) k (found_in P s.names x k h.0)
      (λ i. behind_in s.border (seen outside x) k (λ j inside. shown_in outside x k (h.1 inside) j other) i other) e

  entered_first : (b : Bool) (c : List ℕ × Known) (es rest : List (List ℕ × Known)) (k : Known) → P k → Entries P (c ∷ es) → Entries P rest → Entries P (if b then (c.0, k) ∷ es else c ∷ rest)
  entered_first true c es rest k p h r = (p, h.1)
  entered_first false c es rest k p h r = (h.0, r)

  entered_all : (es : List (List ℕ × Known)) (x : List ℕ) (k : Known) → P k → Entries P es → Entries P (entered es x k)
  entered_all [] x k p h = (p, tt)
  entered_all (c ∷ es) x k p h = entered_first (bytes_eq x c.0) c es (entered es x k) k p h (entered_all es x k p h.1)

  pub with_name_shown : (x : List ℕ) (k : Known) (scopes : List Scope) → P k → Shown P scopes → Shown P (with_name x k scopes)
  with_name_shown x k [] p h = tt
  with_name_shown x k (s ∷ outside) p h = (entered_all s.names x k p h.0, h.1)

pub with_name_rest : (x : List ℕ) (k : Known) (scopes : List Scope) → rest_of (with_name x k scopes) ≡ rest_of scopes
with_name_rest x k [] = refl
with_name_rest x k (s ∷ outside) = refl
