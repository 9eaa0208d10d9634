-- What a slot of an open body holds stays when other slots are set and forgotten.
use Rattle.std.proofs.Common.{◌≡◌, refl, sym, ap, ◌∙◌, subst, ℕ, ℤ, Bool, true, false, not, cond, if◌then◌else◌, ◌==◌, ◌&&◌, List, [], ◌∷◌, Option, Some, None, Ok, Err, arith, eqb-true, eq-eqb}
use Rattle.std.proofs.lemmas.Bool.{and_parts, and_from, false≢true}
use Rattle.std.specs.List.{filter}
use Rattle.ceu_base.specs.declared.kinds.Pos.{Pos}
use Rattle.ceu_base.specs.declared.kinds.Fault.{Fault}
use Rattle.ceu_base.specs.declared.kinds.Mark.TheVariants.{Output, Ran}
use Rattle.ceu_tree.specs.declared.kernel.KDecl.{KDecl}
use Rattle.ceu_tree.specs.declared.kernel.KLoop.{KLoop}
use Rattle.ceu_tree.specs.declared.kernel.KLoop.TheVariants as turns
use Rattle.ceu_tree.specs.declared.kernel.KNode.{KNode}
use Rattle.ceu_tree.specs.declared.kernel.Loc.{Loc}
use Rattle.ceu_tree.specs.declared.kernel.KStmt.{KStmt, Assign, Out, out-KStmt}
use Rattle.ceu_tree.specs.declared.kernel.KStmt.TheOpen.{KStmt-F}
use Rattle.ceu_tree.specs.Residual.{Body, same_body}
use Rattle.ceu_tree.specs.Expressions.{Answer, value_of, value_if}
use Rattle.ceu_tree.specs.World.{Cell, Holds, Held, World, marked, is_at, look, put, set, assign, assign_if, set_alias, set_parameters, place_of, forget, forget_declared, forget_body}
use Rattle.ceu_tree.specs.Leaf.{Layer}
use Rattle.ceu_tree.specs.Abort.{or_fault, simple, unless_fault, all_simple, finalizer_list, runs_one, finalized, forget_turns, forget_loop}
use Rattle.ceu_tree.specs.Numbering.{decl_slots}
use Rattle.laws_meaning_values.proofs.Stores.{same_is, same_self, never_true, forget_layer, forget_loop_is}
use Rattle.laws_meaning_instances.proofs.Living.{once, often, once_true}
use Rattle.laws_meaning_counters.specs.Counters.{counts_in}

module _ (b : Body) (x : ℕ) where
  abbrev pub cell_in : World → Option Cell
  cell_in w = look b x w.values

  at_is : (h : Held) → is_at b x h ≡ true → (x ≡ h.slot) × (b ≡ h.body)
  at_is h e = let a = and_parts (x == h.slot) (same_body b h.body) e in (eqb-true x h.slot a.0, same_is b h.body a.1)

  both_at : (here : Body) (y : ℕ) (h : Held) → (same_body here b ≡ true → y ≡ x → ⊥) → is_at here y h ≡ true → is_at b x h ≡ true → ⊥
  both_at here y h k e q =
      let a = at_is h q in
      let c = and_parts (y == h.slot) (same_body here h.body) e in
      k (subst (λ d. same_body here d ≡ true) (sym a.1) c.1) (eqb-true y h.slot c.0 ∙ sym a.0)

  -- ---- sets

  put_apart : (here : Body) (y : ℕ) (c : Cell) (vs : List Held) → (same_body here b ≡ true → y ≡ x → ⊥) → look b x (put here y c vs) ≡ look b x vs
  put_apart here y c [] k = ap (λ u. if u then Some c else None) (never_true (is_at b x new) (both_at here y new k own))
    where
      new : Held
      new = record { body = here; slot = y; cell = c }

      own : is_at here y new ≡ true
      own = and_from (y == y) (same_body here here) (eq-eqb y y refl) (same_self here)
  put_apart here y c (h ∷ hs) k = go (is_at here y h) (is_at b x h) refl refl (put_apart here y c hs k)
    where
      go : (s t : Bool) → is_at here y h ≡ s → is_at b x h ≡ t → look b x (put here y c hs) ≡ look b x hs → look b x (if s then record h { cell = c } ∷ hs else h ∷ put here y c hs) ≡ (if t then Some h.cell else look b x hs)
      go true true e q ih = absurd (both_at here y h k e q)
      go true false e q ih = ap (λ u. if u then Some c else look b x hs) q
      go false true e q ih = ap (λ u. if u then Some h.cell else look b x (put here y c hs)) q
      go false false e q ih = ap (λ u. if u then Some h.cell else look b x (put here y c hs)) q ∙ ih

  put_own : (c : Cell) (vs : List Held) → look b x (put b x c vs) ≡ Some c
  put_own c [] = ap (λ u. if u then Some c else None) (and_from (x == x) (same_body b b) (eq-eqb x x refl) (same_self b))
  put_own c (h ∷ hs) = go (is_at b x h) refl (put_own c hs)
    where
      go : (t : Bool) → is_at b x h ≡ t → look b x (put b x c hs) ≡ Some c → look b x (if t then record h { cell = c } ∷ hs else h ∷ put b x c hs) ≡ Some c
      go true e ih = ap (λ u. if u then Some c else look b x hs) e
      go false e ih = ap (λ u. if u then Some h.cell else look b x (put b x c hs)) e ∙ ih

  pub set_apart : (here : Body) (y : ℕ) (c : Cell) (w : World) → (same_body here b ≡ true → y ≡ x → ⊥) → cell_in (set here y c w) ≡ cell_in w
  set_apart here y c w k = put_apart here y c w.values k

  pub set_own : (c : Cell) (w : World) → cell_in (set b x c w) ≡ Some c
  set_own c w = put_own c w.values

  -- ---- what is forgotten

  filter_apart : (q : Held → Bool) (vs : List Held) → ((h : Held) → is_at b x h ≡ true → q h ≡ true) → look b x (filter q vs) ≡ look b x vs
  filter_apart q [] k = refl
  filter_apart q (h ∷ hs) k = go (is_at b x h) (q h) refl refl (filter_apart q hs k)
    where
      go : (t s : Bool) → is_at b x h ≡ t → q h ≡ s → look b x (filter q hs) ≡ look b x hs → look b x (cond s (h ∷ filter q hs) (filter q hs)) ≡ (if t then Some h.cell else look b x hs)
      go true true e z ih = ap (λ u. if u then Some h.cell else look b x (filter q hs)) e
      go true false e z ih = absurd (false≢true (sym z ∙ k h e))
      go false true e z ih = ap (λ u. if u then Some h.cell else look b x (filter q hs)) e ∙ ih
      go false false e z ih = ih

  pub forget_apart : (here : Body) (y : ℕ) (w : World) → (same_body here b ≡ true → y ≡ x → ⊥) → cell_in (forget here y w) ≡ cell_in w
  forget_apart here y w k = filter_apart (λ h. not (is_at here y h)) w.values (λ h e. ap not (never_true (is_at here y h) (λ q. both_at here y h k q e)))

  pub forget_body_apart : (here : Body) (w : World) → (same_body here b ≡ true → ⊥) → cell_in (forget_body here w) ≡ cell_in w
  forget_body_apart here w k = filter_apart (λ h. not (same_body here h.body)) w.values (λ h e. ap not (never_true (same_body here h.body) (λ q. k (subst (λ d. same_body here d ≡ true) (sym (at_is h e).1) q))))

  -- ---- the slots of declarations

  once_apart : (y : ℕ) → once x y ≡ 0 → y ≡ x → ⊥
  once_apart y h e = let a = once_true x y (eq-eqb x y (sym e)) in omega (arith, a, h)

  pub forget_declared_apart : (here : Body) (ds : List KDecl) (w : World) → often x (decl_slots ds) ≡ 0 → cell_in (forget_declared here ds w) ≡ cell_in w
  forget_declared_apart here [] w h = refl
  forget_declared_apart here (d ∷ ds) w h = forget_declared_apart here ds (forget here d.slot w) (omega (arith, h)) ∙ forget_apart here d.slot w (λ u. once_apart d.slot (omega (arith, h)))

  pub set_parameters_apart : (here : Body) (ds : List KDecl) (vs : List ℤ) (w : World) → often x (decl_slots ds) ≡ 0 → cell_in (set_parameters here ds vs w) ≡ cell_in w
  set_parameters_apart here [] vs w h = refl
  set_parameters_apart here (d ∷ ds) [] w h = refl
  set_parameters_apart here (d ∷ ds) (v ∷ vs) w h = set_parameters_apart here ds vs (set here d.slot (Holds v) w) (omega (arith, h)) ∙ set_apart here d.slot (Holds v) w (λ u. once_apart d.slot (omega (arith, h)))

  -- ---- targets

  abbrev pub apart_from : Option ℕ → Type 0
  apart_from None = Unit {0}
  apart_from (Some y) = y ≡ x → ⊥

  abbrev pub target_apart : Option Loc → Type 0
  target_apart None = Unit {0}
  target_apart (Some l) = l.slot ≡ x → ⊥

  pub assign_apart : (here : Body) (l : Loc) (v : ℤ) (w : World) → (l.slot ≡ x → ⊥) → cell_in (assign here l v w) ≡ cell_in w
  assign_apart here l v w k = set_apart (place_of l here) l.slot (Holds v) w (λ u. k)

  pub assign_if_apart : (here : Body) (t : Option Loc) (v : ℤ) (w : World) → target_apart t → cell_in (assign_if here t v w) ≡ cell_in w
  assign_if_apart here None v w k = refl
  assign_if_apart here (Some l) v w k = assign_apart here l v w k

  pub set_alias_apart : (here : Body) (alias : Option ℕ) (c : Cell) (w : World) → apart_from alias → cell_in (set_alias here alias c w) ≡ cell_in w
  set_alias_apart here None c w k = refl
  set_alias_apart here (Some y) c w k = set_apart here y c w (λ u. k)

  -- ---- finalizers

  abbrev pub simple_apart : KStmt → Type 0
  simple_apart (Assign l e) = l.slot ≡ x → ⊥
  simple_apart st = Unit {0}

  abbrev pub all_apart : List KNode → Type 0
  all_apart [] = Unit {0}
  all_apart (s ∷ ss) = simple_apart s.stmt × all_apart ss

  abbrev pub finalizers_apart : List KNode → Type 0
  finalizers_apart [] = Unit {0}
  finalizers_apart (s ∷ ss) = all_apart (finalizer_list s.stmt) × finalizers_apart ss

  simple_kept : (st : KStmt) (here : Body) (w : World) → simple_apart st → cell_in (simple st here w) ≡ cell_in w
  simple_kept (Assign l e) here w k = go (value_of e here w)
    where
      go : (a : Answer) → cell_in (or_fault a w (λ v. assign here l v w)) ≡ cell_in w
      go (Ok v) = assign_apart here l v w k
      go (Err z) = refl
  simple_kept (Out p e) here w k = go (value_if e here w)
    where
      go : (a : Answer) → cell_in (or_fault a w (λ v. marked (Output p v) w)) ≡ cell_in w
      go (Ok v) = refl
      go (Err z) = refl
  simple_kept _ here w k = refl

  unless_kept : (f : World → World) (w : World) → cell_in (f w) ≡ cell_in w → cell_in (unless_fault f w) ≡ cell_in w
  unless_kept f w h = go w.fault
    where
      go : (o : Option (Fault × Pos)) → cell_in (elim o [ Some e ↦ w | None ↦ f w ]) ≡ cell_in w
      go None = h
      go (Some e) = refl

  all_kept : (ss : List KNode) (here : Body) (w : World) → all_apart ss → cell_in (all_simple ss here w) ≡ cell_in w
  all_kept [] here w k = refl
  all_kept (s ∷ ss) here w k = all_kept ss here (unless_fault (simple s.stmt here) w) k.1 ∙ unless_kept (simple s.stmt here) w (simple_kept s.stmt here w k.0)

  pub finalized_kept : (ss : List KNode) (here : Body) (w : World) → finalizers_apart ss → cell_in (finalized ss here w) ≡ cell_in w
  finalized_kept [] here w k = refl
  finalized_kept (s ∷ ss) here w k =
      finalized_kept ss here (unless_fault (runs_one s here) w) k.1 ∙ unless_kept (runs_one s here) w (all_kept (finalizer_list s.stmt) here (marked (Ran s.pos) w) k.0)

  -- ---- a loop's own variable

  -- whether a loop of the body `here` counts in the slot
  abbrev pub is_own : Body → Layer → Bool
  is_own here (KStmt-F.Loop k c) = same_body here b && counts_in x k
  is_own here layer = false

  turns_apart : (here : Body) (k : KLoop) (w : World) → (same_body here b && counts_in x k) ≡ false → cell_in (forget_turns here k w) ≡ cell_in w
  turns_apart here turns.Free w h = refl
  turns_apart here (turns.Times slot n) w h = refl
  turns_apart here (turns.Range i next end open_a y z open_b) w h = forget_apart here i w (λ u v. false≢true (sym h ∙ and_from (same_body here b) (i == x) u (eq-eqb i x v)))

  layer_apart : (here : Body) (layer : Layer) (w : World) → is_own here layer ≡ false → cell_in (forget_layer here layer w) ≡ cell_in w
  layer_apart here (KStmt-F.Loop k c) w h = turns_apart here k w h
  layer_apart here layer w h = refl

  pub forget_loop_apart : (here : Body) (s : KNode) (w : World) → is_own here (out-KStmt s.stmt) ≡ false → cell_in (forget_loop here s.stmt w) ≡ cell_in w
  forget_loop_apart here s w h = ap cell_in (forget_loop_is here s.stmt w) ∙ layer_apart here (out-KStmt s.stmt) w h
