-- What a slot holds after another was set or forgotten.
use Rattle.std.proofs.Common.{◌≡◌, refl, sym, ap, ◌∙◌, subst, ℕ, Bool, true, false, not, cond, if◌then◌else◌, ◌==◌, ◌⊎◌, inl, inr, List, [], ◌∷◌, Option, Some, None, eqb-true}
use Rattle.std.proofs.lemmas.Bool.{and_parts, false≢true}
use Rattle.std.specs.List.{filter}
use Rattle.ceu_tree.specs.declared.kernel.KDecl.{KDecl}
use Rattle.ceu_tree.specs.Residual.{Body, same_body}
use Rattle.ceu_tree.specs.World.{Cell, Held, World, is_at, look, put, forget, forget_declared}
use Rattle.laws_meaning_values.proofs.Stores.{same_is}

abbrev cell_of : Cell → Option Cell → Cell
cell_of c None = c
cell_of c (Some d) = d

some_same : (c d : Cell) → Some c ≡ Some d → c ≡ d
some_same c d h = ap (cell_of c) h

none_some : (c : Cell) → None ≡ Some c → ⊥
none_some c h = absurd (cc)

module _ (b : Body) (x : ℕ) where
  at_is : (h : Held) → is_at b x h ≡ true → (b ≡ h.body) × (x ≡ h.slot)
  at_is h e = let a = and_parts (x == h.slot) (same_body b h.body) e in (same_is b h.body a.1, eqb-true x h.slot a.0)

  at_self : (y : Body) (s : ℕ) (h : Held) → b ≡ y → x ≡ s → is_at y s h ≡ is_at b x h
  at_self y s h e f = sym (ap (λ z. is_at z x h) e ∙ ap (λ z. is_at y z h) f)

  pub put_either : (here : Body) (y : ℕ) (c d : Cell) (vs : List Held) → look b x (put here y c vs) ≡ Some d → ((b ≡ here) × (x ≡ y) × (c ≡ d)) ⊎ (look b x vs ≡ Some d)
  put_either here y c d [] e = go (is_at b x h0) refl e
    where
      h0 : Held
      h0 = record { body = here; slot = y; cell = c }

      go : (t : Bool) → is_at b x h0 ≡ t → (if t then Some c else None) ≡ Some d → ((b ≡ here) × (x ≡ y) × (c ≡ d)) ⊎ (None ≡ Some d)
      go true z k = let a = at_is h0 z in inl (a.0, a.1, some_same c d k)
      go false z k = inr k
  put_either here y c d (h ∷ hs) e = go (is_at here y h) (is_at b x h) refl refl (put_either here y c d hs) e
    where
      same : is_at here y h ≡ true → is_at b x h ≡ true → (b ≡ here) × (x ≡ y)
      same p q =
          let a = at_is h q in
          let p' = and_parts (y == h.slot) (same_body here h.body) p in
          (a.0 ∙ sym (same_is here h.body p'.1), a.1 ∙ sym (eqb-true y h.slot p'.0))

      go : (s t : Bool) → is_at here y h ≡ s → is_at b x h ≡ t → (look b x (put here y c hs) ≡ Some d → ((b ≡ here) × (x ≡ y) × (c ≡ d)) ⊎ (look b x hs ≡ Some d))
          → look b x (if s then record h { cell = c } ∷ hs else h ∷ put here y c hs) ≡ Some d → ((b ≡ here) × (x ≡ y) × (c ≡ d)) ⊎ ((if t then Some h.cell else look b x hs) ≡ Some d)
      go true true p q ih k = let a = same p q in inl (a.0, a.1, some_same c d (subst (λ u. (if u then Some c else look b x hs) ≡ Some d) q k))
      go true false p q ih k = inr (subst (λ u. (if u then Some c else look b x hs) ≡ Some d) q k)
      go false true p q ih k = inr (subst (λ u. (if u then Some h.cell else look b x (put here y c hs)) ≡ Some d) q k)
      go false false p q ih k = ih (subst (λ u. (if u then Some h.cell else look b x (put here y c hs)) ≡ Some d) q k)

  -- what still has a value after another slot was forgotten had it before, and is another slot
  pub forgotten : (here : Body) (y : ℕ) (d : Cell) (vs : List Held) → look b x (filter (λ h. not (is_at here y h)) vs) ≡ Some d → (look b x vs ≡ Some d) × (b ≡ here → x ≡ y → ⊥)
  forgotten here y d [] e = absurd (none_some d e)
  forgotten here y d (h ∷ hs) e = go (is_at here y h) (is_at b x h) refl refl (forgotten here y d hs) e
    where
      there : (t : Bool) → is_at b x h ≡ t → is_at here y h ≡ true → (b ≡ here → x ≡ y → ⊥) → look b x hs ≡ Some d → (if t then Some h.cell else look b x hs) ≡ Some d
      there false q p n k = k
      there true q p n k =
          let a = at_is h q in
          let p' = and_parts (y == h.slot) (same_body here h.body) p in
          absurd (n (a.0 ∙ sym (same_is here h.body p'.1)) (a.1 ∙ sym (eqb-true y h.slot p'.0)))

      go : (s t : Bool) → is_at here y h ≡ s → is_at b x h ≡ t → (look b x (filter (λ g. not (is_at here y g)) hs) ≡ Some d → (look b x hs ≡ Some d) × (b ≡ here → x ≡ y → ⊥))
          → look b x (cond (not s) (h ∷ filter (λ g. not (is_at here y g)) hs) (filter (λ g. not (is_at here y g)) hs)) ≡ Some d → ((if t then Some h.cell else look b x hs) ≡ Some d) × (b ≡ here → x ≡ y → ⊥)
      go true t p q ih k = let a = ih k in (there t q p a.1 a.0, a.1)
      go false true p q ih k = (subst (λ u. (if u then Some h.cell else look b x (filter (λ g. not (is_at here y g)) hs)) ≡ Some d) q k, λ u v. false≢true (sym p ∙ at_self here y h u v ∙ q))
      go false false p q ih k = ih (subst (λ u. (if u then Some h.cell else look b x (filter (λ g. not (is_at here y g)) hs)) ≡ Some d) q k)

-- so after the declarations of a block
abbrev pub Declares : ℕ → List KDecl → Type 0
Declares x [] = ⊥
Declares x (d ∷ ds) = (x ≡ d.slot) ⊎ Declares x ds

pub all_forgotten : (b : Body) (x : ℕ) (c : Cell) (here : Body) (ds : List KDecl) (w : World) → look b x (forget_declared here ds w).values ≡ Some c → (look b x w.values ≡ Some c) × (b ≡ here → Declares x ds → ⊥)
all_forgotten b x c here [] w e = (e, λ p q. q)
all_forgotten b x c here (d ∷ ds) w e =
    let a = all_forgotten b x c here ds (forget here d.slot w) e in
    let f = forgotten b x here d.slot c w.values a.0 in
    (f.0, λ p q. elim q [ inl s ↦ f.1 p s | inr r ↦ a.1 p r ])
