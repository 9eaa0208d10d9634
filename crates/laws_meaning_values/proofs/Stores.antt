-- What sets, forgets and finalizers do with the values of other slots.
use Rattle.std.proofs.Common.{◌≡◌, refl, sym, ap, ◌∙◌, subst, ℕ, ℤ, Bool, true, false, not, cond, if◌then◌else◌, ◌==◌, ◌&&◌, ◌||◌, ◌⊎◌, inl, inr, List, [], ◌∷◌, Option, Some, None, Ok, Err, is_some, eqb-true, eq-eqb}
use Rattle.std.proofs.lemmas.Bool.{and_parts, and_from, or_cases, false≢true}
use Rattle.std.specs.List.{filter}
use Rattle.ceu_base.specs.declared.kinds.Pos.{Pos}
use Rattle.ceu_base.specs.declared.kinds.Fault.{Fault}
use Rattle.ceu_base.specs.declared.kinds.Mark.TheVariants.{Output, Ran}
use Rattle.ceu_tree.specs.declared.kernel.KDecl.{KDecl}
use Rattle.ceu_tree.specs.declared.kernel.KNode.{KNode}
use Rattle.ceu_tree.specs.declared.kernel.Loc.{Loc}
use Rattle.ceu_tree.specs.declared.kernel.KStmt as kernel
use Rattle.ceu_tree.specs.declared.kernel.KStmt.{KStmt, Assign, Out, out-KStmt}
use Rattle.ceu_tree.specs.declared.kernel.KStmt.TheOpen.{KStmt-F}
use Rattle.ceu_tree.specs.Residual.{Body, Program, Awaited, Spawned, same_body}
use Rattle.ceu_tree.specs.Expressions.{Answer, value_of, value_if}
use Rattle.ceu_tree.specs.World.{Cell, Holds, Held, World, marked, is_at, look, put, set, assign, assign_if, place_of, forget, forget_declared, forget_body, is_among}
use Rattle.ceu_tree.specs.Leaf.{Layer}
use Rattle.ceu_tree.specs.Abort.{or_fault, simple, unless_fault, all_simple, finalizer_list, runs_one, finalized, forget_turns, forget_loop}
use Rattle.ceu_tree.specs.Numbering.{decl_slots}
use Rattle.laws_meaning_values.specs.Ground.{has, under, rooted}
use denote.Hole.Carrier

-- ---- bodies

pub same_is : (a b : Body) → same_body a b ≡ true → a ≡ b
same_is Program Program h = refl
same_is (Awaited a n) (Awaited b m) h =
    let x = and_parts (n == m) (same_body a b) h in
    ap (λ k. Awaited a k) (eqb-true n m x.0) ∙ ap (λ c. Awaited c m) (same_is a b x.1)
same_is (Spawned n) (Spawned m) h = ap Spawned (eqb-true n m h)
same_is Program (Awaited b m) h = absurd (false≢true h)
same_is Program (Spawned m) h = absurd (false≢true h)
same_is (Awaited a n) Program h = absurd (false≢true h)
same_is (Awaited a n) (Spawned m) h = absurd (false≢true h)
same_is (Spawned n) Program h = absurd (false≢true h)
same_is (Spawned n) (Awaited b m) h = absurd (false≢true h)

pub same_self : (a : Body) → same_body a a ≡ true
same_self Program = refl
same_self (Awaited a n) = and_from (n == n) (same_body a a) (eq-eqb n n refl) (same_self a)
same_self (Spawned n) = eq-eqb n n refl

pub or_right : (x y : Bool) → y ≡ true → (x || y) ≡ true
or_right true y h = refl
or_right false y h = h

pub or_left : (x y : Bool) → x ≡ true → (x || y) ≡ true
or_left x y h = ap (λ z. z || y) h

pub under_own : (a b : Body) (n : ℕ) → same_body (Awaited a n) b ≡ true → under a n b ≡ true
under_own a b n h =
    subst (λ c. under a n c ≡ true) (same_is (Awaited a n) b h) (or_left ((n == n) && same_body a a) (under a n a) (and_from (n == n) (same_body a a) (eq-eqb n n refl) (same_self a)))

pub under_further : (a b : Body) (n m : ℕ) → under (Awaited a n) m b ≡ true → under a n b ≡ true
under_further a Program n m h = absurd (false≢true h)
under_further a (Spawned k) n m h = absurd (false≢true h)
under_further a (Awaited c k) n m h = go (or_cases ((m == k) && same_body (Awaited a n) c) (under (Awaited a n) m c) h) (under_further a c n m)
  where
    go : (((m == k) && same_body (Awaited a n) c) ≡ true) ⊎ (under (Awaited a n) m c ≡ true) → (under (Awaited a n) m c ≡ true → under a n c ≡ true) → under a n (Awaited c k) ≡ true
    go (inl x) ih = or_right ((n == k) && same_body a c) (under a n c) (under_own a c n (and_parts (m == k) (same_body (Awaited a n) c) x).1)
    go (inr x) ih = or_right ((n == k) && same_body a c) (under a n c) (ih x)

pub rooted_own : (b : Body) (m : ℕ) → same_body (Spawned m) b ≡ true → rooted m b ≡ true
rooted_own b m h = subst (λ c. rooted m c ≡ true) (same_is (Spawned m) b h) (eq-eqb m m refl)

pub rooted_further : (b : Body) (m n : ℕ) → under (Spawned m) n b ≡ true → rooted m b ≡ true
rooted_further Program m n h = absurd (false≢true h)
rooted_further (Spawned k) m n h = absurd (false≢true h)
rooted_further (Awaited c k) m n h = go (or_cases ((n == k) && same_body (Spawned m) c) (under (Spawned m) n c) h) (rooted_further c m n)
  where
    go : (((n == k) && same_body (Spawned m) c) ≡ true) ⊎ (under (Spawned m) n c ≡ true) → (under (Spawned m) n c ≡ true → rooted m c ≡ true) → rooted m c ≡ true
    go (inl x) ih = rooted_own c m (and_parts (n == k) (same_body (Spawned m) c) x).1
    go (inr x) ih = ih x

-- ---- values

pub never_true : (b : Bool) → (b ≡ true → ⊥) → b ≡ false
never_true false h = refl
never_true true h = absurd (h refl)

module _ (b : Body) (x : ℕ) where
  at_is : (h : Held) → is_at b x h ≡ true → (x ≡ h.slot) × (b ≡ h.body)
  at_is h e = let a = and_parts (x == h.slot) (same_body b h.body) e in (eqb-true x h.slot a.0, same_is b h.body a.1)

  kept_filter : (q : Held → Bool) (vs : List Held) → ((h : Held) → is_at b x h ≡ true → q h ≡ true) → is_some (look b x vs) ≡ true → is_some (look b x (filter q vs)) ≡ true
  kept_filter q [] k e = e
  kept_filter q (h ∷ hs) k e = go (is_at b x h) refl (kept_filter q hs k) e
    where
      rest : (t : Bool) → q h ≡ t → is_at b x h ≡ false → is_some (look b x (filter q hs)) ≡ true → is_some (look b x (cond t (h ∷ filter q hs) (filter q hs))) ≡ true
      rest true z y i = subst (λ c. is_some (if c then Some h.cell else look b x (filter q hs)) ≡ true) (sym y) i
      rest false z y i = i

      go : (t : Bool) → is_at b x h ≡ t → (is_some (look b x hs) ≡ true → is_some (look b x (filter q hs)) ≡ true) → is_some (if t then Some h.cell else look b x hs) ≡ true
          → is_some (look b x (cond (q h) (h ∷ filter q hs) (filter q hs))) ≡ true
      go true y ih i =
          subst (λ c. is_some (look b x (cond c (h ∷ filter q hs) (filter q hs))) ≡ true) (sym (k h y)) (subst (λ c. is_some (if c then Some h.cell else look b x (filter q hs)) ≡ true) (sym y) refl)
      go false y ih i = rest (q h) refl y (ih i)

  pub forget_spares : (here : Body) (y : ℕ) (w : World) → (same_body here b ≡ true → y ≡ x → ⊥) → has b x w ≡ true → has b x (forget here y w) ≡ true
  forget_spares here y w k e = kept_filter (λ h. not (is_at here y h)) w.values (λ h z. ap not (never_true (is_at here y h) (differs h z))) e
    where
      differs : (h : Held) → is_at b x h ≡ true → is_at here y h ≡ true → ⊥
      differs h z u =
          let a = at_is h z in
          let c = and_parts (y == h.slot) (same_body here h.body) u in
          k (subst (λ d. same_body here d ≡ true) (sym a.1) c.1) (eqb-true y h.slot c.0 ∙ sym a.0)

  pub forget_body_spares : (here : Body) (w : World) → (same_body here b ≡ true → ⊥) → has b x w ≡ true → has b x (forget_body here w) ≡ true
  forget_body_spares here w k e = kept_filter (λ h. not (same_body here h.body)) w.values (λ h z. ap not (never_true (same_body here h.body) (λ u. k (subst (λ d. same_body here d ≡ true) (sym (at_is h z).1) u)))) e

  pub forget_declared_spares : (here : Body) (ds : List KDecl) (w : World) → ((y : ℕ) → is_among y (decl_slots ds) ≡ true → same_body here b ≡ true → y ≡ x → ⊥) → has b x w ≡ true → has b x (forget_declared here ds w) ≡ true
  forget_declared_spares here [] w k e = e
  forget_declared_spares here (d ∷ ds) w k e =
      forget_declared_spares here ds (forget here d.slot w) (λ y m. k y (or_right (y == d.slot) (is_among y (decl_slots ds)) m))
      (forget_spares here d.slot w (k d.slot (or_left (d.slot == d.slot) (is_among d.slot (decl_slots ds)) (eq-eqb d.slot d.slot refl))) e)

  put_keeps : (here : Body) (y : ℕ) (c : Cell) (vs : List Held) → is_some (look b x vs) ≡ true → is_some (look b x (put here y c vs)) ≡ true
  put_keeps here y c [] e = absurd (false≢true e)
  put_keeps here y c (h ∷ hs) e = go (is_at here y h) (is_at b x h) refl (put_keeps here y c hs) e
    where
      go : (s t : Bool) → is_at b x h ≡ t → (is_some (look b x hs) ≡ true → is_some (look b x (put here y c hs)) ≡ true) → is_some (if t then Some h.cell else look b x hs) ≡ true
          → is_some (look b x (if s then record h { cell = c } ∷ hs else h ∷ put here y c hs)) ≡ true
      go true true z ih i = subst (λ u. is_some (if u then Some c else look b x hs) ≡ true) (sym z) refl
      go true false z ih i = subst (λ u. is_some (if u then Some c else look b x hs) ≡ true) (sym z) i
      go false true z ih i = subst (λ u. is_some (if u then Some h.cell else look b x (put here y c hs)) ≡ true) (sym z) refl
      go false false z ih i = subst (λ u. is_some (if u then Some h.cell else look b x (put here y c hs)) ≡ true) (sym z) (ih i)

  pub set_keeps : (here : Body) (y : ℕ) (c : Cell) (w : World) → has b x w ≡ true → has b x (set here y c w) ≡ true
  set_keeps here y c w e = put_keeps here y c w.values e

  put_has : (c : Cell) (vs : List Held) → is_some (look b x (put b x c vs)) ≡ true
  put_has c [] = subst (λ u. is_some (if u then Some c else None) ≡ true) (sym (and_from (x == x) (same_body b b) (eq-eqb x x refl) (same_self b))) refl
  put_has c (h ∷ hs) = go (is_at b x h) refl (put_has c hs)
    where
      go : (t : Bool) → is_at b x h ≡ t → is_some (look b x (put b x c hs)) ≡ true → is_some (look b x (if t then record h { cell = c } ∷ hs else h ∷ put b x c hs)) ≡ true
      go true z ih = subst (λ u. is_some (if u then Some c else look b x hs) ≡ true) (sym z) refl
      go false z ih = subst (λ u. is_some (if u then Some h.cell else look b x (put b x c hs)) ≡ true) (sym z) ih

  pub set_has : (c : Cell) (w : World) → has b x (set b x c w) ≡ true
  set_has c w = put_has c w.values

  pub assign_keeps : (here : Body) (l : Loc) (v : ℤ) (w : World) → has b x w ≡ true → has b x (assign here l v w) ≡ true
  assign_keeps here l v w e = set_keeps (place_of l here) l.slot (Holds v) w e

  pub assign_if_keeps : (here : Body) (t : Option Loc) (v : ℤ) (w : World) → has b x w ≡ true → has b x (assign_if here t v w) ≡ true
  assign_if_keeps here None v w e = e
  assign_if_keeps here (Some l) v w e = assign_keeps here l v w e

  -- ---- finalizers

  simple_keeps : (s : KStmt) (here : Body) (w : World) → has b x w ≡ true → has b x (simple s here w) ≡ true
  simple_keeps (Assign l e) here w h = go (value_of e here w)
    where
      go : (a : Answer) → has b x (or_fault a w (λ v. assign here l v w)) ≡ true
      go (Ok v) = assign_keeps here l v w h
      go (Err z) = h
  simple_keeps (Out k e) here w h = go (value_if e here w)
    where
      go : (a : Answer) → has b x (or_fault a w (λ v. marked (Output k v) w)) ≡ true
      go (Ok v) = h
      go (Err z) = h
  simple_keeps _ here w h = h

  unless_keeps : (f : World → World) (w : World) → has b x (f w) ≡ true → has b x w ≡ true → has b x (unless_fault f w) ≡ true
  unless_keeps f w h k = go w.fault
    where
      go : (o : Option (Fault × Pos)) → has b x (elim o [ Some e ↦ w | None ↦ f w ]) ≡ true
      go None = h
      go (Some e) = k

  all_simple_keeps : (ss : List KNode) (here : Body) (w : World) → has b x w ≡ true → has b x (all_simple ss here w) ≡ true
  all_simple_keeps [] here w h = h
  all_simple_keeps (s ∷ ss) here w h = all_simple_keeps ss here (unless_fault (simple s.stmt here) w) (unless_keeps (simple s.stmt here) w (simple_keeps s.stmt here w h) h)

  pub finalized_keeps : (ss : List KNode) (here : Body) (w : World) → has b x w ≡ true → has b x (finalized ss here w) ≡ true
  finalized_keeps [] here w h = h
  finalized_keeps (s ∷ ss) here w h =
      finalized_keeps ss here (unless_fault (runs_one s here) w) (unless_keeps (runs_one s here) w (all_simple_keeps (finalizer_list s.stmt) here (marked (Ran s.pos) w) h) h)

-- ---- a loop's own variable

abbrev pub forget_layer : Body → Layer → World → World
forget_layer body (KStmt-F.Loop k b) w = forget_turns body k w
forget_layer body layer w = w

pub forget_loop_is : (body : Body) (st : KStmt) (w : World) → forget_loop body st w ≡ forget_layer body (out-KStmt st) w
unfolding out-KStmt Carrier.out
forget_loop_is body (kernel.Loop k b) w = refl
forget_loop_is body st w = refl
