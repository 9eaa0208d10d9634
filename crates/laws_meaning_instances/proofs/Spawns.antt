-- A pool that one block of a focus has: a new instance takes a place in that block alone, and stands there as the others do.
use Rattle.std.proofs.Common.{◌≡◌, refl, sym, ap, ◌∙◌, subst, ◌<◌, ◌≤◌, ℕ, zero, suc, ◌+◌, Bool, true, false, not, if◌then◌else◌, ◌==◌, ◌&&◌, ◌||◌, ◌⊎◌, inl, inr, nat_lt, List, ◌∷◌, Option, Some, None, arith, eqb-true, eq-eqb}
use Rattle.std.proofs.lemmas.Bool.{and_parts, and_from, or_cases, or_parts, or_right, not_from_false, ltb-true, ltb-false, lt-ltb, false≢true, cases_order}
use Rattle.ceu_tree.specs.declared.kernel.KDecl.{KDecl}
use Rattle.ceu_tree.specs.declared.kernel.KBlock.{out-KBlock}
use Rattle.ceu_tree.specs.Residual.{Act, Seat, Residual, Instances, no_instance, instance}
use Rattle.ceu_tree.specs.Focus.{Frame, OfBlock, OfInstance, OfOpen, OfLoop, OfCall, OfPar, Focus, Here, In}
use Rattle.ceu_tree.specs.World.{is_among}
use Rattle.ceu_tree.specs.Step.{size_in, taken_in, lowest_free, place_in, frame_place, free_place, with_instance, seated_if, seat_frame, seated}
use Rattle.laws_meaning_instances.specs.Instances.{has_place, is_before, goes_before, pools_stand, seats_stand}
use Rattle.laws_meaning_instances.proofs.Living.{once, once_true, lives, live_instances}
use Rattle.laws_meaning_instances.proofs.Trees.{live_frame, live_focus, frame_stands, focus_stands}

-- a block that has the pool, of that code
pub record DeclsHave (pool code : ℕ) (ds : List KDecl) : Type 0 where
  pub size : ℕ
  pub sized : size_in pool ds ≡ Some size
  pub place : (seat : Seat) → seat.pool ≡ pool → seat.code ≡ code → seat.place < size → has_place ds seat ≡ true

abbrev pub frame_without : ℕ → Frame → Type 0
frame_without pool (OfBlock b fin all rest) = size_in pool (out-KBlock b).decls ≡ None
frame_without pool fr = Unit {0}

abbrev pub frame_has : (pool code : ℕ) → Frame → Type 0
frame_has pool code (OfBlock b fin all rest) = DeclsHave pool code (out-KBlock b).decls
frame_has pool code fr = ⊥

unfoldable pub none_has : ℕ → Focus Act → Type 0
none_has pool (Here a) = Unit {0}
none_has pool (In fr f) = frame_without pool fr × none_has pool f

unfoldable pub one_has : (pool code : ℕ) → Focus Act → Type 0
one_has pool code (Here a) = ⊥
one_has pool code (In fr f) = (frame_has pool code fr × none_has pool f) ⊎ (frame_without pool fr × one_has pool code f)

pub frame_apart : (pool code : ℕ) (fr : Frame) → frame_without pool fr → frame_has pool code fr → ⊥
frame_apart pool code (OfBlock b fin all rest) h k = let e = k.sized in absurd (cc)
frame_apart pool code fr h k = k

pub none_or_one : (pool code : ℕ) (f : Focus Act) → none_has pool f → one_has pool code f → ⊥
unfolding none_has one_has
none_or_one pool code (Here a) h k = k
none_or_one pool code (In fr f) h (inl k) = frame_apart pool code fr h.0 k.0
none_or_one pool code (In fr f) h (inr k) = none_or_one pool code f h.1 k.1

-- ---- where no block has it

frame_seated : (seat : Seat) (r : Residual) (fr : Frame) → frame_without seat.pool fr → seat_frame seat r fr ≡ fr
frame_seated seat r (OfBlock b fin all rest) h = ap (λ o. OfBlock b fin (seated_if o seat r all) rest) h
frame_seated seat r (OfInstance b fin front other back q rest) h = refl
frame_seated seat r (OfOpen s) h = refl
frame_seated seat r (OfLoop s c) h = refl
frame_seated seat r (OfCall s) h = refl
frame_seated seat r (OfPar s front back) h = refl

none_seated : (seat : Seat) (r : Residual) (f : Focus Act) → none_has seat.pool f → seated seat r f ≡ f
unfolding none_has
none_seated seat r (Here a) h = refl
none_seated seat r (In fr f) h = ap (λ x. In x (seated seat r f)) (frame_seated seat r fr h.0) ∙ ap (In fr) (none_seated seat r f h.1)

frame_free : (pool : ℕ) (fr : Frame) → frame_without pool fr → frame_place pool fr ≡ None
frame_free pool (OfBlock b fin all rest) h = ap (λ o. place_in pool o all) h
frame_free pool (OfInstance b fin front other back q rest) h = refl
frame_free pool (OfOpen s) h = refl
frame_free pool (OfLoop s c) h = refl
frame_free pool (OfCall s) h = refl
frame_free pool (OfPar s front back) h = refl

-- ---- how often a number is one of the instances

with_lives : (n : ℕ) (seat : Seat) (r : Residual) (all : Instances) → live_instances n (with_instance seat r all) ≡ live_instances n all + (once n seat.number + lives n r)
unfolding lives
with_lives n seat r no_instance = omega arith
with_lives n seat r (instance other q more) = go (nat_lt seat.pool other.pool) (with_lives n seat r more)
  where
    go : (b : Bool) → live_instances n (with_instance seat r more) ≡ live_instances n more + (once n seat.number + lives n r)
        → live_instances n (if b then instance seat r (instance other q more) else instance other q (with_instance seat r more)) ≡ once n other.number + (lives n q + live_instances n more) + (once n seat.number + lives n r)
    go true h = omega arith
    go false h = omega (arith, h)

frame_lives : (n : ℕ) (seat : Seat) (r : Residual) (fr : Frame) → frame_has seat.pool seat.code fr → live_frame n (seat_frame seat r fr) ≡ live_frame n fr + (once n seat.number + lives n r)
frame_lives n seat r (OfBlock b fin all rest) h = ap (λ o. live_instances n (seated_if o seat r all)) h.sized ∙ with_lives n seat r all
frame_lives n seat r fr h = elim h [ ]

pub one_lives : (n : ℕ) (seat : Seat) (r : Residual) (f : Focus Act) → one_has seat.pool seat.code f → live_focus n (seated seat r f) ≡ live_focus n f + (once n seat.number + lives n r)
unfolding one_has live_focus
one_lives n seat r (Here a) h = elim h [ ]
one_lives n seat r (In fr f) (inl h) = let a = frame_lives n seat r fr h.0 in let b = ap (live_focus n) (none_seated seat r f h.1) in omega (arith, a, b)
one_lives n seat r (In fr f) (inr h) = let a = ap (live_frame n) (frame_seated seat r fr h.0) in let b = one_lives n seat r f h.1 in omega (arith, a, b)

-- ---- the lowest free place

pub record IsFree (place n k : ℕ) (taken : List ℕ) : Type 0 where
  pub low : k ≤ place
  pub high : place < k + n
  pub free : is_among place taken ≡ false

free_is : (n k : ℕ) (taken : List ℕ) (place : ℕ) → lowest_free n k taken ≡ Some place → IsFree place n k taken
free_is zero k taken place h = absurd (cc)
free_is (suc n) k taken place h = go (is_among k taken) refl h (free_is n (k + 1) taken place)
  where
    go : (b : Bool) → is_among k taken ≡ b → (if b then lowest_free n (k + 1) taken else Some k) ≡ Some place → (lowest_free n (k + 1) taken ≡ Some place → IsFree place n (k + 1) taken) → IsFree place (suc n) k taken
    go true e q ih = let a = ih q in record { low = omega (arith, a.low); high = omega (arith, a.high); free = a.free }
    go false e q ih = let same : k ≡ place = ap (λ o. elim o [ None ↦ k | Some x ↦ x ]) q in record { low = omega (arith, same); high = omega (arith, same); free = subst (λ j. is_among j taken ≡ false) same e }

-- ---- the order in a block

pool_before : (seat other : Seat) (more : Instances) → nat_lt seat.pool other.pool ≡ true → goes_before other more ≡ true → goes_before seat more ≡ true
pool_before seat other no_instance l h = refl
pool_before seat other (instance next q more) l h =
    let a = and_parts (is_before other next) (goes_before other more) h in
    and_from (is_before seat next) (goes_before seat more) (go (or_cases _ _ a.0)) (pool_before seat other more l a.1)
  where
    less : other.pool ≤ next.pool → is_before seat next ≡ true
    less k = ap (λ b. b || ((seat.pool == next.pool) && nat_lt seat.number next.number && not (seat.place == next.place))) (lt-ltb seat.pool next.pool (let z = ltb-true seat.pool other.pool l in omega (arith, z, k)))

    go : (nat_lt other.pool next.pool ≡ true) ⊎ (((other.pool == next.pool) && nat_lt other.number next.number && not (other.place == next.place)) ≡ true) → is_before seat next ≡ true
    go (inl x) = less (let z = ltb-true other.pool next.pool x in omega (arith, z))
    go (inr x) = less (let z = eqb-true other.pool next.pool (and_parts _ _ (and_parts _ (not (other.place == next.place)) x).0).0 in omega (arith, z))

goes_with : (other seat : Seat) (r : Residual) (more : Instances) → is_before other seat ≡ true → goes_before other more ≡ true → goes_before other (with_instance seat r more) ≡ true
goes_with other seat r no_instance e h = and_from (is_before other seat) true e refl
goes_with other seat r (instance next q more) e h = go (nat_lt seat.pool next.pool) (goes_with other seat r more e a.1)
  where
    a : (is_before other next ≡ true) × (goes_before other more ≡ true)
    a = and_parts (is_before other next) (goes_before other more) h

    go : (b : Bool) → goes_before other (with_instance seat r more) ≡ true → goes_before other (if b then instance seat r (instance next q more) else instance next q (with_instance seat r more)) ≡ true
    go true ih = and_from (is_before other seat) (goes_before other (instance next q more)) e h
    go false ih = and_from (is_before other next) (goes_before other (with_instance seat r more)) a.0 ih

-- one of the pool or of a pool before, with a lower number and another place
is_first : (other seat : Seat) → nat_lt seat.pool other.pool ≡ false → other.number < seat.number → ((other.pool == seat.pool) ≡ true → (seat.place == other.place) ≡ false) → is_before other seat ≡ true
is_first other seat l n p = go (cases_order other.pool seat.pool)
  where
    go : (other.pool ≡ seat.pool) ⊎ ((other.pool < seat.pool) ⊎ (seat.pool < other.pool)) → is_before other seat ≡ true
    go (inl e) =
        let q = eq-eqb other.pool seat.pool e in
        or_right (nat_lt other.pool seat.pool) _ (and_from ((other.pool == seat.pool) && nat_lt other.number seat.number) _ (and_from _ _ q (lt-ltb _ _ n)) (not_from_false _ (apart (other.place == seat.place) refl (p q))))
      where
        apart : (b : Bool) → (other.place == seat.place) ≡ b → (seat.place == other.place) ≡ false → (other.place == seat.place) ≡ false
        apart false x y = x
        apart true x y = absurd (false≢true (sym y ∙ eq-eqb seat.place other.place (sym (eqb-true other.place seat.place x))))
    go (inr (inl k)) = ap (λ b. b || ((other.pool == seat.pool) && nat_lt other.number seat.number && not (other.place == seat.place))) (lt-ltb _ _ k)
    go (inr (inr k)) = absurd (let z = ltb-false seat.pool other.pool l in omega (arith, z, k))

taken_more : (place : ℕ) (other : Seat) (pool : ℕ) (taken : List ℕ) (b : Bool) → is_among place (if b then other.place ∷ taken else taken) ≡ false → is_among place taken ≡ false
taken_more place other pool taken true h = (or_parts (place == other.place) (is_among place taken) h).1
taken_more place other pool taken false h = h

with_stands : (ds : List KDecl) (seat : Seat) (r : Residual) (all : Instances) → has_place ds seat ≡ true → pools_stand r → ((n : ℕ) → seat.number ≤ n → live_instances n all ≡ 0) → is_among seat.place (taken_in seat.pool all) ≡ false
    → seats_stand ds all → seats_stand ds (with_instance seat r all)
unfolding seats_stand lives
with_stands ds seat r no_instance p k low free h = (p, refl, k, tt)
with_stands ds seat r (instance other q more) p k low free h =
    go (nat_lt seat.pool other.pool) refl (with_stands ds seat r more p k (λ n l. (let z = low n l in omega (arith, z))) (taken_more seat.place other seat.pool (taken_in seat.pool more) (other.pool == seat.pool) free) h.3)
  where
    lower : (seat.number ≤ other.number) ⊎ (other.number < seat.number) → other.number < seat.number
    lower (inl l) = let z = low other.number l in let o = once_true other.number other.number (eq-eqb other.number other.number refl) in absurd (omega (arith, z, o))
    lower (inr l) = l

    split : (other.number ≡ seat.number) ⊎ ((other.number < seat.number) ⊎ (seat.number < other.number)) → (seat.number ≤ other.number) ⊎ (other.number < seat.number)
    split (inl e) = inl (omega (arith, e))
    split (inr (inl l)) = inr l
    split (inr (inr l)) = inl (omega (arith, l))

    place : (other.pool == seat.pool) ≡ true → (seat.place == other.place) ≡ false
    place e = (or_parts (seat.place == other.place) (is_among seat.place (taken_in seat.pool more)) (subst (λ b. is_among seat.place (if b then other.place ∷ taken_in seat.pool more else taken_in seat.pool more) ≡ false) e free)).0

    go : (b : Bool) → nat_lt seat.pool other.pool ≡ b → seats_stand ds (with_instance seat r more) → seats_stand ds (if b then instance seat r (instance other q more) else instance other q (with_instance seat r more))
    go true e ih = (p, and_from (is_before seat other) (goes_before seat more) (ap (λ b. b || ((seat.pool == other.pool) && nat_lt seat.number other.number && not (seat.place == other.place))) e) (pool_before seat other more e h.1), k, h)
    go false e ih = (h.0, goes_with other seat r more (is_first other seat e (lower (split (cases_order other.number seat.number))) place) h.1, h.2, ih)

-- ---- in a focus

frame_new : (seat : Seat) (r : Residual) (fr : Frame) → frame_has seat.pool seat.code fr → frame_place seat.pool fr ≡ Some seat.place → pools_stand r → ((n : ℕ) → seat.number ≤ n → live_frame n fr ≡ 0) → frame_stands fr → frame_stands (seat_frame seat r fr)
frame_new seat r (OfBlock b fin all rest) h e k low s =
    let ds = (out-KBlock b).decls in
    let f : lowest_free h.size 0 (taken_in seat.pool all) ≡ Some seat.place = sym (ap (λ o. place_in seat.pool o all) h.sized) ∙ e in
    let x = free_is h.size 0 (taken_in seat.pool all) seat.place f in
    subst (λ o. seats_stand ds (seated_if o seat r all)) (sym h.sized) (with_stands ds seat r all (h.place seat refl refl (omega (arith, x.high))) k low x.free s)
frame_new seat r fr h e k low s = elim h [ ]

first_free : (pool : ℕ) (o : Option ℕ) (f : Focus Act) (place : ℕ) → free_place pool f ≡ None → (elim o [ Some x ↦ Some x | None ↦ free_place pool f ]) ≡ Some place → o ≡ Some place
first_free pool (Some x) f place h e = e
first_free pool None f place h e = absurd (cc)

next_free : (pool : ℕ) (o : Option ℕ) (f : Focus Act) (place : ℕ) → o ≡ None → (elim o [ Some x ↦ Some x | None ↦ free_place pool f ]) ≡ Some place → free_place pool f ≡ Some place
next_free pool (Some x) f place h e = absurd (cc)
next_free pool None f place h e = e

none_free : (pool : ℕ) (f : Focus Act) → none_has pool f → free_place pool f ≡ None
unfolding none_has
none_free pool (Here a) h = refl
none_free pool (In fr f) h = ap (λ o. elim o [ Some x ↦ Some x | None ↦ free_place pool f ]) (frame_free pool fr h.0) ∙ none_free pool f h.1

pub one_stands : (seat : Seat) (r : Residual) (f : Focus Act) → one_has seat.pool seat.code f → free_place seat.pool f ≡ Some seat.place → pools_stand r → ((n : ℕ) → seat.number ≤ n → live_focus n f ≡ 0) → focus_stands f → focus_stands (seated seat r f)
unfolding one_has live_focus focus_stands
one_stands seat r (Here a) h e k low s = elim h [ ]
one_stands seat r (In fr f) (inl h) e k low s = (
  frame_new seat r fr h.0 (first_free seat.pool (frame_place seat.pool fr) f seat.place (none_free seat.pool f h.1) e) k (λ n l. (let z = low n l in omega (arith, z))) s.0,
  subst focus_stands (sym (none_seated seat r f h.1)) s.1,
)
one_stands seat r (In fr f) (inr h) e k low s = (
  subst frame_stands (sym (frame_seated seat r fr h.0)) s.0,
  one_stands seat r f h.1 (next_free seat.pool (frame_place seat.pool fr) f seat.place (frame_free seat.pool fr h.0) e) k (λ n l. (let z = low n l in omega (arith, z))) s.1,
)
