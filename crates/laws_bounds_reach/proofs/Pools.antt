-- A pool of n places holds n instances at most, since they stand at places that differ.
use Rattle.std.proofs.Common.{◌≡◌, refl, sym, ap, ◌∙◌, ◌<◌, ◌≤◌, ℕ, zero, suc, ◌+◌, ◌*◌, Bool, true, false, not, if◌then◌else◌, ◌==◌, ◌&&◌, ◌||◌, ◌⊎◌, inl, inr, nat_lt, List, [], ◌∷◌, length, arith, eqb-true, eq-eqb}
use Rattle.std.proofs.lemmas.Bool.{and_parts, and_from, or_cases, false≢true, ltb-true}
use Rattle.ceu_tree.specs.declared.kernel.KDecl.{KDecl}
use Rattle.ceu_tree.specs.declared.kernel.KKind.{KKind}
use Rattle.ceu_tree.specs.declared.kernel.KKind.TheVariants as kind
use Rattle.ceu_tree.specs.Residual.{Seat, Instances, no_instance, instance}
use Rattle.ceu_tree.specs.Costs.{Cost, nothing, plus, times, cost_at, pool_uses, pools_stay}
use Rattle.laws_meaning_instances.specs.Instances.{has_place, is_before, goes_before, seats_stand}
use Rattle.laws_bounds_steps.specs.Pays.{Within}
use Rattle.laws_bounds_steps.proofs.Cost.{same, chain, both, least, more_times}
use Rattle.laws_bounds_reach.specs.Copies.{one_of, weigh_instances, weigh_pools}

-- ---- numbers that differ, and lie below n

abbrev apart : ℕ → List ℕ → Type 0
apart x [] = Unit {0}
apart x (y ∷ ys) = ((x == y) ≡ false) × apart x ys

abbrev differ : List ℕ → Type 0
differ [] = Unit {0}
differ (x ∷ xs) = apart x xs × differ xs

abbrev below : ℕ → List ℕ → Type 0
below n [] = Unit {0}
below n (x ∷ xs) = (x < n) × below n xs

abbrev others : ℕ → List ℕ → List ℕ
others n [] = []
others n (x ∷ xs) = if x == n then others n xs else x ∷ others n xs

apart_others : (n x : ℕ) (xs : List ℕ) → apart x xs → apart x (others n xs)
apart_others n x [] h = tt
apart_others n x (y ∷ ys) h = go (y == n) (apart_others n x ys h.1)
  where
    go : (b : Bool) → apart x (others n ys) → apart x (if b then others n ys else y ∷ others n ys)
    go true k = k
    go false k = (h.0, k)

differ_others : (n : ℕ) (xs : List ℕ) → differ xs → differ (others n xs)
differ_others n [] h = tt
differ_others n (x ∷ xs) h = go (x == n) (differ_others n xs h.1)
  where
    go : (b : Bool) → differ (others n xs) → differ (if b then others n xs else x ∷ others n xs)
    go true k = k
    go false k = (apart_others n x xs h.0, k)

unequal : (x n : ℕ) → (x == n) ≡ false → x ≡ n → ⊥
unequal x n e h = false≢true (sym e ∙ eq-eqb x n h)

below_others : (n : ℕ) (xs : List ℕ) → below (suc n) xs → below n (others n xs)
below_others n [] h = tt
below_others n (x ∷ xs) h = go (x == n) refl (below_others n xs h.1)
  where
    go : (b : Bool) → (x == n) ≡ b → below n (others n xs) → below n (if b then others n xs else x ∷ others n xs)
    go true e k = k
    go false e k = (let u = unequal x n e in omega (arith, h.0, u), k)

-- one of them is n at most
none_other : (n x : ℕ) (xs : List ℕ) → x ≡ n → apart x xs → length xs ≤ length (others n xs)
none_other n x [] e h = omega arith
none_other n x (y ∷ ys) e h = go (y == n) refl (none_other n x ys e h.1)
  where
    go : (b : Bool) → (y == n) ≡ b → length ys ≤ length (others n ys) → suc (length ys) ≤ length (if b then others n ys else y ∷ others n ys)
    go true q k = absurd (unequal x y h.0 (e ∙ sym (eqb-true y n q)))
    go false q k = omega (arith, k)

one_other : (n : ℕ) (xs : List ℕ) → differ xs → length xs ≤ suc (length (others n xs))
one_other n [] h = omega arith
one_other n (x ∷ xs) h = go (x == n) refl (one_other n xs h.1)
  where
    go : (b : Bool) → (x == n) ≡ b → length xs ≤ suc (length (others n xs)) → suc (length xs) ≤ suc (length (if b then others n xs else x ∷ others n xs))
    go true e k = let z = none_other n x xs (eqb-true x n e) h.0 in omega (arith, z)
    go false e k = omega (arith, k)

at_most : (n : ℕ) (xs : List ℕ) → differ xs → below n xs → length xs ≤ n
at_most zero [] d b = omega arith
at_most zero (x ∷ xs) d b = absurd (let z = b.0 in omega (arith, z))
at_most (suc n) xs d b = let z = at_most n (others n xs) (differ_others n xs d) (below_others n xs b) in let y = one_other n xs d in omega (arith, z, y)

-- ---- the instances of one pool, and those of the others

abbrev elsewhere : (Seat → Bool) → Instances → Instances
elsewhere t no_instance = no_instance
elsewhere t (instance seat r more) = if t seat then elsewhere t more else instance seat r (elsewhere t more)

abbrev places : (Seat → Bool) → Instances → List ℕ
places t no_instance = []
places t (instance seat r more) = if t seat then seat.place ∷ places t more else places t more

off : (b : Bool) → not b ≡ true → b ≡ false
off true h = absurd (false≢true h)
off false h = refl

before_apart : (a b : Seat) → is_before a b ≡ true → a.pool ≡ b.pool → (a.place == b.place) ≡ false
before_apart a b h e = go (or_cases (nat_lt a.pool b.pool) _ h)
  where
    go : (nat_lt a.pool b.pool ≡ true) ⊎ (((a.pool == b.pool) && nat_lt a.number b.number && not (a.place == b.place)) ≡ true) → (a.place == b.place) ≡ false
    go (inl l) = absurd (let z = ltb-true a.pool b.pool l in omega (arith, z, e))
    go (inr l) = off (a.place == b.place) (and_parts ((a.pool == b.pool) && nat_lt a.number b.number) (not (a.place == b.place)) l).1

module _ (t : Seat → Bool) (pool : ℕ) (own : (s : Seat) → t s ≡ true → s.pool ≡ pool) where
  place_apart : (seat : Seat) (all : Instances) → t seat ≡ true → goes_before seat all ≡ true → apart seat.place (places t all)
  place_apart seat no_instance e h = tt
  place_apart seat (instance other r more) e h = go (t other) refl (place_apart seat more e (and_parts (is_before seat other) (goes_before seat more) h).1)
    where
      go : (b : Bool) → t other ≡ b → apart seat.place (places t more) → apart seat.place (if b then other.place ∷ places t more else places t more)
      go true q k = (before_apart seat other (and_parts (is_before seat other) (goes_before seat more) h).0 (own seat e ∙ sym (own other q)), k)
      go false q k = k

  places_differ : (ds : List KDecl) (all : Instances) → seats_stand ds all → differ (places t all)
  unfolding seats_stand
  places_differ ds no_instance h = tt
  places_differ ds (instance seat r more) h = go (t seat) refl (places_differ ds more h.3)
    where
      go : (b : Bool) → t seat ≡ b → differ (places t more) → differ (if b then seat.place ∷ places t more else places t more)
      go true q k = (place_apart seat more q h.1, k)
      go false q k = k

places_below : (t : Seat → Bool) (n : ℕ) → ((s : Seat) → t s ≡ true → s.place < n) → (all : Instances) → below n (places t all)
places_below t n l no_instance = tt
places_below t n l (instance seat r more) = go (t seat) refl (places_below t n l more)
  where
    go : (b : Bool) → t seat ≡ b → below n (places t more) → below n (if b then seat.place ∷ places t more else places t more)
    go true q k = (l seat q, k)
    go false q k = k

goes_elsewhere : (t : Seat → Bool) (seat : Seat) (all : Instances) → goes_before seat all ≡ true → goes_before seat (elsewhere t all) ≡ true
goes_elsewhere t seat no_instance h = refl
goes_elsewhere t seat (instance other r more) h = go (t other) (goes_elsewhere t seat more (and_parts (is_before seat other) (goes_before seat more) h).1)
  where
    go : (b : Bool) → goes_before seat (elsewhere t more) ≡ true → goes_before seat (if b then elsewhere t more else instance other r (elsewhere t more)) ≡ true
    go true k = k
    go false k = and_from (is_before seat other) (goes_before seat (elsewhere t more)) (and_parts (is_before seat other) (goes_before seat more) h).0 k

stand_elsewhere : (t : Seat → Bool) (ds es : List KDecl) → ((s : Seat) → has_place ds s ≡ true → t s ≡ false → has_place es s ≡ true) → (all : Instances) → seats_stand ds all → seats_stand es (elsewhere t all)
unfolding seats_stand
stand_elsewhere t ds es f no_instance h = tt
stand_elsewhere t ds es f (instance seat r more) h = go (t seat) refl (stand_elsewhere t ds es f more h.3)
  where
    go : (b : Bool) → t seat ≡ b → seats_stand es (elsewhere t more) → seats_stand es (if b then elsewhere t more else instance seat r (elsewhere t more))
    go true q k = k
    go false q k = (f seat h.0 q, goes_elsewhere t seat more h.1, h.2, k)

weigh_apart : (t : Seat → Bool) (weigh : ℕ → Cost) (x : Cost) → ((s : Seat) → t s ≡ true → weigh s.code ≡ x) → (all : Instances)
    → Within (weigh_instances weigh all) (plus (times (length (places t all)) x) (weigh_instances weigh (elsewhere t all)))
weigh_apart t weigh x f no_instance = least _
weigh_apart t weigh x f (instance seat r more) = go (t seat) refl (weigh_apart t weigh x f more)
  where
    go : (b : Bool) → t seat ≡ b → Within (weigh_instances weigh more) (plus (times (length (places t more)) x) (weigh_instances weigh (elsewhere t more)))
        → Within (plus (weigh seat.code) (weigh_instances weigh more)) (plus (times (length (if b then seat.place ∷ places t more else places t more)) x) (weigh_instances weigh (if b then elsewhere t more else instance seat r (elsewhere t more))))
    go true q k = let e = f seat q in let k0 = k.turns in let k1 = k.opens in let e0 = ap (λ (c : Cost). c.turns) e in let e1 = ap (λ (c : Cost). c.opens) e in record { turns = omega (arith, k0, e0); opens = omega (arith, k1, e1) }
    go false q k = let k0 = k.turns in let k1 = k.opens in record { turns = omega (arith, k0); opens = omega (arith, k1) }

-- ---- one declaration after the other

abbrev is_seat_of : ℕ → KKind → Seat → Bool
is_seat_of slot k seat = elim k [ kind.Pool n c ↦ ((slot == seat.pool) && (c == seat.code) && nat_lt seat.place n) | _ ↦ false ]

abbrev size : KKind → ℕ
size (kind.Var t) = 0
size (kind.Alias c) = 0
size (kind.Pool n c) = n

abbrev weight : (ℕ → Cost) → KKind → Cost
weight weigh (kind.Var t) = nothing
weight weigh (kind.Alias c) = nothing
weight weigh (kind.Pool n c) = weigh c

seat_pool : (slot : ℕ) (k : KKind) (s : Seat) → is_seat_of slot k s ≡ true → s.pool ≡ slot
seat_pool slot (kind.Var t) s h = absurd (false≢true h)
seat_pool slot (kind.Alias c) s h = absurd (false≢true h)
seat_pool slot (kind.Pool n c) s h = sym (eqb-true slot s.pool (and_parts (slot == s.pool) (c == s.code) (and_parts _ (nat_lt s.place n) h).0).0)

seat_place : (slot : ℕ) (k : KKind) (s : Seat) → is_seat_of slot k s ≡ true → s.place < size k
seat_place slot (kind.Var t) s h = absurd (false≢true h)
seat_place slot (kind.Alias c) s h = absurd (false≢true h)
seat_place slot (kind.Pool n c) s h = ltb-true s.place n (and_parts ((slot == s.pool) && (c == s.code)) (nat_lt s.place n) h).1

seat_weight : (weigh : ℕ → Cost) (slot : ℕ) (k : KKind) (s : Seat) → is_seat_of slot k s ≡ true → weigh s.code ≡ weight weigh k
seat_weight weigh slot (kind.Var t) s h = absurd (false≢true h)
seat_weight weigh slot (kind.Alias c) s h = absurd (false≢true h)
seat_weight weigh slot (kind.Pool n c) s h = sym (ap weigh (eqb-true c s.code (and_parts (slot == s.pool) (c == s.code) (and_parts _ (nat_lt s.place n) h).0).1))

full : (weigh : ℕ → Cost) (k : KKind) (x : Cost) → Within (plus (times (size k) (weight weigh k)) x) (elim k as (λ _. Cost) [ kind.Var t ↦ x | kind.Alias c ↦ x | kind.Pool n c ↦ plus (times n (weigh c)) x ])
full weigh (kind.Var t) x = record { turns = omega arith; opens = omega arith }
full weigh (kind.Alias c) x = record { turns = omega arith; opens = omega arith }
full weigh (kind.Pool n c) x = same _

pub hold : (weigh : ℕ → Cost) (ds : List KDecl) (all : Instances) → seats_stand ds all → Within (weigh_instances weigh all) (weigh_pools weigh ds)
unfolding seats_stand
hold weigh [] no_instance h = least _
hold weigh [] (instance seat r more) h = absurd (false≢true h.0)
hold weigh (d ∷ ds) all h =
    let t : Seat → Bool = is_seat_of d.slot d.kind in
    let few = at_most (size d.kind) (places t all) (places_differ t d.slot (seat_pool d.slot d.kind) (d ∷ ds) all h) (places_below t (size d.kind) (seat_place d.slot d.kind) all) in
    let rest = hold weigh ds (elsewhere t all) (stand_elsewhere t (d ∷ ds) ds (λ s p q. behind s (t s) (has_place ds s) q p) all h) in
    chain _ _ _ (weigh_apart t weigh (weight weigh d.kind) (seat_weight weigh d.slot d.kind) all)
    (chain _ _ _ (both _ _ _ _ (more_times _ _ (weight weigh d.kind) few) rest) (full weigh d.kind (weigh_pools weigh ds)))
  where
    behind : (s : Seat) (a b : Bool) → a ≡ false → (a || b) ≡ true → b ≡ true
    behind s true b q p = absurd (false≢true (sym q))
    behind s false b q p = p

-- ---- weights that the tables of costs have

pub pools_stay_is : (P : List Bool) (E N S : List Cost) (ds : List KDecl) → pools_stay P E N S ds ≡ weigh_pools (λ c. cost_at c S) ds
pools_stay_is P E N S [] = refl
pools_stay_is P E N S (d ∷ ds) = go d.kind (pools_stay_is P E N S ds)
  where
    go : (k : KKind) → pools_stay P E N S ds ≡ weigh_pools (λ c. cost_at c S) ds
        → (elim k as (λ _. Cost) [ kind.Var t ↦ pools_stay P E N S ds | kind.Alias c ↦ pools_stay P E N S ds | kind.Pool n c ↦ plus (times n (cost_at c S)) (pools_stay P E N S ds) ])
        ≡ (elim k as (λ _. Cost) [ kind.Var t ↦ weigh_pools (λ c. cost_at c S) ds | kind.Alias c ↦ weigh_pools (λ c. cost_at c S) ds | kind.Pool n c ↦ plus (times n (cost_at c S)) (weigh_pools (λ c. cost_at c S) ds) ])
    go (kind.Var t) e = e
    go (kind.Alias c) e = e
    go (kind.Pool n c) e = ap (plus (times n (cost_at c S))) e

-- one for each instance of the code k
pub pool_uses_is : (k : ℕ) (ds : List KDecl) → (weigh_pools (λ c. record { turns = one_of k c; opens = 0 }) ds).turns ≡ pool_uses k ds
pool_uses_is k [] = refl
pool_uses_is k (d ∷ ds) = go d.kind (pool_uses_is k ds)
  where
    weigh : ℕ → Cost
    weigh c = record { turns = one_of k c; opens = 0 }

    so_many : (n r : ℕ) (b : Bool) → n * (if b then 1 else 0) + r ≡ (if b then n + r else r)
    so_many n r true = omega arith
    so_many n r false = omega arith

    go : (j : KKind) → (weigh_pools weigh ds).turns ≡ pool_uses k ds
        → (elim j as (λ _. Cost) [ kind.Var t ↦ weigh_pools weigh ds | kind.Alias c ↦ weigh_pools weigh ds | kind.Pool n c ↦ plus (times n (weigh c)) (weigh_pools weigh ds) ]).turns
        ≡ (elim j as (λ _. ℕ) [ kind.Var t ↦ pool_uses k ds | kind.Alias c ↦ pool_uses k ds | kind.Pool n c ↦ (if c == k then n + pool_uses k ds else pool_uses k ds) ])
    go (kind.Var t) e = e
    go (kind.Alias c) e = e
    go (kind.Pool n c) e = ap (λ r. n * one_of k c + r) e ∙ so_many n (pool_uses k ds) (c == k)
