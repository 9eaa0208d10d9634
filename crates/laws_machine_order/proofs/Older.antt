-- Two chains of instances, and which of two gates goes first by them.
use Rattle.std.proofs.Common.{◌≡◌, ◌≢◌, refl, sym, ap, ◌∙◌, subst, ◌<◌, ◌⊎◌, inl, inr, ℕ, Bool, true, false, ◌==◌, List, [], ◌∷◌, ◌++◌, arith, eqb-true, eq-eqb}
use Rattle.std.specs.Prelude.{◌&&◌, not, nat_lt, if◌then◌else◌}
use Rattle.std.proofs.lemmas.Bool.{and_parts}
use Rattle.std.proofs.lemmas.Bool.Decides.{nat_tests}
use Rattle.ceu_isa.specs.Pools.{outer_frame}
use Rattle.ceu_isa.specs.Order.{number_of, pool_of, of_one_pool, older, earlier}
use Rattle.ceu_tree.specs.Residual.{Body, Spawned}
use Rattle.ceu_tree.specs.Legal.{Seated}
use Rattle.laws_machine_layout.specs.Tables.{Tables}
use Rattle.laws_machine_layout.specs.Views.{Home}
use Rattle.laws_machine_order.specs.Laid.{BeforeAll, InOrder}

-- ---- an order has a sense

eqb_sym : (a b : ℕ) → (a == b) ≡ (b == a)
eqb_sym a b = grind (arith, nat_tests)

turned : (p : Bool) (a b : ℕ) (l : Bool) → (if p && not (a == b) then nat_lt a b else l) ≡ true → (if p && not (b == a) then nat_lt b a else not l) ≡ false
turned true a b l e = go (a == b) refl e
  where
    go : (q : Bool) → (a == b) ≡ q → (if not q then nat_lt a b else l) ≡ true → (if not (b == a) then nat_lt b a else not l) ≡ false
    go true s h = ap (λ (x : Bool). if not x then nat_lt b a else not l) (eqb_sym b a ∙ s) ∙ ap not h
    go false s h = ap (λ (x : Bool). if not x then nat_lt b a else not l) (eqb_sym b a ∙ s) ∙ (grind (arith, nat_tests))
turned false a b l e = ap not e

pool_sym : (bytes : List ℕ) (f g : ℕ) → of_one_pool bytes f g ≡ of_one_pool bytes g f
pool_sym bytes f g = ap (λ (x : Bool). x && (outer_frame bytes f == outer_frame bytes g)) (eqb_sym (pool_of bytes f) (pool_of bytes g)) ∙ ap (λ (x : Bool). (pool_of bytes g == pool_of bytes f) && x) (eqb_sym (outer_frame bytes f) (outer_frame bytes g))

pub not_both : (bytes a b : List ℕ) (l : Bool) → earlier bytes a b l ≡ true → earlier bytes b a (not l) ≡ false
not_both bytes [] [] l e = ap not e
not_both bytes [] (g ∷ b) l e = ap not e
not_both bytes (f ∷ a) [] l e = ap not e
not_both bytes (f ∷ a) (g ∷ b) l e = go (f == g) refl e (not_both bytes a b l)
  where
    go : (q : Bool) → (f == g) ≡ q → (if q then earlier bytes a b l else older bytes f g l) ≡ true → (earlier bytes a b l ≡ true → earlier bytes b a (not l) ≡ false)
        → (if g == f then earlier bytes b a (not l) else older bytes g f (not l)) ≡ false
    go true s h ih = ap (λ (x : Bool). if x then earlier bytes b a (not l) else older bytes g f (not l)) (eqb_sym g f ∙ s) ∙ ih h
    go false s h ih =
        ap (λ (x : Bool). if x then earlier bytes b a (not l) else older bytes g f (not l)) (eqb_sym g f ∙ s) ∙
        ap (λ (x : Bool). if x && not (number_of bytes g == number_of bytes f) then nat_lt (number_of bytes g) (number_of bytes f) else not l) (pool_sym bytes g f) ∙
        turned (of_one_pool bytes f g) (number_of bytes f) (number_of bytes g) l h

-- what is common to both doesn't matter
pub earlier_behind : (bytes c a b : List ℕ) (l : Bool) → earlier bytes (c ++ a) (c ++ b) l ≡ earlier bytes a b l
earlier_behind bytes [] a b l = refl
earlier_behind bytes (x ∷ c) a b l = ap (λ (q : Bool). if q then earlier bytes (c ++ a) (c ++ b) l else older bytes x x l) (eq-eqb x x refl) ∙ earlier_behind bytes c a b l

-- ---- the instances of a tree

module _ (R : Seated → Seated → Type 0) where
  pub before_left : (x : Seated) (a b : List Seated) → BeforeAll R x (a ++ b) → BeforeAll R x a
  before_left x [] b h = tt
  before_left x (y ∷ a) b h = (h.0, before_left x a b h.1)

  pub before_right : (x : Seated) (a b : List Seated) → BeforeAll R x (a ++ b) → BeforeAll R x b
  before_right x [] b h = h
  before_right x (y ∷ a) b h = before_right x a b h.1

  pub order_left : (a b : List Seated) → InOrder R (a ++ b) → InOrder R a
  order_left [] b h = tt
  order_left (x ∷ a) b h = (before_left x a b h.0, order_left a b h.1)

  pub order_right : (a b : List Seated) → InOrder R (a ++ b) → InOrder R b
  order_right [] b h = h
  order_right (x ∷ a) b h = order_right a b h.1

abbrev pub Among : Seated → List Seated → Type 0
Among x [] = ⊥
Among x (y ∷ ys) = (x ≡ y) ⊎ Among x ys

pub among_left : (x : Seated) (a b : List Seated) → Among x a → Among x (a ++ b)
among_left x [] b h = absurd h
among_left x (y ∷ a) b (inl e) = inl e
among_left x (y ∷ a) b (inr h) = inr (among_left x a b h)

pub among_right : (x : Seated) (a b : List Seated) → Among x b → Among x (a ++ b)
among_right x [] b h = h
among_right x (y ∷ a) b h = inr (among_right x a b h)

module _ (R : Seated → Seated → Type 0) where
  pub before_at : (x y : Seated) (b : List Seated) → BeforeAll R x b → Among y b → R x y
  before_at x y [] h k = absurd k
  before_at x y (z ∷ b) h (inl e) = subst (λ (s : Seated). R x s) (sym e) h.0
  before_at x y (z ∷ b) h (inr k) = before_at x y b h.1 k

  pub across : (x y : Seated) (a b : List Seated) → InOrder R (a ++ b) → Among x a → Among y b → R x y
  across x y [] b h i j = absurd i
  across x y (z ∷ a) b h (inl e) j = subst (λ (s : Seated). R s y) (sym e) (before_at z y b (before_right R z a b h.0) j)
  across x y (z ∷ a) b h (inr i) j = across x y a b h.1 i j

-- ---- instances in the memory

module _ (t : Tables) (home : Body → Home) (bytes : List ℕ) where
  abbrev pub frame_of : Seated → ℕ
  frame_of x = (home (Spawned x.seat.number)).frame

  abbrev pub frames : List Seated → List ℕ
  frames [] = []
  frames (x ∷ xs) = frame_of x ∷ frames xs

  -- what the place of an instance says
  pub record Known (x : Seated) : Type 0 where
    pub number_is : number_of bytes (frame_of x) ≡ x.seat.number
    pub pool_is : pool_of bytes (frame_of x) ≡ t.pool x.seat.pool
    pub outer_is : outer_frame bytes (frame_of x) ≡ (home x.body).frame

  -- two instances, and if they are of one pool, the first one is older
  pub record Older (x y : Seated) : Type 0 where
    pub differ : x.seat.number ≢ y.seat.number
    pub older : t.pool x.seat.pool ≡ t.pool y.seat.pool → (home x.body).frame ≡ (home y.body).frame → x.seat.number < y.seat.number

  by_pool : (p : Bool) (a b : ℕ) (l : Bool) → a ≢ b → (p ≡ true → a < b) → (p ≡ false → l ≡ true) → (if p && not (a == b) then nat_lt a b else l) ≡ true
  by_pool true a b l ne h k = let lt = h refl in grind (arith, nat_tests)
  by_pool false a b l ne h k = k refl

  pub goes : (x y : Seated) (a b : List ℕ) (l : Bool) → Known x → Known y → Older x y → (of_one_pool bytes (frame_of x) (frame_of y) ≡ false → l ≡ true) → earlier bytes (frame_of x ∷ a) (frame_of y ∷ b) l ≡ true
  goes x y a b l kx ky o low =
      ap (λ (q : Bool). if q then earlier bytes a b l else older bytes (frame_of x) (frame_of y) l) (apart (frame_of x == frame_of y) refl) ∙
      by_pool (of_one_pool bytes (frame_of x) (frame_of y)) (number_of bytes (frame_of x)) (number_of bytes (frame_of y)) l numbers_differ one low
    where
      numbers_differ : number_of bytes (frame_of x) ≢ number_of bytes (frame_of y)
      numbers_differ e = o.differ (sym kx.number_is ∙ e ∙ ky.number_is)

      apart : (q : Bool) → (frame_of x == frame_of y) ≡ q → (frame_of x == frame_of y) ≡ false
      apart true e = absurd (numbers_differ (ap (number_of bytes) (eqb-true (frame_of x) (frame_of y) e)))
      apart false e = e

      one : of_one_pool bytes (frame_of x) (frame_of y) ≡ true → number_of bytes (frame_of x) < number_of bytes (frame_of y)
      one e =
          let parts = and_parts (pool_of bytes (frame_of x) == pool_of bytes (frame_of y)) (outer_frame bytes (frame_of x) == outer_frame bytes (frame_of y)) e in
          let pools = eqb-true (pool_of bytes (frame_of x)) (pool_of bytes (frame_of y)) parts.0 in
          let outers = eqb-true (outer_frame bytes (frame_of x)) (outer_frame bytes (frame_of y)) parts.1 in
          let lt = o.older (sym kx.pool_is ∙ pools ∙ ky.pool_is) (sym kx.outer_is ∙ outers ∙ ky.outer_is) in
          omega (arith, kx.number_is, ky.number_is, lt)

  -- the instances around a gate, of which the outermost is one of these
  abbrev pub Head : List Seated → List Seated → Type 0
  Head [] all = Unit {0}
  Head (x ∷ xs) all = Among x all × Known x

  -- of two parts side by side
  pub goes_across : (xs ys a b : List Seated) (l : Bool) → Head xs a → Head ys b → InOrder Older (a ++ b) → l ≡ true → earlier bytes (frames xs) (frames ys) l ≡ true
  goes_across [] ys a b l h k o e = e
  goes_across (x ∷ xs) [] a b l h k o e = e
  goes_across (x ∷ xs) (y ∷ ys) a b l h k o e = goes x y (frames xs) (frames ys) l h.1 k.1 (across Older x y a b o h.0 k.0) (λ q. e)
