-- The gates of a block's pools: each one that isn't free is one of an instance, and those of the instances stand as the instances do.
use Rattle.std.proofs.Common.{◌≡◌, ◌≢◌, refl, sym, ap, ◌∙◌, subst, ◌<◌, ◌≤◌, ◌⊎◌, inl, inr, ℕ, zero, suc, ◌+◌, ◌*◌, Bool, true, false, ◌==◌, List, [], ◌∷◌, arith, eqb-true, eq-eqb, suc-mul}
use Rattle.std.specs.Prelude.{◌&&◌, ◌||◌, nat_lt, if◌then◌else◌}
use Rattle.std.proofs.lemmas.Bool.{false≢true, and_parts, or_cases, cases_lt, ltb-true}
use Rattle.ceu_isa.specs.Layout.{free}
use Rattle.ceu_tree.specs.declared.kernel.KDecl.{KDecl}
use Rattle.ceu_tree.specs.declared.kernel.KKind.{KKind}
use Rattle.ceu_tree.specs.declared.kernel.KKind.TheVariants as kind
use Rattle.ceu_tree.specs.Residual.{Seat, Instances, no_instance, instance}
use Rattle.ceu_tree.specs.World.{is_among}
use Rattle.ceu_tree.specs.Step.{taken_in}
use Rattle.laws_meaning_instances.specs.Instances.{has_place, pools_stand, seats_stand}
use Rattle.laws_machine_layout.specs.Tables.{Tables}
use Rattle.laws_machine_layout.specs.Views.{View, Home}
use Rattle.laws_machine_layout.specs.Parts.{decl_gates, pools_gates, pool_gate, VacantIn, Vacant}
use Rattle.laws_machine_order.specs.Laid.{Ascend}

-- ---- declared places

abbrev place_here : (slot : ℕ) → KKind → Seat → Bool
place_here slot (kind.Pool n c) seat = (slot == seat.pool) && (c == seat.code) && nat_lt seat.place n
place_here slot k seat = false

has_one : (d : KDecl) (ds : List KDecl) (seat : Seat) → has_place (d ∷ ds) seat ≡ (place_here d.slot d.kind seat || has_place ds seat)
has_one d ds seat = go d.kind
  where
    go : (k : KKind) → (elim k [ kind.Pool n c ↦ ((d.slot == seat.pool) && (c == seat.code) && nat_lt seat.place n) | _ ↦ false ] || has_place ds seat) ≡ (place_here d.slot k seat || has_place ds seat)
    go (kind.Pool n c) = refl
    go (kind.Var ty) = refl
    go (kind.Alias c) = refl

pub record PlaceHere (slot : ℕ) (k : KKind) (seat : Seat) : Type 0 where
  pub size : ℕ
  pub is_pool : k ≡ kind.Pool size seat.code
  pub pool_is : slot ≡ seat.pool
  pub within : seat.place < size

place_parts : (slot : ℕ) (k : KKind) (seat : Seat) → place_here slot k seat ≡ true → PlaceHere slot k seat
place_parts slot (kind.Pool n c) seat e =
    let a = and_parts ((slot == seat.pool) && (c == seat.code)) (nat_lt seat.place n) e in
    let b = and_parts (slot == seat.pool) (c == seat.code) a.0 in
    record { size = n; is_pool = ap (kind.Pool n) (eqb-true c seat.code b.1); pool_is = eqb-true slot seat.pool b.0; within = ltb-true seat.place n a.1 }
place_parts slot (kind.Var ty) seat e = absurd (false≢true e)
place_parts slot (kind.Alias c) seat e = absurd (false≢true e)

pub has_cases : (d : KDecl) (ds : List KDecl) (seat : Seat) → has_place (d ∷ ds) seat ≡ true → PlaceHere d.slot d.kind seat ⊎ (has_place ds seat ≡ true)
has_cases d ds seat e = elim (or_cases (place_here d.slot d.kind seat) (has_place ds seat) (sym (has_one d ds seat) ∙ e)) [
  | inl h ↦ inl (place_parts d.slot d.kind seat h)
  | inr h ↦ inr h
]

pub placed_from : (from : ℕ) (ds : List KDecl) (seat : Seat) → Ascend from ds → has_place ds seat ≡ true → from ≤ seat.pool
placed_from from [] seat a e = absurd (false≢true e)
placed_from from (d ∷ ds) seat a e = elim (has_cases d ds seat e) [
  | inl h ↦ let q = h.pool_is in omega (arith, a.0, q)
  | inr h ↦ let q = placed_from (suc d.slot) ds seat a.1 h in omega (arith, a.0, q)
]

module _ (t : Tables) where
  -- the first gate of an instance
  abbrev pub seat_gate : List KDecl → (pools : ℕ) → Seat → ℕ
  seat_gate ds pools seat = pool_gate t seat.pool ds pools + seat.place * t.gates seat.code

  head_gate : (d : KDecl) (ds : List KDecl) (slot low : ℕ) → d.slot ≡ slot → pool_gate t slot (d ∷ ds) low ≡ low
  head_gate d ds slot low e = ap (λ (b : Bool). if b then low else pool_gate t slot ds (low + decl_gates t d.kind)) (eq-eqb d.slot slot e)

  tail_gate : (d : KDecl) (ds : List KDecl) (slot low : ℕ) → d.slot < slot → pool_gate t slot (d ∷ ds) low ≡ pool_gate t slot ds (low + decl_gates t d.kind)
  tail_gate d ds slot low lt = ap (λ (b : Bool). if b then low else pool_gate t slot ds (low + decl_gates t d.kind)) (go (d.slot == slot) refl)
    where
      go : (b : Bool) → (d.slot == slot) ≡ b → (d.slot == slot) ≡ false
      go false e = e
      go true e = let q = eqb-true d.slot slot e in absurd (omega (arith, q, lt))

  pub pool_from : (slot : ℕ) (ds : List KDecl) (low : ℕ) → low ≤ pool_gate t slot ds low
  pool_from slot [] low = omega arith
  pool_from slot (d ∷ ds) low = go (d.slot == slot) (pool_from slot ds (low + decl_gates t d.kind))
    where
      go : (b : Bool) → low + decl_gates t d.kind ≤ pool_gate t slot ds (low + decl_gates t d.kind) → low ≤ (if b then low else pool_gate t slot ds (low + decl_gates t d.kind))
      go true h = omega arith
      go false h = omega (arith, h)

  some_places : (place n g : ℕ) → place < n → place * g + g ≤ n * g
  some_places place (suc n) g lt = elim (cases_lt place n) [
    | inl l ↦ let h = some_places place n g l in omega (arith, h, suc-mul n g)
    | inr l ↦ let e : place ≡ n = omega arith in omega (arith, suc-mul n g, ap (λ (x : ℕ). x * g) e)
  ]
  some_places place zero g lt = absurd (omega arith)

  here_within : (d : KDecl) (seat : Seat) → PlaceHere d.slot d.kind seat → seat.place * t.gates seat.code + t.gates seat.code ≤ decl_gates t d.kind
  here_within d seat h = subst (λ (k : KKind). seat.place * t.gates seat.code + t.gates seat.code ≤ decl_gates t k) (sym h.is_pool) (some_places seat.place h.size (t.gates seat.code) h.within)

  -- the gates of an instance are among those of the pools
  pub seat_within : (from : ℕ) (ds : List KDecl) (low : ℕ) (seat : Seat) → Ascend from ds → has_place ds seat ≡ true → seat_gate ds low seat + t.gates seat.code ≤ low + pools_gates t ds
  seat_within from [] low seat a e = absurd (false≢true e)
  seat_within from (d ∷ ds) low seat a e = elim (has_cases d ds seat e) [
    | inl h ↦ let p = here_within d seat h in let q = head_gate d ds seat.pool low h.pool_is in omega (arith, p, q)
    | inr h ↦
        let p = placed_from (suc d.slot) ds seat a.1 h in let q = tail_gate d ds seat.pool low p in let r = seat_within (suc d.slot) ds (low + decl_gates t d.kind) seat a.1 h in omega (arith, q, r)
  ]

  -- of two pools of a block the one with the lower slot has the lower gates
  pub seats_apart : (from : ℕ) (ds : List KDecl) (low : ℕ) (x y : Seat) → Ascend from ds → has_place ds x ≡ true → has_place ds y ≡ true → x.pool < y.pool → seat_gate ds low x + t.gates x.code ≤ seat_gate ds low y
  seats_apart from [] low x y a e f lt = absurd (false≢true e)
  seats_apart from (d ∷ ds) low x y a e f lt = go (has_cases d ds x e) (has_cases d ds y f) (λ h k. seats_apart (suc d.slot) ds (low + decl_gates t d.kind) x y a.1 h k lt)
    where
      go : PlaceHere d.slot d.kind x ⊎ (has_place ds x ≡ true) → PlaceHere d.slot d.kind y ⊎ (has_place ds y ≡ true)
          → (has_place ds x ≡ true → has_place ds y ≡ true → seat_gate ds (low + decl_gates t d.kind) x + t.gates x.code ≤ seat_gate ds (low + decl_gates t d.kind) y)
          → seat_gate (d ∷ ds) low x + t.gates x.code ≤ seat_gate (d ∷ ds) low y
      go (inl h) k ih =
          let p = here_within d x h in let q = head_gate d ds x.pool low h.pool_is in
          let r = tail_gate d ds y.pool low (let z = h.pool_is in omega (arith, z, lt)) in
          let s = pool_from y.pool ds (low + decl_gates t d.kind) in omega (arith, p, q, r, s)
      go (inr h) (inl k) ih = let p = placed_from (suc d.slot) ds x a.1 h in let q = k.pool_is in absurd (omega (arith, p, q, lt))
      go (inr h) (inr k) ih =
          let p = placed_from (suc d.slot) ds x a.1 h in let q = tail_gate d ds x.pool low p in
          let r = tail_gate d ds y.pool low (omega (arith, p, lt)) in
          let s = ih h k in omega (arith, q, r, s)

  -- a gate of one of the instances
  abbrev pub InSeats : List KDecl → (pools : ℕ) → Instances → (g : ℕ) → Type 0
  InSeats ds pools no_instance g = ⊥
  InSeats ds pools (instance seat r more) g = ((seat_gate ds pools seat ≤ g) × (g < seat_gate ds pools seat + t.gates seat.code)) ⊎ InSeats ds pools more g

  -- the place that has a gate
  record PlaceOf (all : Instances) (ds : List KDecl) (low g : ℕ) : Type 0 where
    slot : ℕ
    code : ℕ
    place : ℕ
    from : pool_gate t slot ds low + place * t.gates code ≤ g
    to : g < (pool_gate t slot ds low + place * t.gates code) + t.gates code
    taken : is_among place (taken_in slot all) ≡ true
    one_code : (seat : Seat) → has_place ds seat ≡ true → seat.pool ≡ slot → seat.code ≡ code

  seat_of : (ds : List KDecl) (low g : ℕ) (all back : Instances) → seats_stand ds back → (p : PlaceOf all ds low g) → is_among p.place (taken_in p.slot back) ≡ true → InSeats ds low back g
  unfolding pools_stand
  seat_of ds low g all no_instance h p e = absurd (false≢true e)
  seat_of ds low g all (instance seat r more) h p e = go (seat.pool == p.slot) refl e (seat_of ds low g all more h.3 p)
    where
      go : (b : Bool) → (seat.pool == p.slot) ≡ b → is_among p.place (if b then seat.place ∷ taken_in p.slot more else taken_in p.slot more) ≡ true
          → (is_among p.place (taken_in p.slot more) ≡ true → InSeats ds low more g) → InSeats ds low (instance seat r more) g
      go false q k ih = inr (ih k)
      go true q k ih = elim (or_cases (p.place == seat.place) (is_among p.place (taken_in p.slot more)) k) [
        | inr z ↦ inr (ih z)
        | inl z ↦
            let pool = eqb-true seat.pool p.slot q in
            let code = p.one_code seat h.0 pool in
            let at : seat_gate ds low seat ≡ pool_gate t p.slot ds low + p.place * t.gates p.code =
            ap (λ (s : ℕ). pool_gate t s ds low + seat.place * t.gates seat.code) pool ∙ ap (λ (c : ℕ). pool_gate t p.slot ds low + seat.place * t.gates c) code
            ∙ ap (λ (x : ℕ). pool_gate t p.slot ds low + x * t.gates p.code) (sym (eqb-true p.place seat.place z)) in
            inl (omega (arith, at, p.from), omega (arith, at, p.to, ap t.gates code))
      ]

  record PlaceAt (n size low g : ℕ) : Type 0 where
    place : ℕ
    less : place < n
    from : low + place * size ≤ g
    to : g < (low + place * size) + size

  place_of : (n size low g : ℕ) → low ≤ g → g < low + n * size → PlaceAt n size low g
  place_of zero size low g a b = absurd (omega arith)
  place_of (suc n) size low g a b = elim (cases_lt g (low + n * size)) [
    | inl l ↦ let h = place_of n size low g a l in record { place = h.place; less = omega (arith, h.less); from = h.from; to = h.to }
    | inr l ↦ record { place = n; less = omega arith; from = l; to = omega (arith, suc-mul n size, b) }
  ]

  module _ (v : View) (h : Home) (all : Instances) (g : ℕ) (taken : (v.gate g).kind ≢ free) where
    in_pool : (slot n code low : ℕ) (d : KDecl) → d.kind ≡ kind.Pool n code → VacantIn t v h all low d (kind.Pool n code) → low ≤ g → g < low + n * t.gates code → (ds : List KDecl) → Ascend (suc d.slot) ds → (p : PlaceOf all (d ∷ ds) low g) × (p.slot ≡ d.slot)
    in_pool slot n code low d is vacant a b ds up =
        let p = place_of n (t.gates code) low g a b in
        let q = head_gate d ds d.slot low refl in (
          record {
            slot = d.slot;
            code = code;
            place = p.place;
            from = omega (arith, p.from, q);
            to = omega (arith, p.to, q);
            taken = go p (is_among p.place (taken_in d.slot all)) refl;
            one_code = λ seat e f. elim (has_cases d ds seat e) [
              | inl x ↦ let same : kind.Pool n code ≡ kind.Pool x.size seat.code = sym is ∙ x.is_pool in sym (cc)
              | inr x ↦ let y = placed_from (suc d.slot) ds seat up x in absurd (omega (arith, y, f))
            ];
          },
          refl,
        )
      where
        go : (p : PlaceAt n (t.gates code) low g) (b : Bool) → is_among p.place (taken_in d.slot all) ≡ b → is_among p.place (taken_in d.slot all) ≡ true
        go p true e = e
        go p false e = absurd (taken ((vacant p.place p.less e).gates_free.free_at g p.from p.to))

    in_decl : (k : KKind) (low : ℕ) (d : KDecl) → d.kind ≡ k → VacantIn t v h all low d k → low ≤ g → g < low + decl_gates t k → (ds : List KDecl) → Ascend (suc d.slot) ds → (p : PlaceOf all (d ∷ ds) low g) × (p.slot ≡ d.slot)
    in_decl (kind.Pool n code) low d is vacant a b ds up = in_pool d.slot n code low d is vacant a b ds up
    in_decl (kind.Var ty) low d is vacant a b ds up = absurd (omega arith)
    in_decl (kind.Alias c) low d is vacant a b ds up = absurd (omega arith)

    behind : (d : KDecl) (ds : List KDecl) (low : ℕ) (p : PlaceOf all ds (low + decl_gates t d.kind) g) → d.slot < p.slot → PlaceOf all (d ∷ ds) low g
    behind d ds low p lt =
        let q = tail_gate d ds p.slot low lt in
        record {
          slot = p.slot;
          code = p.code;
          place = p.place;
          from = omega (arith, p.from, q);
          to = omega (arith, p.to, q);
          taken = p.taken;
          one_code = λ seat e f. elim (has_cases d ds seat e) [ inl x ↦ let z = x.pool_is in absurd (omega (arith, z, f, lt)) | inr x ↦ p.one_code seat x f ];
        }

    in_decls : (from low : ℕ) (ds : List KDecl) → Ascend from ds → Vacant t v h all low ds → low ≤ g → g < low + pools_gates t ds → (p : PlaceOf all ds low g) × (from ≤ p.slot)
    unfolding behind
    in_decls from low [] up vacant a b = absurd (omega arith)
    in_decls from low (d ∷ ds) up vacant a b = elim (cases_lt g (low + decl_gates t d.kind)) [
      | inl l ↦ let p = in_decl d.kind low d refl vacant.0 a l ds up.1 in (p.0, slot_here p.1)
      | inr l ↦ let p = in_decls (suc d.slot) (low + decl_gates t d.kind) ds up.1 vacant.1 l (omega (arith, b)) in (behind d ds low p.0 p.1, slot_behind p.1)
    ]
      where
        slot_here : {s : ℕ} → s ≡ d.slot → from ≤ s
        slot_here e = omega (arith, up.0, e)

        slot_behind : {s : ℕ} → suc d.slot ≤ s → from ≤ s
        slot_behind h = omega (arith, up.0, h)

    -- a gate of the block's pools that isn't free is one of an instance
    pub in_seats : (low : ℕ) (ds : List KDecl) → Ascend 0 ds → Vacant t v h all low ds → seats_stand ds all → low ≤ g → g < low + pools_gates t ds → InSeats ds low all g
    in_seats low ds up vacant stand a b = let p = (in_decls 0 low ds up vacant a b).0 in seat_of ds low g all all stand p p.taken
