-- The leaf that is chosen goes before all others that might be.
use Rattle.std.proofs.Common.{◌≡◌, sym, ap, ◌∙◌, subst, ◌<◌, ◌≤◌, ◌⊎◌, inl, inr, ℕ, ◌+◌, Bool, true, false, ◌==◌, List, [], ◌∷◌, Option, Some, None, arith, eqb-true, eq-eqb}
use Rattle.std.specs.Prelude.{nat_lt, ◌&&◌, not}
use Rattle.std.proofs.lemmas.Bool.{false≢true, and_parts, and_from, or_cases, lt-ltb, ltb-true}
use Rattle.ceu_code.specs.declared.image.Image.{Image}
use Rattle.ceu_mem.specs.declared.gate.Gate.{Gate}
use Rattle.ceu_isa.specs.Pools.{outer_frame}
use Rattle.ceu_isa.specs.Order.{pool_of, of_one_pool, earlier}
use Rattle.ceu_tree.specs.declared.kernel.KDecl.{KDecl}
use Rattle.ceu_tree.specs.Residual.{Body, Spawned, Seat, Residual, Instances, instance}
use Rattle.ceu_tree.specs.Focus.{Frame, Focus, here, under, ChosenInstance, no_chosen_instance, chosen_instance, first_instance}
use Rattle.ceu_tree.specs.Legal.{Seated, seats, instance_seats}
use Rattle.laws_meaning_instances.specs.Instances.{has_place, is_before, pools_stand, seats_stand}
use Rattle.laws_machine_layout.specs.Tables.{Tables}
use Rattle.laws_machine_layout.specs.Views.{view, Home}
use Rattle.laws_machine_layout.specs.Leaves.{LeafStands}
use Rattle.laws_machine_layout.specs.Stands.{Stands, SeatsStand}
use Rattle.laws_machine_layout.specs.Frames.{Spot, spot, SeatsAround, FrameStands, FocusStands}
use Rattle.laws_machine_order.specs.Laid.{Ascend, Laid, SeatsLaid, InOrder}
use Rattle.laws_machine_order.proofs.Older.{earlier_behind, before_right, before_at, frame_of, frames, Known, Older, goes}
use Rattle.laws_machine_order.proofs.Places.{seat_gate, seats_apart, InSeats}
use Rattle.laws_machine_order.proofs.Trails.{Picks}
use Rattle.laws_machine_order.proofs.Within.{Trail, SeatTrail, first_seat, later_seat, Tested, leaf_at, leaf_trail, seats_trail}

module _ (image : Image) (bytes : List ℕ) (t : Tables) (home : Body → Home) (A : Type 0) (pick : Residual → Option A) (test : Gate → Bool) (picks : Picks A pick test t) where
  abbrev pub Passes : ℕ → Type 0
  Passes = Tested image bytes t home A pick test picks

  abbrev pub Goes : (xs : List Seated) (g : ℕ) (ys : List Seated) (h : ℕ) → Type 0
  Goes xs g ys h = earlier bytes (frames t home bytes xs) (frames t home bytes ys) (nat_lt g h) ≡ true

  -- ---- of a part

  pub record First (f : Focus A) (body : Body) (low high : ℕ) (all : List Seated) : Type 0 where
    pub gate : ℕ
    pub trail : Trail image bytes t home body gate all
    pub from : low ≤ gate
    pub to : gate < high
    pub passes : Passes gate
    pub at : (d : Spot) → FocusStands t home (view image bytes) f body low high d → d.low ≡ gate
    pub others : (h : ℕ) → low ≤ h → h < high → Passes h → (h ≡ gate) ⊎ ((y : Trail image bytes t home body h all) × Goes trail.around gate y.around h)

  abbrev pub FirstOf : Option (Focus A) → Body → (low high : ℕ) → List Seated → Type 0
  FirstOf None body low high all = (h : ℕ) → low ≤ h → h < high → Passes h → ⊥
  FirstOf (Some f) body low high all = First f body low high all

  pub leaf_first : (r : Residual) (body : Body) (low high : ℕ) → LeafStands t (view image bytes) (home body) r low high → (o : Option A) → pick r ≡ o → FirstOf (here o) body low high []
  unfolding FocusStands
  leaf_first r body low high x None e = λ h a b p.
      let same = leaf_at image bytes t home A pick test picks (home body) r low high h x a b p in
      false≢true (sym (picks.leaf_passed (home body) r ((view image bytes).gate low) x.gate_is e) ∙ subst (λ (n : ℕ). test ((view image bytes).gate n) ≡ true) (sym same) p)
  leaf_first r body low high x (Some a) e =
      let some = x.some_gate in
      let p = picks.leaf_picked (home body) r ((view image bytes).gate low) a x.gate_is e in
      record {
        gate = low;
        trail = leaf_trail image bytes t home A pick test picks r body low high low x (omega arith) some p;
        from = omega arith;
        to = some;
        passes = p;
        at = λ d q. ap (λ (s : Spot). s.low) q;
        others = λ h a b q. inl (sym (leaf_at image bytes t home A pick test picks (home body) r low high h x a b q));
      }

  -- ---- of a part inside another one

  pub record Inside (fr : Frame) (body : Body) (low high : ℕ) (all : List Seated) (inner : Body) (from to : ℕ) (inside : List Seated) : Type 0 where
    pub goes : (e : Spot) → FrameStands t home (view image bytes) fr body low high e → e ≡ spot inner from to
    pub above : low ≤ from
    pub below : to ≤ high
    pub covers : (h : ℕ) → low ≤ h → h < high → Passes h → (from ≤ h) × (h < to)
    pub trails : (g : ℕ) (y : Trail image bytes t home inner g inside) → (z : Trail image bytes t home body g all) × (z.around ≡ y.around)

  pub under_first : (fr : Frame) (body : Body) (low high : ℕ) (all : List Seated) (inner : Body) (from to : ℕ) (inside : List Seated) → Inside fr body low high all inner from to inside
      → (o : Option (Focus A)) → FirstOf o inner from to inside → FirstOf (under fr o) body low high all
  unfolding FocusStands
  under_first fr body low high all inner from to inside i None x = λ h a b p. let c = i.covers h a b p in x h c.0 c.1 p
  under_first fr body low high all inner from to inside i (Some f) x =
      let z = i.trails x.gate x.trail in
      record {
        gate = x.gate;
        trail = z.0;
        from = omega (arith, i.above, x.from);
        to = omega (arith, i.below, x.to);
        passes = x.passes;
        at = λ d q. x.at d (subst (λ (e : Spot). FocusStands t home (view image bytes) f e.body e.low e.high d) (i.goes q.0 q.1) q.2);
        others = λ h a b p.
            let c = i.covers h a b p in
            elim (x.others h c.0 c.1 p) [
              | inl e ↦ inl e
              | inr y ↦
                  let u = i.trails h y.0 in
                  inr (u.0, ap (λ (xs : List Seated). earlier bytes (frames t home bytes xs) (frames t home bytes u.0.around) (nat_lt x.gate h)) z.1 ∙ ap (λ (ys : List Seated). earlier bytes (frames t home bytes x.trail.around) (frames t home bytes ys) (nat_lt x.gate h)) u.1 ∙ y.1)
            ];
      }

  -- ---- of some instances

  pub record FirstSeat (before : Instances) (seat : Seat) (f : Focus A) (after : Instances) (decls : List KDecl) (body : Body) (pools : ℕ) (all : Instances) : Type 0 where
    pub gate : ℕ
    pub trail : SeatTrail image bytes t home decls body pools all gate
    pub passes : Passes gate
    pub at : (e d : Spot) → SeatsAround t home (view image bytes) before seat after decls body pools e → FocusStands t home (view image bytes) f e.body e.low e.high d → d.low ≡ gate
    pub others : (h : ℕ) → InSeats t decls pools all h → Passes h
        → (h ≡ gate) ⊎ ((y : SeatTrail image bytes t home decls body pools all h) × Goes (record { seat = trail.seat; body = body } ∷ trail.inner) gate (record { seat = y.seat; body = body } ∷ y.inner) h)

  abbrev pub SeatsFirst : ChosenInstance A → List KDecl → Body → (pools : ℕ) → Instances → Type 0
  SeatsFirst no_chosen_instance decls body pools all = (h : ℕ) → InSeats t decls pools all h → Passes h → ⊥
  SeatsFirst (chosen_instance before seat f after) decls body pools all = FirstSeat before seat f after decls body pools all

  -- two instances of one block
  seats_go : (decls : List KDecl) (body : Body) (pools : ℕ) (a b : Seat) (xs ys : List Seated) (g h : ℕ) → Ascend 0 decls → has_place decls a ≡ true → has_place decls b ≡ true → is_before a b ≡ true
      → Known t home bytes (record { seat = a; body = body }) → Known t home bytes (record { seat = b; body = body }) → Older t home bytes (record { seat = a; body = body }) (record { seat = b; body = body })
      → g < seat_gate t decls pools a + t.gates a.code → seat_gate t decls pools b ≤ h → Goes (record { seat = a; body = body } ∷ xs) g (record { seat = b; body = body } ∷ ys) h
  seats_go decls body pools a b xs ys g h up pa pb ab ka kb o to from = goes t home bytes x y (frames t home bytes xs) (frames t home bytes ys) (nat_lt g h) ka kb o lower
    where
      x : Seated
      x = record { seat = a; body = body }

      y : Seated
      y = record { seat = b; body = body }

      lower : of_one_pool bytes (frame_of t home bytes (record { seat = a; body = body })) (frame_of t home bytes (record { seat = b; body = body })) ≡ false → nat_lt g h ≡ true
      lower e = elim (or_cases (nat_lt a.pool b.pool) ((a.pool == b.pool) && nat_lt a.number b.number && not (a.place == b.place)) ab) [
        | inl l ↦ let z = seats_apart t 0 decls pools a b up pa pb (ltb-true a.pool b.pool l) in lt-ltb g h (omega (arith, z, to, from))
        | inr l ↦
            let same = eqb-true a.pool b.pool (and_parts (a.pool == b.pool) (nat_lt a.number b.number) (and_parts ((a.pool == b.pool) && nat_lt a.number b.number) (not (a.place == b.place)) l).0).0 in
            let fa = frame_of t home bytes (record { seat = a; body = body }) in
            let fb = frame_of t home bytes (record { seat = b; body = body }) in
            let one = and_from (pool_of bytes fa == pool_of bytes fb) (outer_frame bytes fa == outer_frame bytes fb) (eq-eqb (pool_of bytes fa) (pool_of bytes fb) (ka.pool_is ∙ ap t.pool same ∙ sym kb.pool_is)) (eq-eqb (outer_frame bytes fa) (outer_frame bytes fb) (ka.outer_is ∙ sym kb.outer_is)) in
            absurd (false≢true (sym e ∙ one))
      ]

  pub seat_first : (decls : List KDecl) (body : Body) (pools : ℕ) (seat : Seat) (r : Residual) (more : Instances)
      → SeatsStand t home (view image bytes) (instance seat r more) decls body pools → SeatsLaid image t home (instance seat r more) → seats_stand decls (instance seat r more) → Ascend 0 decls
      → InOrder (Older t home bytes) (instance_seats (instance seat r more) body) → (o : Option (Focus A)) (c : ChosenInstance A)
      → FirstOf o (Spawned seat.number) (seat_gate t decls pools seat) (seat_gate t decls pools seat + t.gates seat.code) (seats r (Spawned seat.number)) → SeatsFirst c decls body pools more
      → SeatsFirst (first_instance seat r more o c) decls body pools (instance seat r more)
  unfolding Stands Laid pools_stand seats first_seat later_seat
  seat_first decls body pools seat r more x l p up w None no_chosen_instance u c = λ h i q. elim i [ inl z ↦ u h z.0 z.1 q | inr z ↦ c h z q ]
  seat_first decls body pools seat r more x l p up w None (chosen_instance before s f after) u c = record {
    gate = c.gate;
    trail = later_seat image bytes t home decls body pools seat r more c.gate c.trail;
    passes = c.passes;
    at = λ e d y q. c.at e d (record { before_stand = y.before_stand.1; seat_stands = y.seat_stands; after_stand = y.after_stand }) q;
    others = λ h i q. elim i [
      | inl z ↦ absurd (u h z.0 z.1 q)
      | inr z ↦ elim (c.others h z q) [ inl e ↦ inl e | inr y ↦ inr (later_seat image bytes t home decls body pools seat r more h y.0, y.1) ]
    ];
  }
  seat_first decls body pools seat r more x l p up w (Some f) c u d = record {
    gate = u.gate;
    trail = first_seat image bytes t home decls body pools seat r more u.gate _ _ _ x.0 l.0 p.0 u.from u.to u.trail;
    passes = u.passes;
    at = λ e d y q. u.at d (subst (λ (s : Spot). FocusStands t home (view image bytes) f s.body s.low s.high d) y.seat_stands.inner q);
    others = λ h i q. elim i [
      | inl z ↦ elim (u.others h z.0 z.1 q) [
        | inl e ↦ inl e
        | inr y ↦
            inr (first_seat image bytes t home decls body pools seat r more h _ _ _ x.0 l.0 p.0 z.0 z.1 y.0, earlier_behind bytes (frame_of t home bytes (record { seat = seat; body = body }) ∷ []) (frames t home bytes u.trail.around) (frames t home bytes y.0.around) (nat_lt u.gate h) ∙ y.1)
      ]
      | inr z ↦
          let y = seats_trail image bytes t home A pick test picks more decls body pools h x.1 l.1 p.3 z q in
          let a = first_seat image bytes t home decls body pools seat r more u.gate _ _ _ x.0 l.0 p.0 u.from u.to u.trail in
          let o = before_at (Older t home bytes) (record { seat = seat; body = body }) (record { seat = y.seat; body = body }) (instance_seats more body) (before_right (Older t home bytes) (record { seat = seat; body = body }) (seats r (Spawned seat.number)) (instance_seats more body) w.0) y.among in
          inr (later_seat image bytes t home decls body pools seat r more h y, seats_go decls body pools seat y.seat u.trail.around y.inner u.gate h up p.0 y.placed (y.before seat p.1) a.known y.known o u.to y.from)
    ];
  }
