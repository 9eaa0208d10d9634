-- The instances of each pool stand by age, where no slot of an open body is open twice.
use Rattle.std.proofs.Common.{◌≡◌, ◌≢◌, refl, sym, ap, ◌∙◌, subst, ◌⊎◌, inl, inr, ℕ, true, ◌==◌, List, [], ◌∷◌, ◌++◌, arith, append_assoc}
use Rattle.std.specs.Prelude.{nat_lt, ◌&&◌, not}
use Rattle.std.proofs.lemmas.Bool.{false≢true, and_parts, or_cases, ltb-true}
use Rattle.ceu_tree.specs.declared.kernel.KCode.{KCode}
use Rattle.ceu_tree.specs.declared.kernel.KDecl.{KDecl}
use Rattle.ceu_tree.specs.declared.kernel.KBlock.{out-KBlock}
use Rattle.ceu_tree.specs.declared.kernel.KStmt.{out-KStmt}
use Rattle.ceu_tree.specs.Residual.{Body, Program, Awaited, Spawned, Seat, Residual, Over, Run, WaitInput, WaitTime, WaitEvent, WaitForever, InAsync, Block, Open, Loop, Call, Par, Branches, no_branch, branch, Instances, no_instance, instance}
use Rattle.ceu_tree.specs.Leaf.{code_at}
use Rattle.ceu_tree.specs.Legal.{Seated, seats, branch_seats, instance_seats, OpenSlot, decls_open, loop_open, code_open, called_code, open_slots, branches_open, instances_open}
use Rattle.laws_meaning_instances.specs.Instances.{has_place, is_before, goes_before, pools_stand, each_pools_stand, seats_stand}
use Rattle.laws_machine_order.specs.Laid.{BeforeAll, InOrder}
use Rattle.laws_machine_order.specs.Told.{OlderInBody, Elsewhere, EachOnce}
use Rattle.laws_machine_order.specs.Laws.{OlderInBodies, TrailsTold}
use Rattle.laws_machine_order.proofs.Older.{Among}
use Rattle.laws_machine_order.proofs.Places.{has_cases}
use Rattle.laws_machine_order.proofs.Bodies.{among_either, older_stand}

-- ---- open slots

abbrev In : OpenSlot → List OpenSlot → Type 0
In x [] = ⊥
In x (y ∷ ys) = (x ≡ y) ⊎ In x ys

in_left : (x : OpenSlot) (a b : List OpenSlot) → In x a → In x (a ++ b)
in_left x [] b i = absurd i
in_left x (y ∷ a) b (inl e) = inl e
in_left x (y ∷ a) b (inr i) = inr (in_left x a b i)

in_right : (x : OpenSlot) (a b : List OpenSlot) → In x b → In x (a ++ b)
in_right x [] b i = i
in_right x (y ∷ a) b i = inr (in_right x a b i)

elsewhere_at : (x y : OpenSlot) (b : List OpenSlot) → Elsewhere x b → In y b → x ≢ y
elsewhere_at x y [] h i e = i
elsewhere_at x y (z ∷ b) h (inl s) e = h.0 (e ∙ s)
elsewhere_at x y (z ∷ b) h (inr i) e = elsewhere_at x y b h.1 i e

elsewhere_left : (x : OpenSlot) (a b : List OpenSlot) → Elsewhere x (a ++ b) → Elsewhere x a
elsewhere_left x [] b h = tt
elsewhere_left x (y ∷ a) b h = (h.0, elsewhere_left x a b h.1)

elsewhere_right : (x : OpenSlot) (a b : List OpenSlot) → Elsewhere x (a ++ b) → Elsewhere x b
elsewhere_right x [] b h = h
elsewhere_right x (y ∷ a) b h = elsewhere_right x a b h.1

once_left : (a b : List OpenSlot) → EachOnce (a ++ b) → EachOnce a
once_left [] b h = tt
once_left (x ∷ a) b h = (elsewhere_left x a b h.0, once_left a b h.1)

once_right : (a b : List OpenSlot) → EachOnce (a ++ b) → EachOnce b
once_right [] b h = h
once_right (x ∷ a) b h = once_right a b h.1

-- of those here and those there
Apart : List OpenSlot → List OpenSlot → Type 0
Apart a b = (x y : OpenSlot) → In x a → In y b → x ≢ y

once_apart : (a b : List OpenSlot) → EachOnce (a ++ b) → Apart a b
unfolding Apart
once_apart [] b h = λ x y i j e. i
once_apart (z ∷ a) b h = λ x y i j e. elim i [
  | inl s ↦ elsewhere_at z y b (elsewhere_right z a b h.0) j (sym s ∙ e)
  | inr k ↦ once_apart a b h.1 x y k j e
]

apart_left : (a b c : List OpenSlot) → Apart a (b ++ c) → Apart a b
unfolding Apart
apart_left a b c h x y i j = h x y i (in_left y b c j)

apart_right : (a b c : List OpenSlot) → Apart a (b ++ c) → Apart a c
unfolding Apart
apart_right a b c h x y i j = h x y i (in_right y b c j)

-- three parts
in_three : (x : OpenSlot) (a b c : List OpenSlot) → In x (a ++ (b ++ c)) → In x ((a ++ b) ++ c)
in_three x a b c i = subst (λ (l : List OpenSlot). In x l) (sym (append_assoc a b c)) i

once_three : (a b c : List OpenSlot) → EachOnce ((a ++ b) ++ c) → EachOnce (a ++ (b ++ c))
once_three a b c h = subst (λ (l : List OpenSlot). EachOnce l) (append_assoc a b c) h

apart_three : (o a b c : List OpenSlot) → Apart o ((a ++ b) ++ c) → Apart o (a ++ (b ++ c))
apart_three o a b c h = subst (λ (l : List OpenSlot). Apart o l) (append_assoc a b c) h

abbrev slot_of : Seated → OpenSlot
slot_of x = record { body = x.body; slot = x.seat.pool }

slots_same : (x y : Seated) → x.body ≡ y.body → x.seat.pool ≡ y.seat.pool → slot_of x ≡ slot_of y
slots_same x y e f = ap (λ (b : Body). record { body = b; slot = x.seat.pool }) e ∙ ap (λ (n : ℕ). record { body = y.body; slot = n }) f

-- ---- instances whose slots aren't the same

order_append : (a b : List Seated) → InOrder OlderInBody a → InOrder OlderInBody b → ((x y : Seated) → Among x a → Among y b → OlderInBody x y) → InOrder OlderInBody (a ++ b)
order_append [] b h k f = k
order_append (x ∷ a) b h k f = (before_append a h.0 (λ y j. f x y (inl refl) j), order_append a b h.1 k (λ y z i j. f y z (inr i) j))
  where
    before_all : (c : List Seated) → ((y : Seated) → Among y c → OlderInBody x y) → BeforeAll OlderInBody x c
    before_all [] g = tt
    before_all (y ∷ c) g = (g y (inl refl), before_all c (λ z i. g z (inr i)))

    before_append : (c : List Seated) → BeforeAll OlderInBody x c → ((y : Seated) → Among y b → OlderInBody x y) → BeforeAll OlderInBody x (c ++ b)
    before_append [] h g = before_all b g
    before_append (y ∷ c) h g = (h.0, before_append c h.1 g)

before_those : (x : Seated) (c : List Seated) → ((y : Seated) → Among y c → OlderInBody x y) → BeforeAll OlderInBody x c
before_those x [] g = tt
before_those x (y ∷ c) g = (g y (inl refl), before_those x c (λ z i. g z (inr i)))

apart_older : (a b : List OpenSlot) (x y : Seated) → Apart a b → In (slot_of x) a → In (slot_of y) b → OlderInBody x y
unfolding Apart
apart_older a b x y h i j = λ e f. absurd (h (slot_of x) (slot_of y) i j (slots_same x y e f))

apart_younger : (a b : List OpenSlot) (x y : Seated) → Apart a b → In (slot_of x) b → In (slot_of y) a → OlderInBody x y
unfolding Apart
apart_younger a b x y h i j = λ e f. absurd (h (slot_of y) (slot_of x) j i (sym (slots_same x y e f)))

declared : (ds : List KDecl) (body : Body) (seat : Seat) → has_place ds seat ≡ true → In (record { body = body; slot = seat.pool }) (decls_open body ds)
declared [] body seat e = absurd (false≢true e)
declared (d ∷ ds) body seat e = elim (has_cases d ds seat e) [
  | inl h ↦ inl (ap (λ (n : ℕ). record { body = body; slot = n }) (sym h.pool_is))
  | inr h ↦ inr (declared ds body seat h)
]

seats_older : (body : Body) (a b : Seat) → is_before a b ≡ true → OlderInBody (record { seat = a; body = body }) (record { seat = b; body = body })
seats_older body a b ab = λ e f. elim (or_cases (nat_lt a.pool b.pool) ((a.pool == b.pool) && nat_lt a.number b.number && not (a.place == b.place)) ab) [
  | inl l ↦ let z = ltb-true a.pool b.pool l in absurd (omega (arith, z, f))
  | inr l ↦ ltb-true a.number b.number (and_parts (a.pool == b.pool) (nat_lt a.number b.number) (and_parts ((a.pool == b.pool) && nat_lt a.number b.number) (not (a.place == b.place)) l).0).1
]

module _ (codes : List KCode) where
  -- an instance is one of the block's own, or one inside
  record Own (all : Instances) (decls : List KDecl) (body : Body) (y : Seated) : Type 0 where
    seat : Seat
    is : y ≡ record { seat = seat; body = body }
    placed : has_place decls seat ≡ true
    before : (a : Seat) → goes_before a all ≡ true → is_before a seat ≡ true

  mutual
    unfolding seats pools_stand open_slots

    pub slots_open : (r : Residual) (body : Body) → pools_stand r → (x : Seated) → Among x (seats r body) → In (slot_of x) (open_slots codes r body)
    slots_open Over body p x i = absurd i
    slots_open (Run n a) body p x i = absurd i
    slots_open (WaitInput k s) body p x i = absurd i
    slots_open (WaitTime k s) body p x i = absurd i
    slots_open (WaitEvent k s) body p x i = absurd i
    slots_open (WaitForever s) body p x i = absurd i
    slots_open (InAsync s served r) body p x i = absurd i
    slots_open (Block b fin all r rest) body p x i = elim (among_either x (instance_seats all body) (seats r body) i) [
      | inl j ↦ elim (own_or_inside all (out-KBlock b).decls body p.0 x j) [
        | inl o ↦ in_three (slot_of x) (decls_open body (out-KBlock b).decls) (instances_open codes all) (open_slots codes r body) (in_left (slot_of x) (decls_open body (out-KBlock b).decls) (instances_open codes all ++ open_slots codes r body) (subst (λ (z : Seated). In (slot_of z) (decls_open body (out-KBlock b).decls)) (sym o.is) (declared (out-KBlock b).decls body o.seat o.placed)))
        | inr k ↦ in_three (slot_of x) (decls_open body (out-KBlock b).decls) (instances_open codes all) (open_slots codes r body) (in_right (slot_of x) (decls_open body (out-KBlock b).decls) (instances_open codes all ++ open_slots codes r body) (in_left (slot_of x) (instances_open codes all) (open_slots codes r body) k))
      ]
      | inr j ↦ in_three (slot_of x) (decls_open body (out-KBlock b).decls) (instances_open codes all) (open_slots codes r body) (in_right (slot_of x) (decls_open body (out-KBlock b).decls) (instances_open codes all ++ open_slots codes r body) (in_right (slot_of x) (instances_open codes all) (open_slots codes r body) (slots_open r body p.1 x j)))
    ]
    slots_open (Open s r) body p x i = slots_open r body p x i
    slots_open (Loop s c r) body p x i = in_right (slot_of x) (loop_open body (out-KStmt s.stmt)) _ (slots_open r body p x i)
    slots_open (Call s r) body p x i = in_right (slot_of x) (code_open (Awaited body s.node) (called_code codes (out-KStmt s.stmt))) _ (slots_open r (Awaited body s.node) p x i)
    slots_open (Par s bs) body p x i = branch_slots bs body p x i

    branch_slots : (bs : Branches) (body : Body) → each_pools_stand bs → (x : Seated) → Among x (branch_seats bs body) → In (slot_of x) (branches_open codes bs body)
    branch_slots no_branch body p x i = absurd i
    branch_slots (branch r more) body p x i = elim (among_either x (seats r body) (branch_seats more body) i) [
      | inl j ↦ in_left (slot_of x) (open_slots codes r body) (branches_open codes more body) (slots_open r body p.0 x j)
      | inr j ↦ in_right (slot_of x) (open_slots codes r body) (branches_open codes more body) (branch_slots more body p.1 x j)
    ]

    own_or_inside : (all : Instances) (decls : List KDecl) (body : Body) → seats_stand decls all → (x : Seated) → Among x (instance_seats all body) → Own all decls body x ⊎ In (slot_of x) (instances_open codes all)
    own_or_inside no_instance decls body p x i = absurd i
    own_or_inside (instance seat r more) decls body p x (inl e) =
        inl (record { seat = seat; is = e; placed = p.0; before = λ a q. (and_parts (is_before a seat) (goes_before a more) q).0 })
    own_or_inside (instance seat r more) decls body p x (inr i) = elim (among_either x (seats r (Spawned seat.number)) (instance_seats more body) i) [
      | inl j ↦
          inr (in_three (slot_of x) (code_open (Spawned seat.number) (code_at seat.code codes)) (open_slots codes r (Spawned seat.number)) (instances_open codes more) (in_right (slot_of x) (code_open (Spawned seat.number) (code_at seat.code codes)) (open_slots codes r (Spawned seat.number) ++ instances_open codes more) (in_left (slot_of x) (open_slots codes r (Spawned seat.number)) (instances_open codes more) (slots_open r (Spawned seat.number) p.2 x j))))
      | inr j ↦ elim (own_or_inside more decls body p.3 x j) [
        | inl o ↦ inl (record { seat = o.seat; is = o.is; placed = o.placed; before = λ a q. o.before a (and_parts (is_before a seat) (goes_before a more) q).1 })
        | inr k ↦ inr (in_three (slot_of x) (code_open (Spawned seat.number) (code_at seat.code codes)) (open_slots codes r (Spawned seat.number)) (instances_open codes more) (in_right (slot_of x) (code_open (Spawned seat.number) (code_at seat.code codes)) (open_slots codes r (Spawned seat.number) ++ instances_open codes more) (in_right (slot_of x) (open_slots codes r (Spawned seat.number)) (instances_open codes more) k)))
      ]
    ]

  mutual
    unfolding seats pools_stand open_slots

    pub older_in : (r : Residual) (body : Body) → pools_stand r → EachOnce (open_slots codes r body) → InOrder OlderInBody (seats r body)
    older_in Over body p d = tt
    older_in (Run n a) body p d = tt
    older_in (WaitInput k s) body p d = tt
    older_in (WaitTime k s) body p d = tt
    older_in (WaitEvent k s) body p d = tt
    older_in (WaitForever s) body p d = tt
    older_in (InAsync s served r) body p d = tt
    older_in (Block b fin all r rest) body p d =
        let parts : EachOnce (instances_open codes all ++ open_slots codes r body) = once_right (decls_open body (out-KBlock b).decls) (instances_open codes all ++ open_slots codes r body) (once_three (decls_open body (out-KBlock b).decls) (instances_open codes all) (open_slots codes r body) d) in
        let apart = once_apart (decls_open body (out-KBlock b).decls) (instances_open codes all ++ open_slots codes r body) (once_three (decls_open body (out-KBlock b).decls) (instances_open codes all) (open_slots codes r body) d) in
        order_append (instance_seats all body) (seats r body)
        (older_among all (out-KBlock b).decls body p.0 (once_left (instances_open codes all) (open_slots codes r body) parts) (apart_left (decls_open body (out-KBlock b).decls) (instances_open codes all) (open_slots codes r body) apart))
        (older_in r body p.1 (once_right (instances_open codes all) (open_slots codes r body) parts))
        (λ x y i j. elim (own_or_inside all (out-KBlock b).decls body p.0 x i) [
          | inl o ↦
              apart_older (decls_open body (out-KBlock b).decls) (open_slots codes r body) x y (apart_right (decls_open body (out-KBlock b).decls) (instances_open codes all) (open_slots codes r body) apart)
              (subst (λ (z : Seated). In (slot_of z) (decls_open body (out-KBlock b).decls)) (sym o.is) (declared (out-KBlock b).decls body o.seat o.placed)) (slots_open r body p.1 y j)
          | inr k ↦ apart_older (instances_open codes all) (open_slots codes r body) x y (once_apart (instances_open codes all) (open_slots codes r body) parts) k (slots_open r body p.1 y j)
        ])
    older_in (Open s r) body p d = older_in r body p d
    older_in (Loop s c r) body p d = older_in r body p (once_right (loop_open body (out-KStmt s.stmt)) (open_slots codes r body) d)
    older_in (Call s r) body p d = older_in r (Awaited body s.node) p (once_right (code_open (Awaited body s.node) (called_code codes (out-KStmt s.stmt))) (open_slots codes r (Awaited body s.node)) d)
    older_in (Par s bs) body p d = older_branches bs body p d

    older_branches : (bs : Branches) (body : Body) → each_pools_stand bs → EachOnce (branches_open codes bs body) → InOrder OlderInBody (branch_seats bs body)
    older_branches no_branch body p d = tt
    older_branches (branch r more) body p d =
        order_append (seats r body) (branch_seats more body) (older_in r body p.0 (once_left (open_slots codes r body) (branches_open codes more body) d)) (older_branches more body p.1 (once_right (open_slots codes r body) (branches_open codes more body) d))
        (λ x y i j. apart_older (open_slots codes r body) (branches_open codes more body) x y (once_apart (open_slots codes r body) (branches_open codes more body) d) (slots_open r body p.0 x i) (branch_slots more body p.1 y j))

    older_among : (all : Instances) (decls : List KDecl) (body : Body) → seats_stand decls all → EachOnce (instances_open codes all) → Apart (decls_open body decls) (instances_open codes all) → InOrder OlderInBody (instance_seats all body)
    older_among no_instance decls body p d a = tt
    older_among (instance seat r more) decls body p d a =
        let rest : EachOnce (open_slots codes r (Spawned seat.number) ++ instances_open codes more) = once_right (code_open (Spawned seat.number) (code_at seat.code codes)) (open_slots codes r (Spawned seat.number) ++ instances_open codes more) (once_three (code_open (Spawned seat.number) (code_at seat.code codes)) (open_slots codes r (Spawned seat.number)) (instances_open codes more) d) in
        let apart : Apart (decls_open body decls) (open_slots codes r (Spawned seat.number) ++ instances_open codes more) = apart_right (decls_open body decls) (code_open (Spawned seat.number) (code_at seat.code codes)) (open_slots codes r (Spawned seat.number) ++ instances_open codes more) (apart_three (decls_open body decls) (code_open (Spawned seat.number) (code_at seat.code codes)) (open_slots codes r (Spawned seat.number)) (instances_open codes more) a) in
        let from_own : Apart (decls_open body decls) (open_slots codes r (Spawned seat.number)) = apart_left (decls_open body decls) (open_slots codes r (Spawned seat.number)) (instances_open codes more) apart in
        let own_here : In (slot_of (record { seat = seat; body = body })) (decls_open body decls) = declared decls body seat p.0 in (
          before_those (record { seat = seat; body = body }) (seats r (Spawned seat.number) ++ instance_seats more body) (λ y i. elim (among_either y (seats r (Spawned seat.number)) (instance_seats more body) i) [
            | inl j ↦ apart_older (decls_open body decls) (open_slots codes r (Spawned seat.number)) (record { seat = seat; body = body }) y from_own own_here (slots_open r (Spawned seat.number) p.2 y j)
            | inr j ↦ elim (own_or_inside more decls body p.3 y j) [
              | inl o ↦ subst (OlderInBody (record { seat = seat; body = body })) (sym o.is) (seats_older body seat o.seat (o.before seat p.1))
              | inr k ↦
                  apart_older (decls_open body decls) (instances_open codes more) (record { seat = seat; body = body }) y (apart_right (decls_open body decls) (open_slots codes r (Spawned seat.number)) (instances_open codes more) apart) own_here k
            ]
          ]),
          order_append (seats r (Spawned seat.number)) (instance_seats more body) (older_in r (Spawned seat.number) p.2 (once_left (open_slots codes r (Spawned seat.number)) (instances_open codes more) rest))
              (older_among more decls body p.3 (once_right (open_slots codes r (Spawned seat.number)) (instances_open codes more) rest) (apart_right (decls_open body decls) (open_slots codes r (Spawned seat.number)) (instances_open codes more) apart))
              (λ x y i j. elim (own_or_inside more decls body p.3 y j) [
                | inl o ↦
                    apart_younger (decls_open body decls) (open_slots codes r (Spawned seat.number)) x y from_own (slots_open r (Spawned seat.number) p.2 x i)
                    (subst (λ (z : Seated). In (slot_of z) (decls_open body decls)) (sym o.is) (declared decls body o.seat o.placed))
                | inr k ↦ apart_older (open_slots codes r (Spawned seat.number)) (instances_open codes more) x y (once_apart (open_slots codes r (Spawned seat.number)) (instances_open codes more) rest) (slots_open r (Spawned seat.number) p.2 x i) k
              ]),
        )

pub older_in_bodies : OlderInBodies
older_in_bodies codes r p d = older_in codes r Program p d

pub trails_told : TrailsTold
trails_told image t o home codes r w bytes p x once =
    record { memory = p.memory; instances = x; laid = p.laid; older = older_stand image t o home r w bytes p (older_in_bodies codes r x.pools once) }
