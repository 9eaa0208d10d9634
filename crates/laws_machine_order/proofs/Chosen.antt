-- The leaf that is chosen of a tree goes before all others that might be, and where none is chosen there is none.
use Rattle.std.proofs.Common.{◌≡◌, refl, sym, ap, subst, ◌<◌, ◌≤◌, ◌⊎◌, inl, inr, ℕ, ◌+◌, Bool, List, [], ◌∷◌, ◌++◌, Option, Some, None, arith}
use Rattle.std.specs.Prelude.{nat_lt}
use Rattle.std.proofs.lemmas.Bool.{cases_lt, lt-ltb}
use Rattle.ceu_code.specs.declared.image.Image.{Image}
use Rattle.ceu_mem.specs.declared.gate.Gate.{Gate}
use Rattle.ceu_tree.specs.declared.kernel.KDecl.{KDecl}
use Rattle.ceu_tree.specs.declared.kernel.ParKind.{ParKind}
use Rattle.ceu_tree.specs.declared.kernel.KNode.{KNode}
use Rattle.ceu_tree.specs.declared.kernel.KBlock.{KBlock, out-KBlock}
use Rattle.ceu_tree.specs.declared.kernel.KStmt.{out-KStmt}
use Rattle.ceu_tree.specs.Residual.{Body, Awaited, Spawned, Residual, Over, Run, WaitInput, WaitTime, WaitEvent, WaitForever, InAsync, Block, Open, Loop, Call, Par, Branches, no_branch, branch, Instances, no_instance, instance}
use Rattle.ceu_tree.specs.Focus.{OfBlock, OfOpen, OfLoop, OfCall, Focus, under, or_else, ChosenBranch, no_chosen_branch, chosen_branch, ChosenInstance, no_chosen_instance, chosen_instance, first_branch, in_par, in_block, choose, choose_branch, choose_instance}
use Rattle.ceu_tree.specs.Around.{kind_of}
use Rattle.ceu_tree.specs.Legal.{Seated, seats, branch_seats, instance_seats}
use Rattle.laws_meaning_instances.specs.Instances.{pools_stand, each_pools_stand, seats_stand}
use Rattle.laws_machine_layout.specs.Tables.{Tables}
use Rattle.laws_machine_layout.specs.Views.{view, Home}
use Rattle.laws_machine_layout.specs.Parts.{finalizers, pools_gates, par_blocks, par_slot}
use Rattle.laws_machine_layout.specs.Stands.{Stands, SeatsStand, BranchesStand}
use Rattle.laws_machine_layout.specs.Frames.{Spot, BranchesAround, FocusStands}
use Rattle.laws_machine_order.specs.Laid.{Ascend, Laid, SeatsLaid, BranchesLaid, InOrder}
use Rattle.laws_machine_order.proofs.Older.{order_left, order_right, among_left, among_right, Older, goes_across}
use Rattle.laws_machine_order.proofs.Places.{seat_within, pool_from}
use Rattle.laws_machine_order.proofs.Trails.{Picks}
use Rattle.laws_machine_order.proofs.Within.{branch_cases, Trail, wider, seat_trail, in_call, ended_passed, not_in, block_at, trail_in, branches_trail}
use Rattle.laws_machine_order.proofs.Firsts.{Passes, Goes, FirstOf, leaf_first, under_first, SeatsFirst, seat_first}

module _ (image : Image) (bytes : List ℕ) (t : Tables) (home : Body → Home) (A : Type 0) (pick : Residual → Option A) (test : Gate → Bool) (picks : Picks A pick test t) where
  abbrev Ok : ℕ → Type 0
  Ok = Passes image bytes t home A pick test picks

  abbrev Found : Option (Focus A) → Body → (low high : ℕ) → List Seated → Type 0
  Found = FirstOf image bytes t home A pick test picks

  -- ---- blocks

  block_first : (b : KBlock) (fin : List KNode) (all : Instances) (r : Residual) (rest : List KNode) (body : Body) (low high : ℕ) → Stands t home (view image bytes) (Block b fin all r rest) body low high → Laid image t home (Block b fin all r rest) body
      → pools_stand (Block b fin all r rest) → InOrder (Older t home bytes) (seats (Block b fin all r rest) body) → (c : ChosenInstance A) (o : Option (Focus A)) → SeatsFirst image bytes t home A pick test picks c (out-KBlock b).decls body (low + finalizers b) all
      → Found o body ((low + finalizers b) + pools_gates t (out-KBlock b).decls) (low + t.count (out-KBlock b).node) (seats r body) → Found (or_else (in_block b fin r rest c) (under (OfBlock b fin all rest) o)) body low high (seats (Block b fin all r rest) body)
  unfolding Stands Laid pools_stand seats FocusStands
  block_first b fin all r rest body low high x l p w no_chosen_instance o c d =
      under_first image bytes t home A pick test picks (OfBlock b fin all rest) body low high (instance_seats all body ++ seats r body) body ((low + finalizers b) + pools_gates t (out-KBlock b).decls) (low + t.count (out-KBlock b).node) (seats r body)
      (record {
        goes = λ e y. y.inner;
        above = omega arith;
        below = x.within;
        covers = λ h a z q. elim (block_at image bytes t home A pick test picks b fin all body low high _ _ h x l.ascend p.0 a z q) [ inl i ↦ absurd (c h i q) | inr i ↦ i ];
        trails = λ g y. (wider image bytes t home body g (seats r body) (instance_seats all body ++ seats r body) (λ z i. among_right z (instance_seats all body) (seats r body) i) y, refl);
      }) o d
  block_first b fin all r rest body low high x l p w (chosen_instance before seat f after) o c d =
      let within = seat_within t 0 (out-KBlock b).decls (low + finalizers b) c.trail.seat l.ascend c.trail.placed in
      let start = pool_from t c.trail.seat.pool (out-KBlock b).decls (low + finalizers b) in
      record {
        gate = c.gate;
        trail = wider image bytes t home body c.gate (instance_seats all body) (instance_seats all body ++ seats r body) (λ z i. among_left z (instance_seats all body) (seats r body) i) (seat_trail image bytes t home (out-KBlock b).decls body (low + finalizers b) all c.gate c.trail);
        from = omega (arith, start, c.trail.from);
        to = omega (arith, within, c.trail.to, x.parts_within, x.within);
        passes = c.passes;
        at = λ e q. c.at q.0 e q.1.seats q.2;
        others = λ h a z q. elim (block_at image bytes t home A pick test picks b fin all body low high _ _ h x l.ascend p.0 a z q) [
          | inl i ↦ elim (c.others h i q) [
            | inl e ↦ inl e
            | inr y ↦
                inr (wider image bytes t home body h (instance_seats all body) (instance_seats all body ++ seats r body) (λ z i. among_left z (instance_seats all body) (seats r body) i) (seat_trail image bytes t home (out-KBlock b).decls body (low + finalizers b) all h y.0), y.1)
          ]
          | inr i ↦
              let y = trail_in image bytes t home A pick test picks r body _ _ h x.inner l.inner p.1 i.0 i.1 q in
              inr (
                wider image bytes t home body h (seats r body) (instance_seats all body ++ seats r body) (λ z i. among_right z (instance_seats all body) (seats r body) i) y,
                goes_across t home bytes (record { seat = c.trail.seat; body = body } ∷ c.trail.inner) y.around (instance_seats all body) (seats r body) (nat_lt c.gate h) (c.trail.among, c.trail.known) y.head w (lt-ltb c.gate h (omega (arith, within, c.trail.to, i.0))),
              )
        ];
      }

  -- ---- branches

  pub record FirstBranch (before : Branches) (f : Focus A) (after : Branches) (k : ParKind) (slot : ℕ) (blocks : List KBlock) (body : Body) (low high : ℕ) (all : List Seated) : Type 0 where
    gate : ℕ
    trail : Trail image bytes t home body gate all
    from : low ≤ gate
    to : gate < high
    passes : Ok gate
    at : (e d : Spot) → BranchesAround t home (view image bytes) k slot blocks before after body low high e → FocusStands t home (view image bytes) f e.body e.low e.high d → d.low ≡ gate
    others : (h : ℕ) → low ≤ h → h < high → Ok h → (h ≡ gate) ⊎ ((y : Trail image bytes t home body h all) × Goes image bytes t home A pick test picks trail.around gate y.around h)

  abbrev BranchesFirst : ChosenBranch A → ParKind → (slot : ℕ) → List KBlock → Body → (low high : ℕ) → List Seated → Type 0
  BranchesFirst no_chosen_branch k slot blocks body low high all = (h : ℕ) → low ≤ h → h < high → Ok h → ⊥
  BranchesFirst (chosen_branch before f after) k slot blocks body low high all = FirstBranch before f after k slot blocks body low high all

  par_first : (s : KNode) (bs : Branches) (body : Body) (low high : ℕ) → Stands t home (view image bytes) (Par s bs) body low high → (c : ChosenBranch A)
      → BranchesFirst c (kind_of (out-KStmt s.stmt)) (par_slot (out-KStmt s.stmt)) (par_blocks (out-KStmt s.stmt)) body low (low + t.count s.node) (branch_seats bs body) → Found (in_par s c) body low high (seats (Par s bs) body)
  unfolding Stands seats FocusStands
  par_first s bs body low high x no_chosen_branch c = λ h a b q. elim (cases_lt h (low + t.count s.node)) [
    | inl i ↦ c h a i q
    | inr i ↦ not_in image bytes t home A pick test picks (low + t.count s.node) high h x.behind i b q
  ]
  par_first s bs body low high x (chosen_branch before f after) c = record {
    gate = c.gate;
    trail = c.trail;
    from = c.from;
    to = omega (arith, c.to, x.within);
    passes = c.passes;
    at = λ d q. c.at q.0 d q.1.inner q.2;
    others = λ h a b q. elim (cases_lt h (low + t.count s.node)) [
      | inl i ↦ c.others h a i q
      | inr i ↦ absurd (not_in image bytes t home A pick test picks (low + t.count s.node) high h x.behind i b q)
    ];
  }

  branch_within : (k : ParKind) (slot : ℕ) (b : KBlock) (bs : List KBlock) (r : Residual) (more : Branches) (body : Body) (low high : ℕ) → BranchesStand t home (view image bytes) k slot (b ∷ bs) (branch r more) body low high → low + t.count (out-KBlock b).node ≤ high
  unfolding Stands
  branch_within k slot b bs r more body low high x = elim (branch_cases r _ _ x.0) [ inl y ↦ y.1.1 | inr y ↦ y.within ]

  branch_first : (k : ParKind) (slot : ℕ) (b : KBlock) (bs : List KBlock) (r : Residual) (more : Branches) (body : Body) (low high : ℕ) → BranchesStand t home (view image bytes) k slot (b ∷ bs) (branch r more) body low high
      → BranchesLaid image t home (branch r more) body → each_pools_stand (branch r more) → InOrder (Older t home bytes) (branch_seats (branch r more) body) → (o : Option (Focus A)) (c : ChosenBranch A)
      → Found o body low (low + t.count (out-KBlock b).node) (seats r body) → BranchesFirst c k (slot + 1) bs body (low + t.count (out-KBlock b).node) high (branch_seats more body)
      → BranchesFirst (first_branch r more o c) k slot (b ∷ bs) body low high (branch_seats (branch r more) body)
  unfolding Stands Laid pools_stand seats FocusStands
  branch_first k slot b bs r more body low high x l p w None no_chosen_branch u c = λ h a z q. elim (cases_lt h (low + t.count (out-KBlock b).node)) [ inl i ↦ u h a i q | inr i ↦ c h i z q ]
  branch_first k slot b bs r more body low high x l p w None (chosen_branch before f after) u c = record {
    gate = c.gate;
    trail = wider image bytes t home body c.gate (branch_seats more body) (seats r body ++ branch_seats more body) (λ z i. among_right z (seats r body) (branch_seats more body) i) c.trail;
    from = omega (arith, c.from);
    to = c.to;
    passes = c.passes;
    at = λ e d y q. c.at e d y.1 q;
    others = λ h a z q. elim (cases_lt h (low + t.count (out-KBlock b).node)) [
      | inl i ↦ absurd (u h a i q)
      | inr i ↦ elim (c.others h i z q) [
        | inl e ↦ inl e
        | inr y ↦ inr (wider image bytes t home body h (branch_seats more body) (seats r body ++ branch_seats more body) (λ z i. among_right z (seats r body) (branch_seats more body) i) y.0, y.1)
      ]
    ];
  }
  branch_first k slot b bs r more body low high x l p w (Some f) c u d =
      let within = branch_within k slot b bs r more body low high x in
      record {
        gate = u.gate;
        trail = wider image bytes t home body u.gate (seats r body) (seats r body ++ branch_seats more body) (λ z i. among_left z (seats r body) (branch_seats more body) i) u.trail;
        from = u.from;
        to = omega (arith, u.to, within);
        passes = u.passes;
        at = λ e d y q. u.at d (subst (λ (s : Spot). FocusStands t home (view image bytes) f s.body s.low s.high d) y.0.inner q);
        others = λ h a z q. elim (cases_lt h (low + t.count (out-KBlock b).node)) [
          | inl i ↦ elim (u.others h a i q) [
            | inl e ↦ inl e
            | inr y ↦ inr (wider image bytes t home body h (seats r body) (seats r body ++ branch_seats more body) (λ z i. among_left z (seats r body) (branch_seats more body) i) y.0, y.1)
          ]
          | inr i ↦
              let y = branches_trail image bytes t home A pick test picks k (slot + 1) bs more body (low + t.count (out-KBlock b).node) high h x.1 l.1 p.1 i z q in
              inr (
                wider image bytes t home body h (branch_seats more body) (seats r body ++ branch_seats more body) (λ z i. among_right z (seats r body) (branch_seats more body) i) y,
                goes_across t home bytes u.trail.around y.around (seats r body) (branch_seats more body) (nat_lt u.gate h) u.trail.head y.head w (lt-ltb u.gate h (omega (arith, u.to, i))),
              )
        ];
      }

  -- ---- trees

  same_trails : (body : Body) (all : List Seated) (g : ℕ) (y : Trail image bytes t home body g all) → (z : Trail image bytes t home body g all) × (z.around ≡ y.around)
  same_trails body all g y = (y, refl)

  mutual
    unfolding Stands Laid pools_stand seats choose

    pub tree_first : (r : Residual) (body : Body) (low high : ℕ) → Stands t home (view image bytes) r body low high → Laid image t home r body → pools_stand r → InOrder (Older t home bytes) (seats r body) → Found (choose A pick r) body low high (seats r body)
    tree_first Over body low high x l p w = absurd x
    tree_first (Run n a) body low high x l p w = leaf_first image bytes t home A pick test picks (Run n a) body low high x (pick (Run n a)) refl
    tree_first (WaitInput k s) body low high x l p w = leaf_first image bytes t home A pick test picks (WaitInput k s) body low high x (pick (WaitInput k s)) refl
    tree_first (WaitTime left s) body low high x l p w = leaf_first image bytes t home A pick test picks (WaitTime left s) body low high x (pick (WaitTime left s)) refl
    tree_first (WaitEvent e s) body low high x l p w = leaf_first image bytes t home A pick test picks (WaitEvent e s) body low high x (pick (WaitEvent e s)) refl
    tree_first (WaitForever s) body low high x l p w = leaf_first image bytes t home A pick test picks (WaitForever s) body low high x (pick (WaitForever s)) refl
    tree_first (InAsync s served r) body low high x l p w = leaf_first image bytes t home A pick test picks (InAsync s served r) body low high x.leaf (pick (InAsync s served r)) refl
    tree_first (Block b fin all r rest) body low high x l p w =
        block_first b fin all r rest body low high x l p w (choose_instance A pick all) (choose A pick r)
        (seats_first all (out-KBlock b).decls body (low + finalizers b) x.seats l.seats p.0 l.ascend (order_left (Older t home bytes) (instance_seats all body) (seats r body) w))
        (tree_first r body _ _ x.inner l.inner p.1 (order_right (Older t home bytes) (instance_seats all body) (seats r body) w))
    tree_first (Open s r) body low high x l p w =
        under_first image bytes t home A pick test picks (OfOpen s) body low high (seats r body) body low high (seats r body)
        (record { goes = λ e y. y.inner; above = omega arith; below = omega arith; covers = λ h a b q. (a, b); trails = same_trails body (seats r body) }) (choose A pick r) (tree_first r body low high x.inner l p w)
    tree_first (Loop s c r) body low high x l p w =
        under_first image bytes t home A pick test picks (OfLoop s c) body low high (seats r body) body low high (seats r body)
        (record { goes = λ e y. y.inner; above = omega arith; below = omega arith; covers = λ h a b q. (a, b); trails = same_trails body (seats r body) }) (choose A pick r) (tree_first r body low high x.inner l p w)
    tree_first (Call s r) body low high x l p w =
        under_first image bytes t home A pick test picks (OfCall s) body low high (seats r (Awaited body s.node)) (Awaited body s.node) low high (seats r (Awaited body s.node))
        (record {
          goes = λ e y. y.inner;
          above = omega arith;
          below = omega arith;
          covers = λ h a b q. (a, b);
          trails = λ g y. (in_call image bytes t home s body low _ _ g (seats r (Awaited body s.node)) x l y, refl);
        }) (choose A pick r) (tree_first r (Awaited body s.node) low high x.inner l.inner p w)
    tree_first (Par s bs) body low high x l p w =
        par_first s bs body low high x (choose_branch A pick bs)
        (branches_first bs (kind_of (out-KStmt s.stmt)) (par_slot (out-KStmt s.stmt)) (par_blocks (out-KStmt s.stmt)) body low (low + t.count s.node) x.inner l p w)

    pub seats_first : (all : Instances) (decls : List KDecl) (body : Body) (pools : ℕ) → SeatsStand t home (view image bytes) all decls body pools → SeatsLaid image t home all → seats_stand decls all → Ascend 0 decls
        → InOrder (Older t home bytes) (instance_seats all body) → SeatsFirst image bytes t home A pick test picks (choose_instance A pick all) decls body pools all
    seats_first no_instance decls body pools x l p up w = λ h i q. i
    seats_first (instance seat r more) decls body pools x l p up w =
        seat_first image bytes t home A pick test picks decls body pools seat r more x l p up w (choose A pick r) (choose_instance A pick more)
        (tree_first r (Spawned seat.number) _ _ x.0.inner l.0.inner p.2 (order_left (Older t home bytes) (seats r (Spawned seat.number)) (instance_seats more body) w.1))
        (seats_first more decls body pools x.1 l.1 p.3 up (order_right (Older t home bytes) (seats r (Spawned seat.number)) (instance_seats more body) w.1))

    pub branches_first : (bs : Branches) (k : ParKind) (slot : ℕ) (blocks : List KBlock) (body : Body) (low high : ℕ) → BranchesStand t home (view image bytes) k slot blocks bs body low high → BranchesLaid image t home bs body → each_pools_stand bs
        → InOrder (Older t home bytes) (branch_seats bs body) → BranchesFirst (choose_branch A pick bs) k slot blocks body low high (branch_seats bs body)
    branches_first no_branch k slot [] body low high x l p w = λ h a b q. not_in image bytes t home A pick test picks low high h x a b q
    branches_first no_branch k slot (b ∷ blocks) body low high x l p w = absurd x
    branches_first (branch r more) k slot [] body low high x l p w = absurd x
    branches_first (branch r more) k slot (b ∷ blocks) body low high x l p w =
        branch_first k slot b blocks r more body low high x l p w (choose A pick r) (choose_branch A pick more)
        (elim (branch_cases r _ _ x.0) [
          | inl y ↦
              let none : choose A pick r ≡ None = ap (choose A pick) y.0 in
              subst (λ (o : Option (Focus A)). FirstOf image bytes t home A pick test picks o body low (low + t.count (out-KBlock b).node) (seats r body)) (sym none)
              (λ h a z q. ended_passed image bytes t home A pick test picks (home body) k (out-KBlock b).node slot low (low + t.count (out-KBlock b).node) h y.1.0 a z q)
          | inr y ↦ tree_first r body low (low + t.count (out-KBlock b).node) y.inner l.0 p.0 (order_left (Older t home bytes) (seats r body) (branch_seats more body) w)
        ])
        (branches_first more k (slot + 1) blocks body (low + t.count (out-KBlock b).node) high x.1 l.1 p.1 (order_right (Older t home bytes) (seats r body) (branch_seats more body) w))
