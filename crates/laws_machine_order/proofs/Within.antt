-- Each gate of a part that passes the test is one of a leaf, and the instances around it are the part's.
use Rattle.std.proofs.Common.{◌≡◌, ◌≢◌, refl, sym, ap, ◌∙◌, subst, ◌<◌, ◌≤◌, ◌⊎◌, inl, inr, ℕ, ◌+◌, Bool, true, List, [], ◌∷◌, ◌++◌, length, Option, Some, arith, append_assoc}
use Rattle.std.proofs.lemmas.Bool.{false≢true, cases_lt, and_parts}
use Rattle.std.proofs.lemmas.List.{append-nil}
use Rattle.ceu_code.specs.declared.image.Image.{Image}
use Rattle.ceu_mem.specs.declared.gate.Gate.{Gate}
use Rattle.ceu_isa.specs.Layout.{free, finalizer, forever}
use Rattle.ceu_isa.specs.Order.{chain}
use Rattle.ceu_tree.specs.declared.kernel.KDecl.{KDecl}
use Rattle.ceu_tree.specs.declared.kernel.ParKind.{ParKind}
use Rattle.ceu_tree.specs.declared.kernel.ParKind.TheVariants as par
use Rattle.ceu_tree.specs.declared.kernel.KNode.{KNode}
use Rattle.ceu_tree.specs.declared.kernel.KBlock.{KBlock, out-KBlock}
use Rattle.ceu_tree.specs.declared.kernel.KStmt.{out-KStmt}
use Rattle.ceu_tree.specs.Residual.{Body, Awaited, Spawned, Seat, Residual, Over, Run, WaitInput, WaitTime, WaitEvent, WaitForever, InAsync, Block, Open, Loop, Call, Par, Branches, no_branch, branch, Instances, no_instance, instance}
use Rattle.ceu_tree.specs.Around.{kind_of}
use Rattle.ceu_tree.specs.Legal.{Seated, seats, branch_seats, instance_seats}
use Rattle.laws_meaning_instances.specs.Instances.{has_place, is_before, goes_before, pools_stand, each_pools_stand, seats_stand}
use Rattle.laws_machine_layout.specs.Tables.{Tables}
use Rattle.laws_machine_layout.specs.Views.{view, Free, Home}
use Rattle.laws_machine_layout.specs.Leaves.{LeafStands}
use Rattle.laws_machine_layout.specs.Parts.{Registered, finalizers, pools_gates, EndedBranch, par_blocks, par_slot, by_branch}
use Rattle.laws_machine_layout.specs.Stands.{Stands, SeatsStand, BranchesStand, BlockStands, SeatStands, CallStands}
use Rattle.laws_machine_order.specs.Laid.{Ascend, Laid, SeatsLaid, BranchesLaid, CallLaid, SeatLaid}
use Rattle.laws_machine_order.proofs.Older.{Among, among_left, among_right, frames, Known, Head}
use Rattle.laws_machine_order.proofs.Places.{seat_gate, InSeats, in_seats}
use Rattle.laws_machine_order.proofs.Trails.{Picks, leaf_frame, call_chain, seat_known, seat_chain}

pub branch_cases : (r : Residual) (E G : Type 0) → by_branch r E G → ((r ≡ Over) × E) ⊎ G
branch_cases Over E G x = inl (refl, x)
branch_cases r E G x = inr x

module _ (image : Image) (bytes : List ℕ) (t : Tables) (home : Body → Home) where
  -- the instances around a gate, from the frame of a body on, the outermost first
  pub record Trail (body : Body) (g : ℕ) (all : List Seated) : Type 0 where
    pub around : List Seated
    pub chained : (c : List ℕ) → chain image bytes (home body).frame ≡ Some c → chain image bytes ((view image bytes).gate g).frame ≡ Some (c ++ frames t home bytes around)
    pub head : Head t home bytes around all

  -- where the gate is one of an instance's
  pub record SeatTrail (decls : List KDecl) (body : Body) (pools : ℕ) (all : Instances) (g : ℕ) : Type 0 where
    pub seat : Seat
    pub inner : List Seated
    pub chained : (c : List ℕ) → chain image bytes (home body).frame ≡ Some c
        → chain image bytes ((view image bytes).gate g).frame ≡ Some (c ++ frames t home bytes (record { seat = seat; body = body } ∷ inner))
    pub among : Among (record { seat = seat; body = body }) (instance_seats all body)
    pub known : Known t home bytes (record { seat = seat; body = body })
    pub before : (a : Seat) → goes_before a all ≡ true → is_before a seat ≡ true
    pub placed : has_place decls seat ≡ true
    pub from : seat_gate t decls pools seat ≤ g
    pub to : g < seat_gate t decls pools seat + t.gates seat.code

  pub widened : (xs a b : List Seated) → ((x : Seated) → Among x a → Among x b) → Head t home bytes xs a → Head t home bytes xs b
  widened [] a b f h = tt
  widened (x ∷ xs) a b f h = (f x h.0, h.1)

  abbrev pub wider : (body : Body) (g : ℕ) (a b : List Seated) → ((x : Seated) → Among x a → Among x b) → Trail body g a → Trail body g b
  wider body g a b f x = record { around = x.around; chained = x.chained; head = widened x.around a b f x.head }

  abbrev pub seat_trail : (decls : List KDecl) (body : Body) (pools : ℕ) (all : Instances) (g : ℕ) → SeatTrail decls body pools all g → Trail body g (instance_seats all body)
  seat_trail decls body pools all g x = record { around = record { seat = x.seat; body = body } ∷ x.inner; chained = x.chained; head = (x.among, x.known) }

  abbrev pub in_call : (s : KNode) (body : Body) (low : ℕ) (Inner Laid_in : Type 0) (g : ℕ) (all : List Seated) → CallStands t home (view image bytes) s body low Inner → CallLaid image t home s body Laid_in
      → Trail (Awaited body s.node) g all → Trail body g all
  in_call s body low Inner Laid_in g all x l y = record { around = y.around; chained = λ c e. y.chained c (call_chain image bytes t home s body low Inner Laid_in c x l e); head = y.head }

  -- the first one of some instances
  unfoldable pub first_seat : (decls : List KDecl) (body : Body) (pools : ℕ) (seat : Seat) (r : Residual) (more : Instances) (g : ℕ) (Inner Laid_in : Type 0) (inside : List Seated)
      → SeatStands t home (view image bytes) seat decls body pools Inner → SeatLaid image t home seat.number Laid_in → has_place decls seat ≡ true → seat_gate t decls pools seat ≤ g → g < seat_gate t decls pools seat + t.gates seat.code
      → Trail (Spawned seat.number) g inside → SeatTrail decls body pools (instance seat r more) g
  unfolding seats
  first_seat decls body pools seat r more g Inner Laid_in inside x l placed from to y =
      record {
        seat = seat;
        inner = y.around;
        chained = λ c e.
            y.chained (c ++ (home (Spawned seat.number)).frame ∷ []) (seat_chain image bytes t home seat decls body pools Inner Laid_in x l c e) ∙
            ap (λ (xs : List ℕ). Some xs) (append_assoc c ((home (Spawned seat.number)).frame ∷ []) (frames t home bytes y.around));
        among = inl refl;
        known = seat_known image bytes t home seat decls body pools Inner Laid_in x l;
        before = λ a e. (and_parts (is_before a seat) (goes_before a more) e).0;
        placed = placed;
        from = from;
        to = to;
      }

  unfoldable pub later_seat : (decls : List KDecl) (body : Body) (pools : ℕ) (seat : Seat) (r : Residual) (more : Instances) (g : ℕ) → SeatTrail decls body pools more g → SeatTrail decls body pools (instance seat r more) g
  unfolding seats
  later_seat decls body pools seat r more g x =
      record {
        seat = x.seat;
        inner = x.inner;
        chained = x.chained;
        among = inr (among_right (record { seat = x.seat; body = body }) (seats r (Spawned seat.number)) (instance_seats more body) x.among);
        known = x.known;
        before = λ a e. x.before a (and_parts (is_before a seat) (goes_before a more) e).1;
        placed = x.placed;
        from = x.from;
        to = x.to;
      }

module _ (image : Image) (bytes : List ℕ) (t : Tables) (home : Body → Home) (A : Type 0) (pick : Residual → Option A) (test : Gate → Bool) (picks : Picks A pick test t) where
  abbrev pub Tested : ℕ → Type 0
  Tested g = test ((view image bytes).gate g) ≡ true

  pub not_free : (g : ℕ) → Tested g → ((view image bytes).gate g).kind ≢ free
  not_free g e f = false≢true (sym (picks.free_passed ((view image bytes).gate g) f) ∙ e)

  pub not_in : (low high g : ℕ) → Free (view image bytes) low high → low ≤ g → g < high → Tested g → ⊥
  not_in low high g f a b e = not_free g e (f.free_at g a b)

  registered_at : (h : Home) (fin : List KNode) (low g : ℕ) → Registered t (view image bytes) h fin low → low ≤ g → g < low + length fin → ((view image bytes).gate g).kind ≡ finalizer
  registered_at h [] low g x a b = absurd (omega arith)
  registered_at h (s ∷ more) low g x a b = elim (cases_lt g (low + length more)) [
    | inl l ↦ registered_at h more low g x.1 a l
    | inr l ↦ let same : low + length more ≡ g = omega (arith, b) in subst (λ (n : ℕ). ((view image bytes).gate n).kind ≡ finalizer) same x.0.keeps.kind_is
  ]

  pub ended_passed : (h : Home) (k : ParKind) (node slot low high g : ℕ) → EndedBranch t (view image bytes) h k node slot low high → low ≤ g → g < high → Tested g → ⊥
  ended_passed h par.Never node slot low high g x a b e = elim (cases_lt low g) [
    | inl l ↦ not_in (low + 1) high g x.2 (omega (arith, l)) b e
    | inr l ↦
        let same : low ≡ g = omega (arith, a) in
        false≢true (sym (picks.forever_passed ((view image bytes).gate g) (subst (λ (n : ℕ). ((view image bytes).gate n).kind ≡ forever) same x.1.kind_is)) ∙ e)
  ]
  ended_passed h par.And node slot low high g x a b e = not_in low high g x.1 a b e
  ended_passed h par.Or node slot low high g x a b e = x

  -- a gate of a leaf's range that passes is the leaf's
  pub leaf_at : (h : Home) (r : Residual) (low high g : ℕ) → LeafStands t (view image bytes) h r low high → low ≤ g → g < high → Tested g → low ≡ g
  leaf_at h r low high g x a b e = elim (cases_lt low g) [
    | inl l ↦ absurd (not_in (low + 1) high g x.others (omega (arith, l)) b e)
    | inr l ↦ omega (arith, a)
  ]

  pub leaf_trail : (r : Residual) (body : Body) (low high g : ℕ) → LeafStands t (view image bytes) (home body) r low high → low ≤ g → g < high → Tested g → Trail image bytes t home body g []
  leaf_trail r body low high g x a b e =
      let same : low ≡ g = leaf_at (home body) r low high g x a b e in
      let frame : ((view image bytes).gate g).frame ≡ (home body).frame = subst (λ (n : ℕ). ((view image bytes).gate n).frame ≡ (home body).frame) same (leaf_frame t (home body) r ((view image bytes).gate low) x.gate_is) in
      record { around = []; chained = λ c q. ap (chain image bytes) frame ∙ q ∙ ap (λ (xs : List ℕ). Some xs) (sym (append-nil c)); head = tt }

  -- a gate of a block that passes is one of an instance or of the running part
  pub block_at : (b : KBlock) (fin : List KNode) (all : Instances) (body : Body) (low high : ℕ) (Seats Inner : Type 0) (g : ℕ) → BlockStands t home (view image bytes) b fin all body low high Seats Inner
      → Ascend 0 (out-KBlock b).decls → seats_stand (out-KBlock b).decls all → low ≤ g → g < high → Tested g
      → InSeats t (out-KBlock b).decls (low + finalizers b) all g ⊎ (((low + finalizers b) + pools_gates t (out-KBlock b).decls ≤ g) × (g < low + t.count (out-KBlock b).node))
  block_at b fin all body low high Seats Inner g x up stand a z e = go (cases_lt g (low + length fin)) (cases_lt g (low + finalizers b)) (cases_lt g ((low + finalizers b) + pools_gates t (out-KBlock b).decls)) (cases_lt g (low + t.count (out-KBlock b).node))
    where
      go : (g < low + length fin) ⊎ (low + length fin ≤ g) → (g < low + finalizers b) ⊎ (low + finalizers b ≤ g)
          → (g < (low + finalizers b) + pools_gates t (out-KBlock b).decls) ⊎ ((low + finalizers b) + pools_gates t (out-KBlock b).decls ≤ g)
          → (g < low + t.count (out-KBlock b).node) ⊎ (low + t.count (out-KBlock b).node ≤ g)
          → InSeats t (out-KBlock b).decls (low + finalizers b) all g ⊎ (((low + finalizers b) + pools_gates t (out-KBlock b).decls ≤ g) × (g < low + t.count (out-KBlock b).node))
      go (inl i) j k l = absurd (false≢true (sym (picks.finalizer_passed ((view image bytes).gate g) (registered_at (home body) fin low g x.registered_stand a i)) ∙ e))
      go (inr i) (inl j) k l = absurd (not_in (low + length fin) (low + finalizers b) g x.others_free i j e)
      go (inr i) (inr j) (inl k) l = inl (in_seats t (view image bytes) (home body) all g (not_free g e) (low + finalizers b) (out-KBlock b).decls up x.vacant stand j k)
      go (inr i) (inr j) (inr k) (inl l) = inr (k, l)
      go (inr i) (inr j) (inr k) (inr l) = absurd (not_in (low + t.count (out-KBlock b).node) high g x.behind l z e)

  mutual
    unfolding Stands Laid seats pools_stand

    pub trail_in : (r : Residual) (body : Body) (low high g : ℕ) → Stands t home (view image bytes) r body low high → Laid image t home r body → pools_stand r → low ≤ g → g < high → Tested g
        → Trail image bytes t home body g (seats r body)
    trail_in Over body low high g x l p a b e = absurd x
    trail_in (Run n q) body low high g x l p a b e = leaf_trail (Run n q) body low high g x a b e
    trail_in (WaitInput k s) body low high g x l p a b e = leaf_trail (WaitInput k s) body low high g x a b e
    trail_in (WaitTime left s) body low high g x l p a b e = leaf_trail (WaitTime left s) body low high g x a b e
    trail_in (WaitEvent n s) body low high g x l p a b e = leaf_trail (WaitEvent n s) body low high g x a b e
    trail_in (WaitForever s) body low high g x l p a b e = leaf_trail (WaitForever s) body low high g x a b e
    trail_in (InAsync s served r) body low high g x l p a b e = leaf_trail (InAsync s served r) body low high g x.leaf a b e
    trail_in (Block k fin all r rest) body low high g x l p a b e = elim (block_at k fin all body low high _ _ g x l.ascend p.0 a b e) [
      | inl h ↦
          let y = seats_trail all (out-KBlock k).decls body (low + finalizers k) g x.seats l.seats p.0 h e in
          wider image bytes t home body g (instance_seats all body) (instance_seats all body ++ seats r body) (λ z i. among_left z (instance_seats all body) (seats r body) i) (seat_trail image bytes t home (out-KBlock k).decls body (low + finalizers k) all g y)
      | inr h ↦
          let y = trail_in r body _ _ g x.inner l.inner p.1 h.0 h.1 e in wider image bytes t home body g (seats r body) (instance_seats all body ++ seats r body) (λ z i. among_right z (instance_seats all body) (seats r body) i) y
    ]
    trail_in (Open s r) body low high g x l p a b e = trail_in r body low high g x.inner l p a b e
    trail_in (Loop s c r) body low high g x l p a b e = trail_in r body low high g x.inner l p a b e
    trail_in (Call s r) body low high g x l p a b e = in_call image bytes t home s body low _ _ g _ x l (trail_in r (Awaited body s.node) low high g x.inner l.inner p a b e)
    trail_in (Par s bs) body low high g x l p a b e = elim (cases_lt g (low + t.count s.node)) [
      | inl h ↦ branches_trail (kind_of (out-KStmt s.stmt)) (par_slot (out-KStmt s.stmt)) (par_blocks (out-KStmt s.stmt)) bs body low (low + t.count s.node) g x.inner l p a h e
      | inr h ↦ absurd (not_in (low + t.count s.node) high g x.behind h b e)
    ]

    pub seats_trail : (all : Instances) (decls : List KDecl) (body : Body) (pools g : ℕ) → SeatsStand t home (view image bytes) all decls body pools → SeatsLaid image t home all → seats_stand decls all
        → InSeats t decls pools all g → Tested g → SeatTrail image bytes t home decls body pools all g
    seats_trail no_instance decls body pools g x l p h e = absurd h
    seats_trail (instance seat r more) decls body pools g x l p (inl h) e =
        first_seat image bytes t home decls body pools seat r more g _ _ _ x.0 l.0 p.0 h.0 h.1 (trail_in r (Spawned seat.number) _ _ g x.0.inner l.0.inner p.2 h.0 h.1 e)
    seats_trail (instance seat r more) decls body pools g x l p (inr h) e = later_seat image bytes t home decls body pools seat r more g (seats_trail more decls body pools g x.1 l.1 p.3 h e)

    pub branches_trail : (k : ParKind) (slot : ℕ) (blocks : List KBlock) (rs : Branches) (body : Body) (low high g : ℕ) → BranchesStand t home (view image bytes) k slot blocks rs body low high → BranchesLaid image t home rs body → each_pools_stand rs
        → low ≤ g → g < high → Tested g → Trail image bytes t home body g (branch_seats rs body)
    branches_trail k slot [] no_branch body low high g x l p a b e = absurd (not_in low high g x a b e)
    branches_trail k slot [] (branch r more) body low high g x l p a b e = absurd x
    branches_trail k slot (c ∷ cs) no_branch body low high g x l p a b e = absurd x
    branches_trail k slot (c ∷ cs) (branch r more) body low high g x l p a b e = elim (cases_lt g (low + t.count (out-KBlock c).node)) [
      | inl h ↦ elim (branch_cases r _ _ x.0) [
        | inl y ↦ absurd (ended_passed (home body) k (out-KBlock c).node slot low (low + t.count (out-KBlock c).node) g y.1.0 a h e)
        | inr y ↦
            wider image bytes t home body g (seats r body) (seats r body ++ branch_seats more body) (λ z i. among_left z (seats r body) (branch_seats more body) i) (trail_in r body low (low + t.count (out-KBlock c).node) g y.inner l.0 p.0 a h e)
      ]
      | inr h ↦
          wider image bytes t home body g (branch_seats more body) (seats r body ++ branch_seats more body) (λ z i. among_right z (seats r body) (branch_seats more body) i)
          (branches_trail k (slot + 1) cs more body (low + t.count (out-KBlock c).node) high g x.1 l.1 p.1 h b e)
    ]
