-- The frame of an open body and its code tell which body it is, so a row and a spawner's frame tell a pool of an open body.
use Rattle.std.proofs.Common.{◌≡◌, ◌≢◌, refl, sym, ap, ◌∙◌, subst, ◌⊎◌, inl, inr, ℕ, ◌+◌, true, List, [], ◌∷◌, ◌++◌, Option, Some, None}
use Rattle.ceu_code.specs.declared.image.Image.{Image}
use Rattle.ceu_isa.specs.Pools.{return_of, outer_frame}
use Rattle.ceu_isa.specs.Order.{number_of}
use Rattle.ceu_tree.specs.declared.kernel.KDecl.{KDecl}
use Rattle.ceu_tree.specs.declared.kernel.ParKind.{ParKind}
use Rattle.ceu_tree.specs.declared.kernel.KBlock.{KBlock, out-KBlock}
use Rattle.ceu_tree.specs.declared.kernel.KStmt.{out-KStmt}
use Rattle.ceu_tree.specs.Residual.{Body, Program, Awaited, Spawned, Residual, Over, Run, WaitInput, WaitTime, WaitEvent, WaitForever, InAsync, Block, Open, Loop, Call, Par, Branches, no_branch, branch, Instances, no_instance, instance}
use Rattle.ceu_tree.specs.Around.{kind_of}
use Rattle.ceu_tree.specs.Legal.{Seated, seats, branch_seats, instance_seats}
use Rattle.laws_machine_layout.specs.Tables.{Tables}
use Rattle.laws_machine_layout.specs.Views.{view, Home}
use Rattle.laws_machine_layout.specs.Parts.{finalizers, par_blocks, par_slot}
use Rattle.laws_machine_layout.specs.Stands.{Stands, SeatsStand, BranchesStand}
use Rattle.laws_machine_order.specs.Laid.{Laid, SeatsLaid, BranchesLaid, BeforeAll, InOrder}
use Rattle.laws_machine_order.specs.Told.{Owners, TablesTell, called_code, Owned, SeatsOwned, BranchesOwned, OlderInBody}
use Rattle.laws_machine_order.specs.Laws.{OlderBefore, OlderStand}
use Rattle.laws_machine_order.proofs.Older.{Among}
use Rattle.laws_machine_order.proofs.Trails.{call_back, seat_known, seat_marked}
use Rattle.laws_machine_order.proofs.Within.{branch_cases}

pub among_either : (x : Seated) (a b : List Seated) → Among x (a ++ b) → Among x a ⊎ Among x b
among_either x [] b h = inr h
among_either x (y ∷ a) b (inl e) = inl (inl e)
among_either x (y ∷ a) b (inr h) = elim (among_either x a b h) [ inl i ↦ inl (inr i) | inr i ↦ inr i ]

-- an order that follows from another one, of those that are there
module _ (R S : Seated → Seated → Type 0) where
  before_follows : (x : Seated) (xs : List Seated) → ((y : Seated) → Among y xs → R x y → S x y) → BeforeAll R x xs → BeforeAll S x xs
  before_follows x [] f h = tt
  before_follows x (y ∷ ys) f h = (f y (inl refl) h.0, before_follows x ys (λ z i. f z (inr i)) h.1)

  pub order_follows : (xs : List Seated) → ((x y : Seated) → Among x xs → Among y xs → R x y → S x y) → InOrder R xs → InOrder S xs
  order_follows [] f h = tt
  order_follows (x ∷ xs) f h = (before_follows x xs (λ y i. f x y (inl refl) (inr i)) h.0, order_follows xs (λ y z i j. f y z (inr i) (inr j)) h.1)

module _ (image : Image) (bytes : List ℕ) (t : Tables) (home : Body → Home) (o : Owners) where
  pub record Called (by : Body) (node : ℕ) (Caller : Option ℕ → Type 0) (code : Option ℕ) : Type 0 where
    pub of : ℕ
    pub caller : Option ℕ
    pub code_is : code ≡ Some of
    pub is_await : o.is_await node ≡ true
    pub stands_in : o.node_code node ≡ caller
    pub caller_open : Caller caller
    pub back : return_of bytes (home (Awaited by node)).frame ≡ t.resumed node
    pub no_mark : t.resumed node ≢ 65535
    pub outer : outer_frame bytes (home (Awaited by node)).frame ≡ (home by).frame

  pub record Seated_in (number : ℕ) (code : Option ℕ) : Type 0 where
    pub of : ℕ
    pub code_is : code ≡ Some of
    pub mark : return_of bytes (home (Spawned number)).frame ≡ 65535
    pub number_is : number_of bytes (home (Spawned number)).frame ≡ number

  -- an open body, of that code
  abbrev pub IsOpen : Body → Option ℕ → Type 0
  IsOpen Program code = code ≡ None
  IsOpen (Awaited by node) code = Called by node (IsOpen by) code
  IsOpen (Spawned number) code = Seated_in number code

  same_body : TablesTell t o → (a b : Body) (code : Option ℕ) → IsOpen a code → IsOpen b code → (home a).frame ≡ (home b).frame → a ≡ b
  same_body tell Program Program code x y e = refl
  same_body tell Program (Awaited by node) code x y e = absurd (let z : None ≡ Some y.of = sym x ∙ y.code_is in cc)
  same_body tell Program (Spawned n) code x y e = absurd (let z : None ≡ Some y.of = sym x ∙ y.code_is in cc)
  same_body tell (Awaited by node) Program code x y e = absurd (let z : None ≡ Some x.of = sym y ∙ x.code_is in cc)
  same_body tell (Spawned n) Program code x y e = absurd (let z : None ≡ Some x.of = sym y ∙ x.code_is in cc)
  same_body tell (Awaited by node) (Spawned n) code x y e = absurd (x.no_mark (sym x.back ∙ ap (return_of bytes) e ∙ y.mark))
  same_body tell (Spawned n) (Awaited by node) code x y e = absurd (y.no_mark (sym y.back ∙ ap (return_of bytes) (sym e) ∙ x.mark))
  same_body tell (Spawned n) (Spawned m) code x y e = ap Spawned (sym x.number_is ∙ ap (number_of bytes) e ∙ y.number_is)
  same_body tell (Awaited a n) (Awaited b m) code x y e =
      let node : n ≡ m = tell.awaits n m x.is_await y.is_await (sym x.back ∙ ap (return_of bytes) e ∙ y.back) in
      let caller : y.caller ≡ x.caller = sym y.stands_in ∙ ap o.node_code (sym node) ∙ x.stands_in in
      let outer : (home a).frame ≡ (home b).frame = sym x.outer ∙ ap (outer_frame bytes) e ∙ y.outer in
      let by : a ≡ b = same_body tell a b x.caller x.caller_open (subst (IsOpen b) caller y.caller_open) outer in
      ap (λ (z : Body). Awaited z n) by ∙ ap (Awaited b) node

  -- an instance of a pool that stands in the code of its spawner
  pub record PoolOpen (x : Seated) : Type 0 where
    pub code : Option ℕ
    pub is_open : IsOpen x.body code
    pub is_pool : o.is_pool x.seat.pool ≡ true
    pub stands_in : o.slot_code x.seat.pool ≡ code

  mutual
    unfolding Stands Laid Owned seats

    pub seats_open : (r : Residual) (body : Body) (low high : ℕ) (code : Option ℕ) → Stands t home (view image bytes) r body low high → Laid image t home r body → Owned o r code → IsOpen body code
        → (x : Seated) → Among x (seats r body) → PoolOpen x
    seats_open Over body low high code s l q b x i = absurd i
    seats_open (Run n a) body low high code s l q b x i = absurd i
    seats_open (WaitInput k n) body low high code s l q b x i = absurd i
    seats_open (WaitTime k n) body low high code s l q b x i = absurd i
    seats_open (WaitEvent k n) body low high code s l q b x i = absurd i
    seats_open (WaitForever n) body low high code s l q b x i = absurd i
    seats_open (InAsync n served r) body low high code s l q b x i = absurd i
    seats_open (Block k fin all r rest) body low high code s l q b x i = elim (among_either x (instance_seats all body) (seats r body) i) [
      | inl j ↦ instances_open all (out-KBlock k).decls body (low + finalizers k) code s.seats l.seats q.0 b x j
      | inr j ↦ seats_open r body _ _ code s.inner l.inner q.1 b x j
    ]
    seats_open (Open n r) body low high code s l q b x i = seats_open r body low high code s.inner l q b x i
    seats_open (Loop n c r) body low high code s l q b x i = seats_open r body low high code s.inner l q b x i
    seats_open (Call n r) body low high code s l q b x i =
        let z = call_back image bytes t home n body low _ _ s l in
        seats_open r (Awaited body n.node) low high (Some (called_code (out-KStmt n.stmt))) s.inner l.inner q.inner
        (record { of = called_code (out-KStmt n.stmt); caller = code; code_is = refl; is_await = q.is_await; stands_in = q.stands_in; caller_open = b; back = z.0; no_mark = l.goes_back; outer = z.1 }) x i
    seats_open (Par n bs) body low high code s l q b x i =
        branches_open (kind_of (out-KStmt n.stmt)) (par_slot (out-KStmt n.stmt)) (par_blocks (out-KStmt n.stmt)) bs body low (low + t.count n.node) code s.inner l q b x i

    instances_open : (all : Instances) (decls : List KDecl) (body : Body) (pools : ℕ) (code : Option ℕ) → SeatsStand t home (view image bytes) all decls body pools → SeatsLaid image t home all → SeatsOwned o all code → IsOpen body code
        → (x : Seated) → Among x (instance_seats all body) → PoolOpen x
    instances_open no_instance decls body pools code s l q b x i = absurd i
    instances_open (instance seat r more) decls body pools code s l q b x (inl e) =
        subst PoolOpen (sym e) (record { code = code; is_open = b; is_pool = q.0.is_pool; stands_in = q.0.stands_in })
    instances_open (instance seat r more) decls body pools code s l q b x (inr i) = elim (among_either x (seats r (Spawned seat.number)) (instance_seats more body) i) [
      | inl j ↦
          seats_open r (Spawned seat.number) _ _ (Some seat.code) s.0.inner l.0.inner q.0.inner
          (record { of = seat.code; code_is = refl; mark = seat_marked image bytes t home seat decls body pools _ _ s.0 l.0; number_is = (seat_known image bytes t home seat decls body pools _ _ s.0 l.0).number_is }) x j
      | inr j ↦ instances_open more decls body pools code s.1 l.1 q.1 b x j
    ]

    branches_open : (k : ParKind) (slot : ℕ) (blocks : List KBlock) (rs : Branches) (body : Body) (low high : ℕ) (code : Option ℕ) → BranchesStand t home (view image bytes) k slot blocks rs body low high → BranchesLaid image t home rs body
        → BranchesOwned o rs code → IsOpen body code → (x : Seated) → Among x (branch_seats rs body) → PoolOpen x
    branches_open k slot blocks no_branch body low high code s l q b x i = absurd i
    branches_open k slot [] (branch r more) body low high code s l q b x i = absurd s
    branches_open k slot (c ∷ cs) (branch r more) body low high code s l q b x i = elim (among_either x (seats r body) (branch_seats more body) i) [
      | inl j ↦ elim (branch_cases r _ _ s.0) [
        | inl y ↦ absurd (subst (λ (z : Residual). Among x (seats z body)) y.0 j)
        | inr y ↦ seats_open r body low (low + t.count (out-KBlock c).node) code y.inner l.0 q.0 b x j
      ]
      | inr j ↦ branches_open k (slot + 1) cs more body (low + t.count (out-KBlock c).node) high code s.1 l.1 q.1 b x j
    ]

  -- what the machine takes for one pool is one
  pub one_pool : TablesTell t o → (x y : Seated) → PoolOpen x → PoolOpen y → OlderInBody x y → OlderBefore t home x y
  one_pool tell x y a b older row frame =
      let slot : x.seat.pool ≡ y.seat.pool = tell.rows x.seat.pool y.seat.pool a.is_pool b.is_pool row in
      let code : b.code ≡ a.code = sym b.stands_in ∙ ap o.slot_code (sym slot) ∙ a.stands_in in
      older (same_body tell x.body y.body a.code a.is_open (subst (IsOpen y.body) code b.is_open) frame) slot

pub older_stand : OlderStand
older_stand image t o home r w bytes p =
    let open_seats = seats_open image bytes t home o r Program 0 image.gates None p.memory.tree p.laid p.owned refl in
    order_follows OlderInBody (OlderBefore t home) (seats r Program) (λ x y i j h. one_pool image bytes t home o p.tables x y (open_seats x i) (open_seats y j) h)
