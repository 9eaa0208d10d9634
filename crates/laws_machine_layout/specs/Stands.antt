-- How a residual tree stands in the machine's memory (this project's own). A part stands in a range of gates, [low, high); what of it isn't a leaf's or
-- a registered finalizer's is free. `home` says where the open bodies lie.
use Rattle.std.specs.Prelude.{◌≡◌, ℕ, ◌+◌, ◌*◌, ◌<◌, ◌≤◌, List, [], ◌∷◌, length}
use Rattle.ceu_tree.specs.declared.kernel.KDecl.{KDecl}
use Rattle.ceu_tree.specs.declared.kernel.ParKind.{ParKind}
use Rattle.ceu_tree.specs.declared.kernel.KNode.{KNode}
use Rattle.ceu_tree.specs.declared.kernel.KBlock.{KBlock, out-KBlock}
use Rattle.ceu_tree.specs.declared.kernel.KStmt.{out-KStmt}
use Rattle.ceu_tree.specs.Residual.{Body, Awaited, Spawned, Counter, Seat, Residual, Over, Run, WaitInput, WaitTime, WaitEvent, WaitForever, InAsync, Block, Open, Loop, Call, Par, Branches, no_branch, branch, Instances, no_instance, instance}
use Rattle.ceu_tree.specs.Around.{kind_of}
use Rattle.laws_machine_layout.specs.Tables.{Tables}
use Rattle.laws_machine_layout.specs.Views.{View, Free, Home}
use Rattle.laws_machine_layout.specs.Leaves.{LeafStands}
use Rattle.laws_machine_layout.specs.Parts.{Registered, finalizers, pools_gates, pool_gate, place_at, Vacant, TakenPlace, frame_slot, Linked, CounterStands, par_blocks, par_slot, BranchNoted, EndedBranch, by_branch}

module _ (t : Tables) (home : Body → Home) (v : View) where
  -- an async's trail has one gate; the counters of its open loops are held all the same
  unfoldable pub Parked : Residual → Body → Type 0
  Parked (Block b fin all r rest) body = Parked r body
  Parked (Open s r) body = Parked r body
  Parked (Loop s c r) body = CounterStands t v (home body) (out-KStmt s.stmt) c × Parked r body
  Parked r body = Unit {0}

  -- a block: its finalizers' gates, those of its pools, and those of its statements
  pub record BlockStands (b : KBlock) (registered : List KNode) (all : Instances) (body : Body) (low high : ℕ) (Seats : Type 0) (Inner : Type 0) : Type 0 where
    pub first_is : (home body).base + t.first (out-KBlock b).node ≡ low
    pub within : low + t.count (out-KBlock b).node ≤ high
    pub parts_within : (low + finalizers b) + pools_gates t (out-KBlock b).decls ≤ low + t.count (out-KBlock b).node
    pub some_registered : length registered ≤ finalizers b
    pub registered_stand : Registered t v (home body) registered low
    pub others_free : Free v (low + length registered) (low + finalizers b)
    pub vacant : Vacant t v (home body) all (low + finalizers b) (out-KBlock b).decls
    pub seats : Seats
    pub inner : Inner
    pub behind : Free v (low + t.count (out-KBlock b).node) high

  -- an instance in its place; the pools of its block have the gates from `pools` on
  pub record SeatStands (seat : Seat) (decls : List KDecl) (body : Body) (pools : ℕ) (Inner : Type 0) : Type 0 where
    pub home_is : home (Spawned seat.number) ≡ record { frame = place_at t (home body) seat.pool seat.code seat.place + 9; base = pool_gate t seat.pool decls pools + seat.place * t.gates seat.code }
    pub place : TakenPlace t v (home body) seat (place_at t (home body) seat.pool seat.code seat.place) (pool_gate t seat.pool decls pools + seat.place * t.gates seat.code)
    pub inner : Inner

  pub record CallStands (s : KNode) (body : Body) (low : ℕ) (Inner : Type 0) : Type 0 where
    pub first_is : (home body).base + t.first s.node ≡ low
    pub home_is : home (Awaited body s.node) ≡ record { frame = (home body).frame + t.offset (frame_slot (out-KStmt s.stmt)); base = low }
    pub linked : Linked t v (home body) s ((home body).frame + t.offset (frame_slot (out-KStmt s.stmt)))
    pub inner : Inner

  pub record OpenStands (s : KNode) (body : Body) (low : ℕ) (Inner : Type 0) : Type 0 where
    pub first_is : (home body).base + t.first s.node ≡ low
    pub inner : Inner

  pub record LoopStands (s : KNode) (c : Counter) (body : Body) (low : ℕ) (Inner : Type 0) : Type 0 where
    pub first_is : (home body).base + t.first s.node ≡ low
    pub counted : CounterStands t v (home body) (out-KStmt s.stmt) c
    pub inner : Inner

  pub record ParStands (s : KNode) (body : Body) (low high : ℕ) (Inner : Type 0) : Type 0 where
    pub first_is : (home body).base + t.first s.node ≡ low
    pub within : low + t.count s.node ≤ high
    pub inner : Inner
    pub behind : Free v (low + t.count s.node) high

  pub record AsyncStands (s : KNode) (served : _) (r : Residual) (body : Body) (low high : ℕ) : Type 0 where
    pub leaf : LeafStands t v (home body) (InAsync s served r) low high
    pub parked : Parked r body

  -- a branch has the gates from `low` up to `next`
  pub record BranchStands (k : ParKind) (slot : ℕ) (b : KBlock) (body : Body) (low next high : ℕ) (Inner : Type 0) : Type 0 where
    pub next_is : next ≡ low + t.count (out-KBlock b).node
    pub within : next ≤ high
    pub noted : BranchNoted t v (home body) k slot 0
    pub inner : Inner

  unfoldable mutual
    pub Stands : Residual → Body → (low high : ℕ) → Type 0
    Stands Over body low high = ⊥
    Stands (Run n a) body low high = LeafStands t v (home body) (Run n a) low high
    Stands (WaitInput k s) body low high = LeafStands t v (home body) (WaitInput k s) low high
    Stands (WaitTime left s) body low high = LeafStands t v (home body) (WaitTime left s) low high
    Stands (WaitEvent e s) body low high = LeafStands t v (home body) (WaitEvent e s) low high
    Stands (WaitForever s) body low high = LeafStands t v (home body) (WaitForever s) low high
    Stands (InAsync s served r) body low high = AsyncStands s served r body low high
    Stands (Block b fin all r rest) body low high =
        BlockStands b fin all body low high
        (SeatsStand all (out-KBlock b).decls body (low + finalizers b))
        (Stands r body ((low + finalizers b) + pools_gates t (out-KBlock b).decls) (low + t.count (out-KBlock b).node))
    Stands (Open s r) body low high = OpenStands s body low (Stands r body low high)
    Stands (Loop s c r) body low high = LoopStands s c body low (Stands r body low high)
    Stands (Call s r) body low high = CallStands s body low (Stands r (Awaited body s.node) low high)
    Stands (Par s bs) body low high =
        ParStands s body low high (BranchesStand (kind_of (out-KStmt s.stmt)) (par_slot (out-KStmt s.stmt)) (par_blocks (out-KStmt s.stmt)) bs body low (low + t.count s.node))

    -- the instances of a block's pools, whose gates begin at `pools`
    pub SeatsStand : Instances → List KDecl → Body → (pools : ℕ) → Type 0
    SeatsStand no_instance decls body pools = Unit {0}
    SeatsStand (instance seat r more) decls body pools =
        SeatStands seat decls body pools (Stands r (Spawned seat.number) (pool_gate t seat.pool decls pools + seat.place * t.gates seat.code) ((pool_gate t seat.pool decls pools + seat.place * t.gates seat.code) + t.gates seat.code))
        × SeatsStand more decls body pools

    -- the branches of a par, side by side
    pub BranchesStand : ParKind → (slot : ℕ) → List KBlock → Branches → Body → (low high : ℕ) → Type 0
    BranchesStand k slot [] no_branch body low high = Free v low high
    BranchesStand k slot (b ∷ bs) (branch r more) body low high =
        by_branch r
        (EndedBranch t v (home body) k (out-KBlock b).node slot low (low + t.count (out-KBlock b).node) × (low + t.count (out-KBlock b).node ≤ high))
        (BranchStands k slot b body low (low + t.count (out-KBlock b).node) high (Stands r body low (low + t.count (out-KBlock b).node)))
        × BranchesStand k (slot + 1) bs more body (low + t.count (out-KBlock b).node) high
    BranchesStand k slot bs rs body low high = ⊥
