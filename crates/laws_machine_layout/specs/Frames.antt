-- How the open parts around a trail stand in the memory while its turn is on. Each frame stands as its part does, but for the part inside, of which it
-- only says where it lies.
use Rattle.std.specs.Prelude.{◌≡◌, ℕ, ◌+◌, ◌*◌, ◌≤◌, List, [], ◌∷◌}
use Rattle.ceu_tree.specs.declared.kernel.ParKind.{ParKind}
use Rattle.ceu_tree.specs.declared.kernel.KBlock.{KBlock, out-KBlock}
use Rattle.ceu_tree.specs.declared.kernel.KStmt.{out-KStmt}
use Rattle.ceu_tree.specs.Residual.{Body, Awaited, Spawned, Residual, Over, Branches, no_branch, branch, instance}
use Rattle.ceu_tree.specs.Focus.{Frame, OfBlock, OfInstance, OfOpen, OfLoop, OfCall, OfPar, Focus, Here, In, join_instances}
use Rattle.ceu_tree.specs.Around.{kind_of}
use Rattle.laws_machine_layout.specs.Tables.{Tables}
use Rattle.laws_machine_layout.specs.Views.{View, Home}
use Rattle.laws_machine_layout.specs.Parts.{finalizers, pools_gates, pool_gate, par_blocks, par_slot, EndedBranch, by_branch}
use Rattle.laws_machine_layout.specs.Stands.{Stands, SeatsStand, BranchesStand, BlockStands, SeatStands, CallStands, OpenStands, LoopStands, ParStands, BranchStands}

-- where a part lies: its body, and its range of gates
pub record Spot : Type 0 where
  pub body : Body
  pub low : ℕ
  pub high : ℕ

abbrev pub spot : Body → (low high : ℕ) → Spot
spot body low high = record { body = body; low = low; high = high }

module _ (t : Tables) (home : Body → Home) (v : View) where
  -- the instances of a block one of which has the turn: those before it, itself, and those behind it
  pub record SeatsAround (before : _) (seat : _) (after : _) (decls : _) (body : Body) (pools : ℕ) (d : Spot) : Type 0 where
    pub before_stand : SeatsStand t home v before decls body pools
    pub seat_stands : SeatStands t home v seat decls body pools (d ≡ spot (Spawned seat.number) (pool_gate t seat.pool decls pools + seat.place * t.gates seat.code) ((pool_gate t seat.pool decls pools + seat.place * t.gates seat.code) + t.gates seat.code))
    pub after_stand : SeatsStand t home v after decls body pools

  -- the branches of a par one of which has the turn
  abbrev pub BranchesAround : ParKind → (slot : ℕ) → List KBlock → (before after : Branches) → Body → (low high : ℕ) → Spot → Type 0
  BranchesAround k slot [] before after body low high d = ⊥
  BranchesAround k slot (b ∷ bs) no_branch after body low high d =
      BranchStands t home v k slot b body low (low + t.count (out-KBlock b).node) high (d ≡ spot body low (low + t.count (out-KBlock b).node))
      × BranchesStand t home v k (slot + 1) bs after body (low + t.count (out-KBlock b).node) high
  BranchesAround k slot (b ∷ bs) (branch r more) after body low high d =
      by_branch r
      (EndedBranch t v (home body) k (out-KBlock b).node slot low (low + t.count (out-KBlock b).node) × (low + t.count (out-KBlock b).node ≤ high))
      (BranchStands t home v k slot b body low (low + t.count (out-KBlock b).node) high (Stands t home v r body low (low + t.count (out-KBlock b).node)))
      × BranchesAround k (slot + 1) bs more after body (low + t.count (out-KBlock b).node) high d

  abbrev pub FrameStands : Frame → Body → (low high : ℕ) → Spot → Type 0
  FrameStands (OfBlock b fin all rest) body low high d =
      BlockStands t home v b fin all body low high (SeatsStand t home v all (out-KBlock b).decls body (low + finalizers b))
      (d ≡ spot body ((low + finalizers b) + pools_gates t (out-KBlock b).decls) (low + t.count (out-KBlock b).node))
  FrameStands (OfInstance b fin before seat after r rest) body low high d =
      BlockStands t home v b fin (join_instances before (instance seat Over after)) body low high
      (SeatsAround before seat after (out-KBlock b).decls body (low + finalizers b) d)
      (Stands t home v r body ((low + finalizers b) + pools_gates t (out-KBlock b).decls) (low + t.count (out-KBlock b).node))
  FrameStands (OfOpen s) body low high d = OpenStands t home v s body low (d ≡ spot body low high)
  FrameStands (OfLoop s c) body low high d = LoopStands t home v s c body low (d ≡ spot body low high)
  FrameStands (OfCall s) body low high d = CallStands t home v s body low (d ≡ spot (Awaited body s.node) low high)
  FrameStands (OfPar s before after) body low high d =
      ParStands t home v s body low high (BranchesAround (kind_of (out-KStmt s.stmt)) (par_slot (out-KStmt s.stmt)) (par_blocks (out-KStmt s.stmt)) before after body low (low + t.count s.node) d)

  -- from the place of the whole to that of the leaf
  unfoldable pub FocusStands : {A : Type 0} → Focus A → Body → (low high : ℕ) → Spot → Type 0
  FocusStands (Here a) body low high d = d ≡ spot body low high
  FocusStands (In fr f) body low high d = (e : Spot) × FrameStands fr body low high e × FocusStands f e.body e.low e.high d
