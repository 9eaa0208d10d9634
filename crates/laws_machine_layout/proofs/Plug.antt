-- What stands in a focus: the frames around the leaf and what has come in its place stand together as the whole tree does.
use Rattle.std.proofs.Common.{◌≡◌, refl, sym, ap, ◌∙◌, subst, ◌<◌, ◌≤◌, ℕ, ◌+◌, ◌*◌, List, [], ◌∷◌, length, Bool, true, false, ◌==◌, cond, arith}
use Rattle.ceu_tree.specs.declared.kernel.KDecl.{KDecl}
use Rattle.ceu_tree.specs.declared.kernel.KKind.{KKind}
use Rattle.ceu_tree.specs.declared.kernel.KKind.TheVariants as kind
use Rattle.ceu_tree.specs.declared.kernel.ParKind.{ParKind}
use Rattle.ceu_tree.specs.declared.kernel.KNode.{KNode}
use Rattle.ceu_tree.specs.declared.kernel.KBlock.{KBlock, out-KBlock}
use Rattle.ceu_tree.specs.declared.kernel.KStmt.{out-KStmt}
use Rattle.ceu_tree.specs.Residual.{Body, Awaited, Spawned, Seat, Residual, Over, Run, WaitInput, WaitTime, WaitEvent, WaitForever, InAsync, Block, Open, Loop, Call, Par, Branches, no_branch, branch, Instances, no_instance, instance}
use Rattle.ceu_tree.specs.Focus.{Frame, OfBlock, OfInstance, OfOpen, OfLoop, OfCall, OfPar, Focus, Here, In, join, join_instances, fill, plug}
use Rattle.ceu_tree.specs.World.{is_among}
use Rattle.ceu_tree.specs.Around.{kind_of}
use Rattle.ceu_tree.specs.Step.{taken_in}
use Rattle.laws_machine_layout.specs.Tables.{Tables}
use Rattle.laws_machine_layout.specs.Views.{View, Free, Home}
use Rattle.laws_machine_layout.specs.Parts.{finalizers, decl_gates, pools_gates, pool_gate, VacantIn, Vacant, par_blocks, par_slot, EndedBranch, by_branch}
use Rattle.laws_machine_layout.specs.Stands.{Stands, SeatsStand, BranchesStand, BlockStands, SeatStands, BranchStands}
use Rattle.laws_machine_layout.specs.Frames.{Spot, spot, SeatsAround, BranchesAround, FrameStands, FocusStands}

-- the places that are taken don't tell what is left of the instances
taken_with : (pool : ℕ) (before : Instances) (seat : Seat) (q r : Residual) (after : Instances) → taken_in pool (join_instances before (instance seat q after)) ≡ taken_in pool (join_instances before (instance seat r after))
taken_with pool no_instance seat q r after = refl
taken_with pool (instance s x more) seat q r after = ap (λ (xs : List ℕ). cond (s.pool == pool) (s.place ∷ xs) xs) (taken_with pool more seat q r after)

module _ (t : Tables) (home : Body → Home) (v : View) where
  vacant_in_with : (h : Home) (before : Instances) (seat : Seat) (q r : Residual) (after : Instances) (gate : ℕ) (d : KDecl) (k : KKind)
      → VacantIn t v h (join_instances before (instance seat q after)) gate d k → VacantIn t v h (join_instances before (instance seat r after)) gate d k
  vacant_in_with h before seat q r after gate d (kind.Pool n code) x = λ place lt out. x place lt (subst (λ (taken : List ℕ). is_among place taken ≡ false) (taken_with d.slot before seat r q after) out)
  vacant_in_with h before seat q r after gate d (kind.Var ty) x = tt
  vacant_in_with h before seat q r after gate d (kind.Alias code) x = tt

  pub vacant_with : (h : Home) (before : Instances) (seat : Seat) (q r : Residual) (after : Instances) (gate : ℕ) (ds : List KDecl)
      → Vacant t v h (join_instances before (instance seat q after)) gate ds → Vacant t v h (join_instances before (instance seat r after)) gate ds
  vacant_with h before seat q r after gate [] x = tt
  vacant_with h before seat q r after gate (d ∷ ds) x = (vacant_in_with h before seat q r after gate d d.kind x.0, vacant_with h before seat q r after (gate + decl_gates t d.kind) ds x.1)

  -- a part that stands hasn't ended
  goes_on : (q : Residual) (body : Body) (low high : ℕ) (E P : Type 0) → Stands t home v q body low high → P → by_branch q E P
  unfolding Stands
  goes_on Over body low high E P x p = absurd x
  goes_on (Run n a) body low high E P x p = p
  goes_on (WaitInput k s) body low high E P x p = p
  goes_on (WaitTime left s) body low high E P x p = p
  goes_on (WaitEvent e s) body low high E P x p = p
  goes_on (WaitForever s) body low high E P x p = p
  goes_on (InAsync s served r) body low high E P x p = p
  goes_on (Block b fin all r rest) body low high E P x p = p
  goes_on (Open s r) body low high E P x p = p
  goes_on (Loop s c r) body low high E P x p = p
  goes_on (Call s r) body low high E P x p = p
  goes_on (Par s bs) body low high E P x p = p

  -- ---- what is put in the place of the leaf

  seats_plugged : (before : Instances) (seat : Seat) (after : Instances) (decls : List KDecl) (body : Body) (pools : ℕ) (d : Spot) (q : Residual)
      → SeatsAround t home v before seat after decls body pools d → Stands t home v q d.body d.low d.high → SeatsStand t home v (join_instances before (instance seat q after)) decls body pools
  unfolding Stands
  seats_plugged no_instance seat after decls body pools d q x y =
      let inner = subst (λ (e : Spot). Stands t home v q e.body e.low e.high) x.seat_stands.inner y in
      (record { home_is = x.seat_stands.home_is; place = x.seat_stands.place; inner = inner }, x.after_stand)
  seats_plugged (instance s r more) seat after decls body pools d q x y =
      (x.before_stand.0, seats_plugged more seat after decls body pools d q (record { before_stand = x.before_stand.1; seat_stands = x.seat_stands; after_stand = x.after_stand }) y)

  branches_plugged : (k : ParKind) (slot : ℕ) (blocks : List KBlock) (before after : Branches) (body : Body) (low high : ℕ) (d : Spot) (q : Residual)
      → BranchesAround t home v k slot blocks before after body low high d → Stands t home v q d.body d.low d.high → BranchesStand t home v k slot blocks (join before (branch q after)) body low high
  unfolding Stands
  branches_plugged k slot [] before after body low high d q x y = absurd x
  branches_plugged k slot (b ∷ bs) no_branch after body low high d q x y =
      let inner = subst (λ (e : Spot). Stands t home v q e.body e.low e.high) x.0.inner y in (
        goes_on q body low (low + t.count (out-KBlock b).node)
            (EndedBranch t v (home body) k (out-KBlock b).node slot low (low + t.count (out-KBlock b).node) × (low + t.count (out-KBlock b).node ≤ high))
            (BranchStands t home v k slot b body low (low + t.count (out-KBlock b).node) high (Stands t home v q body low (low + t.count (out-KBlock b).node)))
            inner (record { next_is = x.0.next_is; within = x.0.within; noted = x.0.noted; inner = inner }),
        x.1,
      )
  branches_plugged k slot (b ∷ bs) (branch r more) after body low high d q x y = (x.0, branches_plugged k (slot + 1) bs more after body (low + t.count (out-KBlock b).node) high d q x.1 y)

  fill_stands : (fr : Frame) (body : Body) (low high : ℕ) (d : Spot) (q : Residual) → FrameStands t home v fr body low high d → Stands t home v q d.body d.low d.high → Stands t home v (fill fr q) body low high
  unfolding Stands
  fill_stands (OfBlock b fin all rest) body low high d q x y = record {
    first_is = x.first_is;
    within = x.within;
    parts_within = x.parts_within;
    some_registered = x.some_registered;
    registered_stand = x.registered_stand;
    others_free = x.others_free;
    vacant = x.vacant;
    seats = x.seats;
    inner = subst (λ (e : Spot). Stands t home v q e.body e.low e.high) x.inner y;
    behind = x.behind;
  }
  fill_stands (OfInstance b fin before seat after r rest) body low high d q x y = record {
    first_is = x.first_is;
    within = x.within;
    parts_within = x.parts_within;
    some_registered = x.some_registered;
    registered_stand = x.registered_stand;
    others_free = x.others_free;
    vacant = vacant_with (home body) before seat Over q after (low + finalizers b) (out-KBlock b).decls x.vacant;
    seats = seats_plugged before seat after (out-KBlock b).decls body (low + finalizers b) d q x.seats y;
    inner = x.inner;
    behind = x.behind;
  }
  fill_stands (OfOpen s) body low high d q x y = record { first_is = x.first_is; inner = subst (λ (e : Spot). Stands t home v q e.body e.low e.high) x.inner y }
  fill_stands (OfLoop s c) body low high d q x y = record { first_is = x.first_is; counted = x.counted; inner = subst (λ (e : Spot). Stands t home v q e.body e.low e.high) x.inner y }
  fill_stands (OfCall s) body low high d q x y = record { first_is = x.first_is; home_is = x.home_is; linked = x.linked; inner = subst (λ (e : Spot). Stands t home v q e.body e.low e.high) x.inner y }
  fill_stands (OfPar s before after) body low high d q x y = record {
    first_is = x.first_is;
    within = x.within;
    inner = branches_plugged (kind_of (out-KStmt s.stmt)) (par_slot (out-KStmt s.stmt)) (par_blocks (out-KStmt s.stmt)) before after body low (low + t.count s.node) d q x.inner y;
    behind = x.behind;
  }

  pub plug_stands : {A : Type 0} (f : Focus A) (body : Body) (low high : ℕ) (d : Spot) (q : Residual) → FocusStands t home v f body low high d → Stands t home v q d.body d.low d.high → Stands t home v (plug f q) body low high
  unfolding FocusStands
  plug_stands (Here a) body low high d q x y = subst (λ (e : Spot). Stands t home v q e.body e.low e.high) x y
  plug_stands (In fr f) body low high d q x y = fill_stands fr body low high x.0 (plug f q) x.1 (plug_stands f x.0.body x.0.low x.0.high d q x.2 y)
