-- A whole that stands, with a part of it in focus: the frames around the part stand, and so does the part where they say.
use Rattle.std.proofs.Common.{◌≡◌, refl, sym, ap, ◌∙◌, subst, ◌<◌, ◌≤◌, ℕ, ◌+◌, ◌*◌, List, [], ◌∷◌, Bool, true, false}
use Rattle.ceu_tree.specs.declared.kernel.KDecl.{KDecl}
use Rattle.ceu_tree.specs.declared.kernel.ParKind.{ParKind}
use Rattle.ceu_tree.specs.declared.kernel.KBlock.{KBlock, out-KBlock}
use Rattle.ceu_tree.specs.declared.kernel.KStmt.{out-KStmt}
use Rattle.ceu_tree.specs.Residual.{Body, Awaited, Spawned, Seat, Residual, Over, Run, WaitInput, WaitTime, WaitEvent, WaitForever, InAsync, Block, Open, Loop, Call, Par, Branches, no_branch, branch, Instances, no_instance, instance}
use Rattle.ceu_tree.specs.Focus.{Frame, OfBlock, OfInstance, OfOpen, OfLoop, OfCall, OfPar, Focus, Here, In, join, join_instances, fill, plug}
use Rattle.ceu_tree.specs.Around.{kind_of, is_over}
use Rattle.laws_machine_layout.specs.Tables.{Tables}
use Rattle.laws_machine_layout.specs.Views.{View, Home}
use Rattle.laws_machine_layout.specs.Parts.{finalizers, pools_gates, pool_gate, par_blocks, par_slot, EndedBranch, by_branch}
use Rattle.laws_machine_layout.specs.Stands.{Stands, SeatsStand, BranchesStand, BranchStands}
use Rattle.laws_machine_layout.specs.Frames.{Spot, spot, SeatsAround, BranchesAround, FrameStands, FocusStands}
use Rattle.laws_machine_layout.proofs.Plug.{vacant_with}

-- of a branch that goes on
still_on : (q : Residual) (E P : Type 0) → is_over q ≡ false → by_branch q E P → P
still_on Over E P live x = absurd (cc)
still_on q E P live x = x

filled_goes_on : (fr : Frame) (q : Residual) → is_over (fill fr q) ≡ false
filled_goes_on (OfBlock b fin all rest) q = refl
filled_goes_on (OfInstance b fin before seat after r rest) q = refl
filled_goes_on (OfOpen s) q = refl
filled_goes_on (OfLoop s c) q = refl
filled_goes_on (OfCall s) q = refl
filled_goes_on (OfPar s before after) q = refl

plugged_goes_on : {A : Type 0} (f : Focus A) (q : Residual) → is_over q ≡ false → is_over (plug f q) ≡ false
plugged_goes_on (Here a) q live = live
plugged_goes_on (In fr f) q live = filled_goes_on fr (plug f q)

module _ (t : Tables) (home : Body → Home) (v : View) where
  abbrev pub SeatUnplugged : (before : Instances) (seat : Seat) (after : Instances) (decls : List KDecl) (body : Body) (pools : ℕ) (q : Residual) → Type 0
  SeatUnplugged before seat after decls body pools q = (d : Spot) × SeatsAround t home v before seat after decls body pools d × Stands t home v q d.body d.low d.high

  seats_unplugged : (before : Instances) (seat : Seat) (after : Instances) (decls : List KDecl) (body : Body) (pools : ℕ) (q : Residual)
      → SeatsStand t home v (join_instances before (instance seat q after)) decls body pools → SeatUnplugged before seat after decls body pools q
  unfolding Stands
  seats_unplugged no_instance seat after decls body pools q x = (
    spot (Spawned seat.number) (pool_gate t seat.pool decls pools + seat.place * t.gates seat.code) ((pool_gate t seat.pool decls pools + seat.place * t.gates seat.code) + t.gates seat.code),
    record { before_stand = tt; seat_stands = record { home_is = x.0.home_is; place = x.0.place; inner = refl }; after_stand = x.1 },
    x.0.inner,
  )
  seats_unplugged (instance s r more) seat after decls body pools q x =
      let y = seats_unplugged more seat after decls body pools q x.1 in
      (y.0, record { before_stand = (x.0, y.1.before_stand); seat_stands = y.1.seat_stands; after_stand = y.1.after_stand }, y.2)

  branches_unplugged : (k : ParKind) (slot : ℕ) (blocks : List KBlock) (before after : Branches) (body : Body) (low high : ℕ) (q : Residual) → is_over q ≡ false
      → BranchesStand t home v k slot blocks (join before (branch q after)) body low high → (d : Spot) × BranchesAround t home v k slot blocks before after body low high d × Stands t home v q d.body d.low d.high
  unfolding Stands
  branches_unplugged k slot [] no_branch after body low high q live x = absurd x
  branches_unplugged k slot [] (branch r more) after body low high q live x = absurd x
  branches_unplugged k slot (b ∷ bs) no_branch after body low high q live x =
      let y = still_on q
      (EndedBranch t v (home body) k (out-KBlock b).node slot low (low + t.count (out-KBlock b).node) × (low + t.count (out-KBlock b).node ≤ high))
      (BranchStands t home v k slot b body low (low + t.count (out-KBlock b).node) high (Stands t home v q body low (low + t.count (out-KBlock b).node)))
      live x.0 in
      (spot body low (low + t.count (out-KBlock b).node), (record { next_is = y.next_is; within = y.within; noted = y.noted; inner = refl }, x.1), y.inner)
  branches_unplugged k slot (b ∷ bs) (branch r more) after body low high q live x =
      let y = branches_unplugged k (slot + 1) bs more after body (low + t.count (out-KBlock b).node) high q live x.1 in
      (y.0, (x.0, y.1), y.2)

  fill_unplugged : (fr : Frame) (body : Body) (low high : ℕ) (q : Residual) → is_over q ≡ false → Stands t home v (fill fr q) body low high
      → (d : Spot) × FrameStands t home v fr body low high d × Stands t home v q d.body d.low d.high
  unfolding Stands
  fill_unplugged (OfBlock b fin all rest) body low high q live x = (
    spot body ((low + finalizers b) + pools_gates t (out-KBlock b).decls) (low + t.count (out-KBlock b).node),
    record {
      first_is = x.first_is;
      within = x.within;
      parts_within = x.parts_within;
      some_registered = x.some_registered;
      registered_stand = x.registered_stand;
      others_free = x.others_free;
      vacant = x.vacant;
      seats = x.seats;
      inner = refl;
      behind = x.behind;
    },
    x.inner,
  )
  fill_unplugged (OfInstance b fin before seat after r rest) body low high q live x =
      let y = seats_unplugged before seat after (out-KBlock b).decls body (low + finalizers b) q x.seats in (
        y.0,
        record {
          first_is = x.first_is;
          within = x.within;
          parts_within = x.parts_within;
          some_registered = x.some_registered;
          registered_stand = x.registered_stand;
          others_free = x.others_free;
          vacant = vacant_with t home v (home body) before seat q Over after (low + finalizers b) (out-KBlock b).decls x.vacant;
          seats = y.1;
          inner = x.inner;
          behind = x.behind;
        },
        y.2,
      )
  fill_unplugged (OfOpen s) body low high q live x = (spot body low high, record { first_is = x.first_is; inner = refl }, x.inner)
  fill_unplugged (OfLoop s c) body low high q live x = (spot body low high, record { first_is = x.first_is; counted = x.counted; inner = refl }, x.inner)
  fill_unplugged (OfCall s) body low high q live x = (spot (Awaited body s.node) low high, record { first_is = x.first_is; home_is = x.home_is; linked = x.linked; inner = refl }, x.inner)
  fill_unplugged (OfPar s before after) body low high q live x =
      let y = branches_unplugged (kind_of (out-KStmt s.stmt)) (par_slot (out-KStmt s.stmt)) (par_blocks (out-KStmt s.stmt)) before after body low (low + t.count s.node) q live x.inner in
      (y.0, record { first_is = x.first_is; within = x.within; inner = y.1; behind = x.behind }, y.2)

  pub unplug_stands : {A : Type 0} (f : Focus A) (body : Body) (low high : ℕ) (q : Residual) → is_over q ≡ false → Stands t home v (plug f q) body low high
      → (d : Spot) × FocusStands t home v f body low high d × Stands t home v q d.body d.low d.high
  unfolding FocusStands
  unplug_stands (Here a) body low high q live x = (spot body low high, refl, x)
  unplug_stands (In fr f) body low high q live x =
      let y = fill_unplugged fr body low high (plug f q) (plugged_goes_on f q live) x in
      let z = unplug_stands f y.0.body y.0.low y.0.high q live y.2 in
      (z.0, (y.0, y.1, z.1), z.2)
