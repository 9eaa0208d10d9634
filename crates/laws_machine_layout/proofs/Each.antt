-- A tree stands after a change of its leaves, where the gates are changed accordingly.
use Rattle.std.proofs.Common.{◌≡◌, refl, sym, ap, ◌∙◌, subst, ◌<◌, ◌≤◌, ℕ, ◌+◌, ◌*◌, List, [], ◌∷◌, length, Option, Some, None, Bool, true, false, ◌==◌, cond, arith}
use Rattle.std.specs.Prelude.{slice_get}
use Rattle.ceu_mem.specs.declared.gate.Gate.{Gate}
use Rattle.ceu_isa.specs.Layout.{free, forever, finalizer}
use Rattle.ceu_tree.specs.declared.kernel.KDecl.{KDecl}
use Rattle.ceu_tree.specs.declared.kernel.KKind.{KKind}
use Rattle.ceu_tree.specs.declared.kernel.KKind.TheVariants as kind
use Rattle.ceu_tree.specs.declared.kernel.KLoop.{KLoop}
use Rattle.ceu_tree.specs.declared.kernel.KLoop.TheVariants as turns
use Rattle.ceu_tree.specs.declared.kernel.ParKind.{ParKind}
use Rattle.ceu_tree.specs.declared.kernel.ParKind.TheVariants as par
use Rattle.ceu_tree.specs.declared.kernel.KNode.{KNode}
use Rattle.ceu_tree.specs.declared.kernel.KBlock.{KBlock, out-KBlock}
use Rattle.ceu_tree.specs.declared.kernel.KStmt.{out-KStmt}
use Rattle.ceu_tree.specs.declared.kernel.KStmt.TheOpen.{KStmt-F}
use Rattle.ceu_tree.specs.Residual.{Body, Awaited, Spawned, Counter, Free as AnyTurns, Turns, Upward, Seat, Residual, Over, Run, WaitInput, WaitTime, WaitEvent, WaitForever, InAsync, Block, Open, Loop, Call, Par, Branches, no_branch, branch, Instances, no_instance, instance}
use Rattle.ceu_tree.specs.World.{is_among}
use Rattle.ceu_tree.specs.Wake.{each_leaf, each_in_branches, each_in_instances}
use Rattle.ceu_tree.specs.Around.{kind_of}
use Rattle.ceu_tree.specs.Leaf.{Layer}
use Rattle.ceu_tree.specs.Step.{taken_in}
use Rattle.laws_machine_layout.specs.Tables.{Tables}
use Rattle.laws_machine_layout.specs.Views.{View, Free, Home, Keeps}
use Rattle.laws_machine_layout.specs.Leaves.{LeafStands, LeafGate, leaf_node}
use Rattle.laws_machine_layout.specs.Parts.{Registered, FinalizerStands, finalizers, decl_gates, pools_gates, pool_gate, place_at, PlaceStands, VacantPlace, VacantIn, Vacant, TakenPlace, frame_slot, Linked, TurnsStand, CounterStands, par_blocks, par_slot, BranchNoted, EndedBranch, by_branch}
use Rattle.laws_machine_layout.specs.Stands.{Stands, SeatsStand, BranchesStand, Parked, BlockStands, SeatStands, CallStands, OpenStands, LoopStands, ParStands, AsyncStands, BranchStands}
use Rattle.laws_machine_layout.specs.Changes.{Belong, ParkedLeaf}

-- the second view has the gates of the first one changed, and the same numbers
pub record Follows (v u : View) (g : Gate → Gate) : Type 0 where
  pub gates : (i : ℕ) → u.gate i ≡ g (v.gate i)
  pub numbers : (size at : ℕ) → u.number size at ≡ v.number size at

module _ (t : Tables) (home : Body → Home) (v u : View) (f : Residual → Residual) (g : Gate → Gate) (belong : Belong t f g) (follows : Follows v u g) where
  -- a gate of one of the kinds that stay
  stays : (i : ℕ) → g (v.gate i) ≡ v.gate i → u.gate i ≡ v.gate i
  stays i e = follows.gates i ∙ e

  frees : (low high : ℕ) → Free v low high → Free u low high
  frees low high h = record { free_at = λ i a b. let e = h.free_at i a b in subst (λ (x : Gate). x.kind ≡ free) (sym (stays i (belong.free_stays (v.gate i) e))) e }

  number_kept : (size at n : ℕ) → v.number size at ≡ n → u.number size at ≡ n
  number_kept size at n e = follows.numbers size at ∙ e

  registered_follow : (h : Home) (fin : List KNode) (low : ℕ) → Registered t v h fin low → Registered t u h fin low
  registered_follow h [] low x = tt
  registered_follow h (s ∷ more) low x =
      let i : ℕ = low + length more in
      let e = stays i (belong.finalizer_stays (v.gate i) x.0.keeps.kind_is) in
      (subst (FinalizerStands t h s) (sym e) x.0, registered_follow h more low x.1)

  turns_follow : (h : Home) (k : KLoop) (c : Counter) → TurnsStand t v h k c → TurnsStand t u h k c
  turns_follow h (turns.Times slot n) (Turns k) x = number_kept _ _ _ x
  turns_follow h (turns.Range i next end open_a a b open_b) (Upward value last) x = (number_kept _ _ _ x.0, number_kept _ _ _ x.1)
  turns_follow h turns.Free c x = tt
  turns_follow h (turns.Times slot n) AnyTurns x = tt
  turns_follow h (turns.Times slot n) (Upward value last) x = tt
  turns_follow h (turns.Range i next end open_a a b open_b) AnyTurns x = tt
  turns_follow h (turns.Range i next end open_a a b open_b) (Turns k) x = tt

  counter_follows : (h : Home) (layer : Layer) (c : Counter) → CounterStands t v h layer c → CounterStands t u h layer c
  counter_follows h (KStmt-F.Loop k b) c x = turns_follow h k c x
  counter_follows h layer c x = tt

  parked_in : (r : Residual) (body : Body) → Parked t home v r body → Parked t home u r body
  unfolding Parked
  parked_in (Block b fin all r rest) body x = parked_in r body x
  parked_in (Open s r) body x = parked_in r body x
  parked_in (Loop s c r) body x = (counter_follows (home body) (out-KStmt s.stmt) c x.0, parked_in r body x.1)
  parked_in r body x = tt

  place_follows : (slot at gate : ℕ) → PlaceStands t v slot at gate → PlaceStands t u slot at gate
  place_follows slot at gate x = record { first_gate = number_kept _ _ _ x.first_gate; row = number_kept _ _ _ x.row }

  vacant_place : (slot code at gate : ℕ) → VacantPlace t v slot code at gate → VacantPlace t u slot code at gate
  vacant_place slot code at gate x = record { place = place_follows slot at gate x.place; vacant = number_kept _ _ _ x.vacant; gates_free = frees _ _ x.gates_free }

  -- the instances that there are after the change are in the places of those before
  each_taken : (slot : ℕ) (all : Instances) → taken_in slot (each_in_instances f all) ≡ taken_in slot all
  unfolding each_leaf
  each_taken slot no_instance = refl
  each_taken slot (instance seat r more) = ap (λ (xs : List ℕ). cond (seat.pool == slot) (seat.place ∷ xs) xs) (each_taken slot more)

  vacant_in : (h : Home) (all : Instances) (gate : ℕ) (d : KDecl) (k : KKind) → VacantIn t v h all gate d k → VacantIn t u h (each_in_instances f all) gate d k
  vacant_in h all gate d (kind.Pool n code) x = λ place lt out. vacant_place d.slot code _ _ (x place lt (subst (λ (taken : List ℕ). is_among place taken ≡ false) (each_taken d.slot all) out))
  vacant_in h all gate d (kind.Var ty) x = tt
  vacant_in h all gate d (kind.Alias code) x = tt

  vacant_follow : (h : Home) (all : Instances) (gate : ℕ) (ds : List KDecl) → Vacant t v h all gate ds → Vacant t u h (each_in_instances f all) gate ds
  vacant_follow h all gate [] x = tt
  vacant_follow h all gate (d ∷ ds) x = (vacant_in h all gate d d.kind x.0, vacant_follow h all (gate + decl_gates t d.kind) ds x.1)

  taken_follows : (h : Home) (seat : Seat) (at gate : ℕ) → TakenPlace t v h seat at gate → TakenPlace t u h seat at gate
  taken_follows h seat at gate x = record {
    place = place_follows seat.pool at gate x.place;
    taken = number_kept _ _ _ x.taken;
    number_is = number_kept _ _ _ x.number_is;
    is_instance = number_kept _ _ _ x.is_instance;
    spawner_frame = number_kept _ _ _ x.spawner_frame;
    spawner_base = number_kept _ _ _ x.spawner_base;
  }

  linked_follows : (h : Home) (s : KNode) (frame : ℕ) → Linked t v h s frame → Linked t u h s frame
  linked_follows h s frame x = record { goes_back = number_kept _ _ _ x.goes_back; caller_frame = number_kept _ _ _ x.caller_frame; caller_base = number_kept _ _ _ x.caller_base }

  noted_follows : (h : Home) (k : ParKind) (slot ended : ℕ) → BranchNoted t v h k slot ended → BranchNoted t u h k slot ended
  noted_follows h par.And slot ended x = number_kept _ _ _ x
  noted_follows h par.Or slot ended x = tt
  noted_follows h par.Never slot ended x = tt

  ended_follows : (h : Home) (k : ParKind) (node slot low high : ℕ) → EndedBranch t v h k node slot low high → EndedBranch t u h k node slot low high
  ended_follows h par.Never node slot low high x =
      (x.0, subst (Keeps h forever (t.stays node)) (sym (stays low (belong.forever_stays (v.gate low) x.1.kind_is))) x.1, frees _ _ x.2)
  ended_follows h par.And node slot low high x = (noted_follows h par.And slot 1 x.0, frees _ _ x.1)
  ended_follows h par.Or node slot low high x = absurd x

  -- ---- leaves

  leaf_follows : (h : Home) (r : Residual) (low high : ℕ) → LeafStands t v h r low high → LeafStands t u h (f r) low high
  leaf_follows h r low high x = record {
    some_gate = x.some_gate;
    first_is = ap (λ (n : ℕ). h.base + t.first n) (belong.node_stays h r (v.gate low) x.gate_is) ∙ x.first_is;
    gate_is = subst (LeafGate t h (f r)) (sym (follows.gates low)) (belong.gate_follows h r (v.gate low) x.gate_is);
    others = frees _ _ x.others;
  }

  -- whatever has a leaf's gate is a leaf
  leaf_stands : (q : Residual) (body : Body) (low high : ℕ) → LeafStands t u (home body) q low high → ParkedLeaf t home u q body → Stands t home u q body low high
  unfolding Stands
  leaf_stands (Run n a) body low high x p = x
  leaf_stands (WaitInput k s) body low high x p = x
  leaf_stands (WaitTime left s) body low high x p = x
  leaf_stands (WaitEvent e s) body low high x p = x
  leaf_stands (WaitForever s) body low high x p = x
  leaf_stands (InAsync s served r) body low high x p = record { leaf = x; parked = p }
  leaf_stands Over body low high x p = absurd x.gate_is
  leaf_stands (Block b fin all r rest) body low high x p = absurd x.gate_is
  leaf_stands (Open s r) body low high x p = absurd x.gate_is
  leaf_stands (Loop s c r) body low high x p = absurd x.gate_is
  leaf_stands (Call s r) body low high x p = absurd x.gate_is
  leaf_stands (Par s bs) body low high x p = absurd x.gate_is

  parked_leaf : (r : Residual) (body : Body) → ParkedLeaf t home v r body → ParkedLeaf t home u r body
  parked_leaf (InAsync s served r) body x = parked_in r body x
  parked_leaf Over body x = tt
  parked_leaf (Run n a) body x = tt
  parked_leaf (WaitInput k s) body x = tt
  parked_leaf (WaitTime left s) body x = tt
  parked_leaf (WaitEvent e s) body x = tt
  parked_leaf (WaitForever s) body x = tt
  parked_leaf (Block b fin all r rest) body x = tt
  parked_leaf (Open s r) body x = tt
  parked_leaf (Loop s c r) body x = tt
  parked_leaf (Call s r) body x = tt
  parked_leaf (Par s bs) body x = tt

  the_leaf : (r : Residual) (body : Body) (low high : ℕ) → LeafStands t v (home body) r low high → ParkedLeaf t home v r body → Stands t home u (f r) body low high
  the_leaf r body low high x p = leaf_stands (f r) body low high (leaf_follows (home body) r low high x) (belong.parked_follows home u r body (parked_leaf r body p))

  -- a part that stands hasn't ended
  goes_on : (q : Residual) (body : Body) (low high : ℕ) (E P : Type 0) → Stands t home u q body low high → P → by_branch q E P
  unfolding Stands
  goes_on Over body low high E P x p = absurd x
  goes_on (Run n a) body low high E P x p = p
  goes_on (WaitInput k s) body low high E P x p = p
  goes_on (WaitTime left s) body low high E P x p = p
  goes_on (WaitEvent e s) body low high E P x p = p
  goes_on (WaitForever s) body low high E P x p = p
  goes_on (InAsync s served r) body low high E P x p = p
  goes_on (Block b fin all r rest) body low high E P x p = p
  goes_on (Open s r) body low high E P x p = p
  goes_on (Loop s c r) body low high E P x p = p
  goes_on (Call s r) body low high E P x p = p
  goes_on (Par s bs) body low high E P x p = p

  -- a branch, which has ended or goes on; the last argument but one says what is left of it after the change
  each_one : (k : ParKind) (slot : ℕ) (b : KBlock) (r : Residual) (body : Body) (low high : ℕ)
      → (Stands t home v r body low (low + t.count (out-KBlock b).node) → Stands t home u (each_leaf f r) body low (low + t.count (out-KBlock b).node))
      → by_branch r (EndedBranch t v (home body) k (out-KBlock b).node slot low (low + t.count (out-KBlock b).node) × (low + t.count (out-KBlock b).node ≤ high)) (BranchStands t home v k slot b body low (low + t.count (out-KBlock b).node) high (Stands t home v r body low (low + t.count (out-KBlock b).node)))
      → by_branch (each_leaf f r) (EndedBranch t u (home body) k (out-KBlock b).node slot low (low + t.count (out-KBlock b).node) × (low + t.count (out-KBlock b).node ≤ high)) (BranchStands t home u k slot b body low (low + t.count (out-KBlock b).node) high (Stands t home u (each_leaf f r) body low (low + t.count (out-KBlock b).node)))
  unfolding each_leaf
  each_one k slot b Over body low high step x = (ended_follows (home body) k (out-KBlock b).node slot _ _ x.0, x.1)
  each_one k slot b r body low high step x =
      let inner = step x.inner in
      goes_on (each_leaf f r) body low (low + t.count (out-KBlock b).node)
      (EndedBranch t u (home body) k (out-KBlock b).node slot low (low + t.count (out-KBlock b).node) × (low + t.count (out-KBlock b).node ≤ high))
      (BranchStands t home u k slot b body low (low + t.count (out-KBlock b).node) high (Stands t home u (each_leaf f r) body low (low + t.count (out-KBlock b).node)))
      inner (record { next_is = x.next_is; within = x.within; noted = noted_follows (home body) k slot 0 x.noted; inner = inner })

  -- ---- trees

  mutual
    unfolding Stands each_leaf

    pub each_stands : (r : Residual) (body : Body) (low high : ℕ) → Stands t home v r body low high → Stands t home u (each_leaf f r) body low high
    each_stands Over body low high x = absurd x
    each_stands (Run n a) body low high x = the_leaf (Run n a) body low high x tt
    each_stands (WaitInput k s) body low high x = the_leaf (WaitInput k s) body low high x tt
    each_stands (WaitTime left s) body low high x = the_leaf (WaitTime left s) body low high x tt
    each_stands (WaitEvent e s) body low high x = the_leaf (WaitEvent e s) body low high x tt
    each_stands (WaitForever s) body low high x = the_leaf (WaitForever s) body low high x tt
    each_stands (InAsync s served r) body low high x = the_leaf (InAsync s served r) body low high x.leaf x.parked
    each_stands (Block b fin all r rest) body low high x = record {
      first_is = x.first_is;
      within = x.within;
      parts_within = x.parts_within;
      some_registered = x.some_registered;
      registered_stand = registered_follow (home body) fin low x.registered_stand;
      others_free = frees _ _ x.others_free;
      vacant = vacant_follow (home body) all _ _ x.vacant;
      seats = each_seat all (out-KBlock b).decls body (low + finalizers b) x.seats;
      inner = each_stands r body ((low + finalizers b) + pools_gates t (out-KBlock b).decls) (low + t.count (out-KBlock b).node) x.inner;
      behind = frees _ _ x.behind;
    }
    each_stands (Open s r) body low high x = record { first_is = x.first_is; inner = each_stands r body low high x.inner }
    each_stands (Loop s c r) body low high x = record { first_is = x.first_is; counted = counter_follows (home body) (out-KStmt s.stmt) c x.counted; inner = each_stands r body low high x.inner }
    each_stands (Call s r) body low high x = record { first_is = x.first_is; home_is = x.home_is; linked = linked_follows (home body) s _ x.linked; inner = each_stands r (Awaited body s.node) low high x.inner }
    each_stands (Par s bs) body low high x = record {
      first_is = x.first_is;
      within = x.within;
      inner = each_branch (kind_of (out-KStmt s.stmt)) (par_slot (out-KStmt s.stmt)) (par_blocks (out-KStmt s.stmt)) bs body low (low + t.count s.node) x.inner;
      behind = frees _ _ x.behind;
    }

    each_seat : (all : Instances) (decls : List KDecl) (body : Body) (pools : ℕ) → SeatsStand t home v all decls body pools → SeatsStand t home u (each_in_instances f all) decls body pools
    each_seat no_instance decls body pools x = tt
    each_seat (instance seat r more) decls body pools x = (
      record { home_is = x.0.home_is; place = taken_follows (home body) seat _ _ x.0.place; inner = each_stands r (Spawned seat.number) (pool_gate t seat.pool decls pools + seat.place * t.gates seat.code) ((pool_gate t seat.pool decls pools + seat.place * t.gates seat.code) + t.gates seat.code) x.0.inner },
      each_seat more decls body pools x.1,
    )

    each_branch : (k : ParKind) (slot : ℕ) (blocks : List KBlock) (bs : Branches) (body : Body) (low high : ℕ) → BranchesStand t home v k slot blocks bs body low high → BranchesStand t home u k slot blocks (each_in_branches f bs) body low high
    each_branch k slot [] no_branch body low high x = frees _ _ x
    each_branch k slot [] (branch r more) body low high x = absurd x
    each_branch k slot (b ∷ blocks) no_branch body low high x = absurd x
    each_branch k slot (b ∷ blocks) (branch r more) body low high x =
        (each_one k slot b r body low high (each_stands r body low (low + t.count (out-KBlock b).node)) x.0, each_branch k (slot + 1) blocks more body (low + t.count (out-KBlock b).node) high x.1)
