-- Where steps pay, no more turns begin and no more levels open in a reaction than were to pay where it began.
use Rattle.std.proofs.Common.{◌≡◌, refl, ap, ◌≤◌, ℕ, zero, suc, ◌+◌, ◌-◌, Bool, true, false, if◌then◌else◌, List, [], Option, Some, None, arith}
use Rattle.std.proofs.lemmas.Bool.{false≢true}
use Rattle.ceu_base.specs.declared.kinds.Pos.{Pos}
use Rattle.ceu_base.specs.declared.kinds.Fault.{Fault}
use Rattle.ceu_tree.specs.declared.kernel.Kernel.{Kernel}
use Rattle.ceu_tree.specs.declared.kernel.KStmt.{out-KStmt}
use Rattle.ceu_tree.specs.declared.kernel.KStmt.TheOpen.{KStmt-F}
use Rattle.ceu_tree.specs.Residual.{Program, Act, Counter, Seat, Residual, Over, Run, Branches, no_branch, branch, Instances, no_instance, instance}
use Rattle.ceu_tree.specs.Focus.{Frame, OfBlock, OfInstance, OfOpen, OfLoop, OfCall, OfPar, Focus, Here, In, join, join_instances, fill, plug, leaf, choose}
use Rattle.ceu_tree.specs.World.{World}
use Rattle.ceu_tree.specs.Wake.{runs_at}
use Rattle.ceu_tree.specs.Leaf.{Layer}
use Rattle.ceu_tree.specs.Paths.{Way, passes_from}
use Rattle.ceu_tree.specs.Costs.{Cost, cost, nothing, plus, paced}
use Rattle.ceu_tree.specs.Around.{Outcome, Goes, Rests, Raises, Fails, Ends}
use Rattle.ceu_tree.specs.Step.{stepped}
use Rattle.ceu_tree.specs.Run.{Config, Turning, Between, Waiting, Ended, Faulted, config_of, unless_failed, chosen_at, next, steps}
use Rattle.ceu_bound.specs.Filled.{emitting, entering}
use Rattle.laws_bounds_steps.specs.Ways.{goes_on, ways}
use Rattle.laws_bounds_steps.specs.Due.{at_await, at_head, running, head_due, due_in_loop, due, due_of_branches, due_of_instances, due_at_head, due_in, to_pay}
use Rattle.laws_bounds_steps.specs.Pays.{Within}
use Rattle.laws_bounds_steps.specs.Whole.{PaidBy}
use Rattle.laws_bounds_steps.specs.Programs.{begins, opens, turns_begun, levels_opened, level_of}
use Rattle.laws_bounds_steps.proofs.Turns.{resumption_counted}

-- ---- where a leaf can run there is a turn to pay

module _ (P : List Bool) (E N : List Cost) where
  record Alive (r : Residual) : Type 0 where
    whole : 1 ≤ (due P E N r).turns
    head : at_head r ≡ true → 1 ≤ (due_at_head P E N r).turns
    await : at_await r ≡ true → 1 ≤ (running r).turns

  run_alive : (n : ℕ) (a : Act) → Alive (Run n a)
  unfolding due
  run_alive n a = record { whole = omega arith; head = λ h. omega arith; await = λ h. omega arith }

  branch_alive : (front back : Branches) (r : Residual) → 1 ≤ (due P E N r).turns → 1 ≤ (due_of_branches P E N (join front (branch r back))).turns
  unfolding due
  branch_alive no_branch back r h = omega (arith, h)
  branch_alive (branch x more) back r h = let i = branch_alive more back r h in omega (arith, i)

  instance_alive : (front back : Instances) (seat : Seat) (r : Residual) → 1 ≤ (due P E N r).turns → 1 ≤ (due_of_instances P E N (join_instances front (instance seat r back))).turns
  unfolding due
  instance_alive no_instance back seat r h = omega (arith, h)
  instance_alive (instance s x more) back seat r h = let i = instance_alive more back seat r h in omega (arith, i)

  loop_alive : (node : ℕ) (layer : Layer) (c : Counter) (r : Residual) (q : List Way) → Alive r → Within (cost 1 0) (due_in_loop P E N node layer c (at_head r) (due_at_head P E N r) (due P E N r) q)
  loop_alive node (KStmt-F.Loop k b) c r q h = go (paced k b)
    where
      either : (x : Bool) → at_head r ≡ x → Within (cost 1 0) (if x then due_at_head P E N r else due P E N r)
      either true e = record { turns = h.head e; opens = omega arith }
      either false e = record { turns = h.whole; opens = omega arith }

      more : (a : Cost) → Within (cost 1 0) (plus (due P E N r) a)
      more a = let i = h.whole in record { turns = omega (arith, i); opens = omega arith }

      go : (o : Option ℕ) → Within (cost 1 0) (elim o [ Some e ↦ if at_head r then due_at_head P E N r else due P E N r | None ↦ plus (due P E N r) (if goes_on node q then head_due P E N node k b c else nothing) ])
      go (Some e) = either (at_head r) refl
      go None = more (if goes_on node q then head_due P E N node k b c else nothing)
  loop_alive node layer c r q h = record { turns = h.whole; opens = omega arith }

  fill_alive : (fr : Frame) (r : Residual) → Alive r → Alive (fill fr r)
  unfolding due
  fill_alive (OfBlock b fin all rest) r h = record {
    whole = let i = h.whole in omega (arith, i);
    head = λ e. (let i = h.await e in omega (arith, i));
    await = λ e. absurd (false≢true e);
  }
  fill_alive (OfInstance b fin front seat back q rest) r h =
      let i = instance_alive front back seat r h.whole in record { whole = omega (arith, i); head = λ e. omega (arith, i); await = λ e. absurd (false≢true e) }
  fill_alive (OfOpen s) r h = record { whole = h.whole; head = λ e. absurd (false≢true e); await = λ e. absurd (false≢true e) }
  fill_alive (OfLoop s c) r h = record { whole = (loop_alive s.node (out-KStmt s.stmt) c r (ways P r) h).turns; head = λ e. absurd (false≢true e); await = λ e. absurd (false≢true e) }
  fill_alive (OfCall s) r h = record { whole = h.whole; head = λ e. absurd (false≢true e); await = λ e. absurd (false≢true e) }
  fill_alive (OfPar s front back) r h = record { whole = branch_alive front back r h.whole; head = λ e. absurd (false≢true e); await = λ e. absurd (false≢true e) }

  plug_alive : (f : Focus Act) (r : Residual) → Alive r → Alive (plug f r)
  plug_alive (Here a) r h = h
  plug_alive (In fr f) r h = fill_alive fr (plug f r) (plug_alive f r h)

  pub turn_alive : (n : ℕ) (f : Focus Act) → 1 ≤ (due P E N (plug f (Run n (leaf f)))).turns
  turn_alive n f = (plug_alive f (Run n (leaf f)) (run_alive n (leaf f))).whole

-- ---- the level of a reaction lies no higher than the levels that it has opened

module _ (K : Kernel) where
  left_level : (n : ℕ) (x : Outcome) (u : World) → level_of (config_of n x u) ≤ n + opens n (config_of n x u)
  left_level n (Goes g) u = omega arith
  left_level n (Rests q) u = omega arith
  left_level n (Raises q) u = omega arith
  left_level n (Fails e q) u = omega arith
  left_level n (Ends v) u = omega arith
  left_level n x u = omega arith

  failed_level : (n : ℕ) (c : Config) (u : World) → level_of c ≤ n + opens n c → level_of (unless_failed u c) ≤ n + opens n (unless_failed u c)
  failed_level n c u l = go u.fault
    where
      go : (o : Option (Fault × Pos)) → level_of (elim o [ Some e ↦ Faulted e u | None ↦ c ]) ≤ n + opens n (elim o [ Some e ↦ Faulted e u | None ↦ c ])
      go None = l
      go (Some e) = omega arith

  chosen_level : (n : ℕ) (r : Residual) (w : World) (o : Option (Focus Act)) → level_of (chosen_at n o r w) ≤ n
  chosen_level n r w (Some f) = omega arith
  chosen_level zero r w None = omega arith
  chosen_level (suc n) r w None = omega arith

  pub level_bounded : (k : ℕ) (c : Config) → level_of (steps K k c) ≤ level_of c + levels_opened K k c
  unfolding steps levels_opened next
  level_bounded zero c = omega arith
  level_bounded (suc k) (Turning n f w) =
      let s = stepped K n Program f w in
      let i = level_bounded k (next K (Turning n f w)) in
      let j = failed_level n (config_of n s.outcome s.world) s.world (left_level n s.outcome s.world) in omega (arith, i, j)
  level_bounded (suc k) (Between n r w) =
      let i = level_bounded k (next K (Between n r w)) in
      let j = chosen_level n r w (choose Act (runs_at n) r) in omega (arith, i, j)
  level_bounded (suc k) (Waiting r w) = omega arith
  level_bounded (suc k) (Ended v w) = omega arith
  level_bounded (suc k) (Faulted e w) = omega arith

-- ---- a reaction

module _ (K : Kernel) where
  -- what is to pay beside the turn that is on
  abbrev pub to_begin : Config → ℕ
  to_begin (Turning n f w) = (due_in K (plug f (Run n (leaf f)))).turns - 1
  to_begin (Between n r w) = (due_in K r).turns
  to_begin c = 0

  -- what a step of the whole pays, by the tables of the program
  abbrev pub Paid : (level : ℕ) → Residual → Outcome → Type 0
  Paid n r x = PaidBy (passes_from [] K.codes) (emitting K) (entering K) n r x

  over_due : (due_in K Over) ≡ nothing
  unfolding due
  over_due = refl

  pub comes_turns : (n : ℕ) (r : Residual) (x : Outcome) (u : World) → Paid n r x → to_begin (config_of n x u) ≤ (due_in K r).turns - 1
  comes_turns n r (Goes g) u c = let i = c.turns in omega (arith, i)
  comes_turns n r (Rests q) u c = let i = c.turns in omega (arith, i)
  comes_turns n r (Raises q) u c = let i = c.turns in omega (arith, i)
  comes_turns n r (Fails e q) u c = omega arith
  comes_turns n r (Ends v) u c = omega arith
  comes_turns n r x u c = let i = ap (λ y. y.turns) over_due in omega (arith, i)

  pub comes_levels : (n : ℕ) (r : Residual) (x : Outcome) (u : World) → Paid n r x → opens n (config_of n x u) + (to_pay K (config_of n x u)).opens ≤ (due_in K r).opens
  comes_levels n r (Goes g) u c = let i = c.opens in omega (arith, i)
  comes_levels n r (Rests q) u c = let i = c.opens in omega (arith, i)
  comes_levels n r (Raises q) u c = let i = c.opens in omega (arith, i)
  comes_levels n r (Fails e q) u c = omega arith
  comes_levels n r (Ends v) u c = omega arith
  comes_levels n r x u c = let i = ap (λ y. y.opens) over_due in omega (arith, i)

  pub failed_turns : (c : Config) (u : World) (m : ℕ) → to_begin c ≤ m → to_begin (unless_failed u c) ≤ m
  failed_turns c u m l = go u.fault
    where
      go : (o : Option (Fault × Pos)) → to_begin (elim o [ Some e ↦ Faulted e u | None ↦ c ]) ≤ m
      go None = l
      go (Some e) = omega arith

  pub failed_levels : (n : ℕ) (c : Config) (u : World) (m : ℕ) → opens n c + (to_pay K c).opens ≤ m → opens n (unless_failed u c) + (to_pay K (unless_failed u c)).opens ≤ m
  failed_levels n c u m l = go u.fault
    where
      go : (o : Option (Fault × Pos)) → opens n (elim o [ Some e ↦ Faulted e u | None ↦ c ]) + (to_pay K (elim o [ Some e ↦ Faulted e u | None ↦ c ])).opens ≤ m
      go None = l
      go (Some e) = omega arith

  pub chosen_turns : (k n : ℕ) (r : Residual) (w : World) (o : Option (Focus Act)) → choose Act (runs_at n) r ≡ o → turns_begun K k (chosen_at n o r w) ≤ to_begin (chosen_at n o r w)
      → begins (chosen_at n o r w) + turns_begun K k (chosen_at n o r w) ≤ (due_in K r).turns
  chosen_turns k n r w (Some f) e i =
      let a = turn_alive (passes_from [] K.codes) (emitting K) (entering K) n f in
      let s = ap (λ q. (due_in K q).turns) (resumption_counted n r f e) in omega (arith, a, s, i)
  chosen_turns k zero r w None e i = omega (arith, i)
  chosen_turns k (suc n) r w None e i = omega (arith, i)

  pub chosen_levels : (n : ℕ) (r : Residual) (w : World) (o : Option (Focus Act)) → choose Act (runs_at n) r ≡ o → (to_pay K (chosen_at n o r w)).opens ≤ (due_in K r).opens
  chosen_levels n r w (Some f) e = let s = ap (λ q. (due_in K q).opens) (resumption_counted n r f e) in omega (arith, s)
  chosen_levels zero r w None e = omega arith
  chosen_levels (suc n) r w None e = omega arith

  -- Where steps pay in each configuration that `Stands`, and keep that, a reaction begins no more turns and opens no more levels than are to pay.
  module _ (Stands : Config → Type 0) (keeps : (c : Config) → Stands c → Stands (next K c))
      (pays : (n : ℕ) (f : Focus Act) (w : World) → Stands (Turning n f w) → Paid n (plug f (Run n (leaf f))) (stepped K n Program f w).outcome) where
    pub turns_within : (k : ℕ) (c : Config) → Stands c → turns_begun K k c ≤ to_begin c
    unfolding turns_begun next
    turns_within zero c h = omega arith
    turns_within (suc k) (Turning n f w) h =
        let i = turns_within k (next K (Turning n f w)) (keeps (Turning n f w) h) in
        let s = stepped K n Program f w in
        let j = failed_turns (config_of n s.outcome s.world) s.world _ (comes_turns n _ s.outcome s.world (pays n f w h)) in omega (arith, i, j)
    turns_within (suc k) (Between n r w) h = chosen_turns k n r w (choose Act (runs_at n) r) refl (turns_within k (next K (Between n r w)) (keeps (Between n r w) h))
    turns_within (suc k) (Waiting r w) h = omega arith
    turns_within (suc k) (Ended v w) h = omega arith
    turns_within (suc k) (Faulted e w) h = omega arith

    pub levels_within : (k : ℕ) (c : Config) → Stands c → levels_opened K k c ≤ (to_pay K c).opens
    unfolding levels_opened next
    levels_within zero c h = omega arith
    levels_within (suc k) (Turning n f w) h =
        let i = levels_within k (next K (Turning n f w)) (keeps (Turning n f w) h) in
        let s = stepped K n Program f w in
        let j = failed_levels n (config_of n s.outcome s.world) s.world _ (comes_levels n _ s.outcome s.world (pays n f w h)) in omega (arith, i, j)
    levels_within (suc k) (Between n r w) h =
        let i = levels_within k (next K (Between n r w)) (keeps (Between n r w) h) in
        let j = chosen_levels n r w (choose Act (runs_at n) r) refl in omega (arith, i, j)
    levels_within (suc k) (Waiting r w) h = omega arith
    levels_within (suc k) (Ended v w) h = omega arith
    levels_within (suc k) (Faulted e w) h = omega arith
