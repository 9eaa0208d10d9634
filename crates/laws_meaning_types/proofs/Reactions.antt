-- Each step of a reaction of a proper kernel keeps stores well-typed.
use Rattle.std.proofs.Common.{◌≡◌, sym, ap, ◌∙◌, subst, ℕ, zero, suc, Bool, true, false, if◌then◌else◌, ◌==◌, length, Option, Some, None, arith, lt-ltb}
use Rattle.ceu_base.specs.declared.kinds.Pos.{Pos}
use Rattle.ceu_base.specs.declared.kinds.Fault.{Fault}
use Rattle.ceu_base.specs.declared.kinds.Ty.TheVariants as ty
use Rattle.ceu_tree.specs.declared.kernel.Kernel.{Kernel}
use Rattle.ceu_tree.specs.declared.kernel.KLoop.TheVariants as turns
use Rattle.ceu_tree.specs.declared.kernel.KStmt.{out-KStmt}
use Rattle.ceu_tree.specs.declared.kernel.KStmt.TheOpen.{KStmt-F}
use Rattle.ceu_tree.specs.Residual.{Body, Program, Act, Begin, Start, Finish, AtEnd, AtHead, Again, Residual, Run}
use Rattle.ceu_tree.specs.Focus.{Focus, leaf, body_of, choose}
use Rattle.ceu_tree.specs.World.{World}
use Rattle.ceu_tree.specs.Wake.{runs_at}
use Rattle.ceu_tree.specs.Leaf.{Layer}
use Rattle.ceu_tree.specs.Numbering.{block_slots, block_nodes}
use Rattle.ceu_tree.specs.Around.{Outcome, Goes, Rests, Raises, Fails, Ends, Moved}
use Rattle.ceu_tree.specs.Step.{stepped}
use Rattle.ceu_tree.specs.Proper.{is_proper}
use Rattle.ceu_tree.specs.Run.{Config, Turning, Between, Waiting, Ended, Faulted, config_of, unless_failed, level_closed, chosen_at, next, steps}
use Rattle.laws_meaning_basics.proofs.FocusBalance.{Found, FoundIn, choose_found}
use Rattle.laws_meaning_basics.specs.Shape.{Part, program_part, ActFits, TurnFits, ConfigFits}
use Rattle.laws_meaning_basics.proofs.UpFits.{Sound}
use Rattle.laws_meaning_basics.proofs.StepFits.{Closed, around_sound}
use Rattle.laws_meaning_basics.proofs.RunFits.{root_sound, root_closed, next_fits}
use Rattle.laws_meaning_values.proofs.Grounds.{program_ground}
use Rattle.laws_meaning_values.specs.Results.{IsResult}
use Rattle.laws_meaning_slots.specs.Typed.{is_typed, all_typed, start_typed}
use Rattle.laws_meaning_slots.proofs.Slots.{once, once_is}
use Rattle.laws_meaning_slots.proofs.Values as values
use Rattle.laws_meaning_slots.proofs.Aims.{Inside}
use Rattle.laws_meaning_slots.proofs.Known.{Known, program_known, around_known}
use Rattle.laws_meaning_slots.proofs.Starts.{at_start}
use Rattle.laws_meaning_slots.proofs.Typing.{AllTyped}
use Rattle.laws_meaning_counters.specs.Ints.{tree_int, outcome_int, layer_ends, act_ends}
use Rattle.laws_meaning_counters.proofs.IntTrees as ints
use Rattle.laws_meaning_counters.proofs.IntSteps.{stepped_int}
use Rattle.laws_meaning_types.specs.Ready.{act_ready, tree_ready}
use Rattle.laws_meaning_types.specs.Stores.{TreeTyped, TurnTyped, StoresTyped}
use Rattle.laws_meaning_types.proofs.Trees.{unplugged}
use Rattle.laws_meaning_types.proofs.Steps.{outcome_ready, stepped_whole}

-- the ends of a range that begins are ints
loop_ends : (K : Kernel) (body : Body) (w : World) (layer : Layer) → start_typed K body w layer → layer_ends body w layer
loop_ends K body w (KStmt-F.Loop (turns.Range i next end open_a a b open_b) c) h = (λ v q. subst (IsResult ty.S32) q h.0, λ v q. subst (IsResult ty.S32) q h.1)
loop_ends K body w (KStmt-F.Loop turns.Free c) h = tt
loop_ends K body w (KStmt-F.Loop (turns.Times slot n) c) h = tt
loop_ends K body w layer h = tt

picked_ready : (K : Kernel) (n : ℕ) (r : Residual) (a : Act) → runs_at n r ≡ Some a → tree_ready K r → act_ready a
unfolding tree_ready
picked_ready K n (Run m b) a e h = go (m == n) e
  where
    go : (t : Bool) → (if t then Some b else None) ≡ Some a → act_ready a
    go true q = subst act_ready (ap (λ o. elim o [ None ↦ b | Some x ↦ x ]) q) h
    go false q = absurd (cc)
picked_ready K n r a e h = absurd (cc)

module _ (K : Kernel) (proper : is_proper K ≡ true) where
  pub tested : (w : World) → all_typed K w → AllTyped K proper w
  tested w e = values.lie_all (λ h. once (is_typed K h)) (is_typed K) (λ h. once_is (is_typed K h)) w.values e

  pub agreed : (w : World) → AllTyped K proper w → all_typed K w
  agreed w l = values.all_lie (λ h. once (is_typed K h)) (is_typed K) (λ h n. once_is (is_typed K h) ∙ lt-ltb 0 (once (is_typed K h)) (omega (arith, n))) w.values l

  ends_typed : (d : Part) (a : Act) (body : Body) (w : World) → Sound K proper d → Known K proper d → ActFits d a → AllTyped K proper w
      → act_ends body w a
  ends_typed d (Start s) body w h k f x = loop_ends K body w (out-KStmt s.stmt) (at_start K proper d s body w f h k x)
  ends_typed d (Begin b) body w h k f x = tt
  ends_typed d (Finish s v) body w h k f x = tt
  ends_typed d AtEnd body w h k f x = tt
  ends_typed d AtHead body w h k f x = tt
  ends_typed d Again body w h k f x = tt

  -- what a step makes of a whole
  pub record Stepped (m : Moved) : Type 0 where
    pub values : all_typed K m.world
    pub ranges : outcome_int m.outcome
    pub trails : outcome_ready K m.outcome

  pub turn_typed : (n : ℕ) (root : Body) (f : Focus Act) (w : World) (d : Part) → Closed K proper d → Sound K proper d → Known K proper d → Inside d
      → TurnFits K (suc n) d f → TurnTyped K f w → Stepped (stepped K n root f w)
  turn_typed n root f w d c h k i t x =
      let m = stepped K n root f w in
      let y = tested w x.values in
      let z = stepped_whole K proper n root d c h k i f w t x.trails x.turn x.ranges y in
      record {
        values = agreed m.world z.typed;
        ranges = stepped_int K proper n root f w d c h t (ends_typed t.part (leaf f) (body_of f root) w (around_sound K proper t.around h) (around_known K proper t.around k) t.acts y) x.ranges;
        trails = z.ready;
      }

  pub root_inside : Inside (program_part K)
  root_inside = record { ground = record { low = 0; high = length (block_slots K.body); first = 0; last = length (block_nodes K.body) }; on = program_ground K proper; low = (omega arith, tt) }

  config_typed : (n : ℕ) (x : Outcome) (w : World) → all_typed K w → outcome_int x → outcome_ready K x → StoresTyped K (config_of n x w)
  unfolding tree_int tree_ready
  config_typed n (Goes g) w v i r = record { values = v; ranges = i; trails = r.0; turn = r.1 }
  config_typed n (Rests q) w v i r = record { values = v; ranges = i; trails = r }
  config_typed n (Raises q) w v i r = record { values = v; ranges = i; trails = r }
  config_typed n (Fails e q) w v i r = tt
  config_typed n (Ends z) w v i r = tt
  config_typed n x w v i r = record { values = v; ranges = tt; trails = tt }

  unless_typed : (w : World) (c : Config) → StoresTyped K c → StoresTyped K (unless_failed w c)
  unless_typed w c h = go w.fault
    where
      go : (o : Option (Fault × Pos)) → StoresTyped K (elim o [ Some e ↦ Faulted e w | None ↦ c ])
      go None = h
      go (Some e) = tt

  closed_typed : (n : ℕ) (r : Residual) (w : World) → TreeTyped K r w → StoresTyped K (level_closed n r w)
  closed_typed zero r w h = h
  closed_typed (suc n) r w h = record { values = h.values; ranges = h.ranges; trails = h.trails }

  -- the leaf that is chosen
  pub found_typed : (n : ℕ) (r : Residual) (w : World) (f : Focus Act) → Found Act (runs_at n) r f → TreeTyped K r w → TurnTyped K f w
  found_typed n r w f y h =
      let a = unplugged K f y.was (subst (tree_ready K) (sym y.plugs) h.trails) in
      record { values = h.values; ranges = (ints.unplugged f y.was (subst tree_int (sym y.plugs) h.ranges)).0; trails = a.0; turn = picked_ready K n y.was (leaf f) y.picked a.1 }

  chosen_typed : (n : ℕ) (r : Residual) (w : World) (o : Option (Focus Act)) → FoundIn Act (runs_at n) r o → TreeTyped K r w
      → StoresTyped K (chosen_at n o r w)
  chosen_typed n r w None y h = closed_typed n r w h
  chosen_typed n r w (Some f) y h = let a = found_typed n r w f y h in record { values = a.values; ranges = a.ranges; trails = a.trails; turn = a.turn }

  pub next_typed : (c : Config) → ConfigFits K c → StoresTyped K c → StoresTyped K (next K c)
  unfolding next
  next_typed (Turning n f w) t h =
      let m = stepped K n Program f w in
      let z = turn_typed n Program f w (program_part K) (root_closed K proper) (root_sound K proper) (program_known K proper) root_inside t h in
      unless_typed m.world (config_of n m.outcome m.world) (config_typed n m.outcome m.world z.values z.ranges z.trails)
  next_typed (Between n r w) t h = chosen_typed n r w (choose Act (runs_at n) r) (choose_found Act (runs_at n) r) h
  next_typed (Waiting r w) t h = h
  next_typed (Ended v w) t h = h
  next_typed (Faulted e w) t h = h

  pub steps_typed : (k : ℕ) (c : Config) → ConfigFits K c → StoresTyped K c → StoresTyped K (steps K k c)
  unfolding steps
  steps_typed zero c t h = h
  steps_typed (suc k) (Turning n f w) t h = steps_typed k (next K (Turning n f w)) (next_fits K proper (Turning n f w) t) (next_typed (Turning n f w) t h)
  steps_typed (suc k) (Between n r w) t h = steps_typed k (next K (Between n r w)) (next_fits K proper (Between n r w) t) (next_typed (Between n r w) t h)
  steps_typed (suc k) (Waiting r w) t h = h
  steps_typed (suc k) (Ended v w) t h = h
  steps_typed (suc k) (Faulted e w) t h = h
