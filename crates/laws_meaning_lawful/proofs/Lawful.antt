-- Steps and commands lead from lawful configurations to lawful ones, and those that wait are legal.
use Rattle.std.proofs.Common.{◌≡◌, refl, ap, subst, ◌^◌, ℕ, zero, suc, true, false, ◌&&◌, inl, inr, nat_lt, List, [], ◌∷◌, arith}
use Rattle.std.proofs.lemmas.Bool.{and_parts, and_from}
use Rattle.std.specs.List.{list_all}
use Rattle.ceu_tree.specs.declared.command.Command.{Command}
use Rattle.ceu_tree.specs.declared.kernel.Kernel.{Kernel}
use Rattle.ceu_tree.specs.Residual.{Program, Residual}
use Rattle.ceu_tree.specs.World.{World, is_among}
use Rattle.ceu_tree.specs.Legal.{seats, numbers, all_differ, lies, no_fault, stands, is_legal}
use Rattle.ceu_tree.specs.Proper.{is_proper}
use Rattle.ceu_tree.specs.Run.{Config, Turning, Between, Waiting, Ended, Faulted, is_reacting, booted, next, steps, done, all_done, run}
use Rattle.laws_meaning_basics.proofs.RunFits.{root_sound, next_fits, done_fits, booted_fits}
use Rattle.laws_meaning_basics.proofs.RunFits as legal
use Rattle.laws_meaning_counters.specs.Ranges.{in_range, ConfigInRange}
use Rattle.laws_meaning_counters.proofs.RangesRuns as ranges
use Rattle.laws_meaning_instances.proofs.Runs as living
use Rattle.laws_meaning_slots.proofs.Runs as held
use Rattle.laws_meaning_counters.proofs.CountersRuns as counters
use Rattle.laws_meaning_assigned.specs.Needed.{needed, Stocked}
use Rattle.laws_meaning_assigned.proofs.Runs as ready
use Rattle.laws_meaning_assigned.proofs.Slots.{tree_set}
use Rattle.laws_meaning_assigned.proofs.Turns.{turn_reads}
use Rattle.laws_meaning_assigned.proofs.Outer.{outer_reads}
use Rattle.laws_meaning_assigned.proofs.OuterRuns.{next_outer, done_outer, booted_outer}
use Rattle.laws_meaning_types.specs.Stores.{CommandTyped}
use Rattle.laws_meaning_types.specs.Laws.{all_commands_typed}
use Rattle.laws_meaning_types.proofs.Runs as stores
use Rattle.laws_meaning_lawful.specs.Lawful.{IsLawful}
use Rattle.laws_meaning_lawful.specs.Laws.{FittingStands, LawfulIsWhole, LawfulReads, IsOver, RunUnfailed, RunLegal}
use Rattle.laws_meaning_lawful.proofs.Unfailed.{next_unfailed, done_unfailed, waits_unfailed}
use Rattle.laws_meaning_lawful.proofs.Trees.{tree_stands}

pub unfailed : RunUnfailed
unfailed K n xs r w p e = waits_unfailed K p n xs r w e

pub fitting : FittingStands
fitting K r w found p t c g j s q = tree_stands K p w found t (root_sound K p) false refl Program [] c g j s q

module _ (K : Kernel) (proper : is_proper K ≡ true) where
  booted_stocked : Stocked K (booted K)
  unfolding needed
  booted_stocked = λ body slot h. absurd (omega (arith, h))

  booted_times : ConfigInRange (booted K)
  unfolding in_range
  booted_times = tt

  pub booted_lawful : IsLawful K (booted K)
  booted_lawful = record {
    fits = booted_fits K proper;
    instances = living.boot_stands K;
    values = refl;
    names = refl;
    counters = counters.boot_stands K;
    stocked = booted_stocked;
    outer = booted_outer K proper;
    typed = stores.boot_types K;
    times = booted_times;
    unfailed = refl;
  }

  pub next_lawful : (c : Config) → IsLawful K c → IsLawful K (next K c)
  next_lawful c h = record {
    fits = next_fits K proper c h.fits;
    instances = living.next_stands K proper c h.fits h.instances;
    values = held.next_held K proper c h.fits h.instances h.values;
    names = held.next_hold K proper c h.fits h.instances h.names;
    counters = counters.next_all K proper c h.fits h.instances h.counters;
    stocked = ready.next_all K proper c h.fits h.instances h.stocked;
    outer = next_outer K proper c h.fits h.outer;
    typed = stores.step_types K c proper h.fits h.typed;
    times = ranges.next_kept K c h.times;
    unfailed = next_unfailed K c h.unfailed;
  }

  pub steps_lawful : (n : ℕ) (c : Config) → IsLawful K c → IsLawful K (steps K n c)
  unfolding steps
  steps_lawful zero c h = h
  steps_lawful (suc n) (Turning m f w) h = steps_lawful n (next K (Turning m f w)) (next_lawful (Turning m f w) h)
  steps_lawful (suc n) (Between m r w) h = steps_lawful n (next K (Between m r w)) (next_lawful (Between m r w) h)
  steps_lawful (suc n) (Waiting r w) h = h
  steps_lawful (suc n) (Ended v w) h = h
  steps_lawful (suc n) (Faulted e w) h = h

  pub done_lawful : (n : ℕ) (x : Command) (c : Config) → CommandTyped K x → IsLawful K c → IsLawful K (done K n x c)
  done_lawful n x c q h = record {
    fits = done_fits K proper n x c h.fits;
    instances = living.done_stands K proper n x c h.fits h.instances;
    values = held.done_held K proper n x c h.fits h.instances h.values;
    names = held.done_hold K proper n x c h.fits h.instances h.names;
    counters = counters.done_all K proper n x c h.fits h.instances h.counters;
    stocked = ready.done_all K proper n x c h.fits h.instances h.stocked;
    outer = done_outer K proper n x c h.fits h.outer;
    typed = stores.command_types K n x c proper h.fits q h.typed;
    times = ranges.done_kept K n x c h.times;
    unfailed = done_unfailed K proper n x c h.fits h.unfailed;
  }

  pub all_lawful : (n : ℕ) (xs : List Command) (c : Config) → all_commands_typed K xs → IsLawful K c → IsLawful K (all_done K n xs c)
  unfolding all_done
  all_lawful n [] c q h = h
  all_lawful n (x ∷ xs) c q h = all_lawful n xs (done K n x c) q.1 (done_lawful n x c q.0 h)

  pub run_lawful : (n : ℕ) (xs : List Command) → all_commands_typed K xs → IsLawful K (run K n xs)
  unfolding run
  run_lawful n xs q = all_lawful n xs (steps K n (booted K)) q (steps_lawful n (booted K) booted_lawful)

  -- ---- legality

  pub waits_legal : (r : Residual) (w : World) → IsLawful K (Waiting r w) → is_legal K (Waiting r w) ≡ true
  unfolding stands
  waits_legal r w h =
      let found = seats r Program in
      let ns = numbers found in
      let x = living.numbers_are_legal r w h.instances.numbers in
      let x1 = and_parts (all_differ ns && list_all (lies 1 w.given) ns && list_all (λ n. is_among n w.living) ns && list_all (λ n. is_among n ns) w.living && all_differ w.living) (nat_lt w.given (2 ^ 32)) x in
      let x2 = and_parts (all_differ ns && list_all (lies 1 w.given) ns && list_all (λ n. is_among n w.living) ns && list_all (λ n. is_among n ns) w.living) (all_differ w.living) x1.0 in
      let x3 = and_parts (all_differ ns && list_all (lies 1 w.given) ns && list_all (λ n. is_among n w.living) ns) (list_all (λ n. is_among n ns) w.living) x2.0 in
      let x4 = and_parts (all_differ ns && list_all (lies 1 w.given) ns) (list_all (λ n. is_among n w.living) ns) x3.0 in
      let x5 = and_parts (all_differ ns) (list_all (lies 1 w.given) ns) x4.0 in
      let whole =
      fitting K r w found proper h.fits (stores.cells_are_legal K r w proper h.fits h.values h.names h.typed) (tree_set K w r Program h.stocked)
      (stores.loops_are_legal K r w found h.fits h.counters h.typed) h.instances.pools h.times in
      and_from _ _
      (and_from _ _
      (and_from _ _
      (and_from _ _
      (and_from _ _ (and_from _ _ (and_from _ _ (and_from _ _ (and_from _ _ whole (held.slots_are_legal K r w h.values)) x5.0) x5.1) x4.1) x3.1) x2.1)
      x1.1)
      h.outer)
      (ap no_fault h.unfailed)

  over : (c : Config) → IsLawful K c → is_reacting c ≡ false → IsOver K c
  over (Turning n f w) h e = absurd (cc)
  over (Between n r w) h e = absurd (cc)
  over (Waiting r w) h e = inl (waits_legal r w h)
  over (Ended v w) h e = inr (inl (v, w, refl))
  over (Faulted x w) h e = inr (inr (x, w, refl))

  pub leads : (n : ℕ) (x : Command) (c : Config) → CommandTyped K x → IsLawful K c → is_reacting (done K n x c) ≡ false → IsOver K (done K n x c)
  leads n x c q h e = over (done K n x c) (done_lawful n x c q h) e

-- ---- steps

pub whole : LawfulIsWhole
whole K n f w p h = legal.step_whole K p n f w h.fits

pub reads : LawfulReads
reads K n f w p h = record {
  own = turn_reads K p w n f h.fits h.stocked;
  outer = λ slot s e v m. outer_reads K p n f w s slot h.fits h.stocked h.outer e v m;
}

pub lawful : RunLegal
lawful K n xs r w p q e = waits_legal K p r w (subst (IsLawful K) e (run_lawful K p n xs q))
