-- What a step of a turn closes, aborts and kills reads no variable without a value, nor does the abortion of what is left after a fault.
use Rattle.std.proofs.Common.{◌≡◌, refl, ◌≤◌, ◌<◌, ℕ, zero, suc, ◌+◌, true, ◌⊎◌, inl, inr, Option, arith}
use Rattle.std.proofs.lemmas.Bool.{cases_lt}
use Rattle.ceu_base.specs.declared.kinds.Mark.TheVariants as mark
use Rattle.ceu_tree.specs.declared.kernel.Kernel.{Kernel}
use Rattle.ceu_tree.specs.Residual.{Body, Program, Act, Residual, Over}
use Rattle.ceu_tree.specs.Focus.{Focus, Here, plug, leaf, body_of}
use Rattle.ceu_tree.specs.World.{World, NotSet, marked, set_alias}
use Rattle.ceu_tree.specs.Leaf.{acted}
use Rattle.ceu_tree.specs.Around.{Outcome, Past}
use Rattle.ceu_tree.specs.Step.{unseat, killed, stepped}
use Rattle.ceu_tree.specs.Proper.{is_proper}
use Rattle.ceu_tree.specs.Run.{Turning, Between, Waiting}
use Rattle.laws_meaning_basics.specs.Shape.{program_part, Fits, TurnFits, ConfigFits}
use Rattle.laws_meaning_basics.proofs.StepFits.{around_sound, unseated_around}
use Rattle.laws_meaning_basics.proofs.RunFits.{root_sound}
use Rattle.laws_meaning_values.specs.Ground.{has}
use Rattle.laws_meaning_values.proofs.Grounds.{program_ground}
use Rattle.laws_meaning_slots.proofs.Seats.{focus_seats, unplug_seats, unseat_seats}
use Rattle.laws_meaning_slots.proofs.Agree.{listed}
use Rattle.laws_meaning_instances.specs.Instances.{TreeStands}
use Rattle.laws_meaning_instances.proofs.Living.{lives}
use Rattle.laws_meaning_instances.proofs.Lists.{Counts}
use Rattle.laws_meaning_instances.proofs.Trees.{live_focus}
use Rattle.laws_meaning_instances.proofs.Reactions.{instances_counted}
use Rattle.laws_meaning_counters.specs.Counters.{is_first}
use Rattle.laws_meaning_counters.proofs.Grips.{point}
use Rattle.laws_meaning_counters.proofs.Reactions.{program_most}
use Rattle.laws_meaning_assigned.specs.Needed.{act_needed, needed, focus_needed, Stocked}
use Rattle.laws_meaning_assigned.specs.Outer.{OuterSet, OuterStands}
use Rattle.laws_meaning_assigned.proofs.Grips.{grip, focus_grip, unseat_less}
use Rattle.laws_meaning_assigned.proofs.Trees.{unseat_needed}
use Rattle.laws_meaning_assigned.proofs.Places.{known_program, root_ground, around_known}
use Rattle.laws_meaning_assigned.proofs.Bounds.{grip_within, around_within}
use Rattle.laws_meaning_assigned.proofs.Settled.{focus_unneeded}
use Rattle.laws_meaning_assigned.proofs.Aborts.{killed_spared}
use Rattle.laws_meaning_assigned.proofs.Leaf.{alias_keeps, acted_fine}
use Rattle.laws_meaning_finalizers.specs.Closing.{aborted_reads, up_reads, killed_reads, step_reads}
use Rattle.laws_meaning_finalizers.specs.Laws.{Closes}
use Rattle.laws_meaning_finalizers.proofs.Envs.{SeatSet}
use Rattle.laws_meaning_finalizers.proofs.Does.{does_fine, does_aborts}
use Rattle.laws_meaning_finalizers.proofs.Fates.{Fate}
use Rattle.laws_meaning_finalizers.proofs.Whole.{root_abort, root_up, root_kill, tree_abort, same_plugged, same_unseated}

module _ (K : Kernel) (proper : is_proper K ≡ true) where
  -- ---- an abortion of the program

  tree_most : (r : Residual) (w : World) (t : ℕ) → Fits K t (program_part K) r → Counts (λ p. lives p r) w → (b : Body) (x : ℕ) → point b x Program + grip K.codes b x Program r ≤ 3
  tree_most r w t fit h b x = let a = grip_within K proper b x fit Program (root_ground K) (program_ground K proper) in let c = program_most b x (λ p. lives p r) w (root_ground K) h in omega (arith, a, c)

  counted : (t : ℕ) (r : Residual) (w : World) → Fits K t (program_part K) r → TreeStands r w → Counts (λ p. lives p r) w
  counted zero r w fit h = (instances_counted K proper (Waiting r w) fit h).0
  counted (suc n) r w fit h = (instances_counted K proper (Between n r w) fit h).0

  pub abort_reads : (t : ℕ) (r : Residual) (w : World) → Fits K t (program_part K) r → TreeStands r w → ((b : Body) (x : ℕ) → 1 ≤ needed K.codes b x Program r → has b x w ≡ true) → OuterSet K r → aborted_reads r Program w
  abort_reads t r w fit h own st = tree_abort K proper r fit refl w (tree_most r w t fit (counted t r w fit h)) own (listed _ r Program st)

  -- ---- a step

  turn_most : (n : ℕ) (f : Focus Act) (w : World) → TurnFits K (suc n) (program_part K) f → Counts (λ p. live_focus p f) w → (b : Body) (x : ℕ) → point b x Program + focus_grip K.codes b x Program f ≤ 3
  turn_most n f w t h b x =
      let j = around_within K proper b x f (program_part K) t.part t.around Program (root_ground K) (program_ground K proper) in
      let a = j.bound in
      let c = program_most b x (λ p. live_focus p f) w (root_ground K) h in
      omega (arith, a, c)

  module _ (n : ℕ) (f : Focus Act) (t : TurnFits K (suc n) (program_part K) f) (most : (b : Body) (x : ℕ) → point b x Program + focus_grip K.codes b x Program f ≤ 3) (st : focus_seats (SeatSet K proper (plug f Over)) f Program) where
    abbrev body : Body
    body = body_of f Program

    abbrev Own : World → Type 0
    Own w = (b : Body) (x : ℕ) → 1 ≤ focus_needed K.codes b x is_first Program f → has b x w ≡ true

    -- those that are needed, after a kill
    unseat_own : (k : ℕ) (w : World) → Own w → (b : Body) (x : ℕ) → 1 ≤ focus_needed K.codes b x is_first Program (unseat k f) → has b x (killed k f w) ≡ true
    unseat_own k w own b x h = after (cases_lt 2 (point b x Program + focus_grip K.codes b x Program (unseat k f)))
      where
        after : (2 < point b x Program + focus_grip K.codes b x Program (unseat k f)) ⊎ (point b x Program + focus_grip K.codes b x Program (unseat k f) ≤ 2) → has b x (killed k f w) ≡ true
        after (inl y) = killed_spared K.codes b x k Program f w (let less = unseat_less K.codes b x k Program f in let l = most b x in omega (arith, less, l, y)) (own b x (let less = unseat_needed K.codes b x k Program f in omega (arith, less, h)))
        after (inr y) =
            absurd
            (let z = focus_unneeded K proper b x is_first (unseat k f) (program_part K) t.part (unseated_around K proper (suc n) k t.around) (root_sound K proper) Program (root_ground K) (point b x Program) (program_ground K proper) (known_program K proper b x (point b x Program) (omega arith)) y in
            omega (arith, z, h))

    unseat_most : (k : ℕ) (b : Body) (x : ℕ) → point b x Program + focus_grip K.codes b x Program (unseat k f) ≤ 3
    unseat_most k b x = let less = unseat_less K.codes b x k Program f in let l = most b x in omega (arith, less, l)

    up_reads_of : (w : World) → Own w → (y : Outcome) → ((a : Act) → Fate (Here a) w y w) → up_reads Program f y w
    up_reads_of w own y fate = root_up K proper (plug f Over) f t.around (same_plugged K proper f t.around) w most own st y fate

    abort_of : (w : World) → Own w → aborted_reads (plug f Over) Program w
    abort_of w own = root_abort K proper (plug f Over) f t.around (same_plugged K proper f t.around) w most own st

    up_killed : (k : ℕ) (w : World) → Own w → up_reads Program (unseat k f) Past (killed k f w)
    up_killed k w own =
        root_up K proper (plug f Over) (unseat k f) (unseated_around K proper (suc n) k t.around) (same_unseated K proper k f t.around) (killed k f w) (unseat_most k) (unseat_own k w own) (unseat_seats (SeatSet K proper (plug f Over)) k f Program st) Past (λ a. tt)

    abort_killed : (k : ℕ) (w : World) → Own w → aborted_reads (plug (unseat k f) Over) Program (killed k f w)
    abort_killed k w own =
        root_abort K proper (plug f Over) (unseat k f) (unseated_around K proper (suc n) k t.around) (same_unseated K proper k f t.around) (killed k f w) (unseat_most k) (unseat_own k w own) (unseat_seats (SeatSet K proper (plug f Over)) k f Program st)

    kill_of : (k : ℕ) (w : World) → Own w → killed_reads k f w
    kill_of k w own = root_kill K proper (plug f Over) f t.around (same_plugged K proper f t.around) w most own st k

    alias_own : (alias : Option ℕ) (w : World) → Own w → Own (marked mark.Full (set_alias body alias NotSet w))
    alias_own alias w own b x l = alias_keeps b x body alias NotSet w (own b x l)

    -- what the leaf does keeps the values
    acted_own : (w : World) → ((b : Body) (x : ℕ) → 1 ≤ focus_needed K.codes b x is_first Program f + act_needed K.codes b x body (leaf f) → has b x w ≡ true) → Own (acted K n body (leaf f) w).world
    acted_own w own b x h =
        let i = around_known K proper b x f (program_part K) t.part t.around Program (root_ground K) (point b x Program) (program_ground K proper) (known_program K proper b x (point b x Program) (omega arith)) in
        let z = acted_fine K proper b x n body t.part i.ground (point b x Program + focus_grip K.codes b x Program f) (leaf f) w i.known (around_sound K proper t.around (root_sound K proper)) t.acts (λ u. own b x (omega (arith, u))) in
        z.keeps (own b x (omega (arith, h)))

    pub step_fine : (w : World) → Stocked K (Turning n f w) → Closes K n f w
    unfolding step_reads stepped
    step_fine w own =
        let d = acted K n body (leaf f) w in
        record {
          step = does_fine K n Program f Own alias_own (λ r u. aborted_reads r Program u) up_reads_of abort_of kill_of up_killed abort_killed d.does d.world (acted_own w own);
          fault = does_aborts K n Program f Own alias_own (λ r u. aborted_reads r Program u) up_reads_of abort_of kill_of up_killed abort_killed d.does d.world (acted_own w own);
        }

  pub step_closes : (n : ℕ) (f : Focus Act) (w : World) → ConfigFits K (Turning n f w) → Counts (λ p. live_focus p f) w → Stocked K (Turning n f w) → OuterStands K (Turning n f w) → Closes K n f w
  step_closes n f w t h own outer = step_fine n f t (turn_most n f w t h) (unplug_seats _ f Over Program (listed _ (plug f Over) Program outer)).0 w own
