-- An idle turn closes and aborts what reads no variable without a value.
use Rattle.std.proofs.Common.{◌≡◌, refl, sym, ap, subst, ◌≤◌, ℕ, ◌+◌, true, false, Option, Some, None, List, arith}
use Rattle.std.proofs.lemmas.Bool.{false≢true}
use Rattle.ceu_tree.specs.declared.command.Command.{Command}
use Rattle.ceu_tree.specs.declared.kernel.Kernel.{Kernel}
use Rattle.ceu_tree.specs.declared.kernel.KBlock.{KBlock}
use Rattle.ceu_tree.specs.declared.kernel.KStmt.{out-KStmt}
use Rattle.ceu_tree.specs.declared.kernel.KStmt.TheOpen.{KStmt-F}
use Rattle.ceu_tree.specs.Residual.{Body, Program, Act, Residual, Over, InAsync}
use Rattle.ceu_tree.specs.Focus.{Frame, Focus, Here, In, fill, plug, leaf, body_in, body_of, choose}
use Rattle.ceu_tree.specs.World.{World}
use Rattle.ceu_tree.specs.Wake.{each_leaf, runs_at, Unserved, unserved, new_round}
use Rattle.ceu_tree.specs.Legal.{Seated, is_set, program_done, outer_set}
use Rattle.ceu_tree.specs.Proper.{Scope, is_proper}
use Rattle.ceu_tree.specs.Run.{Waiting, run}
use Rattle.laws_meaning_basics.proofs.FocusBalance.{Found, FoundIn, choose_found}
use Rattle.laws_meaning_basics.specs.Shape.{Part, AStatement, ABlock, async_scope, program_part, Fits, FrameFits, around_statement, around_end, around_instance, Around, one_around, ConfigFits}
use Rattle.laws_meaning_basics.proofs.Leaves.{leaves_fit, round_fits}
use Rattle.laws_meaning_basics.proofs.Choice.{ChoiceFits, choice_fits}
use Rattle.laws_meaning_basics.proofs.RunFits.{turn_of_chosen, async_leaf, run_fits}
use Rattle.laws_meaning_values.specs.Ground.{has}
use Rattle.laws_meaning_slots.proofs.Seats.{Calm, each_seat, focus_seats, plug_seats, unplug_seats, leaves_seats}
use Rattle.laws_meaning_slots.proofs.Agree.{listed}
use Rattle.laws_meaning_instances.specs.Instances.{InstancesStand}
use Rattle.laws_meaning_instances.proofs.Living.{lives}
use Rattle.laws_meaning_instances.proofs.Trees.{live_focus, plug_lives}
use Rattle.laws_meaning_instances.proofs.Reactions.{counts_same, chosen_lives, instances_counted}
use Rattle.laws_meaning_instances.proofs.Runs.{run_stands}
use Rattle.laws_meaning_counters.specs.Counters.{is_first}
use Rattle.laws_meaning_counters.proofs.Calms.{round_calm, TreeCounts, leaves_counts, unserved_lives}
use Rattle.laws_meaning_assigned.specs.Needed.{needed, Stocked}
use Rattle.laws_meaning_assigned.specs.Outer.{OuterSet, OuterStands}
use Rattle.laws_meaning_assigned.proofs.Trees.{unplugged, leaves_kept, round_same, unserved_needed}
use Rattle.laws_meaning_assigned.proofs.Reactions.{picked_needed}
use Rattle.laws_meaning_assigned.proofs.OuterSteps.{moves_to, leaves_top}
use Rattle.laws_meaning_assigned.proofs.OuterRuns.{run_outer}
use Rattle.laws_meaning_assigned.proofs.Runs.{run_all}
use Rattle.laws_meaning_finalizers.specs.Closing.{first_reads, served_reads, idle_reads}
use Rattle.laws_meaning_finalizers.proofs.Envs.{SeatSet}
use Rattle.laws_meaning_finalizers.proofs.Serves.{later, serve_fine}

module _ (K : Kernel) (proper : is_proper K ≡ true) where
  same_done : {t : ℕ} {fr : Frame} {c : Part} → FrameFits K t fr (program_part K) c → (p q : Residual) → program_done K.body (fill fr p) ≡ program_done K.body (fill fr q)
  same_done (around_statement done e f all) p q = refl
  same_done (around_end f all) p q = refl
  same_done (around_instance done k e f r u v i j) p q = refl

  -- the tree without what is at the leaf
  emptied : {t : ℕ} {fr : Frame} {c : Part} → FrameFits K t fr (program_part K) c → (g : Focus Unserved) (q : Residual) → OuterSet K (fill fr (plug g q)) → OuterSet K (fill fr (plug g Over))
  unfolding each_seat
  emptied {fr = fr} a g q h =
      moves_to K (fill fr (plug g q)) (fill fr (plug g Over)) (λ x m. subst (λ l. is_set l x ≡ true) (same_done a (plug g q) (plug g Over)) m)
      (λ u. (let S : Seated → Type 0 = λ y. outer_set K (fill fr (plug g Over)) y ≡ true in plug_seats S (In fr g) Over Program (unplug_seats S (In fr g) q Program u).0 tt)) h

  round_seats : (P : Seated → Type 0) → Calm P new_round
  unfolding each_seat
  round_seats P (InAsync s b r) body h = tt
  round_seats P r body h = h

  round_done : (y : Residual) (x : ℕ) → is_set (program_done K.body y) x ≡ true → is_set (program_done K.body (new_round y)) x ≡ true
  round_done (InAsync s b r) x h = absurd (false≢true h)
  round_done y x h = h

  round_outer : (r : Residual) → OuterSet K r → OuterSet K (each_leaf new_round r)
  round_outer r h = moves_to K r (each_leaf new_round r) (leaves_top K new_round r round_done) (λ u. leaves_seats (λ y. outer_set K (each_leaf new_round r) y ≡ true) new_round (round_seats _) r Program u) h

  abbrev Own : Residual → World → Type 0
  Own r w = (b : Body) (x : ℕ) → 1 ≤ needed K.codes b x Program r → has b x w ≡ true

  module _ (k : ℕ) (r : Residual) (w : World) (h : TreeCounts r w) (own : Own r w) (outer : OuterSet K r) where
    at_leaf : (g : Focus Unserved) (sc : Scope) (c : KBlock) → Around K 0 Unserved g (program_part K) (AStatement sc (leaf g).stmt) → out-KStmt (leaf g).stmt.stmt ≡ KStmt-F.Async c → Fits K 1 (ABlock false (async_scope K sc) c) (leaf g).inner → Found Unserved unserved r g
        → served_reads K k (Some g) w
    at_leaf (Here y) sc c a layer fits f = elim a [ ]
    at_leaf (In fr g) sc c (one_around {e = top} a more) layer fits f = go (choose Act (runs_at 0) (leaf g).inner) (choice_fits K 1 Act (runs_at 0) fits) (choose_found Act (runs_at 0) (leaf g).inner)
      where
        at : Body
        at = body_of g (body_in fr Program)

        st : focus_seats (SeatSet K proper (fill fr (plug g Over))) (In fr g) Program
        st = (unplug_seats (SeatSet K proper (fill fr (plug g Over))) (In fr g) Over Program (listed (outer_set K (fill fr (plug g Over))) (fill fr (plug g Over)) Program (emptied a g f.was (subst (OuterSet K) (sym f.plugs) outer)))).0

        go : (o : Option (Focus Act)) → ChoiceFits K 1 Act (runs_at 0) (ABlock false (async_scope K sc) c) o → FoundIn Act (runs_at 0) (leaf g).inner o → first_reads K k (In fr g) o w
        go None t y = tt
        go (Some z) t y =
            serve_fine K proper fr g top sc c a more layer st k z w (turn_of_chosen K proper 0 (ABlock false (async_scope K sc) c) z t)
            (counts_same (λ p. lives p r) (λ p. live_focus p z + live_focus p (In fr g)) w w (record { living = refl; given = refl })
            (λ p. (let u = plug_lives p (In fr g) f.was in let v = unserved_lives p f.was (leaf g) f.picked in let e = ap (lives p) f.plugs in let i = chosen_lives p 0 (leaf g).inner z y in omega (arith, u, v, e, i))) h.0)
            (λ b x l. own b x (let s = unplugged K.codes b x later Program (In fr g) f.was in let e = ap (needed K.codes b x Program) f.plugs in omega (arith, s, e, l)))
            (λ b x l. own b x
            (let s = unplugged K.codes b x later Program (In fr g) f.was in let e = ap (needed K.codes b x Program) f.plugs in let i = unserved_needed K.codes b x at f.was (leaf g) f.picked in
            let u = unplugged K.codes b x is_first at z y.was in let v = picked_needed K b x 0 (body_of z at) y.was (leaf z) y.picked in let p = ap (needed K.codes b x at) y.plugs in omega (arith, s, e, i, u, v, p, l)))

    pub served_fine : (o : Option (Focus Unserved)) → ChoiceFits K 0 Unserved unserved (program_part K) o → FoundIn Unserved unserved r o → served_reads K k o w
    served_fine None t f = tt
    served_fine (Some g) t f =
        let l = async_leaf K proper t.part t.was (leaf g) t.fits t.picked in
        at_leaf g l.scope l.block (subst (Around K 0 Unserved g (program_part K)) l.is t.around) l.layer l.fits f

  abbrev Reads : ℕ → Residual → World → Option (Focus Unserved) → Type 0
  Reads k r w o = elim o [ Some g ↦ served_reads K k (Some g) w | None ↦ served_reads K k (choose Unserved unserved (each_leaf new_round r)) w ]

  pub idle_fine : (k : ℕ) (r : Residual) (w : World) → ConfigFits K (Waiting r w) → InstancesStand (Waiting r w) → Stocked K (Waiting r w) → OuterStands K (Waiting r w) → idle_reads K k r w
  idle_fine k r w t i own outer = go (choose Unserved unserved r) (choice_fits K 0 Unserved unserved t) (choose_found Unserved unserved r)
    where
      again : Residual
      again = each_leaf new_round r

      counts : TreeCounts r w
      counts = instances_counted K proper (Waiting r w) t i

      go : (o : Option (Focus Unserved)) → ChoiceFits K 0 Unserved unserved (program_part K) o → FoundIn Unserved unserved r o → Reads k r w o
      go (Some g) c f = served_fine k r w counts own outer (Some g) c f
      go None c f =
          served_fine k again w (leaves_counts new_round round_calm r w counts) (λ b x l. own b x (let e = leaves_kept K.codes b x new_round (round_same K.codes b x) Program r in omega (arith, e, l))) (round_outer r outer) (choose Unserved unserved again)
          (choice_fits K 0 Unserved unserved (leaves_fit K 0 0 new_round (round_fits K) t)) (choose_found Unserved unserved again)

  pub run_idle_fine : (m k : ℕ) (xs : List Command) (r : Residual) (w : World) → run K m xs ≡ Waiting r w → idle_reads K k r w
  run_idle_fine m k xs r w e =
      idle_fine k r w (subst (ConfigFits K) e (run_fits K proper m xs)) (subst InstancesStand e (run_stands K proper m xs)) (subst (Stocked K) e (run_all K proper m xs)) (subst (OuterStands K) e (run_outer K proper m xs))
