-- Each step of the reactions of a run closes and aborts what reads no variable without a value.
use Rattle.std.proofs.Common.{◌≡◌, subst, ℕ, true, List, arith}
use Rattle.ceu_tree.specs.declared.command.Command.{Command}
use Rattle.ceu_tree.specs.declared.kernel.Kernel.{Kernel}
use Rattle.ceu_tree.specs.Residual.{Act}
use Rattle.ceu_tree.specs.Focus.{Focus}
use Rattle.ceu_tree.specs.World.{World}
use Rattle.ceu_tree.specs.Proper.{is_proper}
use Rattle.ceu_tree.specs.Run.{Turning, booted, steps, done, run}
use Rattle.laws_meaning_basics.specs.Shape.{ConfigFits}
use Rattle.laws_meaning_basics.proofs.RunFits.{steps_fit, booted_fits, done_fits, run_fits}
use Rattle.laws_meaning_instances.specs.Instances.{InstancesStand}
use Rattle.laws_meaning_instances.proofs.Reactions.{ConfigCounts, steps_counts, instances_counted, booted_counts}
use Rattle.laws_meaning_instances.proofs.Commands.{done_counts, run_counts}
use Rattle.laws_meaning_instances.proofs.Runs.{boot_stands, run_stands}
use Rattle.laws_meaning_assigned.specs.Needed.{needed, Stocked}
use Rattle.laws_meaning_assigned.specs.Outer.{OuterStands}
use Rattle.laws_meaning_assigned.proofs.OuterRuns.{steps_outer, done_outer, booted_outer, run_outer}
use Rattle.laws_meaning_assigned.proofs.Runs.{steps_all, done_all, run_all}
use Rattle.laws_meaning_finalizers.specs.Laws.{Closes}
use Rattle.laws_meaning_finalizers.proofs.Steps.{step_closes}

module _ (K : Kernel) (proper : is_proper K ≡ true) where
  pub turn_closes : (n : ℕ) (f : Focus Act) (w : World) → ConfigFits K (Turning n f w) → InstancesStand (Turning n f w) → Stocked K (Turning n f w) → OuterStands K (Turning n f w) → Closes K n f w
  turn_closes n f w t i own outer = step_closes K proper n f w t (instances_counted K proper (Turning n f w) t i).0 own outer

  booted_stocked : Stocked K (booted K)
  unfolding needed
  booted_stocked b x h = absurd (omega (arith, h))

  pub boot_closes : (k n : ℕ) (f : Focus Act) (w : World) → steps K k (booted K) ≡ Turning n f w → Closes K n f w
  boot_closes k n f w e =
      step_closes K proper n f w (subst (ConfigFits K) e (steps_fit K proper k (booted K) (booted_fits K proper)))
      (subst ConfigCounts e (steps_counts K proper k (booted K) (booted_fits K proper) (booted_counts K proper))).0
      (subst (Stocked K) e (steps_all K proper k (booted K) (booted_fits K proper) (boot_stands K) booted_stocked))
      (subst (OuterStands K) e (steps_outer K proper k (booted K) (booted_fits K proper) (booted_outer K proper)))

  pub command_closes : (m k n : ℕ) (xs : List Command) (y : Command) (f : Focus Act) (w : World) → done K k y (run K m xs) ≡ Turning n f w → Closes K n f w
  command_closes m k n xs y f w e =
      step_closes K proper n f w (subst (ConfigFits K) e (done_fits K proper k y (run K m xs) (run_fits K proper m xs)))
      (subst ConfigCounts e (done_counts K proper k y (run K m xs) (run_fits K proper m xs) (run_counts K proper m xs))).0
      (subst (Stocked K) e (done_all K proper k y (run K m xs) (run_fits K proper m xs) (run_stands K proper m xs) (run_all K proper m xs)))
      (subst (OuterStands K) e (done_outer K proper k y (run K m xs) (run_fits K proper m xs) (run_outer K proper m xs)))
