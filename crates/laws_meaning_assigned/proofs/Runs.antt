-- The laws on the slots that have a value.
use Rattle.std.proofs.Common.{◌≡◌, subst, ℕ, true, List, arith}
use Rattle.ceu_tree.specs.declared.command.Command.{Command}
use Rattle.ceu_tree.specs.declared.kernel.Kernel.{Kernel}
use Rattle.ceu_tree.specs.Residual.{Body, Program, Act, Residual}
use Rattle.ceu_tree.specs.Proper.{is_proper}
use Rattle.ceu_tree.specs.Run.{Config, Turning, Between, Waiting, Ended, Faulted, next, steps, done, run}
use Rattle.laws_meaning_basics.specs.Shape.{ConfigFits}
use Rattle.laws_meaning_instances.specs.Instances.{InstancesStand}
use Rattle.laws_meaning_instances.proofs.Reactions.{instances_counted}
use Rattle.laws_meaning_assigned.specs.Needed.{needed, Stocked}
use Rattle.laws_meaning_assigned.specs.Slots.{slots_set}
use Rattle.laws_meaning_assigned.proofs.Turns.{turn_reads}
use Rattle.laws_meaning_assigned.proofs.Slots.{tree_set}
use Rattle.laws_meaning_instances.proofs.Reactions.{booted_counts}
use Rattle.laws_meaning_basics.proofs.RunFits.{steps_fit, booted_fits, done_fits, run_fits}
use Rattle.ceu_tree.specs.Focus.{Focus, leaf, body_of}
use Rattle.ceu_tree.specs.World.{World}
use Rattle.ceu_tree.specs.Run.{booted}
use Rattle.laws_meaning_values.specs.Ready.{act_has}
use Rattle.laws_meaning_instances.proofs.Commands.{run_counts}
use Rattle.laws_meaning_assigned.proofs.Reactions.{OneStocked, next_stocked, steps_stocked}
use Rattle.laws_meaning_assigned.proofs.Commands.{done_stands, run_stands}
use Rattle.std.proofs.Common.{◌≤◌, false, []}
use Rattle.ceu_tree.specs.declared.kernel.KNode.{KNode}
use Rattle.ceu_tree.specs.declared.kernel.KBlock.{out-KBlock}
use Rattle.ceu_tree.specs.Residual.{Start}
use Rattle.ceu_tree.specs.Legal.{is_program_variable}
use Rattle.ceu_tree.specs.Mentions.{count_of, stmt_names}
use Rattle.laws_meaning_values.specs.Ground.{has}
use Rattle.laws_meaning_assigned.specs.Outer.{OuterStands}
use Rattle.laws_meaning_assigned.proofs.Outer.{outer_reads}
use Rattle.laws_meaning_assigned.proofs.OuterRuns.{steps_outer, done_outer, booted_outer, run_outer}

every : (K : Kernel) (c : Config) → ((b : Body) (x : ℕ) → OneStocked K b x c) → Stocked K c
every K (Turning n f w) h = λ b x. h b x
every K (Between n r w) h = λ b x. h b x
every K (Waiting r w) h = λ b x. h b x
every K (Ended v w) h = tt
every K (Faulted e w) h = tt

one : (K : Kernel) (c : Config) (b : Body) (x : ℕ) → Stocked K c → OneStocked K b x c
one K (Turning n f w) b x h = h b x
one K (Between n r w) b x h = h b x
one K (Waiting r w) b x h = h b x
one K (Ended v w) b x h = tt
one K (Faulted e w) b x h = tt

module _ (K : Kernel) (proper : is_proper K ≡ true) where
  pub next_all : (c : Config) → ConfigFits K c → InstancesStand c → Stocked K c → Stocked K (next K c)
  next_all c t i h = every K (next K c) (λ b x. next_stocked K proper b x c t (instances_counted K proper c t i) (one K c b x h))

  pub steps_all : (n : ℕ) (c : Config) → ConfigFits K c → InstancesStand c → Stocked K c → Stocked K (steps K n c)
  steps_all n c t i h = every K (steps K n c) (λ b x. steps_stocked K proper b x n c t (instances_counted K proper c t i) (one K c b x h))

  pub done_all : (n : ℕ) (y : Command) (c : Config) → ConfigFits K c → InstancesStand c → Stocked K c → Stocked K (done K n y c)
  done_all n y c t i h = every K (done K n y c) (λ b x. done_stands K proper b x n y c t (instances_counted K proper c t i) (one K c b x h))

  pub run_all : (n : ℕ) (ys : List Command) → Stocked K (run K n ys)
  run_all n ys = every K (run K n ys) (λ b x. run_stands K proper b x n ys)

  booted_one : (b : Body) (x : ℕ) → OneStocked K b x (booted K)
  unfolding needed
  booted_one b x h = absurd (omega (arith, h))

  pub boot_reads : (k n : ℕ) (f : Focus Act) (w : World) → steps K k (booted K) ≡ Turning n f w → act_has (body_of f Program) w (leaf f) ≡ true
  boot_reads k n f w e =
      turn_reads K proper w n f (subst (ConfigFits K) e (steps_fit K proper k (booted K) (booted_fits K proper)))
      (subst (Stocked K) e (every K (steps K k (booted K)) (λ b x. steps_stocked K proper b x k (booted K) (booted_fits K proper) (booted_counts K proper) (booted_one b x))))

  pub command_reads : (m k n : ℕ) (xs : List Command) (y : Command) (f : Focus Act) (w : World) → done K k y (run K m xs) ≡ Turning n f w → act_has (body_of f Program) w (leaf f) ≡ true
  command_reads m k n xs y f w e =
      turn_reads K proper w n f (subst (ConfigFits K) e (done_fits K proper k y (run K m xs) (run_fits K proper m xs)))
      (subst (Stocked K) e (every K (done K k y (run K m xs)) (λ b x. done_stands K proper b x k y (run K m xs) (run_fits K proper m xs) (run_counts K proper m xs) (one K (run K m xs) b x (run_all m xs)))))

  pub run_set : (n : ℕ) (ys : List Command) (r : Residual) (w : World) → run K n ys ≡ Waiting r w → slots_set K.codes w r Program ≡ true
  run_set n ys r w e = tree_set K w r Program (subst (Stocked K) e (run_all n ys))

  -- ---- the program's variables

  pub boot_outer_reads : (k n slot : ℕ) (f : Focus Act) (s : KNode) (w : World) → steps K k (booted K) ≡ Turning n f w → leaf f ≡ Start s → is_program_variable slot (out-KBlock K.body).decls ≡ true → 1 ≤ count_of slot (stmt_names false [] s.stmt) → has Program slot w ≡ true
  boot_outer_reads k n slot f s w e q v m =
      outer_reads K proper n f w s slot (subst (ConfigFits K) e (steps_fit K proper k (booted K) (booted_fits K proper)))
      (subst (Stocked K) e (every K (steps K k (booted K)) (λ b x. steps_stocked K proper b x k (booted K) (booted_fits K proper) (booted_counts K proper) (booted_one b x))))
      (subst (OuterStands K) e (steps_outer K proper k (booted K) (booted_fits K proper) (booted_outer K proper))) q v m

  pub command_outer_reads : (m k n slot : ℕ) (xs : List Command) (y : Command) (f : Focus Act) (s : KNode) (w : World) → done K k y (run K m xs) ≡ Turning n f w → leaf f ≡ Start s → is_program_variable slot (out-KBlock K.body).decls ≡ true
      → 1 ≤ count_of slot (stmt_names false [] s.stmt) → has Program slot w ≡ true
  command_outer_reads m k n slot xs y f s w e q v l =
      outer_reads K proper n f w s slot (subst (ConfigFits K) e (done_fits K proper k y (run K m xs) (run_fits K proper m xs)))
      (subst (Stocked K) e (every K (done K k y (run K m xs)) (λ b x. done_stands K proper b x k y (run K m xs) (run_fits K proper m xs) (run_counts K proper m xs) (one K (run K m xs) b x (run_all m xs)))))
      (subst (OuterStands K) e (done_outer K proper k y (run K m xs) (run_fits K proper m xs) (run_outer K proper m xs))) q v l
