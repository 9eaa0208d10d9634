-- Commands and runs of a program that breaks no rule on loops end.
use Rattle.std.proofs.Common.{◌≡◌, refl, ap, ◌∙◌, ◌≤◌, ℕ, true, false, List, [], ◌∷◌}
use Rattle.ceu_base.specs.declared.kinds.Mark.{Mark}
use Rattle.ceu_tree.specs.declared.command.Command.{Command}
use Rattle.ceu_tree.specs.declared.kernel.Kernel.{Kernel}
use Rattle.ceu_tree.specs.Proper.{is_proper}
use Rattle.ceu_tree.specs.Run.{Config, is_reacting, booted, steps, done, all_done, run, world_of, Status, status_of, Runs}
use Rattle.ceu_bound.specs.PhaseB.{KeepsLoopRules}
use Rattle.laws_bounds_turns.proofs.Ending.{serving_ends}
use Rattle.laws_bounds_reactions.specs.Steady.{IsSteady}
use Rattle.laws_bounds_reactions.proofs.Settling.{Settles, command_settles, run_settles, booted_steady, steps_steady, done_steady}
use Rattle.laws_bounds_reactions.proofs.Ending.{reactions_end}

over_from : (F : ℕ → Config) → Settles F → (bound : ℕ) × ((n : ℕ) → bound ≤ n → is_reacting (F n) ≡ false)
over_from F s = (s.bound, λ n l. ap is_reacting (s.is n l) ∙ s.over)

module _ (K : Kernel) (proper : is_proper K ≡ true) where
  all_steady : (n : ℕ) (xs : List Command) (c : Config) → IsSteady K c → IsSteady K (all_done K n xs c)
  unfolding all_done
  all_steady n [] c h = h
  all_steady n (x ∷ xs) c h = all_steady n xs (done K n x c) (done_steady K proper n x c h)

  pub run_steady : (n : ℕ) (xs : List Command) → IsSteady K (run K n xs)
  unfolding run
  run_steady n xs = all_steady n xs (steps K n (booted K)) (steps_steady K proper n (booted K) (booted_steady K proper))

  module _ (keeps : KeepsLoopRules K) where
    pub commands_end : (x : Command) (c : Config) → IsSteady K c → is_reacting c ≡ false → (bound : ℕ) × ((n : ℕ) → bound ≤ n → is_reacting (done K n x c) ≡ false)
    commands_end x c h e = over_from (λ n. done K n x c) (command_settles K proper (reactions_end K proper keeps) (λ root f w. serving_ends K root f w proper) x c h e)

    run_over : (xs : List Command) → Settles (λ n. run K n xs)
    run_over xs = run_settles K proper (reactions_end K proper keeps) (λ root f w. serving_ends K root f w proper) xs

    pub runs_end : (xs : List Command) → (bound : ℕ) × ((n : ℕ) → bound ≤ n → is_reacting (run K n xs) ≡ false)
    runs_end xs = over_from (λ n. run K n xs) (run_over xs)

    pub run_outcome : (xs : List Command) → (marks : List Mark) × (status : Status) × Runs K xs marks status
    run_outcome xs =
        let s = run_over xs in
        let c = run K s.bound xs in ((world_of c).marks, status_of c, record { bound = s.bound; marks_are = refl; status_is = refl; over = s.over })
