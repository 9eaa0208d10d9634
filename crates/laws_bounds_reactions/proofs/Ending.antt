-- Reactions of a program that breaks no rule on loops end: no more turns begin than were to pay.
use Rattle.std.proofs.Common.{◌≡◌, ℕ, true, false}
use Rattle.ceu_tree.specs.declared.kernel.Kernel.{Kernel}
use Rattle.ceu_tree.specs.Residual.{Residual}
use Rattle.ceu_tree.specs.World.{World}
use Rattle.ceu_tree.specs.Proper.{is_proper}
use Rattle.ceu_tree.specs.Run.{Between, is_reacting, steps}
use Rattle.ceu_bound.specs.PhaseB.{KeepsLoopRules}
use Rattle.laws_bounds_steps.specs.Due.{due_in}
use Rattle.laws_bounds_steps.proofs.Runs.{turns_within}
use Rattle.laws_bounds_turns.proofs.Reactions.{reaction_ends}
use Rattle.laws_bounds_reactions.specs.Steady.{IsSteady}
use Rattle.laws_bounds_reactions.proofs.Settling.{next_steady}
use Rattle.laws_bounds_reactions.proofs.Paying.{rules, codes_leave, step_pays}

pub reactions_end : (K : Kernel) → is_proper K ≡ true → KeepsLoopRules K → (n : ℕ) (r : Residual) (w : World) → IsSteady K (Between n r w) → (count : ℕ) × (is_reacting (steps K count (Between n r w)) ≡ false)
reactions_end K proper keeps n r w h =
    reaction_ends K (rules K proper keeps) (codes_leave K proper keeps) (due_in K r).turns n r w h.fits h.counted
    (λ k. turns_within K (IsSteady K) (next_steady K proper) (step_pays K proper keeps) k (Between n r w) h)
