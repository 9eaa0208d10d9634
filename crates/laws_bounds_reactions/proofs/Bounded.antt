-- The reactions of a program that breaks no rule on loops stay within its bounds.
use Rattle.std.proofs.Common.{◌≡◌, ◌≤◌, ℕ, max, ℤ, pos, true, [], Some, arith}
use Rattle.std.proofs.lemmas.Grind.{common_steps}
use Rattle.ceu_tree.specs.declared.kernel.Kernel.{Kernel}
use Rattle.ceu_tree.specs.Residual.{Program, Act, Finish, Residual, Run}
use Rattle.ceu_tree.specs.Focus.{Focus, plug, leaf, body_of, choose}
use Rattle.ceu_tree.specs.World.{World}
use Rattle.ceu_tree.specs.Wake.{each_leaf, runs_at, by_input, later, by_time, Unserved, unserved}
use Rattle.ceu_tree.specs.Paths.{passes_from}
use Rattle.ceu_tree.specs.Costs.{Cost, most, plus, cost, enter_block, stay_block, bounds}
use Rattle.ceu_tree.specs.Proper.{is_proper}
use Rattle.ceu_tree.specs.Run.{Between, Waiting, booted, Done, serve_first}
use Rattle.ceu_bound.specs.Filled.{emitting, entering, staying}
use Rattle.ceu_bound.specs.PhaseB.{KeepsLoopRules}
use Rattle.laws_bounds_steps.specs.Due.{due_in}
use Rattle.laws_bounds_steps.specs.Pays.{Within}
use Rattle.laws_bounds_steps.proofs.Cost.{chain}
use Rattle.laws_bounds_steps.proofs.Turns.{boot_within}
use Rattle.laws_bounds_steps.proofs.Runs.{turns_within, levels_within, level_bounded}
use Rattle.laws_bounds_turns.proofs.Runs.{steps_turns, steps_levels}
use Rattle.laws_bounds_reach.specs.StandingLaws.{Stands}
use Rattle.laws_bounds_reach.proofs.Within.{input_within, time_within, async_within}
use Rattle.laws_bounds_reactions.specs.Steady.{IsSteady}
use Rattle.laws_bounds_reactions.specs.Bounded.{IsBounded}
use Rattle.laws_bounds_reactions.proofs.Settling.{booted_steady, next_steady, input_steady, later_steady, time_steady, served_steady}
use Rattle.laws_bounds_reactions.proofs.Paying.{codes_stay, step_pays}
use Rattle.laws_bounds_reactions.proofs.Ending.{reactions_end}

second_most : (a b : Cost) → Within b (most a b)
second_most a b = record { turns = at_least a.turns b.turns; opens = at_least a.opens b.opens }
  where
    at_least : (x y : ℕ) → y ≤ max x y
    at_least x y = grind (arith, common_steps)

stay_within : (K : Kernel) → Within (stay_block (passes_from [] K.codes) (emitting K) (entering K) (staying K) K.body) (bounds K)
unfolding bounds
stay_within K =
    second_most (plus (cost 1 0) (enter_block (passes_from [] K.codes) (emitting K) (entering K) K.body)) (stay_block (passes_from [] K.codes) (emitting K) (entering K) (staying K) K.body)

module _ (K : Kernel) (proper : is_proper K ≡ true) (keeps : KeepsLoopRules K) where
  bounded : (r : Residual) (w : World) → IsSteady K (Between 0 r w) → Within (due_in K r) (bounds K) → IsBounded K (Between 0 r w)
  bounded r w h l =
      let l0 = l.turns in
      let l1 = l.opens in
      let levels = λ (k : ℕ). levels_within K (IsSteady K) (next_steady K proper) (step_pays K proper keeps) k (Between 0 r w) h in record {
        turns = λ k. (let m = steps_turns K k (Between 0 r w) in let t = turns_within K (IsSteady K) (next_steady K proper) (step_pays K proper keeps) k (Between 0 r w) h in omega (arith, m, t, l0));
        opens = λ u k. (let m = steps_levels K k (Between 0 r w) u in let t = levels k in omega (arith, m, t, l1));
        level = λ k. (let t = levels k in let b = level_bounded K k (Between 0 r w) in omega (arith, t, b, l1));
        ends = reactions_end K proper keeps 0 r w h;
      }

  stands : (r : Residual) (w : World) → IsSteady K (Waiting r w) → Stands K 0 r
  stands r w h = record { fits = h.fits; counted = h.counted; pools = h.instances.pools; bare = h.bare }

  pub booted_bounded : IsBounded K (booted K)
  booted_bounded = bounded _ _ (booted_steady K proper) (boot_within K)

  pub input_bounded : (event : ℕ) (v : ℤ) (r : Residual) (w : World) → IsSteady K (Waiting r w) → IsBounded K (Between 0 (each_leaf (by_input event v) r) w)
  input_bounded event v r w h =
      bounded _ w (input_steady K proper event v r w h)
      (chain _ _ _ (input_within K (passes_from [] K.codes) (emitting K) (entering K) (staying K) (codes_stay K proper keeps) event v r (stands r w h)) (stay_within K))

  pub time_bounded : (d m : ℕ) (r : Residual) (w : World) → IsSteady K (Waiting r w) → IsBounded K (Between 0 (each_leaf (by_time d) (each_leaf (later m) r)) w)
  time_bounded d m r w h =
      bounded _ w (time_steady K proper d (each_leaf (later m) r) w (later_steady K proper m r w h))
      (chain _ _ _ (time_within K (passes_from [] K.codes) (emitting K) (entering K) (staying K) (codes_stay K proper keeps) d m r (stands r w h)) (stay_within K))

  pub async_bounded : (b : ℕ) (g : Focus Unserved) (r : Residual) (w u : World) → IsSteady K (Waiting r w) → choose Unserved unserved r ≡ Some g
      → serve_first K b (body_of g Program) (choose Act (runs_at 0) (leaf g).inner) (leaf g).inner w ≡ Done u → IsBounded K (Between 0 (plug g (Run 0 (Finish (leaf g).stmt (pos 0)))) u)
  async_bounded b g r w u h e q =
      bounded _ u (served_steady K proper b g r w u h e q)
      (chain _ _ _ (async_within K (passes_from [] K.codes) (emitting K) (entering K) (staying K) (codes_stay K proper keeps) g r (stands r w h) e) (stay_within K))
