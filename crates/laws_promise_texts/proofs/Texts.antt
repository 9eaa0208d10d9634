-- The laws on texts, by those on programs that break no rule.
use Rattle.std.proofs.Common.{◌≡◌, sym, subst, ℕ, List}
use Rattle.ceu_base.specs.declared.kinds.Mark.{Mark}
use Rattle.ceu_tree.specs.declared.command.Command.{Command}
use Rattle.ceu_tree.specs.declared.kernel.Kernel.{Kernel}
use Rattle.ceu_tree.specs.Residual.{Residual}
use Rattle.ceu_tree.specs.World.{World}
use Rattle.ceu_tree.specs.Proper.{Proper}
use Rattle.ceu_tree.specs.Run.{Waiting, Status, run}
use Rattle.laws_meaning_basics.proofs.StepLaws.{one_outcome}
use Rattle.ceu_bound.specs.PhaseB.{KeepsLoopRules}
use Rattle.laws_kernel_proper.proofs.Whole.{text_proper}
use Rattle.ceu_compile.specs.Programs.{IsProgram}
use Rattle.laws_bounds_reactions.specs.Steady.{IsSteady}
use Rattle.laws_bounds_reactions.proofs.Bounded.{booted_bounded, input_bounded, time_bounded, async_bounded}
use Rattle.laws_bounds_reactions.proofs.Runs.{run_steady, run_outcome}
use Rattle.laws_promise_texts.specs.OutcomesLaws.{StaysBounded, HasOneOutcome}

proper : (text : List ℕ) (K : Kernel) → IsProgram text K → Proper K
proper text K (tokens, tree, has, sound) = let kernel = sound.0 in subst Proper (sym kernel.3) (text_proper text tokens tree kernel.0 kernel.1 has.0 has.1 kernel.2.0 kernel.2.1)

keeps : (text : List ℕ) (K : Kernel) → IsProgram text K → KeepsLoopRules K
keeps text K (tokens, tree, has, sound) = sound.1.0

pub stays_bounded : (text : List ℕ) (K : Kernel) → IsProgram text K → StaysBounded K
stays_bounded text K program =
    let p = proper text K program in
    let k = keeps text K program in
    let steady = λ (n : ℕ) (xs : List Command) (r : Residual) (w : World) (e : run K n xs ≡ Waiting r w). subst (IsSteady K) e (run_steady K p n xs) in record {
      boot = booted_bounded K p k;
      input = λ n xs r w e event v. input_bounded K p k event v r w (steady n xs r w e);
      time = λ n xs r w e d m. time_bounded K p k d m r w (steady n xs r w e);
      async = λ n xs r w e b g u c q. async_bounded K p k b g r w u (steady n xs r w e) c q;
    }

pub one : (text : List ℕ) (K : Kernel) (xs : List Command) → IsProgram text K → HasOneOutcome K xs
one text K xs program =
    let o = run_outcome K (proper text K program) (keeps text K program) xs in record {
      marks = o.0;
      status = o.1;
      runs = o.2;
      alone = λ other end r. one_outcome K xs other o.0 end o.1 r o.2;
    }
