-- The commands by their kinds.
use Rattle.std.proofs.Common.{ℕ, ℤ, Bool, List, Option, Result}
use Rattle.ceu_base.specs.declared.kinds.Port.{Port}
use Rattle.ceu_io.specs.declared.outside.Failed.{Failed}
use Rattle.ceu_tree.specs.declared.command.Command.TheVariants.{Input, Idle}
use Rattle.ceu_tree.specs.declared.kernel.Kernel.{Kernel}
use Rattle.ceu_tree.specs.Run.{Config, world_of, done, input, idle_turns}
use Rattle.ceu_run.specs.Printing.{Prints, new_text, turns_text, command_text}
use Rattle.ceu_run.specs.declared.reactor.After.{After}

module _ (S : Config → Type 0) (K : Kernel) (all : Bool) (outputs : List Port) (c : Config) where
  pub input_prints : (event : ℕ) (v : ℤ) (x y : Option (List ℕ)) (r : Result After Failed) → Prints S (λ n. input K n event v c) (λ n. new_text all outputs (world_of c).marks (input K n event v c)) x y r
      → Prints S (λ n. done K n (Input event v) c) (λ n. command_text all outputs K n (Input event v) c) x y r
  unfolding done
  input_prints event v x y r is = is

  pub idle_prints : (k : ℕ) (x y : Option (List ℕ)) (r : Result After Failed) → Prints S (λ n. idle_turns K n k c) (λ n. turns_text all outputs K n k c) x y r
      → Prints S (λ n. done K n (Idle k) c) (λ n. command_text all outputs K n (Idle k) c) x y r
  unfolding done
  idle_prints k x y r is = is
