-- Whole runs come to what those of the reference semantics come to, so the machine never does anything that isn't allowed.
use Rattle.std.proofs.Common.{◌≡◌, ◌≢◌, refl, sym, ap, ◌∙◌, ℕ, ℤ, Bool, true, false, ◌==◌, List, [], ◌∷◌, replicate, arith}
use Rattle.std.specs.List.{AllByRecursion}
use Rattle.ceu_base.specs.declared.kinds.Fault.{Fault}
use Rattle.ceu_base.specs.declared.kinds.Pos.{Pos}
use Rattle.ceu_code.specs.declared.image.Image.{Image}
use Rattle.ceu_isa.specs.Layout.{end_of, state_of, fresh, waiting, reacting}
use Rattle.ceu_isa.specs.Reactions as machine
use Rattle.ceu_isa.specs.Reactions.{reaction}
use Rattle.ceu_isa.specs.Commands as commands
use Rattle.ceu_isa.specs.Commands.{blank, marks_of}
use Rattle.ceu_isa.specs.Safety.{IsCommand, goes_on, IsSound}
use Rattle.ceu_tree.specs.declared.command.Command.{Command}
use Rattle.ceu_tree.specs.declared.kernel.Kernel.{Kernel}
use Rattle.ceu_tree.specs.Run.{Config, Turning, Between, Waiting, Ended, Faulted, booted, steps, is_reacting, done, all_done, run, world_of, HasEnded, HasFaulted, status_of, Runs}
use Rattle.ceu_shape.specs.Plans.{Plan}
use Rattle.ceu_endings.specs.Ends.{EndsTurns}
use Rattle.ceu_trail.specs.Compiled.{Compiled}
use Rattle.ceu_trail.specs.Laws.{StepsAreDone}
use Rattle.ceu_follows.specs.Reactions.{Agrees, Follows}
use Rattle.ceu_follows.specs.Laws.{outcome_of}
use Rattle.ceu_follows.proofs.Together.{stays, follows_then}
use Rattle.ceu_follows.proofs.Commands.{command_follows}
use Rattle.ceu_follows.proofs.Booting.{no_number, zeros_fit, boot_follows}

module _ (image : Image) (P : Plan) (width : ℕ → ℕ) (K : Kernel) (compiled : Compiled image P width K) (ends : EndsTurns K) (laws : StepsAreDone) where
  all_follow : (xs : List Command) (c : Config) (d : machine.Config) → AllByRecursion (IsCommand image) xs → Agrees image P width K c d
      → Follows image P width K (world_of c).marks (marks_of d) (λ n. all_done K n xs c) (commands.all_done image xs d)
  unfolding all_done commands.all_done
  all_follow [] c d h a = stays image P width K c d a
  all_follow (x ∷ xs) c d h a =
      let first : Follows image P width K (world_of c).marks (marks_of d) (λ n. done K n x c) (commands.done image x d) = command_follows image P width K compiled ends laws x c d h.0 a in
      follows_then image P width K (world_of c).marks (marks_of d) (λ n. done K n x c) (λ n. all_done K n (x ∷ xs) c) (λ n e. all_done K n xs e) (commands.done image x d) (commands.all_done image xs (commands.done image x d)) first
      (λ n. refl) (all_follow xs first.config (commands.done image x d) h.1 first.agrees)

  pub run_follows : (xs : List Command) → AllByRecursion (IsCommand image) xs → Follows image P width K [] [] (λ n. run K n xs) (commands.run image xs)
  unfolding run commands.run
  run_follows xs h =
      let boot : Follows image P width K [] [] (λ n. steps K n (booted K)) (commands.booted image (blank image)) = boot_follows image P width K compiled ends laws in
      follows_then image P width K [] [] (λ n. steps K n (booted K)) (λ n. run K n xs) (λ n e. all_done K n xs e) (commands.booted image (blank image)) (commands.all_done image xs (commands.booted image (blank image))) boot
      (λ n. refl) (all_follow xs boot.config (commands.booted image (blank image)) h boot.agrees)

  -- ---- outcomes

  same_status : (c : Config) (d : machine.Config) → Agrees image P width K c d → (status_of c ≡ outcome_of d) × (is_reacting c ≡ false)
  same_status (Waiting r w) (machine.Waits m) a = (refl, refl)
  same_status (Ended v w) (machine.HasEnded u m) a = (ap (λ (i : ℤ). HasEnded i) (sym a), refl)
  same_status (Faulted z w) (machine.HasFaulted f p m) a = (ap (λ (i : Fault). HasFaulted (i, z.1)) (sym a.0) ∙ ap (λ (i : Pos). HasFaulted (f, i)) (sym a.1), refl)
  same_status c d a = absurd a

  pub run_done : (xs : List Command) → AllByRecursion (IsCommand image) xs → Runs K xs (marks_of (commands.run image xs)) (outcome_of (commands.run image xs))
  run_done xs h =
      let x = run_follows xs h in
      let s = same_status x.config (commands.run image xs) x.agrees in
      let e : run K x.bound xs ≡ x.config = x.comes x.bound (omega arith) in
      record {
        bound = x.bound;
        marks_are = ap (λ (c : Config). (world_of c).marks) e ∙ x.marks.semantics ∙ sym x.marks.machine;
        status_is = ap status_of e ∙ s.0;
        over = ap is_reacting e ∙ s.1;
      }

  never_lost : (c : Config) (d : machine.Config) → Agrees image P width K c d → d ≢ machine.Lost
  never_lost (Waiting r w) machine.Lost a e = absurd a
  never_lost (Ended v w) machine.Lost a e = absurd a
  never_lost (Faulted z w) machine.Lost a e = absurd a
  never_lost (Turning n f w) machine.Lost a e = absurd a
  never_lost (Between n r w) machine.Lost a e = absurd a
  never_lost c (machine.Waits m) a e = absurd (cc)
  never_lost c (machine.HasEnded v m) a e = absurd (cc)
  never_lost c (machine.HasFaulted f p m) a e = absurd (cc)

  run_is : (xs : List Command) → goes_on image (replicate (end_of image) 0) xs ≡ commands.run image xs
  unfolding commands.run
  run_is xs =
      let zeros : List ℕ = replicate (end_of image) 0 in
      ap (λ (b : Bool). commands.all_done image xs (elim b as (λ _. machine.Config) [
        | true ↦ commands.booted image (blank image)
        | false ↦ elim (state_of zeros == waiting) [
          | true ↦ machine.Waits (blank image)
          | false ↦ elim (state_of zeros == reacting) [ true ↦ reaction image image.turns (blank image) | false ↦ machine.Waits (blank image) ]
        ]
      ])) (ap (λ (i : ℕ). i == fresh) (no_number 2 (end_of image) 0))

  pub image_is_sound : IsSound image
  image_is_sound = record {
    fits = zeros_fit image P width K compiled ends;
    goes = λ xs h e. (let x = run_follows xs h in never_lost x.config (commands.run image xs) x.agrees (sym (run_is xs) ∙ e));
  }
