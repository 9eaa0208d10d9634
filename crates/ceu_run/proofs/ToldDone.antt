-- What a reactor has done over the lines of a script, where the source's bytes are told.
use Rattle.std.proofs.Common.{◌≡◌, ℕ, List, [], ◌∷◌, ◌++◌, Option}
use Rattle.ceu_io.specs.Told.{WhereTold}
use Rattle.ceu_io.proofs.Telling.{where_told_then}
use Rattle.ceu_script.specs.Lines.{Line, Comes, Spoils, Ends}
use Rattle.ceu_script.specs.declared.items.BadKind.{BadKind}
use Rattle.ceu_tree.specs.declared.command.Command.{Command}
use Rattle.ceu_tree.specs.Run.{Config, Waits, status_of}
use Rattle.ceu_run.specs.Doing.{HasDone}
use Rattle.ceu_run.specs.Printing.{commands_of}
use Rattle.ceu_run.specs.declared.reactor.After.{After}
use Rattle.ceu_run.specs.declared.reactor.After.TheVariants as after
use Rattle.ceu_run.proofs.Doing.{Did, did_all, did_good, did_more, did_over}
use Rattle.ceu_run.proofs.Looping.{where_told_both}

-- the lines of all bytes, those that are left, and those behind the next call
module _ (whole rest behind : List ℕ → List (Line Command)) (ran : List Command → Type 0) (xs : List Command) (x y z : Option (List ℕ)) (number after_number : ℕ) (did : WhereTold x y (λ old now. Did ran xs (whole old) (rest now))) where
  pub told_all : WhereTold y z (λ old new. Ends number after_number (rest old)) → WhereTold x z (λ old new. ran (xs ++ commands_of (whole old)))
  told_all ends = where_told_then x y z (λ old now. Did ran xs (whole old) (rest now)) (λ old new. Ends number after_number (rest old)) (λ old new. ran (xs ++ commands_of (whole old)))
      (λ a b d so_far e. did_all ran xs (whole a) (rest b) so_far number after_number e) did ends

  pub told_good : (kind : BadKind) → WhereTold y z (λ old new. Spoils kind number after_number (rest old)) → WhereTold x z (λ old new. ran (xs ++ commands_of (whole old)))
  told_good kind spoils = where_told_then x y z (λ old now. Did ran xs (whole old) (rest now)) (λ old new. Spoils kind number after_number (rest old)) (λ old new. ran (xs ++ commands_of (whole old)))
      (λ a b d so_far e. did_good ran xs (whole a) (rest b) so_far number after_number kind e) did spoils

  -- a command, where the program stands for a configuration that waits
  module _ (Stood : List ℕ → List ℕ → Type 0) (S : Config → Type 0) (stood : (a b : List ℕ) → Stood a b → (d : Config) × S d × (status_of d ≡ Waits)) (going : WhereTold x y Stood) (command : Command) (ran' : List Command → Type 0) (a : After)
      (does : (d : Config) (ys : List Command) → S d → status_of d ≡ Waits → ran ys → HasDone ran' (ys ++ command ∷ []) a)
      (comes : WhereTold y z (λ old new. Comes command number after_number (rest old) (behind new))) where
    abbrev Both : List ℕ → List ℕ → Type 0
    Both old now = Stood old now × Did ran xs (whole old) (rest now)

    both : WhereTold x y Both
    both = where_told_both x y Stood (λ old now. Did ran xs (whole old) (rest now)) Both (λ o n p q. (p, q)) going did

    did_so : (o n : List ℕ) (b : Both o n) → HasDone ran' ((xs ++ b.1.ones) ++ command ∷ []) a
    did_so o n b = let at = stood o n b.0 in does at.0 (xs ++ b.1.ones) at.1 at.2 b.1.ran_so

    pub told_over : (a ≡ after.Waiting → ⊥) → WhereTold x z (λ old new. ran' (xs ++ commands_of (whole old)))
    told_over other = where_told_then x y z Both (λ old new. Comes command number after_number (rest old) (behind new)) (λ old new. ran' (xs ++ commands_of (whole old)))
        (λ o b d so_far e. did_over ran xs (whole o) (rest b) so_far.1 command number after_number (behind d) e ran' a other (did_so o b so_far)) both comes

  module _ (Stood : List ℕ → List ℕ → Type 0) (S : Config → Type 0) (stood : (a b : List ℕ) → Stood a b → (d : Config) × S d × (status_of d ≡ Waits)) (going : WhereTold x y Stood) (command : Command) (ran' : List Command → Type 0)
      (does : (d : Config) (ys : List Command) → S d → status_of d ≡ Waits → ran ys → ran' (ys ++ command ∷ []))
      (comes : WhereTold y z (λ old new. Comes command number after_number (rest old) (behind new))) where
    pub told_more : WhereTold x z (λ old now. Did ran' xs (whole old) (behind now))
    told_more = where_told_then x y z (Both Stood S stood going command ran' after.Waiting does comes) (λ old new. Comes command number after_number (rest old) (behind new)) (λ old now. Did ran' xs (whole old) (behind now))
        (λ o b d so_far e. did_more ran xs (whole o) (rest b) so_far.1 command number after_number (behind d) e ran' (did_so Stood S stood going command ran' after.Waiting does comes o b so_far))
        (both Stood S stood going command ran' after.Waiting does comes) comes
