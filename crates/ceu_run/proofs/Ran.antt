-- What a session has run, with one command more.
use Rattle.std.proofs.Common.{◌≡◌, refl, sym, ap, ◌∙◌, subst, ℕ, ◌+◌, ℤ, List, [], ◌∷◌, ◌++◌, append-nil, replicate, Some, Result, Ok, Err, IfOk, OnOk}
use Rattle.ceu_base.specs.declared.kinds.Mark.{Mark}
use Rattle.ceu_code.specs.declared.image.Image.{Image}
use Rattle.ceu_io.specs.declared.outside.Failed.{Failed}
use Rattle.ceu_isa.specs.Commands.{bytes_of, booted, done, all_done, input_done, advanced, idle_turn, idle_turns, run}
use Rattle.ceu_isa.specs.Layout.{end_of}
use Rattle.ceu_isa.specs.Reactions.{Config, Lost, Waits, HasEnded, HasFaulted}
use Rattle.ceu_machine.specs.States.{plain}
use Rattle.ceu_react.specs.Coming.{Came}
use Rattle.ceu_react.specs.Marking.{marked_config}
use Rattle.ceu_react.specs.Sessions.{Seen, state_after}
use Rattle.ceu_react.specs.declared.after.After.{After}
use Rattle.ceu_react.specs.declared.after.After.TheVariants as came
use Rattle.ceu_react.specs.declared.after.State.TheVariants.{Waiting, Ended, Faulted}
use Rattle.ceu_react.proofs.CommandMarks.{all_marked}
use Rattle.ceu_tree.specs.declared.command.Command.{Command}
use Rattle.ceu_tree.specs.declared.command.Command.TheVariants.{Input, Advance, Idle}
use Rattle.ceu_run.specs.Ran.{state_of, RanTo}
use Rattle.ceu_run.specs.RanLaws.{run_append, run_none, one_done}
use Rattle.ceu_run.specs.Standing.{answered}

-- ---- marks are no part of a session

bytes_marked : (ms : List Mark) (c : Config) → bytes_of (marked_config ms c) ≡ bytes_of c
bytes_marked ms Lost = refl
bytes_marked ms (Waits m) = refl
bytes_marked ms (HasEnded v m) = refl
bytes_marked ms (HasFaulted f p m) = refl

state_marked : (ms : List Mark) (c : Config) → state_of (marked_config ms c) ≡ state_of c
state_marked ms Lost = refl
state_marked ms (Waits m) = refl
state_marked ms (HasEnded v m) = refl
state_marked ms (HasFaulted f p m) = refl

-- what was answered is how the machine stands
came_bytes : (c : Config) (a : After) (bytes : List ℕ) → Came c a bytes → bytes ≡ bytes_of c
came_bytes Lost a bytes is = absurd is
came_bytes (Waits m) came.Waiting bytes is = sym is
came_bytes (Waits m) (came.Ended v) bytes is = absurd is
came_bytes (Waits m) (came.Faulted f p) bytes is = absurd is
came_bytes (HasEnded u m) came.Waiting bytes is = absurd is
came_bytes (HasEnded u m) (came.Ended v) bytes is = sym is.1
came_bytes (HasEnded u m) (came.Faulted f p) bytes is = absurd is
came_bytes (HasFaulted g q m) came.Waiting bytes is = absurd is
came_bytes (HasFaulted g q m) (came.Ended v) bytes is = absurd is
came_bytes (HasFaulted g q m) (came.Faulted f p) bytes is = sym is.2

came_state : (c : Config) (a : After) (bytes : List ℕ) → Came c a bytes → state_of c ≡ Some (state_after (Ok a))
came_state Lost a bytes is = absurd is
came_state (Waits m) came.Waiting bytes is = refl
came_state (Waits m) (came.Ended v) bytes is = absurd is
came_state (Waits m) (came.Faulted f p) bytes is = absurd is
came_state (HasEnded u m) came.Waiting bytes is = absurd is
came_state (HasEnded u m) (came.Ended v) bytes is = ap (λ x. Some (Ended x)) is.0
came_state (HasEnded u m) (came.Faulted f p) bytes is = absurd is
came_state (HasFaulted g q m) came.Waiting bytes is = absurd is
came_state (HasFaulted g q m) (came.Ended v) bytes is = absurd is
came_state (HasFaulted g q m) (came.Faulted f p) bytes is = ap (λ x. Some (Faulted x q)) is.0 ∙ ap (λ x. Some (Faulted f x)) is.1

-- where it waits, it is a machine with some marks
waits_again : (c : Config) (bytes : List ℕ) → state_of c ≡ Some Waiting → bytes ≡ bytes_of c → (ms : List Mark) × (c ≡ marked_config ms (Waits (plain bytes)))
waits_again Lost bytes is same = absurd (cc)
waits_again (Waits m) bytes is same = (m.marks, (λ i. Waits (record { bytes = sym same i; marks = sym (append-nil m.marks) i })))
waits_again (HasEnded v m) bytes is same = absurd (cc)
waits_again (HasFaulted f p m) bytes is same = absurd (cc)

-- ---- what a command comes to

module _ (old new : Seen) (r : Result After Failed) (same : new.image ≡ old.image) (state_is : new.state ≡ state_after r) where
  has_come : (start : Seen) (xs : List Command) (a : After) (ms : List Mark) (d : Config) → r ≡ Ok a → old.image ≡ start.image → run old.image xs ≡ marked_config ms d → Came d a new.bytes → RanTo start new xs
  has_come start xs a ms d answered image_is runs is =
      let e : run new.image xs ≡ marked_config ms d = ap (λ (i : Image). run i xs) same ∙ runs in
      record {
        image_is = same ∙ image_is;
        has_run = record {
          bytes_are = came_bytes d a new.bytes is ∙ sym (bytes_marked ms d) ∙ ap bytes_of (sym e);
          state_is = ap state_of e ∙ state_marked ms d ∙ came_state d a new.bytes is ∙ ap (λ (q : Result After Failed). Some (state_after q)) (sym answered) ∙ ap Some (sym state_is);
        };
      }

  come : (start : Seen) (xs : List Command) (ms : List Mark) (d : Config) → old.image ≡ start.image → run old.image xs ≡ marked_config ms d → (q : Result After Failed) → r ≡ q → IfOk q (λ a. Came d a new.bytes) → OnOk q (RanTo start new xs)
  come start xs ms d image_is runs (Ok a) answered is = has_come start xs a ms d answered image_is runs is
  come start xs ms d image_is runs (Err e) answered is = tt

  none_marked : (c : Config) → c ≡ marked_config [] c
  none_marked Lost = refl
  none_marked (Waits m) = refl
  none_marked (HasEnded v m) = refl
  none_marked (HasFaulted f p m) = refl

  -- boot
  pub boot_ran : old.bytes ≡ replicate (end_of old.image) 0 → IfOk r (λ a. Came (booted old.image (plain old.bytes)) a new.bytes) → OnOk r (RanTo old new [])
  boot_ran zeros is = come old [] [] (booted old.image (plain old.bytes)) refl
      (run_none old.image ∙ ap (λ (bs : List ℕ). booted old.image (plain bs)) (sym zeros) ∙ none_marked (booted old.image (plain old.bytes))) r refl is

  -- a command from where the session waits
  pub command_ran : (x : Command) → old.state ≡ Waiting → IfOk r (λ a. Came (done old.image x (Waits (plain old.bytes))) a new.bytes) → (start : Seen) (xs : List Command) → RanTo start old xs → OnOk r (RanTo start new (xs ++ x ∷ []))
  command_ran x waiting is start xs h =
      let m = waits_again (run old.image xs) old.bytes (h.has_run.state_is ∙ ap Some waiting) h.has_run.bytes_are in
      come start (xs ++ x ∷ []) m.0 (done old.image x (Waits (plain old.bytes))) h.image_is
      (run_append old.image xs (x ∷ []) ∙ ap (all_done old.image (x ∷ [])) m.1 ∙ all_marked old.image (x ∷ []) m.0 (Waits (plain old.bytes)) ∙ ap (marked_config m.0) (one_done old.image x (Waits (plain old.bytes)))) r refl is

  pub input_ran : (event : ℕ) (v u : ℤ) → u ≡ v → old.state ≡ Waiting → IfOk r (λ a. Came (input_done old.image event u (Waits (plain old.bytes))) a new.bytes) → (start : Seen) (xs : List Command) → RanTo start old xs
      → OnOk r (RanTo start new (xs ++ Input event v ∷ []))
  unfolding done
  input_ran event v u e waiting is = command_ran (Input event v) waiting (subst (λ (x : ℤ). IfOk r (λ a. Came (input_done old.image event x (Waits (plain old.bytes))) a new.bytes)) e is)

  pub advance_ran : (us : ℕ) → old.state ≡ Waiting → IfOk r (λ a. Came (advanced old.image (us + 1) us (Waits (plain old.bytes))) a new.bytes) → (start : Seen) (xs : List Command) → RanTo start old xs
      → OnOk r (RanTo start new (xs ++ Advance us ∷ []))
  unfolding done
  advance_ran us waiting is = command_ran (Advance us) waiting is

  pub idle_ran : old.state ≡ Waiting → IfOk r (λ a. Came (idle_turn old.image (Waits (plain old.bytes))) a new.bytes) → (start : Seen) (xs : List Command) → RanTo start old xs
      → OnOk r (RanTo start new (xs ++ Idle 1 ∷ []))
  unfolding done idle_turns
  idle_ran waiting is = command_ran (Idle 1) waiting is

-- an answer as the driver has it
pub on_answered : (r : Result After Failed) (P : Type 0) → OnOk r P → OnOk (answered r) P
on_answered (Ok a) P is = is
on_answered (Err e) P is = tt
