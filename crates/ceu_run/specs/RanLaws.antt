-- Laws of sessions that have run: idle turns in one command or in two, and commands behind an end.
use Rattle.std.proofs.Common.{◌≡◌, refl, sym, ap, ◌∙◌, subst, ℕ, zero, suc, ◌+◌, zero-add, suc-add, List, [], ◌∷◌, ◌++◌, Option, Some, None}
use Rattle.ceu_code.specs.declared.image.Image.{Image}
use Rattle.ceu_follows.specs.Reactions.{Agrees}
use Rattle.ceu_isa.specs.Commands.{bytes_of, blank, booted, done, all_done, advanced, idle_turn, idle_turns, run}
use Rattle.ceu_isa.specs.Reactions.{Config, Lost, Waits, HasEnded, HasFaulted}
use Rattle.ceu_react.specs.Sessions.{Seen}
use Rattle.ceu_react.specs.declared.after.State.{State}
use Rattle.ceu_react.specs.declared.after.State.TheVariants.{Fresh, Waiting, Ended, Faulted, Broken}
use Rattle.ceu_shape.specs.Plans.{Plan}
use Rattle.ceu_tree.specs.declared.command.Command.{Command}
use Rattle.ceu_tree.specs.declared.command.Command.TheVariants.{Input, Advance, Idle}
use Rattle.ceu_tree.specs.declared.kernel.Kernel.{Kernel}
use Rattle.ceu_tree.specs.Run as tree
use Rattle.ceu_run.specs.Ran.{state_of, HasRun, RanTo}
use Rattle.ceu_run.specs.Standing.{StandsAt, config_of}

-- ---- an end
abbrev IsOver : State → Type 0
IsOver (Ended v) = Unit {0}
IsOver (Faulted f p) = Unit {0}
IsOver Waiting = ⊥
IsOver Fresh = ⊥
IsOver Broken = ⊥

abbrev Over : Config → Type 0
Over (HasEnded v m) = Unit {0}
Over (HasFaulted f p m) = Unit {0}
Over (Waits m) = ⊥
Over Lost = ⊥

-- the state of a configuration that waits no longer
IsOverAt : Option State → Type 0
IsOverAt None = ⊥
IsOverAt (Some s) = IsOver s

over_at : (c : Config) → IsOverAt (state_of c) → Over c
unfolding IsOverAt
over_at Lost h = absurd h
over_at (Waits m) h = absurd h
over_at (HasEnded v m) h = tt
over_at (HasFaulted f p m) h = tt

is_over : (c : Config) (s : State) → state_of c ≡ Some s → IsOver s → Over c
unfolding IsOverAt
is_over c s is over = over_at c (subst IsOverAt (sym is) over)

-- ---- runs

module _ (image : Image) where
  all_append : (xs ys : List Command) (c : Config) → all_done image (xs ++ ys) c ≡ all_done image ys (all_done image xs c)
  unfolding all_done
  all_append [] ys c = refl
  all_append (x ∷ xs) ys c = all_append xs ys (done image x c)

  pub run_append : (xs ys : List Command) → run image (xs ++ ys) ≡ all_done image ys (run image xs)
  unfolding run
  run_append xs ys = all_append xs ys (booted image (blank image))

  pub run_none : run image [] ≡ booted image (blank image)
  unfolding run all_done
  run_none = refl

  pub one_done : (x : Command) (c : Config) → all_done image (x ∷ []) c ≡ done image x c
  unfolding all_done
  one_done x c = refl

  -- ---- idle turns
  no_turns_done : (c : Config) → all_done image (Idle 0 ∷ []) c ≡ c
  unfolding all_done done idle_turns
  no_turns_done c = refl

  turns_on : (m n : ℕ) (c : Config) → idle_turns image n (idle_turns image m c) ≡ idle_turns image (m + n) c
  unfolding idle_turns
  turns_on zero n c = ap (λ k. idle_turns image k c) (sym (zero-add n))
  turns_on (suc m) n c = turns_on m n (idle_turn image c) ∙ ap (λ k. idle_turns image k c) (sym (suc-add m n))

  turns_done : (m n : ℕ) (ys : List Command) (c : Config) → all_done image (Idle m ∷ Idle n ∷ ys) c ≡ all_done image (Idle (m + n) ∷ ys) c
  unfolding all_done done
  turns_done m n ys c = ap (all_done image ys) (turns_on m n c)

  turns_stay : (n : ℕ) (c : Config) → Over c → idle_turns image n c ≡ c
  unfolding idle_turns
  turns_stay zero c over = refl
  turns_stay (suc n) Lost over = absurd over
  turns_stay (suc n) (Waits m) over = absurd over
  turns_stay (suc n) (HasEnded v m) over = turns_stay n (HasEnded v m) over
  turns_stay (suc n) (HasFaulted f p m) over = turns_stay n (HasFaulted f p m) over

  time_stays : (n us : ℕ) (c : Config) → Over c → advanced image n us c ≡ c
  unfolding advanced
  time_stays zero us c over = refl
  time_stays (suc n) us Lost over = absurd over
  time_stays (suc n) us (Waits m) over = absurd over
  time_stays (suc n) us (HasEnded v m) over = refl
  time_stays (suc n) us (HasFaulted f p m) over = refl

  done_stays : (x : Command) (c : Config) → Over c → done image x c ≡ c
  unfolding done
  done_stays (Input k v) Lost over = absurd over
  done_stays (Input k v) (Waits m) over = absurd over
  done_stays (Input k v) (HasEnded u m) over = refl
  done_stays (Input k v) (HasFaulted f p m) over = refl
  done_stays (Advance us) c over = time_stays (us + 1) us c over
  done_stays (Idle n) c over = turns_stay n c over

  all_stay : (xs : List Command) (c : Config) → Over c → all_done image xs c ≡ c
  unfolding all_done
  all_stay [] c over = refl
  all_stay (x ∷ xs) c over = ap (all_done image xs) (done_stays x c over) ∙ all_stay xs c over

-- ---- a session

-- a list of commands that comes to the same
pub as_run : (s : Seen) (xs ys : List Command) → run s.image xs ≡ run s.image ys → HasRun s xs → HasRun s ys
as_run s xs ys same h = record { bytes_are = h.bytes_are ∙ ap bytes_of same; state_is = ap state_of (sym same) ∙ h.state_is }

pub none_ran : (start s : Seen) (xs : List Command) → RanTo start s xs → RanTo start s (xs ++ Idle 0 ∷ [])
none_ran start s xs h = record { image_is = h.image_is; has_run = as_run s xs (xs ++ Idle 0 ∷ []) (sym (run_append s.image xs (Idle 0 ∷ []) ∙ no_turns_done s.image (run s.image xs))) h.has_run }

pub turns_ran : (start s : Seen) (xs ys : List Command) (m n : ℕ) → RanTo start s (xs ++ Idle m ∷ Idle n ∷ ys) → RanTo start s (xs ++ Idle (m + n) ∷ ys)
turns_ran start s xs ys m n h = record {
  image_is = h.image_is;
  has_run = as_run s (xs ++ Idle m ∷ Idle n ∷ ys) (xs ++ Idle (m + n) ∷ ys)
      (run_append s.image xs (Idle m ∷ Idle n ∷ ys) ∙ turns_done s.image m n ys (run s.image xs) ∙ sym (run_append s.image xs (Idle (m + n) ∷ ys))) h.has_run;
}

-- a program that waits no longer
over_state : (image : Image) (P : Plan) (width : ℕ → ℕ) (K : Kernel) (c : tree.Config) (s : State) (bytes : List ℕ) → Agrees image P width K c (config_of s bytes) → (tree.status_of c ≡ tree.Waits → ⊥) → IsOver s
over_state image P width K (tree.Turning l f w) Fresh bytes h other = absurd h
over_state image P width K (tree.Turning l f w) Waiting bytes h other = absurd h
over_state image P width K (tree.Turning l f w) (Ended v) bytes h other = tt
over_state image P width K (tree.Turning l f w) (Faulted f' p) bytes h other = tt
over_state image P width K (tree.Turning l f w) Broken bytes h other = absurd h
over_state image P width K (tree.Between l r w) Fresh bytes h other = absurd h
over_state image P width K (tree.Between l r w) Waiting bytes h other = absurd h
over_state image P width K (tree.Between l r w) (Ended v) bytes h other = tt
over_state image P width K (tree.Between l r w) (Faulted f' p) bytes h other = tt
over_state image P width K (tree.Between l r w) Broken bytes h other = absurd h
over_state image P width K (tree.Waiting r w) s bytes h other = absurd (other refl)
over_state image P width K (tree.Ended v w) Fresh bytes h other = absurd h
over_state image P width K (tree.Ended v w) Waiting bytes h other = absurd h
over_state image P width K (tree.Ended v w) (Ended u) bytes h other = tt
over_state image P width K (tree.Ended v w) (Faulted f' p) bytes h other = tt
over_state image P width K (tree.Ended v w) Broken bytes h other = absurd h
over_state image P width K (tree.Faulted e w) Fresh bytes h other = absurd h
over_state image P width K (tree.Faulted e w) Waiting bytes h other = absurd h
over_state image P width K (tree.Faulted e w) (Ended u) bytes h other = tt
over_state image P width K (tree.Faulted e w) (Faulted f' p) bytes h other = tt
over_state image P width K (tree.Faulted e w) Broken bytes h other = absurd h

pub over_ran : (K : Kernel) (c : tree.Config) (start s : Seen) (xs ys : List Command) → StandsAt s.image s.state s.bytes K c → (tree.status_of c ≡ tree.Waits → ⊥) → RanTo start s xs → RanTo start s (xs ++ ys)
over_ran K c start s xs ys stands other h =
    let over : Over (run s.image xs) =
    is_over (run s.image xs) s.state h.has_run.state_is (over_state s.image stands.compiled.plan stands.compiled.width K c s.state s.bytes stands.agrees other) in
    record { image_is = h.image_is; has_run = as_run s xs (xs ++ ys) (sym (run_append s.image xs ys ∙ all_stay s.image ys (run s.image xs) over)) h.has_run }
