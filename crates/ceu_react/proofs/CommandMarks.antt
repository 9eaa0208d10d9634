-- Marks that came before a list of commands.
use Rattle.std.proofs.Common.{◌≡◌, ℕ, zero, suc, ◌+◌, ◌-◌, ℤ, nat_le, Bool, true, false, List, [], ◌∷◌, Option, Some, None, refl, ap, ◌∙◌}
use Rattle.ceu_base.specs.declared.kinds.Mark.{Mark}
use Rattle.ceu_code.specs.declared.image.Image.{Image}
use Rattle.ceu_tree.specs.declared.command.Command.{Command}
use Rattle.ceu_tree.specs.declared.command.Command.TheVariants.{Input, Advance, Idle}
use Rattle.ceu_isa.specs.Order.{Choice, Nowhere, Unclear, Chosen}
use Rattle.ceu_isa.specs.Turns as turns
use Rattle.ceu_isa.specs.Turns.{Machine, State, turned}
use Rattle.ceu_isa.specs.Reactions.{Config, Lost, Waits, HasEnded, HasFaulted, reacts}
use Rattle.ceu_isa.specs.Commands.{input_given, time_passed, timers_woken, least_time, advanced, first_unserved, round_begun, after_serving, serve, serve_in_new_round, idle_turn, idle_turns, input_done, done, all_done}
use Rattle.ceu_machine.specs.States.{marked, marked_machine}
use Rattle.ceu_react.specs.Marking.{marked_config}
use Rattle.ceu_react.proofs.Marks.{turned_marked}
use Rattle.ceu_react.proofs.Runs.{reacts_marked}

input_marked : (image : Image) (k : ℕ) (v : ℤ) (ms : List Mark) (c : Config) → input_done image k v (marked_config ms c) ≡ marked_config ms (input_done image k v c)
input_marked image k v ms Lost = refl
input_marked image k v ms (Waits m) = reacts_marked image ms (input_given image k v m)
input_marked image k v ms (HasEnded w m) = refl
input_marked image k v ms (HasFaulted f p m) = refl

-- ---- the clock

by_time : (image : Image) (n d time : ℕ) (ms : List Mark) (m : Machine) → ((c : Config) → advanced image n (d - time) (marked_config ms c) ≡ marked_config ms (advanced image n (d - time) c)) → (b : Bool) →
    (elim b as (λ _. Config) [
      | true ↦ advanced image n (d - time) (reacts image (timers_woken image (d - time) (time_passed image time (marked_machine ms m))))
      | false ↦ Waits (time_passed image d (marked_machine ms m))
    ]) ≡ marked_config ms (elim b as (λ _. Config) [
      | true ↦ advanced image n (d - time) (reacts image (timers_woken image (d - time) (time_passed image time m)))
      | false ↦ Waits (time_passed image d m)
    ])
by_time image n d time ms m before true =
    ap (λ (c : Config). advanced image n (d - time) c) (reacts_marked image ms (timers_woken image (d - time) (time_passed image time m))) ∙ before (reacts image (timers_woken image (d - time) (time_passed image time m)))
by_time image n d time ms m before false = refl

by_least : (image : Image) (n d : ℕ) (ms : List Mark) (m : Machine) → ((e : ℕ) (c : Config) → advanced image n e (marked_config ms c) ≡ marked_config ms (advanced image n e c)) → (x : Option ℕ) →
    (elim x as (λ _. Config) [
      | None ↦ Waits (marked_machine ms m)
      | Some time ↦ elim (nat_le time d) as (λ _. Config) [
        | true ↦ advanced image n (d - time) (reacts image (timers_woken image (d - time) (time_passed image time (marked_machine ms m))))
        | false ↦ Waits (time_passed image d (marked_machine ms m))
      ]
    ]) ≡ marked_config ms (elim x as (λ _. Config) [
      | None ↦ Waits m
      | Some time ↦ elim (nat_le time d) as (λ _. Config) [
        | true ↦ advanced image n (d - time) (reacts image (timers_woken image (d - time) (time_passed image time m)))
        | false ↦ Waits (time_passed image d m)
      ]
    ])
by_least image n d ms m before None = refl
by_least image n d ms m before (Some time) = by_time image n d time ms m (before (d - time)) (nat_le time d)

pub advanced_marked : (image : Image) (n d : ℕ) (ms : List Mark) (c : Config) → advanced image n d (marked_config ms c) ≡ marked_config ms (advanced image n d c)
unfolding advanced
advanced_marked image zero d ms c = refl
advanced_marked image (suc n) d ms Lost = refl
advanced_marked image (suc n) d ms (Waits m) = by_least image n d ms m (λ e c. advanced_marked image n e ms c) (least_time image m.bytes)
advanced_marked image (suc n) d ms (HasEnded v m) = refl
advanced_marked image (suc n) d ms (HasFaulted f p m) = refl

-- ---- idle turns

serving_marked : (image : Image) (ms : List Mark) (s : State) → after_serving image (marked ms s) ≡ marked_config ms (after_serving image s)
serving_marked image ms turns.Stuck = refl
serving_marked image ms (turns.Trail r m) = refl
serving_marked image ms (turns.Sweeping s m) = refl
serving_marked image ms (turns.Finalizer s r m) = refl
serving_marked image ms (turns.Paused m) = reacts_marked image ms m
serving_marked image ms (turns.Ended m) = refl
serving_marked image ms (turns.Faulted f p m) = refl

serve_marked : (image : Image) (ms : List Mark) (m : Machine) (x : Choice) → serve image x (marked_machine ms m) ≡ marked_config ms (serve image x m)
serve_marked image ms m Nowhere = refl
serve_marked image ms m Unclear = refl
serve_marked image ms m (Chosen g) = ap (after_serving image) (turned_marked image g ms m) ∙ serving_marked image ms (turned image g m)

by_choice : (image : Image) (ms : List Mark) (m : Machine) (x : Choice) →
    (elim x as (λ _. Config) [ Nowhere ↦ serve_in_new_round image (round_begun image (marked_machine ms m)) | Unclear ↦ Lost | Chosen g ↦ serve image (Chosen g) (marked_machine ms m) ])
    ≡ marked_config ms (elim x as (λ _. Config) [ Nowhere ↦ serve_in_new_round image (round_begun image m) | Unclear ↦ Lost | Chosen g ↦ serve image (Chosen g) m ])
by_choice image ms m Nowhere = serve_marked image ms (round_begun image m) (first_unserved image (round_begun image m).bytes)
by_choice image ms m Unclear = refl
by_choice image ms m (Chosen g) = serve_marked image ms m (Chosen g)

idle_marked : (image : Image) (ms : List Mark) (c : Config) → idle_turn image (marked_config ms c) ≡ marked_config ms (idle_turn image c)
idle_marked image ms Lost = refl
idle_marked image ms (Waits m) = by_choice image ms m (first_unserved image m.bytes)
idle_marked image ms (HasEnded v m) = refl
idle_marked image ms (HasFaulted f p m) = refl

idles_marked : (image : Image) (n : ℕ) (ms : List Mark) (c : Config) → idle_turns image n (marked_config ms c) ≡ marked_config ms (idle_turns image n c)
unfolding idle_turns
idles_marked image zero ms c = refl
idles_marked image (suc n) ms c = ap (λ (x : Config). idle_turns image n x) (idle_marked image ms c) ∙ idles_marked image n ms (idle_turn image c)

-- ---- commands

done_marked : (image : Image) (x : Command) (ms : List Mark) (c : Config) → done image x (marked_config ms c) ≡ marked_config ms (done image x c)
unfolding done
done_marked image (Input k v) ms c = input_marked image k v ms c
done_marked image (Advance us) ms c = advanced_marked image (us + 1) us ms c
done_marked image (Idle n) ms c = idles_marked image n ms c

pub all_marked : (image : Image) (xs : List Command) (ms : List Mark) (c : Config) → all_done image xs (marked_config ms c) ≡ marked_config ms (all_done image xs c)
unfolding all_done
all_marked image [] ms c = refl
all_marked image (x ∷ xs) ms c = ap (λ (y : Config). all_done image xs y) (done_marked image x ms c) ∙ all_marked image xs ms (done image x c)
