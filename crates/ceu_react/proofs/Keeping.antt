-- What holds of a session's memory is kept by each command.
use Rattle.std.proofs.Common.{◌≡◌, ◌≢◌, ℕ, ◌+◌, ◌*◌, ◌<◌, ◌≤◌, ◌^◌, ℤ, Bool, true, false, List, [], ◌∷◌, Result, Ok, Err, length, replicate, refl, sym, ap, ◌∙◌, subst, arith, eqb}
use Rattle.std.specs.Prelude.{IfOk, OnOk, slice_index}
use Rattle.std.proofs.lemmas.List.{get_or-replicate}
use Rattle.ceu_code.specs.declared.image.Image.{Image}
use Rattle.ceu_io.specs.declared.outside.Failed.{Failed}
use Rattle.ceu_mem.specs.Memory.{Space}
use Rattle.ceu_mem.specs.Bytes.{number_at}
use Rattle.ceu_tree.specs.declared.command.Command.{Command}
use Rattle.ceu_tree.specs.declared.command.Command.TheVariants.{Input, Advance, Idle}
use Rattle.ceu_isa.specs.Layout.{end_of, state_of, fresh, waiting, reacting}
use Rattle.ceu_isa.specs.Reactions.{Config, Lost, Waits, HasEnded, HasFaulted, reaction}
use Rattle.ceu_isa.specs.Commands.{booted, input_done, idle_turn, idle_turns, advanced, done, all_done}
use Rattle.ceu_isa.specs.Safety.{IsCommand, IsSound}
use Rattle.ceu_machine.specs.Holding.{IsMachine}
use Rattle.ceu_machine.specs.States.{plain}
use Rattle.ceu_react.specs.declared.after.After.{After}
use Rattle.ceu_react.specs.declared.after.After.TheVariants as after
use Rattle.ceu_react.specs.declared.after.State.{State}
use Rattle.ceu_react.specs.declared.after.State.TheVariants.{Fresh, Waiting}
use Rattle.ceu_react.specs.Coming.{Came}
use Rattle.ceu_react.specs.Marking.{IsKept}
use Rattle.ceu_react.specs.Sessions.{state_after, GoesOn, Holds}
use Rattle.ceu_react.proofs.Marks.{as_marked}
use Rattle.ceu_react.proofs.Runs.{unmarked_kept}
use Rattle.ceu_react.proofs.CommandMarks.{all_marked}

pub kept_of : (c : Config) → c ≢ Lost → IsKept c
kept_of Lost h = h refl
kept_of (Waits m) h = tt
kept_of (HasEnded v m) h = tt
kept_of (HasFaulted f p m) h = tt

-- ---- from one command to the next

pub goes_kept : (image : Image) (c : Config) → GoesOn image c → IsKept c
unfolding all_done
goes_kept image c h = h [] tt

pub goes_done : (image : Image) (x : Command) (c : Config) → IsCommand image x → GoesOn image c → GoesOn image (done image x c)
unfolding all_done
goes_done image x c ok h = λ xs oks. h (x ∷ xs) (ok, oks)

pub goes_input : (image : Image) (k : ℕ) (v : ℤ) (c : Config) → IsCommand image (Input k v) → GoesOn image c → GoesOn image (input_done image k v c)
unfolding done
goes_input image k v c ok h = goes_done image (Input k v) c ok h

pub goes_idle : (image : Image) (c : Config) → GoesOn image c → GoesOn image (idle_turn image c)
unfolding done idle_turns
goes_idle image c h = goes_done image (Idle 1) c (omega arith, omega arith) h

pub goes_advance : (image : Image) (us : ℕ) (c : Config) → us < 2 ^ 63 → GoesOn image c → GoesOn image (advanced image (us + 1) us c)
unfolding done
goes_advance image us c short h = goes_done image (Advance us) c short h

-- a machine that waits goes on as that of its bytes
pub goes_plain : (image : Image) (bytes : List ℕ) (a : After) (c : Config) → a ≡ after.Waiting → Came c a bytes → GoesOn image c → GoesOn image (Waits (plain bytes))
goes_plain image bytes (after.Ended v) c e h g = absurd (cc)
goes_plain image bytes (after.Faulted f p) c e h g = absurd (cc)
goes_plain image bytes after.Waiting Lost e h g = absurd h
goes_plain image bytes after.Waiting (HasEnded v m) e h g = absurd h
goes_plain image bytes after.Waiting (HasFaulted f p m) e h g = absurd h
goes_plain image bytes after.Waiting (Waits m) e h g = λ xs oks.
    subst (λ (b : List ℕ). IsKept (all_done image xs (Waits (plain b)))) h
    (unmarked_kept m.marks (all_done image xs (Waits (plain m.bytes)))
    (subst IsKept (ap (λ k. all_done image xs (Waits k)) (as_marked m) ∙ all_marked image xs m.marks (Waits (plain m.bytes))) (g xs oks)))

pub holds_after : (image : Image) (c : Config) (mem : Space) (r : Result After Failed) → GoesOn image c → IfOk r (λ a. Came c a mem.bytes) → OnOk r (IsMachine image mem) → Holds image mem (state_after r)
holds_after image c mem (Ok after.Waiting) g came made = (made, goes_plain image mem.bytes after.Waiting c refl came g)
holds_after image c mem (Ok (after.Ended v)) g came made = tt
holds_after image c mem (Ok (after.Faulted f p)) g came made = tt
holds_after image c mem (Err e) g came made = tt

-- ---- what is known by the state

pub holds_fresh : (image : Image) (mem : Space) (s : State) → s ≡ Fresh → Holds image mem s → IsMachine image mem × GoesOn image (booted image (plain mem.bytes))
holds_fresh image mem s e h = subst (λ (t : State). Holds image mem t) e h

pub holds_waiting : (image : Image) (mem : Space) (s : State) → s ≡ Waiting → Holds image mem s → IsMachine image mem × GoesOn image (Waits (plain mem.bytes))
holds_waiting image mem s e h = subst (λ (t : State). Holds image mem t) e h

-- ---- the array of zeros

pub zeros_fresh : (n : ℕ) → 2 ≤ n → state_of (replicate n 0) ≡ 0
unfolding number_at
zeros_fresh n h =
    let a : slice_index (replicate n 0) 0 ≡ 0 = get_or-replicate n 0 0 0 (omega arith) in
    let b : slice_index (replicate n 0) (0 + 1) ≡ 0 = get_or-replicate n 1 0 0 (omega arith) in
    omega (arith, a, b)

pub sound_goes : (image : Image) → IsSound image → GoesOn image (booted image (plain (replicate (end_of image) 0)))
sound_goes image h =
    let zeros = replicate (end_of image) 0 in
    let e : eqb (state_of (replicate (end_of image) 0)) fresh ≡ true = ap (λ (n : ℕ). eqb n 0) (zeros_fresh (end_of image) (omega arith)) in
    λ xs oks. kept_of (all_done image xs (booted image (plain zeros)))
    (subst (λ (c : Config). all_done image xs c ≢ Lost) (ap (λ (b : Bool). elim b as (λ _. Config) [
      | true ↦ booted image (plain zeros)
      | false ↦ elim (eqb (state_of zeros) waiting) as (λ _. Config) [
        | true ↦ Waits (plain zeros)
        | false ↦ elim (eqb (state_of zeros) reacting) as (λ _. Config) [ true ↦ reaction image image.turns (plain zeros) | false ↦ Waits (plain zeros) ]
      ]
    ]) e) (h.goes xs oks))

pub new_holds : (image : Image) (mem : Space) → IsSound image → mem.bytes ≡ replicate (end_of image) 0 → mem.gates_at ≡ 16 + 8 * image.depth → Holds image mem Fresh
new_holds image mem h b g = (
  record { gates = g; fits = record { size = ap length b ∙ h.fits.size; memory = h.fits.memory; code = h.fits.code } },
  subst (λ (k : List ℕ). GoesOn image (booted image (plain k))) (sym b) (sound_goes image h),
)
