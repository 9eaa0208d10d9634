-- Many steps: a turn that is over stays so, marks that came before change nothing, and what is left falls with each step.
use Rattle.std.proofs.Common.{◌≡◌, ℕ, zero, suc, ◌<◌, Bool, true, false, nat_lt, ◌==◌, if◌then◌else◌, List, [], ◌∷◌, ◌++◌, Option, Some, None, refl, sym, ap, ◌∙◌, subst, append_assoc, ◌⊎◌, inl, inr, ⊎_elim, arith}
use Rattle.std.specs.Prelude.{slice_get}
use Rattle.std.proofs.lemmas.Bool.{false≢true}
use Rattle.ceu_base.specs.declared.kinds.Fault.{Fault}
use Rattle.ceu_base.specs.declared.kinds.Pos.{Pos}
use Rattle.ceu_base.specs.declared.kinds.Mark.{Mark}
use Rattle.ceu_base.specs.declared.kinds.Mark.TheVariants.{Ran}
use Rattle.ceu_code.specs.declared.image.Image.{Image}
use Rattle.ceu_code.specs.declared.instr.Instr.{Instr}
use Rattle.ceu_mem.specs.declared.gate.Gate.{Gate}
use Rattle.ceu_isa.specs.declared.registers.Registers.{Registers}
use Rattle.ceu_isa.specs.Layout as layout
use Rattle.ceu_isa.specs.Fetching.{fetched}
use Rattle.ceu_isa.specs.Effects as isa
use Rattle.ceu_isa.specs.Effects.{Effect}
use Rattle.ceu_isa.specs.Rows.{effect, in_finalizers}
use Rattle.ceu_isa.specs.Trails as trails
use Rattle.ceu_isa.specs.Order.{Choice, Nowhere, Unclear, Chosen}
use Rattle.ceu_isa.specs.Turns as turns
use Rattle.ceu_isa.specs.Turns.{Machine, Sweep, State, tick, ticks, is_on, changed}
use Rattle.ceu_isa.specs.Safety.{IsOver}
use Rattle.ceu_machine.specs.States.{marked, marked_machine, IsAllowed}

-- ---- marks that came before

machine_marked : (ms : List Mark) (m : Machine) (bytes : List ℕ) (new : List Mark) → changed bytes new (marked_machine ms m) ≡ marked_machine ms (changed bytes new m)
machine_marked ms m bytes new = ap (λ (l : List Mark). let k : Machine = record { bytes = bytes; marks = l } in k) (append_assoc ms m.marks new)

failing_marked : (image : Image) (f : Fault) (p : Pos) (r : Registers) (ms : List Mark) (m : Machine) → turns.failing image f p r (marked_machine ms m) ≡ marked ms (turns.failing image f p r m)
failing_marked image f p r ms m = by (nat_lt r.own image.gates)
  where
    by : (b : Bool) → (if b then turns.Sweeping (record { from = 0; count = image.gates; after = isa.Fails f p; trail = record r { depth = 0 } }) (turns.rewritten (layout.gate_changed image (trails.kept layout.forever r) r.own (layout.with_state layout.faulted m.bytes)) (marked_machine ms m)) else turns.Stuck) ≡ marked ms (if b then turns.Sweeping (record { from = 0; count = image.gates; after = isa.Fails f p; trail = record r { depth = 0 } }) (turns.rewritten (layout.gate_changed image (trails.kept layout.forever r) r.own (layout.with_state layout.faulted m.bytes)) m) else turns.Stuck)
    by true = refl
    by false = refl

did_marked : (image : Image) (e : Effect) (r : Registers) (ms : List Mark) (m : Machine) → turns.trail_did image e r (marked_machine ms m) ≡ marked ms (turns.trail_did image e r m)
did_marked image isa.Wrong r ms m = refl
did_marked image (isa.Goes q b new) r ms m = ap (λ (k : Machine). turns.Trail q k) (machine_marked ms m b new)
did_marked image (isa.Pauses b new) r ms m = ap (λ (k : Machine). turns.Paused k) (machine_marked ms m b new)
did_marked image (isa.Finishes b) r ms m = refl
did_marked image (isa.Faults f p) r ms m = failing_marked image f p r ms m
did_marked image (isa.Aborts f c a) r ms m = refl
did_marked image isa.Leaves r ms m = refl

does_marked : (image : Image) (o : Option Instr) (r : Registers) (ms : List Mark) (m : Machine) → turns.trail_does image o r (marked_machine ms m) ≡ marked ms (turns.trail_does image o r m)
does_marked image None r ms m = refl
does_marked image (Some i) r ms m = did_marked image (effect image i (turns.behind i r) m.bytes) (turns.behind i r) ms m

failed_marked : (a : isa.After) (f : Fault) (p : Pos) (ms : List Mark) (m : Machine) → turns.finalizer_failed a f p (marked_machine ms m) ≡ marked ms (turns.finalizer_failed a f p m)
failed_marked isa.GoesOn f p ms m = refl
failed_marked (isa.Frees x) f p ms m = refl
failed_marked (isa.Fails g q) f p ms m = refl

finalizer_did_marked : (e : Effect) (s : Sweep) (r : Registers) (ms : List Mark) (m : Machine) → turns.finalizer_did e s r (marked_machine ms m) ≡ marked ms (turns.finalizer_did e s r m)
finalizer_did_marked isa.Wrong s r ms m = refl
finalizer_did_marked (isa.Goes q b new) s r ms m = ap (λ (k : Machine). turns.Finalizer s q k) (machine_marked ms m b new)
finalizer_did_marked (isa.Pauses b new) s r ms m = refl
finalizer_did_marked (isa.Finishes b) s r ms m = refl
finalizer_did_marked (isa.Faults f p) s r ms m = failed_marked s.after f p ms m
finalizer_did_marked (isa.Aborts f c a) s r ms m = refl
finalizer_did_marked isa.Leaves s r ms m = refl

chosen_marked : (b : Bool) (ms : List Mark) (s t : State) → t ≡ marked ms s → (if b then t else turns.Stuck) ≡ marked ms (if b then s else turns.Stuck)
chosen_marked true ms s t e = e
chosen_marked false ms s t e = refl

finalizer_marked : (image : Image) (o : Option Instr) (s : Sweep) (r : Registers) (ms : List Mark) (m : Machine) → turns.finalizer_does image o s r (marked_machine ms m) ≡ marked ms (turns.finalizer_does image o s r m)
finalizer_marked image None s r ms m = refl
finalizer_marked image (Some i) s r ms m = chosen_marked (in_finalizers i) ms _ _ (finalizer_did_marked (effect image i (turns.behind i r) m.bytes) s (turns.behind i r) ms m)

run_marked : (g : ℕ) (gate : Gate) (o : Option Pos) (s : Sweep) (b : List ℕ) (ms : List Mark) (m : Machine) → turns.run_finalizer g gate o s b (marked_machine ms m) ≡ marked ms (turns.run_finalizer g gate o s b m)
run_marked g gate None s b ms m = refl
run_marked g gate (Some p) s b ms m = ap (λ (k : Machine). turns.Finalizer s (turns.at_gate g gate s.trail) k) (machine_marked ms m b (Ran p ∷ []))

either_marked : (b : Bool) (ms : List Mark) (s t x y : State) → t ≡ marked ms s → y ≡ marked ms x → (if b then t else y) ≡ marked ms (if b then s else x)
either_marked true ms s t x y e f = e
either_marked false ms s t x y e f = f

swept_marked : (image : Image) (a : isa.After) (r : Registers) (ms : List Mark) (m : Machine) → turns.swept image a r (marked_machine ms m) ≡ marked ms (turns.swept image a r m)
swept_marked image isa.GoesOn r ms m = refl
swept_marked image (isa.Frees place) r ms m = chosen_marked (layout.in_slots image place 9) ms _ _ refl
swept_marked image (isa.Fails f p) r ms m = refl

sweep_marked : (image : Image) (x : Choice) (s : Sweep) (ms : List Mark) (m : Machine) → turns.swept_on image x s (marked_machine ms m) ≡ marked ms (turns.swept_on image x s m)
sweep_marked image Nowhere s ms m = swept_marked image s.after s.trail ms m
sweep_marked image Unclear s ms m = refl
sweep_marked image (Chosen g) s ms m =
    let gate = layout.gate_of image m.bytes g in
    either_marked ((layout.gate_of image m.bytes g).kind == layout.finalizer) ms _ _ _ _ (run_marked g gate (slice_get image.places (layout.gate_of image m.bytes g).key) s (layout.gate_changed image layout.freed g m.bytes) ms m) refl

pub tick_marked : (image : Image) (ms : List Mark) (s : State) → tick image (marked ms s) ≡ marked ms (tick image s)
unfolding tick
tick_marked image ms turns.Stuck = refl
tick_marked image ms (turns.Trail r m) = does_marked image (fetched image r.at) r ms m
tick_marked image ms (turns.Sweeping s m) = sweep_marked image (turns.next_of image s m) s ms m
tick_marked image ms (turns.Finalizer s r m) = finalizer_marked image (fetched image r.at) s r ms m
tick_marked image ms (turns.Paused m) = refl
tick_marked image ms (turns.Ended m) = refl
tick_marked image ms (turns.Faulted f p m) = refl

pub on_marked : (ms : List Mark) (s : State) → is_on (marked ms s) ≡ is_on s
on_marked ms turns.Stuck = refl
on_marked ms (turns.Trail r m) = refl
on_marked ms (turns.Sweeping s m) = refl
on_marked ms (turns.Finalizer s r m) = refl
on_marked ms (turns.Paused m) = refl
on_marked ms (turns.Ended m) = refl
on_marked ms (turns.Faulted f p m) = refl

pub marked_twice : (ms ns : List Mark) (s : State) → marked ms (marked ns s) ≡ marked (ms ++ ns) s
marked_twice ms ns turns.Stuck = refl
marked_twice ms ns (turns.Trail r m) = ap (λ (l : List Mark). turns.Trail r (record { bytes = m.bytes; marks = l })) (sym (append_assoc ms ns m.marks))
marked_twice ms ns (turns.Sweeping s m) = ap (λ (l : List Mark). turns.Sweeping s (record { bytes = m.bytes; marks = l })) (sym (append_assoc ms ns m.marks))
marked_twice ms ns (turns.Finalizer s r m) = ap (λ (l : List Mark). turns.Finalizer s r (record { bytes = m.bytes; marks = l })) (sym (append_assoc ms ns m.marks))
marked_twice ms ns (turns.Paused m) = ap (λ (l : List Mark). turns.Paused (record { bytes = m.bytes; marks = l })) (sym (append_assoc ms ns m.marks))
marked_twice ms ns (turns.Ended m) = ap (λ (l : List Mark). turns.Ended (record { bytes = m.bytes; marks = l })) (sym (append_assoc ms ns m.marks))
marked_twice ms ns (turns.Faulted f p m) = ap (λ (l : List Mark). turns.Faulted f p (record { bytes = m.bytes; marks = l })) (sym (append_assoc ms ns m.marks))

-- ---- many steps

by_bool : (b : Bool) → (b ≡ true) ⊎ (b ≡ false)
by_bool true = inl refl
by_bool false = inr refl

ticks_zero : (image : Image) (s : State) → ticks image 0 s ≡ s
unfolding ticks
ticks_zero image s = refl

pub ticks_off : (image : Image) (n : ℕ) (s : State) → is_on s ≡ false → ticks image n s ≡ s
unfolding ticks
ticks_off image zero s e = refl
ticks_off image (suc n) s e = ap (λ (b : Bool). elim b as (λ _. State) [ true ↦ ticks image n (tick image s) | false ↦ s ]) e

pub ticks_on : (image : Image) (n : ℕ) (s : State) → is_on s ≡ true → ticks image (suc n) s ≡ ticks image n (tick image s)
unfolding ticks
ticks_on image n s e = ap (λ (b : Bool). elim b as (λ _. State) [ true ↦ ticks image n (tick image s) | false ↦ s ]) e

pub ticks_marked : (image : Image) (ms : List Mark) (n : ℕ) (s : State) → ticks image n (marked ms s) ≡ marked ms (ticks image n s)
ticks_marked image ms zero s = ticks_zero image (marked ms s) ∙ ap (λ (x : State). marked ms x) (sym (ticks_zero image s))
ticks_marked image ms (suc n) s = ⊎_elim
    (λ (e : is_on s ≡ true). ticks_on image n (marked ms s) (on_marked ms s ∙ e) ∙ ap (λ (x : State). ticks image n x) (tick_marked image ms s) ∙ ticks_marked image ms n (tick image s) ∙ ap (λ (x : State). marked ms x) (sym (ticks_on image n s e)))
    (λ (e : is_on s ≡ false). ticks_off image (suc n) (marked ms s) (on_marked ms s ∙ e) ∙ ap (λ (x : State). marked ms x) (sym (ticks_off image (suc n) s e)))
    (by_bool (is_on s))

ticks_stay : (image : Image) (n : ℕ) (s : State) → is_on (ticks image n s) ≡ false → ticks image (suc n) s ≡ ticks image n s
ticks_stay image zero s h = let e = sym (ap is_on (ticks_zero image s)) ∙ h in ticks_off image 1 s e ∙ sym (ticks_zero image s)
ticks_stay image (suc n) s h = ⊎_elim
    (λ (e : is_on s ≡ true).
    let on = ticks_on image n s e in
    ticks_on image (suc n) s e ∙ ticks_stay image n (tick image s) (sym (ap is_on on) ∙ h) ∙ sym on)
    (λ (e : is_on s ≡ false). ticks_off image (suc (suc n)) s e ∙ sym (ticks_off image (suc n) s e))
    (by_bool (is_on s))

-- a turn that ends within n steps does so from its next step on
pub ticks_next : (image : Image) (n : ℕ) (s : State) → is_on s ≡ true → is_on (ticks image n s) ≡ false → ticks image n (tick image s) ≡ ticks image n s
ticks_next image zero s e h = absurd (false≢true (sym h ∙ ap is_on (ticks_zero image s) ∙ e))
ticks_next image (suc n) s e h =
    let on = ticks_on image n s e in
    ticks_stay image n (tick image s) (sym (ap is_on on) ∙ h) ∙ sym on

-- ---- how many steps are left, of at most n

pub left : Image → ℕ → State → ℕ
left image zero s = 0
left image (suc n) s = elim (is_on s) [ true ↦ suc (left image n (tick image s)) | false ↦ 0 ]

left_zero : (image : Image) (s : State) → left image 0 s ≡ 0
unfolding left
left_zero image s = refl

left_on : (image : Image) (n : ℕ) (s : State) → is_on s ≡ true → left image (suc n) s ≡ suc (left image n (tick image s))
unfolding left
left_on image n s e = ap (λ (b : Bool). elim b as (λ _. ℕ) [ true ↦ suc (left image n (tick image s)) | false ↦ 0 ]) e

left_off : (image : Image) (n : ℕ) (s : State) → is_on s ≡ false → left image n s ≡ 0
unfolding left
left_off image zero s e = refl
left_off image (suc n) s e = ap (λ (b : Bool). elim b as (λ _. ℕ) [ true ↦ suc (left image n (tick image s)) | false ↦ 0 ]) e

left_stay : (image : Image) (n : ℕ) (s : State) → is_on (ticks image n s) ≡ false → left image (suc n) s ≡ left image n s
left_stay image zero s h = let e = sym (ap is_on (ticks_zero image s)) ∙ h in left_off image 1 s e ∙ sym (left_off image 0 s e)
left_stay image (suc n) s h = ⊎_elim
    (λ (e : is_on s ≡ true). left_on image (suc n) s e ∙ ap suc (left_stay image n (tick image s) (sym (ap is_on (ticks_on image n s e)) ∙ h)) ∙ sym (left_on image n s e))
    (λ (e : is_on s ≡ false). left_off image (suc (suc n)) s e ∙ sym (left_off image (suc n) s e))
    (by_bool (is_on s))

pub left_next : (image : Image) (n : ℕ) (s : State) → is_on s ≡ true → is_on (ticks image n s) ≡ false → left image n (tick image s) < left image n s
left_next image zero s e h = absurd (false≢true (sym h ∙ ap is_on (ticks_zero image s) ∙ e))
left_next image (suc n) s e h =
    let stay = left_stay image n (tick image s) (sym (ap is_on (ticks_on image n s e)) ∙ h) in
    let on = left_on image n s e in
    omega arith

pub left_marked : (image : Image) (ms : List Mark) (n : ℕ) (s : State) → left image n (marked ms s) ≡ left image n s
left_marked image ms zero s = left_zero image (marked ms s) ∙ sym (left_zero image s)
left_marked image ms (suc n) s = ⊎_elim
    (λ (e : is_on s ≡ true). left_on image n (marked ms s) (on_marked ms s ∙ e) ∙ ap suc (ap (λ (x : State). left image n x) (tick_marked image ms s) ∙ left_marked image ms n (tick image s)) ∙ sym (left_on image n s e))
    (λ (e : is_on s ≡ false). left_off image (suc n) (marked ms s) (on_marked ms s ∙ e) ∙ sym (left_off image (suc n) s e))
    (by_bool (is_on s))

-- ---- turns that are over

pub over_off : (s : State) → IsOver s → is_on s ≡ false
over_off turns.Stuck h = absurd h
over_off (turns.Trail r m) h = absurd h
over_off (turns.Sweeping s m) h = absurd h
over_off (turns.Finalizer s r m) h = absurd h
over_off (turns.Paused m) h = refl
over_off (turns.Ended m) h = refl
over_off (turns.Faulted f p m) h = refl

pub unmarked_over : (ms : List Mark) (s : State) → IsOver (marked ms s) → IsOver s
unmarked_over ms turns.Stuck h = h
unmarked_over ms (turns.Trail r m) h = h
unmarked_over ms (turns.Sweeping s m) h = h
unmarked_over ms (turns.Finalizer s r m) h = h
unmarked_over ms (turns.Paused m) h = tt
unmarked_over ms (turns.Ended m) h = tt
unmarked_over ms (turns.Faulted f p m) h = tt

pub stuck_or : (image : Image) (n : ℕ) (s : State) → IsOver (ticks image n s) → IsAllowed s
stuck_or image n turns.Stuck h = subst IsOver (ticks_off image n turns.Stuck refl) h
stuck_or image n (turns.Trail r m) h = tt
stuck_or image n (turns.Sweeping s m) h = tt
stuck_or image n (turns.Finalizer s r m) h = tt
stuck_or image n (turns.Paused m) h = tt
stuck_or image n (turns.Ended m) h = tt
stuck_or image n (turns.Faulted f p m) h = tt

pub next_allowed : (image : Image) (n : ℕ) (s : State) → is_on s ≡ true → IsOver (ticks image n s) → IsAllowed (tick image s)
next_allowed image n s e h = stuck_or image n (tick image s) (subst IsOver (sym (ticks_next image n s e (over_off (ticks image n s) h))) h)
