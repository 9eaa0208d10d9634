-- A turn so far: its marks went to the sink, and what is left of it is the definition's turn from here on.
use Rattle.std.proofs.Common.{◌≡◌, ℕ, ◌<◌, true, false, List, [], ◌∷◌, ◌++◌, refl, sym, ap, ◌∙◌, subst, inl, inr, ⊎_elim}
use Rattle.std.specs.Prelude.{Result, Ok, Err, OnErr}
use Rattle.std.proofs.lemmas.List.{append-nil}
use Rattle.ceu_base.specs.declared.kinds.Mark.{Mark}
use Rattle.ceu_code.specs.declared.image.Image.{Image}
use Rattle.ceu_mem.specs.Memory.{Space}
use Rattle.ceu_isa.specs.Turns as turns
use Rattle.ceu_isa.specs.Turns.{tick, ticks, turned, longest_turn}
use Rattle.ceu_isa.specs.Safety.{IsOver}
use Rattle.ceu_machine.specs.declared.state.State.{State}
use Rattle.ceu_machine.specs.declared.state.State.TheVariants.{Trail, Sweeping, Finalizer, Paused, Ended, Faulted}
use Rattle.ceu_machine.specs.Holding.{IsMachine}
use Rattle.ceu_machine.specs.Noting.{Noted, Stopped}
use Rattle.ceu_machine.specs.States.{plain, state_of, marked, IsAllowed}
use Rattle.ceu_machine.specs.Turning as spec
use Rattle.ceu_machine.specs.Turning.{Outcome, marks_in, outcome_of}
use Rattle.ceu_machine.proofs.Ticks.{left, left_next, left_marked, ticks_off, ticks_next, ticks_marked, marked_twice, over_off, unmarked_over, next_allowed}

-- ---- marks that a sink noted, one list after the other

pub noted_on : {S : Type 0} (notes : S → Mark → S → Type 0) (ms ns : List Mark) (a b c : S) → Noted notes ms a b → Noted notes ns b c → Noted notes (ms ++ ns) a c
noted_on notes [] ns a b c h k = subst (λ x. Noted notes ns x c) h k
noted_on notes (m ∷ ms) ns a b c h k = (h.0, h.1, noted_on notes ms ns h.0 b c h.2 k)

pub stopped_early : {S : Type 0} (notes stops : S → Mark → S → Type 0) (ms ns : List Mark) (a b : S) → Stopped notes stops ms a b → Stopped notes stops (ms ++ ns) a b
stopped_early notes stops [] ns a b h = absurd h
stopped_early notes stops (m ∷ ms) ns a b h = ⊎_elim (λ s. inl s) (λ s. inr (s.0, s.1, stopped_early notes stops ms ns s.0 b s.2)) h

pub stopped_late : {S : Type 0} (notes stops : S → Mark → S → Type 0) (ms ns : List Mark) (a b c : S) → Noted notes ms a b → Stopped notes stops ns b c → Stopped notes stops (ms ++ ns) a c
stopped_late notes stops [] ns a b c h k = subst (λ x. Stopped notes stops ns x c) h k
stopped_late notes stops (m ∷ ms) ns a b c h k = inr (h.0, h.1, stopped_late notes stops ms ns h.0 b c h.2 k)

-- ---- a turn so far

pub record SoFar {S : Type 0} (notes : S → Mark → S → Type 0) (faults : S → ℕ) (image : Image) (gate : ℕ) (begin : List ℕ) (old : S) (state : State) (mem : Space) (out : S) : Type 0 where
  pub marks : List Mark
  pub noted : Noted notes marks old out
  pub rest : turned image gate (plain begin) ≡ marked marks (ticks image longest_turn (state_of state mem.bytes))
  pub made : IsMachine image mem
  pub count : faults out ≡ faults old

pub on_state : (s : State) (bytes : List ℕ) → turns.is_on (state_of s bytes) ≡ spec.is_on s
on_state (Trail r) bytes = refl
on_state (Sweeping s) bytes = refl
on_state (Finalizer s r) bytes = refl
on_state Paused bytes = refl
on_state Ended bytes = refl
on_state (Faulted f p) bytes = refl

pub over_rest : (ms : List Mark) (s t : turns.State) → t ≡ marked ms s → IsOver t → IsOver s
over_rest ms s t e h = unmarked_over ms s (subst IsOver e h)

pub allowed_on : (image : Image) (ms : List Mark) (s : State) (bytes : List ℕ) (t : turns.State) → t ≡ marked ms (ticks image longest_turn (state_of s bytes)) → IsOver t → spec.is_on s ≡ true → IsAllowed (tick image (state_of s bytes))
allowed_on image ms s bytes t e h on = next_allowed image longest_turn (state_of s bytes) (on_state s bytes ∙ on) (over_rest ms (ticks image longest_turn (state_of s bytes)) t e h)

-- one step on
pub rest_on : (image : Image) (ms ds : List Mark) (s s' : State) (bytes bytes' : List ℕ) (t : turns.State) → t ≡ marked ms (ticks image longest_turn (state_of s bytes)) → IsOver t → spec.is_on s ≡ true → tick image (state_of s bytes) ≡ marked ds (state_of s' bytes') → t ≡ marked (ms ++ ds) (ticks image longest_turn (state_of s' bytes'))
rest_on image ms ds s s' bytes bytes' t e h on step =
    let now = state_of s bytes in
    let next = state_of s' bytes' in
    let off = over_off (ticks image longest_turn now) (over_rest ms (ticks image longest_turn now) t e h) in
    e ∙ ap (λ (x : turns.State). marked ms x) (sym (ticks_next image longest_turn now (on_state s bytes ∙ on) off) ∙ ap (λ (x : turns.State). ticks image longest_turn x) step ∙ ticks_marked image ds longest_turn next)
    ∙ marked_twice ms ds (ticks image longest_turn next)

pub left_on : (image : Image) (ms ds : List Mark) (s s' : State) (bytes bytes' : List ℕ) (t : turns.State) → t ≡ marked ms (ticks image longest_turn (state_of s bytes)) → IsOver t → spec.is_on s ≡ true → tick image (state_of s bytes) ≡ marked ds (state_of s' bytes') → left image longest_turn (state_of s' bytes') < left image longest_turn (state_of s bytes)
left_on image ms ds s s' bytes bytes' t e h on step =
    let now = state_of s bytes in
    let next = state_of s' bytes' in
    let off = over_off (ticks image longest_turn now) (over_rest ms (ticks image longest_turn now) t e h) in
    let same : left image longest_turn (tick image (state_of s bytes)) ≡ left image longest_turn (state_of s' bytes') = ap (λ (x : turns.State). left image longest_turn x) step ∙ left_marked image ds longest_turn next in
    let less = left_next image longest_turn now (on_state s bytes ∙ on) off in
    subst (λ (n : ℕ). n < left image longest_turn (state_of s bytes)) same less

-- ---- the end of a turn

pub marks_marked : (ms : List Mark) (s : turns.State) → IsAllowed s → marks_in (marked ms s) ≡ ms ++ marks_in s
marks_marked ms turns.Stuck h = absurd h
marks_marked ms (turns.Trail r m) h = refl
marks_marked ms (turns.Sweeping s m) h = refl
marks_marked ms (turns.Finalizer s r m) h = refl
marks_marked ms (turns.Paused m) h = refl
marks_marked ms (turns.Ended m) h = refl
marks_marked ms (turns.Faulted f p m) h = refl

pub over_allowed : (s : turns.State) → IsOver s → IsAllowed s
over_allowed turns.Stuck h = absurd h
over_allowed (turns.Trail r m) h = tt
over_allowed (turns.Sweeping s m) h = tt
over_allowed (turns.Finalizer s r m) h = tt
over_allowed (turns.Paused m) h = tt
over_allowed (turns.Ended m) h = tt
over_allowed (turns.Faulted f p m) h = tt

ends_with : (ms : List Mark) (s : State) (bytes : List ℕ) → spec.is_on s ≡ false → Outcome (marked ms (state_of s bytes)) (outcome_of s) bytes
ends_with ms (Trail r) bytes e = absurd (cc)
ends_with ms (Sweeping s) bytes e = absurd (cc)
ends_with ms (Finalizer s r) bytes e = absurd (cc)
ends_with ms Paused bytes e = refl
ends_with ms Ended bytes e = refl
ends_with ms (Faulted f p) bytes e = (refl, refl, refl)

marks_of_end : (ms : List Mark) (s : State) (bytes : List ℕ) → marks_in (marked ms (state_of s bytes)) ≡ ms
marks_of_end ms (Trail r) bytes = append-nil ms
marks_of_end ms (Sweeping s) bytes = append-nil ms
marks_of_end ms (Finalizer s r) bytes = append-nil ms
marks_of_end ms Paused bytes = append-nil ms
marks_of_end ms Ended bytes = append-nil ms
marks_of_end ms (Faulted f p) bytes = append-nil ms

at_end : (image : Image) (ms : List Mark) (s : State) (bytes : List ℕ) (t : turns.State) → t ≡ marked ms (ticks image longest_turn (state_of s bytes)) → spec.is_on s ≡ false → t ≡ marked ms (state_of s bytes)
at_end image ms s bytes t e off = e ∙ ap (λ (x : turns.State). marked ms x) (ticks_off image longest_turn (state_of s bytes) (on_state s bytes ∙ off))

pub outcome_at_end : (image : Image) (ms : List Mark) (s : State) (bytes : List ℕ) (t : turns.State) → t ≡ marked ms (ticks image longest_turn (state_of s bytes)) → spec.is_on s ≡ false → Outcome t (outcome_of s) bytes
outcome_at_end image ms s bytes t e off = subst (λ x. Outcome x (outcome_of s) bytes) (sym (at_end image ms s bytes t e off)) (ends_with ms s bytes off)

pub marks_at_end : (image : Image) (ms : List Mark) (s : State) (bytes : List ℕ) (t : turns.State) → t ≡ marked ms (ticks image longest_turn (state_of s bytes)) → spec.is_on s ≡ false → marks_in t ≡ ms
marks_at_end image ms s bytes t e off = ap marks_in (at_end image ms s bytes t e off) ∙ marks_of_end ms s bytes

-- a sink that failed on the marks of a step
pub stopped_at : {S : Type 0} (notes stops : S → Mark → S → Type 0) (image : Image) (ms ds : List Mark) (s' : State) (bytes' : List ℕ) (t : turns.State) (a b c : S) → t ≡ marked (ms ++ ds) (ticks image longest_turn (state_of s' bytes')) → IsOver t → Noted notes ms a b → Stopped notes stops ds b c → Stopped notes stops (marks_in t) a c
stopped_at notes stops image ms ds s' bytes' t a b c e over h k =
    let rest = ticks image longest_turn (state_of s' bytes') in
    let is : marks_in t ≡ (ms ++ ds) ++ marks_in rest = ap marks_in e ∙ marks_marked (ms ++ ds) rest (over_allowed rest (over_rest (ms ++ ds) rest t e over)) in
    subst (λ l. Stopped notes stops l a c) (sym is) (stopped_early notes stops (ms ++ ds) (marks_in rest) a c (stopped_late notes stops ms ds a b c h k))

pub on_err : {T E : Type 0} (r : Result T E) (P : Type 0) → P → OnErr r P
on_err (Ok x) P p = tt
on_err (Err e) P p = p
