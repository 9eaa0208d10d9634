-- What an instruction did, and where the turn is then.
use Rattle.std.proofs.Common.{◌≡◌, ℕ, Bool, true, false, List, [], Option, Some, None, refl, sym, ap, ◌∙◌, subst, ◌+◌, nat_le, if◌then◌else◌}
use Rattle.std.specs.Prelude.{IsSome}
use Rattle.ceu_base.specs.declared.kinds.Mark.{Mark}
use Rattle.ceu_code.specs.declared.image.Image.{Image}
use Rattle.ceu_code.specs.declared.instr.Instr.{Instr}
use Rattle.ceu_isa.specs.declared.registers.Registers.{Registers}
use Rattle.ceu_isa.specs.Effects as isa
use Rattle.ceu_isa.specs.Effects.{Effect}
use Rattle.ceu_isa.specs.Rows.{effect, in_finalizers}
use Rattle.ceu_isa.specs.Turns as turns
use Rattle.ceu_isa.specs.Turns.{Machine, trail_did, finalizer_did, trail_does, finalizer_does, swept_on, next_of}
use Rattle.ceu_isa.specs.Layout.{gates_from, is_taken}
use Rattle.ceu_isa.specs.Order.{Choice, Nowhere, Unclear, Chosen, last_of}
use Rattle.ceu_machine.specs.Ordering.{end_of_all, IsDecided}
use Rattle.ceu_machine.specs.declared.performing.Done.{Done}
use Rattle.ceu_machine.specs.declared.performing.Done.TheVariants as done
use Rattle.ceu_machine.specs.Holding.{IsRight}
use Rattle.ceu_machine.specs.Performing.{Did}
use Rattle.ceu_machine.specs.States.{plain, marked, marks_of, trail_after, finalizer_after, IsAllowed}

pub marked_nothing : (s : turns.State) → marked [] s ≡ s
marked_nothing turns.Stuck = refl
marked_nothing (turns.Trail r m) = refl
marked_nothing (turns.Sweeping s m) = refl
marked_nothing (turns.Finalizer s r m) = refl
marked_nothing (turns.Paused m) = refl
marked_nothing (turns.Ended m) = refl
marked_nothing (turns.Faulted f p m) = refl

-- ---- a trail

pub trail_right : (image : Image) (e : Effect) (r : Registers) (m : Machine) → IsAllowed (trail_did image e r m) → IsRight e
trail_right image isa.Wrong r m h = h
trail_right image (isa.Goes q b ms) r m h = tt
trail_right image (isa.Pauses b ms) r m h = tt
trail_right image (isa.Finishes b) r m h = tt
trail_right image (isa.Faults f p) r m h = tt
trail_right image (isa.Aborts f c a) r m h = tt
trail_right image isa.Leaves r m h = tt

pub trail_is : (image : Image) (e : Effect) (d : Done) (behind r : Registers) (old new : List ℕ) → Did e d r old new → trail_did image e behind (plain old) ≡ marked (marks_of d) (trail_after image d behind r new)
unfolding trail_after
trail_is image e done.Goes behind r old new h = ap (λ (x : Effect). trail_did image x behind (plain old)) h
trail_is image e (done.Marks m) behind r old new h = ap (λ (x : Effect). trail_did image x behind (plain old)) h
trail_is image e done.Pauses behind r old new h = ap (λ (x : Effect). trail_did image x behind (plain old)) h
trail_is image e (done.Opens l) behind r old new h = ap (λ (x : Effect). trail_did image x behind (plain old)) h
trail_is image e (done.Spawns n l) behind r old new h = ap (λ (x : Effect). trail_did image x behind (plain old)) h
trail_is image e done.Finishes behind r old new h = ap (λ (x : Effect). trail_did image x behind (plain old)) h
trail_is image e (done.Faults f p) behind r old new h = ap (λ (x : Effect). trail_did image x behind (plain old)) h.0 ∙ ap (λ (b : List ℕ). turns.failing image f p behind (plain b)) (sym h.1) ∙ sym (marked_nothing (turns.failing image f p behind (plain new)))
trail_is image e (done.Aborts f c) behind r old new h = ap (λ (x : Effect). trail_did image x behind (plain old)) h.0 ∙ ap (λ (b : List ℕ). trail_did image (isa.Aborts f c isa.GoesOn) behind (plain b)) (sym h.1)
trail_is image e (done.Kills p f c) behind r old new h = ap (λ (x : Effect). trail_did image x behind (plain old)) h.0 ∙ ap (λ (b : List ℕ). trail_did image (isa.Aborts f c (isa.Frees p)) behind (plain b)) (sym h.1)
trail_is image e done.Leaves behind r old new h = ap (λ (x : Effect). trail_did image x behind (plain old)) h.0

pub unmarked_allowed : (ms : List Mark) (s : turns.State) → IsAllowed (marked ms s) → IsAllowed s
unmarked_allowed ms turns.Stuck h = h
unmarked_allowed ms (turns.Trail r m) h = tt
unmarked_allowed ms (turns.Sweeping s m) h = tt
unmarked_allowed ms (turns.Finalizer s r m) h = tt
unmarked_allowed ms (turns.Paused m) h = tt
unmarked_allowed ms (turns.Ended m) h = tt
unmarked_allowed ms (turns.Faulted f p m) h = tt

-- ---- a finalizer

pub finalizer_right : (e : Effect) (s : turns.Sweep) (r : Registers) (m : Machine) → IsAllowed (finalizer_did e s r m) → IsRight e
finalizer_right isa.Wrong s r m h = h
finalizer_right (isa.Goes q b ms) s r m h = tt
finalizer_right (isa.Pauses b ms) s r m h = tt
finalizer_right (isa.Finishes b) s r m h = tt
finalizer_right (isa.Faults f p) s r m h = tt
finalizer_right (isa.Aborts f c a) s r m h = tt
finalizer_right isa.Leaves s r m h = tt

pub finalizer_is : (e : Effect) (d : Done) (s : turns.Sweep) (behind r : Registers) (old new : List ℕ) → Did e d r old new → finalizer_did e s behind (plain old) ≡ marked (marks_of d) (finalizer_after d s behind r new)
unfolding finalizer_after
finalizer_is e done.Goes s behind r old new h = ap (λ (x : Effect). finalizer_did x s behind (plain old)) h
finalizer_is e (done.Marks m) s behind r old new h = ap (λ (x : Effect). finalizer_did x s behind (plain old)) h
finalizer_is e done.Pauses s behind r old new h = ap (λ (x : Effect). finalizer_did x s behind (plain old)) h
finalizer_is e (done.Opens l) s behind r old new h = ap (λ (x : Effect). finalizer_did x s behind (plain old)) h
finalizer_is e (done.Spawns n l) s behind r old new h = ap (λ (x : Effect). finalizer_did x s behind (plain old)) h
finalizer_is e done.Finishes s behind r old new h = ap (λ (x : Effect). finalizer_did x s behind (plain old)) h
finalizer_is e (done.Faults f p) s behind r old new h = ap (λ (x : Effect). finalizer_did x s behind (plain old)) h.0 ∙ ap (λ (b : List ℕ). turns.finalizer_failed s.after f p (plain b)) (sym h.1) ∙ sym (marked_nothing (turns.finalizer_failed s.after f p (plain new)))
finalizer_is e (done.Aborts f c) s behind r old new h = ap (λ (x : Effect). finalizer_did x s behind (plain old)) h.0
finalizer_is e (done.Kills p f c) s behind r old new h = ap (λ (x : Effect). finalizer_did x s behind (plain old)) h.0
finalizer_is e done.Leaves s behind r old new h = ap (λ (x : Effect). finalizer_did x s behind (plain old)) h.0 ∙ ap (λ (b : List ℕ). finalizer_did isa.Leaves s behind (plain b)) (sym h.1)

-- ---- with the instruction fetched

pub trail_fetched : (image : Image) (o : Option Instr) (i : Instr) (r : Registers) (m : Machine) → o ≡ Some i → trail_does image o r m ≡ trail_did image (effect image i (turns.behind i r) m.bytes) (turns.behind i r) m
trail_fetched image o i r m e = ap (λ x. trail_does image x r m) e

finalizer_test : (b : Bool) (s : turns.State) → IsAllowed (if b then s else turns.Stuck) → (if b then s else turns.Stuck) ≡ s
finalizer_test true s h = refl
finalizer_test false s h = absurd h

pub finalizer_fetched : (image : Image) (o : Option Instr) (i : Instr) (s : turns.Sweep) (r : Registers) (m : Machine) → o ≡ Some i → IsAllowed (finalizer_does image o s r m) → finalizer_does image o s r m ≡ finalizer_did (effect image i (turns.behind i r) m.bytes) s (turns.behind i r) m
finalizer_fetched image o i s r m e h =
    let there = ap (λ x. finalizer_does image x s r m) e in
    there ∙ finalizer_test (in_finalizers i) (finalizer_did (effect image i (turns.behind i r) m.bytes) s (turns.behind i r) m) (subst IsAllowed there h)

pub there_trail : (image : Image) (o : Option Instr) (r : Registers) (m : Machine) → IsAllowed (trail_does image o r m) → IsSome o
there_trail image None r m h = absurd h
there_trail image (Some i) r m h = refl

pub there_finalizer : (image : Image) (o : Option Instr) (s : turns.Sweep) (r : Registers) (m : Machine) → IsAllowed (finalizer_does image o s r m) → IsSome o
there_finalizer image None s r m h = absurd h
there_finalizer image (Some i) s r m h = refl

-- ---- a whole step of a trail, and of a finalizer

pub trail_step_right : (image : Image) (o : Option Instr) (i : Instr) (r b : Registers) (bytes : List ℕ) → o ≡ Some i → b ≡ turns.behind i r → IsAllowed (trail_does image o r (plain bytes)) → IsRight (effect image i b bytes)
trail_step_right image o i r b bytes e eb h =
    subst (λ x. IsRight (effect image i x bytes)) (sym eb) (trail_right image (effect image i (turns.behind i r) bytes) (turns.behind i r) (plain bytes) (subst IsAllowed (trail_fetched image o i r (plain bytes) e) h))

pub trail_step_is : (image : Image) (o : Option Instr) (i : Instr) (r b : Registers) (bytes : List ℕ) (d : Done) (q : Registers) (new : List ℕ) → o ≡ Some i → b ≡ turns.behind i r → Did (effect image i b bytes) d q bytes new → trail_does image o r (plain bytes) ≡ marked (marks_of d) (trail_after image d b q new)
trail_step_is image o i r b bytes d q new e eb did =
    trail_fetched image o i r (plain bytes) e ∙ ap (λ (x : Registers). trail_did image (effect image i x bytes) x (plain bytes)) (sym eb) ∙ trail_is image (effect image i b bytes) d b q bytes new did

pub trail_step_allowed : (image : Image) (o : Option Instr) (i : Instr) (r b : Registers) (bytes : List ℕ) (d : Done) (q : Registers) (new : List ℕ) → o ≡ Some i → b ≡ turns.behind i r → Did (effect image i b bytes) d q bytes new → IsAllowed (trail_does image o r (plain bytes)) → IsAllowed (trail_after image d b q new)
trail_step_allowed image o i r b bytes d q new e eb did h =
    unmarked_allowed (marks_of d) (trail_after image d b q new) (subst IsAllowed (trail_step_is image o i r b bytes d q new e eb did) h)

pub finalizer_step_right : (image : Image) (o : Option Instr) (i : Instr) (s : turns.Sweep) (r b : Registers) (bytes : List ℕ) → o ≡ Some i → b ≡ turns.behind i r → IsAllowed (finalizer_does image o s r (plain bytes)) → IsRight (effect image i b bytes)
finalizer_step_right image o i s r b bytes e eb h =
    subst (λ x. IsRight (effect image i x bytes)) (sym eb) (finalizer_right (effect image i (turns.behind i r) bytes) s (turns.behind i r) (plain bytes) (subst IsAllowed (finalizer_fetched image o i s r (plain bytes) e h) h))

pub finalizer_step_is : (image : Image) (o : Option Instr) (i : Instr) (s : turns.Sweep) (r b : Registers) (bytes : List ℕ) (d : Done) (q : Registers) (new : List ℕ) → o ≡ Some i → b ≡ turns.behind i r → Did (effect image i b bytes) d q bytes new → IsAllowed (finalizer_does image o s r (plain bytes)) → finalizer_does image o s r (plain bytes) ≡ marked (marks_of d) (finalizer_after d s b q new)
finalizer_step_is image o i s r b bytes d q new e eb did h =
    finalizer_fetched image o i s r (plain bytes) e h ∙ ap (λ (x : Registers). finalizer_did (effect image i x bytes) s x (plain bytes)) (sym eb) ∙ finalizer_is (effect image i b bytes) d s b q bytes new did

pub finalizer_step_allowed : (image : Image) (o : Option Instr) (i : Instr) (s : turns.Sweep) (r b : Registers) (bytes : List ℕ) (d : Done) (q : Registers) (new : List ℕ) → o ≡ Some i → b ≡ turns.behind i r → Did (effect image i b bytes) d q bytes new → IsAllowed (finalizer_does image o s r (plain bytes)) → IsAllowed (finalizer_after d s b q new)
finalizer_step_allowed image o i s r b bytes d q new e eb did h =
    unmarked_allowed (marks_of d) (finalizer_after d s b q new) (subst IsAllowed (finalizer_step_is image o i s r b bytes d q new e eb did h) h)

-- ---- an abort

abbrev pub in_sweep : Image → List ℕ → turns.Sweep → Choice
in_sweep image bytes s = end_of_all image bytes true (gates_from image bytes is_taken s.from s.count)

sweep_choice : (image : Image) (s : turns.Sweep) (bytes : List ℕ) (x : Choice) (b : Bool) → IsAllowed (swept_on image (if b then x else Unclear) s (plain bytes)) → ((if b then x else Unclear) ≡ x) × IsDecided x
sweep_choice image s bytes x false h = absurd h
sweep_choice image s bytes Nowhere true h = (refl, tt)
sweep_choice image s bytes Unclear true h = absurd h
sweep_choice image s bytes (Chosen g) true h = (refl, tt)

pub sweep_clear : (image : Image) (s : turns.Sweep) (bytes : List ℕ) → IsAllowed (swept_on image (next_of image s (plain bytes)) s (plain bytes)) → (next_of image s (plain bytes) ≡ in_sweep image bytes s) × IsDecided (in_sweep image bytes s)
unfolding end_of_all
sweep_clear image s bytes h = sweep_choice image s bytes (last_of image bytes (gates_from image bytes is_taken s.from s.count)) (nat_le (s.from + s.count) image.gates) h

pub sweep_is : (image : Image) (s : turns.Sweep) (bytes : List ℕ) (x : Choice) → in_sweep image bytes s ≡ x → IsAllowed (swept_on image (next_of image s (plain bytes)) s (plain bytes)) → swept_on image (next_of image s (plain bytes)) s (plain bytes) ≡ swept_on image x s (plain bytes)
sweep_is image s bytes x e h = ap (λ (y : Choice). swept_on image y s (plain bytes)) ((sweep_clear image s bytes h).0 ∙ e)

pub sweep_allowed : (image : Image) (s : turns.Sweep) (bytes : List ℕ) (x : Choice) → in_sweep image bytes s ≡ x → IsAllowed (swept_on image (next_of image s (plain bytes)) s (plain bytes)) → IsAllowed (swept_on image x s (plain bytes))
sweep_allowed image s bytes x e h = subst IsAllowed (sweep_is image s bytes x e h) h
