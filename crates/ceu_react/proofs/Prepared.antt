-- Commands by their parts: what they do to the gates, and the reaction that follows.
use Rattle.std.proofs.Common.{◌≡◌, ℕ, ◌<◌, ℤ, nat_lt, Bool, true, false, if◌then◌else◌, List, [], ◌++◌, refl, sym, ap, ◌∙◌, subst}
use Rattle.std.proofs.lemmas.List.{append-nil}
use Rattle.std.proofs.lemmas.Bool.Decides.{nat_tests}
use Rattle.std.proofs.Common.{arith}
use Rattle.ceu_base.specs.declared.kinds.Fault.{Fault}
use Rattle.ceu_base.specs.declared.kinds.Pos.{Pos}
use Rattle.ceu_base.specs.declared.kinds.Mark.{Mark}
use Rattle.ceu_base.specs.declared.kinds.Ty.TheVariants.{S64}
use Rattle.ceu_code.specs.declared.image.Image.{Image}
use Rattle.ceu_code.specs.Instructions.{cell}
use Rattle.ceu_mem.specs.Memory.{value_at}
use Rattle.ceu_isa.specs.Layout.{gate_changed, each_gate, scratch_at}
use Rattle.ceu_isa.specs.Order.{Choice, Nowhere, Unclear, Chosen}
use Rattle.ceu_isa.specs.Turns as turns
use Rattle.ceu_isa.specs.Turns.{Machine, State}
use Rattle.ceu_isa.specs.Reactions.{Config, Lost, Waits, reacts}
use Rattle.ceu_isa.specs.Commands.{booted, program_start, input_done, first_unserved, after_serving, serve, serve_in_new_round, round_begun, idle_turn, marks_of}
use Rattle.ceu_isa.specs.Safety.{IsOver}
use Rattle.ceu_machine.specs.declared.turning.Turned.TheVariants as turn
use Rattle.ceu_machine.specs.Ordering.{IsDecided}
use Rattle.ceu_machine.specs.States.{plain}
use Rattle.ceu_machine.specs.Turning.{Outcome, marks_in}
use Rattle.ceu_react.specs.declared.after.After.TheVariants.{Ended, Faulted}
use Rattle.ceu_react.specs.declared.changes.Change.TheVariants as change
use Rattle.ceu_react.specs.Changes.{affects, changed_by}
use Rattle.ceu_react.specs.Coming.{Came}
use Rattle.ceu_react.specs.Marking.{marked_config, IsKept}
use Rattle.ceu_react.proofs.Marks.{as_marked}
use Rattle.ceu_react.proofs.Runs.{reacts_marked, unmarked_kept, marks_marked}

-- ---- boot and inputs

there : (b : Bool) (c : Config) → IsKept (if b then c else Lost) → b ≡ true
there true c h = refl
there false c h = absurd h

pub boot_there : (image : Image) (bytes : List ℕ) → IsKept (booted image (plain bytes)) → 0 < image.gates
boot_there image bytes h =
    let t : nat_lt 0 image.gates ≡ true = there (nat_lt 0 image.gates) (reacts image (turns.rewritten (gate_changed image (program_start image) 0 bytes) (plain bytes))) h in
    grind (arith, nat_tests)

pub boot_is : (image : Image) (bytes bytes' : List ℕ) → IsKept (booted image (plain bytes)) → bytes' ≡ gate_changed image (program_start image) 0 bytes → booted image (plain bytes) ≡ reacts image (plain bytes')
boot_is image bytes bytes' h b =
    ap (λ (t : Bool). if t then reacts image (plain (gate_changed image (program_start image) 0 bytes)) else Lost) (there (nat_lt 0 image.gates) (reacts image (plain (gate_changed image (program_start image) 0 bytes))) h)
    ∙ ap (λ (k : List ℕ). reacts image (plain k)) (sym b)

pub input_is : (image : Image) (k value : ℕ) (v : ℤ) (bytes bytes' : List ℕ) → value ≡ cell v → bytes' ≡ each_gate image (affects (change.Input k value)) (changed_by (change.Input k value)) image.gates bytes → input_done image k v (Waits (plain bytes)) ≡ reacts image (plain bytes')
input_is image k value v bytes bytes' e b =
    ap (λ (n : ℕ). reacts image (plain (each_gate image (affects (change.Input k n)) (changed_by (change.Input k n)) image.gates bytes))) (sym e) ∙ ap (λ (x : List ℕ). reacts image (plain x)) (sym b)

-- ---- idle turns

idle_of : (image : Image) (m : Machine) (x : Choice) → IsKept (elim x as (λ _. Config) [ Nowhere ↦ serve_in_new_round image (round_begun image m) | Unclear ↦ Lost | Chosen g ↦ serve image (Chosen g) m ]) → IsDecided x
idle_of image m Nowhere h = tt
idle_of image m Unclear h = h
idle_of image m (Chosen g) h = tt

pub idle_decided : (image : Image) (m : Machine) → IsKept (idle_turn image (Waits m)) → IsDecided (first_unserved image m.bytes)
idle_decided image m h = idle_of image m (first_unserved image m.bytes) h

pub idle_some : (image : Image) (m : Machine) (g : ℕ) → first_unserved image m.bytes ≡ Chosen g → idle_turn image (Waits m) ≡ serve image (Chosen g) m
idle_some image m g e = ap (λ (x : Choice). elim x as (λ _. Config) [ Nowhere ↦ serve_in_new_round image (round_begun image m) | Unclear ↦ Lost | Chosen g ↦ serve image (Chosen g) m ]) e

pub idle_none : (image : Image) (m : Machine) → first_unserved image m.bytes ≡ Nowhere → idle_turn image (Waits m) ≡ serve_in_new_round image (round_begun image m)
idle_none image m e = ap (λ (x : Choice). elim x as (λ _. Config) [ Nowhere ↦ serve_in_new_round image (round_begun image m) | Unclear ↦ Lost | Chosen g ↦ serve image (Chosen g) m ]) e

serve_of : (image : Image) (m : Machine) (x : Choice) → IsKept (serve image x m) → IsDecided x
serve_of image m Nowhere h = tt
serve_of image m Unclear h = h
serve_of image m (Chosen g) h = tt

pub round_is : (image : Image) (bytes bytes' : List ℕ) → bytes' ≡ each_gate image (affects change.Round) (changed_by change.Round) image.gates bytes → serve_in_new_round image (round_begun image (plain bytes)) ≡ serve image (first_unserved image bytes') (plain bytes')
round_is image bytes bytes' b = ap (λ (k : List ℕ). serve image (first_unserved image k) (plain k)) (sym b)

pub round_decided : (image : Image) (bytes bytes' : List ℕ) → bytes' ≡ each_gate image (affects change.Round) (changed_by change.Round) image.gates bytes → IsKept (serve_in_new_round image (round_begun image (plain bytes))) → IsDecided (first_unserved image bytes')
round_decided image bytes bytes' b h = serve_of image (plain bytes') (first_unserved image bytes') (subst IsKept (round_is image bytes bytes' b) h)

pub round_served : (image : Image) (bytes bytes' : List ℕ) (x : Choice) → bytes' ≡ each_gate image (affects change.Round) (changed_by change.Round) image.gates bytes → first_unserved image bytes' ≡ x → serve_in_new_round image (round_begun image (plain bytes)) ≡ serve image x (plain bytes')
round_served image bytes bytes' x b e = round_is image bytes bytes' b ∙ ap (λ (y : Choice). serve image y (plain bytes')) e

-- ---- the turn of an async

pub serve_over : (image : Image) (s : State) → IsKept (after_serving image s) → IsOver s
serve_over image turns.Stuck h = h
serve_over image (turns.Trail r m) h = h
serve_over image (turns.Sweeping s m) h = h
serve_over image (turns.Finalizer s r m) h = h
serve_over image (turns.Paused m) h = tt
serve_over image (turns.Ended m) h = tt
serve_over image (turns.Faulted f p m) h = tt

pub paused_is : (image : Image) (s : State) (bytes : List ℕ) → Outcome s turn.Paused bytes → after_serving image s ≡ marked_config (marks_in s) (reacts image (plain bytes))
paused_is image turns.Stuck bytes h = absurd h
paused_is image (turns.Trail r m) bytes h = absurd h
paused_is image (turns.Sweeping s m) bytes h = absurd h
paused_is image (turns.Finalizer s r m) bytes h = absurd h
paused_is image (turns.Paused m) bytes h = ap (λ (k : Machine). reacts image k) (as_marked m) ∙ reacts_marked image m.marks (plain m.bytes) ∙ ap (λ (k : List ℕ). marked_config m.marks (reacts image (plain k))) h
paused_is image (turns.Ended m) bytes h = absurd h
paused_is image (turns.Faulted f p m) bytes h = absurd h

pub ended_came : (image : Image) (s : State) (bytes : List ℕ) (v : ℤ) → Outcome s turn.Ended bytes → v ≡ value_at S64 bytes scratch_at → Came (after_serving image s) (Ended v) bytes × (marks_of (after_serving image s) ≡ marks_in s)
ended_came image turns.Stuck bytes v h e = absurd h
ended_came image (turns.Trail r m) bytes v h e = absurd h
ended_came image (turns.Sweeping s m) bytes v h e = absurd h
ended_came image (turns.Finalizer s r m) bytes v h e = absurd h
ended_came image (turns.Paused m) bytes v h e = absurd h
ended_came image (turns.Ended m) bytes v h e = ((ap (λ (k : List ℕ). value_at S64 k scratch_at) h ∙ sym e, h), refl)
ended_came image (turns.Faulted f p m) bytes v h e = absurd h

pub faulted_came : (image : Image) (s : State) (bytes : List ℕ) (f : Fault) (p : Pos) → Outcome s (turn.Faulted f p) bytes → Came (after_serving image s) (Faulted f p) bytes × (marks_of (after_serving image s) ≡ marks_in s)
faulted_came image turns.Stuck bytes f p h = absurd h
faulted_came image (turns.Trail r m) bytes f p h = absurd h
faulted_came image (turns.Sweeping s m) bytes f p h = absurd h
faulted_came image (turns.Finalizer s r m) bytes f p h = absurd h
faulted_came image (turns.Paused m) bytes f p h = absurd h
faulted_came image (turns.Ended m) bytes f p h = absurd h
faulted_came image (turns.Faulted g q m) bytes f p h = (h, refl)

pub serve_begins : (image : Image) (s : State) → IsKept (after_serving image s) → (more : List Mark) × (marks_of (after_serving image s) ≡ marks_in s ++ more)
serve_begins image turns.Stuck h = absurd h
serve_begins image (turns.Trail r m) h = absurd h
serve_begins image (turns.Sweeping s m) h = absurd h
serve_begins image (turns.Finalizer s r m) h = absurd h
serve_begins image (turns.Paused m) h =
    let e = paused_is image (turns.Paused m) m.bytes refl in
    let kept = unmarked_kept m.marks (reacts image (plain m.bytes)) (subst IsKept e h) in
    (marks_of (reacts image (plain m.bytes)), ap marks_of e ∙ marks_marked m.marks (reacts image (plain m.bytes)) kept)
serve_begins image (turns.Ended m) h = ([], sym (append-nil m.marks))
serve_begins image (turns.Faulted f p m) h = ([], sym (append-nil m.marks))
