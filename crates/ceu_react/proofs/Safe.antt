-- Machines that are safe, from one turn and one command to the next.
use Rattle.std.proofs.Common.{◌≡◌, ◌≢◌, ℕ, zero, suc, ◌+◌, ◌*◌, ◌^◌, ◌≤◌, ◌<◌, eqb, Bool, true, false, List, [], ◌∷◌, ◌++◌, Option, Some, None, length, refl, sym, ap, ◌∙◌, subst, arith}
use Rattle.std.specs.List.{AllByRecursion}
use Rattle.ceu_base.specs.declared.kinds.Mark.{Mark}
use Rattle.ceu_base.specs.declared.kinds.Mark.TheVariants.{Pop}
use Rattle.ceu_code.specs.declared.image.Image.{Image}
use Rattle.ceu_mem.proofs.Views.{length-with_number, number_written}
use Rattle.ceu_tree.specs.declared.command.Command.{Command}
use Rattle.ceu_isa.specs.Layout.{end_of, state_of, top_of, with_state, with_top, fresh, waiting, reacting}
use Rattle.ceu_isa.specs.Order.{Choice, Nowhere, Unclear, Chosen}
use Rattle.ceu_isa.specs.Turns as turns
use Rattle.ceu_isa.specs.Turns.{Machine, State, changed, rewritten, turned}
use Rattle.ceu_isa.specs.Reactions.{Config, Lost, Waits, HasEnded, HasFaulted, Next, Nothing, AllClosed, Resumes, first_at, next_turn, next, resumed, reaction}
use Rattle.ceu_isa.specs.Commands.{booted, done, all_done}
use Rattle.ceu_isa.specs.Safety.{IsCommand, IsSafe, Fits, CanTurn, going_on}
use Rattle.ceu_machine.specs.declared.turning.Turned.TheVariants as turn
use Rattle.ceu_machine.specs.States.{plain}
use Rattle.ceu_machine.specs.Turning.{Outcome}
use Rattle.ceu_react.specs.declared.after.After.TheVariants as after
use Rattle.ceu_react.specs.declared.closing.Resumption.{Resumption}
use Rattle.ceu_react.specs.Coming.{NextIs, RoundIs}
use Rattle.ceu_react.specs.Marking.{marked_config, IsKept}
use Rattle.ceu_react.specs.Rounds.{Round, Over, round, round_of, marks_of_round}
use Rattle.ceu_react.specs.Sessions.{GoesOn}
use Rattle.ceu_react.proofs.CommandMarks.{all_marked}
use Rattle.ceu_react.proofs.Keeping.{kept_of, goes_kept, goes_done, goes_plain}
use Rattle.ceu_react.proofs.Reactions.{more, over, right_round}
use Rattle.ceu_react.proofs.RoundParts.{round_is, over_turn, outcome_resumed, turn_round}
use Rattle.ceu_react.proofs.Runs.{one_on, unmarked_kept}

not_lost : (c : Config) → IsKept c → c ≢ Lost
not_lost c k e = subst IsKept e k

-- ---- what goes on from the bytes, by their header

abbrev going : Image → List ℕ → ℕ → Config
going image bytes state = elim (eqb state fresh) as (λ _. Config) [
  | true ↦ booted image (plain bytes)
  | false ↦ elim (eqb state waiting) as (λ _. Config) [
    | true ↦ Waits (plain bytes)
    | false ↦ elim (eqb state reacting) as (λ _. Config) [ true ↦ reaction image image.turns (plain bytes) | false ↦ Waits (plain bytes) ]
  ]
]

reacts_on : (image : Image) (bytes : List ℕ) → state_of bytes ≡ reacting → going_on image bytes (Waits (plain bytes)) ≡ reaction image image.turns (plain bytes)
reacts_on image bytes e = ap (λ (n : ℕ). going image bytes n) e

waits_on : (image : Image) (bytes : List ℕ) → state_of bytes ≡ waiting → going_on image bytes (Waits (plain bytes)) ≡ Waits (plain bytes)
waits_on image bytes e = ap (λ (n : ℕ). going image bytes n) e

goes_from : (image : Image) (bytes : List ℕ) (c : Config) → IsSafe image bytes → going_on image bytes (Waits (plain bytes)) ≡ c → GoesOn image c
goes_from image bytes c h e = λ xs oks. kept_of (all_done image xs c) (subst (λ (k : Config). all_done image xs k ≢ Lost) e (h.goes xs oks))

safe_from : (image : Image) (bytes : List ℕ) (c : Config) → Fits image bytes → going_on image bytes (Waits (plain bytes)) ≡ c → GoesOn image c → IsSafe image bytes
safe_from image bytes c f e g = record { fits = f; goes = λ xs oks. subst (λ (k : Config). all_done image xs k ≢ Lost) (sym e) (not_lost (all_done image xs c) (g xs oks)) }

goes_unmarked : (image : Image) (ms : List Mark) (c : Config) → GoesOn image (marked_config ms c) → GoesOn image c
goes_unmarked image ms c g = λ xs oks. unmarked_kept ms (all_done image xs c) (subst IsKept (all_marked image xs ms c) (g xs oks))

-- ---- levels that close keep the length of the memory

abbrev HasLength : Next → ℕ → Type 0
HasLength Nothing n = Unit {0}
HasLength (AllClosed m) n = length m.bytes ≡ n
HasLength (Resumes g level m) n = length m.bytes ≡ n

at_zero : (m : Machine) (n : ℕ) (x : Choice) → length m.bytes ≡ n → HasLength (elim x as (λ _. Next) [ Nowhere ↦ AllClosed m | Unclear ↦ Nothing | Chosen g ↦ Resumes g 0 m ]) n
at_zero m n Nowhere h = h
at_zero m n Unclear h = tt
at_zero m n (Chosen g) h = h

at_level : (m : Machine) (n level : ℕ) (closed : Next) (x : Choice) → length m.bytes ≡ n → HasLength closed n → HasLength (elim x as (λ _. Next) [ Nowhere ↦ closed | Unclear ↦ Nothing | Chosen g ↦ Resumes g (suc level) m ]) n
at_level m n level closed Nowhere h k = k
at_level m n level closed Unclear h k = tt
at_level m n level closed (Chosen g) h k = h

length_kept : (image : Image) (level : ℕ) (m : Machine) (n : ℕ) → length m.bytes ≡ n → HasLength (next_turn image level m) n
unfolding next_turn
length_kept image zero m n h = at_zero m n (first_at image 0 m.bytes) h
length_kept image (suc l) m n h =
    let closed = changed (with_top l m.bytes) (Pop (suc l) ∷ []) m in
    at_level m n l (next_turn image l closed) (first_at image (suc l) m.bytes) h (length_kept image l closed n (length-with_number 2 l m.bytes 2 ∙ h))

same_fits : (image : Image) (bytes bytes' : List ℕ) → Fits image bytes → length bytes' ≡ length bytes → Fits image bytes'
same_fits image bytes bytes' f e = record { size = e ∙ f.size; memory = f.memory; code = f.code }

next_fits : (image : Image) (bytes : List ℕ) (gate level : ℕ) (m : Machine) → Fits image bytes → next image (plain bytes) ≡ Resumes gate level m → Fits image m.bytes
next_fits image bytes gate level m f e =
    same_fits image bytes m.bytes f (subst (λ (x : Next). HasLength x (length bytes)) e (length_kept image (top_of bytes) (plain bytes) (length bytes) refl))

-- ---- the laws

abbrev resumption : (gate level : ℕ) → Resumption
resumption gate level = record { gate = gate; level = level }

comes_next : (image : Image) (bytes : List ℕ) (gate level : ℕ) (m : Machine) → next image (plain bytes) ≡ Resumes gate level m → NextIs (next image (plain bytes)) (Some (resumption gate level)) m.bytes
comes_next image bytes gate level m e = subst (λ (x : Next). NextIs x (Some (resumption gate level)) m.bytes) (sym e) (refl, refl, refl)

pub turn_allowed : (image : Image) (bytes : List ℕ) (gate level : ℕ) (m : Machine) → IsSafe image bytes → state_of bytes ≡ reacting → next image (plain bytes) ≡ Resumes gate level m → CanTurn image m.bytes gate
turn_allowed image bytes gate level m h s e =
    let kept = goes_kept image (reaction image image.turns (plain bytes)) (goes_from image bytes (reaction image image.turns (plain bytes)) h (reacts_on image bytes s)) in
    record {
      fits = next_fits image bytes gate level m h.fits e;
      over = over_turn image (plain bytes) (resumption gate level) m.bytes (comes_next image bytes gate level m e) (right_round image image.turns (plain bytes) kept);
    }

pub turn_keeps : (image : Image) (bytes : List ℕ) (gate level : ℕ) (m j : Machine) → IsSafe image bytes → state_of bytes ≡ reacting → next image (plain bytes) ≡ Resumes gate level m → turned image gate (plain m.bytes) ≡ turns.Paused j → Fits image j.bytes → state_of j.bytes ≡ reacting → IsSafe image j.bytes
turn_keeps image bytes gate level m j h s e t f s' =
    let now = reaction image image.turns (plain bytes) in
    let later = reaction image image.turns (plain j.bytes) in
    let goes = goes_from image bytes now h (reacts_on image bytes s) in
    let came = outcome_resumed image gate level m.bytes j.bytes turn.Paused (subst (λ (x : State). Outcome x turn.Paused j.bytes) (sym t) refl) in
    let on = turn_round image (plain bytes) (resumption gate level) m.bytes j.bytes turn.Paused (comes_next image bytes gate level m e) came in
    let ms = marks_of_round (round image (plain bytes)) in
    let is : now ≡ marked_config ms later = one_on image image.turns bytes j.bytes (round image (plain bytes)) refl on (goes_kept image now goes) in
    safe_from image j.bytes later f (reacts_on image j.bytes s') (goes_unmarked image ms later (subst (GoesOn image) is goes))

pub levels_keep : (image : Image) (bytes : List ℕ) (m : Machine) → IsSafe image bytes → state_of bytes ≡ reacting → next image (plain bytes) ≡ AllClosed m → IsSafe image (with_state waiting m.bytes)
levels_keep image bytes m h s e =
    let now = reaction image image.turns (plain bytes) in
    let goes = goes_from image bytes now h (reacts_on image bytes s) in
    let end : Config = Waits (rewritten (with_state waiting m.bytes) m) in
    let is : round image (plain bytes) ≡ Over end = round_is image (plain bytes) ∙ ap (round_of image) e in
    let same : length m.bytes ≡ length bytes = subst (λ (x : Next). HasLength x (length bytes)) e (length_kept image (top_of bytes) (plain bytes) (length bytes) refl) in
    let size : length (with_state waiting m.bytes) ≡ length bytes = length-with_number 2 1 m.bytes 0 ∙ same in
    let head : state_of (with_state waiting m.bytes) ≡ waiting = number_written 2 1 m.bytes 0 (omega arith) (omega (arith, same, h.fits.size)) in
    let waits = subst (GoesOn image) (over image image.turns (plain bytes) end is (goes_kept image now goes)) goes in
    safe_from image (with_state waiting m.bytes) (Waits (plain (with_state waiting m.bytes))) (same_fits image bytes (with_state waiting m.bytes) h.fits size) (waits_on image (with_state waiting m.bytes) head)
    (goes_plain image (with_state waiting m.bytes) after.Waiting end refl refl waits)

pub command_keeps : (image : Image) (bytes : List ℕ) (x : Command) (m : Machine) → IsSafe image bytes → state_of bytes ≡ waiting → IsCommand image x → done image x (Waits (plain bytes)) ≡ Waits m → Fits image m.bytes → state_of m.bytes ≡ waiting → IsSafe image m.bytes
command_keeps image bytes x m h s ok e f s' =
    let now : Config = Waits (plain bytes) in
    let goes = goes_done image x now ok (goes_from image bytes now h (waits_on image bytes s)) in
    safe_from image m.bytes (Waits (plain m.bytes)) f (waits_on image m.bytes s') (goes_plain image m.bytes after.Waiting (Waits m) refl refl (subst (GoesOn image) e goes))

pub more_same : (image : Image) (n k : ℕ) (m : Machine) → IsKept (reaction image n m) → reaction image (n + k) m ≡ reaction image n m
more_same image n zero m h = ap (λ (i : ℕ). reaction image i m) (omega arith)
more_same image n (suc k) m h =
    let before = more_same image n k m h in
    let next : n + suc k ≡ suc (n + k) = omega arith in
    ap (λ (i : ℕ). reaction image i m) next ∙ more image (n + k) m (subst IsKept (sym before) h) ∙ before

pub more_turns : (image : Image) (n k : ℕ) (m : Machine) → reaction image n m ≢ Lost → reaction image (n + k) m ≡ reaction image n m
more_turns image n k m h = more_same image n k m (kept_of (reaction image n m) h)
