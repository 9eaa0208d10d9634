-- Three small images that are sound: one ends at once, one waits for ever, and one waits for its input and ends.
use Rattle.std.proofs.Common.{◌≡◌, ◌≢◌, ℕ, zero, suc, ◌+◌, ◌≤◌, ◌<◌, ℤ, pos, eqb, Bool, true, false, List, [], ◌∷◌, ◌++◌, Option, Some, None, length, replicate, refl, sym, ap, ◌∙◌, subst, arith, lit≤}
use Rattle.std.specs.List.{AllByRecursion}
use Rattle.ceu_base.specs.declared.kinds.Ty.TheVariants as ty
use Rattle.ceu_base.specs.declared.kinds.Port.{Port}
use Rattle.ceu_base.specs.declared.kinds.Pos.{Pos}
use Rattle.ceu_base.specs.declared.kinds.Mark.TheVariants.{Resume}
use Rattle.ceu_code.specs.declared.image.Image.{Image}
use Rattle.ceu_code.specs.declared.image.CodeRow.{CodeRow}
use Rattle.ceu_tree.specs.declared.command.Command.{Command}
use Rattle.ceu_tree.specs.declared.command.Command.TheVariants.{Input, Advance, Idle}
use Rattle.ceu_isa.specs.Layout.{end_of, state_of, fresh, waiting, reacting}
use Rattle.ceu_isa.specs.Turns.{Machine}
use Rattle.ceu_isa.specs.Reactions.{Config, Lost, Waits, HasEnded, HasFaulted, reaction}
use Rattle.ceu_isa.specs.Commands.{booted, input_done, advanced, idle_turn, idle_turns, done, all_done, least_time}
use Rattle.ceu_isa.specs.Safety.{IsCommand, IsSound, Fits, going_on}
use Rattle.ceu_isa.proofs.Build.{computed}
use Rattle.ceu_machine.specs.States.{plain}
use Rattle.ceu_react.specs.Marking.{IsKept}
use Rattle.ceu_react.specs.Sessions.{GoesOn}
use Rattle.ceu_react.proofs.Advancing.{none_waits}
use Rattle.ceu_react.proofs.Keeping.{zeros_fresh}

-- ---- sound, if boot goes on

not_lost : (c : Config) → IsKept c → c ≢ Lost
not_lost c k e = subst IsKept e k

sound_if : (image : Image) → 2 ≤ end_of image → Fits image (replicate (end_of image) 0) → GoesOn image (booted image (plain (replicate (end_of image) 0))) → IsSound image
sound_if image two f g =
    let zeros = replicate (end_of image) 0 in
    let start = booted image (plain zeros) in
    let e : eqb (state_of zeros) fresh ≡ true = ap (λ (n : ℕ). eqb n 0) (zeros_fresh (end_of image) two) in
    let is : going_on image zeros (Waits (plain zeros)) ≡ start = ap (λ (b : Bool). elim b as (λ _. Config) [
      | true ↦ start
      | false ↦ elim (eqb (state_of zeros) waiting) as (λ _. Config) [
        | true ↦ Waits (plain zeros)
        | false ↦ elim (eqb (state_of zeros) reacting) as (λ _. Config) [ true ↦ reaction image image.turns (plain zeros) | false ↦ Waits (plain zeros) ]
      ]
    ]) e in
    record { fits = f; goes = λ xs oks. subst (λ (c : Config). all_done image xs c ≢ Lost) (sym is) (not_lost (all_done image xs start) (g xs oks)) }

-- ---- after an end nothing changes

abbrev HasStopped : Config → Type 0
HasStopped (HasEnded v m) = Unit {0}
HasStopped _ = ⊥

advance_stopped : (image : Image) (n d : ℕ) (c : Config) → HasStopped c → advanced image n d c ≡ c
unfolding advanced
advance_stopped image n d Lost h = absurd h
advance_stopped image n d (Waits m) h = absurd h
advance_stopped image n d (HasFaulted f p m) h = absurd h
advance_stopped image zero d (HasEnded v m) h = refl
advance_stopped image (suc n) d (HasEnded v m) h = refl

idle_stopped : (image : Image) (n : ℕ) (c : Config) → HasStopped c → idle_turns image n c ≡ c
unfolding idle_turns
idle_stopped image n Lost h = absurd h
idle_stopped image n (Waits m) h = absurd h
idle_stopped image n (HasFaulted f p m) h = absurd h
idle_stopped image zero (HasEnded v m) h = refl
idle_stopped image (suc n) (HasEnded v m) h = idle_stopped image n (HasEnded v m) h

input_stopped : (image : Image) (k : ℕ) (v : ℤ) (c : Config) → HasStopped c → input_done image k v c ≡ c
input_stopped image k v Lost h = absurd h
input_stopped image k v (Waits m) h = absurd h
input_stopped image k v (HasFaulted f p m) h = absurd h
input_stopped image k v (HasEnded w m) h = refl

done_stopped : (image : Image) (x : Command) (c : Config) → HasStopped c → done image x c ≡ c
unfolding done
done_stopped image (Input k v) c h = input_stopped image k v c h
done_stopped image (Advance us) c h = advance_stopped image (us + 1) us c h
done_stopped image (Idle n) c h = idle_stopped image n c h

stopped_kept : (c : Config) → HasStopped c → IsKept c
stopped_kept Lost h = h
stopped_kept (Waits m) h = tt
stopped_kept (HasEnded v m) h = tt
stopped_kept (HasFaulted f p m) h = tt

goes_stopped : (image : Image) (xs : List Command) (c : Config) → HasStopped c → IsKept (all_done image xs c)
unfolding all_done
goes_stopped image [] c h = stopped_kept c h
goes_stopped image (x ∷ xs) c h = subst (λ (k : Config). IsKept (all_done image xs k)) (sym (done_stopped image x c h)) (goes_stopped image xs c h)

-- ---- a machine that waits for ever, but that some inputs may end it

record Rests (image : Image) (m : Machine) : Type 0 where
  no_timer : least_time image m.bytes ≡ None
  idles : idle_turn image (Waits m) ≡ Waits m
  ends : (k : ℕ) (v : ℤ) → IsCommand image (Input k v) → HasStopped (input_done image k v (Waits m))

idle_rests : (image : Image) (n : ℕ) (m : Machine) → idle_turn image (Waits m) ≡ Waits m → idle_turns image n (Waits m) ≡ Waits m
unfolding idle_turns
idle_rests image zero m e = refl
idle_rests image (suc n) m e = ap (λ (c : Config). idle_turns image n c) e ∙ idle_rests image n m e

goes_rests : (image : Image) (m : Machine) → Rests image m → (xs : List Command) → AllByRecursion (IsCommand image) xs → IsKept (all_done image xs (Waits m))
unfolding all_done done
goes_rests image m r [] oks = tt
goes_rests image m r (Input k v ∷ xs) oks = goes_stopped image xs (input_done image k v (Waits m)) (r.ends k v oks.0)
goes_rests image m r (Advance us ∷ xs) oks = subst (λ (c : Config). IsKept (all_done image xs c)) (sym (none_waits image (us + 1) us us m refl r.no_timer)) (goes_rests image m r xs oks.1)
goes_rests image m r (Idle n ∷ xs) oks = subst (λ (c : Config). IsKept (all_done image xs c)) (sym (idle_rests image n m r.idles)) (goes_rests image m r xs oks.1)

-- ---- the images

abbrev image_of : (depth : ℕ) → List Port → (code : List ℕ) → Image
image_of depth inputs code = record { turns = 1; levels = 0; depth = depth; gates = 1; slots = 0; inputs = inputs; outputs = []; codes = []; pools = []; places = []; code = code }

-- escape 0;
ends_at_boot : HasStopped (booted (image_of 0 [] (14 ∷ [])) (plain (replicate 35 0)))
unfolding computed
ends_at_boot = tt

pub ends_sound : (outputs : List Port) (codes : List CodeRow) (pools : List ℕ) (places : List Pos) (inputs : List Port) (before code : List ℕ) → outputs ≡ [] → codes ≡ [] → pools ≡ [] → places ≡ [] → inputs ≡ [] → before ≡ [] → code ≡ before ++ 14 ∷ []
    → IsSound (record { turns = 1; levels = 0; depth = 0; gates = 1; slots = 0; inputs = inputs; outputs = outputs; codes = codes; pools = pools; places = places; code = code })
ends_sound outputs codes pools places inputs before code o c p q i b k =
    let whole : code ≡ 14 ∷ [] = k ∙ ap (λ (l : List ℕ). l ++ 14 ∷ []) b in
    let all : image_of 0 [] (14 ∷ []) ≡ record { turns = 1; levels = 0; depth = 0; gates = 1; slots = 0; inputs = inputs; outputs = outputs; codes = codes; pools = pools; places = places; code = code } = cc in
    subst IsSound all (sound_if (image_of 0 [] (14 ∷ [])) (omega arith) (record { size = refl; memory = lit≤ tt; code = lit≤ tt })
    (λ xs oks. goes_stopped (image_of 0 [] (14 ∷ [])) xs (booted (image_of 0 [] (14 ∷ [])) (plain (replicate 35 0))) ends_at_boot))

-- await FOREVER;
rests_at : List ℕ
rests_at =
    1 ∷ 0 ∷ 0 ∷ 0 ∷ 0 ∷ 0 ∷ 0 ∷ 0 ∷ 0 ∷ 0 ∷ 0 ∷ 0 ∷ 0 ∷ 0 ∷ 0 ∷ 0 ∷ 5 ∷ 0 ∷ 0 ∷ 1 ∷ 0 ∷ 35 ∷ 0 ∷ 0 ∷ 0 ∷ 0 ∷ 0 ∷ 0 ∷ 0 ∷ 0 ∷ 0 ∷ 0 ∷ 0 ∷ 0 ∷ 0 ∷ []

rests_machine : Machine
rests_machine = record { bytes = rests_at; marks = Resume 0 ∷ [] }

boot_rests : booted (image_of 0 [] (19 ∷ [])) (plain (replicate 35 0)) ≡ Waits rests_machine
unfolding computed rests_at rests_machine
boot_rests = refl

it_rests : Rests (image_of 0 [] (19 ∷ [])) rests_machine
unfolding computed rests_at rests_machine
it_rests = record { no_timer = refl; idles = refl; ends = λ k v ok. absurd ok }

pub rests_sound : (outputs : List Port) (codes : List CodeRow) (pools : List ℕ) (places : List Pos) (inputs : List Port) (before code : List ℕ) → outputs ≡ [] → codes ≡ [] → pools ≡ [] → places ≡ [] → inputs ≡ [] → before ≡ [] → code ≡ before ++ 19 ∷ []
    → IsSound (record { turns = 1; levels = 0; depth = 0; gates = 1; slots = 0; inputs = inputs; outputs = outputs; codes = codes; pools = pools; places = places; code = code })
rests_sound outputs codes pools places inputs before code o c p q i b k =
    let whole : code ≡ 19 ∷ [] = k ∙ ap (λ (l : List ℕ). l ++ 19 ∷ []) b in
    let all : image_of 0 [] (19 ∷ []) ≡ record { turns = 1; levels = 0; depth = 0; gates = 1; slots = 0; inputs = inputs; outputs = outputs; codes = codes; pools = pools; places = places; code = code } = cc in
    subst IsSound all (sound_if (image_of 0 [] (19 ∷ [])) (omega arith) (record { size = refl; memory = lit≤ tt; code = lit≤ tt })
    (λ xs oks. subst (λ (c : Config). IsKept (all_done (image_of 0 [] (19 ∷ [])) xs c)) (sym boot_rests) (goes_rests (image_of 0 [] (19 ∷ [])) rests_machine it_rests xs oks)))
