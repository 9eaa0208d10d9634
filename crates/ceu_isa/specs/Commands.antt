-- Boot, inputs, the clock, idle turns, and runs over a list of commands.
use Rattle.std.specs.Prelude.{ℕ, suc, zero, ◌+◌, ◌-◌, ℤ, nat_lt, nat_le, ◌==◌, Bool, true, false, ◌&&◌, if◌then◌else◌, min, List, [], ◌∷◌, replicate, Option, Some, None}
use Rattle.ceu_base.specs.declared.kinds.Mark.{Mark}
use Rattle.ceu_code.specs.declared.image.Image.{Image}
use Rattle.ceu_code.specs.Instructions.{cell}
use Rattle.ceu_mem.specs.declared.gate.Gate.{Gate}
use Rattle.ceu_tree.specs.declared.command.Command.{Command}
use Rattle.ceu_tree.specs.declared.command.Command.TheVariants.{Input, Advance, Idle}
use Rattle.ceu_isa.specs.Layout.{slots_at, end_of, gate_of, gate_changed, each_gate, gates_from, can_run, on_input, on_time, served, unserved, is_unserved}
use Rattle.ceu_isa.specs.Order.{Choice, Nowhere, Unclear, Chosen, first_of}
use Rattle.ceu_isa.specs.Turns.{Machine, rewritten, State, Paused, Ended, Faulted, turned}
use Rattle.ceu_isa.specs.Reactions.{Config, Lost, Waits, HasEnded, HasFaulted, reacts, value_of_end}

-- ---- boot

abbrev pub program_start : Image → Gate → Gate
program_start image gate = record gate { kind = can_run; level = 0; code = 0; frame = slots_at image; base = 0 }

abbrev pub booted : Image → Machine → Config
booted image m = if nat_lt 0 image.gates then reacts image (rewritten (gate_changed image (program_start image) 0 m.bytes) m) else Lost

-- ---- an input

abbrev pub waits_for_input : (input : ℕ) → Gate → Bool
waits_for_input k gate = (gate.kind == on_input) && (gate.key == k)

-- woken at level 0 with a value
abbrev pub woken_with : (value : ℕ) → Gate → Gate
woken_with value gate = record gate { kind = can_run; level = 0; value = value }

abbrev pub input_given : Image → (input : ℕ) → ℤ → Machine → Machine
input_given image k v m = rewritten (each_gate image (waits_for_input k) (woken_with (cell v)) image.gates m.bytes) m

-- ---- the clock

abbrev pub is_timer : Gate → Bool
is_timer gate = gate.kind == on_time

abbrev pub sooner : (d : ℕ) → Gate → Gate
sooner d gate = record gate { value = gate.value - d }

-- d microseconds later
abbrev pub time_passed : Image → (d : ℕ) → Machine → Machine
time_passed image d m = rewritten (each_gate image is_timer (sooner d) image.gates m.bytes) m

abbrev pub is_due : Gate → Bool
is_due gate = is_timer gate && (gate.value == 0)

-- the timers that are due wake with the delay
abbrev pub timers_woken : Image → (delay : ℕ) → Machine → Machine
timers_woken image delay m = rewritten (each_gate image is_due (woken_with (min delay 2147483647)) image.gates m.bytes) m

abbrev pub least_of : Image → List ℕ → List ℕ → Option ℕ
least_of image bytes [] = None
least_of image bytes (g ∷ gs) = elim (least_of image bytes gs) [
  | None ↦ Some (gate_of image bytes g).value
  | Some time ↦ Some (min (gate_of image bytes g).value time)
]

-- the least of the remaining times
abbrev pub least_time : Image → List ℕ → Option ℕ
least_time image bytes = least_of image bytes (gates_from image bytes is_timer 0 image.gates)

-- the timers that come first are served first, in at most n reactions
unfoldable pub advanced : Image → (n d : ℕ) → Config → Config
advanced image zero d c = c
advanced image (suc n) d (Waits m) = elim (least_time image m.bytes) [
  | None ↦ Waits m
  | Some time ↦ elim (nat_le time d) [
    | true ↦ advanced image n (d - time) (reacts image (timers_woken image (d - time) (time_passed image time m)))
    | false ↦ Waits (time_passed image d m)
  ]
]
advanced image (suc n) d Lost = Lost
advanced image (suc n) d (HasEnded v m) = HasEnded v m
advanced image (suc n) d (HasFaulted f p m) = HasFaulted f p m

-- ---- idle turns

abbrev pub first_unserved : Image → List ℕ → Choice
first_unserved image bytes = first_of image bytes (gates_from image bytes is_unserved 0 image.gates)

abbrev pub is_served : Gate → Bool
is_served gate = gate.kind == served

abbrev pub served_again : Gate → Gate
served_again gate = record gate { kind = unserved }

-- a new round: each async is to be served
abbrev pub round_begun : Image → Machine → Machine
round_begun image m = rewritten (each_gate image is_served served_again image.gates m.bytes) m

-- the reaction that follows at once; it does nothing where the async hasn't ended
abbrev pub after_serving : Image → State → Config
after_serving image (Paused m) = reacts image m
after_serving image (Ended m) = HasEnded (value_of_end m) m
after_serving image (Faulted f p m) = HasFaulted f p m
after_serving image _ = Lost

abbrev pub serve : Image → Choice → Machine → Config
serve image Nowhere m = Waits m
serve image Unclear m = Lost
serve image (Chosen g) m = after_serving image (turned image g m)

abbrev pub serve_in_new_round : Image → Machine → Config
serve_in_new_round image m = serve image (first_unserved image m.bytes) m

-- the first async that wasn't served in this round; where all were, a new round begins
abbrev pub idle_turn : Image → Config → Config
idle_turn image (Waits m) = elim (first_unserved image m.bytes) [
  | Nowhere ↦ serve_in_new_round image (round_begun image m)
  | Unclear ↦ Lost
  | Chosen g ↦ serve image (Chosen g) m
]
idle_turn image c = c

unfoldable pub idle_turns : Image → (turns : ℕ) → Config → Config
idle_turns image zero c = c
idle_turns image (suc n) c = idle_turns image n (idle_turn image c)

-- ---- commands

abbrev pub input_done : Image → (input : ℕ) → ℤ → Config → Config
input_done image k v (Waits m) = reacts image (input_given image k v m)
input_done image k v c = c

-- after an end or a fault a command changes nothing
unfoldable pub done : Image → Command → Config → Config
done image (Input k v) c = input_done image k v c
done image (Advance us) c = advanced image (us + 1) us c
done image (Idle n) c = idle_turns image n c

unfoldable pub all_done : Image → List Command → Config → Config
all_done image [] c = c
all_done image (x ∷ xs) c = all_done image xs (done image x c)

-- ---- runs

abbrev pub blank : Image → Machine
blank image = record { bytes = replicate (end_of image) 0; marks = [] }

-- boot, and then the commands in order
unfoldable pub run : Image → List Command → Config
run image xs = all_done image xs (booted image (blank image))

abbrev pub marks_of : Config → List Mark
marks_of Lost = []
marks_of (Waits m) = m.marks
marks_of (HasEnded v m) = m.marks
marks_of (HasFaulted f p m) = m.marks

abbrev pub bytes_of : Config → List ℕ
bytes_of Lost = []
bytes_of (Waits m) = m.bytes
bytes_of (HasEnded v m) = m.bytes
bytes_of (HasFaulted f p m) = m.bytes
