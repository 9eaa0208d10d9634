-- Where the parts of the machine's memory lie (this project's own): a header of 16 bytes, the evaluation cells, the gates, and the slots.
use Rattle.std.specs.Prelude.{ℕ, suc, zero, ◌+◌, ◌*◌, ◌==◌, nat_le, Bool, true, false, ◌&&◌, not, List, [], ◌∷◌}
use Rattle.ceu_code.specs.declared.image.Image.{Image}
use Rattle.ceu_mem.specs.declared.gate.Gate.{Gate}
use Rattle.ceu_mem.specs.Bytes.{number_at, with_number}
use Rattle.ceu_mem.specs.Memory.{gate_at, with_gate}

-- ---- the header

-- the state: fresh, waiting, reacting, ended, faulted
abbrev pub fresh : ℕ
fresh = 0

abbrev pub waiting : ℕ
waiting = 1

abbrev pub reacting : ℕ
reacting = 2

abbrev pub ended : ℕ
ended = 3

abbrev pub faulted : ℕ
faulted = 4

abbrev pub state_of : List ℕ → ℕ
state_of bytes = number_at 2 bytes 0

abbrev pub with_state : ℕ → List ℕ → List ℕ
with_state state bytes = with_number 2 state bytes 0

-- the top level
abbrev pub top_of : List ℕ → ℕ
top_of bytes = number_at 2 bytes 2

abbrev pub with_top : ℕ → List ℕ → List ℕ
with_top level bytes = with_number 2 level bytes 2

-- how many spawn numbers were given
abbrev pub given_of : List ℕ → ℕ
given_of bytes = number_at 4 bytes 4

abbrev pub with_given : ℕ → List ℕ → List ℕ
with_given number bytes = with_number 4 number bytes 4

-- the header's value, modulo 2^64
abbrev pub scratch_at : ℕ
scratch_at = 8

abbrev pub with_scratch : ℕ → List ℕ → List ℕ
with_scratch value bytes = with_number 8 value bytes scratch_at

-- ---- cells, gates and slots

-- the address of an evaluation cell
abbrev pub cell_at : ℕ → ℕ
cell_at i = 16 + 8 * i

abbrev pub gates_at : Image → ℕ
gates_at image = 16 + 8 * image.depth

-- where the program's frame begins
abbrev pub slots_at : Image → ℕ
slots_at image = 16 + 8 * image.depth + 19 * image.gates

abbrev pub end_of : Image → ℕ
end_of image = 16 + 8 * image.depth + 19 * image.gates + image.slots

-- so many bytes from an address on are slots
abbrev pub in_slots : Image → (at size : ℕ) → Bool
in_slots image at size = nat_le (slots_at image) at && nat_le (at + size) (end_of image)

unfoldable pub gate_of : Image → List ℕ → ℕ → Gate
gate_of image bytes g = gate_at (gates_at image) bytes g

unfoldable pub gate_put : Image → Gate → ℕ → List ℕ → List ℕ
gate_put image gate g bytes = with_gate (gates_at image) gate bytes g

-- a gate with what f makes of it
abbrev pub gate_changed : Image → (Gate → Gate) → ℕ → List ℕ → List ℕ
gate_changed image f g bytes = gate_put image (f (gate_of image bytes g)) g bytes

-- ---- the kinds of gates

abbrev pub free : ℕ
free = 0

abbrev pub can_run : ℕ
can_run = 1

abbrev pub on_input : ℕ
on_input = 2

abbrev pub on_time : ℕ
on_time = 3

abbrev pub on_event : ℕ
on_event = 4

abbrev pub forever : ℕ
forever = 5

abbrev pub unserved : ℕ
unserved = 6

abbrev pub served : ℕ
served = 7

abbrev pub finalizer : ℕ
finalizer = 8

abbrev pub is_taken : Gate → Bool
is_taken gate = not (gate.kind == free)

abbrev pub runs_at : ℕ → Gate → Bool
runs_at level gate = (gate.kind == can_run) && (gate.level == level)

abbrev pub is_unserved : Gate → Bool
is_unserved gate = gate.kind == unserved

abbrev pub freed : Gate → Gate
freed gate = record gate { kind = free }

-- ---- many gates

abbrev pub if_changed : Image → (Gate → Gate) → Bool → ℕ → List ℕ → List ℕ
if_changed image f true g bytes = gate_changed image f g bytes
if_changed image f false g bytes = bytes

abbrev pub one_gate : Image → (Gate → Bool) → (Gate → Gate) → ℕ → List ℕ → List ℕ
one_gate image test f g bytes = if_changed image f (test (gate_of image bytes g)) g bytes

-- those of the first n gates that pass a test, with what f makes of them
unfoldable pub each_gate : Image → (Gate → Bool) → (Gate → Gate) → ℕ → List ℕ → List ℕ
each_gate image test f zero bytes = bytes
each_gate image test f (suc n) bytes = one_gate image test f n (each_gate image test f n bytes)

-- those of the n gates from one on that pass a test, the lowest first
unfoldable pub gates_from : Image → List ℕ → (Gate → Bool) → (from n : ℕ) → List ℕ
gates_from image bytes test from zero = []
gates_from image bytes test from (suc n) = elim (test (gate_of image bytes from)) [
  | true ↦ from ∷ gates_from image bytes test (suc from) n
  | false ↦ gates_from image bytes test (suc from) n
]
