-- What is seen of the machine's memory: its gates, and the numbers that lie in its slots.
use Rattle.std.specs.Prelude.{◌≡◌, ℕ, ◌<◌, ◌≤◌, nat_lt, List, if◌then◌else◌}
use Rattle.ceu_code.specs.declared.image.Image.{Image}
use Rattle.ceu_mem.specs.declared.gate.Gate.{Gate}
use Rattle.ceu_mem.specs.Bytes.{number_at}
use Rattle.ceu_isa.specs.Layout.{in_slots, gate_of, free}

pub record View : Type 0 where
  pub gate : (g : ℕ) → Gate
  pub number : (size at : ℕ) → ℕ

-- what lies outside the slots isn't seen as a number
abbrev pub slot_number : Image → List ℕ → (size at : ℕ) → ℕ
slot_number image bytes size at = if in_slots image at size then number_at size bytes at else 0

-- behind the image's gates there are none but free ones
abbrev pub no_gate : Gate
no_gate = record { kind = free; level = 0; code = 0; frame = 0; base = 0; key = 0; value = 0 }

abbrev pub gate_seen : Image → List ℕ → (g : ℕ) → Gate
gate_seen image bytes g = if nat_lt g image.gates then gate_of image bytes g else no_gate

abbrev pub view : Image → List ℕ → View
view image bytes = record { gate = gate_seen image bytes; number = slot_number image bytes }

-- the gates from one up to another are free
pub record Free (v : View) (low high : ℕ) : Type 0 where
  pub free_at : (g : ℕ) → low ≤ g → g < high → (v.gate g).kind ≡ free

-- Where an open body lies: the address of its frame, and the gate from which its gates are counted.
pub record Home : Type 0 where
  pub frame : ℕ
  pub base : ℕ

-- A gate keeps a trail of a body: of what kind it is, and where in the code the trail goes on.
pub record Keeps (home : Home) (kind code : ℕ) (gate : Gate) : Type 0 where
  pub kind_is : gate.kind ≡ kind
  pub code_is : gate.code ≡ code
  pub frame_is : gate.frame ≡ home.frame
  pub base_is : gate.base ≡ home.base
