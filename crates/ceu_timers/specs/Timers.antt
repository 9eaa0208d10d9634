-- The timers of a memory: the gates that wait for time, each with the time that remains.
use Rattle.std.specs.Prelude.{◌≡◌, ℕ, ◌+◌, ◌-◌, ◌*◌, ◌<◌, ◌≤◌, ◌⊎◌, Bool, ◌==◌, nat_le, if◌then◌else◌, Option, Some, None, length, slice_index}
use Rattle.ceu_code.specs.declared.image.Image.{Image}
use Rattle.ceu_mem.specs.declared.gate.Gate.{Gate}
use Rattle.ceu_mem.specs.Memory.{Space, gate_at}

-- the memory was made for an image with this image's depth, gates and slots
pub record IsMemoryOf (mem : Space) (image : Image) : Type 0 where
  pub gates : mem.gates_at ≡ 16 + 8 * image.depth
  pub size : length mem.bytes ≡ 16 + 8 * image.depth + 19 * image.gates + image.slots

abbrev pub gate_of : Space → ℕ → Gate
gate_of mem g = gate_at mem.gates_at mem.bytes g

abbrev pub IsTimer : Gate → Type 0
IsTimer gate = gate.kind ≡ 3

-- none of the first n gates waits for time
abbrev pub NoTimer : Space → ℕ → Type 0
NoTimer mem n = (g : ℕ) → g < n → IsTimer (gate_of mem g) → ⊥

-- no timer among the first n gates has less time left
abbrev pub AtMostLeast : Space → ℕ → ℕ → Type 0
AtMostLeast mem n time = (g : ℕ) → g < n → IsTimer (gate_of mem g) → time ≤ (gate_of mem g).value

-- the least time of a timer among the first n gates
pub record IsLeast (mem : Space) (n time : ℕ) : Type 0 where
  pub gate : ℕ
  pub among : gate < n
  pub timer : IsTimer (gate_of mem gate)
  pub time_is : (gate_of mem gate).value ≡ time
  pub least : AtMostLeast mem n time

-- the lesser of a time that was found and a timer's
abbrev pub lesser_of : Option ℕ → ℕ → Option ℕ
lesser_of None time = Some time
lesser_of (Some found) time = Some (if nat_le found time then found else time)

abbrev pub lesser : Option ℕ → Gate → Option ℕ
lesser found gate = if gate.kind == 3 then lesser_of found gate.value else found

-- a gate after a time: a timer has so much less left, and any other is as it was
abbrev pub later : ℕ → Gate → Gate
later d gate = if gate.kind == 3 then record gate { value = gate.value - d } else gate

-- the time passed for each of the first n gates, and every byte outside these gates stayed
pub record TimePassed (old new : Space) (n d : ℕ) : Type 0 where
  pub gates : (g : ℕ) → g < n → gate_of new g ≡ later d (gate_of old g)
  pub outside : (i : ℕ) → (i < old.gates_at) ⊎ (old.gates_at + 19 * n ≤ i) → slice_index new.bytes i ≡ slice_index old.bytes i
  pub size : length new.bytes ≡ length old.bytes
  pub place : new.gates_at ≡ old.gates_at
