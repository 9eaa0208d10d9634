-- The count of an object's faults. It never falls, and stays at its last value once it is reached.
use Rattle.std.specs.Prelude.{◌≡◌, ◌⊎◌, ℕ, ◌<◌, ◌≤◌, Result, Ok, Err}
use Rattle.ceu_io.specs.declared.outside.Failed.{Failed}

-- the last value, 2^64 - 1
abbrev pub last_count : ℕ
last_count = 18446744073709551615

-- The count rose in a call; one that stood at its last value when the call began counts as risen.
abbrev pub Rose : ℕ → ℕ → Type 0
Rose before now = (before < now) ⊎ (last_count ≤ before)

-- No fault came in a call, and none could have come unseen.
abbrev pub Quiet : ℕ → ℕ → Type 0
Quiet before now = (now ≡ before) × (before < last_count)

-- What an answer says of the count: `Failed` comes only where it rose, and every other answer leaves it.
abbrev pub HasCause : {T : Type 0} → ℕ → ℕ → Result T Failed → Type 0
HasCause before now (Ok x) = now ≡ before
HasCause before now (Err e) = (before ≤ now) × Rose before now
