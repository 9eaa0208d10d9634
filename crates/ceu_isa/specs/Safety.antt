-- Which images and memories are safe: from these bytes on, and for every further list of commands, the machine does nothing that isn't allowed.
use Rattle.std.specs.Prelude.{◌≡◌, ◌≢◌, ℕ, ◌^◌, ◌≤◌, ◌<◌, ◌==◌, ℤ, true, false, List, [], replicate, Option, Some, None, slice_get, length}
use Rattle.std.specs.List.{AllByRecursion}
use Rattle.ceu_base.specs.declared.kinds.Port.{Port}
use Rattle.ceu_base.specs.Values.{IsValue}
use Rattle.ceu_code.specs.declared.image.Image.{Image}
use Rattle.ceu_tree.specs.declared.command.Command.{Command}
use Rattle.ceu_tree.specs.declared.command.Command.TheVariants.{Input, Advance, Idle}
use Rattle.ceu_isa.specs.Layout.{end_of, state_of, fresh, waiting, reacting}
use Rattle.ceu_isa.specs.Turns.{Machine, State, Paused, Ended, Faulted, turned}
use Rattle.ceu_isa.specs.Reactions.{Config, Lost, Waits, reaction}
use Rattle.ceu_isa.specs.Commands.{booted, all_done}

-- ---- commands of an image

-- an input of the image has this number, and the value is one of its type
abbrev pub IsInput : Option Port → ℤ → Type 0
IsInput None v = ⊥
IsInput (Some port) v = IsValue port.ty v

abbrev pub IsCommand : Image → Command → Type 0
IsCommand image (Input k v) = IsInput (slice_get image.inputs k) v
IsCommand image (Advance us) = us < 2 ^ 63
IsCommand image (Idle n) = (1 ≤ n) × (n < 2 ^ 32)

-- ---- what goes on from some bytes

-- An ended or faulted machine goes on with nothing.
abbrev pub going_on : Image → List ℕ → Config → Config
going_on image bytes rest =
    let m : Machine = record { bytes = bytes; marks = [] } in
    elim (state_of bytes == fresh) [
      | true ↦ booted image m
      | false ↦ elim (state_of bytes == waiting) [
        | true ↦ Waits m
        | false ↦ elim (state_of bytes == reacting) [ true ↦ reaction image image.turns m | false ↦ rest ]
      ]
    ]

-- the commands in order, from a machine that is fresh, waits or reacts
abbrev pub goes_on : Image → List ℕ → List Command → Config
goes_on image bytes xs = all_done image xs (going_on image bytes (Waits (record { bytes = bytes; marks = [] })))

abbrev pub CanGoOn : Image → List ℕ → Type 0
CanGoOn image bytes = (xs : List Command) → AllByRecursion (IsCommand image) xs → goes_on image bytes xs ≢ Lost

-- the bytes are those of a machine of the image, and all addresses and code offsets are numbers of 16 bits
pub record Fits (image : Image) (bytes : List ℕ) : Type 0 where
  pub size : length bytes ≡ end_of image
  pub memory : end_of image ≤ 65535
  pub code : length image.code ≤ 65535

pub record IsSafe (image : Image) (bytes : List ℕ) : Type 0 where
  pub fits : Fits image bytes
  pub goes : CanGoOn image bytes

-- a machine that hasn't begun is safe
abbrev pub IsSound : Image → Type 0
IsSound image = IsSafe image (replicate (end_of image) 0)

-- ---- one turn

-- a turn that is over
abbrev pub IsOver : State → Type 0
IsOver (Paused m) = Unit {0}
IsOver (Ended m) = Unit {0}
IsOver (Faulted f p m) = Unit {0}
IsOver _ = ⊥

-- the turn of a gate does nothing that isn't allowed, and ends
pub record CanTurn (image : Image) (bytes : List ℕ) (gate : ℕ) : Type 0 where
  pub fits : Fits image bytes
  pub over : IsOver (turned image gate (record { bytes = bytes; marks = [] }))
