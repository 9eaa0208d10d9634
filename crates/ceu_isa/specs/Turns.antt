-- A turn: instruction by instruction, with the aborts in it. An abort visits the gates of a range that aren't free, from the last to the first in
-- order; each becomes free, and a finalizer runs.
use Rattle.std.specs.Prelude.{ℕ, suc, zero, ◌+◌, ◌^◌, nat_lt, nat_le, ◌==◌, Bool, true, false, if◌then◌else◌, List, [], ◌∷◌, ◌++◌, Option, Some, None, slice_get}
use Rattle.ceu_base.specs.declared.kinds.Fault.{Fault}
use Rattle.ceu_base.specs.declared.kinds.Pos.{Pos}
use Rattle.ceu_base.specs.declared.kinds.Mark.{Mark}
use Rattle.ceu_base.specs.declared.kinds.Mark.TheVariants.{Ran}
use Rattle.ceu_code.specs.declared.instr.Instr.{Instr}
use Rattle.ceu_code.specs.declared.image.Image.{Image}
use Rattle.ceu_code.specs.Instructions.{size}
use Rattle.ceu_mem.specs.declared.gate.Gate.{Gate}
use Rattle.ceu_mem.specs.Bytes.{with_number}
use Rattle.ceu_isa.specs.declared.registers.Registers.{Registers}
use Rattle.ceu_isa.specs.Layout.{in_slots, with_state, faulted, with_scratch, gate_of, gate_changed, freed, forever, finalizer, is_taken, gates_from}
use Rattle.ceu_isa.specs.Fetching.{fetched}
use Rattle.ceu_isa.specs.Effects.{After, GoesOn, Frees, Fails, Effect, Wrong, Goes, Pauses, Finishes, Faults, Aborts, Leaves}
use Rattle.ceu_isa.specs.Trails.{kept}
use Rattle.ceu_isa.specs.Rows.{effect, in_finalizers}
use Rattle.ceu_isa.specs.Order.{Choice, Nowhere, Unclear, Chosen, last_of}

-- the bytes, and the marks so far
pub record Machine : Type 0 where
  pub bytes : List ℕ
  pub marks : List Mark

-- an abort that is on: its gates, what follows it, and the trail that aborts
pub record Sweep : Type 0 where
  pub from : ℕ
  pub count : ℕ
  pub after : After
  pub trail : Registers

pub data State : Type 0 where
  Stuck : State  -- something was done that isn't allowed
  Trail : Registers → Machine → State
  Sweeping : Sweep → Machine → State  -- an abort goes to its next gate
  Finalizer : Sweep → Registers → Machine → State  -- an abort runs a finalizer
  Paused : Machine → State
  Ended : Machine → State
  Faulted : Fault → Pos → Machine → State

abbrev pub changed : (bytes : List ℕ) → (marks : List Mark) → Machine → Machine
changed bytes marks m = record { bytes = bytes; marks = m.marks ++ marks }

abbrev pub rewritten : (bytes : List ℕ) → Machine → Machine
rewritten bytes m = record m { bytes = bytes }

-- ---- the instructions of a trail

-- A fault outside finalizers: the trail waits, and all gates are aborted.
abbrev pub failing : Image → Fault → Pos → Registers → Machine → State
failing image f p r m =
    if nat_lt r.own image.gates
    then Sweeping (record { from = 0; count = image.gates; after = Fails f p; trail = record r { depth = 0 } })
    (rewritten (gate_changed image (kept forever r) r.own (with_state faulted m.bytes)) m)
    else Stuck

-- r has the offset behind the instruction
abbrev pub trail_did : Image → Effect → Registers → Machine → State
trail_did image Wrong r m = Stuck
trail_did image (Goes q bytes marks) r m = Trail q (changed bytes marks m)
trail_did image (Pauses bytes marks) r m = Paused (changed bytes marks m)
trail_did image (Finishes bytes) r m = Ended (rewritten bytes m)
trail_did image (Faults f p) r m = failing image f p r m
trail_did image (Aborts from count after) r m = Sweeping (record { from = from; count = count; after = after; trail = r }) m
trail_did image Leaves r m = Stuck

abbrev pub behind : Instr → Registers → Registers
behind i r = record r { at = r.at + size i }

abbrev pub trail_does : Image → Option Instr → Registers → Machine → State
trail_does image None r m = Stuck
trail_does image (Some i) r m = trail_did image (effect image i (behind i r) m.bytes) (behind i r) m

-- ---- those of a finalizer

-- A fault inside a finalizer ends the abort; where the program had faulted already, that fault stays.
abbrev pub finalizer_failed : After → Fault → Pos → Machine → State
finalizer_failed (Fails g q) f p m = Faulted g q m
finalizer_failed GoesOn f p m = Faulted f p (rewritten (with_state faulted m.bytes) m)
finalizer_failed (Frees place) f p m = Faulted f p (rewritten (with_state faulted m.bytes) m)

abbrev pub finalizer_did : Effect → Sweep → Registers → Machine → State
finalizer_did (Goes q bytes marks) s r m = Finalizer s q (changed bytes marks m)
finalizer_did (Faults f p) s r m = finalizer_failed s.after f p m
finalizer_did Leaves s r m = Sweeping (record s { trail = record s.trail { depth = r.depth } }) m
finalizer_did _ s r m = Stuck

abbrev pub finalizer_does : Image → Option Instr → Sweep → Registers → Machine → State
finalizer_does image None s r m = Stuck
finalizer_does image (Some i) s r m = if in_finalizers i then finalizer_did (effect image i (behind i r) m.bytes) s (behind i r) m else Stuck

-- ---- the gates of an abort

abbrev pub swept : Image → After → Registers → Machine → State
swept image GoesOn r m = Trail r m
swept image (Frees place) r m = if in_slots image place 9 then Trail r (rewritten (with_number 1 0 m.bytes place) m) else Stuck
swept image (Fails f p) r m = Faulted f p m

abbrev pub at_gate : (g : ℕ) → Gate → Registers → Registers
at_gate g gate r = record { own = g; at = gate.code; frame = gate.frame; base = gate.base; depth = r.depth }

abbrev pub run_finalizer : (g : ℕ) → Gate → Option Pos → Sweep → (bytes : List ℕ) → Machine → State
run_finalizer g gate None s bytes m = Stuck
run_finalizer g gate (Some p) s bytes m = Finalizer s (at_gate g gate s.trail) (changed bytes (Ran p ∷ []) m)

abbrev pub visited : Image → (g : ℕ) → Gate → Sweep → Machine → State
visited image g gate s m =
    if gate.kind == finalizer then run_finalizer g gate (slice_get image.places gate.key) s (gate_changed image freed g m.bytes) m
    else Sweeping s (rewritten (gate_changed image freed g m.bytes) m)

abbrev pub swept_on : Image → Choice → Sweep → Machine → State
swept_on image Nowhere s m = swept image s.after s.trail m
swept_on image Unclear s m = Stuck
swept_on image (Chosen g) s m = visited image g (gate_of image m.bytes g) s m

abbrev pub next_of : Image → Sweep → Machine → Choice
next_of image s m = if nat_le (s.from + s.count) image.gates then last_of image m.bytes (gates_from image m.bytes is_taken s.from s.count) else Unclear

-- ---- steps and turns

-- one step: an instruction, or a gate of an abort
unfoldable pub tick : Image → State → State
tick image Stuck = Stuck
tick image (Trail r m) = trail_does image (fetched image r.at) r m
tick image (Sweeping s m) = swept_on image (next_of image s m) s m
tick image (Finalizer s r m) = finalizer_does image (fetched image r.at) s r m
tick image (Paused m) = Paused m
tick image (Ended m) = Ended m
tick image (Faulted f p m) = Faulted f p m

abbrev pub is_on : State → Bool
is_on (Trail r m) = true
is_on (Sweeping s m) = true
is_on (Finalizer s r m) = true
is_on _ = false

-- at most so many steps
unfoldable pub ticks : Image → ℕ → State → State
ticks image zero s = s
ticks image (suc n) s = elim (is_on s) [ true ↦ ticks image n (tick image s) | false ↦ s ]

-- a gate is chosen: it becomes free, and its trail goes on with its value in the header
abbrev pub chosen : Image → (g : ℕ) → Gate → Machine → State
chosen image g gate m =
    Trail (record { own = g; at = gate.code; frame = gate.frame; base = gate.base; depth = 0 })
    (rewritten (with_scratch gate.value (gate_changed image freed g m.bytes)) m)

abbrev pub begun : Image → (g : ℕ) → Machine → State
begun image g m = if nat_lt g image.gates then chosen image g (gate_of image m.bytes g) m else Stuck

-- no turn has more steps
unfoldable pub longest_turn : ℕ
longest_turn = 2 ^ (2 ^ 20)

-- the turn of a gate, until it pauses, ends or faults
abbrev pub turned : Image → (g : ℕ) → Machine → State
turned image g m = ticks image longest_turn (begun image g m)
