-- How a turn came out.
use Rattle.std.specs.Prelude.{◌≡◌, ℕ, Bool, true, false, List, []}
use Rattle.ceu_base.specs.declared.kinds.Mark.{Mark}
use Rattle.ceu_code.specs.declared.image.Image.{Image}
use Rattle.ceu_mem.specs.Memory.{Space}
use Rattle.ceu_isa.specs.Turns as turns
use Rattle.ceu_isa.specs.Safety.{CanTurn}
use Rattle.ceu_isa.specs.Layout.{gates_at}
use Rattle.ceu_machine.specs.declared.state.State as program
use Rattle.ceu_machine.specs.declared.state.State.TheVariants as state
use Rattle.ceu_machine.specs.declared.turning.Turned.{Turned}
use Rattle.ceu_machine.specs.declared.turning.Turned.TheVariants.{Paused, Ended, Faulted}

-- The memory is a machine's of the image, and the turn of this gate does nothing that isn't allowed, and ends.
pub record IsReady (image : Image) (mem : Space) (gate : ℕ) : Type 0 where
  pub gates : mem.gates_at ≡ gates_at image
  pub turn : CanTurn image mem.bytes gate

-- a turn is on
abbrev pub is_on : program.State → Bool
is_on (state.Trail r) = true
is_on (state.Sweeping s) = true
is_on (state.Finalizer s r) = true
is_on state.Paused = false
is_on state.Ended = false
is_on (state.Faulted f p) = false

-- the definition's outcome of a turn is this one, with these bytes
abbrev pub Outcome : turns.State → Turned → List ℕ → Type 0
Outcome (turns.Paused m) Paused bytes = m.bytes ≡ bytes
Outcome (turns.Ended m) Ended bytes = m.bytes ≡ bytes
Outcome (turns.Faulted f p m) (Faulted g q) bytes = (f ≡ g) × (p ≡ q) × (m.bytes ≡ bytes)
Outcome _ _ bytes = ⊥

-- the marks of a turn
abbrev pub marks_in : turns.State → List Mark
marks_in turns.Stuck = []
marks_in (turns.Trail r m) = m.marks
marks_in (turns.Sweeping s m) = m.marks
marks_in (turns.Finalizer s r m) = m.marks
marks_in (turns.Paused m) = m.marks
marks_in (turns.Ended m) = m.marks
marks_in (turns.Faulted f p m) = m.marks

abbrev pub outcome_of : program.State → Turned
outcome_of (state.Faulted f p) = Faulted f p
outcome_of state.Ended = Ended
outcome_of _ = Paused
