-- What the rows of the machine keep, and what an effect that is allowed says.
use Rattle.std.specs.Prelude.{◌≡◌, ℕ, Bool, true, false, List, [], Result, Ok, Err}
use Rattle.ceu_base.specs.declared.kinds.Fault.{Fault}
use Rattle.ceu_base.specs.declared.kinds.Pos.{Pos}
use Rattle.ceu_code.specs.declared.image.Image.{Image}
use Rattle.ceu_mem.specs.Memory.{Space}
use Rattle.ceu_isa.specs.declared.registers.Registers.{Registers}
use Rattle.ceu_isa.specs.Layout.{gates_at}
use Rattle.ceu_isa.specs.Safety.{Fits}
use Rattle.ceu_isa.specs.Effects.{Effect, Wrong, Goes, Pauses, Faults}

-- the memory is one of a machine of the image
pub record IsMachine (image : Image) (mem : Space) : Type 0 where
  pub gates : mem.gates_at ≡ gates_at image
  pub fits : Fits image mem.bytes

-- the instruction is allowed
abbrev pub IsRight : Effect → Type 0
IsRight Wrong = ⊥
IsRight _ = Unit {0}

-- An instruction after which the trail goes on with these registers and bytes, or whose fault this is; then the bytes are as they were.
abbrev pub GoesOrFaults : Effect → Result Unit (Fault × Pos) → Registers → (old new : List ℕ) → Type 0
GoesOrFaults e (Ok _) r old new = e ≡ Goes r new []
GoesOrFaults e (Err f) r old new = (e ≡ Faults f.0 f.1) × (new ≡ old)

-- An instruction after which the trail goes on, or the turn ends.
abbrev pub GoesOrPauses : Effect → Bool → Registers → List ℕ → Type 0
GoesOrPauses e true r bytes = e ≡ Goes r bytes []
GoesOrPauses e false r bytes = e ≡ Pauses bytes []
