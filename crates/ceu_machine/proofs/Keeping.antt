-- A write keeps the length of the memory, and so the memory stays one of its image.
use Rattle.std.proofs.Common.{◌≡◌, ℕ, ◌+◌, ◌*◌, ℤ, length, ◌∙◌, ap}
use Rattle.ceu_base.specs.declared.kinds.Ty.{Ty}
use Rattle.ceu_code.specs.declared.image.Image.{Image}
use Rattle.ceu_mem.specs.declared.gate.Gate.{Gate}
use Rattle.ceu_mem.specs.Bytes.{with_number}
use Rattle.ceu_mem.specs.Memory.{Space, with_value, with_gate, size}
use Rattle.ceu_mem.proofs.Views.{length-with_number}
use Rattle.ceu_mem.proofs.Gates.{put_length}
use Rattle.ceu_machine.specs.Holding.{IsMachine}

pub kept : (image : Image) (old new : Space) → IsMachine image old → length new.bytes ≡ length old.bytes → new.gates_at ≡ old.gates_at → IsMachine image new
kept image old new m l g = record { gates = g ∙ m.gates; fits = record { size = l ∙ m.fits.size; memory = m.fits.memory; code = m.fits.code } }

pub number_kept : (image : Image) (old new : Space) (k n at : ℕ) → IsMachine image old → new.bytes ≡ with_number k n old.bytes at → new.gates_at ≡ old.gates_at → IsMachine image new
number_kept image old new k n at m b g = kept image old new m (ap length b ∙ length-with_number k n old.bytes at) g

pub value_kept : (image : Image) (old new : Space) (t : Ty) (v : ℤ) (at : ℕ) → IsMachine image old → new.bytes ≡ with_value t v old.bytes at → new.gates_at ≡ old.gates_at → IsMachine image new
value_kept image old new t v at m b g = kept image old new m (ap length b ∙ length-with_number (size t) _ old.bytes at) g

pub gate_kept : (image : Image) (old new : Space) (b i : ℕ) (gate : Gate) → IsMachine image old → new.bytes ≡ with_gate b gate old.bytes i → new.gates_at ≡ old.gates_at → IsMachine image new
gate_kept image old new b i gate m e g = kept image old new m (ap length e ∙ put_length gate old.bytes (b + 19 * i)) g
