-- What is written in the memory are bytes.
use Rattle.std.proofs.Common.{sym, subst, ◌<◌, ℕ, zero, suc, ◌+◌, ◌/◌, ◌%◌, List, [], ◌∷◌, arith}
use Rattle.std.specs.Prelude.{slice_set}
use Rattle.ceu_mem.specs.declared.gate.Gate.{Gate}
use Rattle.ceu_mem.specs.Bytes.{with_number}
use Rattle.ceu_mem.specs.Memory.{with_gate}
use Rattle.ceu_mem.proofs.Views.{with_number_step, with_number_nothing}
use Rattle.ceu_code.specs.declared.image.Image.{Image}
use Rattle.ceu_isa.specs.Layout.{gates_at, gate_put, gate_changed, gate_of}
use Rattle.laws_machine_layout.specs.Laws.{AreBytes}

set_byte : (bytes : List ℕ) (at v : ℕ) → v < 256 → AreBytes bytes → AreBytes (slice_set bytes at v)
set_byte [] at v lt h i = h i
set_byte (b ∷ bytes) zero v lt h zero = lt
set_byte (b ∷ bytes) zero v lt h (suc i) = h (suc i)
set_byte (b ∷ bytes) (suc at) v lt h zero = h zero
set_byte (b ∷ bytes) (suc at) v lt h (suc i) = set_byte bytes at v lt (λ j. h (suc j)) i

pub number_bytes : (k n : ℕ) (bytes : List ℕ) (at : ℕ) → AreBytes bytes → AreBytes (with_number k n bytes at)
number_bytes zero n bytes at h = subst AreBytes (sym (with_number_nothing n bytes at)) h
number_bytes (suc k) n bytes at h =
    subst AreBytes (sym (with_number_step k n bytes at)) (number_bytes k (n / 256) (slice_set bytes at (n % 256)) (at + 1) (set_byte bytes at (n % 256) (omega arith) h))

pub gate_bytes : (b : ℕ) (gate : Gate) (bytes : List ℕ) (i : ℕ) → AreBytes bytes → AreBytes (with_gate b gate bytes i)
gate_bytes b gate bytes i h =
    number_bytes 8 _ _ _ (number_bytes 2 _ _ _ (number_bytes 2 _ _ _ (number_bytes 2 _ _ _ (number_bytes 2 _ _ _ (number_bytes 2 _ _ _ (number_bytes 1 _ _ _ h))))))

pub changed_bytes : (image : Image) (f : Gate → Gate) (g : ℕ) (bytes : List ℕ) → AreBytes bytes → AreBytes (gate_changed image f g bytes)
unfolding gate_put
changed_bytes image f g bytes h = gate_bytes (gates_at image) (f (gate_of image bytes g)) bytes g h
