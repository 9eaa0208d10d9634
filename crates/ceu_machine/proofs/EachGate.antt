-- Gates one after the other.
use Rattle.std.proofs.Common.{◌≡◌, ℕ, ◌+◌, Bool, List, refl, add-one}
use Rattle.ceu_code.specs.declared.image.Image.{Image}
use Rattle.ceu_mem.specs.declared.gate.Gate.{Gate}
use Rattle.ceu_isa.specs.Layout.{each_gate, one_gate}

pub each_gate_none : (image : Image) (test : Gate → Bool) (f : Gate → Gate) (bytes : List ℕ) → each_gate image test f 0 bytes ≡ bytes
unfolding each_gate
each_gate_none image test f bytes = refl

pub each_gate_more : (image : Image) (test : Gate → Bool) (f : Gate → Gate) (n : ℕ) (bytes : List ℕ) → one_gate image test f n (each_gate image test f n bytes) ≡ each_gate image test f (n + 1) bytes
unfolding each_gate
each_gate_more image test f n bytes = rw add-one refl
