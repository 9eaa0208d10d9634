-- The passing of time, gate by gate, is that of the machine's definition.
use Rattle.std.proofs.Common.{◌≡◌, ℕ, ◌+◌, ◌-◌, eqb, Bool, true, false, List, refl, sym, ap, subst, ◌∙◌, add-one}
use Rattle.std.proofs.lemmas.Bool.{eqb-true, eq-eqb}
use Rattle.ceu_code.specs.declared.image.Image.{Image}
use Rattle.ceu_mem.specs.declared.gate.Gate.{Gate}
use Rattle.ceu_mem.specs.Memory.{Space, gate_at, with_gate}
use Rattle.ceu_isa.specs.Commands.{is_timer, sooner}
use Rattle.ceu_isa.specs.Layout as layout
use Rattle.ceu_isa.specs.Layout.{each_gate, one_gate, if_changed, gates_at}
use Rattle.ceu_timers.specs.Timers.{gate_of}

each_more : (image : Image) (d g : ℕ) (bytes : List ℕ) → one_gate image is_timer (sooner d) g (each_gate image is_timer (sooner d) g bytes) ≡ each_gate image is_timer (sooner d) (g + 1) bytes
unfolding each_gate
each_more image d g bytes = rw add-one refl

pub each_none : (image : Image) (d : ℕ) (bytes : List ℕ) → bytes ≡ each_gate image is_timer (sooner d) 0 bytes
unfolding each_gate
each_none image d bytes = refl

put_at : (image : Image) (bytes : List ℕ) (d g b : ℕ) → b ≡ gates_at image → (gate_at b bytes g).kind ≡ 3 → one_gate image is_timer (sooner d) g bytes ≡ with_gate b (record (gate_at b bytes g) { value = (gate_at b bytes g).value - d }) bytes g
unfolding layout.gate_of layout.gate_put
put_at image bytes d g b e =
    subst (λ (b : ℕ). (gate_at b bytes g).kind ≡ 3 → one_gate image is_timer (sooner d) g bytes ≡ with_gate b (record (gate_at b bytes g) { value = (gate_at b bytes g).value - d }) bytes g) (sym e)
    (λ k. ap (λ (t : Bool). if_changed image (sooner d) t g bytes) (eq-eqb (gate_at (gates_at image) bytes g).kind 3 k))

passed_by : (image : Image) (bytes : List ℕ) (d g b : ℕ) → b ≡ gates_at image → ((gate_at b bytes g).kind ≡ 3 → ⊥) → one_gate image is_timer (sooner d) g bytes ≡ bytes
unfolding layout.gate_of
passed_by image bytes d g b e ne = by (eqb (gate_at (gates_at image) bytes g).kind 3) refl
  where
    by : (t : Bool) → eqb (gate_at (gates_at image) bytes g).kind 3 ≡ t → if_changed image (sooner d) t g bytes ≡ bytes
    by true h = absurd (ne (ap (λ (b : ℕ). (gate_at b bytes g).kind) e ∙ eqb-true (gate_at (gates_at image) bytes g).kind 3 h))
    by false h = refl

-- one timer more is lowered
pub step_with : (image : Image) (mem : Space) (after old : List ℕ) (d g : ℕ) (gate : Gate) → mem.gates_at ≡ gates_at image → mem.bytes ≡ each_gate image is_timer (sooner d) g old → gate ≡ gate_of mem g → gate.kind ≡ 3
    → after ≡ with_gate mem.gates_at (record gate { value = gate.value - d }) mem.bytes g → after ≡ each_gate image is_timer (sooner d) (g + 1) old
step_with image mem after old d g gate at now is kind put =
    put ∙ ap (λ (x : Gate). with_gate mem.gates_at (record x { value = x.value - d }) mem.bytes g) is
    ∙ sym (put_at image mem.bytes d g mem.gates_at at (sym (ap (λ (x : Gate). x.kind) is) ∙ kind))
    ∙ ap (λ (b : List ℕ). one_gate image is_timer (sooner d) g b) now ∙ each_more image d g old

-- a gate that doesn't wait for time stays
pub step_without : (image : Image) (mem : Space) (old : List ℕ) (d g : ℕ) (gate : Gate) → mem.gates_at ≡ gates_at image → mem.bytes ≡ each_gate image is_timer (sooner d) g old → gate ≡ gate_of mem g → (gate.kind ≡ 3 → ⊥) → mem.bytes ≡ each_gate image is_timer (sooner d) (g + 1) old
step_without image mem old d g gate at now is ne =
    sym (passed_by image mem.bytes d g mem.gates_at at (λ k. ne (ap (λ (x : Gate). x.kind) is ∙ k)))
    ∙ ap (λ (b : List ℕ). one_gate image is_timer (sooner d) g b) now ∙ each_more image d g old
