-- The gates of the memory after each one that passes a test was changed.
use Rattle.std.proofs.Common.{◌≡◌, ◌≢◌, refl, sym, ap, ◌∙◌, subst, ◌<◌, ◌≤◌, ◌⊎◌, inl, inr, ⊎_elim, ℕ, zero, suc, ◌+◌, ◌*◌, ◌-◌, ◌^◌, ℤ, pos, negsuc, List, length, Bool, true, false, arith}
use Rattle.std.specs.Prelude.{slice_index, if◌then◌else◌}
use Rattle.std.proofs.lemmas.Bool.{cases_lt}
use Rattle.ceu_code.specs.declared.image.Image.{Image}
use Rattle.ceu_code.specs.Instructions.{cell}
use Rattle.ceu_mem.specs.declared.gate.Gate.{Gate}
use Rattle.ceu_mem.specs.Bytes.{number_at}
use Rattle.ceu_mem.specs.Memory.{gate_at, with_gate, IsGate}
use Rattle.ceu_mem.proofs.Views.{number_below, number_step, number_nothing}
use Rattle.ceu_mem.proofs.Gates.{get_put_same, get_put_other, put_length, byte_elsewhere}
use Rattle.ceu_isa.specs.Layout.{gates_at, gate_of, gate_put, one_gate, if_changed, each_gate}
use Rattle.laws_machine_layout.specs.Changes.{changed}
use Rattle.laws_machine_layout.specs.Laws.{AreBytes}

-- a cell has 64 bits
pub cell_small : (v : ℤ) → cell v < 2 ^ 64
cell_small (pos n) = omega arith
cell_small (negsuc n) = omega arith

-- every gate of bytes has fields in range
pub is_gate : (b : ℕ) (bytes : List ℕ) (i : ℕ) → AreBytes bytes → IsGate (gate_at b bytes i)
is_gate b bytes i h = record {
  kind = number_below 1 bytes _ h;
  level = number_below 2 bytes _ h;
  code = number_below 2 bytes _ h;
  frame = number_below 2 bytes _ h;
  base = number_below 2 bytes _ h;
  key = number_below 2 bytes _ h;
  value = number_below 8 bytes _ h;
}

-- equal bytes hold equal numbers
pub number_agrees : (k : ℕ) (a b : List ℕ) (at : ℕ) → ((i : ℕ) → at ≤ i → i < at + k → slice_index a i ≡ slice_index b i) → number_at k a at ≡ number_at k b at
number_agrees zero a b at h = number_nothing a at ∙ sym (number_nothing b at)
number_agrees (suc k) a b at h =
    let first = h at (omega arith) (omega arith) in
    let rest = number_agrees k a b (at + 1) (λ i x y. h i (omega arith) (omega arith)) in
    number_step k a at ∙ ap (λ x. x + 256 * number_at k a (at + 1)) first ∙ ap (λ x. slice_index b at + 256 * x) rest ∙ sym (number_step k b at)

-- the first n gates are changed, and nothing else
pub record Changed (image : Image) (test : Gate → Bool) (f : Gate → Gate) (n : ℕ) (old new : List ℕ) : Type 0 where
  pub done : (g : ℕ) → g < n → gate_of image new g ≡ changed test f (gate_of image old g)
  pub left : (g : ℕ) → n ≤ g → gate_of image new g ≡ gate_of image old g
  pub outside : (i : ℕ) → (i < gates_at image) ⊎ (gates_at image + 19 * n ≤ i) → slice_index new i ≡ slice_index old i
  pub size : length new ≡ length old

at_next : {P : ℕ → Type 0} (n : ℕ) → ((g : ℕ) → g < n → P g) → P n → (g : ℕ) → g < suc n → P g
at_next {P} n below here g lt = elim (cases_lt g n) [ inl l ↦ below g l | inr ge ↦ let e : n ≡ g = omega arith in subst P e here ]

module _ (image : Image) (test : Gate → Bool) (f : Gate → Gate) (fit : (gate : Gate) → IsGate gate → IsGate (f gate)) where
  -- the next gate passes the test, or it doesn't
  one_more : (n : ℕ) (old new : List ℕ) → AreBytes old → gates_at image + 19 * suc n ≤ length old → Changed image test f n old new
      → (b : Bool) → test (gate_of image new n) ≡ b → Changed image test f (suc n) old (if_changed image f b n new)
  unfolding gate_of gate_put
  one_more n old new h room c true e =
      let gate : Gate = gate_at (gates_at image) new n in
      let same : gate_at (gates_at image) new n ≡ gate_at (gates_at image) old n = c.left n (omega arith) in
      let fits : IsGate (f (gate_at (gates_at image) new n)) = fit _ (subst IsGate (sym same) (is_gate (gates_at image) old n h)) in
      let place : gates_at image + 19 * n + 19 ≤ length new = omega (arith, c.size) in
      let after : List ℕ = with_gate (gates_at image) (f (gate_at (gates_at image) new n)) new n in
      let passes : changed test f (gate_at (gates_at image) old n) ≡ f (gate_at (gates_at image) old n) =
      ap (λ (b : Bool). if b then f (gate_at (gates_at image) old n) else gate_at (gates_at image) old n) (ap test (sym same) ∙ e) in
      record {
        done = at_next {P = λ g. gate_at (gates_at image) (with_gate (gates_at image) (f (gate_at (gates_at image) new n)) new n) g ≡ changed test f (gate_at (gates_at image) old g)} n
            (λ g lt. get_put_other (gates_at image) (f (gate_at (gates_at image) new n)) new n g (λ q. absurd (omega (arith, q))) ∙ c.done g lt)
            (get_put_same (gates_at image) (f (gate_at (gates_at image) new n)) new n fits place ∙ ap f same ∙ sym passes);
        left = λ g le. get_put_other (gates_at image) (f (gate_at (gates_at image) new n)) new n g (λ q. absurd (omega (arith, q))) ∙ c.left g (omega arith);
        outside = λ i o. byte_elsewhere (f (gate_at (gates_at image) new n)) new (gates_at image + 19 * n) i (⊎_elim (λ x. inl (omega arith)) (λ x. inr (omega arith)) o) ∙ c.outside i (⊎_elim (λ x. inl x) (λ x. inr (omega arith)) o);
        size = put_length (f (gate_at (gates_at image) new n)) new (gates_at image + 19 * n) ∙ c.size;
      }
  one_more n old new h room c false e =
      let same : gate_at (gates_at image) new n ≡ gate_at (gates_at image) old n = c.left n (omega arith) in
      let stays : changed test f (gate_at (gates_at image) old n) ≡ gate_at (gates_at image) old n =
      ap (λ (b : Bool). if b then f (gate_at (gates_at image) old n) else gate_at (gates_at image) old n) (ap test (sym same) ∙ e) in
      record {
        done = at_next {P = λ g. gate_at (gates_at image) new g ≡ changed test f (gate_at (gates_at image) old g)} n c.done (same ∙ sym stays);
        left = λ g le. c.left g (omega arith);
        outside = λ i o. c.outside i (⊎_elim (λ x. inl x) (λ x. inr (omega arith)) o);
        size = c.size;
      }

  pub each_changed : (n : ℕ) (bytes : List ℕ) → AreBytes bytes → gates_at image + 19 * n ≤ length bytes → Changed image test f n bytes (each_gate image test f n bytes)
  unfolding each_gate
  each_changed zero bytes h room = record { done = λ g lt. absurd (omega arith); left = λ g le. refl; outside = λ i o. refl; size = refl }
  each_changed (suc n) bytes h room = one_more n bytes (each_gate image test f n bytes) h room (each_changed n bytes h (omega arith)) (test (gate_of image (each_gate image test f n bytes) n)) refl
