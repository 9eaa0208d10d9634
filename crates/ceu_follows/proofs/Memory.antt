-- The memory when a trail begins its turn: its gate is free then and the header has the gate's value; the rest is as it was. And what a gate that is put and a
-- number that is written in the header leave as it was.
use Rattle.std.proofs.Common.{◌≡◌, ◌≢◌, refl, sym, ap, ◌∙◌, subst, ◌<◌, ◌≤◌, inl, inr, ℕ, zero, suc, ◌+◌, ◌*◌, ◌/◌, ◌%◌, Bool, true, false, List, [], ◌∷◌, arith}
use Rattle.std.specs.Prelude.{slice_set, nat_le, if◌then◌else◌, ◌&&◌}
use Rattle.std.proofs.lemmas.Bool.{lt-ltb, leb-true}
use Rattle.ceu_code.specs.declared.image.Image.{Image}
use Rattle.ceu_mem.specs.declared.gate.Gate.{Gate}
use Rattle.ceu_mem.specs.Bytes.{number_at, with_number}
use Rattle.ceu_mem.specs.Memory.{with_gate, IsGate}
use Rattle.ceu_mem.proofs.Views.{length-with_number, number_outside, with_number_step, with_number_nothing}
use Rattle.ceu_mem.proofs.Gates.{get_put_same, get_put_other, put_length, put_out}
use Rattle.ceu_isa.specs.Layout.{gates_at, slots_at, end_of, gate_of, gate_put, free}
use Rattle.ceu_isa.specs.Safety.{Fits}
use Rattle.laws_machine_layout.specs.Laws.{AreBytes}
use Rattle.laws_machine_layout.specs.Views.{view, gate_seen, slot_number, no_gate, Free}
use Rattle.laws_machine_layout.proofs.Gates.{is_gate}

-- ---- what is written are bytes

set_byte : (bytes : List ℕ) (at v : ℕ) → v < 256 → AreBytes bytes → AreBytes (slice_set bytes at v)
set_byte [] at v lt h i = h i
set_byte (b ∷ bytes) zero v lt h zero = lt
set_byte (b ∷ bytes) zero v lt h (suc i) = h (suc i)
set_byte (b ∷ bytes) (suc at) v lt h zero = h zero
set_byte (b ∷ bytes) (suc at) v lt h (suc i) = set_byte bytes at v lt (λ j. h (suc j)) i

pub number_bytes : (k n : ℕ) (bytes : List ℕ) (at : ℕ) → AreBytes bytes → AreBytes (with_number k n bytes at)
number_bytes zero n bytes at h = subst AreBytes (sym (with_number_nothing n bytes at)) h
number_bytes (suc k) n bytes at h =
    subst AreBytes (sym (with_number_step k n bytes at)) (number_bytes k (n / 256) (slice_set bytes at (n % 256)) (at + 1) (set_byte bytes at (n % 256) (omega arith) h))

gate_bytes : (b : ℕ) (gate : Gate) (bytes : List ℕ) (i : ℕ) → AreBytes bytes → AreBytes (with_gate b gate bytes i)
gate_bytes b gate bytes i h =
    number_bytes 8 _ _ _ (number_bytes 2 _ _ _ (number_bytes 2 _ _ _ (number_bytes 2 _ _ _ (number_bytes 2 _ _ _ (number_bytes 2 _ _ _ (number_bytes 1 _ _ _ h))))))

-- ---- what is seen of a gate

pub seen_is : (image : Image) (bytes : List ℕ) (g : ℕ) → g < image.gates → gate_seen image bytes g ≡ gate_of image bytes g
seen_is image bytes g lt = ap (λ (b : Bool). if b then gate_of image bytes g else no_gate) (lt-ltb g image.gates lt)

pub all_free : (image : Image) (bytes : List ℕ) (low high : ℕ) → high ≤ image.gates → ((g : ℕ) → low ≤ g → g < high → (gate_of image bytes g).kind ≡ free) → Free (view image bytes) low high
all_free image bytes low high le h = record { free_at = λ g x y. ap (λ (q : Gate). q.kind) (seen_is image bytes g (omega (arith, y, le))) ∙ h g x y }

pub free_there : (image : Image) (bytes : List ℕ) (low g : ℕ) → Free (view image bytes) low image.gates → low ≤ g → g < image.gates → (gate_of image bytes g).kind ≡ free
free_there image bytes low g h x y = ap (λ (q : Gate). q.kind) (sym (seen_is image bytes g y)) ∙ h.free_at g x y

-- ---- a number in the slots

pub record SameSlots (image : Image) (old new : List ℕ) : Type 0 where
  pub same : (size at : ℕ) → slots_at image ≤ at → number_at size new at ≡ number_at size old at

pub slots_seen : (image : Image) (old new : List ℕ) → SameSlots image old new → (size at : ℕ) → slot_number image new size at ≡ slot_number image old size at
slots_seen image old new h size at = go (nat_le (slots_at image) at) refl
  where
    inner : slots_at image ≤ at → (b : Bool) → (if b then number_at size new at else 0) ≡ (if b then number_at size old at else 0)
    inner le true = h.same size at le
    inner le false = refl

    go : (b : Bool) → nat_le (slots_at image) at ≡ b → (if b && nat_le (at + size) (end_of image) then number_at size new at else 0) ≡ (if b && nat_le (at + size) (end_of image) then number_at size old at else 0)
    go true e = inner (leb-true _ _ e) (nat_le (at + size) (end_of image))
    go false e = refl

abbrev record_of : ℕ → ℕ → ℕ → ℕ → ℕ → ℕ → ℕ → Gate
record_of a b c d e f g = record { kind = a; level = b; code = c; frame = d; base = e; key = f; value = g }

fields_same : (a b c d e f g a' b' c' d' e' f' g' : ℕ) → a ≡ a' → b ≡ b' → c ≡ c' → d ≡ d' → e ≡ e' → f ≡ f' → g ≡ g' → record_of a b c d e f g ≡ record_of a' b' c' d' e' f' g'
fields_same a b c d e f g a' b' c' d' e' f' g' p q r s t u v = cc

-- ---- a gate is put, and a number is written in the header

module _ (image : Image) (bytes : List ℕ) (fits : Fits image bytes) (small : AreBytes bytes) where
  pub put_fits : (gate : Gate) (g : ℕ) → Fits image (gate_put image gate g bytes)
  unfolding gate_put
  put_fits gate g = record { size = put_length gate bytes (gates_at image + 19 * g) ∙ fits.size; memory = fits.memory; code = fits.code }

  pub put_bytes : (gate : Gate) (g : ℕ) → AreBytes (gate_put image gate g bytes)
  unfolding gate_put
  put_bytes gate g = gate_bytes (gates_at image) gate bytes g small

  pub put_header : (gate : Gate) (g size at : ℕ) → at + size ≤ 16 → number_at size (gate_put image gate g bytes) at ≡ number_at size bytes at
  unfolding gate_put
  put_header gate g size at le = put_out size gate bytes (gates_at image + 19 * g) at (inl (omega arith))

  pub put_slots : (gate : Gate) (g : ℕ) → g < image.gates → SameSlots image bytes (gate_put image gate g bytes)
  unfolding gate_put
  put_slots gate g lt = record { same = λ size at le. put_out size gate bytes (gates_at image + 19 * g) at (inr (omega (arith, le, lt))) }

  pub put_there : (gate : Gate) (g : ℕ) → g < image.gates → IsGate gate → gate_of image (gate_put image gate g bytes) g ≡ gate
  unfolding gate_put gate_of
  put_there gate g lt h = get_put_same (gates_at image) gate bytes g h (omega (arith, lt, fits.size))

  pub put_apart : (gate : Gate) (g h : ℕ) → h ≢ g → gate_of image (gate_put image gate g bytes) h ≡ gate_of image bytes h
  unfolding gate_put gate_of
  put_apart gate g h ne = get_put_other (gates_at image) gate bytes g h ne

  pub gate_fine : (g : ℕ) → IsGate (gate_of image bytes g)
  unfolding gate_of
  gate_fine g = is_gate (gates_at image) bytes g small

  pub header_fits : (size n at : ℕ) → Fits image (with_number size n bytes at)
  header_fits size n at = record { size = length-with_number size n bytes at ∙ fits.size; memory = fits.memory; code = fits.code }

  pub header_slots : (size n at : ℕ) → at + size ≤ 16 → SameSlots image bytes (with_number size n bytes at)
  header_slots size n at le = record { same = λ j i x. number_outside j size n bytes at i (inr (omega (arith, x, le))) }

  -- each field of a gate
  pub header_gate : (size n at g : ℕ) → at + size ≤ 16 → gate_of image (with_number size n bytes at) g ≡ gate_of image bytes g
  unfolding gate_of
  header_gate size n at g le =
      let a = gates_at image + 19 * g in
      let out : (j d : ℕ) → number_at j (with_number size n bytes at) (a + d) ≡ number_at j bytes (a + d) = λ j d. number_outside j size n bytes at (a + d) (inr (omega (arith, le))) in
      let first : number_at 1 (with_number size n bytes at) a ≡ number_at 1 bytes a = number_outside 1 size n bytes at a (inr (omega (arith, le))) in
      fields_same _ _ _ _ _ _ _ _ _ _ _ _ _ _ first (out 2 1) (out 2 3) (out 2 5) (out 2 7) (out 2 9) (out 8 11)

pub slots_then : (image : Image) (a b c : List ℕ) → SameSlots image a b → SameSlots image b c → SameSlots image a c
slots_then image a b c x y = record { same = λ size at le. y.same size at le ∙ x.same size at le }
