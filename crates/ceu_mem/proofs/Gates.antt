-- A gate that is put is read again, and all else stays.
use Rattle.std.proofs.Common.{◌≡◌, ◌≢◌, ℕ, ◌+◌, ◌*◌, ◌<◌, ◌≤◌, ◌⊎◌, inl, inr, ⊎_elim, List, length, ◌∙◌, arith}
use Rattle.std.specs.Prelude.{slice_index}
use Rattle.std.proofs.lemmas.Bool.{cases_lt}
use Rattle.ceu_mem.specs.declared.gate.Gate.{Gate}
use Rattle.ceu_mem.specs.Bytes.{number_at, with_number}
use Rattle.ceu_mem.specs.Memory.{gate_at, with_gate_fields, with_gate, IsGate}
use Rattle.ceu_mem.proofs.Views.{length-with_number, number_outside, number_written, byte_outside}

-- the fields of a gate, one after the other
abbrev pub fields : ℕ → List ℕ → Gate
fields a bs = record { kind = number_at 1 bs a; level = number_at 2 bs (a + 1); code = number_at 2 bs (a + 3); frame = number_at 2 bs (a + 5); base = number_at 2 bs (a + 7); key = number_at 2 bs (a + 9); value = number_at 8 bs (a + 11) }

apart : (i j : ℕ) → j ≢ i → (j + 1 ≤ i) ⊎ (i + 1 ≤ j)
apart i j ne = ⊎_elim (λ lt. inl (omega arith)) (λ ge. inr (omega arith)) (cases_lt j i)

abbrev record_of : ℕ → ℕ → ℕ → ℕ → ℕ → ℕ → ℕ → Gate
record_of a b c d e f g = record { kind = a; level = b; code = c; frame = d; base = e; key = f; value = g }

gate_same : (a b c d e f g a' b' c' d' e' f' g' : ℕ) → a ≡ a' → b ≡ b' → c ≡ c' → d ≡ d' → e ≡ e' → f ≡ f' → g ≡ g' → record_of a b c d e f g ≡ record_of a' b' c' d' e' f' g'
gate_same a b c d e f g a' b' c' d' e' f' g' p q r s t u v = cc

abbrev put_at : Gate → List ℕ → ℕ → List ℕ
put_at = with_gate_fields

pub put_length : (x : Gate) (bs : List ℕ) (a : ℕ) → length (put_at x bs a) ≡ length bs
put_length x bs a = length-with_number 8 x.value _ _ ∙ length-with_number 2 x.key _ _ ∙ length-with_number 2 x.base _ _ ∙ length-with_number 2 x.frame _ _ ∙ length-with_number 2 x.code _ _ ∙ length-with_number 2 x.level _ _ ∙ length-with_number 1 x.kind bs a

-- a number apart from the gate
pub put_out : (j : ℕ) (x : Gate) (bs : List ℕ) (a i : ℕ) → (i + j ≤ a) ⊎ (a + 19 ≤ i) → number_at j (put_at x bs a) i ≡ number_at j bs i
put_out j x bs a i o =
    let at : (k d : ℕ) → d + k ≤ 19 → (i + j ≤ a + d) ⊎ (a + d + k ≤ i) = λ k d le. ⊎_elim (λ y. inl (omega arith)) (λ y. inr (omega arith)) o in
    number_outside j 8 x.value _ (a + 11) i (at 8 11 (omega arith))
    ∙ number_outside j 2 x.key _ (a + 9) i (at 2 9 (omega arith))
    ∙ number_outside j 2 x.base _ (a + 7) i (at 2 7 (omega arith))
    ∙ number_outside j 2 x.frame _ (a + 5) i (at 2 5 (omega arith))
    ∙ number_outside j 2 x.code _ (a + 3) i (at 2 3 (omega arith))
    ∙ number_outside j 2 x.level _ (a + 1) i (at 2 1 (omega arith))
    ∙ number_outside j 1 x.kind bs a i (⊎_elim (λ y. inl y) (λ y. inr (omega arith)) o)

-- what was put is there
put_same : (x : Gate) (bs : List ℕ) (a : ℕ) → IsGate x → a + 19 ≤ length bs → fields a (put_at x bs a) ≡ x
put_same x bs a f le =
    let b1 = with_number 1 x.kind bs a in
    let b2 = with_number 2 x.level b1 (a + 1) in
    let b3 = with_number 2 x.code b2 (a + 3) in
    let b4 = with_number 2 x.frame b3 (a + 5) in
    let b5 = with_number 2 x.base b4 (a + 7) in
    let b6 = with_number 2 x.key b5 (a + 9) in
    let b7 = with_number 8 x.value b6 (a + 11) in
    let l1 : length b1 ≡ length bs = length-with_number 1 x.kind bs a in
    let l2 : length b2 ≡ length bs = length-with_number 2 x.level b1 (a + 1) ∙ l1 in
    let l3 : length b3 ≡ length bs = length-with_number 2 x.code b2 (a + 3) ∙ l2 in
    let l4 : length b4 ≡ length bs = length-with_number 2 x.frame b3 (a + 5) ∙ l3 in
    let l5 : length b5 ≡ length bs = length-with_number 2 x.base b4 (a + 7) ∙ l4 in
    let l6 : length b6 ≡ length bs = length-with_number 2 x.key b5 (a + 9) ∙ l5 in
    let below : (j i k v d : ℕ) (b : List ℕ) → i + j ≤ a + d → number_at j (with_number k v b (a + d)) i ≡ number_at j b i = λ j i k v d b le'. number_outside j k v b (a + d) i (inl le') in
    let e1 : number_at 1 b7 a ≡ x.kind = below 1 a 8 x.value 11 b6 (omega arith) ∙ below 1 a 2 x.key 9 b5 (omega arith) ∙ below 1 a 2 x.base 7 b4 (omega arith) ∙ below 1 a 2 x.frame 5 b3 (omega arith) ∙ below 1 a 2 x.code 3 b2 (omega arith) ∙ below 1 a 2 x.level 1 b1 (omega arith) ∙ number_written 1 x.kind bs a f.kind (omega arith) in
    let e2 : number_at 2 b7 (a + 1) ≡ x.level = below 2 (a + 1) 8 x.value 11 b6 (omega arith) ∙ below 2 (a + 1) 2 x.key 9 b5 (omega arith) ∙ below 2 (a + 1) 2 x.base 7 b4 (omega arith) ∙ below 2 (a + 1) 2 x.frame 5 b3 (omega arith) ∙ below 2 (a + 1) 2 x.code 3 b2 (omega arith) ∙ number_written 2 x.level b1 (a + 1) f.level (omega arith) in
    let e3 : number_at 2 b7 (a + 3) ≡ x.code = below 2 (a + 3) 8 x.value 11 b6 (omega arith) ∙ below 2 (a + 3) 2 x.key 9 b5 (omega arith) ∙ below 2 (a + 3) 2 x.base 7 b4 (omega arith) ∙ below 2 (a + 3) 2 x.frame 5 b3 (omega arith) ∙ number_written 2 x.code b2 (a + 3) f.code (omega arith) in
    let e4 : number_at 2 b7 (a + 5) ≡ x.frame = below 2 (a + 5) 8 x.value 11 b6 (omega arith) ∙ below 2 (a + 5) 2 x.key 9 b5 (omega arith) ∙ below 2 (a + 5) 2 x.base 7 b4 (omega arith) ∙ number_written 2 x.frame b3 (a + 5) f.frame (omega arith) in
    let e5 : number_at 2 b7 (a + 7) ≡ x.base = below 2 (a + 7) 8 x.value 11 b6 (omega arith) ∙ below 2 (a + 7) 2 x.key 9 b5 (omega arith) ∙ number_written 2 x.base b4 (a + 7) f.base (omega arith) in
    let e6 : number_at 2 b7 (a + 9) ≡ x.key = below 2 (a + 9) 8 x.value 11 b6 (omega arith) ∙ number_written 2 x.key b5 (a + 9) f.key (omega arith) in
    let e7 : number_at 8 b7 (a + 11) ≡ x.value = number_written 8 x.value b6 (a + 11) f.value (omega arith) in
    gate_same _ _ _ _ _ _ _ _ _ _ _ _ _ _ e1 e2 e3 e4 e5 e6 e7

pub get_put_same : (b : ℕ) (x : Gate) (bs : List ℕ) (i : ℕ) → IsGate x → b + 19 * i + 19 ≤ length bs → gate_at b (with_gate b x bs i) i ≡ x
get_put_same b x bs i f le = put_same x bs (b + 19 * i) f le

pub get_put_other : (b : ℕ) (x : Gate) (bs : List ℕ) (i j : ℕ) → j ≢ i → gate_at b (with_gate b x bs i) j ≡ gate_at b bs j
get_put_other b x bs i j ne =
    let c = b + 19 * j in
    let a = b + 19 * i in
    let out : (k d : ℕ) → d + k ≤ 19 → number_at k (put_at x bs a) (c + d) ≡ number_at k bs (c + d) = λ k d le. put_out k x bs a (c + d) (⊎_elim (λ y. inl (omega arith)) (λ y. inr (omega arith)) (apart i j ne)) in
    let out0 : number_at 1 (put_at x bs a) c ≡ number_at 1 bs c = put_out 1 x bs a c (⊎_elim (λ y. inl (omega arith)) (λ y. inr (omega arith)) (apart i j ne)) in
    gate_same _ _ _ _ _ _ _ _ _ _ _ _ _ _ out0 (out 2 1 (omega arith)) (out 2 3 (omega arith)) (out 2 5 (omega arith)) (out 2 7 (omega arith)) (out 2 9 (omega arith)) (out 8 11 (omega arith))

-- a byte outside the gate
pub byte_elsewhere : (x : Gate) (bs : List ℕ) (a i : ℕ) → (i < a) ⊎ (a + 19 ≤ i) → slice_index (put_at x bs a) i ≡ slice_index bs i
byte_elsewhere x bs a i o =
    let at : (k d : ℕ) → d + k ≤ 19 → (i < a + d) ⊎ (a + d + k ≤ i) = λ k d le. ⊎_elim (λ y. inl (omega arith)) (λ y. inr (omega arith)) o in
    byte_outside 8 x.value _ (a + 11) i (at 8 11 (omega arith))
    ∙ byte_outside 2 x.key _ (a + 9) i (at 2 9 (omega arith))
    ∙ byte_outside 2 x.base _ (a + 7) i (at 2 7 (omega arith))
    ∙ byte_outside 2 x.frame _ (a + 5) i (at 2 5 (omega arith))
    ∙ byte_outside 2 x.code _ (a + 3) i (at 2 3 (omega arith))
    ∙ byte_outside 2 x.level _ (a + 1) i (at 2 1 (omega arith))
    ∙ byte_outside 1 x.kind bs a i (⊎_elim (λ y. inl y) (λ y. inr (omega arith)) o)
