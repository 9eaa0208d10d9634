-- The timers gate by gate.
use Rattle.std.proofs.Common.{◌≡◌, ◌≢◌, ℕ, zero, suc, ◌+◌, ◌-◌, ◌*◌, ◌<◌, ◌≤◌, ◌⊎◌, inl, inr, ⊎_elim, Bool, true, false, cond, List, length, Option, Some, None, refl, sym, ap, subst, ◌∙◌, arith}
use Rattle.std.specs.Prelude.{slice_index, MatchOption, nat_eq, nat_le}
use Rattle.std.proofs.lemmas.Bool.{cases_lt, eqb-true, eqb-false, eq-eqb, leb-true, leb-false}
use Rattle.ceu_mem.specs.declared.gate.Gate.{Gate}
use Rattle.ceu_mem.specs.Memory.{Space, gate_at, with_gate, IsGate}
use Rattle.ceu_mem.proofs.Gates.{get_put_same, get_put_other, put_length, byte_elsewhere}
use Rattle.ceu_timers.specs.Timers.{gate_of, IsTimer, NoTimer, AtMostLeast, IsLeast, lesser_of, lesser, later, TimePassed}

-- ---- the least

-- what was found among the first n gates
abbrev pub FoundSoFar : Space → ℕ → Option ℕ → Type 0
FoundSoFar mem n found = MatchOption found (NoTimer mem n) (IsLeast mem n)

pub none_yet : (mem : Space) → NoTimer mem 0
none_yet mem g lt = absurd (omega arith)

at_next : {P : ℕ → Type 0} (n : ℕ) → ((g : ℕ) → g < n → P g) → P n → (g : ℕ) → g < n + 1 → P g
at_next {P} n below here g lt = elim (cases_lt g n) [ inl l ↦ below g l | inr ge ↦ let e : n ≡ g = omega arith in subst P e here ]

found_none : (mem : Space) (n : ℕ) → IsTimer (gate_of mem n) → NoTimer mem n → IsLeast mem (n + 1) (gate_of mem n).value
found_none mem n timer none = record {
  gate = n;
  among = omega arith;
  timer = timer;
  time_is = refl;
  least = at_next {P = λ g. IsTimer (gate_of mem g) → (gate_of mem n).value ≤ (gate_of mem g).value} n (λ g lt t. absurd (none g lt t)) (λ t. omega arith);
}

found_some : (mem : Space) (n time : ℕ) (b : Bool) → nat_le time (gate_of mem n).value ≡ b → IsTimer (gate_of mem n) → IsLeast mem n time → IsLeast mem (n + 1) (cond b time (gate_of mem n).value)
found_some mem n time true e timer f = record {
  gate = f.gate;
  among = omega (arith, f.among);
  timer = f.timer;
  time_is = f.time_is;
  least = at_next {P = λ g. IsTimer (gate_of mem g) → time ≤ (gate_of mem g).value} n f.least (λ t. leb-true _ _ e);
}
found_some mem n time false e timer f = record {
  gate = n;
  among = omega arith;
  timer = timer;
  time_is = refl;
  least = at_next {P = λ g. IsTimer (gate_of mem g) → (gate_of mem n).value ≤ (gate_of mem g).value} n (λ g lt t. omega (arith, f.least g lt t, leb-false _ _ e)) (λ t. omega arith);
}

pub found_more : (mem : Space) (n : ℕ) (found : Option ℕ) → FoundSoFar mem n found → FoundSoFar mem (n + 1) (lesser found (gate_of mem n))
found_more mem n found f = by_kind (nat_eq (gate_of mem n).kind 3) refl
  where
    other : (found : Option ℕ) → ((gate_of mem n).kind ≡ 3 → ⊥) → FoundSoFar mem n found → FoundSoFar mem (n + 1) found
    other None ne h = at_next {P = λ g. IsTimer (gate_of mem g) → ⊥} n h ne
    other (Some time) ne h = record {
      gate = h.gate;
      among = omega (arith, h.among);
      timer = h.timer;
      time_is = h.time_is;
      least = at_next {P = λ g. IsTimer (gate_of mem g) → time ≤ (gate_of mem g).value} n h.least (λ t. absurd (ne t));
    }

    timer : (found : Option ℕ) → (gate_of mem n).kind ≡ 3 → FoundSoFar mem n found → FoundSoFar mem (n + 1) (lesser_of found (gate_of mem n).value)
    timer None t h = found_none mem n t h
    timer (Some time) t h = found_some mem n time (nat_le time (gate_of mem n).value) refl t h

    by_kind : (b : Bool) → nat_eq (gate_of mem n).kind 3 ≡ b → FoundSoFar mem (n + 1) (cond b (lesser_of found (gate_of mem n).value) found)
    by_kind true e = timer found (eqb-true _ _ e) f
    by_kind false e = other found (eqb-false _ _ e) f

-- ---- the passing of time

pub record Passed (old new : Space) (all n d : ℕ) : Type 0 where
  pub done : (g : ℕ) → g < n → gate_of new g ≡ later d (gate_of old g)
  pub left : (g : ℕ) → n ≤ g → gate_of new g ≡ gate_of old g
  pub outside : (i : ℕ) → (i < old.gates_at) ⊎ (old.gates_at + 19 * n ≤ i) → slice_index new.bytes i ≡ slice_index old.bytes i
  pub size : length new.bytes ≡ length old.bytes
  pub place : new.gates_at ≡ old.gates_at

pub begins : (mem : Space) (all d : ℕ) → Passed mem mem all 0 d
begins mem all d = record { done = λ g lt. absurd (omega arith); left = λ g le. refl; outside = λ i o. refl; size = refl; place = refl }

later_other : (d : ℕ) (gate : Gate) → (gate.kind ≡ 3 → ⊥) → gate ≡ later d gate
later_other d gate ne = by_test (nat_eq gate.kind 3) refl
  where
    by_test : (b : Bool) → nat_eq gate.kind 3 ≡ b → gate ≡ cond b (record gate { value = gate.value - d }) gate
    by_test true e = absurd (ne (eqb-true _ _ e))
    by_test false e = refl

later_timer : (d : ℕ) (gate : Gate) → gate.kind ≡ 3 → record gate { value = gate.value - d } ≡ later d gate
later_timer d gate e = sym (ap (λ (b : Bool). cond b (record gate { value = gate.value - d }) gate) (eq-eqb gate.kind 3 e))

-- a gate that doesn't wait for time stays
pub passes_by : (old new : Space) (all n d : ℕ) → Passed old new all n d → ((gate_of new n).kind ≡ 3 → ⊥) → Passed old new all (n + 1) d
passes_by old new all n d p ne = record {
  done = at_next {P = λ g. gate_of new g ≡ later d (gate_of old g)} n p.done (p.left n (omega arith) ∙ later_other d (gate_of old n) (λ t. ne (ap (λ (x : Gate). x.kind) (p.left n (omega arith)) ∙ t)));
  left = λ g le. p.left g (omega arith);
  outside = λ i o. p.outside i (⊎_elim (λ x. inl x) (λ x. inr (omega arith)) o);
  size = p.size;
  place = p.place;
}

-- a timer is lowered
pub passes_on : (old new : Space) (all n d : ℕ) → Passed old new all n d → (gate_of new n).kind ≡ 3 → IsGate (gate_of new n) → new.gates_at + 19 * n + 19 ≤ length new.bytes
    → (after : Space) → after.bytes ≡ with_gate new.gates_at (record (gate_of new n) { value = (gate_of new n).value - d }) new.bytes n → after.gates_at ≡ new.gates_at → Passed old after all (n + 1) d
passes_on old new all n d p timer fits room after bytes place =
    let gate = gate_of new n in
    let put : Gate = record (gate_of new n) { value = (gate_of new n).value - d } in
    let f : IsGate (record (gate_of new n) { value = (gate_of new n).value - d }) = record { kind = fits.kind; level = fits.level; code = fits.code; frame = fits.frame; base = fits.base; key = fits.key; value = omega (arith, fits.value) } in
    let seen : (g : ℕ) → gate_of after g ≡ gate_at new.gates_at (with_gate new.gates_at put new.bytes n) g = λ g. ap (λ (b : ℕ). gate_at b after.bytes g) place ∙ ap (λ (bs : List ℕ). gate_at new.gates_at bs g) bytes in
    let other : (g : ℕ) → g ≢ n → gate_of after g ≡ gate_of new g = λ g ne. seen g ∙ get_put_other new.gates_at put new.bytes n g ne in
    let here : gate_of after n ≡ later d (gate_of old n) =
    seen n ∙ get_put_same new.gates_at put new.bytes n f room ∙ ap (λ (x : Gate). record x { value = x.value - d }) (p.left n (omega arith))
    ∙ later_timer d (gate_of old n) (sym (ap (λ (x : Gate). x.kind) (p.left n (omega arith))) ∙ timer) in
    record {
      done = at_next {P = λ g. gate_of after g ≡ later d (gate_of old g)} n (λ g lt. other g (λ e. absurd (omega (arith, e))) ∙ p.done g lt) here;
      left = λ g le. other g (λ e. absurd (omega (arith, e))) ∙ p.left g (omega arith);
      outside = λ i o. ap (λ (bs : List ℕ). slice_index bs i) bytes
          ∙ byte_elsewhere put new.bytes (new.gates_at + 19 * n) i (⊎_elim (λ x. inl (omega (arith, p.place))) (λ x. inr (omega (arith, p.place))) o)
          ∙ p.outside i (⊎_elim (λ x. inl x) (λ x. inr (omega arith)) o);
      size = ap length bytes ∙ put_length put new.bytes (new.gates_at + 19 * n) ∙ p.size;
      place = place ∙ p.place;
    }

pub passes_with : (old new : Space) (all n d : ℕ) → Passed old new all n d → (gate : Gate) → gate ≡ gate_of new n → gate.kind ≡ 3 → IsGate gate → new.gates_at + 19 * n + 19 ≤ length new.bytes
    → (after : Space) → after.bytes ≡ with_gate new.gates_at (record gate { value = gate.value - d }) new.bytes n → after.gates_at ≡ new.gates_at → Passed old after all (n + 1) d
passes_with old new all n d p gate is timer fits room after bytes place =
    let P : Gate → Type 0 = λ x. x.kind ≡ 3 → IsGate x → after.bytes ≡ with_gate new.gates_at (record x { value = x.value - d }) new.bytes n → Passed old after all (n + 1) d in
    subst P (sym is) (λ t f b. passes_on old new all n d p t f room after b place) timer fits bytes

pub passes_without : (old new : Space) (all n d : ℕ) → Passed old new all n d → (gate : Gate) → gate ≡ gate_of new n → (gate.kind ≡ 3 → ⊥) → Passed old new all (n + 1) d
passes_without old new all n d p gate is ne = passes_by old new all n d p (λ t. ne (ap (λ (x : Gate). x.kind) is ∙ t))
