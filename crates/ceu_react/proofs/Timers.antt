-- The least time of the timers, as the definition's walk over the gates finds it.
use Rattle.std.proofs.Common.{◌≡◌, ℕ, zero, suc, ◌+◌, ◌<◌, ◌≤◌, Bool, true, false, List, ◌∷◌, Option, Some, None, refl, sym, ap, ◌∙◌, subst, ⊎_elim, arith}
use Rattle.std.specs.Prelude.{IfNone, IfSome, min}
use Rattle.std.proofs.lemmas.Bool.{cases_lt, eqb-true, eq-eqb}
use Rattle.ceu_code.specs.declared.image.Image.{Image}
use Rattle.ceu_mem.specs.declared.gate.Gate.{Gate}
use Rattle.ceu_mem.specs.Memory.{Space, gate_at}
use Rattle.ceu_timers.specs.Timers as timers
use Rattle.ceu_isa.specs.Layout.{gate_of, gates_from, gates_at}
use Rattle.ceu_isa.specs.Commands.{is_timer, least_of, least_time}
use Rattle.ceu_machine.specs.Holding.{IsMachine}

-- the least time of a timer among the n gates from one on
pub record LeastFrom (image : Image) (bytes : List ℕ) (from n time : ℕ) : Type 0 where
  pub gate : ℕ
  pub low : from ≤ gate
  pub high : gate < from + n
  pub timer : is_timer (gate_of image bytes gate) ≡ true
  pub time_is : (gate_of image bytes gate).value ≡ time
  pub least : (g : ℕ) → from ≤ g → g < from + n → is_timer (gate_of image bytes g) ≡ true → time ≤ (gate_of image bytes g).value

abbrev pub NoneFrom : Image → List ℕ → (from n : ℕ) → Type 0
NoneFrom image bytes from n = (g : ℕ) → from ≤ g → g < from + n → is_timer (gate_of image bytes g) ≡ true → ⊥

abbrev pub Tells : Image → List ℕ → (from n : ℕ) → Option ℕ → Type 0
Tells image bytes from n None = NoneFrom image bytes from n
Tells image bytes from n (Some time) = LeastFrom image bytes from n time

-- a gate of the range is the first one, or one of the others
at_first : {P : ℕ → Type 0} (from n g : ℕ) → from ≤ g → g < from + suc n → P from → ((h : ℕ) → suc from ≤ h → h < suc from + n → h ≡ g → P h) → P g
at_first {P} from n g lo hi here later = ⊎_elim
    (λ (l : from < g). later g (omega arith) (omega arith) refl)
    (λ (m : g ≤ from). let e : from ≡ g = omega arith in subst P e here)
    (cases_lt from g)

no_timer : (image : Image) (bytes : List ℕ) (from n : ℕ) (x : Option ℕ) → is_timer (gate_of image bytes from) ≡ false → Tells image bytes (suc from) n x → Tells image bytes from (suc n) x
no_timer image bytes from n None f t = λ g lo hi is.
    at_first {P = λ g. is_timer (gate_of image bytes g) ≡ true → ⊥} from n g lo hi (λ e. absurd (cc)) (λ h l u e. t h l u) is
no_timer image bytes from n (Some time) f t = record {
  gate = t.gate;
  low = omega (arith, t.low);
  high = omega (arith, t.high);
  timer = t.timer;
  time_is = t.time_is;
  least = λ g lo hi. at_first {P = λ g. is_timer (gate_of image bytes g) ≡ true → time ≤ (gate_of image bytes g).value} from n g lo hi (λ e. absurd (cc)) (λ h l u e. t.least h l u);
}

abbrev with_least : ℕ → Option ℕ → Option ℕ
with_least v None = Some v
with_least v (Some time) = Some (min v time)

a_timer : (image : Image) (bytes : List ℕ) (from n : ℕ) (x : Option ℕ) → is_timer (gate_of image bytes from) ≡ true → Tells image bytes (suc from) n x → Tells image bytes from (suc n) (with_least (gate_of image bytes from).value x)
a_timer image bytes from n None f t = record {
  gate = from;
  low = omega arith;
  high = omega arith;
  timer = f;
  time_is = refl;
  least = λ g lo hi. at_first {P = λ g. is_timer (gate_of image bytes g) ≡ true → (gate_of image bytes from).value ≤ (gate_of image bytes g).value} from n g lo hi (λ e. omega arith) (λ h l u e is. absurd (t h l u is));
}
a_timer image bytes from n (Some time) f t =
    let all : (g : ℕ) → from ≤ g → g < from + suc n → is_timer (gate_of image bytes g) ≡ true → min (gate_of image bytes from).value time ≤ (gate_of image bytes g).value =
    λ g lo hi. at_first {P = λ g. is_timer (gate_of image bytes g) ≡ true → min (gate_of image bytes from).value time ≤ (gate_of image bytes g).value} from n g lo hi (λ e. omega arith) (λ h l u e is. omega (arith, t.least h l u is)) in
    ⊎_elim
    (λ (l : time < (gate_of image bytes from).value). let r : LeastFrom image bytes from (suc n) (min (gate_of image bytes from).value time) = record { gate = t.gate; low = omega (arith, t.low); high = omega (arith, t.high); timer = t.timer; time_is = t.time_is ∙ omega arith; least = all } in r)
    (λ (m : (gate_of image bytes from).value ≤ time). let r : LeastFrom image bytes from (suc n) (min (gate_of image bytes from).value time) = record { gate = from; low = omega arith; high = omega arith; timer = f; time_is = omega arith; least = all } in r)
    (cases_lt time (gate_of image bytes from).value)

of_list : (image : Image) (bytes : List ℕ) (g : ℕ) (gs : List ℕ) → least_of image bytes (g ∷ gs) ≡ with_least (gate_of image bytes g).value (least_of image bytes gs)
of_list image bytes g gs = by (least_of image bytes gs)
  where
    by : (x : Option ℕ) → (elim x as (λ _. Option ℕ) [ None ↦ Some (gate_of image bytes g).value | Some time ↦ Some (min (gate_of image bytes g).value time) ]) ≡ with_least (gate_of image bytes g).value x
    by None = refl
    by (Some time) = refl

pub tells : (image : Image) (bytes : List ℕ) (from n : ℕ) → Tells image bytes from n (least_of image bytes (gates_from image bytes is_timer from n))
unfolding gates_from
tells image bytes from zero = λ g lo hi is. absurd (omega arith)
tells image bytes from (suc n) = by (is_timer (gate_of image bytes from)) refl (tells image bytes (suc from) n)
  where
    by : (b : Bool) → is_timer (gate_of image bytes from) ≡ b → Tells image bytes (suc from) n (least_of image bytes (gates_from image bytes is_timer (suc from) n))
        → Tells image bytes from (suc n) (least_of image bytes (elim b as (λ _. List ℕ) [ true ↦ from ∷ gates_from image bytes is_timer (suc from) n | false ↦ gates_from image bytes is_timer (suc from) n ]))
    by true e t = subst (λ (x : Option ℕ). Tells image bytes from (suc n) x) (sym (of_list image bytes from (gates_from image bytes is_timer (suc from) n))) (a_timer image bytes from n (least_of image bytes (gates_from image bytes is_timer (suc from) n)) e t)
    by false e t = no_timer image bytes from n (least_of image bytes (gates_from image bytes is_timer (suc from) n)) e t

-- ---- the program's answer is the definition's

same_gate : (image : Image) (mem : Space) (g : ℕ) → mem.gates_at ≡ gates_at image → timers.gate_of mem g ≡ gate_of image mem.bytes g
unfolding gate_of
same_gate image mem g e = ap (λ (b : ℕ). gate_at b mem.bytes g) e

as_timer : (image : Image) (mem : Space) (g : ℕ) → mem.gates_at ≡ gates_at image → is_timer (gate_of image mem.bytes g) ≡ true → timers.IsTimer (timers.gate_of mem g)
as_timer image mem g e h = ap (λ (x : Gate). x.kind) (same_gate image mem g e) ∙ eqb-true (gate_of image mem.bytes g).kind 3 h

is_one : (image : Image) (mem : Space) (g : ℕ) → mem.gates_at ≡ gates_at image → timers.IsTimer (timers.gate_of mem g) → is_timer (gate_of image mem.bytes g) ≡ true
is_one image mem g e h = eq-eqb (gate_of image mem.bytes g).kind 3 (sym (ap (λ (x : Gate). x.kind) (same_gate image mem g e)) ∙ h)

agrees : (image : Image) (mem : Space) → mem.gates_at ≡ gates_at image → (r x : Option ℕ) → IfNone r (timers.NoTimer mem image.gates) → IfSome r (λ time. timers.IsLeast mem image.gates time) → Tells image mem.bytes 0 image.gates x → r ≡ x
agrees image mem e None None n s t = refl
agrees image mem e None (Some time) n s t = absurd (n t.gate (omega (arith, t.high)) (as_timer image mem t.gate e t.timer))
agrees image mem e (Some time) None n s t = absurd (t s.gate (omega arith) (omega (arith, s.among)) (is_one image mem s.gate e s.timer))
agrees image mem e (Some time) (Some other) n s t =
    let there = ap (λ (x : Gate). x.value) (same_gate image mem t.gate e) in
    let here = ap (λ (x : Gate). x.value) (same_gate image mem s.gate e) in
    let a = s.least t.gate (omega (arith, t.high)) (as_timer image mem t.gate e t.timer) in
    let b = t.least s.gate (omega arith) (omega (arith, s.among)) (is_one image mem s.gate e s.timer) in
    let same : time ≡ other = omega (arith, a, b, there, here, s.time_is, t.time_is) in
    ap (λ (n : ℕ). Some n) same

pub least_is : (image : Image) (mem : Space) (r : Option ℕ) → IsMachine image mem → IfNone r (timers.NoTimer mem image.gates) → IfSome r (λ time. timers.IsLeast mem image.gates time) → r ≡ least_time image mem.bytes
least_is image mem r made n s = agrees image mem made.gates r (least_time image mem.bytes) n s (tells image mem.bytes 0 image.gates)

-- ---- the memory is still one of the image

pub passed_kept : (image : Image) (old new : Space) (n d : ℕ) → IsMachine image old → timers.TimePassed old new n d → IsMachine image new
passed_kept image old new n d made p = record { gates = p.place ∙ made.gates; fits = record { size = p.size ∙ made.fits.size; memory = made.fits.memory; code = made.fits.code } }
