-- Steps of the machine one behind the other.
use Rattle.std.proofs.Common.{◌≡◌, refl, sym, ap, ◌∙◌, subst, ◌≤◌, ℕ, zero, suc, ◌+◌, Bool, true, false, Option, Some, arith}
use Rattle.ceu_code.specs.declared.image.Image.{Image}
use Rattle.ceu_code.specs.declared.instr.Instr.{Instr}
use Rattle.ceu_isa.specs.declared.registers.Registers.{Registers}
use Rattle.ceu_isa.specs.Fetching.{fetched}
use Rattle.ceu_isa.specs.Effects.{Effect}
use Rattle.ceu_isa.specs.Rows.{effect}
use Rattle.ceu_isa.specs.Turns.{Machine, State, Trail, tick, ticks, is_on, behind, trail_does, trail_did}
use Rattle.ceu_steps.specs.Running.{Runs}

resting : (image : Image) (n : ℕ) (s : State) → is_on s ≡ false → ticks image n s ≡ s
unfolding ticks
resting image zero s off = refl
resting image (suc n) s off = ap (λ (b : Bool). elim b [ true ↦ ticks image n (tick image s) | false ↦ s ]) off

ticks_then : (image : Image) (j k : ℕ) (a b c : State) → ticks image j a ≡ b → ticks image k b ≡ c → ticks image (j + k) a ≡ c
unfolding ticks
ticks_then image zero k a b c e f = ap (λ (n : ℕ). ticks image n a) (let z : 0 + k ≡ k = omega arith in z) ∙ ap (ticks image k) e ∙ f
ticks_then image (suc j) k a b c e f =
    ap (λ (n : ℕ). ticks image n a) (let z : suc j + k ≡ suc (j + k) = omega arith in z)
    ∙ first image j k a b c e f (ticks_then image j k (tick image a) b c) (is_on a) refl
  where
    first : (image : Image) (j k : ℕ) (a b c : State) → ticks image (suc j) a ≡ b → ticks image k b ≡ c → (ticks image j (tick image a) ≡ b → ticks image k b ≡ c → ticks image (j + k) (tick image a) ≡ c)
        → (o : Bool) → is_on a ≡ o → ticks image (suc (j + k)) a ≡ c
    first image j k a b c e f ih true on =
        ap (λ (o : Bool). elim o [ true ↦ ticks image (j + k) (tick image a) | false ↦ a ]) on
        ∙ ih (sym (ap (λ (o : Bool). elim o [ true ↦ ticks image j (tick image a) | false ↦ a ]) on) ∙ e) f
    first image j k a b c e f ih false off =
        let same : a ≡ b = sym (ap (λ (o : Bool). elim o [ true ↦ ticks image j (tick image a) | false ↦ a ]) off) ∙ e in
        ap (λ (o : Bool). elim o [ true ↦ ticks image (j + k) (tick image a) | false ↦ a ]) off ∙ same ∙ sym (resting image k b (subst (λ (s : State). is_on s ≡ false) same off)) ∙ f

pub stay : {image : Image} {s : State} → Runs image 0 s s
unfolding ticks
stay = record { count = 0; few = omega arith; comes = refl }

pub onward : {image : Image} {n m : ℕ} {a b c : State} → Runs image n a b → Runs image m b c → Runs image (n + m) a c
onward {image = image} {a = a} {b = b} {c = c} x y = record { count = x.count + y.count; few = omega (arith, x.few, y.few); comes = ticks_then image x.count y.count a b c x.comes y.comes }

pub wider : {image : Image} {n m : ℕ} {a b : State} → n ≤ m → Runs image n a b → Runs image m a b
wider le x = record { count = x.count; few = omega (arith, x.few, le); comes = x.comes }

pub one : {image : Image} {a b : State} → is_on a ≡ true → tick image a ≡ b → Runs image 1 a b
unfolding ticks
one {image = image} {a = a} {b = b} on e = record { count = 1; few = omega arith; comes = ap (λ (o : Bool). elim o [ true ↦ ticks image 0 (tick image a) | false ↦ a ]) on ∙ e }

-- ---- the instruction at the trail's place

fetches : (image : Image) (r : Registers) (m : Machine) (i : Instr) → fetched image r.at ≡ Some i → tick image (Trail r m) ≡ trail_did image (effect image i (behind i r) m.bytes) (behind i r) m
unfolding tick
fetches image r m i f = ap (λ (o : Option Instr). trail_does image o r m) f

pub did : {image : Image} {r : Registers} {m : Machine} (i : Instr) (e : Effect) → fetched image r.at ≡ Some i → effect image i (behind i r) m.bytes ≡ e → Runs image 1 (Trail r m) (trail_did image e (behind i r) m)
did {image = image} {r = r} {m = m} i e f h = one refl (fetches image r m i f ∙ ap (λ (x : Effect). trail_did image x (behind i r) m) h)
