-- Steps of the machine one after the other, and that a turn has time for all of its steps.
use Rattle.std.proofs.Common.{◌≡◌, refl, sym, ap, ◌∙◌, subst, ℕ, zero, suc, ◌+◌, ◌-◌, ◌*◌, ◌^◌, ◌≤◌, Bool, true, false, ◌⊎◌, inl, inr, ⊎_elim, arith}
use Rattle.std.proofs.lemmas.Nat.{pow-add}
use Rattle.std.proofs.Math.Nat.{mul-le-mul_right}
use Rattle.std.proofs.Math.Pow.{pow_mono}
use Rattle.ceu_code.specs.declared.image.Image.{Image}
use Rattle.ceu_isa.specs.Turns.{State, tick, ticks, is_on, longest_turn}
use Rattle.ceu_endings.specs.Ends.{longest_run}
use Rattle.ceu_trail.specs.Coming.{most_ticks}

by_bool : (b : Bool) → (b ≡ true) ⊎ (b ≡ false)
by_bool true = inl refl
by_bool false = inr refl

pub ticks_off : (image : Image) (n : ℕ) (s : State) → is_on s ≡ false → ticks image n s ≡ s
unfolding ticks
ticks_off image zero s e = refl
ticks_off image (suc n) s e = ap (λ (b : Bool). elim b as (λ _. State) [ true ↦ ticks image n (tick image s) | false ↦ s ]) e

ticks_on : (image : Image) (n : ℕ) (s : State) → is_on s ≡ true → ticks image (suc n) s ≡ ticks image n (tick image s)
unfolding ticks
ticks_on image n s e = ap (λ (b : Bool). elim b as (λ _. State) [ true ↦ ticks image n (tick image s) | false ↦ s ]) e

ticks_zero : (image : Image) (s : State) → ticks image 0 s ≡ s
unfolding ticks
ticks_zero image s = refl

pub ticks_then : (image : Image) (a b n : ℕ) (s : State) → n ≡ a + b → ticks image n s ≡ ticks image b (ticks image a s)
ticks_then image zero b n s e = ap (λ i. ticks image i s) (omega (arith, e)) ∙ ap (λ (x : State). ticks image b x) (sym (ticks_zero image s))
ticks_then image (suc a) b n s e = ⊎_elim
    (λ (on : is_on s ≡ true).
    ap (λ i. ticks image i s) (omega (arith, e)) ∙ ticks_on image (a + b) s on ∙ ticks_then image a b (a + b) (tick image s) refl ∙ ap (λ (x : State). ticks image b x) (sym (ticks_on image a s on)))
    (λ (off : is_on s ≡ false).
    ticks_off image n s off ∙ sym (ticks_off image b s off) ∙ ap (λ (x : State). ticks image b x) (sym (ticks_off image (suc a) s off)))
    (by_bool (is_on s))

-- a turn that is over stays so
pub ticks_stay : (image : Image) (a n : ℕ) (s : State) → a ≤ n → is_on (ticks image a s) ≡ false → ticks image n s ≡ ticks image a s
ticks_stay image a n s le off = ticks_then image a (n - a) n s (omega arith) ∙ ticks_off image (n - a) (ticks image a s) off

-- ---- how many steps there are

powers_fit : (a b c : ℕ) → a + b ≤ c → 2 ^ a * 2 ^ b ≤ 2 ^ c
powers_fit a b c le = subst (λ x. x ≤ 2 ^ c) (pow-add 2 a b) (pow_mono le)

products_grow : (k m n : ℕ) → k ≤ m → k * n ≤ m * n
products_grow k m n le = mul-le-mul_right n le

run_fits : longest_run * most_ticks ≤ longest_turn
unfolding longest_run longest_turn
run_fits = powers_fit 65536 32 (2 ^ 20) (omega arith)

pub few_ticks : (k j : ℕ) → k ≤ longest_run → j ≤ k * most_ticks → j ≤ longest_turn
few_ticks k j le few = let a = products_grow k longest_run most_ticks le in let b = run_fits in omega (arith, a, b, few)
