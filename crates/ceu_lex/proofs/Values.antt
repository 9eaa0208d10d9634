-- What digits stand for.
use Rattle.std.proofs.Common.{◌≡◌, ℕ, ◌+◌, ◌*◌, ◌-◌, ◌≤◌, ◌<◌, Bool, true, false, cond, ◌&&◌, List, [], ◌∷◌, length, take, drop, get_or, Ok, Err, refl, sym, ap, ◌∙◌, arith}
use Rattle.std.specs.Prelude.{nat_lt}
use Rattle.std.proofs.Math.Nat.{mul-le-mul_left}
use Rattle.std.proofs.lemmas.Bool.Decides.{nat_tests}
use Rattle.std.proofs.lemmas.List.{take_rest}
use Rattle.std.specs.List.{list_all}
use Rattle.std.specs.Char.{is_ascii_digit, is_ascii_hexdigit}
use Rattle.ceu_lex.specs.Lexemes.{value, digit, within_u64}
use Rattle.ceu_base.specs.declared.kinds.Rule.TheVariants.{L3}
use Rattle.ceu_lex.specs.declared.token.TokenKind.TheVariants.{Number}

-- more digits stand for no less
pub value-grows : (base high : ℕ) (bytes : List ℕ) → 1 ≤ base → high ≤ value base high bytes
unfolding value
value-grows base high [] some = omega arith
value-grows base high (b ∷ bytes) some = omega (arith, value-grows base (high * base + digit b) bytes some, mul-le-mul_left high some)

pub value-more : (base high b : ℕ) (bytes : List ℕ) → value base high (b ∷ bytes) ≡ value base (high * base + digit b) bytes
unfolding value
value-more base high b bytes = refl

pub value-none : (base high : ℕ) → value base high [] ≡ high
unfolding value
value-none base high = refl

over : (n : ℕ) → 18446744073709551616 ≤ n → within_u64 n ≡ Err L3
over n far = let e : nat_lt n 18446744073709551616 ≡ false = grind (arith, nat_tests) in ap (λ (c : Bool). cond c (Ok (Number n)) (Err L3)) e

pub overflows : (base high b : ℕ) (bytes : List ℕ) (whole : ℕ) → 1 ≤ base → 18446744073709551616 ≤ high * base + digit b → value base high (b ∷ bytes) ≡ whole → Err L3 ≡ within_u64 whole
overflows base high b bytes whole some far is = sym (over whole (omega (arith, value-grows base (high * base + digit b) bytes some, sym is ∙ value-more base high b bytes)))

pub fits : (n : ℕ) → n < 18446744073709551616 → Ok (Number n) ≡ within_u64 n
fits n near = let e : nat_lt n 18446744073709551616 ≡ true = grind (arith, nat_tests) in ap (λ (c : Bool). cond c (Ok (Number n)) (Err L3)) (sym e)

-- the first digit of some
pub value-step : (base high : ℕ) (text : List ℕ) → 1 ≤ length text → value base high text ≡ value base (high * base + digit (get_or text 0 0)) (take (length text - 1) (drop 1 text))
value-step base high [] some = absurd (omega arith)
value-step base high (b ∷ bytes) some = value-more base high b bytes ∙ ap (value base (high * base + digit b)) (sym (take_rest (b ∷ bytes) 1))

pub overflows_at : (base high next : ℕ) (text : List ℕ) (whole : ℕ) → 1 ≤ base → 1 ≤ length text → next ≡ high * base + digit (get_or text 0 0) → 18446744073709551616 ≤ next → value base high text ≡ whole → Err L3 ≡ within_u64 whole
overflows_at base high next text whole some one next_is far is =
    sym (over whole (omega (arith, value-grows base (high * base + digit (get_or text 0 0)) (take (length text - 1) (drop 1 text)) some, sym is ∙ value-step base high text one)))

pub fits_at : (base high : ℕ) (text : List ℕ) (whole : ℕ) → length text < 1 → high < 18446744073709551616 → value base high text ≡ whole → Ok (Number high) ≡ within_u64 whole
fits_at base high [] whole none near is = fits high near ∙ ap within_u64 (sym (value-none base high) ∙ is)
fits_at base high (b ∷ bytes) whole none near is = absurd (omega arith)

both : (a b : Bool) → (a && b) ≡ true → (a ≡ true) × (b ≡ true)
both true true e = (refl, refl)
both true false e = absurd (cc)
both false b e = absurd (cc)

pub all_after : (p : ℕ → Bool) (text : List ℕ) → 1 ≤ length text → list_all p text ≡ true → list_all p (take (length text - 1) (drop 1 text)) ≡ true
all_after p [] some all = absurd (omega arith)
all_after p (b ∷ bytes) some all = ap (list_all p) (take_rest (b ∷ bytes) 1) ∙ (both (p b) (list_all p bytes) all).1

digit_is_hex : (b : ℕ) → is_ascii_digit b ≡ true → is_ascii_hexdigit b ≡ true
digit_is_hex b is = grind (arith, nat_tests)

pub digits_are_hex : (text : List ℕ) → list_all (λ b. is_ascii_digit b) text ≡ true → list_all (λ b. is_ascii_hexdigit b) text ≡ true
digits_are_hex [] all = refl
digits_are_hex (b ∷ bytes) all =
    let e = both (is_ascii_digit b) (list_all (λ b. is_ascii_digit b) bytes) all in
    (λ i. digit_is_hex b e.0 i && digits_are_hex bytes e.1 i)

pub value_after : (base high next : ℕ) (text : List ℕ) (whole : ℕ) → 1 ≤ length text → next ≡ high * base + digit (get_or text 0 0) → value base high text ≡ whole → value base next (take (length text - 1) (drop 1 text)) ≡ whole
value_after base high next text whole one next_is is = ap (λ (n : ℕ). value base n (take (length text - 1) (drop 1 text))) next_is ∙ sym (value-step base high text one) ∙ is
