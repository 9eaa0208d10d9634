-- Numbers as they are printed.
use Rattle.std.proofs.Common.{◌≡◌, refl, sym, ap, ◌∙◌, ℕ, ◌+◌, ◌*◌, ◌/◌, ◌%◌, ◌^◌, ◌≤◌, ◌<◌, Bool, true, cond, List, [], ◌∷◌, ◌++◌, length, length-append, drop, Ok, Err, arith}
use Rattle.std.specs.Prelude.{nat_lt, slice_index, decimal}
use Rattle.std.specs.List.{list_all}
use Rattle.std.specs.Char.{is_ascii_digit}
use Rattle.std.proofs.lemmas.Bool.{and_parts, and_from}
use Rattle.std.proofs.lemmas.Bool.Decides.{nat_tests}
use Rattle.std.proofs.lemmas.List.Folds.{list_all-append}
use Rattle.std.proofs.lemmas.Fmt.{decimal_by_steps}
use Rattle.ceu_lex.specs.Bytes.{is_word_byte}
use Rattle.ceu_lex.specs.Lexemes.{digit, value, all_digits, within_u64, literal, is_hex, time, with_len, lexeme}
use Rattle.ceu_lex.specs.declared.token.TokenKind.TheVariants.{Number}
use Rattle.ceu_base.specs.declared.kinds.Rule.TheVariants.{L3}
use Rattle.laws_text_printed.specs.SpellingWords.{Ends}
use Rattle.laws_text_printed.proofs.Words.{lexeme_number}

value_more : (base high b : ℕ) (bytes : List ℕ) → value base high (b ∷ bytes) ≡ value base (high * base + digit b) bytes
unfolding value
value_more base high b bytes = refl

value_none : (base high : ℕ) → value base high [] ≡ high
unfolding value
value_none base high = refl

value_last : (base high b : ℕ) (ds : List ℕ) → value base high (ds ++ (b ∷ [])) ≡ value base high ds * base + digit b
value_last base high b [] = value_more base high b [] ∙ value_none base (high * base + digit b) ∙ ap (λ (n : ℕ). n * base + digit b) (sym (value_none base high))
value_last base high b (d ∷ ds) =
    value_more base high d (ds ++ (b ∷ []))
    ∙ value_last base (high * base + digit d) b ds
    ∙ ap (λ (n : ℕ). n * base + digit b) (sym (value_more base high d ds))

-- these digits stand for a number
pub record IsDecimal (n : ℕ) (ds : List ℕ) : Type 0 where
  pub are_digits : all_digits ds ≡ true
  pub some : 1 ≤ length ds
  pub stands : value 10 0 ds ≡ n

digit_of : (n : ℕ) → n < 10 → digit (48 + n) ≡ n
digit_of n small =
    let is : is_ascii_digit (48 + n) ≡ true = grind (arith, nat_tests) in
    grind (arith, nat_tests)

is_digit : (n : ℕ) → n < 10 → is_ascii_digit (48 + n) ≡ true
is_digit n small = grind (arith, nat_tests)

one_digit : (n : ℕ) → n < 10 → IsDecimal n ((48 + n) ∷ [])
one_digit n small = record {
  are_digits = and_from (is_ascii_digit (48 + n)) true (is_digit n small) refl;
  some = omega arith;
  stands = value_more 10 0 (48 + n) [] ∙ value_none 10 (0 * 10 + digit (48 + n)) ∙ ap (λ (d : ℕ). 0 * 10 + d) (digit_of n small) ∙ (omega arith);
}

more_digits : (n : ℕ) (ds : List ℕ) → 10 ≤ n → IsDecimal (n / 10) ds → IsDecimal n (ds ++ ((48 + n % 10) ∷ []))
more_digits n ds more h =
    let small : n % 10 < 10 = omega arith in
    record {
      are_digits = list_all-append (λ b. is_ascii_digit b) ds ((48 + n % 10) ∷ []) ∙ and_from (all_digits ds) (all_digits ((48 + n % 10) ∷ [])) h.are_digits (and_from (is_ascii_digit (48 + n % 10)) true (is_digit (n % 10) small) refl);
      some = omega (arith, length-append ds ((48 + n % 10) ∷ []), h.some);
      stands = value_last 10 0 (48 + n % 10) ds ∙ (λ i. h.stands i * 10 + digit_of (n % 10) small i) ∙ (omega arith);
    }

pub decimal_is : (n : ℕ) → n < 2 ^ 64 → IsDecimal n (decimal n)
decimal_is n fits = decimal_by_steps IsDecimal one_digit more_digits n fits

-- ---- as tokens

pub digit_word : (b : ℕ) → is_ascii_digit b ≡ true → is_word_byte b ≡ true
digit_word b is = grind (arith, nat_tests)

pub digits_word : (ds : List ℕ) → all_digits ds ≡ true → list_all is_word_byte ds ≡ true
digits_word [] all = refl
digits_word (b ∷ ds) all =
    let parts = and_parts (is_ascii_digit b) (all_digits ds) all in
    and_from (is_word_byte b) (list_all is_word_byte ds) (digit_word b parts.0) (digits_word ds parts.1)

pub first_digit : (ds : List ℕ) → all_digits ds ≡ true → 1 ≤ length ds → is_ascii_digit (slice_index ds 0) ≡ true
first_digit [] all some = absurd (omega arith)
first_digit (b ∷ ds) all some = (and_parts (is_ascii_digit b) (all_digits ds) all).0

literal_digits : (ds : List ℕ) → all_digits ds ≡ true → literal ds ≡ within_u64 (value 10 0 ds)
unfolding literal
literal_digits ds all = ap (λ (c : Bool). cond c (within_u64 (value 10 0 ds)) (cond (is_hex ds) (within_u64 (value 16 0 (drop 2 ds))) (time ds))) all

fits_u64 : (n : ℕ) → n < 2 ^ 64 → within_u64 n ≡ Ok (Number n)
fits_u64 n near = let e : nat_lt n 18446744073709551616 ≡ true = grind (arith, nat_tests) in ap (λ (c : Bool). cond c (Ok (Number n)) (Err L3)) e

pub lexeme_decimal : (n : ℕ) (rest : List ℕ) → n < 2 ^ 64 → Ends rest → lexeme (decimal n ++ rest) ≡ Ok (Number n, length (decimal n))
lexeme_decimal n rest fits ends =
    let d = decimal_is n fits in
    lexeme_number (decimal n) rest (digits_word (decimal n) d.are_digits) (first_digit (decimal n) d.are_digits d.some) ends
    ∙ ap (λ r. with_len r (length (decimal n))) (literal_digits (decimal n) d.are_digits ∙ ap within_u64 d.stands ∙ fits_u64 n fits)
