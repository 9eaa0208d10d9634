-- Times as they are printed: groups of a number and a unit, where the number isn't 0.
use Rattle.std.proofs.Common.{◌≡◌, refl, sym, ap, ◌∙◌, ℕ, ◌+◌, ◌*◌, ◌/◌, ◌%◌, ◌^◌, ◌≤◌, ◌<◌, Bool, true, false, cond, not, ◌&&◌, ◌||◌, List, [], ◌∷◌, ◌++◌, length, length-append, map, take, drop, codes, append_assoc, Ok, Err, arith}
use Rattle.std.specs.Prelude.{nat_lt, nat_eq, ◌==◌, slice_index, decimal}
use Rattle.std.specs.List.{list_all, prefix_len}
use Rattle.std.specs.Str.{bytes_eq}
use Rattle.std.specs.Char.{is_ascii_alphabetic, is_ascii_digit}
use Rattle.std.proofs.Math.Seq.{drop-append_seam}
use Rattle.std.proofs.lemmas.Bool.{and_parts, and_from, and_left, and_right, eqb-true, eqb-false, not-true, lt-ltb, ne_eqb}
use Rattle.std.proofs.lemmas.Bool.Decides.{nat_tests}
use Rattle.std.proofs.lemmas.List.{drop_at}
use Rattle.std.proofs.lemmas.List.Folds.{list_all-append}
use Rattle.std.proofs.lemmas.Fmt.{first_decimal}
use Rattle.ceu_lex.specs.Bytes.{is_word_byte}
use Rattle.ceu_lex.specs.Tables.{Text, units}
use Rattle.ceu_lex.specs.Lexemes.{value, all_digits, all_hex_digits, within_u64, literal, is_hex, time, of_groups, time_limit, Groups, letters_after, digits_len, has_group, after_group, after_groups, with_len, lexeme}
use Rattle.ceu_lex.specs.declared.token.TokenKind.TheVariants.{Time}
use Rattle.ceu_base.specs.declared.kinds.Rule.TheVariants.{L4}
use Rattle.laws_text_printed.specs.SpellingWords.{Ends}
use Rattle.laws_text_printed.proofs.Words.{run_len, run_text, lexeme_number}
use Rattle.laws_text_printed.proofs.Numbers.{decimal_is, digits_word, first_digit}

-- a unit with its microseconds, and how many of it
abbrev pub Counted : Type 0
Counted = (Text × ℕ) × ℕ

abbrev pub spelled : List Counted → Text
spelled [] = []
spelled (c ∷ cs) = cond (c.1 == 0) (spelled cs) (decimal c.1 ++ (c.0.0 ++ spelled cs))

abbrev pub summed : List Counted → ℕ
summed [] = 0
summed (c ∷ cs) = c.1 * c.0.1 + summed cs

abbrev pub AllFit : List Counted → Type 0
AllFit [] = Unit {0}
AllFit (c ∷ cs) = (c.1 < 2 ^ 64) × AllFit cs

abbrev is_lettered : Text → Bool
is_lettered u = list_all (λ b. is_ascii_alphabetic b) u && is_ascii_alphabetic (slice_index u 0)

abbrev lettered : List Counted → Bool
lettered cs = list_all (λ c. is_lettered c.0.0) cs

-- no unit comes again
abbrev apart : List Counted → Bool
apart [] = true
apart (c ∷ cs) = list_all (λ d. not (bytes_eq d.0.0 c.0.0)) cs && apart cs

split : (P : Text → Type 0) (n : ℕ) (more x : Text) → (n ≡ 0 → P more) → (1 ≤ n → P x) → P (cond (n == 0) more x)
split P n more x none some = go (n == 0) (λ e. none (eqb-true n 0 e)) (λ e. let h : n ≡ 0 → ⊥ = eqb-false n 0 e in some (omega arith))
  where
    go : (b : Bool) → (b ≡ true → P more) → (b ≡ false → P x) → P (cond b more x)
    go true f g = f refl
    go false f g = g refl

letter_no_digit : (b : ℕ) → is_ascii_alphabetic b ≡ true → is_ascii_digit b ≡ false
letter_no_digit b is = grind (arith, nat_tests)

digit_no_letter : (b : ℕ) → is_ascii_digit b ≡ true → is_ascii_alphabetic b ≡ false
digit_no_letter b is = grind (arith, nat_tests)

letter_word : (b : ℕ) → is_ascii_alphabetic b ≡ true → is_word_byte b ≡ true
letter_word b is = grind (arith, nat_tests)

letters_word : (u : Text) → list_all (λ b. is_ascii_alphabetic b) u ≡ true → list_all is_word_byte u ≡ true
letters_word [] all = refl
letters_word (b ∷ u) all =
    let parts = and_parts (is_ascii_alphabetic b) (list_all (λ b. is_ascii_alphabetic b) u) all in
    and_from (is_word_byte b) (list_all is_word_byte u) (letter_word b parts.0) (letters_word u parts.1)

first_kept : (a b : Text) → 1 ≤ length a → slice_index (a ++ b) 0 ≡ slice_index a 0
first_kept [] b some = absurd (omega arith)
first_kept (x ∷ a) b some = refl

unit_no_digit : (u more : Text) → is_ascii_alphabetic (slice_index u 0) ≡ true → is_ascii_digit (slice_index (u ++ more) 0) ≡ false
unit_no_digit [] more letter = absurd (cc)
unit_no_digit (b ∷ u) more letter = letter_no_digit b letter

unit_not_digits : (u more : Text) → is_ascii_alphabetic (slice_index u 0) ≡ true → all_digits (u ++ more) ≡ false
unit_not_digits [] more letter = absurd (cc)
unit_not_digits (b ∷ u) more letter = and_left (is_ascii_digit b) (all_digits (u ++ more)) (letter_no_digit b letter)

-- ---- the front of a group

module _ (n : ℕ) (u more : Text) (fits : n < 2 ^ 64) (letters : is_lettered u ≡ true) where
  group : Text
  group = decimal n ++ (u ++ more)

  parts : (list_all (λ b. is_ascii_alphabetic b) u ≡ true) × (is_ascii_alphabetic (slice_index u 0) ≡ true)
  parts = and_parts (list_all (λ b. is_ascii_alphabetic b) u) (is_ascii_alphabetic (slice_index u 0)) letters

  group_digits : digits_len (decimal n ++ (u ++ more)) ≡ length (decimal n)
  group_digits = run_len (λ b. is_ascii_digit b) (decimal n) (u ++ more) (decimal_is n fits).are_digits (unit_no_digit u more parts.1)

  group_number : take (digits_len (decimal n ++ (u ++ more))) (decimal n ++ (u ++ more)) ≡ decimal n
  group_number = run_text (λ b. is_ascii_digit b) (decimal n) (u ++ more) (decimal_is n fits).are_digits (unit_no_digit u more parts.1)

  group_after : drop (digits_len (decimal n ++ (u ++ more))) (decimal n ++ (u ++ more)) ≡ u ++ more
  group_after = ap (λ (k : ℕ). drop k (decimal n ++ (u ++ more))) group_digits ∙ drop-append_seam (decimal n) (u ++ more)

  group_letters : is_ascii_alphabetic (slice_index more 0) ≡ false → letters_after (digits_len (decimal n ++ (u ++ more))) (decimal n ++ (u ++ more)) ≡ u
  group_letters ends =
      ap (λ (t : Text). take (prefix_len (λ b. is_ascii_alphabetic b) t) t) group_after
      ∙ run_text (λ b. is_ascii_alphabetic b) u more parts.0 ends

  group_rest : drop (digits_len (decimal n ++ (u ++ more)) + length u) (decimal n ++ (u ++ more)) ≡ more
  group_rest =
      ap (λ (k : ℕ). drop (k + length u) (decimal n ++ (u ++ more))) group_digits
      ∙ ap (drop (length (decimal n) + length u)) (sym (append_assoc (decimal n) u more))
      ∙ drop_at (decimal n ++ u) more (length (decimal n) + length u) (length-append (decimal n) u)

  has_is : is_ascii_alphabetic (slice_index more 0) ≡ false → (v : Text) → has_group v (decimal n ++ (u ++ more)) ≡ bytes_eq u v
  has_is ends v = (λ i. nat_lt 0 (group_digits i) && bytes_eq (group_letters ends i) v) ∙ ap (λ (c : Bool). c && bytes_eq u v) (lt-ltb 0 (length (decimal n)) (decimal_is n fits).some)

-- ---- what a printed time is like

starts : (cs : List Counted) → AllFit cs → lettered cs ≡ true → is_ascii_alphabetic (slice_index (spelled cs) 0) ≡ false
starts [] fit letters = refl
starts (c ∷ cs) fit letters =
    let l = and_parts (is_lettered c.0.0) (lettered cs) letters in
    let d = decimal_is c.1 fit.0 in
    split (λ t. is_ascii_alphabetic (slice_index t 0) ≡ false) c.1 (spelled cs) (decimal c.1 ++ (c.0.0 ++ spelled cs))
    (λ zero. starts cs fit.1 l.1)
    (λ some. ap (λ (b : ℕ). is_ascii_alphabetic b) (first_kept (decimal c.1) (c.0.0 ++ spelled cs) d.some) ∙ digit_no_letter (slice_index (decimal c.1) 0) (first_digit (decimal c.1) d.are_digits d.some))

words : (cs : List Counted) → AllFit cs → lettered cs ≡ true → list_all is_word_byte (spelled cs) ≡ true
words [] fit letters = refl
words (c ∷ cs) fit letters =
    let l = and_parts (is_lettered c.0.0) (lettered cs) letters in
    let u = and_parts (list_all (λ b. is_ascii_alphabetic b) c.0.0) (is_ascii_alphabetic (slice_index c.0.0 0)) l.0 in
    let d = decimal_is c.1 fit.0 in
    let rest = words cs fit.1 l.1 in
    split (λ t. list_all is_word_byte t ≡ true) c.1 (spelled cs) (decimal c.1 ++ (c.0.0 ++ spelled cs))
    (λ zero. rest)
    (λ some. list_all-append is_word_byte (decimal c.1) (c.0.0 ++ spelled cs) ∙ and_from (list_all is_word_byte (decimal c.1)) (list_all is_word_byte (c.0.0 ++ spelled cs)) (digits_word (decimal c.1) d.are_digits)
    (list_all-append is_word_byte c.0.0 (spelled cs) ∙ and_from (list_all is_word_byte c.0.0) (list_all is_word_byte (spelled cs)) (letters_word c.0.0 u.0) rest))

record IsTime (t : Text) : Type 0 where
  begins : is_ascii_digit (slice_index t 0) ≡ true
  high : 48 < slice_index t 0
  mixed : all_digits t ≡ false

is_time : (cs : List Counted) → AllFit cs → lettered cs ≡ true → 1 ≤ summed cs → IsTime (spelled cs)
is_time [] fit letters some = absurd (omega arith)
is_time (c ∷ cs) fit letters some =
    let l = and_parts (is_lettered c.0.0) (lettered cs) letters in
    let u = and_parts (list_all (λ b. is_ascii_alphabetic b) c.0.0) (is_ascii_alphabetic (slice_index c.0.0 0)) l.0 in
    let d = decimal_is c.1 fit.0 in
    let first = first_kept (decimal c.1) (c.0.0 ++ spelled cs) d.some in
    split IsTime c.1 (spelled cs) (decimal c.1 ++ (c.0.0 ++ spelled cs))
    (λ zero. is_time cs fit.1 l.1 (let none : c.1 * c.0.1 ≡ 0 = ap (λ (n : ℕ). n * c.0.1) zero ∙ (omega arith) in omega arith))
    (λ one. record {
      begins = ap (λ (b : ℕ). is_ascii_digit b) first ∙ first_digit (decimal c.1) d.are_digits d.some;
      high = let more : 48 < slice_index (decimal c.1) 0 = first_decimal c.1 (omega arith) fit.0 in omega (arith, first);
      mixed = list_all-append (λ b. is_ascii_digit b) (decimal c.1) (c.0.0 ++ spelled cs) ∙ and_right (all_digits (decimal c.1)) (all_digits (c.0.0 ++ spelled cs)) (unit_not_digits c.0.0 (spelled cs) u.1);
    })

-- ---- its groups

not_here : (v : Text) (cs : List Counted) → AllFit cs → lettered cs ≡ true → list_all (λ d. not (bytes_eq d.0.0 v)) cs ≡ true → has_group v (spelled cs) ≡ false
not_here v [] fit letters others = refl
not_here v (c ∷ cs) fit letters others =
    let l = and_parts (is_lettered c.0.0) (lettered cs) letters in
    let o = and_parts (not (bytes_eq c.0.0 v)) (list_all (λ d. not (bytes_eq d.0.0 v)) cs) others in
    split (λ t. has_group v t ≡ false) c.1 (spelled cs) (decimal c.1 ++ (c.0.0 ++ spelled cs))
    (λ zero. not_here v cs fit.1 l.1 o.1)
    (λ some. has_is c.1 c.0.0 (spelled cs) fit.0 l.0 (starts cs fit.1 l.1) v ∙ not-true (bytes_eq c.0.0 v) o.0)

after_is : (u : Text × ℕ) (g : Groups) → after_group u g ≡ cond (has_group u.0 g.rest) (record { total = g.total + value 10 0 (take (digits_len g.rest) g.rest) * u.1; rest = drop (digits_len g.rest + length u.0) g.rest }) g
unfolding after_group
after_is u g = refl

same_text : (v : Text) → bytes_eq v v ≡ true
same_text [] = refl
same_text (b ∷ v) = and_from (nat_eq b b) (bytes_eq v v) (let e : nat_eq b b ≡ true = grind (arith, nat_tests) in e) (same_text v)

abbrev from : ℕ → Text → Groups
from total rest = record { total = total; rest = rest }

one_group : (c : Counted) (cs : List Counted) (total : ℕ) → AllFit (c ∷ cs) → lettered (c ∷ cs) ≡ true → apart (c ∷ cs) ≡ true
    → after_group c.0 (from total (spelled (c ∷ cs))) ≡ from (total + c.1 * c.0.1) (spelled cs)
one_group c cs total fit letters others =
    let l = and_parts (is_lettered c.0.0) (lettered cs) letters in
    let o = and_parts (list_all (λ d. not (bytes_eq d.0.0 c.0.0)) cs) (apart cs) others in
    let more = spelled cs in
    let ends = starts cs fit.1 l.1 in
    split (λ t. after_group c.0 (from total t) ≡ from (total + c.1 * c.0.1) more) c.1 more (decimal c.1 ++ (c.0.0 ++ more))
    (λ zero.
    after_is c.0 (from total more)
    ∙ ap (λ (b : Bool). cond b (from (total + value 10 0 (take (digits_len more) more) * c.0.1) (drop (digits_len more + length c.0.0) more)) (from total more)) (not_here c.0.0 cs fit.1 l.1 o.0)
    ∙ ap (λ (n : ℕ). from n more) (let none : c.1 * c.0.1 ≡ 0 = ap (λ (n : ℕ). n * c.0.1) zero ∙ (omega arith) in let e : total ≡ total + c.1 * c.0.1 = omega arith in e))
    (λ some.
    let t = decimal c.1 ++ (c.0.0 ++ more) in
    after_is c.0 (from total t)
    ∙ ap (λ (b : Bool). cond b (from (total + value 10 0 (take (digits_len t) t) * c.0.1) (drop (digits_len t + length c.0.0) t)) (from total t)) (has_is c.1 c.0.0 more fit.0 l.0 ends c.0.0 ∙ same_text c.0.0)
    ∙ (λ i. from (total + (ap (value 10 0) (group_number c.1 c.0.0 more fit.0 l.0) ∙ (decimal_is c.1 fit.0).stands) i * c.0.1) (group_rest c.1 c.0.0 more fit.0 l.0 i)))

all_groups : (cs : List Counted) (total : ℕ) → AllFit cs → lettered cs ≡ true → apart cs ≡ true → after_groups (map (λ c. c.0) cs) (from total (spelled cs)) ≡ from (total + summed cs) []
all_groups [] total fit letters others = ap (λ (n : ℕ). from n []) (let e : total ≡ total + 0 = omega arith in e)
all_groups (c ∷ cs) total fit letters others =
    let l = and_parts (is_lettered c.0.0) (lettered cs) letters in
    let o = and_parts (list_all (λ d. not (bytes_eq d.0.0 c.0.0)) cs) (apart cs) others in
    ap (after_groups (map (λ c. c.0) cs)) (one_group c cs total fit letters others)
    ∙ all_groups cs (total + c.1 * c.0.1) fit.1 l.1 o.1
    ∙ ap (λ (n : ℕ). from n []) (let e : total + c.1 * c.0.1 + summed cs ≡ total + (c.1 * c.0.1 + summed cs) = omega arith in e)

-- ---- as tokens

literal_time : (t : Text) → IsTime t → literal t ≡ time t
unfolding literal
literal_time t is =
    let no : (slice_index t 0 == 48) ≡ false = ne_eqb (slice_index t 0) 48 (λ e. let h : 48 < slice_index t 0 = is.high in omega arith) in
    let hex : is_hex t ≡ false =
    and_left (nat_lt 2 (length t) && slice_index t 0 == 48 && (slice_index t 1 == 120 || slice_index t 1 == 88)) (all_hex_digits (drop 2 t))
    (and_left (nat_lt 2 (length t) && slice_index t 0 == 48) (slice_index t 1 == 120 || slice_index t 1 == 88) (and_right (nat_lt 2 (length t)) (slice_index t 0 == 48) no)) in
    ap (λ (c : Bool). cond c (within_u64 (value 10 0 t)) (cond (is_hex t) (within_u64 (value 16 0 (drop 2 t))) (time t))) is.mixed
    ∙ ap (λ (c : Bool). cond c (within_u64 (value 16 0 (drop 2 t))) (time t)) hex

time_of : (t : Text) → time t ≡ of_groups (after_groups units (from 0 t))
unfolding time
time_of t = refl

ended : (n : ℕ) → n < time_limit → of_groups (from n []) ≡ Ok (Time n)
ended n near = ap (λ (c : Bool). cond c (Ok (Time n)) (Err L4)) (lt-ltb n time_limit near)

lexeme_groups : (cs : List Counted) (rest : Text) → map (λ c. c.0) cs ≡ units → AllFit cs → lettered cs ≡ true → apart cs ≡ true → 1 ≤ summed cs → summed cs < time_limit → Ends rest
    → lexeme (spelled cs ++ rest) ≡ Ok (Time (summed cs), length (spelled cs))
lexeme_groups cs rest table fit letters others some near ends =
    let is = is_time cs fit letters some in
    lexeme_number (spelled cs) rest (words cs fit letters) is.begins ends
    ∙ ap (λ r. with_len r (length (spelled cs)))
    (literal_time (spelled cs) is ∙ time_of (spelled cs) ∙ ap (λ us. of_groups (after_groups us (from 0 (spelled cs)))) (sym table) ∙ ap of_groups (all_groups cs 0 fit letters others)
    ∙ ap (λ (n : ℕ). of_groups (from n [])) (let e : 0 + summed cs ≡ summed cs = omega arith in e) ∙ ended (summed cs) near)

abbrev pub counted : ℕ → List Counted
counted us =
    ((codes "h", 3600000000), us / 3600000000) ∷
    ((codes "min", 60000000), us % 3600000000 / 60000000) ∷
    ((codes "s", 1000000), us % 60000000 / 1000000) ∷
    ((codes "ms", 1000), us % 1000000 / 1000) ∷
    ((codes "us", 1), us % 1000) ∷ []

counted_table : (us : ℕ) → map (λ c. c.0) (counted us) ≡ units
unfolding units
counted_table us = refl

counted_sum : (us : ℕ) → summed (counted us) ≡ us
counted_sum us = omega arith

counts_fit : (us : ℕ) → us < time_limit → AllFit (counted us)
counts_fit us near = (omega arith, (omega arith, (omega arith, (omega arith, (omega arith, tt)))))

pub lexeme_counted : (us : ℕ) (rest : Text) → 1 ≤ us → us < time_limit → Ends rest → lexeme (spelled (counted us) ++ rest) ≡ Ok (Time us, length (spelled (counted us)))
lexeme_counted us rest some near ends =
    let sum = counted_sum us in
    lexeme_groups (counted us) rest (counted_table us) (counts_fit us near) refl refl (omega (arith, sum)) (omega (arith, sum)) ends
    ∙ ap (λ (n : ℕ). Ok (Time n, length (spelled (counted us)))) sum

zero_is : literal (codes "0us") ≡ Ok (Time 0)
unfolding literal time value after_group units
zero_is = refl

pub lexeme_no_time : (rest : Text) → Ends rest → lexeme (codes "0us" ++ rest) ≡ Ok (Time 0, 3)
lexeme_no_time rest ends = lexeme_number (codes "0us") rest refl refl ends ∙ ap (λ r. with_len r 3) zero_is

pub starts_digit : (us : ℕ) → 1 ≤ us → us < time_limit → is_ascii_digit (slice_index (spelled (counted us)) 0) ≡ true
starts_digit us some near =
    let sum = counted_sum us in
    (is_time (counted us) (counts_fit us near) refl (omega (arith, sum))).begins
