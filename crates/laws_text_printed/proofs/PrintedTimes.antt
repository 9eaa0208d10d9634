-- A printed time is its groups.
use Rattle.std.proofs.Common.{◌≡◌, inl, inr, refl, sym, ap, ◌∙◌, subst, ℕ, ◌/◌, ◌%◌, ◌≤◌, ◌<◌, Bool, true, false, cond, [], ◌++◌, length, codes, append_assoc, append-nil, Ok, arith}
use Rattle.std.specs.Prelude.{◌==◌, slice_index, decimal}
use Rattle.std.proofs.lemmas.Bool.{cases_Bool, eqb-true, eqb-false}
use Rattle.ceu_lex.specs.Bytes.{is_word_byte}
use Rattle.ceu_lex.specs.Tables.{Text}
use Rattle.ceu_lex.specs.Lexemes.{time_limit, lexeme}
use Rattle.ceu_lex.specs.declared.token.TokenKind.TheVariants.{Time}
use Rattle.ceu_tree.specs.declared.kernel.Unit.{Unit as TimeUnit}
use Rattle.ceu_tree.specs.declared.kernel.Unit.TheVariants as unit
use Rattle.ceu_print.specs.Words.{unit_text, group_text, time_text}
use Rattle.laws_text_printed.specs.SpellingWords.{Ends}
use Rattle.laws_text_printed.proofs.Numbers.{digit_word}
use Rattle.laws_text_printed.proofs.Times.{spelled, counted, starts_digit, lexeme_counted, lexeme_no_time}

group_is : (n : ℕ) (u : TimeUnit) (more : Text) → group_text n u ++ more ≡ cond (n == 0) more (decimal n ++ (unit_text u ++ more))
group_is n u more = go (n == 0)
  where
    go : (b : Bool) → cond b [] (decimal n ++ unit_text u) ++ more ≡ cond b more (decimal n ++ (unit_text u ++ more))
    go true = refl
    go false = append_assoc (decimal n) (unit_text u) more

five : (a b c d e : Text) → a ++ b ++ c ++ d ++ e ≡ a ++ (b ++ (c ++ (d ++ (e ++ []))))
five a b c d e = simp (append_assoc, append-nil)

time_is : (us : ℕ) → (us == 0) ≡ false → time_text us ≡ spelled (counted us)
unfolding time_text
time_is us some =
    let h = us / 3600000000 in
    let min = us % 3600000000 / 60000000 in
    let s = us % 60000000 / 1000000 in
    let ms = us % 1000000 / 1000 in
    let micro = us % 1000 in
    let e5 = group_is micro unit.Us [] in
    let e4 = ap (λ t. group_text ms unit.Ms ++ t) e5 ∙ group_is ms unit.Ms _ in
    let e3 = ap (λ t. group_text s unit.S ++ t) e4 ∙ group_is s unit.S _ in
    let e2 = ap (λ t. group_text min unit.Min ++ t) e3 ∙ group_is min unit.Min _ in
    let e1 = ap (λ t. group_text h unit.H ++ t) e2 ∙ group_is h unit.H _ in
    ap (λ (c : Bool). cond c (codes "0us") (group_text h unit.H ++ group_text min unit.Min ++ group_text s unit.S ++ group_text ms unit.Ms ++ group_text micro unit.Us)) some
    ∙ five (group_text h unit.H) (group_text min unit.Min) (group_text s unit.S) (group_text ms unit.Ms) (group_text micro unit.Us)
    ∙ e1

at_zero : time_text 0 ≡ codes "0us"
unfolding time_text
at_zero = refl

-- A time is a token before anything but a letter, a digit or `_`, and begins with a digit.
record IsRead (us : ℕ) (t : Text) : Type 0 where
  is : (rest : Text) → Ends rest → lexeme (t ++ rest) ≡ Ok (Time us, length t)
  starts : is_word_byte (slice_index t 0) ≡ true

some_read : (us : ℕ) → (us == 0) ≡ false → us < time_limit → IsRead us (spelled (counted us))
some_read us some near =
    let one : 1 ≤ us = (let h : us ≡ 0 → ⊥ = eqb-false us 0 some in omega arith) in
    record {
      is = λ rest ends. lexeme_counted us rest one near ends;
      starts = digit_word (slice_index (spelled (counted us)) 0) (starts_digit us one near);
    }

zero_read : IsRead 0 (codes "0us")
zero_read = record { is = λ rest ends. lexeme_no_time rest ends; starts = refl }

time_read : (us : ℕ) → us < time_limit → IsRead us (time_text us)
time_read us near = elim (cases_Bool (us == 0)) [
  | inl none ↦ let zero : us ≡ 0 = eqb-true us 0 none in subst (λ n. IsRead n (time_text n)) (sym zero) (subst (IsRead 0) (sym at_zero) zero_read)
  | inr some ↦ subst (IsRead us) (sym (time_is us some)) (some_read us some near)
]

pub lexeme_time : (us : ℕ) (rest : Text) → us < time_limit → Ends rest → lexeme (time_text us ++ rest) ≡ Ok (Time us, length (time_text us))
lexeme_time us rest near ends = (time_read us near).is rest ends

pub time_starts : (us : ℕ) → us < time_limit → is_word_byte (slice_index (time_text us) 0) ≡ true
time_starts us near = (time_read us near).starts
