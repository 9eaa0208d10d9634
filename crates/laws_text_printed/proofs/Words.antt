-- Words, numbers and times at the front of a text: a run of letters, digits and `_`, up to a byte that is none.
use Rattle.std.proofs.Common.{◌≡◌, refl, ap, ◌∙◌, ℕ, suc, ◌+◌, Bool, true, false, cond, List, [], ◌∷◌, ◌++◌, length, take, Ok, Err, arith}
use Rattle.std.specs.Prelude.{nat_lt, ◌==◌, slice_index}
use Rattle.std.specs.List.{prefix_len, list_all}
use Rattle.std.specs.Char.{is_ascii_alphabetic, is_ascii_digit}
use Rattle.std.proofs.Math.Seq.{take-append_seam}
use Rattle.std.proofs.lemmas.Bool.{and_parts}
use Rattle.std.proofs.lemmas.Bool.Decides.{nat_tests}
use Rattle.laws_text_printed.specs.SpellingWords.{Ends}
use Rattle.ceu_lex.specs.Bytes.{is_word_byte}
use Rattle.ceu_lex.specs.Tables.{Text}
use Rattle.ceu_lex.specs.Lexemes.{Lexeme, word_len, reserved, kind_of_word, word, underscore, literal, with_len, number, symbol, lexeme}
use Rattle.ceu_base.specs.declared.kinds.Rule.TheVariants.{L1, L5}
use Rattle.ceu_lex.specs.declared.token.TokenKind.TheVariants.{Under}

one_more : (n : ℕ) → 1 + n ≡ suc n
one_more n = omega arith

no_run : (p : ℕ → Bool) (rest : List ℕ) → p (slice_index rest 0) ≡ false → prefix_len p rest ≡ 0
no_run p [] ends = refl
no_run p (b ∷ rest) ends = ap (λ (c : Bool). cond c (1 + prefix_len p rest) 0) ends

-- a run up to a byte that doesn't belong to it
pub run_len : (p : ℕ → Bool) (w rest : List ℕ) → list_all p w ≡ true → p (slice_index rest 0) ≡ false → prefix_len p (w ++ rest) ≡ length w
run_len p [] rest all ends = no_run p rest ends
run_len p (b ∷ w) rest all ends =
    let parts = and_parts (p b) (list_all p w) all in
    ap (λ (c : Bool). cond c (1 + prefix_len p (w ++ rest)) 0) parts.0
    ∙ ap (λ (n : ℕ). 1 + n) (run_len p w rest parts.1 ends)
    ∙ one_more (length w)

pub run_text : (p : ℕ → Bool) (w rest : List ℕ) → list_all p w ≡ true → p (slice_index rest 0) ≡ false → take (prefix_len p (w ++ rest)) (w ++ rest) ≡ w
run_text p w rest all ends = ap (λ (n : ℕ). take n (w ++ rest)) (run_len p w rest all ends) ∙ take-append_seam w rest

-- ---- words

abbrev pub word_of : Text → Lexeme
word_of text = cond (nat_lt 64 (length text)) (Err L5) (Ok (kind_of_word (reserved text) text, length text))

word_is : (text : Text) → word text ≡ word_of (take (word_len text) text)
unfolding word
word_is text = refl

begins_word : (b : ℕ) (w rest : List ℕ) → is_ascii_alphabetic b ≡ true → lexeme (b ∷ w ++ rest) ≡ word (b ∷ w ++ rest)
unfolding lexeme
begins_word b w rest letter =
    let text = b ∷ w ++ rest in
    ap (λ (c : Bool). cond c (word text) (cond (b == 95) (underscore text) (cond (is_ascii_digit b) (number text) (symbol text)))) letter

-- a word before a byte that doesn't belong to it
pub lexeme_word : (w rest : List ℕ) → list_all is_word_byte w ≡ true → is_ascii_alphabetic (slice_index w 0) ≡ true → Ends rest → lexeme (w ++ rest) ≡ word_of w
lexeme_word [] rest all letter ends = absurd (cc)
lexeme_word (b ∷ w) rest all letter ends =
    begins_word b w rest letter
    ∙ word_is (b ∷ w ++ rest)
    ∙ ap word_of (run_text is_word_byte (b ∷ w) rest all ends)

begins_under : (rest : List ℕ) → lexeme (95 ∷ rest) ≡ underscore (95 ∷ rest)
unfolding lexeme
begins_under rest = refl

underscore_is : (text : Text) → underscore text ≡ cond (word_len text == 1) (Ok (Under, 1)) (Err L1)
unfolding underscore
underscore_is text = refl

pub lexeme_under : (rest : List ℕ) → Ends rest → lexeme (95 ∷ rest) ≡ Ok (Under, 1)
lexeme_under rest ends =
    begins_under rest
    ∙ underscore_is (95 ∷ rest)
    ∙ ap (λ (n : ℕ). let r : Lexeme = cond (n == 1) (Ok (Under, 1)) (Err L1) in r) (run_len is_word_byte (95 ∷ []) rest refl ends)

-- ---- numbers and times

number_is : (text : Text) → number text ≡ with_len (literal (take (word_len text) text)) (word_len text)
unfolding number
number_is text = refl

begins_number : (b : ℕ) (w rest : List ℕ) → is_ascii_digit b ≡ true → lexeme (b ∷ w ++ rest) ≡ number (b ∷ w ++ rest)
unfolding lexeme
begins_number b w rest is =
    let text = b ∷ w ++ rest in
    let letter : is_ascii_alphabetic b ≡ false = grind (arith, nat_tests) in
    let under : (b == 95) ≡ false = grind (arith, nat_tests) in
    ap (λ (c : Bool). cond c (word text) (cond (b == 95) (underscore text) (cond (is_ascii_digit b) (number text) (symbol text)))) letter
    ∙ ap (λ (c : Bool). cond c (underscore text) (cond (is_ascii_digit b) (number text) (symbol text))) under
    ∙ ap (λ (c : Bool). cond c (number text) (symbol text)) is

-- a number or a time before a byte that doesn't belong to it
pub lexeme_number : (w rest : List ℕ) → list_all is_word_byte w ≡ true → is_ascii_digit (slice_index w 0) ≡ true → Ends rest → lexeme (w ++ rest) ≡ with_len (literal w) (length w)
lexeme_number [] rest all is ends = absurd (cc)
lexeme_number (b ∷ w) rest all is ends =
    begins_number b w rest is
    ∙ number_is (b ∷ w ++ rest)
    ∙ (λ i. with_len (literal (run_text is_word_byte (b ∷ w) rest all ends i)) (run_len is_word_byte (b ∷ w) rest all ends i))
