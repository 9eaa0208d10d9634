-- The token at the front of a text is the longest one.
use Rattle.std.proofs.Common.{◌≡◌, ◌⊎◌, inl, inr, ℕ, zero, suc, ◌+◌, ◌≤◌, ◌<◌, ◌&&◌, ◌||◌, not, Bool, true, false, cond, List, [], ◌∷◌, length, take, length-take, Ok, Err, refl, sym, ap, ◌∙◌, arith}
use Rattle.std.specs.Prelude.{Result, nat_eq, nat_le, nat_lt, slice_index}
use Rattle.std.specs.List.{prefix_len, starts_with, list_all}
use lib.Pointwise.{pointwise}
use Rattle.std.specs.Char.{is_ascii_alphabetic, is_ascii_digit}
use Rattle.std.proofs.str.Laws.{order}
use Rattle.std.proofs.lemmas.Bool.Decides.{nat_tests}
use Rattle.std.proofs.lemmas.List.{take-take}
use Rattle.std.proofs.lemmas.List.Folds.{length-prefix_len}
use Rattle.ceu_lex.specs.Bytes.{is_word_byte}
use Rattle.ceu_lex.specs.Tables.{Text, symbols}
use Rattle.ceu_lex.specs.Lexemes.{Lexeme, word_len, reserved, kind_of_word, word, underscore, literal, with_len, number, symbol_in, symbol, lexeme}
use Rattle.ceu_base.specs.declared.kinds.Rule.{Rule}
use Rattle.ceu_base.specs.declared.kinds.Rule.TheVariants.{L1, L5}
use Rattle.ceu_lex.specs.declared.token.Sym.{Sym}
use Rattle.ceu_lex.specs.declared.token.TokenKind.{TokenKind}
use Rattle.ceu_lex.specs.declared.token.TokenKind.TheVariants.{Under, Symbol}

decide : (b : Bool) → (b ≡ true) ⊎ (b ≡ false)
decide true = inl refl
decide false = inr refl

-- ---- pieces of a text

take_none : (m : ℕ) → (let none : List ℕ = [] in take m none ≡ none)
take_none zero = refl
take_none (suc m) = refl

run_step : (b : Bool) (r s m : ℕ) → (r ≤ m → s ≡ r) → cond b (1 + r) 0 ≤ suc m → cond b (1 + s) 0 ≡ cond b (1 + r) 0
run_step true r s m f h = ap (λ (n : ℕ). 1 + n) (f (omega arith))
run_step false r s m f h = refl

-- a run that ends within a piece is that piece's run
run_kept : (p : ℕ → Bool) (bytes : List ℕ) (m : ℕ) → prefix_len p bytes ≤ m → prefix_len p (take m bytes) ≡ prefix_len p bytes
run_kept p [] m h = ap (prefix_len p) (take_none m)
run_kept p (b ∷ bytes) zero h = omega arith
run_kept p (b ∷ bytes) (suc m) h = run_step (p b) (prefix_len p bytes) (prefix_len p (take m bytes)) m (run_kept p bytes m) h

first_kept : (bytes : List ℕ) (m : ℕ) → 1 ≤ m → slice_index (take m bytes) 0 ≡ slice_index bytes 0
first_kept bytes zero some = absurd (omega arith)
first_kept [] (suc m) some = refl
first_kept (b ∷ bytes) (suc m) some = refl

-- ---- a kind and a length from a lexeme

ok_pair : (j k : TokenKind) (l n : ℕ) → (let r : Lexeme = Ok (j, l) in r ≡ Ok (k, n)) → l ≡ n
ok_pair j k l n e = let pair : (j, l) ≡ (k, n) = cc in ap (λ (x : TokenKind × ℕ). x.1) pair

unless_len : (b : Bool) (r : Rule) (j k : TokenKind) (l n : ℕ) → (let x : Lexeme = cond b (Err r) (Ok (j, l)) in x ≡ Ok (k, n)) → l ≡ n
unless_len true r j k l n e = absurd (cc)
unless_len false r j k l n e = ok_pair j k l n e

with_len-len : (r : Result TokenKind Rule) (l : ℕ) (k : TokenKind) (n : ℕ) → with_len r l ≡ Ok (k, n) → l ≡ n
with_len-len (Ok j) l k n e = ok_pair j k l n e
with_len-len (Err r) l k n e = absurd (cc)

-- ---- words and numbers

abbrev word_of : Text → Lexeme
word_of text = cond (nat_lt 64 (length text)) (Err L5) (Ok (kind_of_word (reserved text) text, length text))

word_is : (text : Text) → word text ≡ word_of (take (word_len text) text)
unfolding word
word_is text = refl

number_is : (text : Text) → number text ≡ with_len (literal (take (word_len text) text)) (word_len text)
unfolding number
number_is text = refl

underscore_is : (text : Text) → underscore text ≡ cond (nat_eq (word_len text) 1) (Ok (Under, 1)) (Err L1)
unfolding underscore
underscore_is text = refl

word-len : (text : Text) (k : TokenKind) (n : ℕ) → word text ≡ Ok (k, n) → word_len text ≡ n
word-len text k n is =
    let run = take (word_len text) text in
    sym (length-prefix_len is_word_byte text) ∙ unless_len (nat_lt 64 (length run)) L5 (kind_of_word (reserved run) run) k (length run) n (sym (word_is text) ∙ is)

number-len : (text : Text) (k : TokenKind) (n : ℕ) → number text ≡ Ok (k, n) → word_len text ≡ n
number-len text k n is = with_len-len (literal (take (word_len text) text)) (word_len text) k n (sym (number_is text) ∙ is)

one_byte : (b : Bool) (k : TokenKind) (n : ℕ) → (let r : Lexeme = cond b (Ok (Under, 1)) (Err L1) in r ≡ Ok (k, n)) → (b ≡ true) × (n ≡ 1)
one_byte true k n is = (refl, sym (ok_pair Under k 1 n is))
one_byte false k n is = absurd (cc)

underscore-len : (text : Text) (k : TokenKind) (n : ℕ) → underscore text ≡ Ok (k, n) → (word_len text ≡ 1) × (n ≡ 1)
underscore-len text k n is =
    let found = one_byte (nat_eq (word_len text) 1) k n (sym (underscore_is text) ∙ is) in
    let one : nat_eq (word_len text) 1 ≡ true = found.0 in
    (grind (arith, nat_tests), found.1)

-- the run at the front, in a piece that holds it
run_taken : (text : Text) (m : ℕ) → word_len text ≤ m → take (word_len (take m text)) (take m text) ≡ take (word_len text) text
run_taken text m le = ap (λ (n : ℕ). take n (take m text)) (run_kept is_word_byte text m le) ∙ take-take (word_len text) m text le

word_kept : (text : Text) (m : ℕ) → word_len text ≤ m → word (take m text) ≡ word text
word_kept text m le = word_is (take m text) ∙ ap word_of (run_taken text m le) ∙ sym (word_is text)

number_kept : (text : Text) (m : ℕ) → word_len text ≤ m → number (take m text) ≡ number text
number_kept text m le =
    number_is (take m text)
    ∙ ap (λ (run : Text). with_len (literal run) (word_len (take m text))) (run_taken text m le)
    ∙ ap (with_len (literal (take (word_len text) text))) (run_kept is_word_byte text m le)
    ∙ sym (number_is text)

underscore_kept : (text : Text) (m : ℕ) → word_len text ≤ m → underscore (take m text) ≡ underscore text
underscore_kept text m le =
    underscore_is (take m text)
    ∙ ap (λ (n : ℕ). let r : Lexeme = cond (nat_eq n 1) (Ok (Under, 1)) (Err L1) in r) (run_kept is_word_byte text m le)
    ∙ sym (underscore_is text)

-- ---- symbols

starts_kept : (text e : Text) (m : ℕ) → length e ≤ m → starts_with nat_eq (take m text) e ≡ starts_with nat_eq text e
starts_kept text e m le = ap (pointwise nat_eq e) (take-take (length e) m text le)

and_false : (b : Bool) → (b && false) ≡ false
and_false true = refl
and_false false = refl

too_short : (e text : Text) → length text < length e → pointwise nat_eq e text ≡ false
too_short [] text less = absurd (omega arith)
too_short (x ∷ e) [] less = refl
too_short (x ∷ e) (b ∷ text) less = ap (λ (c : Bool). nat_eq x b && c) (too_short e text (omega arith)) ∙ and_false (nat_eq x b)

starts_not : (text e : Text) (m : ℕ) → starts_with nat_eq text e ≡ false → starts_with nat_eq (take m text) e ≡ false
starts_not text e m fails = elim (order (length e) (m + 1)) [
  | inl within ↦ starts_kept text e m (omega arith) ∙ fails
  | inr past ↦ too_short e (take (length e) (take m text)) (omega (arith, length-take (length e) (take m text), length-take m text))
]

abbrev or_later : Bool → Text × Sym → Lexeme → Lexeme
or_later b e rest = cond b (Ok (Symbol e.1, length e.0)) rest

symbol_kept : (table : List (Text × Sym)) (text : Text) (k : TokenKind) (n m : ℕ) → symbol_in table text ≡ Ok (k, n) → n ≤ m → symbol_in table (take m text) ≡ Ok (k, n)
symbol_kept [] text k n m is le = absurd (cc)
symbol_kept (e ∷ table) text k n m is le = elim (decide (starts_with nat_eq text e.0)) [
  | inl holds ↦
      let here = sym (ap (λ (c : Bool). or_later c e (symbol_in table text)) holds) ∙ is in
      let len : length e.0 ≡ n = ok_pair (Symbol e.1) k (length e.0) n here in
      ap (λ (c : Bool). or_later c e (symbol_in table (take m text))) (starts_kept text e.0 m (omega arith) ∙ holds) ∙ here
  | inr fails ↦
      let later = sym (ap (λ (c : Bool). or_later c e (symbol_in table text)) fails) ∙ is in
      ap (λ (c : Bool). or_later c e (symbol_in table (take m text))) (starts_not text e.0 m fails) ∙ symbol_kept table text k n m later le
]

both : (a b : Bool) → (a && b) ≡ true → (a ≡ true) × (b ≡ true)
both true true e = (refl, refl)
both true false e = absurd (cc)
both false b e = absurd (cc)

symbol-len : (table : List (Text × Sym)) (text : Text) (k : TokenKind) (n : ℕ) → list_all (λ e. nat_lt 0 (length e.0)) table ≡ true → symbol_in table text ≡ Ok (k, n) → 1 ≤ n
symbol-len [] text k n some is = absurd (cc)
symbol-len (e ∷ table) text k n some is =
    let parts = both (nat_lt 0 (length e.0)) (list_all (λ e. nat_lt 0 (length e.0)) table) some in
    elim (decide (starts_with nat_eq text e.0)) [
      | inl holds ↦
          let here = sym (ap (λ (c : Bool). or_later c e (symbol_in table text)) holds) ∙ is in
          let len : length e.0 ≡ n = ok_pair (Symbol e.1) k (length e.0) n here in
          let more : nat_lt 0 (length e.0) ≡ true = parts.0 in
          grind (arith, nat_tests)
      | inr fails ↦ symbol-len table text k n parts.1 (sym (ap (λ (c : Bool). or_later c e (symbol_in table text)) fails) ∙ is)
    ]

-- longer symbols come first
abbrev descending : List (Text × Sym) → Bool
descending [] = true
descending (e ∷ table) = list_all (λ f. nat_le (length f.0) (length e.0)) table && descending table

abbrev is_no_longer : Text → ℕ → Text × Sym → Bool
is_no_longer text n e = not (starts_with nat_eq text e.0) || nat_le (length e.0) n

or_true : (a b : Bool) → b ≡ true → (not a || b) ≡ true
or_true true b is = is
or_true false b is = refl

rest_no_longer : (table : List (Text × Sym)) (text : Text) (l n : ℕ) → l ≡ n → list_all (λ f. nat_le (length f.0) l) table ≡ true → list_all (is_no_longer text n) table ≡ true
rest_no_longer [] text l n same all = refl
rest_no_longer (f ∷ table) text l n same all =
    let parts = both (nat_le (length f.0) l) (list_all (λ f. nat_le (length f.0) l) table) all in
    let this : nat_le (length f.0) n ≡ true = sym (ap (λ (k : ℕ). nat_le (length f.0) k) same) ∙ parts.0 in
    (λ i. or_true (starts_with nat_eq text f.0) (nat_le (length f.0) n) this i && rest_no_longer table text l n same parts.1 i)

none_longer : (table : List (Text × Sym)) (text : Text) (k : TokenKind) (n : ℕ) → descending table ≡ true → symbol_in table text ≡ Ok (k, n) → list_all (is_no_longer text n) table ≡ true
none_longer [] text k n sorted is = refl
none_longer (e ∷ table) text k n sorted is =
    let parts = both (list_all (λ f. nat_le (length f.0) (length e.0)) table) (descending table) sorted in
    elim (decide (starts_with nat_eq text e.0)) [
      | inl holds ↦
          let here = sym (ap (λ (c : Bool). or_later c e (symbol_in table text)) holds) ∙ is in
          let len : length e.0 ≡ n = ok_pair (Symbol e.1) k (length e.0) n here in
          let this : nat_le (length e.0) n ≡ true = grind (arith, nat_tests) in
          let rest = rest_no_longer table text (length e.0) n len parts.0 in
          (λ i. or_true (starts_with nat_eq text e.0) (nat_le (length e.0) n) this i && rest i)
      | inr fails ↦
          let later = sym (ap (λ (c : Bool). or_later c e (symbol_in table text)) fails) ∙ is in
          let rest = none_longer table text k n parts.1 later in
          (λ i. (not (fails i) || nat_le (length e.0) n) && rest i)
    ]

pub no_longer_symbol : (text : List ℕ) (kind : TokenKind) (n : ℕ) → symbol text ≡ Ok (kind, n) → list_all (λ e. not (starts_with nat_eq text e.0) || nat_le (length e.0) n) symbols ≡ true
unfolding symbol symbols
no_longer_symbol text kind n is = none_longer symbols text kind n refl is

-- ---- any token

abbrev chosen : (a c d : Bool) → (w u n s : Lexeme) → Lexeme
chosen a c d w u n s = cond a w (cond c u (cond d n s))

lexeme_is : (text : Text) → lexeme text ≡ (let b = slice_index text 0 in chosen (is_ascii_alphabetic b) (nat_eq b 95) (is_ascii_digit b) (word text) (underscore text) (number text) (symbol text))
unfolding lexeme
lexeme_is text = refl

by_kind : (P : Lexeme → Type 0) (a c d : Bool) (w u n s : Lexeme) → (a ≡ true → P w) → P u → (d ≡ true → P n) → P s → P (chosen a c d w u n s)
by_kind P true c d w u n s f g h j = f refl
by_kind P false true d w u n s f g h j = g
by_kind P false false true w u n s f g h j = h refl
by_kind P false false false w u n s f g h j = j

word_some : (text : Text) → is_word_byte (slice_index text 0) ≡ true → 1 ≤ word_len text
word_some [] is = absurd (cc)
word_some (b ∷ text) is =
    let e = ap (λ (c : Bool). cond c (1 + prefix_len is_word_byte text) 0) is in
    omega (arith, e)

letter_in_word : (b : ℕ) → is_ascii_alphabetic b ≡ true → is_word_byte b ≡ true
letter_in_word b is = grind (arith, nat_tests)

digit_in_word : (b : ℕ) → is_ascii_digit b ≡ true → is_word_byte b ≡ true
digit_in_word b is = grind (arith, nat_tests)

abbrev FoundSome : TokenKind → ℕ → Lexeme → Type 0
FoundSome k n r = r ≡ Ok (k, n) → 1 ≤ n

symbol_some : (text : Text) (k : TokenKind) (n : ℕ) → symbol text ≡ Ok (k, n) → 1 ≤ n
unfolding symbol symbols
symbol_some text k n is = symbol-len symbols text k n refl is

-- a token has some byte
some : (text : Text) (k : TokenKind) (n : ℕ) → lexeme text ≡ Ok (k, n) → 1 ≤ n
some text k n is =
    by_kind (FoundSome k n) (is_ascii_alphabetic (slice_index text 0)) (nat_eq (slice_index text 0) 95) (is_ascii_digit (slice_index text 0)) (word text) (underscore text) (number text) (symbol text)
    (λ letter e. omega (arith, word_some text (letter_in_word (slice_index text 0) letter), word-len text k n e))
    (λ e. omega (arith, (underscore-len text k n e).1))
    (λ digit e. omega (arith, word_some text (digit_in_word (slice_index text 0) digit), number-len text k n e))
    (symbol_some text k n)
    (sym (lexeme_is text) ∙ is)

by_kinds : (P : Lexeme → Lexeme → Type 0) (a c d : Bool) (w u n s w' u' n' s' : Lexeme) → P w w' → P u u' → P n n' → P s s' → P (chosen a c d w u n s) (chosen a c d w' u' n' s')
by_kinds P true c d w u n s w' u' n' s' f g h j = f
by_kinds P false true d w u n s w' u' n' s' f g h j = g
by_kinds P false false true w u n s w' u' n' s' f g h j = h
by_kinds P false false false w u n s w' u' n' s' f g h j = j

abbrev Kept : TokenKind → ℕ → Lexeme → Lexeme → Type 0
Kept k n r s = r ≡ Ok (k, n) → s ≡ Ok (k, n)

symbols_kept : (text : Text) (k : TokenKind) (n m : ℕ) → n ≤ m → symbol text ≡ Ok (k, n) → symbol (take m text) ≡ Ok (k, n)
unfolding symbol
symbols_kept text k n m le is = symbol_kept symbols text k n m is le

pub kept : (text : List ℕ) (kind : TokenKind) (n m : ℕ) → lexeme text ≡ Ok (kind, n) → n ≤ m → lexeme (take m text) ≡ Ok (kind, n)
kept text k n m is le =
    let piece = take m text in
    let more : 1 ≤ m = omega (arith, some text k n is) in
    let first = first_kept text m more in
    lexeme_is piece
    ∙ ap (λ (b : ℕ). chosen (is_ascii_alphabetic b) (nat_eq b 95) (is_ascii_digit b) (word piece) (underscore piece) (number piece) (symbol piece)) first
    ∙ by_kinds (Kept k n) (is_ascii_alphabetic (slice_index text 0)) (nat_eq (slice_index text 0) 95) (is_ascii_digit (slice_index text 0))
    (word text) (underscore text) (number text) (symbol text) (word piece) (underscore piece) (number piece) (symbol piece)
    (λ e. word_kept text m (omega (arith, word-len text k n e)) ∙ e)
    (λ e. underscore_kept text m (omega (arith, (underscore-len text k n e).0, (underscore-len text k n e).1)) ∙ e)
    (λ e. number_kept text m (omega (arith, number-len text k n e)) ∙ e)
    (symbols_kept text k n m le)
    (sym (lexeme_is text) ∙ is)

pub longest : (text : List ℕ) (kind other : TokenKind) (n m : ℕ) → lexeme text ≡ Ok (kind, n) → n < m → lexeme (take m text) ≡ Ok (other, m) → ⊥
longest text kind other n m is less is_other =
    let same : (let r : Lexeme = Ok (kind, n) in r ≡ Ok (other, m)) = sym (kept text kind n m is (omega arith)) ∙ is_other in
    absurd (omega (arith, ok_pair kind other n m same))
