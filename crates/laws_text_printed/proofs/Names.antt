-- What a token's kind says of its bytes.
use Rattle.std.proofs.Common.{◌≡◌, ◌⊎◌, inl, inr, refl, sym, ap, ◌∙◌, subst, ℕ, suc, ◌+◌, ◌≤◌, ◌<◌, Bool, true, false, cond, ◌&&◌, List, [], ◌∷◌, ◌++◌, length, take, drop, Option, Some, None, Ok, Err, arith}
use Rattle.std.specs.Prelude.{Result, nat_lt, nat_eq, ◌==◌, slice_index}
use Rattle.std.specs.List.{list_all, list_any, prefix_len, starts_with}
use Rattle.std.specs.Char.{is_ascii_alphabetic, is_ascii_digit, is_ascii_lowercase, is_ascii_uppercase}
use Rattle.std.proofs.Math.Seq.{take-length}
use Rattle.std.proofs.lemmas.Bool.{and_parts, and_from, ltb-true}
use Rattle.std.proofs.lemmas.Bool.Decides.{nat_tests}
use Rattle.std.proofs.lemmas.List.Folds.{length-prefix_len}
use Rattle.std.proofs.lemmas.List.Sums.{prefix_len-le-length}
use Rattle.ceu_base.specs.declared.kinds.Rule.{Rule}
use Rattle.ceu_base.specs.declared.kinds.Rule.TheVariants.{L1, L3, L4, L5}
use Rattle.ceu_lex.specs.declared.token.Word.{Word}
use Rattle.ceu_lex.specs.declared.token.Sym.{Sym}
use Rattle.ceu_lex.specs.declared.token.TokenKind.{TokenKind}
use Rattle.ceu_lex.specs.declared.token.TokenKind.TheVariants.{Reserved, Lower, Ext, Abs, Under, Number, Time, Symbol}
use Rattle.ceu_lex.specs.Bytes.{is_word_byte}
use Rattle.ceu_lex.specs.Tables.{Text, symbols, units}
use Rattle.ceu_lex.specs.Lexemes.{Lexeme, word_len, reserved, kind_of_word, word, underscore, value, all_digits, is_hex, within_u64, literal, time, time_limit, Groups, of_groups, after_groups, with_len, number, symbol_in, symbol, lexeme}
use Rattle.laws_text_printed.specs.SpellingWords.{Ends, IsName}
use Rattle.laws_text_printed.proofs.Words.{word_of, lexeme_word}

pick : {A : Type 0} (c : Bool) (p q r : A) → cond c p q ≡ r → ((c ≡ true) × (p ≡ r)) ⊎ ((c ≡ false) × (q ≡ r))
pick true p q r e = inl (refl, e)
pick false p q r e = inr (refl, e)

kind_is : (j k : TokenKind) (l n : ℕ) → (let r : Lexeme = Ok (j, l) in r ≡ Ok (k, n)) → (j ≡ k) × (l ≡ n)
kind_is j k l n e = let pair : (j, l) ≡ (k, n) = cc in (ap (λ (x : TokenKind × ℕ). x.0) pair, ap (λ (x : TokenKind × ℕ). x.1) pair)

-- ---- which kinds a number, a symbol and `_` have

abbrev pub Numeric : TokenKind → Type 0
Numeric (Number n) = n < 18446744073709551616
Numeric (Time n) = n < time_limit
Numeric _ = ⊥

abbrev pub IsSymbol : TokenKind → Type 0
IsSymbol (Symbol s) = Unit {0}
IsSymbol _ = ⊥

ok_kind : (j k : TokenKind) → (let r : Result TokenKind Rule = Ok j in r ≡ Ok k) → j ≡ k
ok_kind j k e = cc

numeric_u64 : (v : ℕ) (k : TokenKind) → within_u64 v ≡ Ok k → Numeric k
numeric_u64 v k is = elim (pick (nat_lt v 18446744073709551616) (Ok (Number v)) (Err L3) (Ok k) is) [
  | inl (near, e) ↦ subst Numeric (ok_kind (Number v) k e) (ltb-true v 18446744073709551616 near)
  | inr (far, e) ↦ absurd (cc)
]

numeric_groups : (g : Groups) (k : TokenKind) → of_groups g ≡ Ok k → Numeric k
numeric_groups g k is = elim (pick (nat_eq (length g.rest) 0 && nat_lt g.total time_limit) (Ok (Time g.total)) (Err L4) (Ok k) is) [
  | inl (near, e) ↦ subst Numeric (ok_kind (Time g.total) k e) (ltb-true g.total time_limit (and_parts (nat_eq (length g.rest) 0) (nat_lt g.total time_limit) near).1)
  | inr (far, e) ↦ absurd (cc)
]

literal_is : (t : Text) → literal t ≡ cond (all_digits t) (within_u64 (value 10 0 t)) (cond (is_hex t) (within_u64 (value 16 0 (drop 2 t))) (of_groups (after_groups units (record { total = 0; rest = t }))))
unfolding literal time
literal_is t = refl

pub numeric_literal : (t : Text) (k : TokenKind) → literal t ≡ Ok k → Numeric k
numeric_literal t k is =
    let groups = of_groups (after_groups units (record { total = 0; rest = t })) in
    elim (pick (all_digits t) (within_u64 (value 10 0 t)) (cond (is_hex t) (within_u64 (value 16 0 (drop 2 t))) groups) (Ok k) (sym (literal_is t) ∙ is)) [
      | inl (all, e) ↦ numeric_u64 (value 10 0 t) k e
      | inr (some, e) ↦ elim (pick (is_hex t) (within_u64 (value 16 0 (drop 2 t))) groups (Ok k) e) [
        | inl (hex, f) ↦ numeric_u64 (value 16 0 (drop 2 t)) k f
        | inr (other, f) ↦ numeric_groups (after_groups units (record { total = 0; rest = t })) k f
      ]
    ]

of_len : (r : Result TokenKind Rule) (l : ℕ) (k : TokenKind) (n : ℕ) → with_len r l ≡ Ok (k, n) → r ≡ Ok k
of_len (Ok j) l k n e = ap (λ (x : TokenKind). Ok x) (kind_is j k l n e).0
of_len (Err r) l k n e = absurd (cc)

number_is : (text : Text) → number text ≡ with_len (literal (take (word_len text) text)) (word_len text)
unfolding number
number_is text = refl

numeric_number : (text : Text) (k : TokenKind) (n : ℕ) → number text ≡ Ok (k, n) → Numeric k
numeric_number text k n is =
    let run = take (word_len text) text in
    numeric_literal run k (of_len (literal run) (word_len text) k n (sym (number_is text) ∙ is))

symbol_kind : (table : List (Text × Sym)) (text : Text) (k : TokenKind) (n : ℕ) → symbol_in table text ≡ Ok (k, n) → IsSymbol k
symbol_kind [] text k n is = absurd (cc)
symbol_kind (e ∷ table) text k n is = elim (pick (starts_with nat_eq text e.0) (Ok (Symbol e.1, length e.0)) (symbol_in table text) (Ok (k, n)) is) [
  | inl (here, f) ↦ subst IsSymbol (kind_is (Symbol e.1) k (length e.0) n f).0 tt
  | inr (later, f) ↦ symbol_kind table text k n f
]

symbol_is : (text : Text) → symbol text ≡ symbol_in symbols text
unfolding symbol
symbol_is text = refl

underscore_is : (text : Text) → underscore text ≡ cond (word_len text == 1) (Ok (Under, 1)) (Err L1)
unfolding underscore
underscore_is text = refl

under_kind : (text : Text) (k : TokenKind) (n : ℕ) → underscore text ≡ Ok (k, n) → Under ≡ k
under_kind text k n is = elim (pick (word_len text == 1) (Ok (Under, 1)) (Err L1) (Ok (k, n)) (sym (underscore_is text) ∙ is)) [
  | inl (one, e) ↦ (kind_is Under k 1 n e).0
  | inr (more, e) ↦ absurd (cc)
]

-- ---- any token

lexeme_is : (text : Text) → lexeme text ≡ cond (is_ascii_alphabetic (slice_index text 0)) (word text) (cond (slice_index text 0 == 95) (underscore text) (cond (is_ascii_digit (slice_index text 0)) (number text) (symbol text)))
unfolding lexeme
lexeme_is text = refl

-- what stands at the front of a text
pub data Front (text : Text) (k : TokenKind) (n : ℕ) : Type 0 where
  a_word : is_ascii_alphabetic (slice_index text 0) ≡ true → word text ≡ Ok (k, n) → Front text k n
  an_underscore : Under ≡ k → Front text k n
  a_number : Numeric k → Front text k n
  a_symbol : IsSymbol k → Front text k n

pub front_of : (text : Text) (k : TokenKind) (n : ℕ) → lexeme text ≡ Ok (k, n) → Front text k n
front_of text k n is =
    let b = slice_index text 0 in
    elim (pick (is_ascii_alphabetic b) (word text) (cond (b == 95) (underscore text) (cond (is_ascii_digit b) (number text) (symbol text))) (Ok (k, n)) (sym (lexeme_is text) ∙ is)) [
      | inl (letter, e) ↦ a_word letter e
      | inr (other, e) ↦ elim (pick (b == 95) (underscore text) (cond (is_ascii_digit b) (number text) (symbol text)) (Ok (k, n)) e) [
        | inl (under, f) ↦ an_underscore (under_kind text k n f)
        | inr (rest, f) ↦ elim (pick (is_ascii_digit b) (number text) (symbol text) (Ok (k, n)) f) [
          | inl (begins, g) ↦ a_number (numeric_number text k n g)
          | inr (last, g) ↦ a_symbol (symbol_kind symbols text k n (sym (symbol_is text) ∙ g))
        ]
      ]
    ]

-- ---- names

never_numeric : (k : TokenKind) → IsName k → Numeric k → ⊥
never_numeric (Number n) name is = name
never_numeric (Time n) name is = name
never_numeric (Reserved w) name is = is
never_numeric _ name is = is

never_symbol : (k : TokenKind) → IsName k → IsSymbol k → ⊥
never_symbol (Symbol s) name is = name
never_symbol (Reserved w) name is = is
never_symbol _ name is = is

-- a name is a word
pub name_word : (text : Text) (k : TokenKind) (n : ℕ) → IsName k → lexeme text ≡ Ok (k, n) → (is_ascii_alphabetic (slice_index text 0) ≡ true) × (word text ≡ Ok (k, n))
name_word text k n name is = elim (front_of text k n is) [
  | a_word letter e ↦ (letter, e)
  | an_underscore e ↦ absurd (subst IsName (sym e) name)
  | a_number e ↦ absurd (never_numeric k name e)
  | a_symbol e ↦ absurd (never_symbol k name e)
]

word_is : (text : Text) → word text ≡ word_of (take (word_len text) text)
unfolding word
word_is text = refl

word_size : (w : Text) (k : TokenKind) (n : ℕ) → word_of w ≡ Ok (k, n) → length w ≡ n
word_size w k n is = elim (pick (nat_lt 64 (length w)) (Err L5) (Ok (_, length w)) (Ok (k, n)) is) [
  | inl (long, e) ↦ absurd (cc)
  | inr (fits, e) ↦ (kind_is _ k (length w) n e).1
]

-- ---- a word is a reserved word or a name

abbrev pub IsWord : TokenKind → Type 0
IsWord (Number n) = ⊥
IsWord (Time n) = ⊥
IsWord _ = Unit {0}

by_letters : (a b : Bool) → IsWord (cond a (cond b Abs Ext) Lower)
by_letters true true = tt
by_letters true false = tt
by_letters false b = tt

of_option : (o : Option Word) (w : Text) → IsWord (kind_of_word o w)
of_option (Some word) w = tt
of_option None w = by_letters (is_ascii_uppercase (slice_index w 0)) (list_any (λ b. is_ascii_lowercase b) w)

of_word_kind : (w : Text) (k : TokenKind) (n : ℕ) → word_of w ≡ Ok (k, n) → IsWord k
of_word_kind w k n is = elim (pick (nat_lt 64 (length w)) (Err L5) (Ok (kind_of_word (reserved w) w, length w)) (Ok (k, n)) is) [
  | inl (long, e) ↦ absurd (cc)
  | inr (fits, e) ↦ subst IsWord (kind_is (kind_of_word (reserved w) w) k (length w) n e).0 (of_option (reserved w) w)
]

pub word_kind : (text : Text) (k : TokenKind) (n : ℕ) → word text ≡ Ok (k, n) → IsWord k
word_kind text k n is = of_word_kind (take (word_len text) text) k n (sym (word_is text) ∙ is)

pub word_size_of : (text : Text) (k : TokenKind) (n : ℕ) → word text ≡ Ok (k, n) → word_len text ≡ n
word_size_of text k n is = sym (length-prefix_len is_word_byte text) ∙ word_size (take (word_len text) text) k n (sym (word_is text) ∙ is)

run_step : (c : Bool) (m n : ℕ) → m ≤ n → cond c (1 + m) 0 ≡ suc n → (c ≡ true) × (m ≡ n)
run_step true m n le e = (refl, omega arith)
run_step false m n le e = absurd (omega arith)

run_all : (p : ℕ → Bool) (x : Text) → prefix_len p x ≡ length x → list_all p x ≡ true
run_all p [] whole = refl
run_all p (b ∷ x) whole =
    let s = run_step (p b) (prefix_len p x) (length x) (prefix_len-le-length p x) whole in
    and_from (p b) (list_all p x) s.0 (run_all p x s.1)

pub record IsWhole (x : Text) (k : TokenKind) : Type 0 where
  pub letter : is_ascii_alphabetic (slice_index x 0) ≡ true
  pub bytes : list_all is_word_byte x ≡ true
  pub is : word_of x ≡ Ok (k, length x)

-- a text that is one name
pub whole_name : (x : Text) (k : TokenKind) → IsName k → lexeme x ≡ Ok (k, length x) → IsWhole x k
whole_name x k name is =
    let w = name_word x k (length x) name is in
    let size = word_size_of x k (length x) w.1 in
    record {
      letter = w.0;
      bytes = run_all is_word_byte x size;
      is = ap word_of (sym (take-length x) ∙ ap (λ (n : ℕ). take n x) (sym size)) ∙ sym (word_is x) ∙ w.1;
    }

pub lexeme_name : (x rest : Text) (k : TokenKind) → IsName k → lexeme x ≡ Ok (k, length x) → Ends rest → lexeme (x ++ rest) ≡ Ok (k, length x)
lexeme_name x rest k name is ends = let w = whole_name x k name is in lexeme_word x rest w.bytes w.letter ends ∙ w.is

pub letter_word : (b : ℕ) → is_ascii_alphabetic b ≡ true → is_word_byte b ≡ true
letter_word b is = grind (arith, nat_tests)
