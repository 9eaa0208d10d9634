-- The names among the tokens of a text have letters.
use Rattle.std.proofs.Common.{◌≡◌, refl, sym, ℕ, zero, suc, ◌+◌, ◌-◌, ◌≤◌, ◌<◌, List, [], ◌∷◌, Result, Ok, Err, if◌then◌else◌, Bool, true, false, arith, length, take, drop, subst, nat_lt, nat_eq, slice_index, get_or}
use Rattle.std.specs.Char.{is_ascii_alphabetic, is_ascii_digit}
use Rattle.std.proofs.lemmas.List.Folds.{length-prefix_len}
use Rattle.std.specs.Prelude.{◌==◌, ◌&&◌, All}
use Rattle.std.specs.List.{prefix_len, starts_with}
use Rattle.std.specs.Str.{IsUtf8, IsAscii}
use Rattle.std.proofs.lemmas.Str.{IsUtf8-from_ascii}
use Rattle.ceu_base.specs.declared.kinds.Rule.{Rule}
use Rattle.ceu_base.specs.declared.kinds.Rule.TheVariants.{L1, L3, L4, L5}
use Rattle.ceu_lex.specs.Bytes.{is_word_byte}
use Rattle.ceu_lex.specs.Lexemes.{Lexeme, lexeme, word, underscore, number, literal, time, symbol, symbol_in, with_len, within_u64, of_groups, Groups, word_len, kind_of_word, reserved, time_limit, after_groups, all_digits, is_hex, value}
use Rattle.ceu_lex.specs.Tables.{Text, symbols, units}
use Rattle.ceu_lex.specs.Texts.{IsNext, ReadsTo, Reads}
use Rattle.ceu_lex.specs.declared.token.Sym.{Sym}
use Rattle.ceu_lex.specs.declared.token.Token.{Token}
use Rattle.ceu_lex.specs.declared.token.TokenKind.{TokenKind}
use Rattle.ceu_lex.specs.declared.token.TokenKind.TheVariants.{Lower, Ext, Abs, Under, Number, Time, Symbol}
use Rattle.ceu_grammar.specs.Spelling.{HasLetters, IsSpelledAs, IsSpelled}

-- a lexeme that is a name has letters
abbrev Lettered : Text → ℕ → Type 0
Lettered z n = (1 ≤ n) × (n ≤ length z) × IsUtf8 (take n z)

abbrev Fits : Text → Lexeme → Type 0
Fits z (Ok (Lower, n)) = Lettered z n
Fits z (Ok (Ext, n)) = Lettered z n
Fits z (Ok (Abs, n)) = Lettered z n
Fits z _ = Unit {0}

any_kind : (z : Text) (kind : TokenKind) (n : ℕ) → Lettered z n → Fits z (Ok (kind, n))
any_kind z Lower n h = h
any_kind z Ext n h = h
any_kind z Abs n h = h
any_kind z _ n h = tt

either : (z : Text) (b : Bool) (x y : Lexeme) → Fits z x → Fits z y → Fits z (if b then x else y)
either z true x y h g = h
either z false x y h g = g

word_byte : (b : ℕ) → is_word_byte b ≡ true → b < 128
word_byte b h = grind (arith, h)

-- the word bytes at the front of a text
word_ascii : (z : Text) → IsAscii (take (prefix_len is_word_byte z) z)
word_ascii [] i = omega arith
word_ascii (b ∷ z) i = go (is_word_byte b) refl i (λ j. word_ascii z j)
  where
    go : (p : Bool) → is_word_byte b ≡ p → (i : ℕ) → ((j : ℕ) → slice_index (take (prefix_len is_word_byte z) z) j < 128) → slice_index (take (if p then 1 + prefix_len is_word_byte z else 0) (b ∷ z)) i < 128
    go true h zero f = let e : b < 128 = word_byte b h in grind (arith, e)
    go true h (suc i) f = let e : slice_index (take (prefix_len is_word_byte z) z) i < 128 = f i in grind (arith, e)
    go false h i f = grind arith

word_within : (z : Text) → prefix_len is_word_byte z ≤ length z
word_within [] = omega arith
word_within (b ∷ z) = go (is_word_byte b) (word_within z)
  where
    go : (p : Bool) → prefix_len is_word_byte z ≤ length z → (if p then 1 + prefix_len is_word_byte z else 0) ≤ length (b ∷ z)
    go true h = omega arith
    go false h = omega arith

word_some : (z : Text) → is_ascii_alphabetic (slice_index z 0) ≡ true → 1 ≤ prefix_len is_word_byte z
word_some [] h = absurd (cc)
word_some (b ∷ z) h = go (is_word_byte b) refl
  where
    go : (p : Bool) → is_word_byte b ≡ p → 1 ≤ (if p then 1 + prefix_len is_word_byte z else 0)
    go true e = omega arith
    go false e = absurd (grind (arith, h, e))

word_lettered : (z : Text) → is_ascii_alphabetic (slice_index z 0) ≡ true → Lettered z (length (take (word_len z) z))
word_lettered z h = subst (λ n. Lettered z n) (sym (length-prefix_len is_word_byte z)) (word_some z h, word_within z, IsUtf8-from_ascii (take (prefix_len is_word_byte z) z) (word_ascii z))

word_fits : (z : Text) → is_ascii_alphabetic (slice_index z 0) ≡ true → Fits z (word z)
unfolding word
word_fits z h = either z (nat_lt 64 (length (take (word_len z) z))) (Err L5) (Ok (kind_of_word (reserved (take (word_len z) z)) (take (word_len z) z), length (take (word_len z) z))) tt
    (any_kind z (kind_of_word (reserved (take (word_len z) z)) (take (word_len z) z)) (length (take (word_len z) z)) (word_lettered z h))

abbrev Numeric : Result TokenKind Rule → Type 0
Numeric (Ok (Number n)) = Unit {0}
Numeric (Ok (Time n)) = Unit {0}
Numeric (Ok _) = ⊥
Numeric (Err rule) = Unit {0}

either_numeric : (b : Bool) (x y : Result TokenKind Rule) → Numeric x → Numeric y → Numeric (if b then x else y)
either_numeric true x y h g = h
either_numeric false x y h g = g

with_len_fits : (z : Text) (r : Result TokenKind Rule) (n : ℕ) → Numeric r → Fits z (with_len r n)
with_len_fits z (Ok (Number m)) n h = tt
with_len_fits z (Ok (Time m)) n h = tt
with_len_fits z (Ok _) n h = absurd h
with_len_fits z (Err rule) n h = tt

within_numeric : (n : ℕ) → Numeric (within_u64 n)
within_numeric n = either_numeric (nat_lt n 18446744073709551616) (Ok (Number n)) (Err L3) tt tt

groups_numeric : (g : Groups) → Numeric (of_groups g)
groups_numeric g = either_numeric (nat_eq (length g.rest) 0 && nat_lt g.total time_limit) (Ok (Time g.total)) (Err L4) tt tt

time_numeric : (text : Text) → Numeric (time text)
unfolding time
time_numeric text = groups_numeric (after_groups units (record { total = 0; rest = text }))

literal_numeric : (text : Text) → Numeric (literal text)
unfolding literal
literal_numeric text = either_numeric (all_digits text) (within_u64 (value 10 0 text)) (if is_hex text then within_u64 (value 16 0 (drop 2 text)) else time text) (within_numeric (value 10 0 text))
    (either_numeric (is_hex text) (within_u64 (value 16 0 (drop 2 text))) (time text) (within_numeric (value 16 0 (drop 2 text))) (time_numeric text))

number_fits : (z : Text) → Fits z (number z)
unfolding number
number_fits z = with_len_fits z (literal (take (word_len z) z)) (word_len z) (literal_numeric (take (word_len z) z))

underscore_fits : (z : Text) → Fits z (underscore z)
unfolding underscore
underscore_fits z = either z (word_len z == 1) (Ok (Under, 1)) (Err L1) tt tt

symbol_fits : (z : Text) (table : List (Text × Sym)) → Fits z (symbol_in table z)
symbol_fits z [] = tt
symbol_fits z (entry ∷ table) = either z (starts_with nat_eq z entry.0) (Ok (Symbol entry.1, length entry.0)) (symbol_in table z) tt (symbol_fits z table)

all_symbols : (z : Text) → Fits z (symbol z)
unfolding symbol
all_symbols z = symbol_fits z symbols

lexeme_fits : (z : Text) → Fits z (lexeme z)
unfolding lexeme
lexeme_fits z = go (is_ascii_alphabetic (slice_index z 0)) refl
  where
    others : Fits z (if slice_index z 0 == 95 then underscore z else (if is_ascii_digit (slice_index z 0) then number z else symbol z))
    others = either z (slice_index z 0 == 95) (underscore z) (if is_ascii_digit (slice_index z 0) then number z else symbol z) (underscore_fits z) (either z (is_ascii_digit (slice_index z 0)) (number z) (symbol z) (number_fits z) (all_symbols z))

    go : (p : Bool) → is_ascii_alphabetic (slice_index z 0) ≡ p → Fits z (if p then word z else (if slice_index z 0 == 95 then underscore z else (if is_ascii_digit (slice_index z 0) then number z else symbol z)))
    go true h = word_fits z h
    go false h = others

-- ---- tokens

dropped : (n : ℕ) (text : List ℕ) → length (drop n text) ≡ length text - n
dropped zero text = omega arith
dropped (suc n) [] = omega arith
dropped (suc n) (b ∷ text) = let e : length (drop n text) ≡ length text - n = dropped n text in omega arith

letters_of : (text : List ℕ) (token : Token) (n : ℕ) → token.end ≡ token.start + n → Lettered (drop token.start text) n → HasLetters text token
letters_of text token n e h =
    let l : length (drop token.start text) ≡ length text - token.start = dropped token.start text in
    let some : 1 ≤ n = h.0 in
    let few : n ≤ length (drop token.start text) = h.1 in
    record { ordered = omega arith; within = omega arith; utf8 = subst (λ u. IsUtf8 (take u (drop token.start text))) (n_is token.start token.end n e) h.2 }
  where
    n_is : (a b n : ℕ) → b ≡ a + n → n ≡ b - a
    n_is a b n h = omega arith

spelled_as : (text : List ℕ) (token : Token) (kind : TokenKind) (n : ℕ) → token.end ≡ token.start + n → Fits (drop token.start text) (Ok (kind, n)) → IsSpelledAs kind text token
spelled_as text token Lower n e h = letters_of text token n e h
spelled_as text token Ext n e h = letters_of text token n e h
spelled_as text token Abs n e h = letters_of text token n e h
spelled_as text token _ n e h = tt

token_spelled : (text : List ℕ) (at : ℕ) (token : Token) → IsNext text at token → IsSpelled text token
token_spelled text at token h = spelled_as text token token.kind h.longest.0 h.longest.2 (subst (Fits (drop token.start text)) h.longest.1 (lexeme_fits (drop token.start text)))

reads_to : (text : List ℕ) (from : ℕ) (tokens : List Token) (to : ℕ) → ReadsTo text from tokens to → (i : ℕ) (d : Token) → i < length tokens → IsSpelled text (get_or tokens i d)
reads_to text from [] to h i d l = absurd (omega arith)
reads_to text from (t ∷ ts) to h zero d l = token_spelled text from t h.0
reads_to text from (t ∷ ts) to h (suc i) d l = reads_to text t.end ts to h.1 i d (omega arith)

pub spelled : (text : List ℕ) (tokens : List Token) → Reads text tokens → All (IsSpelled text) tokens
spelled text tokens h i d l = reads_to text 0 tokens h.0 h.1 i d l
