-- A token of the class of external events has a name of theirs.
use Rattle.std.proofs.Common.{◌≡◌, inl, inr, refl, ap, ℕ, ◌≤◌, length, arith, List, [], ◌∷◌, Option, Some, None, Ok, Err, Bool, true, false, cond}
use Rattle.std.specs.Prelude.{Result, ◌&&◌, ◌||◌, ◌==◌, nat_lt, slice_index}
use Rattle.std.specs.Char.{is_ascii_uppercase, is_ascii_lowercase, is_ascii_digit}
use Rattle.std.specs.List.{list_all, list_any}
use Rattle.std.proofs.lemmas.Bool.{lt-ltb}
use Rattle.std.proofs.lemmas.Bool.Decides.{leb_tells}
use Rattle.ceu_base.specs.declared.kinds.Rule.TheVariants.{L5}
use Rattle.ceu_base.specs.declared.kinds.Rule.{Rule}
use Rattle.ceu_lex.specs.declared.token.TokenKind.{TokenKind}
use Rattle.ceu_lex.specs.declared.token.TokenKind.TheVariants.{Lower, Ext, Abs}
use Rattle.ceu_lex.specs.declared.token.Word.{Word}
use Rattle.ceu_lex.specs.Bytes.{is_word_byte}
use Rattle.ceu_lex.specs.Lexemes.{reserved, kind_of_word, lexeme}
use Rattle.ceu_tree.specs.Proper.{is_external_letter, is_external}
use Rattle.laws_text_printed.proofs.Names.{whole_name}
use Rattle.laws_kernel_proper.proofs.Leaves.{both}

-- ---- what the word of a text says

record Short (long : Bool) (k : TokenKind) : Type 0 where
  fits : long ≡ false
  kind : k ≡ Ext

abbrev kind_in : Result (TokenKind × ℕ) Rule → TokenKind
kind_in (Ok p) = p.0
kind_in (Err r) = Ext

short : (long : Bool) (k : TokenKind) (n m : ℕ) (e : Result (TokenKind × ℕ) Rule) → e ≡ Err L5 → cond long e (Ok (k, n)) ≡ Ok (Ext, m) → Short long k
short true k n m e err h = absurd (cc)
short false k n m e err h = record { fits = refl; kind = ap kind_in h }

record Letters (capital small : Bool) : Type 0 where
  capital_is : capital ≡ true
  small_is : small ≡ false

letters : (a b : Bool) → cond a (cond b Abs Ext) Lower ≡ Ext → Letters a b
letters true true h = absurd (cc)
letters true false h = record { capital_is = refl; small_is = refl }
letters false b h = absurd (cc)

by_word : (o : Option Word) (x : List ℕ) → kind_of_word o x ≡ Ext → Letters (is_ascii_uppercase (slice_index x 0)) (list_any (λ b. is_ascii_lowercase b) x)
by_word (Some w) x h = absurd (cc)
by_word None x h = letters (is_ascii_uppercase (slice_index x 0)) (list_any (λ b. is_ascii_lowercase b) x) h

-- ---- bytes

letter_by : (d u l e : Bool) → l ≡ false → (((d || u) || l) || e) ≡ true → ((u || d) || e) ≡ true
letter_by d true l e n h = refl
letter_by true false l e n h = refl
letter_by false false true e n h = absurd (cc)
letter_by false false false e n h = h

or_none : (a b : Bool) → (a || b) ≡ false → (a ≡ false) × (b ≡ false)
or_none true b h = absurd (cc)
or_none false b h = (refl, h)

and_all : (a b : Bool) → (a && b) ≡ true → (a ≡ true) × (b ≡ true)
and_all true b h = (refl, h)
and_all false b h = absurd (cc)

letter : (b : ℕ) → is_word_byte b ≡ true → is_ascii_lowercase b ≡ false → is_external_letter b ≡ true
letter b h n = letter_by (is_ascii_digit b) (is_ascii_uppercase b) (is_ascii_lowercase b) (b == 95) n h

all_letters : (x : List ℕ) → list_all is_word_byte x ≡ true → list_any (λ b. is_ascii_lowercase b) x ≡ false → list_all is_external_letter x ≡ true
all_letters [] h n = refl
all_letters (b ∷ x) h n =
    let p = and_all (is_word_byte b) (list_all is_word_byte x) h in
    let q = or_none (is_ascii_lowercase b) (list_any (λ b. is_ascii_lowercase b) x) n in
    both (letter b p.0 q.0) (all_letters x p.1 q.1)

not_long : (n : ℕ) → nat_lt 64 n ≡ false → n ≤ 64
not_long n h = elim (leb_tells 65 n) [ inl e ↦ absurd (cc) | inr e ↦ omega (arith, e.1) ]

pub external : (x : List ℕ) → lexeme x ≡ Ok (Ext, length x) → is_external x ≡ true
external x h =
    let whole = whole_name x Ext tt h in
    let s = short (nat_lt 64 (length x)) (kind_of_word (reserved x) x) (length x) (length x) (Err L5) refl whole.is in
    let w = by_word (reserved x) x s.kind in
    by_front x whole.bytes w.capital_is w.small_is (not_long (length x) s.fits)
  where
    by_front : (x : List ℕ) → list_all is_word_byte x ≡ true → is_ascii_uppercase (slice_index x 0) ≡ true → list_any (λ b. is_ascii_lowercase b) x ≡ false → length x ≤ 64 → is_external x ≡ true
    by_front [] a b c d = absurd (cc)
    by_front (y ∷ ys) a b c d =
        let p = and_all (is_word_byte y) (list_all is_word_byte ys) a in
        let q = or_none (is_ascii_lowercase y) (list_any (λ b. is_ascii_lowercase b) ys) c in
        both (both b (all_letters ys p.1 q.1)) (lt-ltb (length ys) 64 (omega (arith, d)))
