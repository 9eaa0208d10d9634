-- Printed texts, each with the kinds that it puts before those of what follows.
use Rattle.std.proofs.Common.{◌≡◌, refl, sym, ap, ◌∙◌, subst, Bool, true, false, cond, List, [], ◌∷◌, ◌++◌, length, codes, Option, Some, Ok, Err, append_assoc, arith}
use Rattle.std.specs.Prelude.{nat_lt, ◌==◌, slice_index}
use Rattle.std.specs.List.{list_all}
use Rattle.std.specs.Char.{is_ascii_alphabetic}
use Rattle.std.proofs.lemmas.Bool.Decides.{nat_tests}
use Rattle.ceu_base.specs.declared.kinds.Rule.TheVariants.{L5}
use Rattle.ceu_lex.specs.declared.token.Word.{Word}
use Rattle.ceu_lex.specs.declared.token.Sym.{Sym}
use Rattle.ceu_lex.specs.declared.token.Sym.TheVariants as s
use Rattle.ceu_lex.specs.declared.token.TokenKind.{TokenKind}
use Rattle.ceu_lex.specs.declared.token.TokenKind.TheVariants as lexed
use Rattle.ceu_lex.specs.Bytes.{is_word_byte}
use Rattle.ceu_lex.specs.Tables.{Text, symbols}
use Rattle.ceu_lex.specs.Lexemes.{lexeme, reserved, kind_of_word, symbol}
use Rattle.ceu_syntax.specs.declared.terminal.Kind.{Kind}
use Rattle.ceu_syntax.specs.declared.terminal.Kind.TheVariants as k
use Rattle.ceu_syntax.specs.Terminals.{kind_of, of_word, of_symbol}
use Rattle.laws_text_printed.specs.Spelled.{IsSpelled, AllSpelled}
use Rattle.laws_text_printed.specs.SpellingWords.{Ends}
use Rattle.laws_text_printed.proofs.Words.{word_of, lexeme_word}
use Rattle.laws_text_printed.proofs.Scanning.{Scans, past_blank, past_token, blank, newline, NoGap, word_no_gap, slash_no_gap}
use Rattle.laws_text_printed.proofs.Names.{letter_word}

-- The text is read as tokens of these kinds, and doesn't begin with `>`.
pub record Scanned (text : Text) (kinds : List Kind) : Type 0 where
  pub scans : Scans kind_of text kinds
  pub front : (slice_index text 0 == 62) ≡ false

-- so it is, if the kinds are spelled
abbrev pub Says : Text → List Kind → Type 0
Says text kinds = AllSpelled kinds → Scanned text kinds

-- A printed text puts its kinds before those of any text that follows with no letter, digit or `_`.
pub record Prints (text : Text) (kinds : List Kind → List Kind) : Type 0 where
  pub prints : (rest : Text) (after : List Kind) → Ends rest → Says rest after → Says (text ++ rest) (kinds after)

-- whatever follows
pub record Opens (text : Text) (kinds : List Kind → List Kind) : Type 0 where
  pub opens : (rest : Text) (after : List Kind) → Says rest after → Says (text ++ rest) (kinds after)

-- It begins with no letter, digit or `_`, or is empty.
pub record Follows (text : Text) : Type 0 where
  pub follows : (rest : Text) → Ends rest → Ends (text ++ rest)

-- ---- one behind the other

moved : (a b rest : Text) (kinds : List Kind) → Says (a ++ (b ++ rest)) kinds → Says (a ++ b ++ rest) kinds
moved a b rest kinds h = subst (λ (t : Text). Says t kinds) (sym (append_assoc a b rest)) h

pub oo : {a b : Text} {ka kb : List Kind → List Kind} → Opens a ka → Opens b kb → Opens (a ++ b) (λ after. ka (kb after))
oo {a} {b} {ka} {kb} x y = record { opens = λ rest after h. moved a b rest (ka (kb after)) (x.opens (b ++ rest) (kb after) (y.opens rest after h)) }

pub op : {a b : Text} {ka kb : List Kind → List Kind} → Opens a ka → Prints b kb → Prints (a ++ b) (λ after. ka (kb after))
op {a} {b} {ka} {kb} x y = record { prints = λ rest after ends h. moved a b rest (ka (kb after)) (x.opens (b ++ rest) (kb after) (y.prints rest after ends h)) }

pub po : {a b : Text} {ka kb : List Kind → List Kind} → Prints a ka → ((rest : Text) → Ends (b ++ rest)) → Opens b kb → Opens (a ++ b) (λ after. ka (kb after))
po {a} {b} {ka} {kb} x s y = record { opens = λ rest after h. moved a b rest (ka (kb after)) (x.prints (b ++ rest) (kb after) (s rest) (y.opens rest after h)) }

pub pp : {a b : Text} {ka kb : List Kind → List Kind} → Prints a ka → Follows b → Prints b kb → Prints (a ++ b) (λ after. ka (kb after))
pp {a} {b} {ka} {kb} x f y = record { prints = λ rest after ends h. moved a b rest (ka (kb after)) (x.prints (b ++ rest) (kb after) (f.follows rest ends) (y.prints rest after ends h)) }

pub loose : {a : Text} {ka : List Kind → List Kind} → Opens a ka → Prints a ka
loose x = record { prints = λ rest after ends h. x.opens rest after h }

pub nothing : Opens [] (λ after. after)
nothing = record { opens = λ rest after h. h }

pub none_follows : Follows []
none_follows = record { follows = λ rest ends. ends }

pub starts : (a : Text) → ((rest : Text) → Ends (a ++ rest)) → Follows a
starts a s = record { follows = λ rest ends. s rest }

pub first_follows : (a b : Text) → ((rest : Text) → Ends (a ++ rest)) → Follows (a ++ b)
first_follows a b s = record { follows = λ rest ends. subst Ends (sym (append_assoc a b rest)) (s (b ++ rest)) }

-- ---- blanks

pub space : Opens (codes " ") (λ after. after)
space = record { opens = λ rest after h all. record { scans = past_blank blank (h all).scans; front = refl } }

pub line_break : Opens (codes "\n") (λ after. after)
line_break = record { opens = λ rest after h all. record { scans = past_blank newline (h all).scans; front = refl } }

-- ---- words, numbers and times

-- The text is one token of a kind, where the kind is spelled.
pub record Leaf (text : Text) (kind : Kind) : Type 0 where
  pub token : IsSpelled kind → (t : TokenKind) × (kind_of t text ≡ kind) × ((rest : Text) → Ends rest → lexeme (text ++ rest) ≡ Ok (t, length text))
  pub word : IsSpelled kind → is_word_byte (slice_index text 0) ≡ true

word_front : (text rest : Text) → is_word_byte (slice_index text 0) ≡ true → (slice_index (text ++ rest) 0 == 62) ≡ false
word_front [] rest is = absurd (cc)
word_front (b ∷ text) rest is = grind (arith, nat_tests)

pub leaf : {text : Text} {kind : Kind} → Leaf text kind → Prints text (λ after. kind ∷ after)
leaf {text} {kind} l = record {
  prints = λ rest after ends h all.
      let t = l.token all.0 in
      record {
        scans = subst (λ k. Scans kind_of (text ++ rest) (k ∷ after)) t.1 (past_token t.0 text (word_no_gap text rest (l.word all.0)) (t.2 rest ends) (h all.1).scans);
        front = word_front text rest (l.word all.0);
      };
}

slash_lexeme : (rest : Text) → lexeme (47 ∷ rest) ≡ Ok (lexed.Symbol s.Slash, 1)
unfolding lexeme symbol symbols
slash_lexeme rest = refl

slash_gap : (text rest : Text) → is_word_byte (slice_index text 0) ≡ true → NoGap (47 ∷ (text ++ rest))
slash_gap [] rest is = absurd (cc)
slash_gap (b ∷ text) rest is = slash_no_gap b (text ++ rest) (grind (arith, nat_tests)) (grind (arith, nat_tests))

pub slash : {text : Text} {kind : Kind} → Leaf text kind → Prints (47 ∷ text) (λ after. k.Slash ∷ kind ∷ after)
slash {text} {kind} l = record {
  prints = λ rest after ends h all. record {
    scans = past_token (lexed.Symbol s.Slash) (47 ∷ []) (slash_gap text rest (l.word all.1.0)) (slash_lexeme (text ++ rest)) ((leaf l).prints rest after ends h all.1).scans;
    front = refl;
  };
}

word_is : (t : Text) (w : Word) → nat_lt 64 (length t) ≡ false → reserved t ≡ Some w → word_of t ≡ Ok (lexed.Reserved w, length t)
word_is t w fits is =
    ap (λ (c : Bool). cond c (Err L5) (Ok (kind_of_word (reserved t) t, length t))) fits
    ∙ ap (λ (o : Option Word). Ok (kind_of_word o t, length t)) is

first_word : (t : Text) → is_ascii_alphabetic (slice_index t 0) ≡ true → is_word_byte (slice_index t 0) ≡ true
first_word t is = letter_word (slice_index t 0) is

pub keyword : (w : Word) (t : Text) → list_all is_word_byte t ≡ true → is_ascii_alphabetic (slice_index t 0) ≡ true → nat_lt 64 (length t) ≡ false → reserved t ≡ Some w → Leaf t (of_word w)
keyword w t bytes letter fits is = record {
  token = λ spelled. (lexed.Reserved w, refl, λ rest ends. lexeme_word t rest bytes letter ends ∙ word_is t w fits is);
  word = λ spelled. first_word t letter;
}

-- ---- symbols

pub symbol_opens : (y : Sym) (t : Text) → ((rest : Text) → NoGap (t ++ rest)) → ((rest : Text) → lexeme (t ++ rest) ≡ Ok (lexed.Symbol y, length t)) → ((rest : Text) → (slice_index (t ++ rest) 0 == 62) ≡ false) → Opens t (λ after. of_symbol y ∷ after)
symbol_opens y t gap is front = record {
  opens = λ rest after h all. record { scans = past_token (lexed.Symbol y) t (gap rest) (is rest) (h all.1).scans; front = front rest };
}

-- between two blanks
pub symbol_between : (y : Sym) (t : Text) → ((rest : Text) → NoGap (t ++ (32 ∷ rest))) → ((rest : Text) → lexeme (t ++ (32 ∷ rest)) ≡ Ok (lexed.Symbol y, length t)) → Opens (32 ∷ (t ++ (32 ∷ []))) (λ after. of_symbol y ∷ after)
symbol_between y t gap is = record {
  opens = λ rest after h all. record {
    scans = subst (λ u. Scans kind_of (32 ∷ u) (of_symbol y ∷ after)) (sym (append_assoc t (32 ∷ []) rest)) (past_blank blank (past_token (lexed.Symbol y) t (gap rest) (is rest) (past_blank blank (h all.1).scans)));
    front = refl;
  };
}
