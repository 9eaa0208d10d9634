-- Names, numbers and times as they are printed.
use Rattle.std.proofs.Common.{◌≡◌, refl, sym, subst, ℕ, length, codes, Ok, Err}
use Rattle.std.specs.Prelude.{slice_index, decimal}
use Rattle.ceu_lex.specs.declared.token.TokenKind.{TokenKind}
use Rattle.ceu_lex.specs.declared.token.TokenKind.TheVariants as lexed
use Rattle.ceu_lex.specs.Tables.{Text}
use Rattle.ceu_lex.specs.Lexemes.{Lexeme, lexeme}
use Rattle.ceu_syntax.specs.declared.terminal.Kind.{Kind}
use Rattle.ceu_syntax.specs.declared.terminal.Kind.TheVariants as k
use Rattle.ceu_syntax.specs.Terminals.{kind_of, unit_name}
use Rattle.ceu_tree.specs.declared.kernel.Unit.{Unit as TimeUnit}
use Rattle.ceu_tree.specs.declared.kernel.Unit.TheVariants as unit
use Rattle.ceu_print.specs.Words.{unit_text, time_text}
use Rattle.laws_text_printed.specs.ReadingWords.{event_kind, of_lexeme}
use Rattle.laws_text_printed.specs.Spelled.{IsSpelled}
use Rattle.laws_text_printed.proofs.Words.{lexeme_under}
use Rattle.laws_text_printed.proofs.Numbers.{decimal_is, digit_word, first_digit, lexeme_decimal}
use Rattle.laws_text_printed.proofs.PrintedTimes.{lexeme_time, time_starts}
use Rattle.laws_text_printed.specs.SpellingWords.{IsName}
use Rattle.laws_text_printed.proofs.Names.{whole_name, lexeme_name, letter_word}
use Rattle.laws_text_printed.proofs.Printing.{Leaf}

-- ---- names

module _ (x : Text) (t : TokenKind) (name : IsName t) (kind : Kind) (same : kind_of t x ≡ kind) (whole : IsSpelled kind → lexeme x ≡ Ok (t, length x)) where
  name_leaf : Leaf x kind
  name_leaf = record {
    token = λ s. (t, same, λ rest ends. lexeme_name x rest t name (whole s) ends);
    word = λ s. letter_word (slice_index x 0) (whole_name x t name (whole s)).letter;
  }

pub lower_leaf : (x : Text) → Leaf x (k.Lower x)
lower_leaf x = name_leaf x lexed.Lower tt (k.Lower x) refl (λ s. s)

pub ext_leaf : (x : Text) → Leaf x (k.Ext x)
ext_leaf x = name_leaf x lexed.Ext tt (k.Ext x) refl (λ s. s)

pub abs_leaf : (x : Text) → Leaf x (k.Abs x)
abs_leaf x = name_leaf x lexed.Abs tt (k.Abs x) refl (λ s. s)

event_is : (x : Text) → event_kind x ≡ of_lexeme (lexeme x) x
unfolding event_kind
event_is x = refl

event_of : (x : Text) (r : Lexeme) → Leaf x (of_lexeme r x)
event_of x (Ok (lexed.Ext, n)) = ext_leaf x
event_of x (Ok (lexed.Reserved w, n)) = lower_leaf x
event_of x (Ok (lexed.Lower, n)) = lower_leaf x
event_of x (Ok (lexed.Abs, n)) = lower_leaf x
event_of x (Ok (lexed.Under, n)) = lower_leaf x
event_of x (Ok (lexed.Number v, n)) = lower_leaf x
event_of x (Ok (lexed.Time v, n)) = lower_leaf x
event_of x (Ok (lexed.Symbol y, n)) = lower_leaf x
event_of x (Err rule) = lower_leaf x

pub event_leaf : (x : Text) → Leaf x (event_kind x)
event_leaf x = subst (Leaf x) (sym (event_is x)) (event_of x (lexeme x))

pub unit_leaf : (u : TimeUnit) → Leaf (unit_text u) (k.Lower (unit_name u))
unit_leaf unit.H = lower_leaf (unit_name unit.H)
unit_leaf unit.Min = lower_leaf (unit_name unit.Min)
unit_leaf unit.S = lower_leaf (unit_name unit.S)
unit_leaf unit.Ms = lower_leaf (unit_name unit.Ms)
unit_leaf unit.Us = lower_leaf (unit_name unit.Us)

pub under_leaf : Leaf (codes "_") k.Under
under_leaf = record { token = λ s. (lexed.Under, refl, lexeme_under); word = λ s. refl }

-- ---- numbers and times

pub number_leaf : (n : ℕ) → Leaf (decimal n) (k.Number n)
number_leaf n = record {
  token = λ s. (lexed.Number n, refl, λ rest ends. lexeme_decimal n rest s ends);
  word = λ s. let d = decimal_is n s in digit_word (slice_index (decimal n) 0) (first_digit (decimal n) d.are_digits d.some);
}

pub time_leaf : (us : ℕ) → Leaf (time_text us) (k.Time us)
time_leaf us = record {
  token = λ s. (lexed.Time us, refl, λ rest ends. lexeme_time us rest s ends);
  word = λ s. time_starts us s;
}
