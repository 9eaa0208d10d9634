-- The symbols that are printed.
use Rattle.std.proofs.Common.{◌≡◌, refl, ap, ℕ, Bool, true, false, cond, ◌&&◌, List, [], ◌∷◌, ◌++◌, codes, Ok, arith}
use Rattle.std.specs.Prelude.{◌==◌, slice_index}
use Rattle.std.proofs.lemmas.Bool.Decides.{nat_tests}
use Rattle.ceu_base.specs.declared.kinds.Op1.{Op1}
use Rattle.ceu_base.specs.declared.kinds.Op1.TheVariants as op1
use Rattle.ceu_base.specs.declared.kinds.Op2.{Op2}
use Rattle.ceu_base.specs.declared.kinds.Op2.TheVariants as op2
use Rattle.ceu_lex.specs.declared.token.Sym.TheVariants as s
use Rattle.ceu_lex.specs.declared.token.TokenKind.TheVariants as lexed
use Rattle.ceu_lex.specs.Gaps.{gap, gap_from}
use Rattle.ceu_lex.specs.Tables.{symbols}
use Rattle.ceu_lex.specs.Lexemes.{lexeme, symbol}
use Rattle.ceu_syntax.specs.declared.terminal.Kind.TheVariants as k
use Rattle.ceu_print.specs.Words.{prefix_text, binary_text}
use Rattle.laws_text_printed.specs.ReadingWords.{prefix_kind, binary_kind}
use Rattle.laws_text_printed.proofs.Scanning.{past_token}
use Rattle.laws_text_printed.proofs.Printing.{Opens, po, oo, leaf, space, symbol_opens, symbol_between}
use Rattle.laws_text_printed.proofs.Keywords.{word_or, word_and, word_not}

-- ---- that stand alone

pub sym_open_paren : Opens (codes "(") (λ after. k.OpenParen ∷ after)
unfolding gap gap_from lexeme symbol symbols
sym_open_paren = symbol_opens s.OpenParen (codes "(") (λ rest at. refl) (λ rest. refl) (λ rest. refl)

pub sym_close_paren : Opens (codes ")") (λ after. k.CloseParen ∷ after)
unfolding gap gap_from lexeme symbol symbols
sym_close_paren = symbol_opens s.CloseParen (codes ")") (λ rest at. refl) (λ rest. refl) (λ rest. refl)

pub sym_open_bracket : Opens (codes "[") (λ after. k.OpenBracket ∷ after)
unfolding gap gap_from lexeme symbol symbols
sym_open_bracket = symbol_opens s.OpenBracket (codes "[") (λ rest at. refl) (λ rest. refl) (λ rest. refl)

pub sym_close_bracket : Opens (codes "]") (λ after. k.CloseBracket ∷ after)
unfolding gap gap_from lexeme symbol symbols
sym_close_bracket = symbol_opens s.CloseBracket (codes "]") (λ rest at. refl) (λ rest. refl) (λ rest. refl)

pub sym_comma : Opens (codes ",") (λ after. k.Comma ∷ after)
unfolding gap gap_from lexeme symbol symbols
sym_comma = symbol_opens s.Comma (codes ",") (λ rest at. refl) (λ rest. refl) (λ rest. refl)

pub sym_semicolon : Opens (codes ";") (λ after. k.Semicolon ∷ after)
unfolding gap gap_from lexeme symbol symbols
sym_semicolon = symbol_opens s.Semicolon (codes ";") (λ rest at. refl) (λ rest. refl) (λ rest. refl)

pub sym_dot : Opens (codes ".") (λ after. k.Dot ∷ after)
unfolding gap gap_from lexeme symbol symbols
sym_dot = symbol_opens s.Dot (codes ".") (λ rest at. refl) (λ rest. refl) (λ rest. refl)

pub sym_question : Opens (codes "?") (λ after. k.Question ∷ after)
unfolding gap gap_from lexeme symbol symbols
sym_question = symbol_opens s.Question (codes "?") (λ rest at. refl) (λ rest. refl) (λ rest. refl)

pub sym_ampersand : Opens (codes "&") (λ after. k.Ampersand ∷ after)
unfolding gap gap_from lexeme symbol symbols
sym_ampersand = symbol_opens s.Ampersand (codes "&") (λ rest at. refl) (λ rest. refl) (λ rest. refl)

pub sym_tilde : Opens (codes "~") (λ after. k.Tilde ∷ after)
unfolding gap gap_from lexeme symbol symbols
sym_tilde = symbol_opens s.Tilde (codes "~") (λ rest at. refl) (λ rest. refl) (λ rest. refl)

-- a `-` before anything but `>`
minus_lexeme : (rest : List ℕ) → (slice_index rest 0 == 62) ≡ false → lexeme (45 ∷ rest) ≡ Ok (lexed.Symbol s.Minus, 1)
unfolding lexeme symbol symbols
minus_lexeme [] front = refl
minus_lexeme (b ∷ rest) front = let e : (62 == b) ≡ false = grind (arith, nat_tests) in ap (λ (c : Bool). cond (c && true) (Ok (lexed.Symbol s.Arrow, 2)) (Ok (lexed.Symbol s.Minus, 1))) e

minus_gap : (rest : List ℕ) (at : ℕ) → gap at (45 ∷ rest) ≡ Ok at
unfolding gap gap_from
minus_gap rest at = refl

pub sym_minus : Opens (codes "-") (λ after. k.Minus ∷ after)
sym_minus = record {
  opens = λ rest after h all.
      let r = h all.1 in
      record { scans = past_token (lexed.Symbol s.Minus) (45 ∷ []) (minus_gap rest) (minus_lexeme rest r.front) r.scans; front = refl };
}

-- ---- between blanks

pub spaced_assign : Opens (codes " = ") (λ after. k.Assign ∷ after)
unfolding gap gap_from lexeme symbol symbols
spaced_assign = symbol_between s.Assign (codes "=") (λ rest at. refl) (λ rest. refl)

pub spaced_arrow : Opens (codes " -> ") (λ after. k.Arrow ∷ after)
unfolding gap gap_from lexeme symbol symbols
spaced_arrow = symbol_between s.Arrow (codes "->") (λ rest at. refl) (λ rest. refl)

pub spaced_equal : Opens (codes " == ") (λ after. k.Equal ∷ after)
unfolding gap gap_from lexeme symbol symbols
spaced_equal = symbol_between s.Equal (codes "==") (λ rest at. refl) (λ rest. refl)

pub spaced_not_equal : Opens (codes " != ") (λ after. k.NotEqual ∷ after)
unfolding gap gap_from lexeme symbol symbols
spaced_not_equal = symbol_between s.NotEqual (codes "!=") (λ rest at. refl) (λ rest. refl)

pub spaced_less : Opens (codes " < ") (λ after. k.Less ∷ after)
unfolding gap gap_from lexeme symbol symbols
spaced_less = symbol_between s.Less (codes "<") (λ rest at. refl) (λ rest. refl)

pub spaced_greater : Opens (codes " > ") (λ after. k.Greater ∷ after)
unfolding gap gap_from lexeme symbol symbols
spaced_greater = symbol_between s.Greater (codes ">") (λ rest at. refl) (λ rest. refl)

pub spaced_less_equal : Opens (codes " <= ") (λ after. k.LessEqual ∷ after)
unfolding gap gap_from lexeme symbol symbols
spaced_less_equal = symbol_between s.LessEqual (codes "<=") (λ rest at. refl) (λ rest. refl)

pub spaced_greater_equal : Opens (codes " >= ") (λ after. k.GreaterEqual ∷ after)
unfolding gap gap_from lexeme symbol symbols
spaced_greater_equal = symbol_between s.GreaterEqual (codes ">=") (λ rest at. refl) (λ rest. refl)

pub spaced_bar : Opens (codes " | ") (λ after. k.Bar ∷ after)
unfolding gap gap_from lexeme symbol symbols
spaced_bar = symbol_between s.Bar (codes "|") (λ rest at. refl) (λ rest. refl)

pub spaced_caret : Opens (codes " ^ ") (λ after. k.Caret ∷ after)
unfolding gap gap_from lexeme symbol symbols
spaced_caret = symbol_between s.Caret (codes "^") (λ rest at. refl) (λ rest. refl)

pub spaced_ampersand : Opens (codes " & ") (λ after. k.Ampersand ∷ after)
unfolding gap gap_from lexeme symbol symbols
spaced_ampersand = symbol_between s.Ampersand (codes "&") (λ rest at. refl) (λ rest. refl)

pub spaced_shift_left : Opens (codes " << ") (λ after. k.ShiftLeft ∷ after)
unfolding gap gap_from lexeme symbol symbols
spaced_shift_left = symbol_between s.ShiftLeft (codes "<<") (λ rest at. refl) (λ rest. refl)

pub spaced_shift_right : Opens (codes " >> ") (λ after. k.ShiftRight ∷ after)
unfolding gap gap_from lexeme symbol symbols
spaced_shift_right = symbol_between s.ShiftRight (codes ">>") (λ rest at. refl) (λ rest. refl)

pub spaced_plus : Opens (codes " + ") (λ after. k.Plus ∷ after)
unfolding gap gap_from lexeme symbol symbols
spaced_plus = symbol_between s.Plus (codes "+") (λ rest at. refl) (λ rest. refl)

pub spaced_minus : Opens (codes " - ") (λ after. k.Minus ∷ after)
unfolding gap gap_from lexeme symbol symbols
spaced_minus = symbol_between s.Minus (codes "-") (λ rest at. refl) (λ rest. refl)

pub spaced_star : Opens (codes " * ") (λ after. k.Star ∷ after)
unfolding gap gap_from lexeme symbol symbols
spaced_star = symbol_between s.Star (codes "*") (λ rest at. refl) (λ rest. refl)

pub spaced_slash : Opens (codes " / ") (λ after. k.Slash ∷ after)
unfolding gap gap_from lexeme symbol symbols
spaced_slash = symbol_between s.Slash (codes "/") (λ rest at. refl) (λ rest. refl)

pub spaced_percent : Opens (codes " % ") (λ after. k.Percent ∷ after)
unfolding gap gap_from lexeme symbol symbols
spaced_percent = symbol_between s.Percent (codes "%") (λ rest at. refl) (λ rest. refl)

-- ---- operators

pub prefix_opens : (o : Op1) → Opens (prefix_text o) (λ after. prefix_kind o ∷ after)
prefix_opens op1.Not = po (leaf word_not) (λ rest. refl) space
prefix_opens op1.Neg = sym_minus
prefix_opens op1.Compl = sym_tilde

pub binary_opens : (o : Op2) → Opens (binary_text o) (λ after. binary_kind o ∷ after)
binary_opens op2.Or = oo space (po (leaf word_or) (λ rest. refl) space)
binary_opens op2.And = oo space (po (leaf word_and) (λ rest. refl) space)
binary_opens op2.Eq = spaced_equal
binary_opens op2.Ne = spaced_not_equal
binary_opens op2.Lt = spaced_less
binary_opens op2.Gt = spaced_greater
binary_opens op2.Le = spaced_less_equal
binary_opens op2.Ge = spaced_greater_equal
binary_opens op2.BitOr = spaced_bar
binary_opens op2.BitXor = spaced_caret
binary_opens op2.BitAnd = spaced_ampersand
binary_opens op2.Shl = spaced_shift_left
binary_opens op2.Shr = spaced_shift_right
binary_opens op2.Add = spaced_plus
binary_opens op2.Sub = spaced_minus
binary_opens op2.Mul = spaced_star
binary_opens op2.Div = spaced_slash
binary_opens op2.Rem = spaced_percent

pub binary_starts : (o : Op2) (rest : List ℕ) → slice_index (binary_text o ++ rest) 0 ≡ 32
binary_starts op2.Or rest = refl
binary_starts op2.And rest = refl
binary_starts op2.Eq rest = refl
binary_starts op2.Ne rest = refl
binary_starts op2.Lt rest = refl
binary_starts op2.Gt rest = refl
binary_starts op2.Le rest = refl
binary_starts op2.Ge rest = refl
binary_starts op2.BitOr rest = refl
binary_starts op2.BitXor rest = refl
binary_starts op2.BitAnd rest = refl
binary_starts op2.Shl rest = refl
binary_starts op2.Shr rest = refl
binary_starts op2.Add rest = refl
binary_starts op2.Sub rest = refl
binary_starts op2.Mul rest = refl
binary_starts op2.Div rest = refl
binary_starts op2.Rem rest = refl
