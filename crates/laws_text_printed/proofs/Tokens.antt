-- The tokens of a text are spelled.
use Rattle.std.proofs.Common.{◌≡◌, sym, ap, ◌∙◌, subst, ℕ, ◌-◌, ◌≤◌, List, [], ◌∷◌, length, take, drop, Ok, arith}
use Rattle.std.proofs.lemmas.List.{length-take-le}
use Rattle.std.proofs.lemmas.List.Sums.{prefix_len-le-length}
use Rattle.ceu_lex.specs.Bytes.{is_word_byte}
use Rattle.ceu_lex.specs.Tables.{Text}
use Rattle.ceu_lex.specs.Lexemes.{lexeme}
use Rattle.ceu_lex.specs.Texts.{IsNext, ReadsTo, Reads}
use Rattle.ceu_lex.specs.declared.token.Word.{Word}
use Rattle.ceu_lex.specs.declared.token.Word.TheVariants as w
use Rattle.ceu_lex.specs.declared.token.Sym.{Sym}
use Rattle.ceu_lex.specs.declared.token.Sym.TheVariants as s
use Rattle.ceu_lex.specs.declared.token.Token.{Token}
use Rattle.ceu_lex.specs.declared.token.TokenKind.{TokenKind}
use Rattle.ceu_lex.specs.declared.token.TokenKind.TheVariants.{Reserved, Lower, Ext, Abs, Under, Number, Time, Symbol}
use Rattle.ceu_lex.proofs.Longest.{kept}
use Rattle.ceu_syntax.specs.Grammar.{Derives}
use Rattle.ceu_syntax.specs.Terminals.{kind_of, of_word, of_symbol, letters, terminals}
use Rattle.ceu_tree.specs.declared.source.Tree.{Tree}
use Rattle.laws_text_printed.specs.Statements.{kinds_of}
use Rattle.laws_text_printed.proofs.Programs as programs
use Rattle.laws_text_printed.specs.Spelled.{IsSpelled, AllSpelled, TokensSpelled}
use Rattle.laws_text_printed.specs.SpellingWords.{IsName}
use Rattle.laws_text_printed.proofs.Names.{front_of, a_word, an_underscore, a_number, a_symbol, name_word, word_kind, word_size_of}

word_spelled : (word : Word) → IsSpelled (of_word word)
word_spelled w.And = tt
word_spelled _ = tt

symbol_spelled : (symbol : Sym) → IsSpelled (of_symbol symbol)
symbol_spelled s.Arrow = tt
symbol_spelled _ = tt

-- a name by itself is the token that it was in its text
name_alone : (text : Text) (kind : TokenKind) (n : ℕ) → IsName kind → lexeme text ≡ Ok (kind, n) → lexeme (take n text) ≡ Ok (kind, length (take n text))
name_alone text kind n name is =
    let size = word_size_of text kind n (name_word text kind n name is).1 in
    let within : n ≤ length text = omega (arith, size, prefix_len-le-length is_word_byte text) in
    kept text kind n n is (omega arith) ∙ ap (λ (m : ℕ). Ok (kind, m)) (sym (length-take-le n text within))

kind_spelled : (text : Text) (kind : TokenKind) (n : ℕ) → lexeme text ≡ Ok (kind, n) → IsSpelled (kind_of kind (take n text))
kind_spelled text Lower n is = name_alone text Lower n tt is
kind_spelled text Ext n is = name_alone text Ext n tt is
kind_spelled text Abs n is = name_alone text Abs n tt is
kind_spelled text (Reserved word) n is = word_spelled word
kind_spelled text Under n is = tt
kind_spelled text (Symbol symbol) n is = symbol_spelled symbol
kind_spelled text (Number v) n is = elim (front_of text (Number v) n is) [
  | a_word letter e ↦ absurd (word_kind text (Number v) n e)
  | an_underscore e ↦ absurd (cc)
  | a_number e ↦ e
  | a_symbol e ↦ absurd e
]
kind_spelled text (Time v) n is = elim (front_of text (Time v) n is) [
  | a_word letter e ↦ absurd (word_kind text (Time v) n e)
  | an_underscore e ↦ absurd (cc)
  | a_number e ↦ e
  | a_symbol e ↦ absurd e
]

token_spelled : (text : Text) (from : ℕ) (token : Token) → IsNext text from token → IsSpelled (kind_of token.kind (letters text token))
token_spelled text from token next =
    let n = next.longest.0 in
    let size : token.end - token.start ≡ n = omega (arith, next.longest.2) in
    subst (λ (m : ℕ). IsSpelled (kind_of token.kind (take m (drop token.start text)))) (sym size) (kind_spelled (drop token.start text) token.kind n next.longest.1)

all_spelled : (text : Text) (from : ℕ) (tokens : List Token) (to : ℕ) → ReadsTo text from tokens to → TokensSpelled (terminals text tokens)
all_spelled text from [] to reads = tt
all_spelled text from (token ∷ tokens) to reads = (token_spelled text from token reads.0, all_spelled text token.end tokens to reads.1)

pub tokens_spelled : (text : Text) (tokens : List Token) → Reads text tokens → TokensSpelled (terminals text tokens)
tokens_spelled text tokens reads = all_spelled text 0 tokens reads.0 reads.1

pub derived_spelled : (text : List ℕ) (tokens : List Token) (t : Tree) → Reads text tokens → Derives text tokens t → AllSpelled (kinds_of t)
derived_spelled text tokens t reads derived =
    subst (λ u. AllSpelled (kinds_of u)) (sym derived.2) (programs.all_spelled (terminals text tokens) derived.0 derived.1 (tokens_spelled text tokens reads))
