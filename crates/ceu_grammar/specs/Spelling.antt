-- How the names among the tokens of a text are spelled.
use Rattle.std.specs.Str.{IsUtf8}
use Rattle.std.specs.Prelude.{ℕ, ◌≤◌, List, length}
use Rattle.ceu_lex.specs.declared.token.Token.{Token}
use Rattle.ceu_lex.specs.declared.token.TokenKind.{TokenKind}
use Rattle.ceu_lex.specs.declared.token.TokenKind.TheVariants as lexed
use Rattle.ceu_syntax.specs.Terminals.{letters}

-- The bytes of a token are letters of a name.
pub record HasLetters (text : List ℕ) (token : Token) : Type 0 where
  pub ordered : token.start ≤ token.end
  pub within : token.end ≤ length text
  pub utf8 : IsUtf8 (letters text token)

-- A name has letters.
abbrev pub IsSpelledAs : TokenKind → List ℕ → Token → Type 0
IsSpelledAs lexed.Lower text token = HasLetters text token
IsSpelledAs lexed.Ext text token = HasLetters text token
IsSpelledAs lexed.Abs text token = HasLetters text token
IsSpelledAs _ text token = Unit {0}

abbrev pub IsSpelled : List ℕ → Token → Type 0
IsSpelled text token = IsSpelledAs token.kind text token
