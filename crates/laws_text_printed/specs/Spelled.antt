-- Kinds of which some token is.
use Rattle.std.specs.Prelude.{◌≡◌, ◌<◌, List, [], ◌∷◌, length, Ok}
use Rattle.ceu_lex.specs.declared.token.TokenKind.TheVariants as lexed
use Rattle.ceu_lex.specs.Lexemes.{lexeme, time_limit}
use Rattle.ceu_syntax.specs.declared.terminal.Kind.{Kind}
use Rattle.ceu_syntax.specs.declared.terminal.Kind.TheVariants as k
use Rattle.ceu_syntax.specs.declared.terminal.Terminal.{Terminal}

-- a name of its class, a number or a time within the limits of tokens
abbrev pub IsSpelled : Kind → Type 0
IsSpelled (k.Lower x) = lexeme x ≡ Ok (lexed.Lower, length x)
IsSpelled (k.Ext x) = lexeme x ≡ Ok (lexed.Ext, length x)
IsSpelled (k.Abs x) = lexeme x ≡ Ok (lexed.Abs, length x)
IsSpelled (k.Number n) = n < 18446744073709551616
IsSpelled (k.Time us) = us < time_limit
IsSpelled _ = Unit {0}

abbrev pub AllSpelled : List Kind → Type 0
AllSpelled [] = Unit {0}
AllSpelled (kind ∷ kinds) = IsSpelled kind × AllSpelled kinds

abbrev pub TokensSpelled : List Terminal → Type 0
TokensSpelled [] = Unit {0}
TokensSpelled (t ∷ ts) = IsSpelled t.kind × TokensSpelled ts
