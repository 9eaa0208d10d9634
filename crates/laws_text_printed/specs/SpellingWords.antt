-- What may follow a word, a number or a time, and which tokens are names.
use Rattle.std.specs.Prelude.{◌≡◌, ℕ, List, false, slice_index}
use Rattle.ceu_lex.specs.Bytes.{is_word_byte}
use Rattle.ceu_lex.specs.declared.token.TokenKind.{TokenKind}
use Rattle.ceu_lex.specs.declared.token.TokenKind.TheVariants.{Lower, Ext, Abs}

-- The text goes on with no letter, digit or `_`.
abbrev pub Ends : List ℕ → Type 0
Ends rest = is_word_byte (slice_index rest 0) ≡ false

abbrev pub IsName : TokenKind → Type 0
IsName Lower = Unit {0}
IsName Ext = Unit {0}
IsName Abs = Unit {0}
IsName _ = ⊥
