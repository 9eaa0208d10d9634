-- A text as gaps and tokens in turn.
use Rattle.std.specs.Prelude.{◌≡◌, ℕ, ◌+◌, ◌<◌, ◌⊎◌, List, [], ◌∷◌, length, drop, Ok, Err}
use Rattle.ceu_lex.specs.Gaps.{gap}
use Rattle.ceu_lex.specs.Positions.{position_of}
use Rattle.ceu_lex.specs.Lexemes.{lexeme}
use Rattle.ceu_base.specs.declared.kinds.Pos.{Pos}
use Rattle.ceu_base.specs.declared.kinds.Rule.{Rule}
use Rattle.ceu_base.specs.declared.kinds.Rule.TheVariants.{L2}
use Rattle.ceu_lex.specs.declared.token.Token.{Token}
use Rattle.ceu_lex.specs.declared.lexer.LexError.{LexError}
use Rattle.ceu_lex.specs.declared.lexer.LexError.TheVariants.{Refused, Memory}

-- Behind the gap at a place stands this token, the longest that begins there.
pub record IsNext (text : List ℕ) (at : ℕ) (token : Token) : Type 0 where
  pub begins : gap at (drop at text) ≡ Ok token.start
  pub longest : (n : ℕ) × (lexeme (drop token.start text) ≡ Ok (token.kind, n)) × (token.end ≡ token.start + n)
  pub place : token.pos ≡ position_of text token.start

-- From one place to another a text is gaps and these tokens in turn.
abbrev pub ReadsTo : List ℕ → ℕ → List Token → ℕ → Type 0
ReadsTo text from [] to = from ≡ to
ReadsTo text from (token ∷ tokens) to = IsNext text from token × ReadsTo text token.end tokens to

-- The text is gaps and these tokens in turn.
abbrev pub Reads : List ℕ → List Token → Type 0
Reads text tokens = (to : ℕ) × ReadsTo text 0 tokens to × (gap to (drop to text) ≡ Ok (length text))

-- At a place the text goes on with no gap and no token.
abbrev pub BreaksAt : List ℕ → ℕ → Rule → Pos → Type 0
BreaksAt text to rule pos =
    ((opened : ℕ) × (gap to (drop to text) ≡ Err opened) × (rule ≡ L2) × (pos ≡ position_of text opened))
    ⊎ ((begin : ℕ) × (gap to (drop to text) ≡ Ok begin) × (begin < length text) × (lexeme (drop begin text) ≡ Err rule) × (pos ≡ position_of text begin))

-- The first broken rule and its place: the text is read up to there.
abbrev pub Breaks : List ℕ → Rule → Pos → Type 0
Breaks text rule pos = (tokens : List Token) × (to : ℕ) × ReadsTo text 0 tokens to × BreaksAt text to rule pos

-- A refusal names the first broken rule and its place. Want of memory says nothing.
abbrev pub IsRefusal : List ℕ → LexError → Type 0
IsRefusal text (Refused rule pos) = Breaks text rule pos
IsRefusal text Memory = Unit {0}
