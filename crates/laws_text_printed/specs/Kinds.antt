-- The kinds of a text's tokens.
use Rattle.std.specs.Prelude.{◌≡◌, ℕ, List, map}
use Rattle.ceu_lex.specs.declared.token.Token.{Token}
use Rattle.ceu_lex.specs.Texts.{Reads}
use Rattle.ceu_syntax.specs.declared.terminal.Kind.{Kind}
use Rattle.ceu_syntax.specs.Terminals.{terminals}

-- The text has tokens, and these are their kinds.
abbrev pub HasKinds : List ℕ → List Kind → Type 0
HasKinds text kinds = (tokens : List Token) × Reads text tokens × (map (λ t. t.kind) (terminals text tokens) ≡ kinds)
