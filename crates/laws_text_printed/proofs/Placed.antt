-- Tokens of given kinds at any places.
use Rattle.std.proofs.Common.{◌≡◌, ℕ, suc, List, [], ◌∷◌}
use Rattle.ceu_base.specs.declared.kinds.Pos.{Pos}
use Rattle.ceu_syntax.specs.declared.terminal.Kind.{Kind}
use Rattle.ceu_syntax.specs.declared.terminal.Terminal.{Terminal}
use Rattle.ceu_syntax.specs.Terminals.{token}

-- the places of tokens that come one after the other
abbrev pub Places : Type 0
Places = ℕ → Pos

abbrev pub next : Places → Places
next p = λ n. p (suc n)

abbrev pub placed : List Kind → Places → List Terminal
placed [] p = []
placed (kind ∷ kinds) p = token kind (p 0) ∷ placed kinds (next p)

-- Tokens of these kinds, at whatever places, begin with something that is `a` but for its places; tokens of the kinds `after` follow.
pub record Reading {A B : Type 0} (Relation : List Terminal → A → List Terminal → Type 0) (bare : A → B) (a : A) (kinds after : List Kind) (p : Places) : Type 0 where
  pub found : A
  pub places : Places
  pub derives : Relation (placed kinds p) found (placed after places)
  pub same : bare found ≡ bare a
