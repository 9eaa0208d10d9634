-- A place in the text as a line ends with it. The form of these lines is this project's own.
use Rattle.std.specs.Prelude.{ℕ, List, [], ◌∷◌, ◌++◌, decimal}
use Rattle.ceu_base.specs.declared.kinds.Pos.{Pos}

-- a blank, the place and the newline
abbrev pub at_place : Pos → List ℕ
at_place p = 32 ∷ [] ++ decimal p.line ++ 58 ∷ [] ++ decimal p.col ++ 10 ∷ []
