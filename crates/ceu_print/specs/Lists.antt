-- Texts in a row.
use Rattle.std.specs.Prelude.{ℕ, List, [], ◌∷◌, ◌++◌}

abbrev pub Text : Type 0
Text = List ℕ

-- each text, with what stands before it
abbrev pub each_after : Text → List Text → Text
each_after before [] = []
each_after before (t ∷ ts) = before ++ t ++ each_after before ts

-- the texts, with what stands between two of them
abbrev pub joined : Text → List Text → Text
joined between [] = []
joined between (t ∷ ts) = t ++ each_after between ts

abbrev pub all : List Text → Text
all [] = []
all (t ∷ ts) = t ++ all ts
