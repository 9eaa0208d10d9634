-- A list in which each position has a number.
use Rattle.std.specs.Prelude.{ℕ, ◌+◌, Bool, ◌&&◌, ◌==◌, List, [], ◌∷◌, if◌then◌else◌}
use Rattle.ceu_base.specs.declared.kinds.Pos.{Pos}

abbrev pub same_place : Pos → Pos → Bool
same_place a b = (a.line == b.line) && (a.col == b.col)

-- how many stand before the first that is equal to it
abbrev pub number_of : Pos → List Pos → ℕ
number_of p [] = 0
number_of p (q ∷ qs) = if same_place q p then 0 else (number_of p qs + 1)

-- the list, with the position at its end where it isn't there
abbrev pub with_place : Pos → List Pos → List Pos
with_place p [] = p ∷ []
with_place p (q ∷ qs) = q ∷ (if same_place q p then qs else with_place p qs)
