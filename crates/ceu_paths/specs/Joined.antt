-- The lists of the items of a list, one after the other.
use Rattle.std.specs.Prelude.{List, [], ◌∷◌, ◌++◌}

abbrev pub joined : {X Y : Type 0} → (X → List Y) → List X → List Y
joined f [] = []
joined f (x ∷ xs) = f x ++ joined f xs
