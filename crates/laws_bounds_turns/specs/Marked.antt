-- The levels that open, as a list of marks tells them, and configurations in which no finalizer has failed (this project's own).
use Rattle.std.specs.Prelude.{◌≡◌, ℕ, ◌+◌, List, [], ◌∷◌, None}
use Rattle.ceu_base.specs.declared.kinds.Mark.{Mark}
use Rattle.ceu_base.specs.declared.kinds.Mark.TheVariants.{Push}
use Rattle.ceu_tree.specs.Run.{Config, Faulted, world_of}

-- levels that open
abbrev pub pushes : List Mark → ℕ
pushes [] = 0
pushes (Push n ∷ ms) = 1 + pushes ms
pushes (m ∷ ms) = pushes ms

-- no finalizer has failed, unless the program has stopped at a fault
abbrev pub unharmed : Config → Type 0
unharmed (Faulted e w) = Unit {0}
unharmed c = (world_of c).fault ≡ None
