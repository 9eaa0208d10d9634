-- What the exits of a part lead to: escapes to a do or to a body around, breaks and continues to a loop around (this project's own).
use Rattle.std.specs.Prelude.{◌≡◌, ◌⊎◌, List, [], ◌∷◌}
use Rattle.ceu_tree.specs.Proper.{Aim, DoAim, BodyAim, LoopAim}
use Rattle.ceu_tree.specs.Paths.{Way, ToEnd, ToEscape, ToBreak, ToContinue}
use Rattle.laws_bounds_steps.specs.Pays.{IsOf}

abbrev pub aim_takes : Aim → Way → Type 0
aim_takes (DoAim m t) (ToEscape n) = m ≡ n
aim_takes (BodyAim m t) (ToEscape n) = m ≡ n
aim_takes (LoopAim m) (ToBreak n) = m ≡ n
aim_takes (LoopAim m) (ToContinue n) = m ≡ n
aim_takes a w = ⊥

abbrev pub IsAimed : List Aim → Way → Type 0
IsAimed [] w = ⊥
IsAimed (a ∷ aims) w = aim_takes a w ⊎ IsAimed aims w

-- a way is the part's end, or leads to what is around it
abbrev pub Leads : List Aim → Way → Type 0
Leads aims w = (w ≡ ToEnd) ⊎ IsAimed aims w

abbrev pub AllLead : List Aim → List Way → Type 0
AllLead aims q = (w : Way) → IsOf q w → Leads aims w
