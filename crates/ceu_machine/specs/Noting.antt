-- Marks that go to a sink, one by one.
use Rattle.std.specs.Prelude.{◌≡◌, List, [], ◌∷◌, ◌⊎◌}
use Rattle.ceu_base.specs.declared.kinds.Mark.{Mark}

-- the sink noted these marks in order
abbrev pub Noted : {S : Type 0} → (S → Mark → S → Type 0) → List Mark → S → S → Type 0
Noted notes [] old new = new ≡ old
Noted {S} notes (m ∷ ms) old new = (mid : S) × notes old m mid × Noted notes ms mid new

-- it noted some of the first of them, and failed on the next
abbrev pub Stopped : {S : Type 0} → (notes stops : S → Mark → S → Type 0) → List Mark → S → S → Type 0
Stopped notes stops [] old new = ⊥
Stopped {S} notes stops (m ∷ ms) old new = stops old m new ⊎ ((mid : S) × notes old m mid × Stopped notes stops ms mid new)
