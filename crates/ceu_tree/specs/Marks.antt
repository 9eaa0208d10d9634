-- Marks that are kept in memory.
use Rattle.std.specs.Prelude.{◌≡◌, ℕ, ◌<◌, ◌≤◌, List, [], ◌∷◌, ◌++◌, length}
use Rattle.ceu_base.specs.declared.kinds.Mark.{Mark}
use Rattle.ceu_io.specs.Calls.{next_count}

pub record MarksInMemory : Type 0 where
  pub marks : List Mark
  -- the most marks that it holds
  pub room : ℕ
  pub faults : ℕ

-- Where room is left the mark is appended ...
abbrev pub Keeps : MarksInMemory → Mark → MarksInMemory → Type 0
Keeps old m new = (length old.marks < old.room) × (new ≡ record old { marks = old.marks ++ m ∷ [] })

-- ... and else the marks stay as they were.
abbrev pub Refuses : MarksInMemory → Mark → MarksInMemory → Type 0
Refuses old m new = (old.room ≤ length old.marks) × (new ≡ record old { faults = next_count old.faults })
