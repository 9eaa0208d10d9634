-- A reader of lines, and the script that it has before it.
use Rattle.std.specs.Prelude.{ℕ, ◌+◌, ◌-◌, ◌≤◌, Bool, List, ◌++◌, length, take, nat_le}

-- the last line that was skipped or answered
pub record LastLine : Type 0 where
  -- where it begins; where the script does, before the first one
  pub start : ℕ
  -- how many lines there were
  pub lines : ℕ
  -- what the last answered line says
  pub text : List ℕ

pub record Reader : Type 0 where
  -- bytes that were taken from the source and are not read yet
  pub pending : List ℕ
  -- how many bytes were taken
  pub taken : ℕ
  pub last : LastLine

-- at most 2^40 bytes of a script are taken
abbrev pub budget : ℕ
budget = 1099511627776

-- the bytes of a script that are within the budget, and whether the budget cuts them
pub record Script : Type 0 where
  pub cut : Bool
  pub bytes : List ℕ

-- the next byte's place
abbrev pub position : Reader → ℕ
position r = r.taken - length r.pending

-- how many more bytes the budget leaves
abbrev pub room : Reader → ℕ
room r = length r.pending + budget - r.taken

-- what a reader has before it, where the source still has these bytes
unfoldable pub ahead : Reader → List ℕ → Script
ahead r left = record { cut = nat_le (room r) (length (r.pending ++ left)); bytes = take (room r) (r.pending ++ left) }

-- The reader stands behind a line, and may be asked for the next one.
pub record GoesOn (r : Reader) : Type 0 where
  pub counted : r.last.lines ≤ position r
  pub here : position r ≤ r.last.start + 203
  pub within : r.taken ≤ budget
