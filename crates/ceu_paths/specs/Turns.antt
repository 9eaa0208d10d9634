-- Ends of ranges.
use Rattle.std.specs.Prelude.{ℕ, Bool, true, false}

-- how many numbers an open end leaves out
abbrev pub excluded : Bool → ℕ
excluded true = 1
excluded false = 0
