-- Costs are exact in the definitions. The code holds the least of a number and 4,294,967,296, so that it still tells whether the number is
-- over 4,294,967,295 (this project's own).
use Rattle.std.specs.Prelude.{ℕ, min}

abbrev pub cap : ℕ → ℕ
cap n = min n 4294967296
