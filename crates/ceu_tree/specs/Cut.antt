-- Numbers that the code cuts: sums and products of needs and costs are exact in the definitions, and the code holds the least of a number and
-- 4,294,967,295 in 32 bits. A cut number counts as over its limit (this project's own).
use Rattle.std.specs.Prelude.{ℕ, min}

abbrev pub limit : ℕ
limit = 4294967295

abbrev pub cut : ℕ → ℕ
cut n = min n limit
