-- The calls of an object in memory are counted from 1, and it fails on those that it was told.
use Rattle.std.specs.Prelude.{ℕ, ◌+◌, Bool, List, min, ◌==◌}
use Rattle.std.specs.List.{list_any}
use Rattle.ceu_io.specs.Counts.{last_count}

-- one more, up to the last value
abbrev pub next_count : ℕ → ℕ
next_count count = min (count + 1) last_count

abbrev pub is_listed : List ℕ → ℕ → Bool
is_listed calls call = list_any (λ other. other == call) calls
