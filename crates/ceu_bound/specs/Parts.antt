-- A cost has two parts, turns and levels, which the code measures one after the other.
use Rattle.std.specs.Prelude.{◌≡◌, ℕ, ◌≤◌, List, map}
use Rattle.ceu_tree.specs.Costs.{Cost, cost, cost_at}
use Rattle.ceu_paths.specs.Cap.{cap}
use Rattle.ceu_bound.specs.declared.tables.Part.{Part}
use Rattle.ceu_bound.specs.declared.tables.Part.TheVariants as part

abbrev pub pick : Part → Cost → ℕ
pick part.Turns c = c.turns
pick part.Levels c = c.opens

-- one turn
abbrev pub turn : Part → ℕ
turn part.Turns = 1
turn part.Levels = 0

-- a spawn: two turns and a level
abbrev pub spawning : Part → ℕ
spawning part.Turns = 2
spawning part.Levels = 1

-- numbers as costs: those of either part
abbrev pub both : ℕ → Cost
both n = cost n n

abbrev pub costs : List ℕ → List Cost
costs = map both

-- the same number in a part, up to the cap
abbrev pub Same : Part → Cost → Cost → Type 0
Same w a b = cap (pick w a) ≡ cap (pick w b)

abbrev pub SameTables : Part → List Cost → List Cost → Type 0
SameTables w A B = (k : ℕ) → Same w (cost_at k A) (cost_at k B)

-- at most as much in a part, up to the cap
abbrev pub AtMost : Part → Cost → Cost → Type 0
AtMost w a b = cap (pick w a) ≤ cap (pick w b)

abbrev pub TablesAtMost : Part → List Cost → List Cost → Type 0
TablesAtMost w A B = (k : ℕ) → AtMost w (cost_at k A) (cost_at k B)
