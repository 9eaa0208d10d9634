-- The first line of a run.
use Rattle.std.specs.Prelude.{ℕ, List, ◌++◌, codes}
use Rattle.std.specs.Fmt.{decimal}

-- bytes of memory, turns of a reaction at most, levels at most
abbrev pub memory_line : (memory turns levels : ℕ) → List ℕ
memory_line memory turns levels = codes "memory " ++ decimal memory ++ codes " turns " ++ decimal turns ++ codes " levels " ++ decimal levels ++ codes "\n"
