-- The tables of costs say of each code what its body costs, and an emission costs what it wakes by the table itself (this project's own).
use Rattle.std.specs.Prelude.{◌≡◌, ◌<◌, ℕ, Bool, List, [], length, Some}
use Rattle.ceu_tree.specs.declared.kernel.Kernel.{Kernel}
use Rattle.ceu_tree.specs.declared.kernel.KCode.{KCode}
use Rattle.ceu_tree.specs.Leaf.{code_at}
use Rattle.ceu_tree.specs.Step.{event_code}
use Rattle.ceu_tree.specs.Proper.{Proper}
use Rattle.ceu_tree.specs.Paths.{flag, passes, passes_from}
use Rattle.ceu_tree.specs.Costs.{Cost, cost, plus, cost_at, enter_block, stay_block, enters_from, stays_from, woken_block, woken_codes, instances_from}
use Rattle.ceu_bound.specs.PhaseB.{KeepsLoopRules}
use Rattle.ceu_bound.specs.Filled.{emitting, entering}
use Rattle.laws_bounds_tables.specs.Below.{block_below}

-- the body of a code uses only codes above it
abbrev pub BodiesBelow : Type 0
BodiesBelow = (K : Kernel) (c : ℕ) (k : KCode) → Proper K → code_at c K.codes ≡ Some k → block_below c k.body

-- ---- a table says of each code what its body does by the same table

-- whether an await of a code may go on at once
abbrev pub PassesAgree : Type 0
PassesAgree = (K : Kernel) (c : ℕ) (k : KCode) → Proper K → code_at c K.codes ≡ Some k → flag c (passes_from [] K.codes) ≡ passes (passes_from [] K.codes) k

-- what a code costs from its start, whichever codes may go on at once and whatever emissions cost
abbrev pub EntersAgree : Type 0
EntersAgree = (K : Kernel) (P : List Bool) (E : List Cost) (c : ℕ) (k : KCode) → Proper K → code_at c K.codes ≡ Some k →
    cost_at c (enters_from P E [] K.codes) ≡ enter_block P E (enters_from P E [] K.codes) k.body

-- what it costs where it stood waiting, whatever codes cost from their start
abbrev pub StaysAgree : Type 0
StaysAgree = (K : Kernel) (P : List Bool) (E N : List Cost) (c : ℕ) (k : KCode) → Proper K → code_at c K.codes ≡ Some k →
    cost_at c (stays_from P E N [] K.codes) ≡ stay_block P E N (stays_from P E N [] K.codes) k.body

-- ---- what an emission costs is settled

-- A turn and a level, and what the loops that it wakes cost by the tables of the program. Emissions reach one another along arrows; where none lies
-- on a cycle, no way along them has as many arrows as there are events.
abbrev pub EmissionsSettle : Type 0
EmissionsSettle = (K : Kernel) (e : ℕ) → KeepsLoopRules K → e < length K.events →
    cost_at e (emitting K) ≡ plus (cost 1 1) (plus (woken_block (passes_from [] K.codes) (emitting K) (entering K) e K.body)
    (woken_codes (passes_from [] K.codes) (emitting K) (entering K) e (event_code e K.events) 0 K.codes (instances_from K.body 0 K.codes)))
