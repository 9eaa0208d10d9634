-- How a spawn came out, as the program's answer and as the definition's.
use Rattle.std.specs.Prelude.{◌≡◌, ℕ, List, [], ◌∷◌}
use Rattle.ceu_base.specs.declared.kinds.Fault.TheVariants.{SpawnCount}
use Rattle.ceu_base.specs.declared.kinds.Mark.TheVariants.{Push, Spawned, Full}
use Rattle.ceu_machine.specs.declared.spawns.Seating.{Seating}
use Rattle.ceu_machine.specs.declared.spawns.Seating.TheVariants.{Nowhere, Taken, NoNumber}
use Rattle.ceu_isa.specs.declared.registers.Registers.{Registers}
use Rattle.ceu_isa.specs.Effects.{Effect, Goes, Pauses, Faults}

abbrev pub Seats : Effect → Seating → Registers → (old new : List ℕ) → Type 0
Seats e Nowhere r old new = e ≡ Goes r new (Full ∷ [])
Seats e (Taken number level) r old new = e ≡ Pauses new (Spawned number ∷ Push level ∷ [])
Seats e (NoNumber p) r old new = (e ≡ Faults SpawnCount p) × (new ≡ old)
