-- What an instruction did, as the program's answer and as the definition's.
use Rattle.std.specs.Prelude.{◌≡◌, ℕ, List, [], ◌∷◌}
use Rattle.ceu_base.specs.declared.kinds.Mark.TheVariants.{Push, Spawned}
use Rattle.ceu_isa.specs.declared.registers.Registers.{Registers}
use Rattle.ceu_isa.specs.Effects as isa
use Rattle.ceu_isa.specs.Effects.{Effect}
use Rattle.ceu_machine.specs.declared.performing.Done.{Done}
use Rattle.ceu_machine.specs.declared.performing.Done.TheVariants.{Goes, Marks, Pauses, Opens, Spawns, Finishes, Faults, Aborts, Kills, Leaves}

abbrev pub Did : Effect → Done → Registers → (old new : List ℕ) → Type 0
Did e Goes r old new = e ≡ isa.Goes r new []
Did e (Marks m) r old new = e ≡ isa.Goes r new (m ∷ [])
Did e Pauses r old new = e ≡ isa.Pauses new []
Did e (Opens level) r old new = e ≡ isa.Pauses new (Push level ∷ [])
Did e (Spawns number level) r old new = e ≡ isa.Pauses new (Spawned number ∷ Push level ∷ [])
Did e Finishes r old new = e ≡ isa.Finishes new
Did e (Faults f p) r old new = (e ≡ isa.Faults f p) × (new ≡ old)
Did e (Aborts from count) r old new = (e ≡ isa.Aborts from count isa.GoesOn) × (new ≡ old)
Did e (Kills place from count) r old new = (e ≡ isa.Aborts from count (isa.Frees place)) × (new ≡ old)
Did e Leaves r old new = (e ≡ isa.Leaves) × (new ≡ old)
