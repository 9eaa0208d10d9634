-- Marks that came before a command: the rest of the machine's run is the same with them in front.
use Rattle.std.specs.Prelude.{List}
use Rattle.ceu_base.specs.declared.kinds.Mark.{Mark}
use Rattle.ceu_isa.specs.Reactions.{Config, Lost, Waits, HasEnded, HasFaulted}
use Rattle.ceu_machine.specs.States.{marked_machine}

abbrev pub marked_config : List Mark → Config → Config
marked_config ms Lost = Lost
marked_config ms (Waits m) = Waits (marked_machine ms m)
marked_config ms (HasEnded v m) = HasEnded v (marked_machine ms m)
marked_config ms (HasFaulted f p m) = HasFaulted f p (marked_machine ms m)

-- nothing was done that isn't allowed
abbrev pub IsKept : Config → Type 0
IsKept Lost = ⊥
IsKept _ = Unit {0}
