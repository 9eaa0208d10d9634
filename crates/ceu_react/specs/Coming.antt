-- How a part of a reaction came out, as the program's answer and as the definition's.
use Rattle.std.specs.Prelude.{◌≡◌, ℕ, List, Option, Some, None}
use Rattle.ceu_base.specs.declared.kinds.Ty.TheVariants as ty
use Rattle.ceu_mem.specs.Memory.{value_at}
use Rattle.ceu_isa.specs.Layout.{scratch_at}
use Rattle.ceu_isa.specs.Reactions.{Config, Waits, HasEnded, HasFaulted, Next, AllClosed, Resumes}
use Rattle.ceu_machine.specs.declared.turning.Turned.{Turned}
use Rattle.ceu_machine.specs.declared.turning.Turned.TheVariants as turn
use Rattle.ceu_react.specs.declared.after.After.{After}
use Rattle.ceu_react.specs.declared.after.After.TheVariants.{Waiting, Ended, Faulted}
use Rattle.ceu_react.specs.declared.closing.Resumption.{Resumption}
use Rattle.ceu_react.specs.Rounds.{Round, Over, Goes}

-- the definition's outcome of a command is this one, with these bytes
abbrev pub Came : Config → After → List ℕ → Type 0
Came (Waits m) Waiting bytes = m.bytes ≡ bytes
Came (HasEnded v m) (Ended w) bytes = (v ≡ w) × (m.bytes ≡ bytes)
Came (HasFaulted f p m) (Faulted g q) bytes = (f ≡ g) × (p ≡ q) × (m.bytes ≡ bytes)
Came _ _ bytes = ⊥

-- the gate that is resumed next, or none where all levels have closed
abbrev pub NextIs : Next → Option Resumption → List ℕ → Type 0
NextIs (AllClosed m) None bytes = m.bytes ≡ bytes
NextIs (Resumes g level m) (Some r) bytes = (g ≡ r.gate) × (level ≡ r.level) × (m.bytes ≡ bytes)
NextIs _ _ bytes = ⊥

-- the end of the reaction, or none where it goes on
abbrev pub RoundIs : Round → Option After → List ℕ → Type 0
RoundIs (Goes m) None bytes = m.bytes ≡ bytes
RoundIs (Over c) (Some after) bytes = Came c after bytes
RoundIs _ _ bytes = ⊥

abbrev pub end_of_turn : Turned → List ℕ → Option After
end_of_turn turn.Paused bytes = None
end_of_turn turn.Ended bytes = Some (Ended (value_at ty.S64 bytes scratch_at))
end_of_turn (turn.Faulted f p) bytes = Some (Faulted f p)
