-- Where a turn is, as the program's state and as the definition's. The program's has no marks: they went to the sink.
use Rattle.std.specs.Prelude.{ℕ, List, [], ◌∷◌, ◌++◌}
use Rattle.ceu_base.specs.declared.kinds.Mark.{Mark}
use Rattle.ceu_base.specs.declared.kinds.Mark.TheVariants.{Push, Spawned}
use Rattle.ceu_code.specs.declared.image.Image.{Image}
use Rattle.ceu_isa.specs.declared.registers.Registers.{Registers}
use Rattle.ceu_isa.specs.Effects as isa
use Rattle.ceu_isa.specs.Turns as turns
use Rattle.ceu_isa.specs.Turns.{Machine}
use Rattle.ceu_machine.specs.declared.state.After.{After}
use Rattle.ceu_machine.specs.declared.state.After.TheVariants.{GoesOn, Frees, Fails}
use Rattle.ceu_machine.specs.declared.state.Sweep.{Sweep}
use Rattle.ceu_machine.specs.declared.state.State.{State}
use Rattle.ceu_machine.specs.declared.state.State.TheVariants.{Trail, Sweeping, Finalizer, Paused, Ended, Faulted}
use Rattle.ceu_machine.specs.declared.performing.Done.{Done}
use Rattle.ceu_machine.specs.declared.performing.Done.TheVariants as done

-- a machine whose marks went to the sink
abbrev pub plain : List ℕ → Machine
plain bytes = record { bytes = bytes; marks = [] }

abbrev pub after_of : After → isa.After
after_of GoesOn = isa.GoesOn
after_of (Frees place) = isa.Frees place
after_of (Fails f p) = isa.Fails f p

abbrev pub sweep_of : Sweep → turns.Sweep
sweep_of s = record { from = s.from; count = s.count; after = after_of s.after; trail = s.trail }

abbrev pub state_of : State → List ℕ → turns.State
state_of (Trail r) bytes = turns.Trail r (plain bytes)
state_of (Sweeping s) bytes = turns.Sweeping (sweep_of s) (plain bytes)
state_of (Finalizer s r) bytes = turns.Finalizer (sweep_of s) r (plain bytes)
state_of Paused bytes = turns.Paused (plain bytes)
state_of Ended bytes = turns.Ended (plain bytes)
state_of (Faulted f p) bytes = turns.Faulted f p (plain bytes)

-- the same with marks before its own
abbrev pub marked_machine : List Mark → Machine → Machine
marked_machine ms m = record m { marks = ms ++ m.marks }

abbrev pub marked : List Mark → turns.State → turns.State
marked ms turns.Stuck = turns.Stuck
marked ms (turns.Trail r m) = turns.Trail r (marked_machine ms m)
marked ms (turns.Sweeping s m) = turns.Sweeping s (marked_machine ms m)
marked ms (turns.Finalizer s r m) = turns.Finalizer s r (marked_machine ms m)
marked ms (turns.Paused m) = turns.Paused (marked_machine ms m)
marked ms (turns.Ended m) = turns.Ended (marked_machine ms m)
marked ms (turns.Faulted f p m) = turns.Faulted f p (marked_machine ms m)

abbrev pub IsAllowed : turns.State → Type 0
IsAllowed turns.Stuck = ⊥
IsAllowed _ = Unit {0}

-- ---- what an instruction leads to, by what it did

abbrev pub marks_of : Done → List Mark
marks_of (done.Marks m) = m ∷ []
marks_of (done.Opens level) = Push level ∷ []
marks_of (done.Spawns number level) = Spawned number ∷ Push level ∷ []
marks_of _ = []

abbrev pub sweep_after : (from count : ℕ) → isa.After → Registers → List ℕ → turns.State
sweep_after from count after r bytes = turns.Sweeping (record { from = from; count = count; after = after; trail = r }) (plain bytes)

-- in a trail: `behind` has the offset behind the instruction, and `r` what it made of that
unfoldable pub trail_after : Image → Done → (behind r : Registers) → List ℕ → turns.State
trail_after image done.Goes behind r bytes = turns.Trail r (plain bytes)
trail_after image (done.Marks m) behind r bytes = turns.Trail r (plain bytes)
trail_after image done.Pauses behind r bytes = turns.Paused (plain bytes)
trail_after image (done.Opens level) behind r bytes = turns.Paused (plain bytes)
trail_after image (done.Spawns number level) behind r bytes = turns.Paused (plain bytes)
trail_after image done.Finishes behind r bytes = turns.Ended (plain bytes)
trail_after image (done.Faults f p) behind r bytes = turns.failing image f p behind (plain bytes)
trail_after image (done.Aborts from count) behind r bytes = sweep_after from count isa.GoesOn behind bytes
trail_after image (done.Kills place from count) behind r bytes = sweep_after from count (isa.Frees place) behind bytes
trail_after image done.Leaves behind r bytes = turns.Stuck

-- in a finalizer of an abort
unfoldable pub finalizer_after : Done → turns.Sweep → (behind r : Registers) → List ℕ → turns.State
finalizer_after done.Goes s behind r bytes = turns.Finalizer s r (plain bytes)
finalizer_after (done.Marks m) s behind r bytes = turns.Finalizer s r (plain bytes)
finalizer_after (done.Faults f p) s behind r bytes = turns.finalizer_failed s.after f p (plain bytes)
finalizer_after done.Leaves s behind r bytes = turns.Sweeping (record s { trail = record s.trail { depth = behind.depth } }) (plain bytes)
finalizer_after _ s behind r bytes = turns.Stuck
