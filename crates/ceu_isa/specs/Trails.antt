-- Trails and their gates: waiting, emitting, starting and ending trails, asyncs, finalizers. The trail that runs has a gate of its own, which is
-- free while it runs.
use Rattle.std.specs.Prelude.{ℕ, ◌+◌, ◌-◌, ◌^◌, ℤ, pos, negsuc, ◌*ℤ◌, nat_lt, nat_le, ◌==◌, Bool, ◌&&◌, ◌||◌, min, max, List, [], ◌∷◌, slice_get}
use Rattle.ceu_base.specs.declared.kinds.Ty.{Ty}
use Rattle.ceu_base.specs.declared.kinds.Ty.TheVariants as ty
use Rattle.ceu_base.specs.declared.kinds.Mark.TheVariants.{Push, Registered}
use Rattle.ceu_code.specs.declared.image.Image.{Image}
use Rattle.ceu_code.specs.declared.instr.TimeUnit.{TimeUnit}
use Rattle.ceu_code.specs.declared.instr.TimeUnit.TheVariants.{H, Min, S, Ms, Us}
use Rattle.ceu_code.specs.Instructions.{cell}
use Rattle.ceu_mem.specs.declared.gate.Gate.{Gate}
use Rattle.ceu_isa.specs.declared.registers.Registers.{Registers}
use Rattle.ceu_isa.specs.Layout.{top_of, with_top, gate_changed, each_gate, can_run, on_time, on_event, finalizer}
use Rattle.ceu_isa.specs.Effects.{Effect, Goes, Pauses, Aborts, GoesOn, provided, for_some}
use Rattle.ceu_isa.specs.Cells.{popped, popped_unless_none}

-- a gate of a kind, where the trail goes on behind its instruction, with its frame and gate base
abbrev pub kept : (kind : ℕ) → Registers → Gate → Gate
kept kind r gate = record gate { kind = kind; code = r.at; frame = r.frame; base = r.base }

abbrev pub kept_for : (kind key : ℕ) → Registers → Gate → Gate
kept_for kind key r gate = record gate { kind = kind; code = r.at; frame = r.frame; base = r.base; key = key }

abbrev pub kept_until : (time : ℕ) → Registers → Gate → Gate
kept_until time r gate = record gate { kind = on_time; code = r.at; frame = r.frame; base = r.base; value = time }

abbrev pub kept_running : (level : ℕ) → Registers → Gate → Gate
kept_running level r gate = record gate { kind = can_run; level = level; code = r.at; frame = r.frame; base = r.base }

-- the own gate becomes what f makes of it, and the turn ends
abbrev pub pause : Image → (Gate → Gate) → Registers → List ℕ → Effect
pause image f r bytes = provided (nat_lt r.own image.gates) (Pauses (gate_changed image f r.own bytes) [])

abbrev pub wait_row : Image → (kind : ℕ) → Registers → List ℕ → Effect
wait_row image kind r bytes = pause image (kept kind r) r bytes

abbrev pub wait_for_row : Image → (kind key : ℕ) → Registers → List ℕ → Effect
wait_for_row image kind key r bytes = pause image (kept_for kind key r) r bytes

-- ---- time

-- in microseconds
abbrev pub unit_time : TimeUnit → ℕ
unit_time H = 3600000000
unit_time Min = 60000000
unit_time S = 1000000
unit_time Ms = 1000
unit_time Us = 1

-- from 1 to 2^63 - 1 microseconds
abbrev pub clamped : ℤ → ℕ
clamped (pos n) = max 1 (min n (2 ^ 63 - 1))
clamped (negsuc n) = 1

abbrev pub wait_time_row : Image → TimeUnit → Registers → List ℕ → Effect
wait_time_row image u r bytes =
    for_some (popped image ty.S64 r bytes) (λ a. pause image (kept_until (clamped (a.value *ℤ pos (unit_time u))) a.registers) a.registers bytes)

-- ---- emissions

-- an event of a code has its number from 32,768 on, and only those wake that wait in the emitter's frame
abbrev pub waits_for : (event frame : ℕ) → Gate → Bool
waits_for event frame gate = ((gate.kind == on_event) && (gate.key == event)) && (nat_lt event 32768 || (gate.frame == frame))

abbrev pub woken_at : (level value : ℕ) → Gate → Gate
woken_at level value gate = record gate { kind = can_run; level = level; value = value }

unfoldable pub woken : Image → (event level value frame : ℕ) → List ℕ → List ℕ
woken image event level value frame bytes = each_gate image (waits_for event frame) (woken_at level value) image.gates bytes

-- the trail can go on at its level, and the next level opens
unfoldable pub opened : Image → (level : ℕ) → Registers → List ℕ → List ℕ
opened image level r bytes = with_top (level + 1) (gate_changed image (kept_running level r) r.own bytes)

abbrev pub can_open : Image → Registers → List ℕ → Bool
can_open image r bytes = nat_lt r.own image.gates && nat_lt (top_of bytes) image.levels

abbrev pub emit_row : Image → (event : ℕ) → Ty → Registers → List ℕ → Effect
emit_row image event t r bytes =
    for_some (popped_unless_none image t r bytes)
    (λ a. provided (can_open image a.registers bytes)
    (Pauses (opened image (top_of bytes) a.registers (woken image event (top_of bytes + 1) (cell a.value) a.registers.frame bytes)) (Push (top_of bytes + 1) ∷ [])))

-- ---- other trails

abbrev pub gate_here : Registers → ℕ → ℕ
gate_here r g = r.base + g

-- a gate can run at an offset at the top level, in the trail's frame
abbrev pub started_at : (to level : ℕ) → Registers → Gate → Gate
started_at to level r gate = record gate { kind = can_run; level = level; code = to; frame = r.frame; base = r.base }

abbrev pub fork_row : Image → (g to : ℕ) → Registers → List ℕ → Effect
fork_row image g to r bytes =
    provided (nat_lt (gate_here r g) image.gates) (Goes r (gate_changed image (started_at to (top_of bytes) r) (gate_here r g) bytes) [])

abbrev pub move_row : Image → (g : ℕ) → Registers → List ℕ → Effect
move_row image g r bytes = provided (nat_lt (gate_here r g) image.gates) (Goes (record r { own = gate_here r g }) bytes [])

abbrev pub abort_row : Image → (g n : ℕ) → Registers → List ℕ → Effect
abort_row image g n r bytes = provided (nat_le (gate_here r g + n) image.gates) (Aborts (gate_here r g) n GoesOn)

-- ---- asyncs

-- an async that has ended can run at level 0
abbrev pub end_async_row : Image → Registers → List ℕ → Effect
end_async_row image r bytes = pause image (kept_running 0 r) r bytes

-- ---- finalizers

abbrev pub registered_at : (to position : ℕ) → Registers → Gate → Gate
registered_at to position r gate = record gate { kind = finalizer; code = to; frame = r.frame; base = r.base; key = position }

abbrev pub register_row : Image → (g to position : ℕ) → Registers → List ℕ → Effect
register_row image g to position r bytes =
    for_some (slice_get image.places position) (λ p. provided (nat_lt (gate_here r g) image.gates)
    (Goes r (gate_changed image (registered_at to position r) (gate_here r g) bytes) (Registered p ∷ [])))
