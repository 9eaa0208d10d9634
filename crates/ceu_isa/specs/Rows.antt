-- The effect of each instruction, and which ones a finalizer may do. In the registers `at` is the offset behind the instruction.
use Rattle.std.specs.Prelude.{ℕ, Bool, true, false, List, []}
use Rattle.ceu_code.specs.declared.instr.Instr.{Instr}
use Rattle.ceu_code.specs.declared.instr.Instr.TheVariants as instr
use Rattle.ceu_code.specs.declared.image.Image.{Image}
use Rattle.ceu_isa.specs.declared.registers.Registers.{Registers}
use Rattle.ceu_isa.specs.Layout.{on_input, on_event, forever, unserved, served}
use Rattle.ceu_isa.specs.Effects.{Effect, Pauses, Finishes, Leaves}
use Rattle.ceu_isa.specs.Layout.{with_state, ended}
use Rattle.ceu_isa.specs.Cells.{pushed, prefix_row, binary_row, convert_row, jump_row, jump_if_row, value_row, set_value_row, output_row}
use Rattle.ceu_isa.specs.Slots.{here, outer, load_at, store_at, bound_at, next_at, limit_at}
use Rattle.ceu_isa.specs.Trails.{wait_row, wait_for_row, wait_time_row, emit_row, fork_row, move_row, abort_row, end_async_row, register_row}
use Rattle.ceu_isa.specs.Pools.{call_row, return_row, pool_row, spawn_row, kill_row, alive_row}

unfoldable pub effect : Image → Instr → Registers → List ℕ → Effect
effect image (instr.Push t v) r bytes = pushed image v r bytes
effect image (instr.Load t slot) r bytes = load_at image t (here r slot) r bytes
effect image (instr.LoadOuter t slot) r bytes = load_at image t (outer image slot) r bytes
effect image (instr.Store t slot) r bytes = store_at image t (here r slot) r bytes
effect image (instr.StoreOuter t slot) r bytes = store_at image t (outer image slot) r bytes
effect image (instr.Prefix o t position) r bytes = prefix_row image o t position r bytes
effect image (instr.Binary o t position) r bytes = binary_row image o t position r bytes
effect image (instr.Convert t u) r bytes = convert_row image t u r bytes
effect image (instr.Jump to) r bytes = jump_row to r bytes
effect image (instr.JumpIfFalse to) r bytes = jump_if_row image to r bytes
effect image (instr.Value t) r bytes = value_row image t r bytes
effect image instr.SetValue r bytes = set_value_row image r bytes
effect image (instr.Output k t) r bytes = output_row image k t r bytes
effect image instr.End r bytes = Finishes (with_state ended bytes)
effect image (instr.WaitInput k) r bytes = wait_for_row image on_input k r bytes
effect image (instr.WaitTime u) r bytes = wait_time_row image u r bytes
effect image (instr.WaitEvent k) r bytes = wait_for_row image on_event k r bytes
effect image instr.WaitForever r bytes = wait_row image forever r bytes
effect image instr.StartAsync r bytes = wait_row image unserved r bytes
effect image instr.YieldAsync r bytes = wait_row image served r bytes
effect image instr.EndAsync r bytes = end_async_row image r bytes
effect image (instr.Emit k t) r bytes = emit_row image k t r bytes
effect image (instr.Fork g to) r bytes = fork_row image g to r bytes
effect image (instr.Move g) r bytes = move_row image g r bytes
effect image instr.Halt r bytes = Pauses bytes []
effect image (instr.AbortGates g n) r bytes = abort_row image g n r bytes
effect image (instr.Register g to position) r bytes = register_row image g to position r bytes
effect image instr.EndFinalizer r bytes = Leaves
effect image (instr.Call code slot g) r bytes = call_row image code slot g r bytes
effect image instr.Return r bytes = return_row image r bytes
effect image (instr.MakePool slot n pool g) r bytes = pool_row image slot n pool g r bytes
effect image (instr.Spawn code slot n alias position) r bytes = spawn_row image code slot n alias position r bytes
effect image (instr.Kill slot) r bytes = kill_row image slot r bytes
effect image (instr.Alive slot) r bytes = alive_row image slot r bytes
effect image (instr.RangeBound slot d) r bytes = bound_at image (here r slot) d r bytes
effect image (instr.RangeNext slot variable to) r bytes = next_at image (here r slot) (here r variable) to r bytes
effect image (instr.Limit slot n position) r bytes = limit_at image (here r slot) n position r bytes

-- values, operators, jumps, outputs, and the end of a finalizer
abbrev pub in_finalizers : Instr → Bool
in_finalizers (instr.Push t v) = true
in_finalizers (instr.Load t slot) = true
in_finalizers (instr.LoadOuter t slot) = true
in_finalizers (instr.Store t slot) = true
in_finalizers (instr.StoreOuter t slot) = true
in_finalizers (instr.Prefix o t position) = true
in_finalizers (instr.Binary o t position) = true
in_finalizers (instr.Convert t u) = true
in_finalizers (instr.Jump to) = true
in_finalizers (instr.JumpIfFalse to) = true
in_finalizers (instr.Value t) = true
in_finalizers instr.SetValue = true
in_finalizers (instr.Output k t) = true
in_finalizers instr.EndFinalizer = true
in_finalizers (instr.Alive slot) = true
in_finalizers _ = false
