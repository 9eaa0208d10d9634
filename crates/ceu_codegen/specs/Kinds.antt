-- By which lowering call the lines of a statement are added.
use Rattle.std.specs.Prelude.{ℕ, ◌+◌}
use Rattle.ceu_tree.specs.declared.kernel.KStmt.{KStmt, AwaitCode, Spawn, Kill, Unset, Async, Finalize, Par'}
use Rattle.ceu_low_flow.specs.Conditions as flow
use Rattle.ceu_low_pool.specs.Conditions as on_code
use Rattle.ceu_low_par.specs.Conditions as side
use Rattle.ceu_codegen.specs.declared.statement.Lowered.{Lowered}
use Rattle.ceu_codegen.specs.declared.statement.Lowered.TheVariants as by

abbrev pub lowered_by : KStmt → Lowered
lowered_by (AwaitCode c es frame t) = by.OnCode
lowered_by (Spawn c es pool alias) = by.OnCode
lowered_by (Kill c) = by.OnCode
lowered_by (Unset c) = by.OnCode
lowered_by (Async b) = by.Async
lowered_by (Finalize b) = by.Side
lowered_by (Par' kind slot _ bs) = by.Side
lowered_by _ = by.Flow

-- how many parts a statement has
abbrev pub parts_counted : KStmt → ℕ
parts_counted (Async b) = 1
parts_counted s = flow.part_count s + (on_code.part_count s + side.part_count s)
