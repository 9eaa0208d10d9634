-- How much room in a sheet the parts of a statement take at most.
use Rattle.std.specs.Prelude.{ℕ, ◌+◌, Option, Some, None}
use Rattle.ceu_tree.specs.declared.kernel.KExp.{KExp}
use Rattle.ceu_tree.specs.declared.kernel.KLoop.{KLoop}
use Rattle.ceu_tree.specs.declared.kernel.KLoop.TheVariants as turns
use Rattle.ceu_tree.specs.declared.kernel.KArm.{KArm, KArm'}
use Rattle.ceu_tree.specs.declared.kernel.KStmt.{KStmt, Row_of-KArm, end_of-KArm, more_of-KArm, Assign, Out, Emit, AwaitTime, AwaitCode, Spawn, Async, Finalize, Do, Escape, If', Loop, Par'}
use Rattle.ceu_tree.specs.Greatest.{total}
use Rattle.ceu_tree.specs.Weight.{exp_count, block_weight, blocks_weight}

abbrev pub room_if : Option KExp → ℕ
room_if None = 0
room_if (Some e) = exp_count e

abbrev pub turns_room : KLoop → ℕ
turns_room (turns.Range i next end open_a a b open_b) = exp_count a + exp_count b
turns_room _ = 0

abbrev pub arm_room : KArm → ℕ
arm_room (KArm' c b) = exp_count c + block_weight b

abbrev pub arms_room : {n : _} → Row_of-KArm n → ℕ
arms_room end_of-KArm = 0
arms_room (more_of-KArm a rest) = arm_room a + arms_room rest

unfoldable pub parts_room : KStmt → ℕ
parts_room (Assign l e) = exp_count e
parts_room (Out k e) = room_if e
parts_room (Emit k e) = room_if e
parts_room (AwaitTime e u t) = exp_count e
parts_room (AwaitCode c es frame t) = total exp_count es
parts_room (Spawn c es pool alias) = total exp_count es
parts_room (Async b) = block_weight b
parts_room (Finalize b) = block_weight b
parts_room (Do t b) = block_weight b
parts_room (Escape m e) = room_if e
parts_room (If' _ arms last) = arms_room arms + block_weight last
parts_room (Loop kind b) = turns_room kind + block_weight b
parts_room (Par' kind slot _ bs) = blocks_weight bs
parts_room _ = 0
