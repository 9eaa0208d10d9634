-- The numbers of a compiled program, by which its configurations stand in the memory.
use Rattle.std.specs.Prelude.{ℕ}
use Rattle.ceu_tree.specs.declared.kernel.Kernel.{Kernel}
use Rattle.ceu_shape.specs.Plans.{Plan}
use Rattle.ceu_shape.specs.Searches.{body_node, event_number, pool_row}
use Rattle.ceu_shape.specs.Shape.{shape_positions, begin_offset, finish_offset, turn_offset}
use Rattle.laws_machine_layout.specs.Tables.{Tables}

-- `width` gives the bytes of a slot
abbrev pub tables : Plan → (width : ℕ → ℕ) → Kernel → Tables
tables P width K = record {
  first = P.first;
  count = P.count;
  begun = begin_offset P K;
  resumed = finish_offset P K;
  again = turn_offset P K;
  stays = finish_offset P K;
  offset = P.offset;
  width = width;
  frame = P.frame;
  gates = λ code. P.count (body_node K code);
  pool = pool_row K;
  event = event_number K;
  positions = shape_positions P K;
}
