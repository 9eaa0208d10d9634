-- What the code of a kernel takes from the plans of slots and of gates, and the labels that belong to its nodes.
use Rattle.std.specs.Prelude.{ℕ, ◌+◌, ◌*◌, List, slice_index}

-- By the number of a slot its offset in its frame, by that of a code the size of its frame, the bytes of all slots, and by the number of a node its
-- first gate and how many it has, both relative to the gate base of the frame.
pub record Plan : Type 0 where
  pub offset : ℕ → ℕ
  pub frame : ℕ → ℕ
  pub total : ℕ
  pub first : ℕ → ℕ
  pub count : ℕ → ℕ

abbrev pub plan_of : (offset frame : ℕ → ℕ) → (total : ℕ) → (firsts counts : List ℕ) → Plan
plan_of offset frame total firsts counts = record { offset = offset; frame = frame; total = total; first = slice_index firsts; count = slice_index counts }

-- Each node has two labels. At the first the lines of a statement, or of a block, begin. The second stands behind a statement with all its parts;
-- of a block it is the label to which its last line goes, and of the body of the program or of code the one of the lines that end it.
abbrev pub own_label : (node : ℕ) → ℕ
own_label n = 2 * n

abbrev pub end_label : (node : ℕ) → ℕ
end_label n = 2 * n + 1
