-- The numbers of a program that was compiled: where its code, gates and slots are, by node, slot and code number (this project's own).
use Rattle.std.specs.Prelude.{ℕ, List}
use Rattle.ceu_base.specs.declared.kinds.Pos.{Pos}

pub record Tables : Type 0 where
  -- the first gate of a statement or block, from the first gate of its body on, and how many it has
  pub first : (node : ℕ) → ℕ
  pub count : (node : ℕ) → ℕ
  -- the code offsets at which a block begins, at which a statement goes on that has waited or paused, at which the next turn of a loop of an async
  -- begins, and where a branch of a par that has ended stays
  pub begun : (node : ℕ) → ℕ
  pub resumed : (node : ℕ) → ℕ
  pub again : (node : ℕ) → ℕ
  pub stays : (node : ℕ) → ℕ
  -- where a slot lies in its frame, and how many bytes it has
  pub offset : (slot : ℕ) → ℕ
  pub width : (slot : ℕ) → ℕ
  -- of a code: the bytes of its frame, and the gates of its body
  pub frame : (code : ℕ) → ℕ
  pub gates : (code : ℕ) → ℕ
  -- the row of the pool that a slot holds, and the number by which the code names an event
  pub pool : (slot : ℕ) → ℕ
  pub event : (event : ℕ) → ℕ
  -- the positions that the code names by number
  pub positions : List Pos
