-- What contracts see of the objects in memory, and what their next call does.
use Rattle.std.specs.Prelude.{ℕ, ◌-◌, Bool, ◌||◌, ◌==◌, List, length, min}
use Rattle.ceu_io.specs.Calls.{next_count, is_listed}

pub record SourceInMemory : Type 0 where
  -- the bytes that are still to be read
  pub left : List ℕ
  -- the most bytes that a call moves
  pub piece : ℕ
  -- how many calls were made
  pub calls : ℕ
  pub faults : ℕ
  -- the calls that fail
  pub fails : List ℕ

pub record SinkInMemory : Type 0 where
  pub bytes : List ℕ
  -- the most bytes that it holds
  pub room : ℕ
  pub piece : ℕ
  pub calls : ℕ
  pub faults : ℕ
  pub fails : List ℕ

abbrev pub read_fails : SourceInMemory → Bool
read_fails s = is_listed s.fails (next_count s.calls)

-- how many bytes a read into a buffer of that length moves
abbrev pub read_size : SourceInMemory → ℕ → ℕ
read_size s size = min (min s.piece size) (length s.left)

-- a listed call, or one without room
abbrev pub write_fails : SinkInMemory → Bool
write_fails s = s.room - length s.bytes == 0 || is_listed s.fails (next_count s.calls)

-- how many bytes of an offer of that length a write takes
abbrev pub write_size : SinkInMemory → ℕ → ℕ
write_size s offered = min (min s.piece offered) (s.room - length s.bytes)
