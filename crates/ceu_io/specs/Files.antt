-- The files of a shelf in memory.
use Rattle.std.specs.Prelude.{◌≡◌, ◌≢◌, ℕ, Bool, List, Option, Some, map}
use Rattle.std.specs.String.{string_bytes}
use Rattle.std.specs.Global.{Vec, Global}
use Rattle.std.specs.declared.string.String.{String}
use Rattle.std.specs.Str.{bytes_eq}
use Rattle.std.specs.Map.{lookup}
use Rattle.ceu_io.specs.Calls.{next_count, is_listed}

pub record ShelfInMemory : Type 0 where
  -- names with their bytes
  pub files : List (List ℕ × List ℕ)
  -- how many calls were made
  pub calls : ℕ
  pub faults : ℕ
  -- the calls that fail
  pub fails : List ℕ

-- the bytes of the file of a name
abbrev pub file_of : List (List ℕ × List ℕ) → List ℕ → Option (List ℕ)
file_of files name = lookup (λ other. bytes_eq name other) files

-- the file of one name is replaced, or is new
pub record Puts (old new : List (List ℕ × List ℕ)) (name bytes : List ℕ) : Type 0 where
  pub put : file_of new name ≡ Some bytes
  pub others : (other : List ℕ) → other ≢ name → file_of new other ≡ file_of old other

abbrev pub fetch_fails : ShelfInMemory → Bool
fetch_fails s = is_listed s.fails (next_count s.calls)

-- a map of texts to bytes, as contracts see it
abbrev pub texts : List (String Global × Vec ℕ) → List (List ℕ × List ℕ)
texts entries = map (λ e. (string_bytes e.0, e.1.items)) entries
