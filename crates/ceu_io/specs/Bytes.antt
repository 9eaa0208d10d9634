-- How bytes move, where the object tells what it holds.
use Rattle.std.specs.Prelude.{◌≡◌, ℕ, ◌<◌, ◌≤◌, List, [], ◌++◌, length, take, drop, Option}
use Rattle.ceu_io.specs.Told.{WhereTold}

-- A read of n bytes into the front of buf.
pub record Moves (buf new left rest : List ℕ) (n : ℕ) : Type 0 where
  pub within : n ≤ length left
  pub rest_is : rest ≡ drop n left
  pub front : take n new ≡ take n left
  pub behind : drop n new ≡ drop n buf
  pub at_end : 0 < length buf → n ≡ 0 → left ≡ []

abbrev pub Reads : List ℕ → List ℕ → Option (List ℕ) → Option (List ℕ) → ℕ → Type 0
Reads buf new old_left new_left n = WhereTold old_left new_left (λ left rest. Moves buf new left rest n)

-- The bytes are written behind what was held.
abbrev pub Appends : List ℕ → Option (List ℕ) → Option (List ℕ) → Type 0
Appends bytes old_held new_held = WhereTold old_held new_held (λ old new. new ≡ old ++ bytes)

-- A proper prefix of the bytes is.
abbrev pub AppendsProperFront : List ℕ → Option (List ℕ) → Option (List ℕ) → Type 0
AppendsProperFront bytes old new = (n : ℕ) × (n < length bytes) × Appends (take n bytes) old new

-- n bytes of an offer of that length: at least one where there is one
pub record IsPiece (n offered : ℕ) : Type 0 where
  pub at_most : n ≤ offered
  pub at_least : 0 < offered → 0 < n
