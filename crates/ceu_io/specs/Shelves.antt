-- What a shelf answers for a name.
use Rattle.std.specs.Prelude.{◌≡◌, ℕ, ◌<◌, ◌≤◌, List, length, Option, Some, None, Result, Ok, Err}
use Rattle.ceu_io.specs.Counts.{Rose}
use Rattle.ceu_io.specs.declared.shelves.Fetched.{Fetched}
use Rattle.ceu_io.specs.declared.shelves.Fetched.TheVariants.{Bytes, Absent, TooLong}
use Rattle.ceu_io.specs.declared.shelves.ShelfError.{ShelfError}
use Rattle.ceu_io.specs.declared.shelves.ShelfError.TheVariants.{Failed, Memory}

-- Each answer excludes the others, so each comes exactly where its fact holds.
abbrev pub Fetches : Fetched → ℕ → List ℕ → (List ℕ → Option (List ℕ)) → Type 0
Fetches (Bytes v) limit name files = (files name ≡ Some v.items) × (length v.items ≤ limit)
Fetches Absent limit name files = files name ≡ None
Fetches TooLong limit name files = (bytes : List ℕ) × (files name ≡ Some bytes) × (limit < length bytes)

-- Told or not, no more bytes come than the limit.
abbrev pub IsWithin : Fetched → ℕ → Type 0
IsWithin (Bytes v) limit = length v.items ≤ limit
IsWithin Absent limit = Unit {0}
IsWithin TooLong limit = Unit {0}

-- `Failed` comes only where the count rose; every other answer leaves it.
abbrev pub HasShelfCause : {T : Type 0} → ℕ → ℕ → Result T ShelfError → Type 0
HasShelfCause before now (Ok x) = now ≡ before
HasShelfCause before now (Err Memory) = now ≡ before
HasShelfCause before now (Err Failed) = (before ≤ now) × Rose before now
