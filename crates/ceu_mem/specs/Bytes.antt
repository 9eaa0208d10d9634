-- Numbers in an array of bytes.
use Rattle.std.specs.Prelude.{ℕ, zero, suc, ◌+◌, ◌*◌, ◌/◌, ◌%◌, List, slice_index, slice_set}

-- the number of k bytes at a place, the lowest byte first
unfoldable pub number_at : ℕ → List ℕ → ℕ → ℕ
number_at zero bytes at = 0
number_at (suc k) bytes at = slice_index bytes at + 256 * number_at k bytes (at + 1)

-- the bytes with a number in k bytes at a place
unfoldable pub with_number : ℕ → ℕ → List ℕ → ℕ → List ℕ
with_number zero n bytes at = bytes
with_number (suc k) n bytes at = with_number k (n / 256) (slice_set bytes at (n % 256)) (at + 1)
