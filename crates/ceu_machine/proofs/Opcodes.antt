-- Numbers that are no opcodes.
use Rattle.std.proofs.Common.{◌≡◌, ℕ, ◌≤◌, List, None, ap}
use Rattle.std.specs.Prelude.{slice_get}
use Rattle.std.proofs.lemmas.Option.{slice_get_past}
use Rattle.ceu_isa.specs.Fetching.{readers, read_by}

pub no_reader : (op : ℕ) (code : List ℕ) (at : ℕ) → 39 ≤ op → read_by (slice_get readers op) code at ≡ None
unfolding readers read_by
no_reader op code at le = ap (λ r. read_by r code at) (slice_get_past readers op le)
