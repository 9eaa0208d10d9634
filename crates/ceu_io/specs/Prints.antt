-- What a part of a text has written: nothing where an earlier part failed, all of it, or a proper prefix where it failed itself.
use Rattle.std.specs.Prelude.{◌≡◌, ℕ, ◌≤◌, Bool, true, false, List, Option}
use Rattle.ceu_io.specs.Counts.{Rose}
use Rattle.ceu_io.specs.Bytes.{Appends, AppendsProperFront}

-- `going` and `goes` say whether all is written before the part and after it, `held` and `holds` what the sink holds, `faults` and `fails` its count
abbrev pub Prints : List ℕ → (going goes : Bool) → (held holds : Option (List ℕ)) → (faults fails : ℕ) → Type 0
Prints text false goes held holds faults fails = (goes ≡ false) × (holds ≡ held) × (fails ≡ faults)
Prints text true true held holds faults fails = Appends text held holds × (fails ≡ faults)
Prints text true false held holds faults fails = AppendsProperFront text held holds × (faults ≤ fails) × Rose faults fails
