-- The order of gates by the instances at which their chains first differ, and the first or the last of some gates.
use Rattle.std.specs.Prelude.{ℕ, Bool, true, false, if◌then◌else◌, List, Option, Some, None, IsSome}
use Rattle.ceu_code.specs.declared.image.Image.{Image}
use Rattle.ceu_mem.specs.declared.gate.Gate.{Gate}
use Rattle.ceu_isa.specs.Layout.{gate_of, runs_at, is_unserved, is_taken}
use Rattle.ceu_isa.specs.Order.{Choice, Nowhere, Unclear, Chosen, older, before, chain, first_of, last_of}
use Rattle.ceu_machine.specs.declared.choosing.Wanted.{Wanted}
use Rattle.ceu_machine.specs.declared.choosing.Wanted.TheVariants.{Running, Unserved, Taken}

-- the older of two instances, where there are two
abbrev pub by_last : List ℕ → Option ℕ → Option ℕ → Bool → Bool
by_last bytes (Some x) (Some y) low = older bytes x y low
by_last bytes _ _ low = low

abbrev pub HasChain : Image → List ℕ → ℕ → Type 0
HasChain image bytes g = IsSome (chain image bytes (gate_of image bytes g).frame)

abbrev pub wants : Wanted → Gate → Bool
wants (Running level) gate = runs_at level gate
wants Unserved gate = is_unserved gate
wants Taken gate = is_taken gate

-- a gate goes before another, or where the last is sought, behind it
unfoldable pub ahead : Image → List ℕ → (last : Bool) → ℕ → ℕ → Bool
ahead image bytes true g h = before image bytes h g
ahead image bytes false g h = before image bytes g h

-- what is kept where a gate comes after the best so far
abbrev pub better : (ℕ → ℕ → Bool) → Option ℕ → ℕ → ℕ
better bef None g = g
better bef (Some b) g = if bef g b then g else b

-- the first or the last of some gates
unfoldable pub end_of_all : Image → List ℕ → (last : Bool) → List ℕ → Choice
end_of_all image bytes true gates = last_of image bytes gates
end_of_all image bytes false gates = first_of image bytes gates

abbrev pub choice_of : Option ℕ → Choice
choice_of None = Nowhere
choice_of (Some g) = Chosen g

abbrev pub IsDecided : Choice → Type 0
IsDecided Unclear = ⊥
IsDecided _ = Unit {0}
