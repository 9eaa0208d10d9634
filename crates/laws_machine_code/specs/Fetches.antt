-- Where an instruction's bytes stand in the code, the machine fetches that instruction.
use Rattle.std.specs.Prelude.{◌≡◌, ℕ, ◌+◌, List, [], ◌∷◌, Some}
use Rattle.ceu_code.specs.declared.instr.Instr.{Instr}
use Rattle.ceu_code.specs.declared.image.Image.{Image}
use Rattle.ceu_code.specs.Instructions.{size}
use Rattle.ceu_asm.specs.Whole.{IsInRange}
use Rattle.ceu_asm.specs.Fetch.{IsAt, HasAt}
use Rattle.ceu_isa.specs.Fetching.{fetched}

-- one whose operands are in range
abbrev pub FetchesSpelled : Type 0
FetchesSpelled = (image : Image) (at : ℕ) (i : Instr) → IsInRange i → IsAt image.code at i → fetched image at ≡ Some i

-- these instructions are fetched from an offset on, one behind the other
abbrev pub Fetches : Image → (at : ℕ) → List Instr → Type 0
Fetches image at [] = Unit {0}
Fetches image at (i ∷ is) = (fetched image at ≡ Some i) × Fetches image (at + size i) is
