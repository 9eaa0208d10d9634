-- Lines that stand in the code of an image, each label at its offset: what the machine fetches there.
use Rattle.std.specs.Prelude.{◌≡◌, ℕ, ◌+◌, ◌≤◌, List, [], ◌∷◌, ◌++◌, Some}
use Rattle.std.specs.List.{AllByRecursion}
use Rattle.ceu_code.specs.declared.image.Image.{Image}
use Rattle.ceu_code.specs.Instructions.{size, with_target}
use Rattle.ceu_asm.specs.declared.line.Line.{Line}
use Rattle.ceu_asm.specs.declared.line.Line.TheVariants.{Mark, Plain, Jump}
use Rattle.ceu_asm.specs.Lines.{marks, code_size, offset_of, instructions, assembled}
use Rattle.ceu_asm.specs.Whole.{IsInRange}
use Rattle.ceu_isa.specs.Fetching.{fetched}

-- from an offset on; `offset` says where labels are
abbrev pub Placed : Image → (offset : ℕ → ℕ) → (at : ℕ) → List Line → Type 0
Placed image offset at [] = Unit {0}
Placed image offset at (Mark label ∷ lines) = (offset label ≡ at) × Placed image offset at lines
Placed image offset at (Plain i ∷ lines) = (fetched image at ≡ Some i) × Placed image offset (at + size i) lines
Placed image offset at (Jump i label ∷ lines) = (fetched image at ≡ Some (with_target i (offset label))) × Placed image offset (at + size i) lines

-- Lines of which the code is made stand there whole, where their instructions are in range and no label is marked twice.
abbrev pub LinesArePlaced : Type 0
LinesArePlaced = (image : Image) (lines : List Line) → image.code ≡ assembled lines → AllByRecursion IsInRange (instructions lines) → ((label : ℕ) → marks label lines ≤ 1) → Placed image (λ l. offset_of l lines) 0 lines

-- Of lines that stand in the code each part does, behind the bytes of the lines before it.
abbrev pub PartsArePlaced : Type 0
PartsArePlaced = (image : Image) (offset : ℕ → ℕ) (at : ℕ) (a b : List Line) → Placed image offset at (a ++ b) → Placed image offset at a × Placed image offset (at + code_size a) b
