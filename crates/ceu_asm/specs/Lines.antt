-- Lines with labels, and the bytes that they become.
use Rattle.std.specs.Prelude.{◌≡◌, ℕ, ◌+◌, ◌≤◌, Bool, false, ◌==◌, List, [], ◌∷◌, if◌then◌else◌}
use Rattle.std.specs.List.{flat_map, AllByRecursion}
use Rattle.ceu_code.specs.declared.instr.Instr.{Instr}
use Rattle.ceu_code.specs.Instructions.{spelled, size, with_target}
use Rattle.ceu_asm.specs.declared.line.Line.{Line}
use Rattle.ceu_asm.specs.declared.line.Line.TheVariants.{Mark, Plain, Jump}

abbrev pub is_mark : ℕ → Line → Bool
is_mark label (Mark l) = l == label
is_mark label (Plain i) = false
is_mark label (Jump i l) = false

-- how many lines mark a label
abbrev pub marks : ℕ → List Line → ℕ
marks label [] = 0
marks label (line ∷ lines) = (if is_mark label line then 1 else 0) + marks label lines

abbrev pub line_size : Line → ℕ
line_size (Mark l) = 0
line_size (Plain i) = size i
line_size (Jump i l) = size i

-- how many bytes the lines become
abbrev pub code_size : List Line → ℕ
code_size [] = 0
code_size (line ∷ lines) = line_size line + code_size lines

-- how many bytes stand before the first mark of a label
abbrev pub offset_of : ℕ → List Line → ℕ
offset_of label [] = 0
offset_of label (line ∷ lines) = if is_mark label line then 0 else (line_size line + offset_of label lines)

-- the instructions of the lines, where a label has this offset
abbrev pub resolved : (ℕ → ℕ) → List Line → List Instr
resolved at [] = []
resolved at (Mark l ∷ lines) = resolved at lines
resolved at (Plain i ∷ lines) = i ∷ resolved at lines
resolved at (Jump i l ∷ lines) = with_target i (at l) ∷ resolved at lines

-- the instructions of the lines: each label is where it is marked
abbrev pub instructions : List Line → List Instr
instructions lines = resolved (λ l. offset_of l lines) lines

-- the bytes of the lines: those of their instructions, one after the other
abbrev pub assembled : List Line → List ℕ
assembled lines = flat_map spelled (instructions lines)

-- each label that an instruction names is marked, and only once
abbrev pub IsMarkedOnce : List Line → Line → Type 0
IsMarkedOnce lines (Jump i l) = marks l lines ≡ 1
IsMarkedOnce lines _ = Unit {0}

pub record IsWhole (lines : List Line) : Type 0 where
  pub marked : AllByRecursion (IsMarkedOnce lines) lines
  pub fits : code_size lines ≤ 65535
