-- The table of the labels' offsets, by label, that assembly fills on its way.
use Rattle.std.specs.Prelude.{ℕ, ◌+◌, ◌<◌, List, [], ◌∷◌, max, slice_set, slice_index}
use Rattle.ceu_code.specs.Instructions.{spelled, with_target}
use Rattle.ceu_asm.specs.declared.line.Line.{Line}
use Rattle.ceu_asm.specs.declared.line.Line.TheVariants.{Mark, Plain, Jump}
use Rattle.ceu_asm.specs.Lines.{line_size}

-- a mark's label is below n
abbrev pub IsWithin : ℕ → Line → Type 0
IsWithin n (Mark l) = l < n
IsWithin n _ = Unit {0}

-- a label that an instruction names is below n
abbrev pub NamesWithin : ℕ → Line → Type 0
NamesWithin n (Jump i l) = l < n
NamesWithin n _ = Unit {0}

-- one more than the greatest label that is marked
abbrev pub label_bound : Line → ℕ
label_bound (Mark l) = l + 1
label_bound _ = 0

abbrev pub table_size : List Line → ℕ
table_size [] = 0
table_size (line ∷ lines) = max (label_bound line) (table_size lines)

-- the table after a line at an offset, and after lines from an offset on
abbrev pub noted : List ℕ → Line → ℕ → List ℕ
noted table (Mark l) at = slice_set table l at
noted table _ at = table

abbrev pub filled : List ℕ → ℕ → List Line → List ℕ
filled table at [] = table
filled table at (line ∷ lines) = filled (noted table line at) (at + line_size line) lines

-- the bytes of a line by a table
abbrev pub line_bytes : List ℕ → Line → List ℕ
line_bytes table (Mark l) = []
line_bytes table (Plain i) = spelled i
line_bytes table (Jump i l) = spelled (with_target i (slice_index table l))
