-- The listing of an image: a line of its memory and its bounds, one for each row of its lists, and one for each instruction (this project's own).
use Rattle.std.specs.Prelude.{ℕ, zero, suc, ◌+◌, ◌-◌, ◌*◌, List, [], ◌∷◌, ◌++◌, codes, decimal, length}
use Rattle.ceu_base.specs.declared.kinds.Port.{Port}
use Rattle.ceu_base.specs.declared.kinds.Pos.{Pos}
use Rattle.ceu_code.specs.declared.image.CodeRow.{CodeRow}
use Rattle.ceu_code.specs.declared.image.Image.{Image}
use Rattle.ceu_code.specs.Text.{type_name, line_text, instruction_size}
use Rattle.ceu_io.specs.Place.{at_place}

abbrev pub newline : List ℕ
newline = 10 ∷ []

abbrev pub memory_line : Image → List ℕ
memory_line image = codes "memory " ++ decimal (16 + 8 * image.depth + 19 * image.gates + image.slots) ++ codes " turns " ++ decimal image.turns ++ codes " levels " ++ decimal image.levels ++ newline

-- what stands behind a port's name
abbrev pub port_tail : Port → List ℕ
port_tail port = 32 ∷ [] ++ type_name port.ty ++ newline

-- ports have no number
abbrev pub port_line : (word : List ℕ) (number : ℕ) → Port → List ℕ
port_line word n port = word ++ (port.name ++ port_tail port)

abbrev pub code_line : (number : ℕ) → CodeRow → List ℕ
code_line n code =
    codes "code " ++ decimal n ++ codes " entry " ++ decimal code.entry ++ codes " frame " ++ decimal code.frame ++ codes " gates " ++ decimal code.gates ++ codes " params " ++ decimal (length code.params) ++ newline

abbrev pub pool_line : (number code : ℕ) → List ℕ
pool_line n code = codes "pool " ++ decimal n ++ codes " code " ++ decimal code ++ newline

abbrev pub place_line : (number : ℕ) → Pos → List ℕ
place_line n place = codes "place " ++ decimal n ++ at_place place

-- a line for each item, with its number from n on
abbrev pub lines_from : {X : Type 0} → (ℕ → X → List ℕ) → ℕ → List X → List ℕ
lines_from line n [] = []
lines_from line n (x ∷ xs) = line n x ++ lines_from line (n + 1) xs

abbrev pub instruction_line : (code : List ℕ) (at : ℕ) → List ℕ
instruction_line code at = line_text code at ++ newline

-- Of the bytes from the offset on each that begins an instruction gives a line; so many of the first ones belong to the instruction before.
abbrev pub instruction_lines : (code : List ℕ) (at before : ℕ) (bytes : List ℕ) → List ℕ
instruction_lines code at before [] = []
instruction_lines code at zero (b ∷ bytes) = instruction_line code at ++ instruction_lines code (at + 1) (instruction_size code at - 1) bytes
instruction_lines code at (suc before) (b ∷ bytes) = instruction_lines code (at + 1) before bytes

-- the memory line, the inputs and the outputs
abbrev pub head_text : Image → List ℕ
head_text image = memory_line image ++ (lines_from (port_line (codes "input ")) 0 image.inputs ++ lines_from (port_line (codes "output ")) 0 image.outputs)

abbrev pub rows_text : Image → List ℕ
rows_text image = lines_from code_line 0 image.codes ++ (lines_from pool_line 0 image.pools ++ lines_from place_line 0 image.places)

abbrev pub code_text : Image → List ℕ
code_text image = instruction_lines image.code 0 0 image.code

abbrev pub show_text : Image → List ℕ
show_text image = head_text image ++ (rows_text image ++ code_text image)
