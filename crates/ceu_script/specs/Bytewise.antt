-- The first line of a script, read byte by byte.
use Rattle.std.specs.Prelude.{◌≡◌, ℕ, ◌+◌, ◌<◌, ◌≤◌, Bool, true, false, List, [], ◌∷◌, ◌++◌, length, Option, Some, None, if◌then◌else◌, ◌==◌, nat_lt, Result, Ok, Err}
use Rattle.ceu_io.specs.declared.outside.Failed.{Failed}
use Rattle.ceu_script.specs.Lines.{without_return}
use Rattle.ceu_script.specs.Reader.{Script, Reader, budget, position}
use Rattle.ceu_script.specs.declared.lines.NextByte.{NextByte}
use Rattle.ceu_script.specs.declared.lines.NextByte.TheVariants.{Byte, Last, Over}
use Rattle.ceu_script.specs.declared.lines.Piece.{Piece}
use Rattle.ceu_script.specs.declared.lines.Piece.TheVariants.{More, NoMore, Spent}
use Rattle.ceu_script.specs.declared.lines.RawLine.{RawLine}
use Rattle.ceu_script.specs.declared.lines.RawLine.TheVariants.{Text, End, Long, Budget}
use Rattle.ceu_script.specs.declared.lines.Stop.{Stop}
use Rattle.ceu_script.specs.declared.lines.Stop.TheVariants as stop

-- what stands before the first newline, and what follows it, where there is one
pub record Front : Type 0 where
  pub before : List ℕ
  pub after : Option (List ℕ)

abbrev pub front_of : List ℕ → Front
front_of [] = record { before = []; after = None }
front_of (b ∷ bytes) = if b == 10 then record { before = []; after = Some bytes } else record { before = b ∷ (front_of bytes).before; after = (front_of bytes).after }

-- what a script begins with: a line and the bytes after it, or one of the three
pub data Leading : Type 0 where
  line : (text rest : List ℕ) → Leading
  nothing : Leading
  too_long : Leading
  over_budget : Leading

-- a line of at most 200 bytes
abbrev pub of_length : List ℕ → List ℕ → Leading
of_length text rest = if nat_lt 200 (length text) then too_long else line text rest

-- Without a newline: behind the last line of a script that the budget cuts, or that ends here.
abbrev pub last_line : Bool → List ℕ → Leading
last_line true text = if nat_lt 201 (length text) then too_long else over_budget
last_line false [] = nothing
last_line false (b ∷ text) = of_length (b ∷ text) []

abbrev pub of_front : Bool → List ℕ → Option (List ℕ) → Leading
of_front cut text (Some rest) = of_length (without_return text) rest
of_front cut text None = last_line cut text

unfoldable pub first_line : Script → Leading
first_line s = of_front s.cut (front_of s.bytes).before (front_of s.bytes).after

-- What an answer says: the first line, and the script after it.
abbrev pub Answers : RawLine → Script → Script → Type 0
Answers (Text text) s after = (first_line s ≡ line text.items after.bytes) × (after.cut ≡ s.cut)
Answers End s after = first_line s ≡ nothing
Answers Long s after = first_line s ≡ too_long
Answers Budget s after = first_line s ≡ over_budget

-- What the next byte is.
abbrev pub AnswersByte : NextByte → Script → Script → Type 0
AnswersByte (Byte b) s after = (s.bytes ≡ b ∷ after.bytes) × (after.cut ≡ s.cut)
AnswersByte Last s after = (s ≡ record { cut = false; bytes = [] }) × (after ≡ s)
AnswersByte Over s after = (s ≡ record { cut = true; bytes = [] }) × (after ≡ s)

-- What a new piece is: the bytes that were left stand before what is left then, or none was left, or none may be taken.
abbrev pub Refills : Piece → Reader → List ℕ → Reader → List ℕ → Type 0
Refills More r old s new = old ≡ s.pending ++ new
Refills NoMore r old s new = (old ≡ []) × (new ≡ []) × (r.taken < budget)
Refills Spent r old s new = (new ≡ old) × (budget ≤ r.taken)

abbrev pub HasPiece : Piece → Reader → Type 0
HasPiece More s = 0 < length s.pending
HasPiece NoMore s = s.pending ≡ []
HasPiece Spent s = s.pending ≡ []

-- A line that a list of bytes begins with, as the answer of a call.
abbrev pub IsLine : RawLine → Leading → List ℕ → Type 0
IsLine (Text text) is rest = is ≡ line text.items rest
IsLine End is rest = is ≡ nothing
IsLine Long is rest = is ≡ too_long
IsLine Budget is rest = is ≡ over_budget

-- Where the bytes of a line end, which are these.
abbrev pub Stops : Stop → List ℕ → Script → Script → Type 0
Stops stop.Newline text s after = (first_line s ≡ of_length (without_return text) after.bytes) × (after.cut ≡ s.cut)
Stops stop.TooLong text s after = first_line s ≡ too_long
Stops stop.Last text s after = ((length text ≡ 0 → first_line s ≡ nothing) × (0 < length text → first_line s ≡ of_length text after.bytes)) × (after.cut ≡ s.cut)
Stops stop.Over text s after = first_line s ≡ over_budget

-- How far the bytes of a line move the reader, by its end.
abbrev pub MovesPast : Stop → List ℕ → Reader → Reader → Type 0
MovesPast stop.Newline text r s = position s ≡ position r + length text + 1
MovesPast stop.TooLong text r s = Unit {0}
MovesPast stop.Last text r s = position s ≡ position r + length text
MovesPast stop.Over text r s = Unit {0}

-- The number of lines after a line.
abbrev pub lines_after : Result RawLine Failed → ℕ → ℕ
lines_after (Ok End) lines = lines
lines_after (Ok (Text text)) lines = lines + 1
lines_after (Ok Long) lines = lines + 1
lines_after (Ok Budget) lines = lines + 1
lines_after (Err e) lines = lines

-- A line of text moves the reader by at most 203 bytes from where it begins.
abbrev pub Passes : RawLine → Reader → Reader → Type 0
Passes (Text text) r s = (s.last.start ≡ position r) × (position r < position s) × (position s ≤ position r + 203)
Passes End r s = Unit {0}
Passes Long r s = Unit {0}
Passes Budget r s = Unit {0}

abbrev pub PassesByte : NextByte → Reader → Reader → Type 0
PassesByte (Byte b) r s = position s ≡ position r + 1
PassesByte Last r s = position s ≡ position r
PassesByte Over r s = position s ≡ position r
