-- Where the lines of a script begin.
use Rattle.std.specs.Prelude.{◌≡◌, ℕ, zero, suc, ◌+◌, ◌-◌, List, [], length, Option, unwrap_or, Result, Ok, Err, replicate, ◌++◌}
use Rattle.ceu_io.specs.declared.outside.Failed.{Failed}
use Rattle.ceu_script.specs.Bytewise.{front_of}
use Rattle.ceu_script.specs.Lines.{Line, skipped}
use Rattle.ceu_script.specs.Reader.{Script, Reader, position}
use Rattle.ceu_script.specs.declared.items.Item.{Item}
use Rattle.ceu_script.specs.declared.items.Item.TheVariants as item
use Rattle.ceu_script.specs.declared.items.LineItem.{LineItem}
use Rattle.ceu_script.specs.declared.items.LineItem.TheVariants as line
use Rattle.ceu_script.specs.declared.lines.RawLine.{RawLine}
use Rattle.ceu_script.specs.declared.lines.RawLine.TheVariants.{Text, End, Long, Budget}

-- the bytes behind the first line
abbrev pub after_line : List ℕ → List ℕ
after_line bytes = unwrap_or (front_of bytes).after []

-- the bytes from a line on, the lines counted from 0
abbrev pub from_line : ℕ → List ℕ → List ℕ
from_line zero bytes = bytes
from_line (suc k) bytes = from_line k (after_line bytes)

-- the place of a line's first byte
abbrev pub line_start : ℕ → List ℕ → ℕ
line_start k bytes = length bytes - length (from_line k bytes)

-- The reader stands behind a line of the script that has these bytes, and has that script's rest before it.
pub record IsAt (bytes : List ℕ) (r : Reader) (rest : Script) : Type 0 where
  pub rest_is : rest.bytes ≡ from_line r.last.lines bytes
  pub placed : position r + length rest.bytes ≡ length bytes
  pub began : r.last.start ≡ line_start (r.last.lines - 1) bytes

-- Where the last line begins that was skipped or answered; and behind a line that isn't bad the reader stands.
abbrev pub PlacesLine : Result LineItem Failed → List ℕ → Reader → Script → Type 0
PlacesLine (Ok line.Line) bytes s rest = IsAt bytes s rest
PlacesLine other bytes s rest = s.last.start ≡ line_start (s.last.lines - 1) bytes

abbrev pub Places : Result Item Failed → List ℕ → Reader → Script → Type 0
Places (Ok (item.Command command)) bytes s rest = IsAt bytes s rest
Places other bytes s rest = s.last.start ≡ line_start (s.last.lines - 1) bytes

-- Some lines were skipped.
pub record Skips {C : Type 0} (before after : ℕ) (lines : List (Line C)) : Type 0 where
  pub skips : ℕ
  pub rest : List (Line C)
  pub counted : after ≡ before + skips
  pub lines_are : lines ≡ replicate skips skipped ++ rest

-- where the last line begins after a line was read, of a place and where it began before
abbrev pub start_after : Result RawLine Failed → (place before : ℕ) → ℕ
start_after (Ok (Text text)) place before = place
start_after (Ok Long) place before = place
start_after (Ok Budget) place before = place
start_after (Ok End) place before = before
start_after (Err e) place before = before
