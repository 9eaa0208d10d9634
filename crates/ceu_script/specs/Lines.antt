-- The lines of a script, as a function of all its bytes. The form of a script is this project's own.
use Rattle.std.specs.Prelude.{◌≡◌, ℕ, ◌+◌, ◌-◌, ◌<◌, Bool, true, false, List, [], ◌∷◌, ◌++◌, length, if◌then◌else◌, ◌==◌, nat_lt, slice_index, take, map, replicate, Result, Ok, Err}
use Rattle.ceu_base.specs.declared.kinds.Port.{Port}
use Rattle.ceu_tree.specs.declared.command.Command.{Command}
use Rattle.ceu_script.specs.Content.{content_of}
use Rattle.ceu_script.specs.Reader.{Script, Reader, GoesOn, position}
use Rattle.ceu_script.specs.Shapes.{command_of}
use Rattle.ceu_script.specs.declared.items.BadKind.{BadKind}
use Rattle.ceu_script.specs.declared.items.BadKind.TheVariants.{Long, Budget}
use Rattle.ceu_script.specs.declared.items.Item.{Item}
use Rattle.ceu_script.specs.declared.items.Item.TheVariants as item
use Rattle.ceu_script.specs.declared.items.LineItem.{LineItem}
use Rattle.ceu_script.specs.declared.items.LineItem.TheVariants as line

-- a line that is skipped, has a content or is bad
pub data Line (C : Type 0) : Type 0 where
  skipped : Line C
  content : C → Line C
  bad : BadKind → Line C

-- the lines that a newline ends, without it, and what stands behind the last newline
pub record Split : Type 0 where
  pub ended : List (List ℕ)
  pub last : List ℕ

-- with a byte in front of the first line
abbrev pub with_byte : ℕ → List (List ℕ) → List ℕ → Split
with_byte b [] last = record { ended = []; last = b ∷ last }
with_byte b (text ∷ ended) last = record { ended = (b ∷ text) ∷ ended; last = last }

abbrev pub split : List ℕ → Split
split [] = record { ended = []; last = [] }
split (b ∷ bytes) = if b == 10 then record { ended = [] ∷ (split bytes).ended; last = (split bytes).last } else with_byte b (split bytes).ended (split bytes).last

-- the bytes without a `\r` at their end
abbrev pub without_return : List ℕ → List ℕ
without_return text = if slice_index text (length text - 1) == 13 then take (length text - 1) text else text

abbrev pub of_content : List ℕ → Line (List ℕ)
of_content [] = skipped
of_content (b ∷ text) = content (b ∷ text)

-- A line has at most 200 bytes, its comment among them.
abbrev pub line_of : List ℕ → Line (List ℕ)
line_of text = if nat_lt 200 (length text) then bad Long else of_content (content_of text)

-- What stands behind the last newline is a line where it isn't empty. Where the budget cuts the script, it is a bad line.
abbrev pub last_lines : Bool → List ℕ → List (Line (List ℕ))
last_lines true text = (if nat_lt 201 (length text) then bad Long else bad Budget) ∷ []
last_lines false [] = []
last_lines false (b ∷ text) = line_of (b ∷ text) ∷ []

abbrev pub lines_of : Bool → Split → List (Line (List ℕ))
lines_of cut s = map (λ text. line_of (without_return text)) s.ended ++ last_lines cut s.last

abbrev pub until_bad : {C : Type 0} → List (Line C) → List (Line C)
until_bad [] = []
until_bad (skipped ∷ lines) = skipped ∷ until_bad lines
until_bad (content c ∷ lines) = content c ∷ until_bad lines
until_bad (bad kind ∷ lines) = bad kind ∷ []

-- The lines of a script, up to the first that is bad by its bytes.
unfoldable pub script_lines : Script → List (Line (List ℕ))
script_lines s = until_bad (lines_of s.cut (split s.bytes))

abbrev pub of_command : Result Command BadKind → Line Command
of_command (Ok command) = content command
of_command (Err kind) = bad kind

abbrev pub judged : List Port → Line (List ℕ) → Line Command
judged inputs skipped = skipped
judged inputs (content text) = of_command (command_of text inputs)
judged inputs (bad kind) = bad kind

-- The commands of a script for a program with these inputs, line by line, up to the first bad line.
unfoldable pub script : List Port → Script → List (Line Command)
script inputs s = until_bad (map (judged inputs) (script_lines s))

-- Some lines are skipped, and then comes a content ..
pub record Comes {C : Type 0} (c : C) (before after : ℕ) (lines rest : List (Line C)) : Type 0 where
  pub skips : ℕ
  pub counted : after ≡ before + skips + 1
  pub lines_are : lines ≡ replicate skips skipped ++ content c ∷ rest

-- .. or a bad line ..
pub record Spoils {C : Type 0} (kind : BadKind) (before after : ℕ) (lines : List (Line C)) : Type 0 where
  pub skips : ℕ
  pub counted : after ≡ before + skips + 1
  pub lines_are : lines ≡ replicate skips skipped ++ bad kind ∷ []

-- .. or no other line.
pub record Ends {C : Type 0} (before after : ℕ) (lines : List (Line C)) : Type 0 where
  pub skips : ℕ
  pub counted : after ≡ before + skips
  pub lines_are : lines ≡ replicate skips skipped

-- What the next line is: of the lines before the call and those after it.
abbrev pub GivesLine : LineItem → Reader → Reader → List (Line (List ℕ)) → List (Line (List ℕ)) → Type 0
GivesLine line.Line r s lines rest = Comes s.last.text r.last.lines s.last.lines lines rest
GivesLine line.End r s lines rest = Ends r.last.lines s.last.lines lines
GivesLine (line.Bad n kind) r s lines rest = Spoils kind r.last.lines n lines

-- What the next command is.
abbrev pub Gives : Item → Reader → Reader → List (Line Command) → List (Line Command) → Type 0
Gives (item.Command command) r s lines rest = Comes command r.last.lines s.last.lines lines rest
Gives item.End r s lines rest = Ends r.last.lines s.last.lines lines
Gives (item.Bad n kind) r s lines rest = Spoils kind r.last.lines n lines

-- Behind a line that isn't bad the reader goes on.
abbrev pub GoesOnAfter : LineItem → Reader → Reader → Type 0
GoesOnAfter line.Line r s = GoesOn s × (position r < position s)
GoesOnAfter line.End r s = Unit {0}
GoesOnAfter (line.Bad n kind) r s = n ≡ s.last.lines

abbrev pub GoesOnBehind : Item → Reader → Reader → Type 0
GoesOnBehind (item.Command command) r s = GoesOn s × (position r < position s)
GoesOnBehind item.End r s = Unit {0}
GoesOnBehind (item.Bad n kind) r s = n ≡ s.last.lines
