-- What separates tokens: blanks, comments to the line's end and comments to the next `*/`.
use Rattle.std.specs.Prelude.{ℕ, ◌+◌, ◌&&◌, List, [], ◌∷◌, if◌then◌else◌, ◌==◌, slice_index, Option, Some, None, Result, Ok, Err}
use Rattle.ceu_lex.specs.Bytes.{is_blank}
use Rattle.ceu_lex.specs.declared.gaps.Part.{Part}
use Rattle.ceu_lex.specs.declared.gaps.Part.TheVariants.{Plain, LineComment, Opening, BlockComment, Closing}

-- What the byte behind a byte is part of, where the gap goes on with it; by the byte that follows it.
-- `Opening` is the `*` of a `/*`, `Closing` the `/` of a `*/`.
abbrev pub next_part : Part → (byte following : ℕ) → Option Part
next_part Plain b c = if is_blank b then Some Plain
    else (if b == 47 && c == 47 then Some LineComment
    else (if b == 47 && c == 42 then Some Opening
    else None))
next_part LineComment b c = if b == 10 then Some Plain else Some LineComment
next_part Opening b c = Some BlockComment
next_part BlockComment b c = if b == 42 && c == 47 then Some Closing else Some BlockComment
next_part Closing b c = Some Plain

-- the text's end in a gap
abbrev pub gap_ended : Part → (opened at : ℕ) → Result ℕ ℕ
gap_ended Opening opened at = Err opened
gap_ended BlockComment opened at = Err opened
gap_ended part opened at = Ok at

-- where a comment was opened, if it is one
abbrev pub opened_at : Part → (opened at : ℕ) → ℕ
opened_at Plain opened at = at
opened_at part opened at = opened

abbrev pub goes_on : Option Part → ℕ → (Part → Result ℕ ℕ) → Result ℕ ℕ
goes_on None at f = Ok at
goes_on (Some part) at f = f part

-- Where the gap ends whose bytes from `at` on are these, or the place of a `/*` that has no `*/`.
unfoldable pub gap_from : Part → (opened at : ℕ) → List ℕ → Result ℕ ℕ
gap_from part opened at [] = gap_ended part opened at
gap_from part opened at (b ∷ bytes) = goes_on (next_part part b (slice_index bytes 0)) at (λ next. gap_from next (opened_at part opened at) (at + 1) bytes)

unfoldable pub gap : (at : ℕ) → List ℕ → Result ℕ ℕ
gap at bytes = gap_from Plain at at bytes
