-- Instructions at code offsets.
use Rattle.std.specs.Prelude.{◌≡◌, ℕ, ◌+◌, List, [], ◌∷◌, ◌++◌, take, drop}
use Rattle.ceu_code.specs.declared.instr.Instr.{Instr}
use Rattle.ceu_code.specs.Instructions.{spelled, size}
use Rattle.ceu_asm.specs.declared.line.Line.{Line}
use Rattle.ceu_asm.specs.declared.line.Line.TheVariants.{Mark}
use Rattle.ceu_asm.specs.Lines.{marks, offset_of, resolved, assembled}

-- an instruction's bytes stand at the offset
abbrev pub IsAt : List ℕ → ℕ → Instr → Type 0
IsAt code at i = take (size i) (drop at code) ≡ spelled i

-- these instructions stand at the offset, one after the other
abbrev pub HasAt : List ℕ → ℕ → List Instr → Type 0
HasAt code at [] = Unit {0}
HasAt code at (i ∷ rest) = IsAt code at i × HasAt code (at + size i) rest

-- a stretch of lines that stands in them
pub record IsPartOf (piece lines : List Line) : Type 0 where
  pub before : List Line
  pub behind : List Line
  pub is : lines ≡ before ++ (piece ++ behind)

-- in the bytes of any lines the instructions behind a mark stand at its label's offset, if no other line marks the label
abbrev pub FollowTheirLabel : Type 0
FollowTheirLabel = (lines piece : List Line) (label : ℕ) → marks label lines ≡ 1 → IsPartOf (Mark label ∷ piece) lines → HasAt (assembled lines) (offset_of label lines) (resolved (λ l. offset_of l lines) piece)
