-- The verdict on a loop, and the first of the rules that loops break, as the code finds them.
use Rattle.std.specs.Prelude.{◌≡◌, ◌==◌, nat_lt, nat_le, Bool, false, if◌then◌else◌, List, Option, Some, None}
use Rattle.std.specs.List.{Contains}
use Rattle.ceu_base.specs.declared.kinds.Pos.{Pos}
use Rattle.ceu_base.specs.declared.kinds.Rule.{Rule}
use Rattle.ceu_paths.specs.Loops.{TrailLoop}
use Rattle.ceu_bound.specs.declared.graph.Arrow.{Arrow}
use Rattle.ceu_bound.specs.declared.verdict.Broken.{Broken}
use Rattle.ceu_bound.specs.PhaseB.{LoopBreaks, NotAfter, rank}

abbrev pub broken_at : Pos → Rule → Broken
broken_at p r = record { rule = r; pos = p }

-- the one rule that a loop breaks, if any
abbrev pub IsVerdict : List Bool → List Arrow → TrailLoop → Option Rule → Type 0
IsVerdict passing graph l None = (r : Rule) → LoopBreaks passing graph l r → ⊥
IsVerdict passing graph l (Some r) = LoopBreaks passing graph l r × ((s : Rule) → LoopBreaks passing graph l s → s ≡ r)

abbrev pub BreaksAmong : List Bool → List Arrow → List TrailLoop → Broken → Type 0
BreaksAmong passing graph ls b = (l : TrailLoop) × Contains ls l × (l.pos ≡ b.pos) × LoopBreaks passing graph l b.rule

abbrev pub IsFirstOf : List Bool → List Arrow → List TrailLoop → Option Broken → Type 0
IsFirstOf passing graph ls None = (l : TrailLoop) → Contains ls l → (r : Rule) → LoopBreaks passing graph l r → ⊥
IsFirstOf passing graph ls (Some b) = BreaksAmong passing graph ls b × ((l : TrailLoop) → Contains ls l → (r : Rule) → LoopBreaks passing graph l r → NotAfter b.pos b.rule l.pos r)

abbrev pub is_not_after : Broken → Broken → Bool
is_not_after a b =
    if a.pos.line == b.pos.line
    then (if a.pos.col == b.pos.col then nat_le (rank a.rule) (rank b.rule) else nat_lt a.pos.col b.pos.col)
    else nat_lt a.pos.line b.pos.line

abbrev pub earlier : Option Broken → Pos → Option Rule → Option Broken
earlier first p None = first
earlier None p (Some r) = Some (broken_at p r)
earlier (Some b) p (Some r) = if is_not_after b (broken_at p r) then Some b else Some (broken_at p r)

-- whether a place is behind that of a rule that is broken
abbrev pub is_behind : Option Broken → Pos → Bool
is_behind None p = false
is_behind (Some b) p = if b.pos.line == p.line then nat_lt b.pos.col p.col else nat_lt b.pos.line p.line
