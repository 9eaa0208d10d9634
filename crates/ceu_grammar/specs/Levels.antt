-- The levels of nesting that are open.
use Rattle.std.specs.Prelude.{ℕ, ◌+◌, Bool, true, false, List, [], ◌∷◌, if◌then◌else◌}
use Rattle.ceu_syntax.specs.declared.machine.Frame.{Frame}
use Rattle.ceu_syntax.specs.declared.machine.Frame.TheVariants as f

-- a block, a parenthesis
abbrev pub opens_level : Frame → Bool
opens_level (f.Paren at) = true
opens_level (f.Body b) = true
opens_level _ = false

unfoldable pub level_count : List Frame → ℕ
level_count [] = 0
level_count (frame ∷ K) = (if opens_level frame then 1 else 0) + level_count K
