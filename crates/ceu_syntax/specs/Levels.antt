-- The levels of nesting among what is open.
use Rattle.std.specs.Prelude.{ℕ, ◌+◌, Bool, true, false, List, [], ◌∷◌, if◌then◌else◌}
use Rattle.ceu_syntax.specs.declared.machine.Frame.{Frame}
use Rattle.ceu_syntax.specs.declared.machine.Frame.TheVariants as f

-- a block, a parenthesis inside an expression
abbrev pub opens_level : Frame → Bool
opens_level (f.Paren at) = true
opens_level (f.Body b) = true
opens_level _ = false

-- the blocks and the parentheses among what is open
unfoldable pub level_count : List Frame → ℕ
level_count [] = 0
level_count (frame ∷ K) = (if opens_level frame then 1 else 0) + level_count K

abbrev pub is_begun : Frame → Bool
is_begun (f.Begun ns at) = true
is_begun _ = false

-- A statement has begun, and nothing in it.
abbrev pub is_at_statement : List Frame → Bool
is_at_statement [] = false
is_at_statement (frame ∷ K) = is_begun frame
