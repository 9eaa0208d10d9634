-- How many turns and levels a reaction begins in so many steps (this project's own).
use Rattle.std.specs.Prelude.{ℕ, zero, suc, ◌+◌, ◌-◌}
use Rattle.ceu_tree.specs.declared.kernel.Kernel.{Kernel}
use Rattle.ceu_tree.specs.Run.{Config, Turning, Between, next}

abbrev pub begins : Config → ℕ
begins (Turning n f w) = 1
begins c = 0

abbrev pub opens : (level : ℕ) → Config → ℕ
opens n (Between m r w) = m - n
opens n c = 0

unfoldable pub turns_begun : Kernel → ℕ → Config → ℕ
turns_begun K zero c = 0
turns_begun K (suc k) (Turning n f w) = turns_begun K k (next K (Turning n f w))
turns_begun K (suc k) (Between n r w) = begins (next K (Between n r w)) + turns_begun K k (next K (Between n r w))
turns_begun K (suc k) c = 0

unfoldable pub levels_opened : Kernel → ℕ → Config → ℕ
levels_opened K zero c = 0
levels_opened K (suc k) (Turning n f w) = opens n (next K (Turning n f w)) + levels_opened K k (next K (Turning n f w))
levels_opened K (suc k) (Between n r w) = levels_opened K k (next K (Between n r w))
levels_opened K (suc k) c = 0

abbrev pub level_of : Config → ℕ
level_of (Turning n f w) = n
level_of (Between n r w) = n
level_of c = 0
