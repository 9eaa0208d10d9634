-- The shape of the configurations of a program of one trail, their counters, and that a reaction has one turn (this project's own).
use Rattle.std.specs.Prelude.{◌≡◌, ◌≤◌, ℕ, zero, ◌+◌, Bool, true, false, List, [], ◌∷◌, None}
use Rattle.ceu_base.specs.declared.kinds.Mark.{Mark}
use Rattle.ceu_base.specs.declared.kinds.Mark.TheVariants.{Resume, Push, Pop}
use Rattle.ceu_tree.specs.declared.command.Command.{Command}
use Rattle.ceu_tree.specs.declared.kernel.Kernel.{Kernel}
use Rattle.ceu_tree.specs.Residual.{Act, Residual}
use Rattle.ceu_tree.specs.Focus.{Focus, choose}
use Rattle.ceu_tree.specs.World.{World}
use Rattle.ceu_tree.specs.Wake.{runs_at}
use Rattle.ceu_tree.specs.Costs.{bounds}
use Rattle.ceu_tree.specs.Proper.{Proper}
use Rattle.ceu_tree.specs.Run.{Config, Turning, Between, world_of, booted, next, steps, done, run}
use Rattle.laws_meaning_basics.specs.Shape.{ConfigFits}
use Rattle.ceu_single.specs.Single.{Single}
use Rattle.ceu_endings.specs.Counted.{Counted}
use Rattle.ceu_endings.specs.OneTrail.{OneTrail}

abbrev pub is_turning : Config → Bool
is_turning (Turning n f w) = true
is_turning c = false

-- ---- the shape of configurations

abbrev pub HasOneTrail : Type 0
HasOneTrail = (K : Kernel) (c : Config) → Single K → ConfigFits K c → OneTrail c

-- ---- counters

abbrev pub BootCounted : Type 0
BootCounted = (K : Kernel) → Counted (booted K)

abbrev pub StepCounted : Type 0
StepCounted = (K : Kernel) (c : Config) → Counted c → Counted (next K c)

abbrev pub CommandCounted : Type 0
CommandCounted = (K : Kernel) (n : ℕ) (x : Command) (c : Config) → Counted c → Counted (done K n x c)

abbrev pub RunCounted : Type 0
RunCounted = (K : Kernel) (n : ℕ) (xs : List Command) → Counted (run K n xs)

-- ---- a reaction has one turn at most

-- a reaction is over, or is between its only turn and its end
abbrev pub Settled : Config → Type 0
Settled (Turning n f w) = ⊥
Settled (Between n r w) = (n ≡ zero) × (choose Act (runs_at zero) r ≡ None)
Settled c = Unit {0}

abbrev pub OneTurn : Type 0
OneTurn = (K : Kernel) (k : ℕ) (f : Focus Act) (w : World) → Proper K → Single K → ConfigFits K (Turning 0 f w) → is_turning (steps K k (Turning 0 f w)) ≡ false → Settled (steps K k (Turning 0 f w))

-- all of a reaction is at level 0
abbrev pub AtLevelZero : Config → Type 0
AtLevelZero (Turning n f w) = n ≡ zero
AtLevelZero (Between n r w) = n ≡ zero
AtLevelZero c = Unit {0}

abbrev pub OneLevel : Type 0
OneLevel = (K : Kernel) (k : ℕ) (r : Residual) (w : World) → Proper K → Single K → ConfigFits K (Between 0 r w) → AtLevelZero (steps K k (Between 0 r w))

-- turns that begin, levels that open and levels that close
abbrev pub resumes : List Mark → ℕ
resumes [] = 0
resumes (Resume n ∷ ms) = 1 + resumes ms
resumes (m ∷ ms) = resumes ms

abbrev pub level_changes : List Mark → ℕ
level_changes [] = 0
level_changes (Push n ∷ ms) = 1 + level_changes ms
level_changes (Pop n ∷ ms) = 1 + level_changes ms
level_changes (m ∷ ms) = level_changes ms

pub record Reaction (w u : World) : Type 0 where
  pub turns : resumes u.marks ≤ resumes w.marks + 1
  pub levels : level_changes u.marks ≡ level_changes w.marks

abbrev pub OneTurnAReaction : Type 0
OneTurnAReaction = (K : Kernel) (k : ℕ) (r : Residual) (w : World) → Proper K → Single K → ConfigFits K (Between 0 r w) → Reaction w (world_of (steps K k (Between 0 r w)))

-- one turn is within the bounds of every program
abbrev pub OneTurnInBounds : Type 0
OneTurnInBounds = (K : Kernel) → 1 ≤ (bounds K).turns
