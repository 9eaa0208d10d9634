-- What one command does to a program that runs, beside the reference semantics: its marks, in order, and the configuration after it.
use Rattle.std.specs.Prelude.{◌≡◌, ℕ, ◌≤◌, List, [], ◌∷◌, ◌++◌, Result, Ok, Err}
use Rattle.ceu_base.specs.declared.kinds.Mark.{Mark}
use Rattle.ceu_base.specs.declared.kinds.Port.{Port}
use Rattle.ceu_io.specs.declared.outside.Failed.{Failed}
use Rattle.ceu_tree.specs.declared.kernel.Kernel.{Kernel}
use Rattle.ceu_tree.specs.Residual.{Residual}
use Rattle.ceu_tree.specs.World.{World}
use Rattle.ceu_tree.specs.Run.{Config, Waiting, world_of, Status, Waits, HasEnded, HasFaulted, status_of}
use Rattle.ceu_run.specs.declared.reactor.After.{After}
use Rattle.ceu_run.specs.declared.reactor.After.TheVariants as after

-- A sink has gone through these marks, one by one.
abbrev pub Noted : {W : Type 0} → (W → Mark → W → Type 0) → List Mark → W → W → Type 0
Noted notes [] out now = now ≡ out
Noted {W = W} notes (m ∷ ms) out now = (between : W) × notes out m between × Noted notes ms between now

-- A list that another one begins with.
abbrev pub Begins : List Mark → List Mark → Type 0
Begins front all = (rest : List Mark) × (all ≡ front ++ rest)

-- What is reached with a bound on steps is this, for some bound and every larger one.
pub record ComesTo (later : ℕ → Config) (config : Config) : Type 0 where
  pub bound : ℕ
  pub comes : (n : ℕ) → bound ≤ n → later n ≡ config

abbrev pub status_after : After → Status
status_after after.Waiting = Waits
status_after (after.Ended v) = HasEnded v
status_after (after.Faulted fault place) = HasFaulted (fault, place)

-- The command is done: its marks were noted, and the program stands for the configuration after it.
pub record Reacted {W : Type 0} (notes : W → Mark → W → Type 0) (stands : Config → Type 0) (later : ℕ → Config) (before : List Mark) (out now : W) (after : After) : Type 0 where
  pub config : Config
  pub comes : ComesTo later config
  pub here : stands config
  pub status : status_of config ≡ status_after after
  pub added : List Mark
  pub marks : (world_of config).marks ≡ before ++ added
  pub noted : Noted notes added out now

-- The sink failed on a mark of the command, and noted those before it.
pub record Stopped {W : Type 0} (notes stops : W → Mark → W → Type 0) (later : ℕ → Config) (before : List Mark) (out now : W) : Type 0 where
  pub noted_marks : List Mark
  pub last : Mark
  pub bound : ℕ
  pub come : (n : ℕ) → bound ≤ n → Begins (before ++ (noted_marks ++ last ∷ [])) (world_of (later n)).marks
  pub between : W
  pub noted : Noted notes noted_marks out between
  pub stopped : stops between last now

abbrev pub Reaction : {W : Type 0} → (notes stops : W → Mark → W → Type 0) → (stands : Config → Type 0) → (later : ℕ → Config) → (before : List Mark) → (out now : W) → Result After Failed → Type 0
Reaction notes stops stands later before out now (Ok after) = Reacted notes stands later before out now after
Reaction notes stops stands later before out now (Err e) = Stopped notes stops later before out now

-- The program waits, and has these inputs.
pub record IsWaiting (stands : Kernel → Config → Type 0) (inputs : List Port) : Type 0 where
  pub kernel : Kernel
  pub tree : Residual
  pub world : World
  pub here : stands kernel (Waiting tree world)
  pub inputs_are : kernel.inputs ≡ inputs

-- What waited waits again, where that is the answer.
abbrev pub StillWaits : (old new : Kernel → Config → Type 0) → Result After Failed → Type 0
StillWaits old new (Ok after.Waiting) = (inputs : List Port) → IsWaiting old inputs → IsWaiting new inputs
StillWaits old new (Ok (after.Ended v)) = Unit {0}
StillWaits old new (Ok (after.Faulted fault place)) = Unit {0}
StillWaits old new (Err e) = Unit {0}
