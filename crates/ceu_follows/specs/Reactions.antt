-- When a configuration of the reference semantics and one of the machine agree, between two commands, and what a command is on both sides.
use Rattle.std.specs.Prelude.{◌≡◌, ◌≤◌, ℕ, List, ◌++◌}
use Rattle.ceu_base.specs.declared.kinds.Mark.{Mark}
use Rattle.ceu_code.specs.declared.image.Image.{Image}
use Rattle.ceu_isa.specs.Layout.{top_of}
use Rattle.ceu_isa.specs.Commands.{marks_of}
use Rattle.ceu_isa.specs.Reactions as machine
use Rattle.ceu_isa.specs.Safety.{Fits}
use Rattle.ceu_isa.specs.Turns.{Machine}
use Rattle.ceu_tree.specs.declared.kernel.Kernel.{Kernel}
use Rattle.ceu_tree.specs.Residual.{Residual}
use Rattle.ceu_tree.specs.World.{World}
use Rattle.ceu_tree.specs.Run.{Config, Waiting, Ended, Faulted, world_of}
use Rattle.ceu_shape.specs.Plans.{Plan}
use Rattle.laws_machine_layout.specs.Laws.{AreBytes}
use Rattle.laws_machine_layout.specs.Values.{WaitingStands}
use Rattle.ceu_trail.specs.Tables.{tables}
use Rattle.ceu_follows.specs.Kept.{Kept}

pub record StandsWaiting (image : Image) (P : Plan) (width : ℕ → ℕ) (K : Kernel) (r : Residual) (w : World) (m : Machine) : Type 0 where
  pub kept : Kept K (Waiting r w)
  pub fits : Fits image m.bytes
  pub are_bytes : AreBytes m.bytes
  pub top_is : top_of m.bytes ≡ 0
  pub stands : WaitingStands image (tables P width K) r w m.bytes

-- both wait, or have ended or faulted in the same way
abbrev pub Agrees : Image → Plan → (ℕ → ℕ) → Kernel → Config → machine.Config → Type 0
Agrees image P width K (Waiting r w) (machine.Waits m) = StandsWaiting image P width K r w m
Agrees image P width K (Ended v w) (machine.HasEnded u m) = u ≡ v
Agrees image P width K (Faulted e w) (machine.HasFaulted f p m) = (f ≡ e.0) × (p ≡ e.1)
Agrees image P width K c d = ⊥

-- `before` and `after` are marks of the reference semantics, and the machine had and has these ones
pub record SameAdded (before after had has : List Mark) : Type 0 where
  pub added : List Mark
  pub semantics : after ≡ before ++ added
  pub machine : has ≡ had ++ added

-- The reference semantics comes to one configuration, with each bound on steps from some number on, and the machine to one that agrees with it.
pub record Follows (image : Image) (P : Plan) (width : ℕ → ℕ) (K : Kernel) (before had : List Mark) (semantics : ℕ → Config) (d : machine.Config) : Type 0 where
  pub config : Config
  pub bound : ℕ
  pub comes : (n : ℕ) → bound ≤ n → semantics n ≡ config
  pub agrees : Agrees image P width K config d
  pub marks : SameAdded before (world_of config).marks had (marks_of d)
