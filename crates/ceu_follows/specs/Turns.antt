-- What the machine comes to in a turn of a program of one trail: just what the turn of the reference semantics comes to.
use Rattle.std.specs.Prelude.{◌≡◌, ◌≤◌, ℕ}
use Rattle.ceu_code.specs.declared.image.Image.{Image}
use Rattle.ceu_isa.specs.declared.registers.Registers.{Registers}
use Rattle.ceu_isa.specs.Order.{Chosen}
use Rattle.ceu_isa.specs.Reactions.{first_at, value_of_end}
use Rattle.ceu_isa.specs.Safety.{Fits}
use Rattle.ceu_isa.specs.Turns as turns
use Rattle.ceu_isa.specs.Turns.{Machine, State, Trail, ticks, longest_turn, begun}
use Rattle.ceu_tree.specs.declared.kernel.Kernel.{Kernel}
use Rattle.ceu_tree.specs.Residual.{Act, Residual}
use Rattle.ceu_tree.specs.Focus.{Focus}
use Rattle.ceu_tree.specs.World.{World}
use Rattle.ceu_tree.specs.Run.{Config, Between, Ended, Faulted, steps}
use Rattle.ceu_shape.specs.Plans.{Plan}
use Rattle.laws_machine_layout.specs.Laws.{AreBytes}
use Rattle.laws_machine_layout.specs.Values.{BetweenStands}
use Rattle.ceu_endings.specs.Ends.{longest_run}
use Rattle.ceu_trail.specs.Coming.{SameMarks}
use Rattle.ceu_trail.specs.Tables.{tables}
use Rattle.ceu_trail.specs.Turning.{TurnStands}
use Rattle.ceu_follows.specs.Kept.{Kept}

-- in a reaction between two turns of level 0, this stands in the memory
pub record StandsBetween (image : Image) (P : Plan) (width : ℕ → ℕ) (K : Kernel) (r : Residual) (w : World) (m : Machine) : Type 0 where
  pub fits : Fits image m.bytes
  pub are_bytes : AreBytes m.bytes
  pub stands : BetweenStands image (tables P width K) 0 r w m.bytes

module _ (image : Image) (P : Plan) (width : ℕ → ℕ) (K : Kernel) (w : World) (m : Machine) where
  -- both sides are over in the same way, with the same marks added since the world w and the machine m
  abbrev pub SameEnd : Config → State → Type 0
  SameEnd (Between n r new) (turns.Paused after) = (n ≡ 0) × SameMarks w m new after × StandsBetween image P width K r new after
  SameEnd (Ended v new) (turns.Ended after) = SameMarks w m new after × (value_of_end after ≡ v)
  SameEnd (Faulted e new) (turns.Faulted f p after) = SameMarks w m new after × (f ≡ e.0) × (p ≡ e.1)
  SameEnd c s = ⊥

  -- a turn from that state on
  pub record TurnDone (c : Config) (s : State) : Type 0 where
    pub count : ℕ
    pub few : count ≤ longest_run
    pub kept : Kept K (steps K count c)
    pub same : SameEnd (steps K count c) (ticks image longest_turn s)

-- a trail has begun its turn
pub record TurnBegun (image : Image) (P : Plan) (width : ℕ → ℕ) (K : Kernel) (f : Focus Act) (w : World) (m : Machine) : Type 0 where
  pub first_is : first_at image 0 m.bytes ≡ Chosen 0
  pub registers : Registers
  pub after : Machine
  pub begins : begun image 0 m ≡ Trail registers after
  pub marks : after.marks ≡ m.marks
  pub stands : TurnStands image P width K f w registers after.bytes
