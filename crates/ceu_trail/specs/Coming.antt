-- What the machine comes to while the reference semantics does one step of a turn.
use Rattle.std.specs.Prelude.{◌≡◌, ℕ, ◌≤◌, ◌^◌, ℤ, List, ◌++◌}
use Rattle.ceu_base.specs.declared.kinds.Fault.{Fault}
use Rattle.ceu_base.specs.declared.kinds.Pos.{Pos}
use Rattle.ceu_base.specs.declared.kinds.Mark.{Mark}
use Rattle.ceu_code.specs.declared.image.Image.{Image}
use Rattle.ceu_isa.specs.declared.registers.Registers.{Registers}
use Rattle.ceu_isa.specs.Layout.{state_of, ended}
use Rattle.ceu_isa.specs.Reactions.{value_of_end}
use Rattle.ceu_isa.specs.Safety.{Fits}
use Rattle.ceu_isa.specs.Turns as machine
use Rattle.ceu_isa.specs.Turns.{Machine, State, Trail, ticks}
use Rattle.ceu_tree.specs.declared.kernel.Kernel.{Kernel}
use Rattle.ceu_tree.specs.Residual.{Program, Act, Residual}
use Rattle.ceu_tree.specs.Focus.{Focus}
use Rattle.ceu_tree.specs.World.{World}
use Rattle.ceu_tree.specs.Around.{Outcome, Goes, Rests, Raises, Fails, Ends}
use Rattle.ceu_shape.specs.Plans.{Plan}
use Rattle.laws_machine_layout.specs.Laws.{AreBytes}
use Rattle.laws_machine_layout.specs.Values.{MemoryStands, BetweenStands}
use Rattle.ceu_trail.specs.Tables.{tables}
use Rattle.ceu_trail.specs.Turning.{TurnStands}

-- steps of the machine for one of the reference semantics, at most
abbrev pub most_ticks : ℕ
most_ticks = 2 ^ 32

-- from one state to another, in few steps
pub record Reaches (image : Image) (from to : State) : Type 0 where
  pub count : ℕ
  pub few : count ≤ most_ticks
  pub comes : ticks image count from ≡ to

-- the same marks are added on both sides
pub record SameMarks (old : World) (m : Machine) (new : World) (n : Machine) : Type 0 where
  pub added : List Mark
  pub semantics : new.marks ≡ old.marks ++ added
  pub machine : n.marks ≡ m.marks ++ added

module _ (image : Image) (P : Plan) (width : ℕ → ℕ) (K : Kernel) (w : World) (r : Registers) (m : Machine) where
  -- the turn goes on there
  pub record ComesOn (f : Focus Act) (new : World) : Type 0 where
    pub registers : Registers
    pub after : Machine
    pub reaches : Reaches image (Trail r m) (Trail registers after)
    pub marks : SameMarks w m new after
    pub stands : TurnStands image P width K f new registers after.bytes

  -- the turn is over, and the program waits for what comes
  pub record ComesToRest (q : Residual) (new : World) : Type 0 where
    pub after : Machine
    pub reaches : Reaches image (Trail r m) (machine.Paused after)
    pub marks : SameMarks w m new after
    pub fits : Fits image after.bytes
    pub are_bytes : AreBytes after.bytes
    pub stands : BetweenStands image (tables P width K) 0 q new after.bytes

  pub record ComesToEnd (value : ℤ) (new : World) : Type 0 where
    pub after : Machine
    pub reaches : Reaches image (Trail r m) (machine.Ended after)
    pub marks : SameMarks w m new after
    pub value_is : value_of_end after ≡ value

  pub record ComesToFault (fault : Fault) (place : Pos) (new : World) : Type 0 where
    pub after : Machine
    pub reaches : Reaches image (Trail r m) (machine.Faulted fault place after)
    pub marks : SameMarks w m new after

  abbrev pub Comes : Outcome → World → Type 0
  Comes (Goes f) new = ComesOn f new
  Comes (Rests q) new = ComesToRest q new
  Comes (Ends v) new = ComesToEnd v new
  Comes (Fails e q) new = ComesToFault e.0 e.1 new
  Comes outcome new = ⊥
