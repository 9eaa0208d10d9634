-- One round of a reaction: the levels at which no gate can run close, and the next gate has its turn. A reaction is one round after the other.
use Rattle.std.specs.Prelude.{List, []}
use Rattle.ceu_base.specs.declared.kinds.Mark.{Mark}
use Rattle.ceu_code.specs.declared.image.Image.{Image}
use Rattle.ceu_isa.specs.Layout.{with_state, waiting}
use Rattle.ceu_isa.specs.Turns.{Machine, rewritten, State, Paused, Ended, Faulted}
use Rattle.ceu_isa.specs.Reactions.{Config, Lost, Waits, HasEnded, HasFaulted, Next, Nothing, AllClosed, Resumes, next, resumed, value_of_end}
use Rattle.ceu_isa.specs.Commands.{marks_of}

pub data Round : Type 0 where
  Over : Config → Round  -- the reaction is over
  Goes : Machine → Round  -- it goes on with the next round

abbrev pub after_turn : State → Round
after_turn (Paused m) = Goes m
after_turn (Ended m) = Over (HasEnded (value_of_end m) m)
after_turn (Faulted f p m) = Over (HasFaulted f p m)
after_turn _ = Over Lost

abbrev pub round_of : Image → Next → Round
round_of image Nothing = Over Lost
round_of image (AllClosed m) = Over (Waits (rewritten (with_state waiting m.bytes) m))
round_of image (Resumes g level m) = after_turn (resumed image g level m)

unfoldable pub round : Image → Machine → Round
round image m = round_of image (next image m)

-- the marks of a round
abbrev pub marks_of_round : Round → List Mark
marks_of_round (Over c) = marks_of c
marks_of_round (Goes m) = m.marks

abbrev pub marks_of_next : Next → List Mark
marks_of_next Nothing = []
marks_of_next (AllClosed m) = m.marks
marks_of_next (Resumes g level m) = m.marks

-- it is clear which gate comes next
abbrev pub IsClear : Next → Type 0
IsClear Nothing = ⊥
IsClear _ = Unit {0}

-- nothing was done that isn't allowed
abbrev pub IsRightRound : Round → Type 0
IsRightRound (Over Lost) = ⊥
IsRightRound _ = Unit {0}
