-- The law on steps of programs of one trail, for some of their acts.
use Rattle.std.specs.Prelude.{ℕ}
use Rattle.ceu_code.specs.declared.image.Image.{Image}
use Rattle.ceu_isa.specs.declared.registers.Registers.{Registers}
use Rattle.ceu_isa.specs.Turns.{Machine}
use Rattle.ceu_tree.specs.declared.kernel.Kernel.{Kernel}
use Rattle.ceu_tree.specs.declared.kernel.KStmt.{out-KStmt}
use Rattle.ceu_tree.specs.declared.kernel.KStmt.TheOpen.{KStmt-F}
use Rattle.ceu_tree.specs.Leaf.{Layer}
use Rattle.ceu_tree.specs.Residual.{Program, Act, Begin, Start, Finish, AtEnd}
use Rattle.ceu_tree.specs.Focus.{Frame, OfOpen, Focus, Here, In}
use Rattle.ceu_tree.specs.Step.{stepped}
use Rattle.ceu_tree.specs.World.{World}
use Rattle.ceu_tree.specs.Run.{Turning}
use Rattle.laws_meaning_basics.specs.Shape.{TurnFits, program_part}
use Rattle.laws_meaning_values.specs.Needed.{Valued}
use Rattle.ceu_shape.specs.Plans.{Plan}
use Rattle.ceu_trail.specs.Compiled.{Compiled}
use Rattle.ceu_trail.specs.Within.{TurnWithin}
use Rattle.ceu_trail.specs.Turning.{TurnStands}
use Rattle.ceu_trail.specs.Coming.{Comes}
use Rattle.ceu_steps.specs.Premises.{PositionsArePlaced}

-- statements of which the law says something
abbrev pub IsPlainStart : Layer → Type 0
IsPlainStart KStmt-F.Nothing = Unit {0}
IsPlainStart (KStmt-F.Assign l e) = Unit {0}
IsPlainStart (KStmt-F.Out k e) = Unit {0}
IsPlainStart (KStmt-F.AwaitIn k t) = Unit {0}
IsPlainStart (KStmt-F.AwaitTime e u t) = Unit {0}
IsPlainStart KStmt-F.Forever = Unit {0}
IsPlainStart (KStmt-F.Do t b) = Unit {0}
IsPlainStart layer = ⊥

-- A block begins; a statement begins that does nothing, assigns, emits an output, waits for an input, for a time or for ever, or opens a block by `do`;
-- or a statement that has waited goes on.
abbrev pub IsPlain : Act → Type 0
IsPlain (Begin b) = Unit {0}
IsPlain (Start s) = IsPlainStart (out-KStmt s.stmt)
IsPlain (Finish s v) = Unit {0}
IsPlain a = ⊥

-- The trail is at the end of the program's body, or of a block that a `do` opened.
abbrev pub IsDo : Layer → Type 0
IsDo (KStmt-F.Do t b) = Unit {0}
IsDo layer = ⊥

abbrev pub IsOfDo : Frame → Type 0
IsOfDo (OfOpen s) = IsDo (out-KStmt s.stmt)
IsOfDo fr = ⊥

-- with the frame around the block where the leaf is
abbrev pub IsPlainIn : Act → Frame → Type 0
IsPlainIn AtEnd fr = IsOfDo fr
IsPlainIn a fr = IsPlain a

-- with no frame around it
abbrev pub IsPlainLast : Act → Type 0
IsPlainLast AtEnd = Unit {0}
IsPlainLast a = IsPlain a

unfoldable pub IsPlainUnder : Frame → Frame → Focus Act → Type 0
IsPlainUnder out fr (Here a) = IsPlainIn a out
IsPlainUnder out fr (In g f) = IsPlainUnder fr g f

abbrev pub IsPlainTurn : Focus Act → Type 0
IsPlainTurn (Here a) = IsPlain a
IsPlainTurn (In fr (Here a)) = IsPlainLast a
IsPlainTurn (In fr (In g f)) = IsPlainUnder fr g f

-- What one step of the reference semantics does in a turn the machine does too, where the leaf acts so, and where the image has the positions that
-- statements name.
abbrev pub PlainStepsAreDone : Type 0
PlainStepsAreDone =
    PositionsArePlaced → (image : Image) (P : Plan) (width : ℕ → ℕ) (K : Kernel) (f : Focus Act) (w : World) (r : Registers) (m : Machine)
    → Compiled image P width K → TurnFits K 1 (program_part K) f → Valued (Turning 0 f w) → TurnWithin K f w → IsPlainTurn f
    → TurnStands image P width K f w r m.bytes
    → Comes image P width K w r m (stepped K 0 Program f w).outcome (stepped K 0 Program f w).world
