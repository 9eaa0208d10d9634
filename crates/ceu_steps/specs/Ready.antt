-- An expression that can be evaluated at a place of a program of one trail.
use Rattle.std.specs.Prelude.{◌≡◌, ℕ, ◌+◌, ◌≤◌, Bool, true, List, Ok, Err}
use Rattle.std.specs.Prelude.{ℤ}
use Rattle.ceu_base.specs.declared.kinds.Fault.{Fault}
use Rattle.ceu_base.specs.declared.kinds.Pos.{Pos}
use Rattle.ceu_code.specs.declared.image.Image.{Image}
use Rattle.ceu_code.specs.Instructions.{cell}
use Rattle.ceu_mem.specs.Bytes.{number_at}
use Rattle.ceu_isa.specs.Layout.{cell_at, slots_at}
use Rattle.ceu_isa.specs.Turns as machine
use Rattle.ceu_isa.specs.Turns.{Machine, State, Trail, rewritten}
use Rattle.ceu_tree.specs.declared.kernel.Kernel.{Kernel}
use Rattle.ceu_tree.specs.declared.kernel.KExp.{KExp}
use Rattle.ceu_tree.specs.declared.kernel.Loc.{Loc}
use Rattle.ceu_tree.specs.Depth.{exp_depth}
use Rattle.ceu_tree.specs.Expressions.{Answer}
use Rattle.ceu_tree.specs.Residual.{Program}
use Rattle.ceu_tree.specs.Typing.{typed}
use Rattle.ceu_tree.specs.World.{World}
use Rattle.ceu_shape.specs.Plans.{Plan}
use Rattle.laws_meaning_values.specs.Results.{Reads}
use Rattle.laws_machine_code.specs.Seen.{Visible, NodePlaced}
use Rattle.ceu_trail.specs.Built.{number}
use Rattle.ceu_steps.specs.Running.{Runs, Unseen, trail_at}

-- its variables are seen in the memory, its positions are the image's, and there are cells enough
pub record Ready (image : Image) (P : Plan) (K : Kernel) (w : World) (bytes : List ℕ) (e : KExp) : Type 0 where
  pub reads : Loc → Bool
  pub asks : ℕ → Bool
  pub is_typed : typed reads asks e ≡ true
  pub visible : Visible image P.offset (slots_at image) Program w bytes e.node
  pub placed : NodePlaced image (number image P K) e.node e.pos
  pub deep : exp_depth e ≤ image.depth
  pub values : Reads Program w e

-- steps of an expression, at most
abbrev pub longest : ℕ
longest = 65540

-- with the value of the expression in the first cell, behind the line that goes to it
pub record Brings (image : Image) (m : Machine) (at : ℕ) (v : ℤ) : Type 0 where
  pub after : List ℕ
  pub runs : Runs image longest (Trail (trail_at image at 0) m) (Trail (trail_at image (at + 3) 1) (rewritten after m))
  pub unseen : Unseen image m.bytes after
  pub holds : number_at 8 after (cell_at 0) ≡ cell v

-- the program has faulted
pub record Breaks (image : Image) (n : ℕ) (from : State) (m : Machine) (e : Fault × Pos) : Type 0 where
  pub after : Machine
  pub runs : Runs image n from (machine.Faulted e.0 e.1 after)
  pub marks : after.marks ≡ m.marks

abbrev pub Evaluated : Image → Machine → (at : ℕ) → Answer → Type 0
Evaluated image m at (Ok v) = Brings image m at v
Evaluated image m at (Err e) = Breaks image longest (Trail (trail_at image at 0) m) m e
