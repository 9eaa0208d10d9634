-- Small words for lines.
use Rattle.std.specs.Prelude.{ℕ, ◌+◌, ◌*◌, Bool, if◌then◌else◌, List, [], ◌∷◌, slice_index}
use Rattle.ceu_base.specs.declared.kinds.Ty.{Ty}
use Rattle.ceu_tree.specs.declared.kernel.Loc.{Loc}
use Rattle.ceu_code.specs.declared.instr.Instr.{Instr}
use Rattle.ceu_code.specs.declared.instr.Instr.TheVariants as instr
use Rattle.ceu_asm.specs.declared.line.Line.{Line}
use Rattle.ceu_asm.specs.declared.line.Line.TheVariants as line
use Rattle.ceu_asm.specs.declared.line.Labels.{Labels}
use Rattle.ceu_shape.specs.Plans.{Plan}

abbrev pub mark : (label : ℕ) → Line
mark l = line.Mark l

abbrev pub plain : Instr → Line
plain i = line.Plain i

abbrev pub goto : (label : ℕ) → Line
goto l = line.Jump (instr.Jump 0) l

abbrev pub goto_if_false : (label : ℕ) → Line
goto_if_false l = line.Jump (instr.JumpIfFalse 0) l

-- the labels of a statement's parts, each of which has two, its begin and its end
abbrev pub begin_of : Labels → (part : ℕ) → ℕ
begin_of labels k = slice_index labels.parts (2 * k)

abbrev pub end_of : Labels → (part : ℕ) → ℕ
end_of labels k = slice_index labels.parts (2 * k + 1)

-- to a part and back
abbrev pub part : Labels → (part : ℕ) → List Line
part labels k = goto (begin_of labels k) ∷ mark (end_of labels k) ∷ []

-- pushes a variable of the own frame, or of the program's
abbrev pub load : (offset : ℕ → ℕ) → Loc → Line
load offset l = plain (if l.outer then instr.LoadOuter l.ty (offset l.slot) else instr.Load l.ty (offset l.slot))

-- pops into it
abbrev pub store : (offset : ℕ → ℕ) → Loc → Line
store offset l = plain (if l.outer then instr.StoreOuter l.ty (offset l.slot) else instr.Store l.ty (offset l.slot))

module _ (P : Plan) where
  -- the trail goes on as the first gate of a node
  abbrev pub move_to : (node : ℕ) → Line
  move_to n = plain (instr.Move (P.first n))

  -- all gates of a node
  abbrev pub abort : (node : ℕ) → Line
  abort n = plain (instr.AbortGates (P.first n) (P.count n))
