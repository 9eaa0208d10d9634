-- What is true of the lines of a proper kernel: which labels they mark, and which they go to.
use Rattle.std.specs.Prelude.{◌≡◌, ℕ, ◌≤◌, nat_lt, if◌then◌else◌}
use Rattle.std.specs.List.{AllByRecursion}
use Rattle.ceu_tree.specs.declared.kernel.Kernel.{Kernel}
use Rattle.ceu_tree.specs.Proper.{Proper}
use Rattle.ceu_asm.specs.Lines.{marks, offset_of, instructions, IsMarkedOnce}
use Rattle.ceu_asm.specs.Whole.{IsInRange}
use Rattle.laws_machine_code.specs.Placed.{Placed}
use Rattle.ceu_shape.specs.Plans.{Plan}
use Rattle.ceu_shape.specs.Shape.{kernel_piece, shape_lines, shape}
use Rattle.laws_code_placed.specs.Fits.{PlanFits}
use Rattle.laws_code_placed.specs.There.{KernelThere}

-- ---- labels

-- the labels that the kernel takes are those below this one
abbrev pub labels_taken : Plan → Kernel → ℕ
labels_taken P K = (kernel_piece P K).next

-- each of them is marked once, and no other label
abbrev pub MarkEachLabelOnce : Type 0
MarkEachLabelOnce = (P : Plan) (K : Kernel) → Proper K → (label : ℕ) → marks label (shape_lines P K) ≡ (if nat_lt label (labels_taken P K) then 1 else 0)

abbrev pub MarkNoLabelTwice : Type 0
MarkNoLabelTwice = (P : Plan) (K : Kernel) → Proper K → (label : ℕ) → marks label (shape_lines P K) ≤ 1

-- each label that a line goes to is marked once
abbrev pub MarkWhatIsNamed : Type 0
MarkWhatIsNamed = (P : Plan) (K : Kernel) → Proper K → AllByRecursion (IsMarkedOnce (shape_lines P K)) (shape_lines P K)

-- ---- operands

-- what the parts of a proper kernel name is there, for a plan that fits it
abbrev pub NamesAreThere : Type 0
NamesAreThere = (P : Plan) (K : Kernel) → Proper K → PlanFits P K → KernelThere P K

-- all operands of its code are in range
abbrev pub OperandsAreInRange : Type 0
OperandsAreInRange = (P : Plan) (K : Kernel) → Proper K → PlanFits P K → AllByRecursion IsInRange (instructions (shape_lines P K))

-- so its lines stand in the image: at each one's offset the machine fetches its instruction
abbrev pub ShapeIsPlaced : Type 0
ShapeIsPlaced = (P : Plan) (K : Kernel) (turns levels : ℕ) → Proper K → PlanFits P K → Placed (shape P K turns levels) (λ l. offset_of l (shape_lines P K)) 0 (shape_lines P K)
