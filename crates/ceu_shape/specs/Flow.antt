-- The lines of the statements of one trail. A statement begins at its own label and goes to its next one; it goes to the begin of a part, and the
-- part's lines lead to the part's end, where the value of an expression lies on the evaluation cells.
--
-- A statement that waits first moves the trail to its own gate. The value with which it goes on is in the header.
use Rattle.std.specs.Prelude.{ℕ, suc, zero, ◌+◌, ◌-◌, ◌*◌, pos, Bool, if◌then◌else◌, List, [], ◌∷◌, ◌++◌, Option, Some, None}
use Rattle.ceu_base.specs.declared.kinds.Ty.{Ty}
use Rattle.ceu_base.specs.declared.kinds.Ty.TheVariants as ty
use Rattle.ceu_base.specs.declared.kinds.Pos.{Pos}
use Rattle.ceu_tree.specs.declared.kernel.Kernel.{Kernel}
use Rattle.ceu_tree.specs.declared.kernel.KExp.{KExp}
use Rattle.ceu_tree.specs.declared.kernel.KLoop.{KLoop}
use Rattle.ceu_tree.specs.declared.kernel.KLoop.TheVariants as turns
use Rattle.ceu_tree.specs.declared.kernel.Loc.{Loc}
use Rattle.ceu_tree.specs.declared.kernel.Unit.{Unit as KernelUnit}
use Rattle.ceu_tree.specs.declared.kernel.Unit.TheVariants as unit
use Rattle.ceu_code.specs.declared.instr.TimeUnit.{TimeUnit}
use Rattle.ceu_code.specs.declared.instr.TimeUnit.TheVariants as time
use Rattle.ceu_code.specs.declared.instr.Instr.{Instr}
use Rattle.ceu_code.specs.declared.instr.Instr.TheVariants as instr
use Rattle.ceu_asm.specs.declared.line.Line.{Line}
use Rattle.ceu_asm.specs.declared.line.Line.TheVariants as line
use Rattle.ceu_asm.specs.declared.line.Labels.{Labels}
use Rattle.ceu_shape.specs.Plans.{Plan}
use Rattle.ceu_shape.specs.Pieces.{Draft, Stop, stop, Finishes, Turns, text, stopping, placed_stopping, taking}
use Rattle.ceu_shape.specs.Words.{mark, plain, goto, goto_if_false, begin_of, end_of, part, store, move_to, abort}
use Rattle.ceu_shape.specs.Searches.{input_ty, output_ty, event_ty, event_number, escape_target, stands_in_async}

abbrev pub time_unit : KernelUnit → TimeUnit
time_unit unit.H = time.H
time_unit unit.Min = time.Min
time_unit unit.S = time.S
time_unit unit.Ms = time.Ms
time_unit unit.Us = time.Us

-- the part of an expression, where there is one
abbrev pub part_if : {A : Type 0} → Option A → Labels → List Line
part_if None labels = []
part_if (Some e) labels = part labels 0

-- the header's value, of a type, goes to its target
abbrev pub keep : (offset : ℕ → ℕ) → Ty → Option Loc → List Line
keep offset t None = []
keep offset t (Some l) = plain (instr.Value t) ∷ store offset l ∷ []

abbrev pub nothing_lines : Labels → List Line
nothing_lines labels = mark labels.own ∷ goto labels.next ∷ []

abbrev pub one_if : Bool → ℕ
one_if b = if b then 1 else 0

-- at the end of a loop's body: where the loop stands in an async, a turn of the async is completed
abbrev pub turn_end : Bool → List Line
turn_end yields = if yields then plain instr.YieldAsync ∷ [] else []

abbrev pub turn_stops : Bool → (node label : ℕ) → List Stop
turn_stops yields n label = if yields then stop Turns n label 1 ∷ [] else []

abbrev pub output_lines : {A : Type 0} → (output : ℕ) → Ty → Option A → Labels → List Line
output_lines k t e labels = (mark labels.own ∷ part_if e labels) ++ (plain (instr.Output k t) ∷ goto labels.next ∷ [])

-- The value of an escape goes through the header, since finalizers run before it is kept. It stays there where the body of the program or of code is
-- left.
abbrev pub escape_value : Option KExp → Labels → List Line
escape_value None labels = []
escape_value (Some e) labels = part labels 0 ++ (plain instr.SetValue ∷ [])

-- ---- if: of each arm the condition, and where it is true the body

-- the arms from one on, whose condition is the part `k`; each takes a label, at which the next test stands
abbrev pub arms_lines : Labels → (k over arms : ℕ) → List Line
arms_lines labels k over zero = []
arms_lines labels k over (suc arms) =
    (part labels k ++ (goto_if_false over ∷ goto (begin_of labels (k + 1)) ∷ mark over ∷ [])) ++ arms_lines labels (k + 2) (over + 1) arms

-- the ends of the bodies of the arms from one on
abbrev pub arm_ends : Labels → (k arms : ℕ) → List Line
arm_ends labels k zero = []
arm_ends labels k (suc arms) = mark (end_of labels (k + 1)) ∷ arm_ends labels (k + 2) arms

abbrev pub if_lines : (arms : ℕ) → Labels → (over : ℕ) → List Line
if_lines arms labels over =
    (mark labels.own ∷ arms_lines labels 0 over arms) ++ ((goto (begin_of labels (2 * arms)) ∷ arm_ends labels 0 arms) ++ (mark (end_of labels (2 * arms)) ∷ goto labels.next ∷ []))

abbrev pub if_draft : (arms : ℕ) → Labels → Draft
if_draft arms labels = taking arms (λ over. text (if_lines arms labels over))

-- ---- loops, whose head is a label that they take

-- the body, and behind it to the head
abbrev pub turn_lines : Bool → (body : ℕ) → Labels → (head : ℕ) → List Line
turn_lines yields body labels head = part labels body ++ (turn_end yields ++ (goto head ∷ []))

abbrev pub free_lines : Bool → Labels → (head : ℕ) → List Line
free_lines yields labels head = (mark labels.own ∷ mark head ∷ []) ++ turn_lines yields 0 labels head

-- ---- with the offsets of slots

module _ (offset : ℕ → ℕ) where
  abbrev pub assign_lines : Loc → Labels → List Line
  assign_lines l labels = (mark labels.own ∷ part labels 0) ++ (store offset l ∷ goto labels.next ∷ [])

  -- a `do` that ends without an escape gives its target zero
  abbrev pub zero_kept : Option Loc → List Line
  zero_kept None = []
  zero_kept (Some l) = plain (instr.Push l.ty (pos 0)) ∷ store offset l ∷ []

  abbrev pub do_lines : Option Loc → Labels → List Line
  do_lines target labels = (mark labels.own ∷ part labels 0) ++ (zero_kept target ++ (goto labels.next ∷ []))

  abbrev pub escape_kept : Option KExp → Option Loc → List Line
  escape_kept None target = []
  escape_kept (Some e) target = keep offset e.ty target

  abbrev pub times_lines : Bool → (slot limit position : ℕ) → Labels → (head : ℕ) → List Line
  times_lines yields slot limit position labels head =
      (mark labels.own ∷ plain (instr.Push ty.U32 (pos 0)) ∷ plain (instr.Store ty.U32 (offset slot)) ∷ mark head ∷ plain (instr.Limit (offset slot) limit position) ∷ [])
      ++ turn_lines yields 0 labels head

  -- an end that is open lies one further in
  abbrev pub range_lines : Bool → (variable next end : ℕ) → (open_a open_b : Bool) → Labels → (head : ℕ) → List Line
  range_lines yields variable next end open_a open_b labels head =
      (mark labels.own ∷ part labels 0) ++ ((plain (instr.RangeBound (offset next) (1 + one_if open_a)) ∷ part labels 1)
      ++ ((plain (instr.RangeBound (offset end) (1 - one_if open_b)) ∷ mark head ∷ line.Jump (instr.RangeNext (offset next) (offset variable) 0) labels.next ∷ [])
      ++ turn_lines yields 2 labels head))

  abbrev pub loop_of : Bool → (node : ℕ) → Pos → KLoop → Labels → (head : ℕ) → Draft
  loop_of yields n p turns.Free labels head = stopping (turn_stops yields n (end_of labels 0)) (free_lines yields labels head)
  loop_of yields n p (turns.Times slot limit) labels head =
      placed_stopping (turn_stops yields n (end_of labels 0)) p (λ position. times_lines yields slot limit position labels head)
  loop_of yields n p (turns.Range i next end open_a a b open_b) labels head =
      stopping (turn_stops yields n (end_of labels 2)) (range_lines yields i next end open_a open_b labels head)

  abbrev pub loop_draft : Bool → (node : ℕ) → Pos → KLoop → Labels → Draft
  loop_draft yields n p kind labels = taking 1 (loop_of yields n p kind labels)

-- ---- with the gates of nodes

-- behind an emission
abbrev pub emit_stop : {A : Type 0} → (node : ℕ) → Option A → Labels → Stop
emit_stop n None labels = stop Finishes n labels.own 7
emit_stop n (Some e) labels = stop Finishes n (end_of labels 0) 4

module _ (P : Plan) where
  abbrev pub emit_lines : {A : Type 0} → (node event : ℕ) → Ty → Option A → Labels → List Line
  emit_lines n k t e labels = (mark labels.own ∷ move_to P n ∷ part_if e labels) ++ (plain (instr.Emit k t) ∷ goto labels.next ∷ [])

  -- waits by one instruction, and keeps a value of a type
  abbrev pub await_lines : (node : ℕ) → Instr → Ty → Option Loc → Labels → List Line
  await_lines n wait t target labels = (mark labels.own ∷ move_to P n ∷ plain wait ∷ keep P.offset t target) ++ (goto labels.next ∷ [])

  abbrev pub await_time_lines : (node : ℕ) → TimeUnit → Option Loc → Labels → List Line
  await_time_lines n u target labels = (mark labels.own ∷ move_to P n ∷ part labels 0) ++ ((plain (instr.WaitTime u) ∷ keep P.offset ty.S32 target) ++ (goto labels.next ∷ []))

  abbrev pub forever_lines : (node : ℕ) → Labels → List Line
  forever_lines n labels = mark labels.own ∷ move_to P n ∷ plain instr.WaitForever ∷ []

  abbrev pub escape_lines : (left : ℕ) → Option KExp → Option Loc → Labels → List Line
  escape_lines left e target labels = (mark labels.own ∷ escape_value e labels) ++ ((abort P left ∷ escape_kept P.offset e target) ++ (goto labels.next ∷ []))

  -- a loop is left, or its body
  abbrev pub leave_lines : (loop : ℕ) → Labels → List Line
  leave_lines loop labels = mark labels.own ∷ abort P loop ∷ goto labels.next ∷ []

-- ---- with what they need of the kernel

abbrev pub output_draft : Kernel → (output : ℕ) → Option KExp → Labels → Draft
output_draft K k e labels = text (output_lines k (output_ty K k) e labels)

module _ (P : Plan) (K : Kernel) where
  abbrev pub emit_draft : (node event : ℕ) → Option KExp → Labels → Draft
  emit_draft n k e labels = stopping (emit_stop n e labels ∷ []) (emit_lines P n (event_number K k) (event_ty K k) e labels)

  abbrev pub await_input_draft : (node input : ℕ) → Option Loc → Labels → Draft
  await_input_draft n k target labels = stopping (stop Finishes n labels.own 6 ∷ []) (await_lines P n (instr.WaitInput k) (input_ty K k) target labels)

  abbrev pub await_event_draft : (node event : ℕ) → Option Loc → Labels → Draft
  await_event_draft n k target labels = stopping (stop Finishes n labels.own 6 ∷ []) (await_lines P n (instr.WaitEvent (event_number K k)) (event_ty K k) target labels)

  abbrev pub await_time_draft : (node : ℕ) → KernelUnit → Option Loc → Labels → Draft
  await_time_draft n u target labels = stopping (stop Finishes n (end_of labels 0) 2 ∷ []) (await_time_lines P n (time_unit u) target labels)

  abbrev pub forever_draft : (node : ℕ) → Labels → Draft
  forever_draft n labels = stopping (stop Finishes n labels.own 4 ∷ []) (forever_lines P n labels)

  abbrev pub escape_draft : (left : ℕ) → Option KExp → Labels → Draft
  escape_draft left e labels = text (escape_lines P left e (escape_target K left) labels)

  abbrev pub looping_draft : (node : ℕ) → Pos → KLoop → Labels → Draft
  looping_draft n p kind labels = loop_draft P.offset (stands_in_async K n) n p kind labels
