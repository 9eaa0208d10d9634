-- When the lines of a statement of one trail can be added: what it names is there, its parts have labels, and the sheet has room.
use Rattle.std.specs.Prelude.{◌≡◌, ℕ, ◌+◌, ◌*◌, ◌^◌, ◌<◌, length, Option, Some, None}
use Rattle.ceu_tree.specs.declared.kernel.Kernel.{Kernel}
use Rattle.ceu_tree.specs.declared.kernel.Loc.{Loc}
use Rattle.ceu_tree.specs.declared.kernel.KLoop.{KLoop}
use Rattle.ceu_tree.specs.declared.kernel.KLoop.TheVariants as turns
use Rattle.ceu_tree.specs.declared.kernel.KStmt.{KStmt, Assign, Out, Emit, AwaitIn, AwaitTime, AwaitEvent, AwaitCode, Spawn, Kill, Unset, Async, Finalize, Do, Escape, Break, Continue, If', Loop, Par'}
use Rattle.ceu_asm.specs.Pages.{Page}
use Rattle.ceu_asm.specs.declared.line.Labels.{Labels}
use Rattle.ceu_shape.specs.Searches.{escape_target}
use Rattle.ceu_shape.specs.Shape.{count_if, arm_count, ends_count}

-- the statements of one trail
abbrev pub IsFlow : KStmt → Type 0
IsFlow (AwaitCode c es f t) = ⊥
IsFlow (Spawn c es p a) = ⊥
IsFlow (Kill c) = ⊥
IsFlow (Unset c) = ⊥
IsFlow (Async b) = ⊥
IsFlow (Finalize b) = ⊥
IsFlow (Par' kind slot _ bs) = ⊥
IsFlow _ = Unit {0}

abbrev pub TargetFits : (slots : ℕ) → Option Loc → Type 0
TargetFits slots None = Unit {0}
TargetFits slots (Some l) = l.slot < slots

abbrev pub LoopFits : (slots : ℕ) → KLoop → Type 0
LoopFits slots turns.Free = Unit {0}
LoopFits slots (turns.Times slot n) = slot < slots
LoopFits slots (turns.Range i next end open_a a b open_b) = (i < slots) × (next < slots) × (end < slots)

-- with so many slots and nodes
abbrev pub StmtFits : (slots nodes : ℕ) → Kernel → KStmt → Type 0
StmtFits slots nodes K (Assign l e) = l.slot < slots
StmtFits slots nodes K (Out k e) = k < length K.outputs
StmtFits slots nodes K (Emit k e) = k < length K.events
StmtFits slots nodes K (AwaitIn k t) = (k < length K.inputs) × TargetFits slots t
StmtFits slots nodes K (AwaitTime e u t) = TargetFits slots t
StmtFits slots nodes K (AwaitEvent k t) = (k < length K.events) × TargetFits slots t
StmtFits slots nodes K (Do t b) = TargetFits slots t
StmtFits slots nodes K (Escape m e) = (m < nodes) × TargetFits slots (escape_target K m)
StmtFits slots nodes K (Break m) = m < nodes
StmtFits slots nodes K (Continue m) = m < nodes
StmtFits slots nodes K (Loop kind b) = LoopFits slots kind
StmtFits slots nodes K _ = Unit {0}

-- how many parts it has
abbrev pub part_count : KStmt → ℕ
part_count (Assign l e) = 1
part_count (Out k e) = count_if e
part_count (Emit k e) = count_if e
part_count (AwaitTime e u t) = 1
part_count (Do t b) = 1
part_count (Escape m e) = count_if e
part_count (If' _ arms last) = 2 * arm_count arms + 1
part_count (Loop kind b) = ends_count kind + 1
part_count _ = 0

abbrev pub HasParts : Labels → (parts : ℕ) → Type 0
HasParts labels parts = length labels.parts ≡ 2 * parts

-- how many labels it takes
abbrev pub label_count : KStmt → ℕ
label_count (If' _ arms last) = arm_count arms
label_count (Loop kind b) = 1
label_count _ = 0

pub record HasRoom (page : Page) (labels : ℕ) : Type 0 where
  pub labels_left : page.labels + labels < 2 ^ 32
  pub places_left : length page.places < 65535
