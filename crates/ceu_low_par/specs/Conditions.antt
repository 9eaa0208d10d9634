-- When the lines of a par or of a finalizer can be added: what it names is there, its parts have labels, and the sheet has room.
use Rattle.std.specs.Prelude.{◌≡◌, ℕ, ◌+◌, ◌*◌, ◌^◌, ◌<◌, ◌≤◌, List, [], ◌∷◌, length}
use Rattle.ceu_tree.specs.declared.kernel.KBlock.{KBlock}
use Rattle.ceu_tree.specs.declared.kernel.ParKind.{ParKind}
use Rattle.ceu_tree.specs.declared.kernel.ParKind.TheVariants as par
use Rattle.ceu_tree.specs.declared.kernel.KStmt.{KStmt, Finalize, Par'}
use Rattle.ceu_asm.specs.Pages.{Page}
use Rattle.ceu_asm.specs.declared.line.Labels.{Labels}
use Rattle.ceu_slots.specs.Plans.{Planned}
use Rattle.ceu_gates.specs.declared.plan.GatePlan.{GatePlan}
use Rattle.ceu_shape.specs.Plans.{Plan, plan_of}
use Rattle.ceu_shape.specs.Searches.{node_of_block}
use Rattle.ceu_shape.specs.Shape.{branch_nodes}

-- the plan of both
abbrev pub planned : Planned → GatePlan → Plan
planned p g = plan_of p.offset p.frame p.total g.first g.count

-- the nodes of the branches
abbrev pub nodes_of : List KBlock → List ℕ
nodes_of [] = []
nodes_of (b ∷ bs) = node_of_block b ∷ nodes_of bs

abbrev pub IsPar : KStmt → Type 0
IsPar (Finalize b) = Unit {0}
IsPar (Par' kind slot _ bs) = Unit {0}
IsPar _ = ⊥

abbrev pub AreNodes : (nodes : ℕ) → List ℕ → Type 0
AreNodes nodes [] = Unit {0}
AreNodes nodes (b ∷ bs) = (b < nodes) × AreNodes nodes bs

-- par/and has a slot for each branch
abbrev pub SlotsFit : (slots : ℕ) → ParKind → (slot branches : ℕ) → Type 0
SlotsFit slots par.And slot branches = slot + branches ≤ slots
SlotsFit slots _ slot branches = Unit {0}

-- it has some branch, whose nodes and slots are there
pub record ParFits (slots nodes : ℕ) (kind : ParKind) (slot : ℕ) (branches : List ℕ) : Type 0 where
  pub some_branch : 0 < length branches
  pub nodes_there : AreNodes nodes branches
  pub slots_there : SlotsFit slots kind slot (length branches)

-- with so many slots and nodes
abbrev pub StmtFits : (slots nodes : ℕ) → KStmt → Type 0
StmtFits slots nodes (Par' kind slot _ bs) = ParFits slots nodes kind slot (branch_nodes bs)
StmtFits slots nodes _ = Unit {0}

-- how many parts it has
abbrev pub part_count : KStmt → ℕ
part_count (Finalize b) = 1
part_count (Par' kind slot _ bs) = length (branch_nodes bs)
part_count _ = 0

abbrev pub HasParts : Labels → (parts : ℕ) → Type 0
HasParts labels parts = length labels.parts ≡ 2 * parts

-- how many labels it takes
abbrev pub kind_labels : ParKind → ℕ
kind_labels par.And = 2
kind_labels _ = 0

abbrev pub label_count : KStmt → ℕ
label_count (Par' kind slot _ bs) = kind_labels kind
label_count _ = 0

pub record HasRoom (page : Page) (labels : ℕ) : Type 0 where
  pub labels_left : page.labels + labels < 2 ^ 32
  pub places_left : length page.places < 65535
