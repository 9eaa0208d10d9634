-- When the lines of a statement on code can be added: what it names is there, its arguments have labels, and the sheet has room.
use Rattle.std.specs.Prelude.{◌≡◌, ℕ, ◌*◌, ◌<◌, ◌≤◌, length, Option, Some, None}
use Rattle.ceu_tree.specs.declared.kernel.Kernel.{Kernel}
use Rattle.ceu_tree.specs.declared.kernel.Loc.{Loc}
use Rattle.ceu_tree.specs.declared.kernel.KStmt.{KStmt, AwaitCode, Spawn, Kill, Unset}
use Rattle.ceu_asm.specs.Pages.{Page}
use Rattle.ceu_asm.specs.declared.line.Labels.{Labels}
use Rattle.ceu_slots.specs.Plans.{Planned}
use Rattle.ceu_gates.specs.declared.plan.GatePlan.{GatePlan}
use Rattle.ceu_shape.specs.Plans.{Plan, plan_of}
use Rattle.ceu_shape.specs.Searches.{pool_size}

-- the plan of both
abbrev pub planned : Planned → GatePlan → Plan
planned p g = plan_of p.offset p.frame p.total g.first g.count

abbrev pub IsPool : KStmt → Type 0
IsPool (AwaitCode c es frame t) = Unit {0}
IsPool (Spawn c es pool alias) = Unit {0}
IsPool (Kill c) = Unit {0}
IsPool (Unset c) = Unit {0}
IsPool _ = ⊥

abbrev pub TargetFits : (slots : ℕ) → Option Loc → Type 0
TargetFits slots None = Unit {0}
TargetFits slots (Some l) = l.slot < slots

abbrev pub AliasFits : (slots : ℕ) → Option ℕ → Type 0
AliasFits slots None = Unit {0}
AliasFits slots (Some slot) = slot < slots

pub record CallFits (slots : ℕ) (K : Kernel) (code frame : ℕ) (target : Option Loc) : Type 0 where
  pub code_there : code < length K.codes
  pub frame_there : frame < slots
  pub target_there : TargetFits slots target

pub record SpawnFits (slots : ℕ) (K : Kernel) (code pool : ℕ) (alias : Option ℕ) : Type 0 where
  pub code_there : code < length K.codes
  pub pool_there : pool < slots
  pub pool_small : pool_size K pool ≤ 65535
  pub alias_there : AliasFits slots alias

-- with so many slots
abbrev pub StmtFits : (slots : ℕ) → Kernel → KStmt → Type 0
StmtFits slots K (AwaitCode c es frame t) = CallFits slots K c frame t
StmtFits slots K (Spawn c es pool alias) = SpawnFits slots K c pool alias
StmtFits slots K (Kill c) = c < slots
StmtFits slots K (Unset c) = c < slots
StmtFits slots K _ = Unit {0}

-- how many parts it has
abbrev pub part_count : KStmt → ℕ
part_count (AwaitCode c es frame t) = length es
part_count (Spawn c es pool alias) = length es
part_count _ = 0

abbrev pub HasParts : Labels → (parts : ℕ) → Type 0
HasParts labels parts = length labels.parts ≡ 2 * parts

-- a spawn notes its position
pub record HasRoom (page : Page) : Type 0 where
  pub places_left : length page.places < 65535
