-- The image of a program: its lines, assembled, and its tables, by the overlapped layout of slots and the plan of gates.
use Rattle.std.specs.Prelude.{◌≡◌, ℕ, List, false}
use Rattle.ceu_tree.specs.Costs.{bounds}
use Rattle.ceu_tree.specs.declared.kernel.Kernel.{Kernel}
use Rattle.ceu_code.specs.declared.image.Image.{Image}
use Rattle.ceu_gates.specs.Ranges.{IsByNode, first_gate, gate_count}
use Rattle.ceu_gates.specs.declared.plan.GatePlan.{GatePlan}
use Rattle.ceu_shape.specs.Plans.{plan_of}
use Rattle.ceu_shape.specs.Shape.{shape}
use Rattle.ceu_slots.specs.Plans.{Planned, Lawful, HasPlaces}
use Rattle.ceu_compile.specs.Programs.{IsProgram}

-- The image of a kernel, with the turns and the levels of its reactions at most.
pub record IsImageOf (K : Kernel) (image : Image) : Type 0 where
  pub places : Planned
  pub gates : GatePlan
  pub lawful : Lawful places K
  pub laid : HasPlaces false K places
  pub firsts : IsByNode K (first_gate K) gates.first
  pub counts : IsByNode K (gate_count K) gates.count
  pub shaped : image ≡ shape (plan_of places.offset places.frame places.total gates.first gates.count) K (bounds K).turns (bounds K).opens

-- The text breaks no rule, and this is the image of its kernel.
abbrev pub IsImage : List ℕ → Image → Type 0
IsImage text image = (K : Kernel) × IsProgram text K × IsImageOf K image
