-- When the image of a kernel has a spelling.
use Rattle.std.specs.Prelude.{ℕ, ◌^◌, ◌<◌, ◌≤◌, Bool}
use Rattle.std.specs.List.{AllByRecursion}
use Rattle.ceu_tree.specs.declared.kernel.Kernel.{Kernel}
use Rattle.ceu_tree.specs.Needs.{memory, gates}
use Rattle.ceu_tree.specs.Proper.{Proper}
use Rattle.ceu_tree.specs.Weight.{weight}
use Rattle.ceu_code.specs.Spelling.{IsPlace, HasSpelling}
use Rattle.ceu_gates.specs.Ranges.{IsByNode, first_gate, gate_count}
use Rattle.ceu_gates.specs.declared.plan.GatePlan.{GatePlan}
use Rattle.ceu_shape.specs.Plans.{Plan, plan_of}
use Rattle.ceu_shape.specs.Shape.{shape_positions, shape}
use Rattle.ceu_slots.specs.Plans.{Planned, Lawful, HasPlaces}

abbrev pub plan : Planned → GatePlan → Plan
plan p g = plan_of p.offset p.frame p.total g.first g.count

-- the kernel is within the limits on sizes
pub record IsSmall (plain : Bool) (K : Kernel) : Type 0 where
  pub memory : memory plain K ≤ 65535
  pub gates : gates K ≤ 3000
  pub weight : weight K ≤ 65535

-- these are the plans of its slots and of its gates
pub record ArePlans (plain : Bool) (K : Kernel) (p : Planned) (g : GatePlan) : Type 0 where
  pub lawful : Lawful p K
  pub laid : HasPlaces plain K p
  pub firsts : IsByNode K (first_gate K) g.first
  pub counts : IsByNode K (gate_count K) g.count

-- the numbers of turns and levels fit into their bytes
pub record AreLimits (turns levels : ℕ) : Type 0 where
  pub some : 1 ≤ turns
  pub few : turns < 2 ^ 32
  pub low : levels < 2 ^ 16

-- The image of a proper kernel has a spelling where each position that its code names is one of a text.
abbrev pub ImagesAreSpelled : Type 0
ImagesAreSpelled = (plain : Bool) (K : Kernel) (p : Planned) (g : GatePlan) (turns levels : ℕ) → Proper K → IsSmall plain K → ArePlans plain K p g → AreLimits turns levels →
    AllByRecursion IsPlace (shape_positions (plan p g) K) → HasSpelling (shape (plan p g) K turns levels)
