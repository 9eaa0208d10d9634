-- When a plan fits a kernel: it keeps the laws of slots and of gates, and all its numbers have 16 bits.
use Rattle.std.specs.Prelude.{◌≡◌, ℕ, ◌<◌, ◌≤◌, Bool, List, ◌++◌, length}
use Rattle.ceu_tree.specs.declared.kernel.Kernel.{Kernel}
use Rattle.ceu_tree.specs.Needs.{slots, gates}
use Rattle.ceu_tree.specs.Numbering.{block_nodes, block_slots, codes_nodes, codes_slots}
use Rattle.ceu_tree.specs.Weight.{weight}
use Rattle.ceu_slots.specs.Law.{KeepsPlaces}
use Rattle.ceu_slots.specs.Plans.{Planned, Lawful, HasPlaces}
use Rattle.ceu_gates.specs.Ranges.{first_gate, gate_count, IsByNode}
use Rattle.ceu_shape.specs.Plans.{Plan, plan_of}

-- how many slots and nodes a kernel has
abbrev pub slot_count : Kernel → ℕ
slot_count K = length (block_slots K.body ++ codes_slots K.codes)

abbrev pub node_count : Kernel → ℕ
node_count K = length (block_nodes K.body ++ codes_nodes K.codes)

pub record PlanFits (P : Plan) (K : Kernel) : Type 0 where
  pub size : ℕ → ℕ  -- by the number of a slot
  pub kept : KeepsPlaces P.offset size P.frame K P.total
  pub few_bytes : P.total ≤ 65535
  pub small_frames : (code : ℕ) → P.frame code ≤ 65535
  pub firsts : (node : ℕ) → node < node_count K → P.first node ≡ first_gate K node
  pub counts : (node : ℕ) → node < node_count K → P.count node ≡ gate_count K node
  pub few_gates : gates K ≤ 3000
  pub light : weight K ≤ 65535

-- The plans that are made of a kernel with few slots and gates fit it.
abbrev pub MadePlansFit : Type 0
MadePlansFit = (plain : Bool) (K : Kernel) (p : Planned) (firsts counts : List ℕ) → weight K ≤ 65535 → slots plain K ≤ 65535 → gates K ≤ 3000 → Lawful p K → HasPlaces plain K p →
    IsByNode K (first_gate K) firsts → IsByNode K (gate_count K) counts → PlanFits (plan_of p.offset p.frame p.total firsts counts) K
