-- A program of one trail that was compiled: its image has the code of its kernel, by a plan of its slots and one of its gates.
use Rattle.std.specs.Prelude.{◌≡◌, ℕ, ◌<◌, ◌≤◌, ◌^◌, List, length}
use Rattle.ceu_code.specs.declared.image.Image.{Image}
use Rattle.laws_machine_code.specs.Placed.{Placed}
use Rattle.ceu_gates.specs.Ranges.{nodes, first_gate, gate_count}
use Rattle.ceu_isa.specs.Layout.{end_of}
use Rattle.ceu_single.specs.Single.{Single}
use Rattle.ceu_slots.specs.Law.{KeepsPlaces}
use Rattle.ceu_tree.specs.declared.kernel.Kernel.{Kernel}
use Rattle.ceu_tree.specs.Numbering.{block_nodes, codes_nodes}
use Rattle.ceu_tree.specs.Proper.{Proper}
use Rattle.ceu_tree.specs.Weight.{weight}
use Rattle.ceu_shape.specs.Plans.{Plan}
use Rattle.ceu_shape.specs.Shape.{shape, shape_lines}
use Rattle.ceu_trail.specs.Built.{at_label}

-- the plan of gates is the kernel's
pub record GatesPlanned (P : Plan) (K : Kernel) : Type 0 where
  pub first : (node : ℕ) → node < length (nodes K) → P.first node ≡ first_gate K node
  pub count : (node : ℕ) → node < length (nodes K) → P.count node ≡ gate_count K node

pub record Compiled (image : Image) (P : Plan) (width : ℕ → ℕ) (K : Kernel) : Type 0 where
  pub proper : Proper K
  pub single : Single K
  pub shaped : (turns : ℕ) × (levels : ℕ) × (1 ≤ turns) × (image ≡ shape P K turns levels)
  pub light : weight K ≤ 65535
  pub memory : end_of image ≤ 65535
  pub short : length image.code ≤ 65535
  pub placed : Placed image (at_label image P K) 0 (shape_lines P K)
  pub slots : KeepsPlaces P.offset width P.frame K P.total
  pub gates : GatesPlanned P K
