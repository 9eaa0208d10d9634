-- The image that is made of a kernel of one trail.
use Rattle.std.specs.Prelude.{ℕ, ◌≤◌, false, List}
use Rattle.ceu_gates.specs.Ranges.{IsByNode, first_gate, gate_count}
use Rattle.ceu_shape.specs.Plans.{Plan, plan_of}
use Rattle.ceu_shape.specs.Shape.{shape}
use Rattle.ceu_single.specs.Single.{Single}
use Rattle.ceu_slots.specs.Plans.{Planned, HasPlaces, Lawful}
use Rattle.ceu_trail.specs.Compiled.{Compiled}
use Rattle.ceu_tree.specs.declared.kernel.Kernel.{Kernel}
use Rattle.ceu_tree.specs.Needs.{memory, gates}
use Rattle.ceu_tree.specs.Proper.{Proper}
use Rattle.ceu_tree.specs.Weight.{weight}

-- within the limits on sizes
pub record IsSmall (K : Kernel) : Type 0 where
  pub bytes : memory false K ≤ 65535
  pub few_gates : gates K ≤ 3000
  pub light : weight K ≤ 65535

-- a plan of slots in which statements of a list, and parts of an `if`, share their bytes, and lists of gates by the number of a node
pub record ArePlans (K : Kernel) (p : Planned) (firsts counts : List ℕ) : Type 0 where
  pub lawful : Lawful p K
  pub places : HasPlaces false K p
  pub first_gates : IsByNode K (first_gate K) firsts
  pub gate_counts : IsByNode K (gate_count K) counts

abbrev pub joined : Planned → (firsts counts : List ℕ) → Plan
joined p firsts counts = plan_of p.offset p.frame p.total firsts counts

-- The image by such plans is a compiled image of the kernel.
abbrev pub ImagesAreCompiled : Type 0
ImagesAreCompiled =
    (K : Kernel) (p : Planned) (firsts counts : List ℕ) (turns levels : ℕ)
    → Proper K → Single K → IsSmall K → ArePlans K p firsts counts → 1 ≤ turns
    → Compiled (shape (joined p firsts counts) K turns levels) (joined p firsts counts) p.size K
