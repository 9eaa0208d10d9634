-- What the kernel of a text keeps: it is proper, keeps the rules on bounds, and is within the limits on sizes.
use Rattle.std.proofs.Common.{◌≡◌, sym, subst, ℕ, ◌≤◌, false, List, None, arith}
use Rattle.std.proofs.lemmas.Bool.Decides.{nat_tests}
use Rattle.ceu_tree.specs.Costs.{bounds}
use Rattle.ceu_tree.specs.declared.kernel.Kernel.{Kernel}
use Rattle.ceu_tree.specs.Needs.{memory, gates}
use Rattle.ceu_tree.specs.Proper.{Proper}
use Rattle.ceu_tree.specs.Weight.{weight}
use Rattle.ceu_single.specs.Single.{Single}
use Rattle.ceu_bound.specs.declared.bounds.Bounds.{Bounds}
use Rattle.ceu_bound.specs.PhaseB.{AreBounds, KeepsLoopRules}
use Rattle.ceu_endings.specs.Ends.{EndsTurns}
use Rattle.laws_promise_texts.specs.ImagesLaws.{IsSmall}
use Rattle.laws_kernel_proper.proofs.Whole.{text_proper}
use Rattle.ceu_compile.specs.Programs.{IsProgram}
use Rattle.ceu_compile.specs.Sizes.{over, too_large}

pub proper_program : (text : List ℕ) (K : Kernel) → IsProgram text K → Proper K
proper_program text K (tokens, tree, has, sound) =
    let kernel = sound.0 in
    subst Proper (sym kernel.3) (text_proper text tokens tree kernel.0 kernel.1 has.0 has.1 kernel.2.0 kernel.2.1)

-- ---- bounds

pub loop_rules : (text : List ℕ) (K : Kernel) → IsProgram text K → KeepsLoopRules K
loop_rules text K (tokens, tree, has, sound) = sound.1.0

pub program_bounds : (text : List ℕ) (K : Kernel) (b : Bounds) → IsProgram text K → b.turns ≡ (bounds K).turns → b.levels ≡ (bounds K).opens → AreBounds K b
program_bounds text K b program turns levels = record { keeps = loop_rules text K program; turns = turns; levels = levels }

-- ---- sizes

bytes_under : (m g w : ℕ) → over m g w ≡ None → m ≤ 65535
bytes_under m g w e = grind (arith, nat_tests)

gates_under : (m g w : ℕ) → over m g w ≡ None → g ≤ 3000
gates_under m g w e = grind (arith, nat_tests)

weight_under : (m g w : ℕ) → over m g w ≡ None → w ≤ 65535
weight_under m g w e = grind (arith, nat_tests)

small_kernel : (K : Kernel) → too_large K ≡ None → IsSmall K
small_kernel K e = record {
  bytes = bytes_under (memory false K) (gates K) (weight K) e;
  few_gates = gates_under (memory false K) (gates K) (weight K) e;
  light = weight_under (memory false K) (gates K) (weight K) e;
}

pub small_program : (text : List ℕ) (K : Kernel) → IsProgram text K → IsSmall K
small_program text K (tokens, tree, has, sound) = small_kernel K sound.2

-- ---- one trail

pub ending_program : (text : List ℕ) (K : Kernel) → IsProgram text K → Single K → EndsTurns K
ending_program text K program single = record {
  proper = proper_program text K program;
  single = single;
  keeps = loop_rules text K program;
  weighs = (small_program text K program).light;
}
