-- The image of a program, and its spelling.
use Rattle.std.proofs.Common.{◌≡◌, refl, sym, subst, ℕ, ◌+◌, ◌*◌, ◌≤◌, List, None, false, arith}
use Rattle.std.specs.List.{AllByRecursion}
use Rattle.std.proofs.lemmas.Bool.Decides.{nat_tests}
use Rattle.ceu_code.specs.Spelling.{IsPlace, HasSpelling}
use Rattle.ceu_code.specs.declared.image.Image.{Image}
use Rattle.ceu_shape.specs.Shape.{shape}
use Rattle.ceu_tree.specs.Costs.{bounds}
use Rattle.ceu_tree.specs.Depth.{depth}
use Rattle.ceu_tree.specs.Needs.{memory, gates, slots}
use Rattle.ceu_tree.specs.Proper.{Proper}
use Rattle.ceu_tree.specs.Weight.{weight}
use Rattle.ceu_tree.specs.declared.kernel.Kernel.{Kernel}
use Rattle.laws_code_spelled.specs.Laws.{plan, IsSmall, ArePlans, AreLimits}
use Rattle.laws_code_spelled.proofs.Whole.{images_spelled}
use Rattle.ceu_compile.specs.Images.{IsImageOf}
use Rattle.ceu_compile.specs.Programs.{HasBounds, IsProgram}
use Rattle.ceu_compile.specs.Sizes.{over, too_large}

under : (m g w : ℕ) → over m g w ≡ None → (m ≤ 65535) × (g ≤ 3000) × (w ≤ 65535)
under m g w e = (memory_under, gates_under, weight_under)
  where
    memory_under : m ≤ 65535
    memory_under = grind (arith, nat_tests)

    gates_under : g ≤ 3000
    gates_under = grind (arith, nat_tests)

    weight_under : w ≤ 65535
    weight_under = grind (arith, nat_tests)

pub small : (K : Kernel) → too_large K ≡ None → IsSmall false K
small K e = let h = under (memory false K) (gates K) (weight K) e in record { memory = h.0; gates = h.1; weight = h.2 }

memory_parts : (K : Kernel) → memory false K ≡ 16 + 8 * depth K + 19 * gates K + slots false K
unfolding memory
memory_parts K = refl

pub slots_few : (K : Kernel) → too_large K ≡ None → slots false K ≤ 65535
slots_few K e = let h = small K e in let m = h.memory in omega (arith, memory_parts K, m)

pub memory_few : (K : Kernel) (total : ℕ) → too_large K ≡ None → total ≡ slots false K → 16 + 8 * depth K + 19 * gates K + total ≤ 65535
memory_few K total e whole = let h = small K e in let m = h.memory in omega (arith, memory_parts K, m, whole)

pub small_program : (text : List ℕ) (K : Kernel) → IsProgram text K → too_large K ≡ None
small_program text K (tokens, tree, has, sound) = sound.2

bounded_program : (text : List ℕ) (K : Kernel) → IsProgram text K → HasBounds K
bounded_program text K (tokens, tree, has, sound) = sound.1

some_turn : (K : Kernel) → 1 ≤ (bounds K).turns
unfolding bounds
some_turn K = omega arith

limits : (K : Kernel) → HasBounds K → AreLimits (bounds K).turns (bounds K).opens
limits K h = let t = h.1 in let o = h.2 in record { some = some_turn K; few = omega (arith, t); low = omega (arith, o) }

pub spelled : (text : List ℕ) (K : Kernel) (i : Image) → IsProgram text K → Proper K → IsImageOf K i → AllByRecursion IsPlace i.places → HasSpelling i
unfolding shape
spelled text K i program proper of =
    let plans : ArePlans false K of.places of.gates = record { lawful = of.lawful; laid = of.laid; firsts = of.firsts; counts = of.counts } in
    let is = small K (small_program text K program) in
    let turns = (bounds K).turns in
    let levels = (bounds K).opens in
    let bound = limits K (bounded_program text K program) in
    subst (λ (x : Image). AllByRecursion IsPlace x.places → HasSpelling x) (sym of.shaped) (λ places. images_spelled false K of.places of.gates turns levels proper is plans bound places)
