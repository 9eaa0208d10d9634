-- The image that is made of a kernel of one trail is a compiled one.
use Rattle.std.proofs.Common.{◌≡◌, refl, ℕ, ◌+◌, ◌*◌, false, List, length, arith}
use Rattle.ceu_asm.specs.Lines.{code_size}
use Rattle.ceu_asm.proofs.Following.{length-assembled}
use Rattle.ceu_isa.specs.Layout.{end_of}
use Rattle.laws_code_placed.specs.Fits.{PlanFits}
use Rattle.laws_code_placed.proofs.Few.{short_code}
use Rattle.laws_code_placed.proofs.Operands.{shape_placed, made_plans_fit}
use Rattle.ceu_shape.specs.Plans.{Plan}
use Rattle.ceu_shape.specs.Shape.{shape, shape_lines}
use Rattle.ceu_slots.specs.Plans.{Planned}
use Rattle.ceu_tree.specs.declared.kernel.Kernel.{Kernel}
use Rattle.ceu_tree.specs.Depth.{depth}
use Rattle.ceu_tree.specs.Needs.{memory, gates, slots}
use Rattle.laws_promise_texts.specs.ImagesLaws.{IsSmall, ArePlans, joined, ImagesAreCompiled}

memory_is : (K : Kernel) → memory false K ≡ 16 + 8 * depth K + 19 * gates K + slots false K
unfolding memory
memory_is K = refl

end_is : (P : Plan) (K : Kernel) (turns levels : ℕ) → end_of (shape P K turns levels) ≡ 16 + 8 * depth K + 19 * gates K + P.total
unfolding shape
end_is P K turns levels = refl

code_is : (P : Plan) (K : Kernel) (turns levels : ℕ) → length (shape P K turns levels).code ≡ code_size (shape_lines P K)
unfolding shape
code_is P K turns levels = length-assembled (shape_lines P K)

fits : (K : Kernel) (p : Planned) (firsts counts : List ℕ) → IsSmall K → ArePlans K p firsts counts → PlanFits (joined p firsts counts) K
fits K p firsts counts small plans =
    made_plans_fit false K p firsts counts small.light (let m = small.bytes in omega (arith, m, memory_is K)) small.few_gates plans.lawful plans.places plans.first_gates plans.gate_counts

pub images_compiled : ImagesAreCompiled
images_compiled K p firsts counts turns levels proper single small plans some =
    let P = joined p firsts counts in
    let fit = fits K p firsts counts small plans in
    record {
      proper = proper;
      single = single;
      shaped = (turns, levels, some, refl);
      light = small.light;
      memory = (let whole = plans.places.whole in let m = small.bytes in omega (arith, end_is P K turns levels, memory_is K, whole, m));
      short = (let w = small.light in omega (arith, code_is P K turns levels, short_code P K, w));
      placed = shape_placed P K turns levels proper fit;
      slots = plans.lawful.kept;
      gates = record { first = fit.firsts; count = fit.counts };
    }
