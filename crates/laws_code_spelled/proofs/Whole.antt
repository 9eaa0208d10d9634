-- The image of a proper kernel has a spelling.
use Rattle.std.proofs.Common.{◌≡◌, refl, ◌+◌, ◌*◌, ◌≤◌, Bool, List, [], ◌++◌, length, arith}
use Rattle.std.specs.List.{AllByRecursion}
use Rattle.std.proofs.lemmas.Bool.{and_parts}
use Rattle.std.proofs.lemmas.List.{length-map}
use Rattle.ceu_tree.specs.declared.kernel.Kernel.{Kernel}
use Rattle.ceu_tree.specs.Depth.{depth}
use Rattle.ceu_tree.specs.Mentions.{outer_names_from}
use Rattle.ceu_tree.specs.Needs.{memory, gates, gates_from, slots}
use Rattle.ceu_tree.specs.Numbering.{is_numbered}
use Rattle.ceu_tree.specs.Proper.{Proper, is_proper, ports_ok, events_ok}
use Rattle.ceu_asm.specs.declared.line.Line.{Line}
use Rattle.ceu_asm.specs.Lines.{code_size}
use Rattle.ceu_asm.proofs.Following.{length-assembled}
use Rattle.ceu_asm.proofs.Tabled.{whole_code}
use Rattle.ceu_code.specs.Spelling.{IsPort}
use Rattle.ceu_shape.specs.Plans.{Plan}
use Rattle.ceu_shape.specs.Searches.{kernel_pools}
use Rattle.ceu_shape.specs.Shape.{shape_lines, pool_code, shape}
use Rattle.laws_code_placed.specs.Fits.{PlanFits}
use Rattle.laws_code_placed.proofs.AllThere.{names_there}
use Rattle.laws_code_placed.proofs.Counted.{kernel_counts}
use Rattle.laws_code_placed.proofs.Few.{short_code, few_positions}
use Rattle.laws_code_placed.proofs.Operands.{made_plans_fit, operands_in_range}
use Rattle.laws_code_placed.proofs.Slots.{all_split}
use Rattle.laws_code_placed.proofs.Whole.{body_proper}
use Rattle.ceu_codegen.proofs.Whole.{rows_fit}
use Rattle.laws_code_spelled.specs.Laws.{plan, ImagesAreSpelled}
use Rattle.laws_code_spelled.proofs.Parts.{ports_formed, rows_formed, rows_length, pools_formed, block_some}

some_depth : (K : Kernel) → 1 ≤ depth K
unfolding depth
some_depth K = omega arith

some_gates : (K : Kernel) → 1 ≤ gates K
unfolding gates
some_gates K = omega (arith, block_some (gates_from [] K.codes) K.body)

memory_parts : (plain : Bool) (K : Kernel) → memory plain K ≡ 16 + 8 * depth K + 19 * gates K + slots plain K
unfolding memory
memory_parts plain K = refl

slots_few : (plain : Bool) (K : Kernel) → memory plain K ≤ 65535 → slots plain K ≤ 65535
slots_few plain K h = let m = memory_parts plain K in omega (arith, m, h)

ports_proper : (K : Kernel) → Proper K → AllByRecursion IsPort K.inputs × AllByRecursion IsPort K.outputs
unfolding is_proper
ports_proper K ok =
    let names = outer_names_from [] K.codes in
    let a = and_parts _ _ ok in
    let b = and_parts _ _ a.0 in
    let c = and_parts _ (events_ok (length K.codes) K.events) b.0 in
    let d = and_parts (is_numbered K) (ports_ok (K.inputs ++ K.outputs)) c.0 in
    all_split IsPort K.inputs K.outputs (ports_formed (K.inputs ++ K.outputs) d.1)

pub images_spelled : ImagesAreSpelled
unfolding shape
images_spelled plain K p g turns levels ok small plans limits places =
    let P : Plan = plan p g in
    let lines : List Line = shape_lines P K in
    let light = small.weight in
    let bytes = small.memory in
    let few = small.gates in
    let parts = memory_parts plain K in
    let fits : PlanFits P K = made_plans_fit plain K p g.first g.count light (slots_few plain K bytes) few plans.lawful plans.laid plans.firsts plans.counts in
    let there = names_there P K ok fits in
    let counts = kernel_counts K in
    let inputs = counts.inputs in
    let outputs = counts.outputs in
    let codes = counts.codes in
    let pools = counts.pools in
    let total = plans.laid.whole in
    let short : code_size lines ≤ 65535 = omega (arith, short_code P K, light) in
    let ports = ports_proper K ok in
    let rows = body_proper K ok in
    let names = outer_names_from [] K.codes in
    let few_codes : length K.codes ≤ 65535 = omega (arith, codes, light) in
    let size = length-assembled lines in
    record {
      turns = (limits.some, limits.few);
      levels = limits.low;
      depth = some_depth K;
      gates = (some_gates K, few);
      memory = omega (arith, parts, bytes, total);
      inputs = (omega (arith, inputs, light), ports.0);
      outputs = (omega (arith, outputs, light), ports.1);
      codes = (
        omega (arith, rows_length P K names lines short fits.small_frames there.counts 0 K.codes, few_codes),
        rows_formed P K names lines short fits.small_frames there.counts 0 0 K.codes rows.1 there.codes,
      );
      pools = (
        omega (arith, length-map (kernel_pools K) pool_code, pools, light),
        pools_formed K (kernel_pools K) few_codes (rows_fit K p g ok plans.lawful plans.firsts plans.counts few),
      );
      places = (omega (arith, few_positions P K, light), places);
      code = (omega (arith, size, short), whole_code lines (operands_in_range P K ok fits));
    }
