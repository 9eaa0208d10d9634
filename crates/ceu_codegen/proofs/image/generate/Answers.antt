use Rattle.std.proofs.Common.{◌≡◌, sym, ap, subst, ◌∙◌, ℕ, ◌≤◌, List, length, map, arith}
use Rattle.std.specs.List.{AllByRecursion}
use Rattle.std.proofs.lemmas.List.{length-map}
use Rattle.ceu_tree.specs.Numbering.{block_nodes, codes_nodes}
use Rattle.ceu_asm.specs.declared.line.Line.{Line}
use Rattle.ceu_asm.specs.Lines.{IsWhole}
use Rattle.ceu_slots.specs.Plans.{Planned, Lawful}
use Rattle.ceu_shape.specs.Plans.{Plan}
use Rattle.ceu_shape.specs.Searches.{kernel_pools}
use Rattle.ceu_shape.specs.Shape.{shape_lines}
use Rattle.laws_code_placed.proofs.Few.{whole_code}
use Rattle.ceu_codegen.specs.declared.pools.Pool.{Pool}
use Rattle.ceu_codegen.specs.Conditions.{planned}
use Rattle.ceu_codegen.specs.Images.{CodesMarked}
use Rattle.ceu_codegen.specs.Pools.{as_pool}
use Rattle.ceu_codegen.proofs.Counts.{few_nodes, few_codes, few_pools}
use Rattle.ceu_codegen.proofs.Each.{are_append}
use Rattle.ceu_codegen.proofs.Imaged.{node_marked, codes_marked, codes_small}
use Rattle.ceu_codegen.proofs.Whole.{all_nodes, rows_fit, kernel_fits}
use Rattle.ceu_codegen.proofs.image.generate.Goals as goal

pub lower_kernel-requires-clause-ready : goal.lower_kernel-requires-clause-ready
lower_kernel-requires-clause-ready g c =
    let p : Planned = g.P.Places.planned c.args.places.now in
    let K = c.args.kernel.now in
    let law : Lawful p K = g.met.P.Places.lawful c.args.places.now K c.requires.fits in
    let rows : c.deref.result.now ≡ map as_pool (kernel_pools K) = c.deref.ensures.value ∙ c.in_ok-pools.ensures in
    let count : length c.deref.result.now ≡ length (kernel_pools K) = ap (length {A = Pool}) rows ∙ length-map (kernel_pools K) as_pool in
    record {
      weight = c.requires.weight;
      few_slots = law.few_slots;
      few_nodes = omega (arith, c.requires.first.one_each, few_nodes K c.requires.weight);
      all_nodes = c.requires.first.one_each;
      counted = c.requires.count.one_each ∙ sym c.requires.first.one_each;
      few_pools = omega (arith, count, few_pools K c.requires.weight);
      pools = rows;
    }

pub lower_kernel-requires-clause-fits : goal.lower_kernel-requires-clause-fits
lower_kernel-requires-clause-fits g c =
    let p : Planned = g.P.Places.planned c.args.places.now in
    let K = c.args.kernel.now in
    let law : Lawful p K = g.met.P.Places.lawful c.args.places.now K c.requires.fits in
    kernel_fits K p c.args.gates.now c.requires.proper law c.requires.first c.requires.count c.requires.gates

pub image_of-requires-clause-few : goal.image_of-requires-clause-few
image_of-requires-clause-few g c =
    let K = c.args.kernel.now in
    few_codes K c.requires.weight

pub image_of-requires-clause-codes : goal.image_of-requires-clause-codes
image_of-requires-clause-codes g c =
    let p : Planned = g.P.Places.planned c.args.places.now in
    let plan : Plan = planned p c.args.gates.now in
    let K = c.args.kernel.now in
    let law : Lawful p K = g.met.P.Places.lawful c.args.places.now K c.requires.fits in
    let nodes = length c.args.gates.now.first in
    let counted : length c.args.gates.now.count ≡ nodes = c.requires.count.one_each ∙ sym c.requires.first.one_each in
    let low = (are_append nodes (block_nodes K.body) (codes_nodes K.codes) (all_nodes K p c.args.gates.now c.requires.proper law c.requires.first c.requires.count c.requires.gates)).1 in
    let whole : IsWhole (shape_lines plan K) = whole_code plan K c.requires.proper c.requires.weight in
    let few : nodes ≤ 65535 = omega (arith, c.requires.first.one_each, few_nodes K c.requires.weight) in
    let all : CodesMarked (shape_lines plan K) nodes K.codes =
    codes_marked (shape_lines plan K) nodes K.codes few whole.fits (λ node h. node_marked plan K c.requires.proper node (omega (arith, h, c.requires.first.one_each))) low in
    let a = subst (λ (ls : List Line). CodesMarked ls nodes K.codes) (sym c.in_ok-sheet.ensures.lines) all in
    subst (λ (n : ℕ). CodesMarked c.in_ok-sheet.sheet.lines n K.codes) (sym counted) a

pub image_of-requires-clause-small : goal.image_of-requires-clause-small
image_of-requires-clause-small g c =
    let p : Planned = g.P.Places.planned c.args.places.now in
    let K = c.args.kernel.now in
    let law : Lawful p K = g.met.P.Places.lawful c.args.places.now K c.requires.fits in
    let rows : c.deref-2.result.now ≡ map as_pool (kernel_pools K) = c.deref-2.ensures.value ∙ c.in_ok-pools.ensures in
    subst (λ (ps : List Pool). AllByRecursion (λ (pool : Pool). pool.code ≤ 65535) ps) (sym rows)
    (codes_small K (kernel_pools K) (few_codes K c.requires.weight) (rows_fit K p c.args.gates.now c.requires.proper law c.requires.first c.requires.count c.requires.gates))

pub image_of-requires-clause-whole : goal.image_of-requires-clause-whole
image_of-requires-clause-whole g c =
    let plan : Plan = planned (g.P.Places.planned c.args.places.now) c.args.gates.now in
    subst (λ (ls : List Line). IsWhole ls) (sym c.in_ok-sheet.ensures.lines) (whole_code plan c.args.kernel.now c.requires.proper c.requires.weight)

pub image_of-requires-clause-pools : goal.image_of-requires-clause-pools
image_of-requires-clause-pools g c = c.deref-2.ensures.value ∙ c.in_ok-pools.ensures
