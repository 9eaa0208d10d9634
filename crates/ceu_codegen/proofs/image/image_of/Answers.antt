use Rattle.std.proofs.Common.{ap, ◌∙◌, List, map}
use Rattle.ceu_tree.specs.declared.kernel.KCode.{KCode}
use Rattle.ceu_tree.specs.Depth.{depth}
use Rattle.ceu_tree.specs.Needs.{gates}
use Rattle.ceu_asm.specs.declared.line.Line.{Line}
use Rattle.ceu_asm.specs.Lines.{assembled}
use Rattle.ceu_shape.specs.Plans.{Plan}
use Rattle.ceu_shape.specs.Searches.{kernel_pools}
use Rattle.ceu_shape.specs.Shape.{shape_lines, code_rows}
use Rattle.ceu_codegen.specs.declared.pools.Pool.{Pool}
use Rattle.ceu_codegen.specs.Conditions.{planned}
use Rattle.ceu_codegen.proofs.Imaged.{cut_small, codes_are, image_done}
use Rattle.ceu_codegen.proofs.image.image_of.Goals as goal

pub returns : goal.returns
returns g c =
    let plan : Plan = planned (g.P.Places.planned c.args.places.now) c.args.gates.now in
    let K = c.args.kernel.now in
    let codes = c.in_ok-code_rows.ensures ∙ ap (λ (ls : List Line). code_rows plan ls 0 c.items.result.now) c.requires.lines ∙ ap (λ (cs : List KCode). code_rows plan (shape_lines plan K) 0 cs) c.items.ensures in
    let pools = c.in_ok-pool_codes.ensures ∙ ap (λ (ps : List Pool). map (λ (pool : Pool). pool.code) ps) c.requires.pools ∙ codes_are (kernel_pools K) in
    let places = c.in_ok-copy_places.ensures ∙ c.items-2.ensures ∙ c.places.ensures ∙ c.requires.places in
    let code = c.in_ok-assemble.ensures.bytes ∙ ap (λ (ls : List Line). assembled ls) c.requires.lines in
    image_done plan K c.args.bounds.now.turns c.args.bounds.now.levels c.depth.result c.in_ok-gate_need.field-0 c.total.result c.in_ok-copy_ports.field-0 c.in_ok-copy_ports-2.field-0 c.in_ok-code_rows.field-0
    c.in_ok-pool_codes.field-0 c.in_ok-copy_places.field-0 c.in_ok-assemble.field-0 (c.depth.ensures ∙ cut_small (depth K) c.requires.depth) (c.in_ok-gate_need.ensures ∙ cut_small (gates K) c.requires.gates) c.total.ensures
    c.in_ok-copy_ports.ensures c.in_ok-copy_ports-2.ensures codes pools places code
