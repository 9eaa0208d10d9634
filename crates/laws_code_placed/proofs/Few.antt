-- The code of a kernel is short, and its positions and labels are few.
use Rattle.std.proofs.Common.{[], ◌∷◌, arith}
use Rattle.ceu_base.specs.declared.kinds.Pos.{Pos}
use Rattle.ceu_tree.specs.Weight.{stmt_weight}
use Rattle.ceu_code.specs.declared.instr.Instr.TheVariants as instr
use Rattle.ceu_shape.specs.Pieces.{numbered}
use Rattle.ceu_shape.specs.Words.{plain}
use Rattle.ceu_shape.specs.Shape.{parts_draft, first_fresh, kernel_piece, shape_positions, shape_lines}
use Rattle.ceu_shape.proofs.Adding.{placed_length}
use Rattle.laws_code_placed.specs.Sizes.{CodeIsShort, CodeIsWhole, PositionsAreFew, NodesAreFew, PoolsAreFew, LabelsAreFew, PositionsAreListed, BlocksAreLight, StatementsAreLight, CodesAreLight}
use Rattle.laws_code_placed.proofs.Counted.{kernel_count, kernel_counts}
use Rattle.laws_code_placed.proofs.Listed.{all_listed}
use Rattle.laws_code_placed.proofs.LightParts.{whole_light, parts_light, block_light, body_light, kernel_light}
use Rattle.laws_code_placed.proofs.Whole.{mark_named}

pub short_code : CodeIsShort
unfolding shape_lines kernel_piece
short_code P K = let h = (kernel_light P K (numbered (shape_positions P K)) (first_fresh K)).bytes_few in omega (arith, h)

pub whole_code : CodeIsWhole
whole_code P K ok few = record { marked = mark_named P K ok; fits = omega (arith, short_code P K, few) }

pub few_positions : PositionsAreFew
unfolding shape_positions kernel_piece
few_positions P K =
    let h = (kernel_light P K (λ (p : Pos). 0) (first_fresh K)).places_few in
    omega (arith, h, placed_length (kernel_piece P K).noted [])

pub few_nodes : NodesAreFew
few_nodes K = kernel_count K

pub few_pools : PoolsAreFew
few_pools K = (kernel_counts K).pools

pub few_labels : LabelsAreFew
unfolding kernel_piece
few_labels P K =
    let h = (kernel_light P K (λ (p : Pos). 0) (first_fresh K)).labels_few in
    omega (arith, h, kernel_count K)

pub listed_positions : PositionsAreListed
unfolding shape_positions
listed_positions P K = all_listed (kernel_piece P K).noted []

-- ---- parts

pub light_blocks : BlocksAreLight
light_blocks P K b fresh number =
    let h = block_light P K number b fresh in
    let bytes = h.bytes_few in
    let labels = h.labels_few in
    record { bytes = omega (arith, bytes); labels = omega (arith, labels); positions = h.places_few }

pub light_statements : StatementsAreLight
light_statements P K n p s fresh number =
    let h = whole_light P K number n p s (parts_draft P K s) (stmt_weight s) (λ begin f. parts_light P K number s begin f) fresh in
    let bytes = h.bytes_few in
    let labels = h.labels_few in
    record { bytes = omega (arith, bytes); labels = omega (arith, labels); positions = h.places_few }

pub light_codes : CodesAreLight
light_codes P K c fresh number =
    let h = body_light P K number c.body c.result (plain instr.Return ∷ []) (omega arith) fresh in
    let bytes = h.bytes_few in
    let labels = h.labels_few in
    let positions = h.places_few in
    record { bytes = omega (arith, bytes); labels = omega (arith, labels); positions = omega (arith, positions) }
