-- The image of a program of one trail has each position that the lines of a reached statement name.
use Rattle.std.proofs.Common.{◌≡◌, refl, sym, ap, ◌∙◌, subst, ℕ, List, Some}
use Rattle.std.specs.Prelude.{slice_get}
use Rattle.std.specs.List.{AllByRecursion}
use Rattle.ceu_base.specs.declared.kinds.Pos.{Pos}
use Rattle.ceu_code.specs.declared.image.Image.{Image}
use Rattle.ceu_tree.specs.declared.kernel.Kernel.{Kernel}
use Rattle.ceu_shape.specs.Plans.{Plan}
use Rattle.ceu_shape.specs.Shape.{labels_of, kernel_piece, shape_positions, shape}
use Rattle.laws_code_placed.proofs.Few.{listed_positions}
use Rattle.ceu_trail.specs.Built.{number}
use Rattle.ceu_trail.specs.Compiled.{Compiled}
use Rattle.ceu_steps.specs.Premises.{PositionsArePlaced}
use Rattle.ceu_positions.proofs.Listed.{Listed, layer_placed}
use Rattle.ceu_positions.proofs.Parts.{apart, part_noted}

-- the image's list is that of the lines
places_are : (P : Plan) (K : Kernel) (turns levels : ℕ) → shape_positions P K ≡ (shape P K turns levels).places
unfolding shape
places_are P K turns levels = refl

image_listed : (image : Image) (P : Plan) (width : ℕ → ℕ) (K : Kernel) → Compiled image P width K → Listed image (number image P K) (kernel_piece P K)
image_listed image P width K c =
    let is = ap (λ (i : Image). i.places) c.shaped.3 in
    subst (λ (ps : List Pos). AllByRecursion (λ (p : Pos). slice_get ps (number image P K p) ≡ Some p) (kernel_piece P K).noted) (places_are P K c.shaped.0 c.shaped.1 ∙ sym is) (listed_positions P K)

pub positions_are_placed : PositionsArePlaced
positions_are_placed image P width K outer sc s c x =
    let y = apart image (number image P K) P K s (part_noted image (number image P K) P K x (image_listed image P width K c)) in
    layer_placed image (number image P K) P K s.node s.pos s.stmt (labels_of y.begin s.node s.stmt) y.fresh y.begin y.next y.own y.parts
